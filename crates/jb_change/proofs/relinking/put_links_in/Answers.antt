use Rattle.std.proofs.Common.{ℕ, List, [], ◌∙◌, get_or, ap, refl, subst, ◌-◌, arith}
use Rattle.jb_change.specs.Headers.{Updates}
use Rattle.jb_change.specs.Put.{IsInLinks}
use Rattle.jb_state.proofs.PlaceLaws.{named_at_place}
use Rattle.jb_state.specs.Linked.{with_links_of}
use Rattle.jb_state.specs.declared.loaded.Loaded.{Loaded}
use Rattle.jb_state.specs.declared.loaded.LoadedSlot.{LoadedSlot}
use Rattle.jb_change.proofs.LeavesLemmas.{leaves_header}
use Rattle.jb_change.proofs.PlanLemmas.{here_live, here_none, links_not_put, links_put}
use Rattle.jb_change.proofs.relinking.put_links_in.Goals as goal

pub returns-in-Live-clause-makes : goal.returns-in-Live-clause-makes
returns-in-Live-clause-makes c = λ before made.
    links_put c.args.redo.now c.put_links.new.redo c.args.loaded.now before c.args.links.now c.in-Live.message
    (here_live c.args.loaded.now c.args.links.now c.index-as_slice-place.result c.in-Live.message c.requires.placed (c.index-as_slice-place.is ∙ ap (λ (s : List LoadedSlot). get_or s (c.args.links.now.number - c.args.loaded.now.base) c.index-as_slice-place.result) c.as_slice.ensures) c.in-Live.is)
    c.put_links.ensures.makes c.put_links.ensures.header c.put_links.ensures.only made

pub returns-in-Live-clause-leaves : goal.returns-in-Live-clause-leaves
returns-in-Live-clause-leaves c = λ before made left.
    let from : Loaded = c.args.loaded.now in
    let place : ℕ = c.args.links.now.number - from.base in
    leaves_header c.args.redo.now c.put_links.new.redo 24 12 (omega arith) from (with_links_of before from) [] place c.in-Live.message (IsInLinks from)
    (named_at_place from c.args.links.now.number c.in-Live.message
    (here_live from c.args.links.now c.index-as_slice-place.result c.in-Live.message c.requires.placed (c.index-as_slice-place.is ∙ ap (λ (s : List LoadedSlot). get_or s place c.index-as_slice-place.result) c.as_slice.ensures) c.in-Live.is))
    c.put_links.ensures.only made (λ i own. (place, own)) left

pub returns-in_default : goal.returns-in_default
returns-in_default c = record {
  makes = λ before made. subst (λ (l : Loaded). Updates c.args.redo.now c.args.loaded.now l [])
      (links_not_put c.args.loaded.now before c.args.links.now (here_none c.args.loaded.now c.args.links.now c.index-as_slice-place.result c.requires.placed (c.index-as_slice-place.is ∙ ap (λ (s : List LoadedSlot). get_or s (c.args.links.now.number - c.args.loaded.now.base) c.index-as_slice-place.result) c.as_slice.ensures) c.in_default.not-Live)) made;
  leaves = λ before made left. left;
  lengths = refl;
  room = record { of_lengths = omega arith; of_pieces = omega arith; of_bytes = omega arith };
  kept = record { for_lengths = omega arith; for_pieces = omega arith; for_bytes = omega arith };
  size = omega arith;
}
