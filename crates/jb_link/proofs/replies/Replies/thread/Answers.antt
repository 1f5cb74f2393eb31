use Rattle.std.proofs.Common.{◌≡◌, ◌<◌, ◌≤◌, ◌+◌, ◌-◌, [], length, ap, sym, ◌∙◌, arith}
use Rattle.std.proofs.lemmas.Grind.{get_or_default_zero}
use Rattle.jb_state.specs.Links.{thread_root}
use Rattle.jb_state.specs.LiveSlots.{linkables, linkables_from}
use Rattle.jb_link.specs.Thread.{thread_from, thread_of}
use Rattle.jb_link.proofs.FoundLemmas.{live_below_end, live_from_base}
use Rattle.jb_link.proofs.LiveLemmas.{linkables_with_texts}
use Rattle.jb_link.proofs.ThreadLemmas.{root_read}
use Rattle.jb_link.proofs.replies.Replies.thread.Goals as goal

pub returns : goal.returns
returns c = λ texts.
    let from : c.args.loaded.now.base ≤ c.args.number = live_from_base c.args.loaded.now c.args.number c.requires.live in
    let to : c.args.number < c.args.loaded.now.base + length c.args.loaded.now.slots = live_below_end c.args.loaded.now c.args.number c.requires.live in
    let place : c.args.number - c.args.loaded.now.base < length c.in_ok-roots.roots.items = omega (arith, from, to, c.in_ok-roots.ensures.len) in
    let root : c.index-root.result.now ≡ thread_root (linkables [] c.args.loaded.now) c.args.number
    = c.index-root.ensures ∙ get_or_default_zero c.in_ok-roots.roots.items (c.args.number - c.args.loaded.now.base) _ place
    ∙ root_read (linkables [] c.args.loaded.now) c.args.loaded.now.base (length c.args.loaded.now.slots) c.args.number c.in_ok-roots.roots.items from to c.in_ok-roots.ensures in
    c.from.ensures ∙ c.in_ok-numbers.ensures
    ∙ ap (λ slots. thread_from (linkables_from c.args.loaded.now.base slots) c.index-root.result.now) c.as_slice-slots.ensures
    ∙ ap (thread_from (linkables [] c.args.loaded.now)) root
    ∙ ap (λ live. thread_of live c.args.number) (sym (linkables_with_texts texts c.args.loaded.now.base c.args.loaded.now.slots))
