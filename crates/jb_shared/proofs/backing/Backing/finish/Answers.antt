use Rattle.std.proofs.Common.{ℕ, ◌≤◌, List, length, map, ap, subst, sym, ◌∙◌}
use Rattle.jb_area.specs.Area.{HasDoubt, packs_of}
use Rattle.jb_area.specs.Calls.{HasRest}
use Rattle.jb_limits.specs.declared.limits.TheConstants.{MOST_SLOTS}
use Rattle.jb_state.specs.Live.{live_count}
use Rattle.jb_state.specs.State.{slot_state}
use Rattle.jb_state.specs.declared.loaded.Loaded.{Loaded}
use Rattle.jb_state.specs.declared.loaded.LoadedSlot.{LoadedSlot}
use Rattle.jb_shared.specs.Backing.{IsRenewed}
use Rattle.jb_shared.proofs.BackingLemmas.{front_renewed, no_other, slots_few}
use Rattle.jb_shared.proofs.backing.Backing.finish.Goals as goal

pub count_live-live-requires : goal.count_live-live-requires
count_live-live-requires g c =
    subst (λ (l : List LoadedSlot). length l ≤ MOST_SLOTS) (sym (c.as_slice.ensures ∙ ap (λ (l : Loaded). l.slots) c.loaded.ensures))
    (slots_few g.D.Disk.device c.args.area.now (no_other (HasRest g.D.Disk.device c.args.area.now) (HasDoubt g.D.Disk.device c.args.area.now) c.requires.stands c.if-in_doubt.ensures.doubt))

pub finish-requires-clause-front : goal.finish-requires-clause-front
finish-requires-clause-front g c = λ files there.
    let rest = no_other (HasRest g.D.Disk.device c.args.area.now) (HasDoubt g.D.Disk.device c.args.area.now) c.requires.stands c.if-in_doubt.ensures.doubt in
    front_renewed c.args.self.now (packs_of c.args.area.now) c.renew.new.self.copier files (g.E.Disk.device c.args.onto.now).contents (c.requires.front rest files there)
    (subst (λ (n : ℕ). IsRenewed c.args.self.now n c.renew.new.self.copier) c.packs.ensures c.renew.ensures.renewed)

pub returns-clause-live : goal.returns-clause-live
returns-clause-live g c = λ rest texts.
    c.count_live-live.ensures texts ∙ ap (λ (l : List LoadedSlot). live_count (map (slot_state texts) l)) (c.as_slice.ensures ∙ ap (λ (l : Loaded). l.slots) c.loaded.ensures)
