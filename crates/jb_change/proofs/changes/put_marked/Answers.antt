use Rattle.std.proofs.Common.{[], ℕ, length, Option, Some, None, ap, subst, sym}
use Rattle.jb_state.specs.Places.{IsPlaceOf}
use Rattle.jb_state.specs.declared.change.Change.TheVariants.{Marked}
use Rattle.jb_state.specs.declared.loaded.Loaded.{Loaded}
use Rattle.jb_state.specs.declared.mark.Mark.{Mark}
use Rattle.jb_change.specs.Headers.{Updates}
use Rattle.jb_change.specs.Put.{IsInMark, LeavesRest}
use Rattle.jb_change.proofs.LeavesLemmas.{leaves_behind, leaves_mark, leaves_nothing, leaves_rest}
use Rattle.jb_change.proofs.UpdateLemmas.{updates_cleared, updates_mark, updates_new_mark}
use Rattle.jb_change.proofs.changes.put_marked.Goals as goal
use Rattle.jb_state.proofs.MarkLaws.{marked_first, marked_last}

pub returns-in-Some-clause-makes : goal.returns-in-Some-clause-makes
returns-in-Some-clause-makes c =
    let from : Loaded = c.args.loaded.now in
    let mark : Mark = c.args.mark.now in
    let first : IsPlaceOf mark.user_crc mark.user_id from.marks (Some c.in-Some.place) = subst (IsPlaceOf mark.user_crc mark.user_id from.marks) c.in-Some.is c.requires.placed in
    subst (λ (l : Loaded). Updates c.put_mark.new.redo from l []) (marked_first mark c.in-Some.place from first)
    (updates_mark c.args.redo.now c.put_mark.new.redo c.in-Some.place mark c.put_mark.ensures.makes c.put_mark.ensures.only from from [] (updates_cleared c.args.redo.now from c.requires.cleared) first.within)

pub returns-in-None-clause-makes : goal.returns-in-None-clause-makes
returns-in-None-clause-makes c =
    let from : Loaded = c.args.loaded.now in
    let mark : Mark = c.args.mark.now in
    let none : IsPlaceOf mark.user_crc mark.user_id from.marks None = subst (IsPlaceOf mark.user_crc mark.user_id from.marks) c.in-None.is c.requires.placed in
    subst (λ (l : Loaded). Updates c.put_new_mark.new.redo from l []) (marked_last mark from none)
    (updates_new_mark c.put_new_mark.new.redo from _ (c.put_new_mark.ensures.appends from (ap length (sym c.as_slice.ensures))) (c.put_new_mark.ensures.makes from (ap length (sym c.as_slice.ensures))))

pub returns-in-Some-clause-leaves : goal.returns-in-Some-clause-leaves
returns-in-Some-clause-leaves c =
    let from : Loaded = c.args.loaded.now in
    let mark : Mark = c.args.mark.now in
    let place : ℕ = c.in-Some.place in
    let first : IsPlaceOf mark.user_crc mark.user_id from.marks (Some place) = subst (IsPlaceOf mark.user_crc mark.user_id from.marks) c.in-Some.is c.requires.placed in
    subst (λ (p : Option ℕ). LeavesRest c.put_mark.new.redo from (Marked p mark)) (sym c.in-Some.is)
    (leaves_rest c.put_mark.new.redo from (Marked (Some place) mark) [] (returns-in-Some-clause-makes c)
    (leaves_mark c.args.redo.now c.put_mark.new.redo place from from [] first.within c.put_mark.ensures.only (updates_cleared c.args.redo.now from c.requires.cleared)
    (leaves_nothing c.args.redo.now from (IsInMark (Some place)) c.requires.cleared.no_lengths c.requires.cleared.no_pieces)))

pub returns-in-None-clause-leaves : goal.returns-in-None-clause-leaves
returns-in-None-clause-leaves c =
    let from : Loaded = c.args.loaded.now in
    leaves_rest c.put_new_mark.new.redo from (Marked c.args.place c.args.mark.now) [] (returns-in-None-clause-makes c)
    (leaves_behind c.put_new_mark.new.redo from (IsInMark c.args.place) (c.put_new_mark.ensures.appends from (ap length (sym c.as_slice.ensures))))
