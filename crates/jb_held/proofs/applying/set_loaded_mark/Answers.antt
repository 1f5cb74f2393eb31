use Rattle.std.proofs.Common.{List, ap, arith, subst, ◌∙◌}
use Rattle.jb_state.specs.Loaded.{with_marks}
use Rattle.jb_state.specs.declared.mark.Mark.{Mark}
use Rattle.jb_state.specs.Places.{IsPlaceOf}
use Rattle.jb_held.proofs.MarkLemmas.{ordered_first, ordered_last}
use Rattle.jb_held.proofs.applying.set_loaded_mark.Goals as goal
use Rattle.jb_state.proofs.MarkLaws.{marked_first, marked_last}

pub returns-in-Some-clause-loaded : goal.returns-in-Some-clause-loaded
returns-in-Some-clause-loaded c =
    ap (λ (m : List Mark). with_marks m c.args.loaded.now) c.set.ensures ∙ marked_first c.args.mark c.in-Some.place c.args.loaded.now
    (subst (IsPlaceOf c.args.mark.user_crc c.args.mark.user_id c.args.loaded.now.marks) c.in-Some.is c.requires.fits.0)

pub returns-in-Some-clause-index : goal.returns-in-Some-clause-index
returns-in-Some-clause-index c =
    ordered_first c.args.mark c.in-Some.place c.args.loaded.now.marks _ (subst (IsPlaceOf c.args.mark.user_crc c.args.mark.user_id c.args.loaded.now.marks) c.in-Some.is c.requires.fits.0) c.requires.index

pub add-requires-clause-none : goal.add-requires-clause-none
add-requires-clause-none c = rw c.as_slice.ensures (subst (IsPlaceOf c.args.mark.user_crc c.args.mark.user_id c.args.loaded.now.marks) c.in-None.is c.requires.fits.0)

pub add-requires-clause-few : goal.add-requires-clause-few
add-requires-clause-few c = rw c.as_slice.ensures (c.requires.fits.1 c.in-None.is)

pub add-requires-clause-room : goal.add-requires-clause-room
add-requires-clause-room c = rw c.as_slice.ensures (omega (arith, c.requires.fits.1 c.in-None.is))

pub returns-in-Ok-clause-loaded : goal.returns-in-Ok-clause-loaded
returns-in-Ok-clause-loaded c =
    ap (λ (m : List Mark). with_marks m c.args.loaded.now) c.in-Ok.ensures.ok ∙ marked_last c.args.mark c.args.loaded.now
    (subst (IsPlaceOf c.args.mark.user_crc c.args.mark.user_id c.args.loaded.now.marks) c.in-None.is c.requires.fits.0)

pub returns-in-Ok-clause-index : goal.returns-in-Ok-clause-index
returns-in-Ok-clause-index c =
    ordered_last c.args.mark c.args.loaded.now.marks _ (subst (IsPlaceOf c.args.mark.user_crc c.args.mark.user_id c.args.loaded.now.marks) c.in-None.is c.requires.fits.0)
    (rw c.as_slice.ensures at c.add.ensures.ordered)
