-- The ways through the setting of a mark.
use Rattle.std.proofs.Common.{◌≡◌, subst, ◌⊎◌, inl, inr, ℕ, suc, ◌+◌, ◌<◌, ◌≤◌, Bool, true, false, cond, nat_le, ◌&&◌, List, [], ◌∷◌, length, leb-false, Option, Some, None, refl, sym, ◌∙◌, ap, arith}
use Rattle.std.specs.Prelude.{IsSome, is_none, is_some}
use Rattle.std.proofs.lemmas.List.{length-map}
use Rattle.jb_bytes.specs.Crc.{jam_crc_of}
use Rattle.jb_base.specs.Access.{first_refusal}
use Rattle.jb_base.specs.declared.area.Action.TheVariants.{List as Listing}
use Rattle.jb_base.specs.declared.area.AreaRules.{AreaRules}
use Rattle.jb_limits.specs.declared.limits.TheConstants.{MOST_MARKS}
use Rattle.jb_base.specs.declared.user.User.{User}
use Rattle.jb_model.specs.Answered.{Answered, unless_refused}
use Rattle.jb_state.specs.Loaded.{with_marks}
use Rattle.jb_state.specs.Marks.{is_mark, mark_of, with_mark}
use Rattle.jb_model.specs.SetMark.{mark_at, mark_done, mark_refusal, set_mark_step}
use Rattle.jb_state.specs.Sound.{IsSound}
use Rattle.jb_state.specs.State.{AreaState, slot_state, state_of}
use Rattle.jb_model.specs.declared.command.Command.TheVariants.{SetMark}
use Rattle.jb_state.specs.declared.loaded.Loaded.{Loaded}
use Rattle.jb_state.specs.declared.mark.Mark.{Mark}
use Rattle.jb_model.specs.declared.reply.Reply.TheVariants.{Marked, MarksFull, NoMessage}
use Rattle.jb_decide.specs.StepOf.{IsStepOf}
use Rattle.jb_decide.proofs.StepLemmas.{something}
use Rattle.jb_marks.proofs.MarkLemmas.{mark_of-none}
use Rattle.jb_state.specs.Places.{HasNone, IsPlaceOf}
use Rattle.jb_state.specs.declared.change.Change.TheVariants.{Marked as MarkedAt}
use Rattle.jb_decide.specs.SetMark.{present_mark, raised, set_refusal}
use Rattle.jb_decide.proofs.StateLemmas.{accepted_way, allowed_way, answer}

-- the refusal over the state is that over the loaded area
refusal_of_state : (texts : List ℕ) (loaded : Loaded) (user : User) (number : ℕ)
    → mark_refusal (state_of texts loaded) user number ≡ set_refusal loaded (present_mark loaded user) number
refusal_of_state texts loaded user number =
    ap (λ count. cond (nat_le (loaded.base + count) number) (Some (NoMessage number))
    (cond (is_none (present_mark loaded user) && nat_le MOST_MARKS (length loaded.marks)) (Some (MarksFull MOST_MARKS)) None))
    (length-map loaded.slots (slot_state texts))

-- what follows the first rule
abbrev mark_rest : AreaState → User → ℕ → Answered
mark_rest state user number = unless_refused state (mark_refusal state user number) (mark_done state (mark_at state user number))

-- the mark is set
pub mark_way : (texts : List ℕ) (rules : AreaRules) (loaded : Loaded) (user : User) (number : ℕ) (mark : Mark) → first_refusal user rules Listing None ≡ None
    → set_refusal loaded (present_mark loaded user) number ≡ None → mark ≡ raised (present_mark loaded user) user number
    → set_mark_step rules (state_of texts loaded) user number
    ≡ answer (Marked mark.last mark.high) (state_of texts (with_marks (with_mark mark loaded.marks) loaded))
mark_way texts rules loaded user number mark listed accepted made =
    allowed_way (state_of texts loaded) (first_refusal user rules Listing None) (mark_rest (state_of texts loaded) user number) listed
    ∙ accepted_way (state_of texts loaded) (mark_refusal (state_of texts loaded) user number)
    (mark_done (state_of texts loaded) (mark_at (state_of texts loaded) user number)) (refusal_of_state texts loaded user number ∙ accepted)
    ∙ ap (mark_done (state_of texts loaded)) (sym made)

-- there is room for the mark
pub mark_has_room : (loaded : Loaded) (present : Option Mark) (number : ℕ) → set_refusal loaded present number ≡ None
    → (is_some present ≡ true) ⊎ (length loaded.marks < MOST_MARKS)
mark_has_room loaded present number accepted =
    by_tests (nat_le (loaded.base + length loaded.slots) number) present (nat_le MOST_MARKS (length loaded.marks)) refl accepted
  where
    by_tests : (past : Bool) (present : Option Mark) (full : Bool) → nat_le MOST_MARKS (length loaded.marks) ≡ full
        → cond past (Some (NoMessage number)) (cond (is_none present && full) (Some (MarksFull MOST_MARKS)) None) ≡ None
        → (is_some present ≡ true) ⊎ (length loaded.marks < MOST_MARKS)
    by_tests true present full is h = absurd (cc)
    by_tests false (Some mark) full is h = inl refl
    by_tests false None true is h = absurd (cc)
    by_tests false None false is h = inr (leb-false MOST_MARKS (length loaded.marks) is)

-- as many marks, or one more where the pair had none
length-with_mark : (mark : Mark) (marks : List Mark)
    → length (with_mark mark marks) ≡ cond (is_none (mark_of mark.user_crc mark.user_id marks)) (suc (length marks)) (length marks)
length-with_mark mark [] = refl
length-with_mark mark (first ∷ marks) =
    by_pair (is_mark mark.user_crc mark.user_id first) (mark_of mark.user_crc mark.user_id marks) (length-with_mark mark marks)
  where
    by_pair : (same : Bool) (found : Option Mark) → length (with_mark mark marks) ≡ cond (is_none found) (suc (length marks)) (length marks)
        → length (cond same (mark ∷ marks) (first ∷ with_mark mark marks)) ≡ cond (is_none (cond same (Some first) found)) (suc (suc (length marks))) (suc (length marks))
    by_pair true found h = refl
    by_pair false None h = ap suc h
    by_pair false (Some other) h = ap suc h

-- the area stays sound
pub mark_keeps_sound : (limit : ℕ) (loaded : Loaded) (user : User) (number : ℕ) (mark : Mark) → mark ≡ raised (present_mark loaded user) user number
    → (is_some (present_mark loaded user) ≡ true) ⊎ (length loaded.marks < MOST_MARKS) → IsSound limit loaded
    → IsSound limit (with_marks (with_mark mark loaded.marks) loaded)
mark_keeps_sound limit loaded user number mark made room sound = record {
  fixed = sound.fixed;
  base = sound.base;
  numbers = sound.numbers;
  few_slots = sound.few_slots;
  few_marks = few (present_mark loaded user) (length-with_mark mark loaded.marks ∙ ap (λ m. cond (is_none (mark_of m.user_crc m.user_id loaded.marks)) (suc (length loaded.marks)) (length loaded.marks)) made) room;
  within = sound.within;
  apart = sound.apart;
}
  where
    few : (present : Option Mark) → length (with_mark mark loaded.marks) ≡ cond (is_none present) (suc (length loaded.marks)) (length loaded.marks)
        → (is_some present ≡ true) ⊎ (length loaded.marks < MOST_MARKS) → length (with_mark mark loaded.marks) ≤ MOST_MARKS
    few (Some one) h room = omega (arith, sound.few_marks)
    few None h (inl impossible) = absurd (cc)
    few None h (inr below) = omega arith

-- where the user has no mark, there is room for one
mark_room : (crc id : ℕ) (marks : List Mark) (place : Option ℕ) → IsPlaceOf crc id marks place → IsSome (mark_of crc id marks) ⊎ (length marks < MOST_MARKS)
    → place ≡ None → length marks < MOST_MARKS
mark_room crc id marks place is (inr room) none = room
mark_room crc id marks place is (inl some) none =
    let has : HasNone crc id marks = subst (IsPlaceOf crc id marks) none is in
    absurd (not_some (subst IsSome (mark_of-none crc id marks has) some))
  where
    not_some : IsSome {T = Mark} None → ⊥
    not_some some = cc

-- the setting of a mark that nothing refuses
pub marking_is : (rules : AreaRules) (loaded : Loaded) (user : User) (moment number : ℕ) (place : Option ℕ) (mark : Mark)
    → first_refusal user rules Listing None ≡ None → set_refusal loaded (present_mark loaded user) number ≡ None → mark ≡ raised (present_mark loaded user) user number
    → IsPlaceOf (jam_crc_of user.name) user.id loaded.marks place → IsSound rules.slots loaded
    → IsStepOf rules loaded user moment (SetMark number) (λ texts. Marked mark.last mark.high) (MarkedAt place mark)
marking_is rules loaded user moment number place mark listed accepted made placed sound =
    let room = mark_has_room loaded (present_mark loaded user) number accepted in
    let crc : mark.user_crc ≡ jam_crc_of user.name = ap (λ (m : Mark). m.user_crc) made in
    let id : mark.user_id ≡ user.id = ap (λ (m : Mark). m.user_id) made in
    record {
      step = λ texts sized. mark_way texts rules loaded user number mark listed accepted made;
      fits = (
        subst (λ (n : ℕ). IsPlaceOf n mark.user_id loaded.marks place) (sym crc) (subst (λ (n : ℕ). IsPlaceOf (jam_crc_of user.name) n loaded.marks place) (sym id) placed),
        mark_room (jam_crc_of user.name) user.id loaded.marks place placed room,
      );
      sound = mark_keeps_sound rules.slots loaded user number mark made room sound;
      kind = tt;
      text = refl;
      idle = λ texts nothing. absurd (something (SetMark number) (Marked mark.last mark.high) refl (λ look. look) (λ links. cc) nothing);
      told = λ texts. tt;
      named = λ texts. tt;
    }
