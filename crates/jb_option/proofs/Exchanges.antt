-- That only changes are answered, and that each exchange ends, by trying each.
use Rattle.std.proofs.Common.{◌≡◌, ℕ, ◌==◌, Bool, true, false, ◌&&◌, IsSome, Option, Some, None, option_map, if◌then◌else◌, refl, sym, ◌∙◌, ap}
use Rattle.std.proofs.lemmas.Bool.{and_parts}
use Rattle.jb_telnet.specs.declared.verb.Verb.{Verb}
use Rattle.jb_telnet.specs.declared.verb.Verb.TheVariants.{Will, Wont, Do, Dont}
use Rattle.jb_option.specs.declared.side.Side.{Side}
use Rattle.jb_option.specs.declared.side.Side.TheVariants.{Offered, On, Off}
use Rattle.jb_option.specs.declared.options.TheConstants.{ECHO, SUPPRESS_GO_AHEAD}
use Rattle.jb_option.specs.Table.{Sides, verb_answer, side_after, side_of, sides_heard, spelled}
use Rattle.jb_option.specs.Laws.{ends_within, AnswersOnlyChanges, AnswersNoRefusal, ExchangesEnd}

-- the test holds however an option stands
abbrev every_side : (Option Side → Bool) → Bool
every_side test = test None && test (Some Offered) && test (Some On) && test (Some Off)

at_side : (test : Option Side → Bool) → every_side test ≡ true → (side : Option Side) → test side ≡ true
at_side test every None = (and_parts _ _ ((and_parts _ _ ((and_parts _ _ every).0)).0)).0
at_side test every (Some Offered) = (and_parts _ _ ((and_parts _ _ ((and_parts _ _ every).0)).0)).1
at_side test every (Some On) = (and_parts _ _ ((and_parts _ _ every).0)).1
at_side test every (Some Off) = (and_parts _ _ every).1

-- and whatever is said, with both sides
abbrev on_both_sides : Verb → Bool
on_both_sides said = every_side (λ here. every_side (λ there. ends_within 3 said here there))

each_ends : (said : Verb) → on_both_sides said ≡ true
each_ends Will = refl
each_ends Wont = refl
each_ends Do = refl
each_ends Dont = refl

pub exchanges_end : ExchangesEnd
exchanges_end said here there =
    at_side (λ side. ends_within 3 said here side) (at_side (λ side. every_side (λ other. ends_within 3 said side other)) (each_ends said) here) there

-- what was set is read again, whichever option it is
board_side_heard : (echo quiet : Bool) (sides : Sides) (side : Side)
    → (let set = if echo then record sides { echo = side } else if quiet then record sides { quiet = side } else sides in
    (if echo then Some set.echo else if quiet then Some set.quiet else None) ≡ option_map (λ _. side) (if echo then Some sides.echo else if quiet then Some sides.quiet else None))
board_side_heard true quiet sides side = refl
board_side_heard false true sides side = refl
board_side_heard false false sides side = refl

caller_side_heard : (quiet : Bool) (sides : Sides) (side : Side)
    → (let set = if quiet then record sides { caller = side } else sides in
    (if quiet then Some set.caller else None) ≡ option_map (λ _. side) (if quiet then Some sides.caller else None))
caller_side_heard true sides side = refl
caller_side_heard false sides side = refl

side_heard : (sides : Sides) (said : Verb) (option : ℕ) → side_of (sides_heard sides said option) said option ≡ option_map (λ _. side_after said) (side_of sides said option)
side_heard sides Do option = board_side_heard (option == ECHO) (option == SUPPRESS_GO_AHEAD) sides On
side_heard sides Dont option = board_side_heard (option == ECHO) (option == SUPPRESS_GO_AHEAD) sides Off
side_heard sides Will option = caller_side_heard (option == SUPPRESS_GO_AHEAD) sides On
side_heard sides Wont option = caller_side_heard (option == SUPPRESS_GO_AHEAD) sides Off

unchanged_side : (sides : Sides) (said : Verb) (option : ℕ) → sides_heard sides said option ≡ sides → side_of sides said option ≡ option_map (λ _. side_after said) (side_of sides said option)
unchanged_side sides said option same = ap (λ w. side_of w said option) (sym same) ∙ side_heard sides said option

-- an option that stands as was said is not spoken of again
silent_known : (said : Verb) (side : Option Side) → IsSome side → side ≡ option_map (λ _. side_after said) side → verb_answer said side ≡ None
silent_known Do None some is = cc
silent_known Do (Some Off) some is = cc
silent_known Dont (Some On) some is = cc
silent_known Will None some is = cc
silent_known Will (Some Off) some is = cc
silent_known Wont (Some On) some is = cc
silent_known _ _ some is = refl

silent_refused : (said : Verb) (side : Option Side) → side_after said ≡ Off → side ≡ option_map (λ _. side_after said) side → verb_answer said side ≡ None
silent_refused Do side off is = cc
silent_refused Will side off is = cc
silent_refused Dont (Some On) off is = cc
silent_refused Wont (Some On) off is = cc
silent_refused _ _ off is = refl

pub answers_only_changes : AnswersOnlyChanges
answers_only_changes sides said option some same =
    ap (λ w. spelled w option) (silent_known said (side_of sides said option) some (unchanged_side sides said option same))

pub answers_no_refusal : AnswersNoRefusal
answers_no_refusal sides said option off same =
    ap (λ w. spelled w option) (silent_refused said (side_of sides said option) off (unchanged_side sides said option same))
