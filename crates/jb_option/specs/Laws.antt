-- That an exchange of answers ends.
use Rattle.std.specs.Prelude.{◌≡◌, ℕ, zero, suc, Bool, true, IsTrue, IsSome, [], Option, is_none}
use Rattle.std.specs.Option.{option_map, option_map_or}
use Rattle.jb_telnet.specs.declared.verb.Verb.{Verb}
use Rattle.jb_option.specs.declared.side.Side.{Side}
use Rattle.jb_option.specs.declared.side.Side.TheVariants.{Off}
use Rattle.jb_option.specs.Table.{Sides, verb_answer, side_after, side_of, sides_heard, answer_heard}

-- where the board has the option, what leaves the options as they stand is not answered
abbrev pub AnswersOnlyChanges : Type 0
AnswersOnlyChanges = (sides : Sides) (said : Verb) (option : ℕ) → IsSome (side_of sides said option)
    → sides_heard sides said option ≡ sides → answer_heard sides said option ≡ []

-- a refusal that leaves the options as they stand is not answered, whatever the option
abbrev pub AnswersNoRefusal : Type 0
AnswersNoRefusal = (sides : Sides) (said : Verb) (option : ℕ) → side_after said ≡ Off
    → sides_heard sides said option ≡ sides → answer_heard sides said option ≡ []

-- where two sides answer each other by the table, at most so many answers follow what the first is told
abbrev pub ends_within : ℕ → Verb → Option Side → Option Side → Bool
ends_within zero said here there = is_none (verb_answer said here)
ends_within (suc n) said here there =
    option_map_or (λ answer. ends_within n answer there (option_map (λ _. side_after said) here)) (verb_answer said here) true

-- whatever is said first, and however the option stands on both sides, at most three answers follow
abbrev pub ExchangesEnd : Type 0
ExchangesEnd = (said : Verb) (here there : Option Side) → IsTrue (ends_within 3 said here there)
