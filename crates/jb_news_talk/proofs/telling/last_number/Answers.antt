use Rattle.std.proofs.Common.{◌≡◌, ℕ, zero, suc, ◌+◌, ◌-◌, List, [], ◌∷◌, length, Some, ap, arith}
use Rattle.std.specs.Prelude.{option_map}
use Rattle.std.specs.List.{slice_get}
use Rattle.jb_state.specs.declared.summary.Summary.{Summary}
use Rattle.jb_news_talk.specs.Telling.{last_number}
use Rattle.jb_news_talk.proofs.telling.last_number.Goals as goal

-- the one at the last place is the last
last_at : (messages : List Summary) (place : ℕ) (one : Summary) → place + 1 ≡ length messages → Some one ≡ slice_get messages place → Some one.number ≡ last_number messages
last_at [] place one last is = absurd (omega arith)
last_at (first ∷ []) zero one last is = ap (option_map (λ (w : Summary). w.number)) is
last_at (first ∷ []) (suc place) one last is = absurd (omega arith)
last_at (first ∷ next ∷ rest) zero one last is = absurd (omega arith)
last_at (first ∷ next ∷ rest) (suc place) one last is = last_at (next ∷ rest) place one (omega arith) is

last_is : (messages : List Summary) (one : Summary) → Some one ≡ slice_get messages (length messages - 1) → Some one.number ≡ last_number messages
last_is [] one is = absurd (cc (is))
last_is (first ∷ rest) one is = last_at (first ∷ rest) (length (first ∷ rest) - 1) one (omega arith) is

pub returns-in-Some : goal.returns-in-Some
returns-in-Some c = last_is c.args.messages.now c.in-Some.one.now c.in-Some.ensures.value
