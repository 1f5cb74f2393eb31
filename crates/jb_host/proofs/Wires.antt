-- Runs of calls of a link.
use Rattle.std.proofs.Common.{◌≡◌, ℕ, ◌+◌, ◌-◌, ◌<◌, ◌≤◌, length, List, [], ◌++◌, take, drop, Option, Some, None, refl, sym, ◌∙◌, ap, append_assoc, append-nil, arith}
use Rattle.std.specs.Option.{option_map}
use Rattle.std.proofs.lemmas.Grind.{common_steps}
use Rattle.std.proofs.lemmas.List.{same_lists, places}
use Rattle.jb_bytes.specs.Fault.{Rose}
use Rattle.jb_host.specs.Wire.{Takes, Sends, IsFrontOf}

pub sends_none : (a : Option (List ℕ)) → Sends a [] a
sends_none None = refl
sends_none (Some xs) = ap (λ (w : List ℕ). Some w) (sym (append-nil xs))

pub sends_more : (a b c : Option (List ℕ)) (xs ys : List ℕ) → Sends a xs b → Sends b ys c → Sends a (xs ++ ys) c
sends_more None b c xs ys one two = two ∙ ap (λ (w : Option (List ℕ)). option_map (λ (sent : List ℕ). sent ++ ys) w) one
sends_more (Some w) b c xs ys one two = two ∙ ap (λ (w : Option (List ℕ)). option_map (λ (sent : List ℕ). sent ++ ys) w) one ∙ ap (λ (v : List ℕ). Some v) (append_assoc w xs ys)

pub takes_none : (a : Option (List ℕ)) → Takes a [] a
takes_none None = refl
takes_none (Some xs) = refl

pub takes_more : (a b c : Option (List ℕ)) (xs ys : List ℕ) → Takes a xs b → Takes b ys c → Takes a (xs ++ ys) c
takes_more a b None xs ys one two = one ∙ ap (λ (w : Option (List ℕ)). option_map (λ (rest : List ℕ). xs ++ rest) w) two
takes_more a b (Some w) xs ys one two = one ∙ ap (λ (w : Option (List ℕ)). option_map (λ (rest : List ℕ). xs ++ rest) w) two ∙ ap (λ (v : List ℕ). Some v) (sym (append_assoc xs ys w))

pub take_then : (n m : ℕ) (xs : List ℕ) → m ≤ length xs - n → take n xs ++ take m (take (length xs - n) (drop n xs)) ≡ take (n + m) xs
take_then n m xs h = same_lists _ _ (grind (arith, places)) (λ k d h. grind (arith, places))

pub drop_then : (n m : ℕ) (xs : List ℕ) → m ≤ length xs - n → drop n xs ≡ take m (take (length xs - n) (drop n xs)) ++ drop (n + m) xs
drop_then n m xs h = same_lists _ _ (grind (arith, places)) (λ k d h. grind (arith, places))

pub begins_take : (n : ℕ) (xs : List ℕ) → n < length xs → IsFrontOf (take n xs) xs
begins_take n xs more = record { rest = drop n xs; is = grind (arith, common_steps); more = grind (arith, places) }

pub rose_later : (a b c d : ℕ) → a ≤ b → Rose b c → c ≤ d → Rose a d
rose_later a b c d before rose after = omega (arith, before, rose, after)
