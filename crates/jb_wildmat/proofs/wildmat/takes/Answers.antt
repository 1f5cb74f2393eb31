use Rattle.std.proofs.Common.{◌≡◌, ◌==◌, ℕ, Bool, false, List, [], ◌∷◌, Bor, map, Option, None, ap, sym, ◌∙◌, rules, tests}
use Rattle.std.specs.Prelude.{unwrap_or}
use Rattle.std.specs.Iterator.{Yields}
use Rattle.std.proofs.lemmas.Iterator.{YieldsList}
use Rattle.std.proofs.lemmas.List.{map-append}
use Rattle.std.proofs.lemmas.Iterator.Consumers.{YieldsList-at, YieldsList-end}
use Rattle.std.proofs.lemmas.Iterator.Splits.{YieldsList-from_slice_split}
use Rattle.jb_wildmat.specs.Wildmats.{last_word, takes, word_of}
use Rattle.jb_wildmat.proofs.LastWord.{taken_after_one}
use Rattle.jb_wildmat.proofs.wildmat.takes.Goals as goal

-- whether the patterns so far take the name
abbrev taken_by : List ℕ → List (List ℕ) → Bool
taken_by name items = unwrap_or (last_word items name) false

abbrev shown : Bor (List ℕ) → List ℕ
shown item = item.now

pub loop-item-preserved : goal.loop-item-preserved
loop-item-preserved c =
    let name = c.args.name.now in
    let item = c.in-Some.item.now in
    c.after-taken.ensures ∙ ap (unwrap_or (word_of item name)) c.loop-item.invariant
    ∙ sym (ap (taken_by name) (map-append shown c.loop-item.yielded (c.in-Some.item ∷ [])) ∙ taken_after_one (map shown c.loop-item.yielded) item name)

-- every item was yielded, told by the loop before the chain
all_yielded : {S A B : Type 0} {steps : S → Option A → S → Type 0} {v : A → B} {s : S} {all : List B} (xs : List A) (t : S) → Yields steps s xs t
    → (r : Option A) (u : S) → r ≡ None → steps t r u → YieldsList steps v s all → map v xs ≡ all
all_yielded xs t yields r u none ended chain = (YieldsList-end chain xs t yields r u none ended).0

pub returns : goal.returns
unfolding takes
returns c =
    let split = c.split-item-items.ensures in
    let all = all_yielded c.loop-item.yielded _ c.loop-item.yielded_by _ _ c.in-None.is c.next.ensures.steps
    (YieldsList-at c.into_iter-item-iterator.ensures.into_iter_gives
    (YieldsList-from_slice_split _ (λ byte. byte == 44) c.args.wildmat.now split.rest split.done split.closure (λ x b q k. search (rules, tests)))) in
    c.loop-item.invariant ∙ ap (taken_by c.args.name.now) all
