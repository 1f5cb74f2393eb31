-- Pieces whose gap wanders.
use Rattle.std.proofs.Common.{◌≡◌, ◌≢◌, ◌<◌, ◌≤◌, ◌+◌, ◌-◌, ◌*◌, inl, inr, ℕ, zero, suc, List, [], ◌∷◌, ◌++◌, length, get_or, set, sym, ◌∙◌, ap, subst, arith, append_assoc}
use Rattle.std.specs.Prelude.{min}
use Rattle.std.specs.VecDeque.{deque_len, deque_capacity}
use Rattle.std.specs.declared.collections.VecDeque.{VecDeque}
use Rattle.std.proofs.lemmas.Bool.{cases_eq}
use Rattle.std.proofs.lemmas.List.{get_or_default, get_or-set_same, get_or-set_other, length-set}
use Rattle.jb_tiered.specs.Pieces.{HaveGap, items_of, len_at}

-- an element at the end of one list, or at the front of the next
between_two : {X : Type 0} (xs ps qs bs rest : List X) (x : X) → xs ≡ ps ++ x ∷ [] → qs ≡ x ∷ bs → ps ++ (qs ++ rest) ≡ xs ++ (bs ++ rest)
between_two xs ps qs bs rest x e f = rw (e, f) (sym (append_assoc ps (x ∷ []) (bs ++ rest)))

module _ {X Z : Type 0} where
  -- the gap is in another piece, and the elements are the same in the same order
  pub record Wanders (count gap : ℕ) (old new : List (VecDeque X Z)) : Type 0 where
    pub short : HaveGap count gap new
    pub items : items_of new ≡ items_of old
    pub as_many : length new ≡ length old

  -- two pieces are others now, and the rest is as it was
  record TwoChanged (i j : ℕ) (p q : VecDeque X Z) (old new : List (VecDeque X Z)) : Type 0 where
    one : (d : VecDeque X Z) → get_or new i d ≡ p
    other : (d : VecDeque X Z) → get_or new j d ≡ q
    rest : (k : ℕ) (d : VecDeque X Z) → k ≢ i → k ≢ j → get_or new k d ≡ get_or old k d
    as_many : length new ≡ length old

  two_set : (ps : List (VecDeque X Z)) (i j : ℕ) (p q : VecDeque X Z) → i ≢ j → i < length ps → j < length ps → TwoChanged i j p q ps (set (set ps i p) j q)
  two_set ps i j p q apart inside within =
      let once : length (set ps i p) ≡ length ps = length-set ps i p in
      record {
        one = λ d. get_or-set_other (set ps i p) j i q d apart ∙ get_or-set_same ps i p d inside;
        other = λ d. get_or-set_same (set ps i p) j q d (omega arith);
        rest = λ k d not_i not_j. get_or-set_other (set ps i p) j k q d not_j ∙ get_or-set_other ps i k p d not_i;
        as_many = length-set (set ps i p) j q ∙ once;
      }

  turned : {i j : ℕ} {p q : VecDeque X Z} {old new : List (VecDeque X Z)} → TwoChanged i j p q old new → TwoChanged j i q p old new
  turned changed = record { one = changed.other; other = changed.one; rest = λ k d not_j not_i. changed.rest k d not_i not_j; as_many = changed.as_many }

  -- one element goes from one piece to another: the gap goes the other way
  gap_goes : (count from to : ℕ) (p q : VecDeque X Z) (old new : List (VecDeque X Z)) → HaveGap count from old → TwoChanged from to q p old new → from ≢ to
      → from < length old → to < length old
      → ((d : VecDeque X Z) → deque_len p + 1 ≡ len_at old to d) → ((d : VecDeque X Z) → deque_len q ≡ len_at old from d + 1)
      → 512 ≤ deque_capacity p → 512 ≤ deque_capacity q → HaveGap count to new
  gap_goes count from to p q old new gap changed apart inside within less more places other_places = record {
    places = λ k d below. elim (cases_eq k from) [
      | inl is ↦ subst (λ i. 512 ≤ deque_capacity (get_or new i d)) (sym is) (subst (λ x. 512 ≤ deque_capacity x) (sym (changed.one d)) other_places)
      | inr not ↦ elim (cases_eq k to) [
        | inl is ↦ subst (λ i. 512 ≤ deque_capacity (get_or new i d)) (sym is) (subst (λ x. 512 ≤ deque_capacity x) (sym (changed.other d)) places)
        | inr neither ↦ subst (λ x. 512 ≤ deque_capacity x) (sym (changed.rest k d not neither)) (gap.places k d (subst (λ n. k < n) changed.as_many below))
      ]
    ];
    lens = λ k d below not_to. elim (cases_eq k from) [
      | inl is ↦ subst (λ i. len_at new i d ≡ min 512 (count - i * 512)) (sym is) (ap deque_len (changed.one d) ∙ more d ∙ gap.short d)
      | inr not ↦ ap deque_len (changed.rest k d not not_to) ∙ gap.lens k d (subst (λ n. k < n) changed.as_many below) not
    ];
    short = λ d. ap (λ x. deque_len x + 1) (changed.other d) ∙ less d ∙ gap.lens to d within (λ is. apart (sym is));
  }

  -- the elements are the same where one goes from the end of a piece to the front of the next
  items_passed : (ps : List (VecDeque X Z)) (k : ℕ) (p q : VecDeque X Z) (x : X) → suc k < length ps
      → ((d : VecDeque X Z) → (get_or ps k d).items ≡ p.items ++ x ∷ []) → ((d : VecDeque X Z) → q.items ≡ x ∷ (get_or ps (suc k) d).items)
      → items_of (set (set ps k p) (suc k) q) ≡ items_of ps
  items_passed [] k p q x within first second = absurd (omega arith)
  items_passed (a ∷ []) k p q x within first second = absurd (omega arith)
  items_passed (a ∷ b ∷ ps) zero p q x within first second = between_two _ _ _ _ (items_of ps) x (first p) (second p)
  items_passed (a ∷ b ∷ ps) (suc k) p q x within first second = ap (λ xs. a.items ++ xs) (items_passed (b ∷ ps) k p q x (omega arith) first second)

  -- and where one goes from the front of a piece to the end of the one before it
  items_passed_back : (ps : List (VecDeque X Z)) (k : ℕ) (p q : VecDeque X Z) (x : X) → suc k < length ps
      → ((d : VecDeque X Z) → p.items ≡ (get_or ps k d).items ++ x ∷ []) → ((d : VecDeque X Z) → (get_or ps (suc k) d).items ≡ x ∷ q.items)
      → items_of (set (set ps (suc k) q) k p) ≡ items_of ps
  items_passed_back [] k p q x within first second = absurd (omega arith)
  items_passed_back (a ∷ []) k p q x within first second = absurd (omega arith)
  items_passed_back (a ∷ b ∷ ps) zero p q x within first second = sym (between_two _ _ _ _ (items_of ps) x (first p) (second p))
  items_passed_back (a ∷ b ∷ ps) (suc k) p q x within first second = ap (λ xs. a.items ++ xs) (items_passed_back (b ∷ ps) k p q x (omega arith) first second)

  passed_on : (ps : List (VecDeque X Z)) (k j : ℕ) (p q : VecDeque X Z) (x : X) → suc k ≡ j → j < length ps
      → ((d : VecDeque X Z) → (get_or ps k d).items ≡ p.items ++ x ∷ []) → ((d : VecDeque X Z) → q.items ≡ x ∷ (get_or ps j d).items)
      → items_of (set (set ps k p) j q) ≡ items_of ps
  passed_on ps k j p q x is within first second =
      subst (λ i. i < length ps → ((d : VecDeque X Z) → q.items ≡ x ∷ (get_or ps i d).items) → items_of (set (set ps k p) i q) ≡ items_of ps) is
      (λ below there. items_passed ps k p q x below first there) within second

  passed_back : (ps : List (VecDeque X Z)) (k j : ℕ) (p q : VecDeque X Z) (x : X) → suc k ≡ j → j < length ps
      → ((d : VecDeque X Z) → p.items ≡ (get_or ps k d).items ++ x ∷ []) → ((d : VecDeque X Z) → (get_or ps j d).items ≡ x ∷ q.items)
      → items_of (set (set ps j q) k p) ≡ items_of ps
  passed_back ps k j p q x is within first second =
      subst (λ i. i < length ps → ((d : VecDeque X Z) → (get_or ps i d).items ≡ x ∷ q.items) → items_of (set (set ps i q) k p) ≡ items_of ps) is
      (λ below there. items_passed_back ps k p q x below first there) within second

  -- what a piece was that a place has
  was_there : (ps : List (VecDeque X Z)) (k : ℕ) (was : VecDeque X Z) → k < length ps → was ≡ get_or ps k was → (d : VecDeque X Z) → get_or ps k d ≡ was
  was_there ps k was within is d = get_or_default ps k d was within ∙ sym is

  -- the last element of the piece before the gap goes into it
  pub went_on : (count k gap : ℕ) (old ps : List (VecDeque X Z)) (was p next q : VecDeque X Z) (x : X) → Wanders count gap old ps → gap ≡ k + 1 → gap < length ps
      → was ≡ get_or ps k was → was.items ≡ p.items ++ x ∷ [] → deque_len p + 1 ≡ deque_len was → deque_capacity p ≡ deque_capacity was
      → next ≡ get_or (set ps k p) (k + 1) next → q.items ≡ x ∷ next.items → deque_len q ≡ deque_len next + 1 → deque_capacity q ≡ deque_capacity next
      → Wanders count k old (set (set ps k p) (k + 1) q)
  went_on count k gap old ps was p next q x wanders is within was_is was_items less was_room next_is next_items more next_room =
      let beyond : k + 1 < length ps = omega arith in
      let inside : k < length ps = omega arith in
      let there = was_there ps k was inside was_is in
      let stays : next ≡ get_or ps (k + 1) next = next_is ∙ get_or-set_other ps k (k + 1) p next (omega arith) in
      let next_there = was_there ps (k + 1) next beyond stays in
      let changed = two_set ps k (k + 1) p q (omega arith) inside beyond in
      let short = subst (λ g. HaveGap count g ps) is wanders.short in
      let room : 512 ≤ deque_capacity was = subst (λ v. 512 ≤ deque_capacity v) (there was) (short.places k was inside) in
      let next_held : 512 ≤ deque_capacity next = subst (λ v. 512 ≤ deque_capacity v) (next_there next) (short.places (k + 1) next beyond) in
      record {
        short = gap_goes count (k + 1) k p q ps _ short (turned changed) (omega arith) beyond inside
            (λ d. less ∙ sym (ap deque_len (there d))) (λ d. more ∙ sym (ap (λ v. deque_len v + 1) (next_there d))) (omega arith) (omega arith);
        items = passed_on ps k (k + 1) p q x (omega arith) beyond (λ d. ap (λ v. v.items) (there d) ∙ was_items) (λ d. next_items ∙ ap (λ v. x ∷ v.items) (sym (next_there d))) ∙ wanders.items;
        as_many = changed.as_many ∙ wanders.as_many;
      }

  -- the first element of the piece behind the gap goes into it
  pub went_back : (count k : ℕ) (old ps : List (VecDeque X Z)) (was q before p : VecDeque X Z) (x : X) → Wanders count k old ps → k + 1 < length ps
      → was ≡ get_or ps (k + 1) was → was.items ≡ x ∷ q.items → deque_len q + 1 ≡ deque_len was → deque_capacity q ≡ deque_capacity was
      → before ≡ get_or (set ps (k + 1) q) k before → p.items ≡ before.items ++ x ∷ [] → deque_len p ≡ deque_len before + 1 → deque_capacity p ≡ deque_capacity before
      → Wanders count (k + 1) old (set (set ps (k + 1) q) k p)
  went_back count k old ps was q before p x wanders beyond was_is was_items less was_room before_is before_items more before_room =
      let inside : k < length ps = omega arith in
      let there = was_there ps (k + 1) was beyond was_is in
      let stays : before ≡ get_or ps k before = before_is ∙ get_or-set_other ps (k + 1) k q before (omega arith) in
      let before_there = was_there ps k before inside stays in
      let changed = two_set ps (k + 1) k q p (omega arith) beyond inside in
      let room : 512 ≤ deque_capacity was = subst (λ v. 512 ≤ deque_capacity v) (there was) (wanders.short.places (k + 1) was beyond) in
      let before_held : 512 ≤ deque_capacity before = subst (λ v. 512 ≤ deque_capacity v) (before_there before) (wanders.short.places k before inside) in
      record {
        short = gap_goes count k (k + 1) q p ps _ wanders.short (turned changed) (omega arith) inside beyond
            (λ d. less ∙ sym (ap deque_len (there d))) (λ d. more ∙ sym (ap (λ v. deque_len v + 1) (before_there d))) (omega arith) (omega arith);
        items = passed_back ps k (k + 1) p q x (omega arith) beyond (λ d. before_items ∙ ap (λ v. v.items ++ x ∷ []) (sym (before_there d))) (λ d. ap (λ v. v.items) (there d) ∙ was_items) ∙ wanders.items;
        as_many = changed.as_many ∙ wanders.as_many;
      }
