-- An element of the list, and its place in a piece.
use Rattle.std.proofs.Common.{◌≡◌, ◌<◌, ◌≤◌, ◌+◌, ◌-◌, ◌*◌, ◌/◌, ◌%◌, inl, inr, ℕ, zero, suc, List, [], ◌∷◌, ◌++◌, length, get_or, set, refl, sym, ◌∙◌, ap, subst, arith, append_assoc, length-append}
use Rattle.std.specs.Prelude.{insert, min, remove}
use Rattle.std.specs.VecDeque.{deque_len, deque_capacity}
use Rattle.std.specs.declared.collections.VecDeque.{VecDeque}
use Rattle.std.proofs.Math.ListN.{get_or-append}
use Rattle.std.proofs.Math.Seq.{take-append-add, drop-append-add}
use Rattle.std.proofs.lemmas.Bool.{cases_eq}
use Rattle.std.proofs.lemmas.List.Edits.{insert_end}
use Rattle.std.proofs.lemmas.List.{get_or-append-add, get_or-set_same, get_or-set_other, length-set, set-append_left, set-append_right, take-append-le, drop-append-le}
use Rattle.jb_tiered.specs.Pieces.{AreFilled, HaveGap, items_of, len_at}

module _ {X : Type 0} where
  -- an element in the middle of three lists
  read_between : (front mid back : List X) (at r : ℕ) (d : X) → length front + r ≡ at → r < length mid → get_or (front ++ (mid ++ back)) at d ≡ get_or mid r d
  read_between front mid back at r d is within =
      rw (← is) (get_or-append-add front (mid ++ back) r d ∙ get_or-append mid back d r within)

  -- an insertion into the middle one
  insert_between : (front mid back : List X) (at r : ℕ) (x : X) → length front + r ≡ at → r ≤ length mid
      → insert (front ++ (mid ++ back)) at x ≡ front ++ (insert mid r x ++ back)
  insert_between front mid back at r x is within =
      rw (← is, take-append-add front (mid ++ back) r, drop-append-add front (mid ++ back) r, take-append-le r mid back within, drop-append-le r mid back within)
      (simp append_assoc)

  -- a removal from it
  remove_between : (front mid back : List X) (at r : ℕ) → length front + r ≡ at → r < length mid
      → remove (front ++ (mid ++ back)) at ≡ front ++ (remove mid r ++ back)
  remove_between front mid back at r is within =
      let next : suc at ≡ length front + suc r = omega arith in
      rw (next, ← is, take-append-add front (mid ++ back) r, drop-append-add front (mid ++ back) (suc r), take-append-le r mid back (omega arith), drop-append-le (suc r) mid back (omega arith))
      (simp append_assoc)

  -- another element in the place of one of it
  set_between : (front mid back : List X) (at r : ℕ) (x : X) → length front + r ≡ at → r < length mid
      → set (front ++ (mid ++ back)) at x ≡ front ++ (set mid r x ++ back)
  set_between front mid back at r x is within =
      let behind : at - length front ≡ r = omega arith in
      set-append_right front (mid ++ back) (length front) at x refl (omega arith)
      ∙ ap (λ k. front ++ set (mid ++ back) k x) behind
      ∙ ap (λ l. front ++ l) (set-append_left mid back r x within)

module _ {X Z : Type 0} where
  -- the pieces before this one are full
  abbrev AreFull : ℕ → List (VecDeque X Z) → Type 0
  AreFull k ps = (i : ℕ) (d : VecDeque X Z) → i < k → len_at ps i d ≡ 512

  -- the list is what stands before a piece, its elements, and what stands behind it
  record IsPiece (ps : List (VecDeque X Z)) (k : ℕ) : Type 0 where
    front : List X
    back : List X
    as_long : length front ≡ k * 512
    whole : (d : VecDeque X Z) → items_of ps ≡ front ++ ((get_or ps k d).items ++ back)
    changed : (p : VecDeque X Z) → items_of (set ps k p) ≡ front ++ (p.items ++ back)

  piece_of : (ps : List (VecDeque X Z)) (k : ℕ) → k < length ps → AreFull k ps → IsPiece ps k
  piece_of [] k within full = absurd (omega arith)
  piece_of (a ∷ ps) zero within full = record { front = []; back = items_of ps; as_long = refl; whole = λ d. refl; changed = λ p. refl }
  piece_of (a ∷ ps) (suc k) within full =
      let next = piece_of ps k (omega arith) (λ i d below. full (suc i) d (omega arith)) in
      let one : a.len ≡ 512 = full 0 a (omega arith) in
      let ring = a.ok.0 in
      let rest = next.as_long in
      record {
        front = a.items ++ next.front;
        back = next.back;
        as_long = omega (arith, length-append a.items next.front);
        whole = λ d. ap (λ xs. a.items ++ xs) (next.whole d) ∙ sym (append_assoc a.items next.front _);
        changed = λ p. ap (λ xs. a.items ++ xs) (next.changed p) ∙ sym (append_assoc a.items next.front _);
      }

  -- an element of the list, by its piece
  read_piece : (ps : List (VecDeque X Z)) (k at r : ℕ) (was : VecDeque X Z) (d : X) → IsPiece ps k → was ≡ get_or ps k was → k * 512 + r ≡ at → r < length was.items
      → get_or (items_of ps) at d ≡ get_or was.items r d
  read_piece ps k at r was d piece is place within =
      let long = piece.as_long in
      rw (piece.whole was, ← is) (read_between piece.front was.items piece.back at r d (omega arith) within)

  insert_piece : (ps : List (VecDeque X Z)) (k at r : ℕ) (was p : VecDeque X Z) (x : X) → IsPiece ps k → was ≡ get_or ps k was → k * 512 + r ≡ at → r ≤ length was.items
      → p.items ≡ insert was.items r x → items_of (set ps k p) ≡ insert (items_of ps) at x
  insert_piece ps k at r was p x piece is place within items =
      let long = piece.as_long in
      rw (piece.changed p, items, piece.whole was, ← is) (sym (insert_between piece.front was.items piece.back at r x (omega arith) within))

  remove_piece : (ps : List (VecDeque X Z)) (k at r : ℕ) (was p : VecDeque X Z) → IsPiece ps k → was ≡ get_or ps k was → k * 512 + r ≡ at → r < length was.items
      → p.items ≡ remove was.items r → items_of (set ps k p) ≡ remove (items_of ps) at
  remove_piece ps k at r was p piece is place within items =
      let long = piece.as_long in
      rw (piece.changed p, items, piece.whole was, ← is) (sym (remove_between piece.front was.items piece.back at r (omega arith) within))

  -- an element of the list stands in its piece
  pub stands_in : (count at : ℕ) (ps : List (VecDeque X Z)) (was : VecDeque X Z) (d : X) → AreFilled count ps → at < count → at / 512 < length ps
      → was ≡ get_or ps (at / 512) was → (at % 512 < length was.items) × (get_or (items_of ps) at d ≡ get_or was.items (at % 512) d)
  stands_in count at ps was d filled below within is =
      let piece = piece_of ps (at / 512) within (λ i e lower. filled.lens i e (omega arith) ∙ omega arith) in
      let len : deque_len was ≡ min 512 (count - at / 512 * 512) = subst (λ v. deque_len v ≡ min 512 (count - at / 512 * 512)) (sym is) (filled.lens (at / 512) was within) in
      let ring = was.ok.0 in
      let inside : at % 512 < length was.items = omega arith in
      (inside, read_piece ps (at / 512) at (at % 512) was d piece is (omega arith) inside)

  -- what an insertion into the piece with the gap makes of the list
  pub record IsPutIn (count at : ℕ) (x : X) (old new : List (VecDeque X Z)) : Type 0 where
    pub filled : AreFilled count new
    pub items : items_of new ≡ insert (items_of old) at x
    pub as_many : length new ≡ length old

  pub put_in : (count at : ℕ) (ps : List (VecDeque X Z)) (was p : VecDeque X Z) (x : X) → HaveGap (count + 1) (at / 512) ps → at ≤ count → at / 512 < length ps
      → was ≡ get_or ps (at / 512) was → p.items ≡ insert was.items (at % 512) x → deque_len p ≡ deque_len was + 1 → deque_capacity was ≤ deque_capacity p
      → IsPutIn (count + 1) at x ps (set ps (at / 512) p)
  put_in count at ps was p x gap below within is items more room =
      let k = at / 512 in
      let piece = piece_of ps k within (λ i e lower. gap.lens i e (omega arith) (omega arith) ∙ omega arith) in
      let short : deque_len was + 1 ≡ min 512 (count + 1 - k * 512) = subst (λ v. deque_len v + 1 ≡ min 512 (count + 1 - k * 512)) (sym is) (gap.short was) in
      let places : 512 ≤ deque_capacity was = subst (λ v. 512 ≤ deque_capacity v) (sym is) (gap.places k was within) in
      let ring = was.ok.0 in
      let as_many : length (set ps k p) ≡ length ps = length-set ps k p in
      record {
        filled = record {
          places = λ i d lower. elim (cases_eq i k) [
            | inl same ↦ subst (λ j. 512 ≤ deque_capacity (get_or (set ps k p) j d)) (sym same) (subst (λ v. 512 ≤ deque_capacity v) (sym (get_or-set_same ps k p d within)) (omega arith))
            | inr not ↦ subst (λ v. 512 ≤ deque_capacity v) (sym (get_or-set_other ps k i p d not)) (gap.places i d (omega arith))
          ];
          lens = λ i d lower. elim (cases_eq i k) [
            | inl same ↦ subst (λ j. len_at (set ps k p) j d ≡ min 512 (count + 1 - j * 512)) (sym same) (ap deque_len (get_or-set_same ps k p d within) ∙ more ∙ short)
            | inr not ↦ ap deque_len (get_or-set_other ps k i p d not) ∙ gap.lens i d (omega arith) not
          ];
        };
        items = insert_piece ps k at (at % 512) was p x piece is (omega arith) (omega arith) items;
        as_many = as_many;
      }

  -- where each piece is filled, the first that is not has its gap behind its last element
  gap_at_end : (count : ℕ) (ps : List (VecDeque X Z)) → AreFilled count ps → count / 512 < length ps → HaveGap (count + 1) (count / 512) ps
  gap_at_end count ps filled within = record {
    places = filled.places;
    lens = λ k d below not. filled.lens k d below ∙ omega arith;
    short = λ d. ap (λ n. n + 1) (filled.lens (count / 512) d within) ∙ omega arith;
  }

  -- what an element behind the last makes of the list
  pub record IsPushed (count : ℕ) (x : X) (old new : List (VecDeque X Z)) : Type 0 where
    pub filled : AreFilled (count + 1) new
    pub items : items_of new ≡ items_of old ++ x ∷ []
    pub as_many : length new ≡ length old

  pub pushed : (count : ℕ) (ps : List (VecDeque X Z)) (was p : VecDeque X Z) (x : X) → AreFilled count ps → length (items_of ps) ≡ count → count / 512 < length ps
      → was ≡ get_or ps (count / 512) was → p.items ≡ was.items ++ x ∷ [] → deque_len p ≡ deque_len was + 1 → deque_capacity p ≡ deque_capacity was
      → IsPushed count x ps (set ps (count / 512) p)
  pushed count ps was p x filled counted within is items more room =
      let ring = was.ok.0 in
      let last : length was.items ≡ count % 512 =
      omega (arith, subst (λ v. deque_len v ≡ min 512 (count - count / 512 * 512)) (sym is) (filled.lens (count / 512) was within)) in
      let end : p.items ≡ insert was.items (count % 512) x = items ∙ sym (insert_end was.items x) ∙ ap (λ n. insert was.items n x) last in
      let put = put_in count count ps was p x (gap_at_end count ps filled within) (omega arith) within is end more (omega (arith, room)) in
      record {
        filled = put.filled;
        items = put.items ∙ ap (λ n. insert (items_of ps) n x) (sym counted) ∙ insert_end (items_of ps) x;
        as_many = put.as_many;
      }

  -- what a removal from a piece makes of it
  pub record IsTakenOut (count at : ℕ) (old new : List (VecDeque X Z)) : Type 0 where
    pub gap : HaveGap count (at / 512) new
    pub items : items_of new ≡ remove (items_of old) at
    pub as_many : length new ≡ length old

  pub taken_out : (count at : ℕ) (ps : List (VecDeque X Z)) (was p : VecDeque X Z) → AreFilled count ps → at < count → at / 512 < length ps
      → was ≡ get_or ps (at / 512) was → p.items ≡ remove was.items (at % 512) → deque_len p + 1 ≡ deque_len was → deque_capacity p ≡ deque_capacity was
      → IsTakenOut count at ps (set ps (at / 512) p)
  taken_out count at ps was p filled below within is items less room =
      let k = at / 512 in
      let piece = piece_of ps k within (λ i e lower. filled.lens i e (omega arith) ∙ omega arith) in
      let len : deque_len was ≡ min 512 (count - k * 512) = subst (λ v. deque_len v ≡ min 512 (count - k * 512)) (sym is) (filled.lens k was within) in
      let places : 512 ≤ deque_capacity was = subst (λ v. 512 ≤ deque_capacity v) (sym is) (filled.places k was within) in
      let ring = was.ok.0 in
      let as_many : length (set ps k p) ≡ length ps = length-set ps k p in
      record {
        gap = record {
          places = λ i d lower. elim (cases_eq i k) [
            | inl same ↦ subst (λ j. 512 ≤ deque_capacity (get_or (set ps k p) j d)) (sym same) (subst (λ v. 512 ≤ deque_capacity v) (sym (get_or-set_same ps k p d within)) (omega arith))
            | inr not ↦ subst (λ v. 512 ≤ deque_capacity v) (sym (get_or-set_other ps k i p d not)) (filled.places i d (omega arith))
          ];
          lens = λ i d lower not. ap deque_len (get_or-set_other ps k i p d not) ∙ filled.lens i d (omega arith);
          short = λ d. ap (λ v. deque_len v + 1) (get_or-set_same ps k p d within) ∙ less ∙ len;
        };
        items = remove_piece ps k at (at % 512) was p piece is (omega arith) (omega arith) items;
        as_many = as_many;
      }

  set_piece : (ps : List (VecDeque X Z)) (k at r : ℕ) (was p : VecDeque X Z) (x : X) → IsPiece ps k → was ≡ get_or ps k was → k * 512 + r ≡ at → r < length was.items
      → p.items ≡ set was.items r x → items_of (set ps k p) ≡ set (items_of ps) at x
  set_piece ps k at r was p x piece is place within items =
      let long = piece.as_long in
      rw (piece.changed p, items, piece.whole was, ← is) (sym (set_between piece.front was.items piece.back at r x (omega arith) within))

  -- what another element in the place of one makes of the list
  pub record IsReplaced (count at : ℕ) (x : X) (old new : List (VecDeque X Z)) : Type 0 where
    pub filled : AreFilled count new
    pub items : items_of new ≡ set (items_of old) at x
    pub as_many : length new ≡ length old

  pub replaced : (count at : ℕ) (ps : List (VecDeque X Z)) (was p : VecDeque X Z) (x : X) → AreFilled count ps → at < count → at / 512 < length ps
      → was ≡ get_or ps (at / 512) was → p.items ≡ set was.items (at % 512) x → deque_len p ≡ deque_len was → deque_capacity p ≡ deque_capacity was
      → IsReplaced count at x ps (set ps (at / 512) p)
  replaced count at ps was p x filled below within is items same room =
      let k = at / 512 in
      let piece = piece_of ps k within (λ i e lower. filled.lens i e (omega arith) ∙ omega arith) in
      let len : deque_len was ≡ min 512 (count - k * 512) = subst (λ v. deque_len v ≡ min 512 (count - k * 512)) (sym is) (filled.lens k was within) in
      let places : 512 ≤ deque_capacity was = subst (λ v. 512 ≤ deque_capacity v) (sym is) (filled.places k was within) in
      let ring = was.ok.0 in
      let as_many : length (set ps k p) ≡ length ps = length-set ps k p in
      record {
        filled = record {
          places = λ i d lower. elim (cases_eq i k) [
            | inl same ↦ subst (λ j. 512 ≤ deque_capacity (get_or (set ps k p) j d)) (sym same) (subst (λ v. 512 ≤ deque_capacity v) (sym (get_or-set_same ps k p d within)) (omega arith))
            | inr not ↦ subst (λ v. 512 ≤ deque_capacity v) (sym (get_or-set_other ps k i p d not)) (filled.places i d (omega arith))
          ];
          lens = λ i d lower. elim (cases_eq i k) [
            | inl there ↦ subst (λ j. len_at (set ps k p) j d ≡ min 512 (count - j * 512)) (sym there) (ap deque_len (get_or-set_same ps k p d within) ∙ same ∙ len)
            | inr not ↦ ap deque_len (get_or-set_other ps k i p d not) ∙ filled.lens i d (omega arith)
          ];
        };
        items = set_piece ps k at (at % 512) was p x piece is (omega arith) (omega arith) items;
        as_many = as_many;
      }
