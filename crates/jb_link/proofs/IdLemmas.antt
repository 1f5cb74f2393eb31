-- What one more id changes among numbers by ids: at a seat that was free, and among the others.
use Rattle.std.proofs.Common.{◌≡◌, ℕ, Result, Ok, Err, OnOk, slice_get, ◌%◌, ◌<◌, ◌≤◌, Bool, true, false, ◌&&◌, ◌||◌, ◌==◌, ◌≢◌, ◌⊎◌, inl, inr, cond, List, Some, None, bytes_eq, get_or, length, length-set, set, unwrap_or, refl, sym, ◌∙◌, ap, subst, arith, ne_eqb, eq-eqb}
use Rattle.std.proofs.Math.Nat.{mod-lt}
use Rattle.std.proofs.lemmas.Bool.{cases_eq, false≢true}
use Rattle.std.proofs.lemmas.List.{get_or-set_other, get_or-set_same}
use Rattle.std.specs.Borrow.{Bor}
use Rattle.std.specs.BTreeMap.{BTreeMap, get_by}
use Rattle.std.specs.Cmp.{IsTotalOrder, eq_by_cmp_equiv, nat_cmp_total, on_total, then_total, tied_then}
use Rattle.std.specs.Cmp.Lexicographic.{bytes_decides, nat_list_cmp_total, nat_list_eq_equiv, slice_cmp, texts_ties}
use Rattle.std.specs.Map.{KeepsOthers, lookup}
use Rattle.std.specs.Ordering.{is_eq, nat_cmp, ordering_then}
use Rattle.std.specs.declared.cmp.Ordering.{Ordering}
use Rattle.jb_state.specs.Links.{is_id}
use Rattle.jb_state.specs.declared.loaded.LoadedSlot.{LoadedSlot}
use Rattle.jb_link.specs.Ids.{IsNumberedNow, IsSettled, KeepsLowest, at_seat, hash_of, msgid_at, number_among, number_of}
use Rattle.jb_state.specs.LiveSlots.{msgid_in}
use Rattle.jb_link.specs.declared.ids.Ids.{Ids}

-- the order of the hashes and then of the bytes
abbrev pair_cmp : ℕ × List ℕ → ℕ × List ℕ → Ordering
pair_cmp p q = ordering_then (nat_cmp p.0 q.0) (slice_cmp nat_cmp p.1 q.1)

pair_total : IsTotalOrder pair_cmp
pair_total = then_total (on_total (λ (p : ℕ × List ℕ). p.0) nat_cmp_total) (on_total (λ (p : ℕ × List ℕ). p.1) nat_list_cmp_total)

-- a key of the others has the hash and the bytes of this id
abbrev is_key : List ℕ → ℕ × Bor (List ℕ) → Bool
is_key id key = is_eq (ordering_then (nat_cmp (hash_of id) key.0) (slice_cmp nat_cmp id key.1.now))

and_right : (a b : Bool) → (a && b) ≡ true → b ≡ true
and_right true b e = e
and_right false b e = absurd (false≢true e)

and_false : (a b : Bool) → b ≡ false → (a && b) ≡ false
and_false true b e = e
and_false false b e = refl

-- no key is that of two ids
keys_apart : (id other : List ℕ) (key : ℕ × Bor (List ℕ)) → bytes_eq id other ≡ false → is_key id key ≡ true → is_key other key ≡ false
keys_apart id other key apart same =
    let bytes : bytes_eq id key.1.now ≡ true =
    texts_ties id key.1.now ∙ and_right (is_eq (nat_cmp (hash_of id) key.0)) (is_eq (slice_cmp nat_cmp id key.1.now)) (tied_then (nat_cmp (hash_of id) key.0) (slice_cmp nat_cmp id key.1.now) ∙ same)
    in
    let otherwise : bytes_eq other key.1.now ≡ false =
    nat_list_eq_equiv.symm other key.1.now ∙ sym (nat_list_eq_equiv.congr id key.1.now other bytes) ∙ apart
    in
    sym (tied_then (nat_cmp (hash_of other) key.0) (slice_cmp nat_cmp other key.1.now))
    ∙ and_false (is_eq (nat_cmp (hash_of other) key.0)) (is_eq (slice_cmp nat_cmp other key.1.now)) (sym (texts_ties other key.1.now) ∙ otherwise)

-- what a query for another id finds stays
others_stay : (id other : List ℕ) (old new : List ((ℕ × Bor (List ℕ)) × ℕ)) → bytes_eq id other ≡ false
    → KeepsOthers (λ x y. is_eq (ordering_then (nat_cmp x.0 y.0) (slice_cmp nat_cmp x.1.now y.1.now))) (is_key id) old new
    → lookup (is_key other) new ≡ lookup (is_key other) old
unfolding KeepsOthers
others_stay id other old new apart keeps =
    keeps (is_key other) (λ x y. (eq_by_cmp_equiv pair_total).congr (hash_of other, other) (x.0, x.1.now) (y.0, y.1.now)) (λ key. keys_apart id other key apart)

-- the others keep the number of one more id
pub kept_among : (old new : BTreeMap (ℕ × Bor (List ℕ)) ℕ) (id : List ℕ) (hash number : ℕ) → hash ≡ hash_of id → number_among old id ≡ 0
    → get_by (λ key. ordering_then (nat_cmp hash key.0) (slice_cmp nat_cmp id key.1.now)) new ≡ Some number
    → KeepsOthers (λ x y. is_eq (ordering_then (nat_cmp x.0 y.0) (slice_cmp nat_cmp x.1.now y.1.now))) (λ key. is_eq (ordering_then (nat_cmp hash key.0) (slice_cmp nat_cmp id key.1.now)))
    old.entries new.entries
    → IsNumberedNow (number_among old) (number_among new) id number
kept_among old new id hash number is none has keeps = λ other. by_bytes other (bytes_eq id other) refl
  where
    here : number_among new id ≡ number
    here = ap (λ found. unwrap_or found 0) (rw is at has)

    by_bytes : (other : List ℕ) (b : Bool) → bytes_eq id other ≡ b → number_among new other ≡ cond (b && (number_among old id == 0)) number (number_among old other)
    by_bytes other true same =
        subst (λ o. number_among new o ≡ number) ((bytes_decides id other).0 same) here
        ∙ ap (λ b. cond b number (number_among old other)) (sym (eq-eqb (number_among old id) 0 none))
    by_bytes other false apart = ap (λ found. unwrap_or found 0) (others_stay id other old.entries new.entries apart (rw is at keeps))

-- the number that an id has by what stands at its seat, where the others have `below`
abbrev by_seat : ℕ → List LoadedSlot → List ℕ → ℕ → ℕ → ℕ
by_seat base slots id below seat = cond ((seat == 0) || is_id id (msgid_at base slots seat)) seat below

none_by_free_seat : (base : ℕ) (slots : List LoadedSlot) (id : List ℕ) (below seat : ℕ) → seat ≡ 0 → by_seat base slots id below seat ≡ 0
none_by_free_seat base slots id below seat e = rw e refl

own_by_seat : (base : ℕ) (slots : List LoadedSlot) (id : List ℕ) (below seat : ℕ) → is_id id (msgid_at base slots seat) ≡ true → by_seat base slots id below seat ≡ seat
own_by_seat base slots id below seat own = ap (λ b. cond ((seat == 0) || b) seat below) own ∙ or_true (seat == 0)
  where
    or_true : (b : Bool) → cond (b || true) seat below ≡ seat
    or_true true = refl
    or_true false = refl

below_by_seat : (base : ℕ) (slots : List LoadedSlot) (id : List ℕ) (below seat : ℕ) → seat ≢ 0 → is_id id (msgid_at base slots seat) ≡ false → by_seat base slots id below seat ≡ below
below_by_seat base slots id below seat taken other =
    ap (λ b. cond (b || is_id id (msgid_at base slots seat)) seat below) (ne_eqb seat 0 taken) ∙ ap (λ b. cond b seat below) other

-- at the seat that was filled stands the number
seat_here : (seats : List ℕ) (number : ℕ) (id other : List ℕ) → 0 < length seats → hash_of other % length seats ≡ hash_of id % length seats
    → at_seat (set seats (hash_of id % length seats) number) other ≡ number
seat_here seats number id other some e =
    ap (λ n. get_or (set seats (hash_of id % length seats) number) (hash_of other % n) 0) (length-set seats (hash_of id % length seats) number)
    ∙ ap (λ i. get_or (set seats (hash_of id % length seats) number) i 0) e
    ∙ get_or-set_same seats (hash_of id % length seats) number 0 (mod-lt (hash_of id) some)

-- at another seat stands what stood there
seat_there : (seats : List ℕ) (number : ℕ) (id other : List ℕ) → hash_of other % length seats ≢ hash_of id % length seats
    → at_seat (set seats (hash_of id % length seats) number) other ≡ at_seat seats other
seat_there seats number id other apart =
    ap (λ n. get_or (set seats (hash_of id % length seats) number) (hash_of other % n) 0) (length-set seats (hash_of id % length seats) number)
    ∙ get_or-set_other seats (hash_of id % length seats) (hash_of other % length seats) number 0 apart

-- ids of the same bytes have the same seat
same_seat : (count : ℕ) (id other : List ℕ) → bytes_eq id other ≡ true → hash_of other % count ≡ hash_of id % count
same_seat count id other same = ap (λ bytes. hash_of bytes % count) (sym ((bytes_decides id other).0 same))

-- what is known of the ids before and after one more message has taken the free seat of its id
pub record TakesSeat (base : ℕ) (slots : List LoadedSlot) (old new : Ids) (id : List ℕ) (number : ℕ) : Type 0 where
  pub settled : IsSettled old
  pub some : 1 ≤ number
  pub named : msgid_at base slots number ≡ Some id
  pub free : at_seat old.seats.items id ≡ 0
  pub seats : new.seats.items ≡ set old.seats.items (hash_of id % length old.seats.items) number
  pub others : new.others.numbers ≡ old.others.numbers

-- the ids are as settled as before
pub seat_settled : (base : ℕ) (slots : List LoadedSlot) (old new : Ids) (id : List ℕ) (number : ℕ) → TakesSeat base slots old new id number → IsSettled new
seat_settled base slots old new id number h = record {
  seats = let e : length new.seats.items ≡ length old.seats.items = ap length h.seats ∙ length-set old.seats.items (hash_of id % length old.seats.items) number in rw e h.settled.seats;
  free = λ other none.
      ap (λ others. number_among others other) h.others
      ∙ by_place other (ap (λ (seats : List ℕ). at_seat seats other) (sym h.seats) ∙ none) (cases_eq (hash_of other % length old.seats.items) (hash_of id % length old.seats.items));
}
  where
    by_place : (other : List ℕ) → at_seat (set old.seats.items (hash_of id % length old.seats.items) number) other ≡ 0
        → (hash_of other % length old.seats.items ≡ hash_of id % length old.seats.items) ⊎ (hash_of other % length old.seats.items ≢ hash_of id % length old.seats.items)
        → number_among old.others.numbers other ≡ 0
    by_place other none (inl e) =
        let zero_there : number ≡ 0 = sym (seat_here old.seats.items number id other h.settled.seats e) ∙ none in
        let positive : 1 ≤ number = h.some in
        absurd (omega arith)
    by_place other none (inr apart) = h.settled.free other (sym (seat_there old.seats.items number id other apart) ∙ none)

-- the id has the number now, and the others have theirs
pub seat_kept : (base : ℕ) (slots : List LoadedSlot) (old new : Ids) (id : List ℕ) (number : ℕ) → TakesSeat base slots old new id number
    → IsNumberedNow (number_of base slots old) (number_of base slots new) id number
seat_kept base slots old new id number h = λ other.
    by_place other (cases_eq (hash_of other % length old.seats.items) (hash_of id % length old.seats.items)) (bytes_eq id other) refl
  where
    none : number_of base slots old id ≡ 0
    none = none_by_free_seat base slots id (number_among old.others.numbers id) (at_seat old.seats.items id) h.free

    taken : number ≢ 0
    taken e = let positive : 1 ≤ number = h.some in absurd (omega arith)

    here : (other : List ℕ) → hash_of other % length old.seats.items ≡ hash_of id % length old.seats.items
        → number_of base slots new other ≡ by_seat base slots other (number_among old.others.numbers other) number
    here other e =
        ap (λ others. by_seat base slots other (number_among others other) (at_seat new.seats.items other)) h.others
        ∙ ap (by_seat base slots other (number_among old.others.numbers other)) (ap (λ (seats : List ℕ). at_seat seats other) h.seats ∙ seat_here old.seats.items number id other h.settled.seats e)

    there : (other : List ℕ) → hash_of other % length old.seats.items ≢ hash_of id % length old.seats.items
        → number_of base slots new other ≡ number_of base slots old other
    there other apart =
        ap (λ others. by_seat base slots other (number_among others other) (at_seat new.seats.items other)) h.others
        ∙ ap (by_seat base slots other (number_among old.others.numbers other)) (ap (λ (seats : List ℕ). at_seat seats other) h.seats ∙ seat_there old.seats.items number id other apart)

    named_so : (other : List ℕ) (b : Bool) → bytes_eq id other ≡ b → is_id other (msgid_at base slots number) ≡ b
    named_so other b e = ap (is_id other) h.named ∙ e

    by_place : (other : List ℕ) → (hash_of other % length old.seats.items ≡ hash_of id % length old.seats.items) ⊎ (hash_of other % length old.seats.items ≢ hash_of id % length old.seats.items)
        → (b : Bool) → bytes_eq id other ≡ b
        → number_of base slots new other ≡ cond (b && (number_of base slots old id == 0)) number (number_of base slots old other)
    by_place other (inl e) true same =
        here other e ∙ own_by_seat base slots other (number_among old.others.numbers other) number (named_so other true same)
        ∙ ap (λ b. cond b number (number_of base slots old other)) (sym (eq-eqb (number_of base slots old id) 0 none))
    by_place other (inl e) false apart =
        let free : at_seat old.seats.items other ≡ 0 = ap (λ i. get_or old.seats.items i 0) e ∙ h.free in
        here other e ∙ below_by_seat base slots other (number_among old.others.numbers other) number taken (named_so other false apart)
        ∙ h.settled.free other free
        ∙ sym (none_by_free_seat base slots other (number_among old.others.numbers other) (at_seat old.seats.items other) free)
    by_place other (inr apart) true same = absurd (apart (same_seat (length old.seats.items) id other same))
    by_place other (inr apart) false other_bytes = there other apart

-- what an id that is kept changes is what a slot with that MSGID changes
pub slot_kept : (old new : List ℕ → ℕ) (own : List ℕ) (number place : ℕ) (slots : List LoadedSlot) (slot : LoadedSlot) → slice_get slots place ≡ Some slot
    → Some own ≡ msgid_in (Some slot) → IsNumberedNow old new own number → KeepsLowest old new number (slice_get slots place)
slot_kept old new own number place slots slot at named kept = λ id.
    kept id ∙ ap (λ b. cond b number (old id)) (same_condition id (bytes_eq own id) refl)
    ∙ ap (λ msgid. cond (is_id id msgid && (old id == 0)) number (old id)) (named ∙ ap msgid_in (sym at))
  where
    same_condition : (id : List ℕ) (b : Bool) → bytes_eq own id ≡ b → (b && (old own == 0)) ≡ (b && (old id == 0))
    same_condition id true same = ap (λ bytes. old bytes == 0) ((bytes_decides own id).0 same)
    same_condition id false apart = refl

-- the same, where memory was there
pub slot_kept_on_ok : {T E : Type 0} (result : Result T E) (S : Type 0) (old new : List ℕ → ℕ) (own : List ℕ) (number place : ℕ) (slots : List LoadedSlot) (slot : LoadedSlot)
    → slice_get slots place ≡ Some slot → Some own ≡ msgid_in (Some slot) → OnOk result (S × IsNumberedNow old new own number)
    → OnOk result (S × KeepsLowest old new number (slice_get slots place))
slot_kept_on_ok (Ok value) S old new own number place slots slot at named h = (h.0, slot_kept old new own number place slots slot at named h.1)
slot_kept_on_ok (Err error) S old new own number place slots slot at named h = tt

-- a slot without a MSGID changes nothing
pub nothing_kept : (numbers : List ℕ → ℕ) (number place : ℕ) (slots : List LoadedSlot) (slot : LoadedSlot) → slice_get slots place ≡ Some slot → None ≡ msgid_in (Some slot)
    → KeepsLowest numbers numbers number (slice_get slots place)
nothing_kept numbers number place slots slot at none = λ id.
    ap (λ msgid. cond (is_id id msgid && (numbers id == 0)) number (numbers id)) (none ∙ ap msgid_in (sym at))
