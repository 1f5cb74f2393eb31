-- The lists of ids: what a search finds in one, and what it is after a change.
use Rattle.std.proofs.Common.{◌≡◌, ◌<◌, ◌≤◌, ◌+◌, ◌-◌, inl, inr, ℕ, true, false, List, [], ◌∷◌, ◌++◌, length, get_or, refl, sym, ◌∙◌, ap, subst, arith}
use Rattle.std.specs.Prelude.{Contains, Option, Some, None, IsSome, is_some, insert, remove, option_and_then, unwrap_or}
use Rattle.std.specs.List.Sorted.{IsPermutation, IsSortedBy}
use Rattle.std.specs.Ordering.{is_lt, nat_cmp, ordering_then}
use Rattle.std.specs.declared.cmp.Ordering.{Ordering}
use Rattle.std.specs.declared.cmp.Ordering.TheVariants.{Less, Equal, Greater}
use Rattle.std.proofs.lemmas.Bool.{cases_eq, cases_lt}
use Rattle.std.proofs.lemmas.List.{get_or_default}
use Rattle.std.proofs.lemmas.List.Elements.{Contains-append_left, Contains-get_or, Contains-push, Contains-push_cases}
use Rattle.std.proofs.lemmas.List.Quantifiers.{all_pairs_push, all_pairs_remove}
use Rattle.std.proofs.lemmas.List.Sorted.{Contains-permutation, IsPermutation-sym}
use Rattle.std.proofs.lemmas.Slice.Eq.{bytes_eq-Decides}
use Rattle.jb_bytes.specs.Subfields.{first_of}
use Rattle.jb_state.specs.Plan.{loaded_at}
use Rattle.jb_state.specs.Links.{is_id}
use Rattle.jb_state.specs.declared.loaded.Loaded.{Loaded}
use Rattle.jb_state.specs.declared.loaded.LoadedMessage.{LoadedMessage}
use Rattle.jb_link.proofs.AreaLemmas.{named_is_in}
use Rattle.jb_link.proofs.MemberLemmas.{HasNoTwice, inserted_cases, inserted_new, inserted_old, permuted_apart, removed_gone, removed_old, removed_rest, rising_apart}
use Rattle.jb_link.proofs.OrderLemmas.{hash_order_total, id_order_total, same_ids, same_numbers}
use Rattle.jb_link.proofs.RisingLemmas.{found_at_split, inserted_rises, rises_from_sorted}
use Rattle.jb_link.proofs.SearchLemmas.{first_among, from_level, last_among}
use Rattle.jb_link.specs.IdLists.{AreIdsBelow, IsIdList, IsIdListBut, IsLeastWith, IsNextWith, id_at, id_place}
use Rattle.jb_link.specs.Order.{IsSplitAt, hash_order, id_order}

-- an id that is there and has these bytes
pub has_bytes : (id : List ℕ) (found : Option (List ℕ)) → is_id id found ≡ true → found ≡ Some id
has_bytes id None h = cc
has_bytes id (Some other) h = ap Some ((bytes_eq-Decides other id).0 h)

pub bytes_had : (id : List ℕ) (found : Option (List ℕ)) → found ≡ Some id → is_id id found ≡ true
bytes_had id None h = cc
bytes_had id (Some other) h = let same : other ≡ id = cc in (bytes_eq-Decides other id).1 same

-- an id that is there has the bytes that it is taken for
pub there_is : (found : Option (List ℕ)) (id : List ℕ) → IsSome found → unwrap_or found [] ≡ id → found ≡ Some id
there_is None id some is = cc
there_is (Some other) id some is = ap Some is

-- a live message has the id
pub live_with : (kind : ℕ) (found : Option LoadedMessage) → IsSome (option_and_then (λ message. first_of kind message.subfields) found) → (message : LoadedMessage) × (found ≡ Some message)
live_with kind None h = cc
live_with kind (Some message) h = (message, refl)

-- a number with an id stands in the area
pub id_is_in : (kind : ℕ) (loaded : Loaded) (number : ℕ) → IsSome (id_at kind loaded number) → number < loaded.base + length loaded.slots
id_is_in kind loaded number h =
    let live = live_with kind (loaded_at loaded number) h in
    (named_is_in loaded number live.0 live.1).high

-- that it is known is that it is some
pub known : {X : Type 0} (found : Option X) (x : X) → found ≡ Some x → IsSome found
known None x h = cc
known (Some y) x h = refl

-- where a search for an id with a number ends, if some number from that on has it
pub record IsFirstWith (kind : ℕ) (loaded : Loaded) (id : List ℕ) (numbers : List ℕ) (at other : ℕ) : Type 0 where
  pub within : at < length numbers
  pub has : (d : ℕ) → id_at kind loaded (get_or numbers at d) ≡ Some id
  pub upto : (d : ℕ) → get_or numbers at d ≤ other

pub first_with : (kind : ℕ) (loaded : Loaded) (id : List ℕ) (numbers : List ℕ) (low at other : ℕ) → IsIdList kind loaded numbers
    → IsSplitAt id_order (id_place kind loaded) numbers (id, low) at → low ≤ other → id_at kind loaded other ≡ Some id → IsFirstWith kind loaded id numbers at other
first_with kind loaded id numbers low at other list split high is =
    let here : Contains numbers other = (list.listed other).1 (known (id_at kind loaded other) id is) in
    let first = first_among hash_order_total same_ids (id_place kind loaded) numbers id low at other list.rising split here (ap (λ found. unwrap_or found []) is) high in
    let some : IsSome (id_at kind loaded (get_or numbers at other)) = (list.listed (get_or numbers at other)).0 (Contains-get_or numbers at other first.0) in
    record {
      within = first.0;
      has = λ d. ap (id_at kind loaded) (get_or_default numbers at d other first.0) ∙ there_is _ id some first.1.0;
      upto = λ d. subst (λ n. n ≤ other) (sym (get_or_default numbers at d other first.0)) first.1.1;
    }

-- a number with the id that stands where the search for it with a lower number ends, or behind that
pub not_lower : (kind : ℕ) (loaded : Loaded) (id : List ℕ) (numbers : List ℕ) (low at number : ℕ) → IsSplitAt id_order (id_place kind loaded) numbers (id, low) at
    → at < length numbers → get_or numbers at number ≡ number → id_at kind loaded number ≡ Some id → low ≤ number
not_lower kind loaded id numbers low at number split within is has =
    from_level hash_order_total same_ids (id_place kind loaded) (id_place kind loaded number) id low
    (ap (λ n. is_lt (id_order (id_place kind loaded n) (id, low))) (sym is) ∙ split.rest at number (omega arith) within) (ap (λ found. unwrap_or found []) has)

-- the least number of all is the least from 0 on
pub least_from_next : (kind : ℕ) (loaded : Loaded) (id : List ℕ) (found : Option ℕ) → IsNextWith kind loaded id 0 found → IsLeastWith kind loaded id found
least_from_next kind loaded id None next = λ other is. next other (omega arith) is
least_from_next kind loaded id (Some number) next = (next.0, λ other is. next.2 other (omega arith) is)

-- where one for an id with a number above all ends
pub record IsLastWith (kind : ℕ) (loaded : Loaded) (id : List ℕ) (numbers : List ℕ) (at other : ℕ) : Type 0 where
  pub some : 0 < at
  pub has : (d : ℕ) → id_at kind loaded (get_or numbers (at - 1) d) ≡ Some id
  pub from : (d : ℕ) → other ≤ get_or numbers (at - 1) d

pub last_with : (kind : ℕ) (loaded : Loaded) (id : List ℕ) (numbers : List ℕ) (top at other : ℕ) → IsIdList kind loaded numbers
    → IsSplitAt id_order (id_place kind loaded) numbers (id, top) at → loaded.base + length loaded.slots ≤ top → id_at kind loaded other ≡ Some id
    → IsLastWith kind loaded id numbers at other
last_with kind loaded id numbers top at other list split high is =
    let some : IsSome (id_at kind loaded other) = known (id_at kind loaded other) id is in
    let here : Contains numbers other = (list.listed other).1 some in
    let below = id_is_in kind loaded other some in
    let last = last_among hash_order_total same_ids (id_place kind loaded) numbers id top at other list.rising split here (ap (λ found. unwrap_or found []) is) (omega arith) in
    let inside : at - 1 < length numbers = omega (arith, last.0, split.within) in
    let there : IsSome (id_at kind loaded (get_or numbers (at - 1) other)) = (list.listed (get_or numbers (at - 1) other)).0 (Contains-get_or numbers (at - 1) other inside) in
    record {
      some = last.0;
      has = λ d. ap (id_at kind loaded) (get_or_default numbers (at - 1) d other inside) ∙ there_is _ id there last.1.0;
      from = λ d. subst (λ n. other ≤ n) (sym (get_or_default numbers (at - 1) d other inside)) last.1.1;
    }

-- places that are alike are of one number
same_place : (kind : ℕ) (loaded : Loaded) (one other : ℕ) → id_order (id_place kind loaded one) (id_place kind loaded other) ≡ Equal → one ≡ other
same_place kind loaded one other h = by (hash_order (id_place kind loaded one).0 (id_place kind loaded other).0) h
  where
    by : (r : Ordering) → ordering_then r (nat_cmp one other) ≡ Equal → one ≡ other
    by Less e = cc
    by Equal e = same_numbers one other e
    by Greater e = cc

-- the place of a number with this id
placed : (kind : ℕ) (loaded : Loaded) (number : ℕ) (id : List ℕ) → id_at kind loaded number ≡ Some id → ◌≡◌ {A = List ℕ × ℕ} (id, number) (id_place kind loaded number)
placed kind loaded number id is =
    let place : Option (List ℕ) → List ℕ × ℕ = λ found. (unwrap_or found [], number) in
    ap place (sym is)

-- a number that is put into its place
pub id_put : (kind : ℕ) (loaded : Loaded) (number : ℕ) (id : List ℕ) (numbers : List ℕ) (at : ℕ) → IsIdListBut kind loaded number numbers
    → id_at kind loaded number ≡ Some id → IsSplitAt id_order (id_place kind loaded) numbers (id, number) at → IsIdList kind loaded (insert numbers at number)
id_put kind loaded number id numbers at but is split = record {
  listed = λ one. (
    λ here. elim (inserted_cases numbers at number one here) [
      | inl new ↦ subst (λ n. IsSome (id_at kind loaded n)) new (known (id_at kind loaded number) id is)
      | inr old ↦ ((but.listed one).0 old).0
    ],
    λ some. elim (cases_eq number one) [
      | inl new ↦ inserted_new numbers at number one new
      | inr old ↦ inserted_old numbers at number one ((but.listed one).1 (some, λ e. old (sym e)))
    ],
  );
  rising = inserted_rises id_order_total (id_place kind loaded) numbers number at but.rising
      (subst (λ place. IsSplitAt id_order (id_place kind loaded) numbers place at) (placed kind loaded number id is) split)
      (λ one here e. ((but.listed one).0 here).1 (same_place kind loaded one number e));
}

-- a number that is taken out of its place
pub id_taken : (kind : ℕ) (loaded : Loaded) (number : ℕ) (id : List ℕ) (numbers : List ℕ) (at : ℕ) → IsIdList kind loaded numbers
    → id_at kind loaded number ≡ Some id → IsSplitAt id_order (id_place kind loaded) numbers (id, number) at
    → (at < length numbers) × IsIdListBut kind loaded number (remove numbers at)
id_taken kind loaded number id numbers at list is split =
    let here : Contains numbers number = (list.listed number).1 (known (id_at kind loaded number) id is) in
    let found = found_at_split id_order_total (id_place kind loaded) numbers number at list.rising
    (subst (λ place. IsSplitAt id_order (id_place kind loaded) numbers place at) (placed kind loaded number id is) split) here in (
      found.0,
      record {
        listed = λ one. (
          λ there. (
            (list.listed one).0 (removed_old numbers at one found.0 there),
            λ e. removed_gone id_order_total (id_place kind loaded) numbers at number list.rising found.0 found.1 (subst (λ n. Contains (remove numbers at) n) e there),
          ),
          λ some. removed_rest numbers at number one found.0 found.1 ((list.listed one).1 some.0) some.1,
        );
        rising = all_pairs_remove (λ a b. id_order (id_place kind loaded a) (id_place kind loaded b) ≡ Less) numbers at found.0 list.rising;
      },
    )

-- one number more, with an id and without
pub ids_more : (kind : ℕ) (loaded : Loaded) (end : ℕ) (numbers : List ℕ) → AreIdsBelow kind loaded end numbers → IsSome (id_at kind loaded end) → AreIdsBelow kind loaded (end + 1) (numbers ++ end ∷ [])
ids_more kind loaded end numbers below some = record {
  listed = λ one. (
    λ here. elim (Contains-push_cases numbers end one here) [
      | inl old ↦ (let was = (below.listed one).0 old in (omega (arith, was.0), was.1))
      | inr new ↦ ((omega arith), subst (λ n. IsSome (id_at kind loaded n)) new some)
    ],
    λ there. elim (cases_lt one end) [
      | inl lower ↦ Contains-append_left numbers (end ∷ []) one ((below.listed one).1 (lower, there.1))
      | inr reached ↦ subst (λ n. Contains (numbers ++ end ∷ []) n) (let is : end ≡ one = omega (arith, there.0) in is) (Contains-push numbers end)
    ],
  );
  rising = all_pairs_push ◌<◌ numbers end below.rising (λ k d within. ((below.listed (get_or numbers k d)).0 (Contains-get_or numbers k d within)).0);
}

pub ids_same : (kind : ℕ) (loaded : Loaded) (end : ℕ) (numbers : List ℕ) → AreIdsBelow kind loaded end numbers → is_some (id_at kind loaded end) ≡ false → AreIdsBelow kind loaded (end + 1) numbers
ids_same kind loaded end numbers below none = record {
  listed = λ one. (
    λ here. (let was = (below.listed one).0 here in (omega (arith, was.0), was.1)),
    λ there. elim (cases_lt one end) [
      | inl lower ↦ (below.listed one).1 (lower, there.1)
      | inr reached ↦ absurd (let some = subst (λ n. IsSome (id_at kind loaded n)) (let is : one ≡ end = omega (arith, there.0) in is) there.1 in cc)
    ],
  );
  rising = below.rising;
}

-- the numbers of all ids, once they are sorted
pub ids_sorted : (kind : ℕ) (loaded : Loaded) (numbers sorted : List ℕ) → AreIdsBelow kind loaded (loaded.base + length loaded.slots) numbers → IsPermutation numbers sorted
    → IsSortedBy (λ one other. is_lt (id_order (id_place kind loaded one) (id_place kind loaded other))) sorted → IsIdList kind loaded sorted
ids_sorted kind loaded numbers sorted below moved rises =
    let once : HasNoTwice sorted = permuted_apart numbers sorted moved (rising_apart (λ n. n) numbers below.rising) in
    record {
      listed = λ one. (
        λ here. ((below.listed one).0 (Contains-permutation sorted numbers one (IsPermutation-sym numbers sorted moved) here)).1,
        λ some. Contains-permutation numbers sorted one moved ((below.listed one).1 (id_is_in kind loaded one some, some)),
      );
      rising = rises_from_sorted id_order_total (id_place kind loaded) sorted rises
          (λ i j d before within e. once.apart i j d (omega arith) within (λ k. omega arith) (same_place kind loaded (get_or sorted i d) (get_or sorted j d) e));
    }
