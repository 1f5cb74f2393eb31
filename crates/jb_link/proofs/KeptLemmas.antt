-- The list of pairs of a kept number and its message: what a search finds in it, and what it is after a change.
use Rattle.std.proofs.Common.{◌≡◌, ◌<◌, ◌≤◌, ◌+◌, ◌-◌, inl, inr, ℕ, nat_le, nat_lt, Bool, true, false, ◌&&◌, ◌==◌, cond, List, [], ◌∷◌, ◌++◌, length, get_or, refl, sym, ◌∙◌, ap, subst, arith}
use Rattle.std.specs.Prelude.{All, Contains, Option, Some, None, IsSome, is_none, insert, remove}
use Rattle.std.specs.List.Sorted.{IsPermutation, IsSortedBy}
use Rattle.std.specs.Ordering.{is_lt, nat_cmp, ordering_then}
use Rattle.std.specs.declared.cmp.Ordering.{Ordering}
use Rattle.std.specs.declared.cmp.Ordering.TheVariants.{Less, Equal, Greater}
use Rattle.std.proofs.lemmas.Bool.{and_from, and_parts, cases_eq, cases_lt, eq-eqb, eqb-true, le-leb, leb-true, lt-ltb, ltb-true}
use Rattle.std.proofs.lemmas.Cmp.{nat_cmp_total}
use Rattle.std.proofs.lemmas.List.{get_or_default}
use Rattle.std.proofs.lemmas.List.Elements.{All-contains, Contains-append_left, Contains-get_or, Contains-push, Contains-push_cases}
use Rattle.std.proofs.lemmas.List.Quantifiers.{all_pairs_push, all_pairs_remove}
use Rattle.std.proofs.lemmas.List.Sorted.{Contains-permutation, IsPermutation-sym}
use Rattle.jb_state.specs.Plan.{loaded_at}
use Rattle.jb_state.specs.Message.{replyid_of}
use Rattle.jb_state.specs.declared.loaded.Loaded.{Loaded}
use Rattle.jb_state.specs.declared.loaded.LoadedMessage.{LoadedMessage}
use Rattle.jb_link.proofs.AreaLemmas.{named_is_in, some_named}
use Rattle.jb_link.proofs.MemberLemmas.{HasNoTwice, inserted_cases, inserted_new, inserted_old, permuted_apart, removed_gone, removed_old, removed_rest, rising_apart}
use Rattle.jb_link.proofs.OrderLemmas.{pair_order_total, same_numbers}
use Rattle.jb_link.proofs.RisingLemmas.{found_at_split, inserted_rises, rises_from_sorted}
use Rattle.jb_link.proofs.SearchLemmas.{last_among}
use Rattle.jb_link.specs.Kept.{ArePairsBelow, IsKeptList, IsKeptListBut, IsReplyPair, KeepsReplyTo, LosesPairOf, pair_at, kept_pair}
use Rattle.jb_link.specs.Order.{IsRising, IsSplitAt, pair_order}

-- pairs that stand alike are one
pub same_pair : (one other : ℕ × ℕ) → pair_order one other ≡ Equal → one ≡ other
same_pair one other h = by (nat_cmp one.0 other.0) refl h
  where
    by : (r : Ordering) → nat_cmp one.0 other.0 ≡ r → ordering_then r (nat_cmp one.1 other.1) ≡ Equal → one ≡ other
    by Less e g = cc
    by Equal e g =
        let first = same_numbers one.0 other.0 e in
        let second = same_numbers one.1 other.1 g in
        both first second
      where
        both : one.0 ≡ other.0 → one.1 ≡ other.1 → one ≡ other
        both p q = λ i. (p i, q i)
    by Greater e g = cc

-- what a message's pair says of it
pub record HasPair (base number : ℕ) (message : LoadedMessage) (pair : ℕ × ℕ) : Type 0 where
  pub no_id : replyid_of message.subfields ≡ None
  pub low : base ≤ message.head.reply_to
  pub later : message.head.reply_to < number
  pub is : ◌≡◌ {A = ℕ × ℕ} (message.head.reply_to, number) pair

pub none_there : (id : Option (List ℕ)) → is_none id ≡ true → id ≡ None
none_there None h = refl
none_there (Some id) h = cc

pair_parts : (base number : ℕ) (message : LoadedMessage) (pair : ℕ × ℕ) → kept_pair base number (Some message) ≡ Some pair → HasPair base number message pair
pair_parts base number message pair h =
    by (is_none (replyid_of message.subfields) && nat_le base message.head.reply_to && nat_lt message.head.reply_to number) refl h
  where
    inside : (one other : ℕ × ℕ) → Some one ≡ Some other → one ≡ other
    inside one other e = cc

    by : (b : Bool) → (is_none (replyid_of message.subfields) && nat_le base message.head.reply_to && nat_lt message.head.reply_to number) ≡ b
        → cond b (Some (message.head.reply_to, number)) None ≡ Some pair → HasPair base number message pair
    by true e g =
        let parts = and_parts _ _ e in
        let front = and_parts _ _ parts.0 in
        record {
          no_id = none_there _ front.0;
          low = leb-true _ _ front.1;
          later = ltb-true _ _ parts.1;
          is = inside _ _ g;
        }
    by false e g = cc

-- a number that has a pair names a message
pub record IsPairOf (loaded : Loaded) (number : ℕ) (pair : ℕ × ℕ) : Type 0 where
  pub message : LoadedMessage
  pub live : loaded_at loaded number ≡ Some message
  pub has : HasPair loaded.base number message pair

pub pair_is_of : (loaded : Loaded) (number : ℕ) (pair : ℕ × ℕ) → pair_at loaded number ≡ Some pair → IsPairOf loaded number pair
pair_is_of loaded number pair h = by (loaded_at loaded number) refl h
  where
    by : (found : Option LoadedMessage) → loaded_at loaded number ≡ found → kept_pair loaded.base number found ≡ Some pair → IsPairOf loaded number pair
    by None e g = cc
    by (Some message) e g = record { message = message; live = e; has = pair_parts loaded.base number message pair g }

-- its second number is the message's
pub second_is : (loaded : Loaded) (number : ℕ) (pair : ℕ × ℕ) → pair_at loaded number ≡ Some pair → number ≡ pair.1
second_is loaded number pair h = ap (λ (p : ℕ × ℕ). p.1) (pair_is_of loaded number pair h).has.is

-- the pair of a message is one of a reply
pub pair_replies : (loaded : Loaded) (number kept other : ℕ) → pair_at loaded number ≡ Some (kept, other) → IsReplyPair loaded kept other
pair_replies loaded number kept other h =
    let of = pair_is_of loaded number (kept, other) h in
    let first : of.message.head.reply_to ≡ kept = ap (λ (p : ℕ × ℕ). p.0) of.has.is in
    let second : number ≡ other = ap (λ (p : ℕ × ℕ). p.1) of.has.is in
    record {
      later = omega (arith, first, second, of.has.later);
      there = omega (arith, second, (named_is_in loaded number of.message of.live).high);
      keeps = λ live. record { message = of.message; live = ap (loaded_at loaded) (sym second) ∙ of.live; no_id = of.has.no_id; reply_to = first };
    }

-- and a later message that keeps a live number has that pair
pub keeps_pair : (loaded : Loaded) (kept number : ℕ) → kept < number → IsSome (loaded_at loaded kept) → KeepsReplyTo loaded kept number → pair_at loaded number ≡ Some (kept, number)
keeps_pair loaded kept number later live keeps =
    let some = some_named (loaded_at loaded kept) live in
    let low = (named_is_in loaded kept some.0 some.1).low in
    let no_id : is_none (replyid_of keeps.message.subfields) ≡ true = ap is_none keeps.no_id in
    let from : nat_le loaded.base keeps.message.head.reply_to ≡ true = le-leb _ _ (omega (arith, low, keeps.reply_to)) in
    let to : nat_lt keeps.message.head.reply_to number ≡ true = lt-ltb _ _ (omega (arith, later, keeps.reply_to)) in
    ap (kept_pair loaded.base number) keeps.live
    ∙ ap (λ b. cond b (Some (keeps.message.head.reply_to, number)) None) (and_from _ _ (and_from _ _ no_id from) to)
    ∙ ap (λ k. Some (k, number)) keeps.reply_to

-- a message has one pair
one_pair : (found : Option (ℕ × ℕ)) (one other : ℕ × ℕ) → found ≡ Some one → found ≡ Some other → one ≡ other
one_pair found one other h g = cc

-- the pairs of one message more
pub pairs_more : (loaded : Loaded) (end : ℕ) (pair : ℕ × ℕ) (pairs : List (ℕ × ℕ)) → ArePairsBelow loaded end pairs → pair_at loaded end ≡ Some pair
    → ArePairsBelow loaded (end + 1) (pairs ++ pair ∷ [])
pairs_more loaded end pair pairs below is = record {
  listed = λ kept number. (
    λ here. elim (Contains-push_cases pairs pair (kept, number) here) [
      | inl old ↦ (let was = (below.listed kept number).0 old in (omega (arith, was.0), was.1))
      | inr new ↦
          (let second : end ≡ number = second_is loaded end pair is ∙ ap (λ (p : ℕ × ℕ). p.1) new in
          (omega (arith, second), ap (pair_at loaded) (sym second) ∙ is ∙ ap Some new))
    ],
    λ there. elim (cases_lt number end) [
      | inl lower ↦ Contains-append_left pairs (pair ∷ []) (kept, number) ((below.listed kept number).1 (lower, there.1))
      | inr reached ↦
          (let last : end ≡ number = omega (arith, there.0) in
          let same : pair ≡ (kept, number) = one_pair (pair_at loaded number) pair (kept, number) (ap (pair_at loaded) (sym last) ∙ is) there.1 in
          subst (λ p. Contains (pairs ++ pair ∷ []) p) same (Contains-push pairs pair))
    ],
  );
  rising = all_pairs_push (λ (one other : ℕ × ℕ). one.1 < other.1) pairs pair below.rising (λ k d within.
      let was = (below.listed (get_or pairs k d).0 (get_or pairs k d).1).0 (Contains-get_or pairs k d within) in
      let second = second_is loaded end pair is in
      omega (arith, was.0, second));
}

pub pairs_same : (loaded : Loaded) (end : ℕ) (pairs : List (ℕ × ℕ)) → ArePairsBelow loaded end pairs → pair_at loaded end ≡ None → ArePairsBelow loaded (end + 1) pairs
pairs_same loaded end pairs below none = record {
  listed = λ kept number. (
    λ here. (let was = (below.listed kept number).0 here in (omega (arith, was.0), was.1)),
    λ there. elim (cases_lt number end) [
      | inl lower ↦ (below.listed kept number).1 (lower, there.1)
      | inr reached ↦ absurd (let last : end ≡ number = omega (arith, there.0) in let there_none = ap (pair_at loaded) (sym last) ∙ none in let some = there.1 in cc)
    ],
  );
  rising = below.rising;
}

-- the pairs of all messages, once they are sorted
pub pairs_sorted : (loaded : Loaded) (pairs sorted : List (ℕ × ℕ)) → ArePairsBelow loaded (loaded.base + length loaded.slots) pairs → IsPermutation pairs sorted
    → IsSortedBy (λ one other. is_lt (pair_order one other)) sorted → IsKeptList loaded sorted
pairs_sorted loaded pairs sorted below moved rises =
    let once : HasNoTwice sorted = permuted_apart pairs sorted moved (rising_apart (λ (p : ℕ × ℕ). p.1) pairs below.rising) in
    record {
      each = λ kept number here.
          pair_replies loaded number kept number ((below.listed kept number).0 (Contains-permutation sorted pairs (kept, number) (IsPermutation-sym pairs sorted moved) here)).1;
      whole = λ kept number later live keeps.
          Contains-permutation pairs sorted (kept, number) moved
          ((below.listed kept number).1 ((named_is_in loaded number keeps.message keeps.live).high, keeps_pair loaded kept number later live keeps));
      rising = rises_from_sorted pair_order_total (λ pair. pair) sorted rises
          (λ i j d before within e. once.apart i j d (omega arith) within (λ k. omega arith) (same_pair (get_or sorted i d) (get_or sorted j d) e));
    }

-- a pair that is put into its place
pub pair_put : (loaded : Loaded) (number : ℕ) (pair : ℕ × ℕ) (pairs : List (ℕ × ℕ)) (at : ℕ) → IsKeptListBut loaded number pairs → pair_at loaded number ≡ Some pair
    → IsSplitAt pair_order (λ p. p) pairs pair at → IsKeptList loaded (insert pairs at pair)
pair_put loaded number pair pairs at but is split = record {
  each = λ kept other here. elim (inserted_cases pairs at pair (kept, other) here) [
    | inl new ↦ pair_replies loaded number kept other (is ∙ ap Some new)
    | inr old ↦ (but.each kept other old).0
  ];
  whole = λ kept other later live keeps. elim (cases_eq other number) [
    | inl last ↦
        inserted_new pairs at pair (kept, other)
        (one_pair (pair_at loaded other) pair (kept, other) (ap (pair_at loaded) last ∙ is) (keeps_pair loaded kept other later live keeps))
    | inr apart ↦ inserted_old pairs at pair (kept, other) (but.whole kept other apart later live keeps)
  ];
  rising = inserted_rises pair_order_total (λ p. p) pairs pair at but.rising split
      (λ one here e. (but.each one.0 one.1 here).1 (ap (λ (p : ℕ × ℕ). p.1) (same_pair one pair e) ∙ sym (second_is loaded number pair is)));
}

-- a message without one leaves the others
pub pair_not_put : (loaded : Loaded) (number : ℕ) (pairs : List (ℕ × ℕ)) → IsKeptListBut loaded number pairs → pair_at loaded number ≡ None → IsKeptList loaded pairs
pair_not_put loaded number pairs but none = record {
  each = λ kept other here. (but.each kept other here).0;
  whole = λ kept other later live keeps. elim (cases_eq other number) [
    | inl last ↦ absurd (let some = keeps_pair loaded kept other later live keeps in let there_none = ap (pair_at loaded) last ∙ none in cc)
    | inr apart ↦ but.whole kept other apart later live keeps
  ];
  rising = but.rising;
}

-- a pair that is taken out of its place
pub pair_taken : (loaded : Loaded) (number : ℕ) (pair : ℕ × ℕ) (pairs : List (ℕ × ℕ)) (at : ℕ) → IsRising pair_order (λ p. p) pairs → pair_at loaded number ≡ Some pair
    → at < length pairs → ((d : ℕ × ℕ) → get_or pairs at d ≡ pair) → LosesPairOf loaded number pairs (remove pairs at)
pair_taken loaded number pair pairs at rising is within here = record {
  each = λ kept other there. (
    removed_old pairs at (kept, other) within there,
    λ e. removed_gone pair_order_total (λ p. p) pairs at pair rising within here
        (subst (λ p. Contains (remove pairs at) p) (one_pair (pair_at loaded number) (kept, other) pair e is) there),
  );
  whole = λ kept other there apart.
      removed_rest pairs at pair (kept, other) within here there (λ e. apart (ap (λ (p : ℕ × ℕ). p.1) e ∙ sym (second_is loaded number pair is)));
  rising = all_pairs_remove (λ one other. pair_order one other ≡ Less) pairs at within rising;
}

-- one that does not stand where it would is not in the list
pub pair_not_taken : (loaded : Loaded) (number : ℕ) (pair : ℕ × ℕ) (pairs : List (ℕ × ℕ)) (at : ℕ) → IsRising pair_order (λ p. p) pairs → pair_at loaded number ≡ Some pair
    → IsSplitAt pair_order (λ p. p) pairs pair at → (at < length pairs → ((d : ℕ × ℕ) → get_or pairs at d ≡ pair) → ⊥) → LosesPairOf loaded number pairs pairs
pair_not_taken loaded number pair pairs at rising is split other = record {
  each = λ kept one here. (
    here,
    λ e.
        let same : (kept, one) ≡ pair = one_pair (pair_at loaded number) (kept, one) pair e is in
        let found = found_at_split pair_order_total (λ p. p) pairs pair at rising split (subst (λ p. Contains pairs p) same here) in
        other found.0 found.1,
  );
  whole = λ kept one here apart. here;
  rising = rising;
}

-- where a search for a kept number with a number above all ends
pub record IsLastPair (pairs : List (ℕ × ℕ)) (kept at other : ℕ) : Type 0 where
  pub some : 0 < at
  pub has : (d : ℕ × ℕ) → (get_or pairs (at - 1) d).0 ≡ kept
  pub from : (d : ℕ × ℕ) → other ≤ (get_or pairs (at - 1) d).1

pub last_pair : (pairs : List (ℕ × ℕ)) (kept top at other : ℕ) → IsRising pair_order (λ p. p) pairs → IsSplitAt pair_order (λ p. p) pairs (kept, top) at
    → All (λ (p : ℕ × ℕ). p.1 < top) pairs → Contains pairs (kept, other) → IsLastPair pairs kept at other
last_pair pairs kept top at other rising split below here =
    let high = All-contains (λ (p : ℕ × ℕ). p.1 < top) pairs (kept, other) below here in
    let last = last_among nat_cmp_total same_numbers (λ (p : ℕ × ℕ). p) pairs kept top at (kept, other) rising split here refl high in
    let inside : at - 1 < length pairs = omega (arith, last.0, split.within) in
    record {
      some = last.0;
      has = λ d. ap (λ (p : ℕ × ℕ). p.0) (get_or_default pairs (at - 1) d (kept, other) inside) ∙ last.1.0;
      from = λ d. subst (λ (p : ℕ × ℕ). other ≤ p.1) (sym (get_or_default pairs (at - 1) d (kept, other) inside)) last.1.1;
    }

-- what is not some is none
pub not_some : {X : Type 0} (found : Option X) → ((x : X) → found ≡ Some x → ⊥) → found ≡ None
not_some None h = refl
not_some (Some x) h = absurd (h x refl)

-- two pairs are one where their parts are
pub pairs_alike : (one other : ℕ × ℕ) → ((one.0 == other.0) && (one.1 == other.1)) ≡ true → one ≡ other
pairs_alike one other h =
    let parts = and_parts _ _ h in
    let first = eqb-true one.0 other.0 parts.0 in
    let second = eqb-true one.1 other.1 parts.1 in
    both first second
  where
    both : one.0 ≡ other.0 → one.1 ≡ other.1 → one ≡ other
    both p q = λ i. (p i, q i)

pub parts_alike : (one other : ℕ × ℕ) → one ≡ other → ((one.0 == other.0) && (one.1 == other.1)) ≡ true
parts_alike one other h = and_from _ _ (eq-eqb one.0 other.0 (ap (λ (p : ℕ × ℕ). p.0) h)) (eq-eqb one.1 other.1 (ap (λ (p : ℕ × ℕ). p.1) h))
