-- The replies of a message that goes, by the lists of the index.
use Rattle.std.proofs.Common.{◌≡◌, ◌≢◌, ◌<◌, ◌≤◌, ◌+◌, ◌-◌, inl, inr, ℕ, nat_lt, Bool, true, false, ◌==◌, cond, List, [], ◌∷◌, ◌++◌, length, get_or, map, refl, sym, ◌∙◌, ap, subst, arith, append-nil, ne_eqb}
use Rattle.std.specs.Prelude.{AllPairs, Contains, Option, Some, None, IsSome, filter, is_none, is_some, not, option_and_then, unwrap_or}
use Rattle.std.specs.List.Sorted.{IsNonDecreasingBy, IsPermutation}
use Rattle.std.proofs.lemmas.Bool.{cases_eq, cases_lt, eqb-false, le-ltb, lt-ltb, not-true}
use Rattle.std.proofs.lemmas.Cmp.{nat_cmp_total}
use Rattle.std.proofs.lemmas.List.Elements.{Contains-append_cases, Contains-append_left, Contains-append_right, Contains-get_or}
use Rattle.std.proofs.lemmas.List.Kept.{AllPairs-cons, AllPairs-filter}
use Rattle.std.proofs.lemmas.List.Sorted.{Contains-permutation, IsPermutation-sym}
use Rattle.jb_bytes.specs.Subfields.{first_of}
use Rattle.jb_bytes.specs.declared.subfield.TheConstants.{MSGID, REPLYID}
use Rattle.jb_state.specs.Links.{Linkable, RisesFrom, is_reply_to, parent_for, parent_of}
use Rattle.jb_state.specs.Loaded.{with_slot_at}
use Rattle.jb_state.specs.Message.{replyid_of}
use Rattle.jb_state.specs.State.{state_of}
use Rattle.jb_state.specs.declared.loaded.Loaded.{Loaded}
use Rattle.jb_state.specs.declared.loaded.LoadedMessage.{LoadedMessage}
use Rattle.jb_state.specs.declared.loaded.LoadedSlot.TheVariants.{Killed}
use Rattle.jb_state.proofs.LinkLaws.{linkables_rise, rises_above}
use Rattle.jb_link.specs.IdLists.{IsIdList, IsNextWith, id_at, id_place}
use Rattle.jb_link.specs.Kept.{IsKeptList}
use Rattle.jb_link.specs.Order.{IsPartWith, id_order, pair_order}
use Rattle.jb_link.specs.Orphans.{AddsOrphans, AreOrphans, IsOrphan, orphan_of, orphans_of, without_one}
use Rattle.jb_link.specs.Part.{part}
use Rattle.jb_state.specs.Plan.{loaded_at}
use Rattle.jb_state.specs.LiveSlots.{IsLive, linkables, loaded_linkable}
use Rattle.jb_link.specs.declared.orphans.Orphan.{Orphan}
use Rattle.jb_link.proofs.AreaLemmas.{killed_names_none, listed_named, named_beside, named_is_in, named_listed}
use Rattle.jb_link.proofs.FoundLemmas.{IsReplyById, listed_reply, live_named, no_parent_by_id, no_parent_kept, parent_as_kept, parent_by_id, reply_has_id, reply_keeps, reply_listed, same_id}
use Rattle.jb_link.proofs.KeptLemmas.{none_there}
use Rattle.jb_link.proofs.IdListLemmas.{id_is_in, known, live_with, there_is}
use Rattle.jb_link.proofs.MemberLemmas.{HasNoTwice, permuted_apart, rising_apart}
use Rattle.jb_link.proofs.OrderLemmas.{hash_order_total, same_ids, same_numbers}
use Rattle.jb_link.proofs.PartLemmas.{filtered, in_filtered, in_mapped, joined_apart, mapped, mapped_rises, rising_same}
use Rattle.jb_link.proofs.SearchLemmas.{has_part, part_has, part_rises}

-- the live messages of an area, and the area with one of them killed
abbrev live_of : Loaded → List Linkable
live_of loaded = linkables [] loaded

abbrev killed : Loaded → ℕ → Loaded
killed loaded number = with_slot_at (number - loaded.base) (Killed 0) loaded

-- the numbers of live messages rise along the list of them
rises_along : (low : ℕ) (live : List Linkable) → RisesFrom low live → AllPairs (λ one other. one.number < other.number) live
rises_along low [] rises = λ i j d before within. absurd (omega arith)
rises_along low (one ∷ live) rises =
    AllPairs-cons (λ (x y : Linkable). x.number < y.number) one live
    (λ k d within. let above : one.number + 1 ≤ (get_or live k d).number = rises_above (one.number + 1) live rises.1 k d within in omega arith)
    (rises_along (one.number + 1) live rises.1)

live_rising : (loaded : Loaded) → AllPairs (λ one other. one.number < other.number) (live_of loaded)
live_rising loaded = rises_along loaded.base (live_of loaded) (linkables_rise (state_of [] loaded))

-- all live messages but one are those of the area in which that is killed
without_is_killed : (loaded : Loaded) (number : ℕ) → loaded.base ≤ number → without_one number (live_of loaded) ≡ live_of (killed loaded number)
without_is_killed loaded number from =
    rising_same (λ one. one.number) (without_one number (live_of loaded)) (live_of (killed loaded number))
    (AllPairs-filter (λ one other. one.number < other.number) (λ one. not (one.number == number)) (live_of loaded) (live_rising loaded))
    (live_rising (killed loaded number)) (λ one. (forth one, back one))
  where
    forth : (one : Linkable) → Contains (without_one number (live_of loaded)) one → Contains (live_of (killed loaded number)) one
    forth one here =
        let was = filtered (λ (x : Linkable). not (x.number == number)) (live_of loaded) one here in
        let named = listed_named loaded one was.0 in
        let live = named_beside loaded number (Killed 0) one.number from (eqb-false one.number number (not-true (one.number == number) was.1)) ∙ named.live in
        subst (Contains (live_of (killed loaded number))) (sym named.is) (named_listed (killed loaded number) one.number named.message live)

    back : (one : Linkable) → Contains (live_of (killed loaded number)) one → Contains (without_one number (live_of loaded)) one
    back one here =
        let named = listed_named (killed loaded number) one here in
        let other : one.number ≢ number = λ is. gone one.number named.message is named.live in
        let live = sym (named_beside loaded number (Killed 0) one.number from other) ∙ named.live in
        in_filtered (λ (x : Linkable). not (x.number == number)) (live_of loaded) one
        (subst (Contains (live_of loaded)) (sym named.is) (named_listed loaded one.number named.message live)) (ap not (ne_eqb one.number number other))
      where
        gone : (n : ℕ) (message : LoadedMessage) → n ≡ number → loaded_at (killed loaded number) n ≡ Some message → ⊥
        gone n message is live = let none = ap (loaded_at (killed loaded number)) is ∙ killed_names_none loaded number 0 from in cc

-- the ids of the others are as they were
id_moves : (kind : ℕ) (loaded : Loaded) (number other : ℕ) → loaded.base ≤ number → other ≢ number → id_at kind (killed loaded number) other ≡ id_at kind loaded other
id_moves kind loaded number other from apart =
    ap (λ found. option_and_then (λ (message : LoadedMessage). first_of kind message.subfields) found) (named_beside loaded number (Killed 0) other from apart)

-- an id in the area with one killed is that of another message
id_beside : (kind : ℕ) (loaded : Loaded) (number other : ℕ) (id : List ℕ) → loaded.base ≤ number → id_at kind (killed loaded number) other ≡ Some id
    → (id_at kind loaded other ≡ Some id) × (other ≢ number)
id_beside kind loaded number other id from has = elim (cases_eq other number) [
  | inl is ↦
      (let none : loaded_at (killed loaded number) other ≡ None = ap (loaded_at (killed loaded number)) is ∙ killed_names_none loaded number 0 from in
      absurd (let live = live_with kind (loaded_at (killed loaded number) other) (known (id_at kind (killed loaded number) other) id has) in let some = live.1 in cc))
  | inr apart ↦ (sym (id_moves kind loaded number other from apart) ∙ has, apart)
]

-- the parent by an id without the least that has it is the next one, where that is lower
heir_parent : (loaded : Loaded) (number : ℕ) (id : List ℕ) (found : Option ℕ) (n kept : ℕ) → loaded.base ≤ number
    → ((other : ℕ) → id_at MSGID loaded other ≡ Some id → number ≤ other) → IsNextWith MSGID loaded id (number + 1) found
    → parent_for (live_of (killed loaded number)) n (Some id) kept ≡ cond (nat_lt (unwrap_or found 0) n) (unwrap_or found 0) 0
heir_parent loaded number id None n kept from least next =
    no_parent_by_id (killed loaded number) n id kept (λ other is.
    let was = id_beside MSGID loaded number other id from is in
    absurd (next other (let low = least other was.0 in let apart = was.1 in omega (arith, low, apart)) was.0))
    ∙ sym (either (nat_lt 0 n))
  where
    either : (b : Bool) → ◌≡◌ {A = ℕ} (cond b 0 0) 0
    either true = refl
    either false = refl
heir_parent loaded number id (Some heir) n kept from least next = elim (cases_lt heir n) [
  | inl below ↦
      parent_by_id (killed loaded number) n id kept heir (record {
        has = id_moves MSGID loaded number heir from (λ e. let above = next.1 in omega arith) ∙ next.0;
        lower = below;
        upto = behind;
      })
      ∙ sym (ap (λ b. cond b heir 0) (lt-ltb heir n below))
  | inr above ↦
      no_parent_by_id (killed loaded number) n id kept (λ other is. let upto = behind other is in omega (arith, upto))
      ∙ sym (ap (λ b. cond b heir 0) (le-ltb heir n above))
]
  where
    behind : (other : ℕ) → id_at MSGID (killed loaded number) other ≡ Some id → heir ≤ other
    behind other is =
        let was = id_beside MSGID loaded number other id from is in
        let low = least other was.0 in
        next.2 other (let apart = was.1 in omega (arith, low, apart)) was.0

-- an orphan by its parts
same_orphan : (one : Orphan) (n parent : ℕ) → n ≡ one.number → parent ≡ one.parent → ◌≡◌ {A = Orphan} (record { number = n; parent = parent }) one
same_orphan one n parent e f = λ i. record { number = e i; parent = f i }

-- one number names one message
same_message : (found : Option LoadedMessage) (one other : LoadedMessage) → found ≡ Some one → found ≡ Some other → one ≡ other
same_message found one other e f = cc

-- the REPLYID of a live message by its number
replyid_there : (loaded : Loaded) (number : ℕ) (message : LoadedMessage) (id : Option (List ℕ)) → loaded_at loaded number ≡ Some message → id_at REPLYID loaded number ≡ id
    → replyid_of message.subfields ≡ id
replyid_there loaded number message id live is =
    sym (ap (λ found. option_and_then (λ (one : LoadedMessage). replyid_of one.subfields) found) live) ∙ is

-- the orphans by an id
abbrev pub heired : ℕ → ℕ → Orphan
heired heir n = record { number = n; parent = cond (nat_lt heir n) heir 0 }

pub orphans_by_id : (loaded : Loaded) (number : ℕ) (id : List ℕ) (found : Option ℕ) (numbers : List ℕ) (from to : ℕ) → 1 ≤ loaded.base → IsLive loaded number
    → loaded.base + length loaded.slots ≤ 4294967295 → id_at MSGID loaded number ≡ Some id → ((other : ℕ) → id_at MSGID loaded other ≡ Some id → number ≤ other)
    → IsNextWith MSGID loaded id (number + 1) found → IsIdList REPLYID loaded numbers
    → IsPartWith id_order (id_place REPLYID loaded) numbers id (number + 1) 4294967295 from to
    → AreOrphans is_some loaded number (map (heired (unwrap_or found 0)) (part from to numbers))
orphans_by_id loaded number id found numbers from to some live high has least next list between = record {
  listed = λ one. (forth one, back one);
  rising = mapped_rises (heired (unwrap_or found 0)) (λ one. one.number) (part from to numbers)
      (part_rises hash_order_total same_ids (id_place REPLYID loaded) numbers id (number + 1) 4294967295 from to list.rising between);
}
  where
    low : loaded.base ≤ number
    low = let named = live_named loaded number live in (named_is_in loaded number named.0 named.1).low

    -- its parent then
    parent_then : (n : ℕ) (message : LoadedMessage) → replyid_of message.subfields ≡ Some id
        → cond (nat_lt (unwrap_or found 0) n) (unwrap_or found 0) 0 ≡ parent_of (without_one number (live_of loaded)) (loaded_linkable n message)
    parent_then n message is =
        sym (heir_parent loaded number id found n message.head.reply_to low least next)
        ∙ ap (λ reply. parent_for (live_of (killed loaded number)) n reply message.head.reply_to) (sym is)
        ∙ ap (λ others. parent_of others (loaded_linkable n message)) (sym (without_is_killed loaded number low))

    orphan : (n : ℕ) → Contains (part from to numbers) n → IsOrphan is_some loaded number (heired (unwrap_or found 0) n)
    orphan n here =
        let was = part_has hash_order_total same_ids (id_place REPLYID loaded) numbers id (number + 1) 4294967295 from to n between here in
        let answers : id_at REPLYID loaded n ≡ Some id = there_is (id_at REPLYID loaded n) id ((list.listed n).0 was.0) was.1 in
        let named = live_with REPLYID (loaded_at loaded n) (known (id_at REPLYID loaded n) id answers) in
        let own : replyid_of named.0.subfields ≡ Some id = replyid_there loaded n named.0 (Some id) named.1 answers in
        record {
          message = named.0;
          reply = record {
            live = named.1;
            parent_is =
                ap (λ reply. parent_for (live_of loaded) n reply named.0.head.reply_to) own
                ∙ parent_by_id loaded n id named.0.head.reply_to number (record { has = has; lower = (let above = was.2 in omega arith); upto = least });
          };
          passes_it = ap is_some own;
          parent_is = parent_then n named.0 own;
        }

    forth : (one : Orphan) → Contains (map (heired (unwrap_or found 0)) (part from to numbers)) one → IsOrphan is_some loaded number one
    forth one here =
        let was = mapped (heired (unwrap_or found 0)) (part from to numbers) one here in
        subst (IsOrphan is_some loaded number) was.2 (orphan was.0 was.1)

    back : (one : Orphan) → IsOrphan is_some loaded number one → Contains (map (heired (unwrap_or found 0)) (part from to numbers)) one
    back one is =
        let by = reply_has_id loaded number one.number is.message (omega (arith, low)) is.reply is.passes_it in
        let same : by.0 ≡ id = same_id (id_at MSGID loaded number) by.0 id by.1.has has in
        let answers : id_at REPLYID loaded one.number ≡ Some id = by.1.answers ∙ ap Some same in
        let there : IsSome (id_at REPLYID loaded one.number) = known (id_at REPLYID loaded one.number) id answers in
        let under = id_is_in REPLYID loaded one.number there in
        let later = by.1.later in
        let own = replyid_there loaded one.number is.message (Some id) is.reply.live answers in
        in_mapped (heired (unwrap_or found 0)) (part from to numbers) one.number one
        (has_part hash_order_total same_ids (id_place REPLYID loaded) numbers id (number + 1) 4294967295 from to one.number between ((list.listed one.number).1 there)
        (ap (λ reply. unwrap_or reply []) answers) (omega (arith, later)) (omega (arith, under, high)))
        (same_orphan one one.number (cond (nat_lt (unwrap_or found 0) one.number) (unwrap_or found 0) 0) refl (parent_then one.number is.message own ∙ sym is.parent_is))

-- nothing answers a message by an id where it has none, or a lower message has it
pub no_orphans : (loaded : Loaded) (number : ℕ) (old : List Orphan) → 1 ≤ number → ((n : ℕ) (id : List ℕ) → IsReplyById loaded number n id → ⊥)
    → AddsOrphans is_some loaded number old old
no_orphans loaded number old some none = record {
  more = [];
  orphans = record {
    listed = λ one. (
      λ here. absurd (omega (arith, here.1)),
      λ is. (let by = reply_has_id loaded number one.number is.message some is.reply is.passes_it in absurd (none one.number by.0 by.1)),
    );
    rising = λ i j d before within. absurd (omega arith);
  };
  is = sym (append-nil old);
}

-- the orphans by a kept number
abbrev pub unheired : ℕ × ℕ → Orphan
unheired pair = record { number = pair.1; parent = 0 }

pub orphans_by_number : (loaded : Loaded) (number : ℕ) (pairs : List (ℕ × ℕ)) (from to : ℕ) → 1 ≤ loaded.base → IsLive loaded number
    → loaded.base + length loaded.slots ≤ 4294967295 → IsKeptList loaded pairs → IsPartWith pair_order (λ pair. pair) pairs number 0 4294967295 from to
    → AreOrphans is_none loaded number (map unheired (part from to pairs))
orphans_by_number loaded number pairs from to some live high list between = record {
  listed = λ one. (forth one, back one);
  rising = mapped_rises unheired (λ one. one.number) (part from to pairs)
      (part_rises nat_cmp_total same_numbers (λ (pair : ℕ × ℕ). pair) pairs number 0 4294967295 from to list.rising between);
}
  where
    named : (message : LoadedMessage) × (loaded_at loaded number ≡ Some message)
    named = live_named loaded number live

    low : loaded.base ≤ number
    low = (named_is_in loaded number named.0 named.1).low

    lives : IsSome (loaded_at loaded number)
    lives = known (loaded_at loaded number) named.0 named.1

    parent_then : (n : ℕ) (message : LoadedMessage) → replyid_of message.subfields ≡ None → message.head.reply_to ≡ number
        → 0 ≡ parent_of (without_one number (live_of loaded)) (loaded_linkable n message)
    parent_then n message none kept =
        sym (no_parent_kept (killed loaded number) n number (λ lower there. gone (killed_names_none loaded number 0 low) there))
        ∙ ap (λ k. parent_for (live_of (killed loaded number)) n None k) (sym kept)
        ∙ ap (λ reply. parent_for (live_of (killed loaded number)) n reply message.head.reply_to) (sym none)
        ∙ ap (λ others. parent_of others (loaded_linkable n message)) (sym (without_is_killed loaded number low))
      where
        gone : {found : Option LoadedMessage} → found ≡ None → IsSome found → ⊥
        gone is there = cc

    orphan : (pair : ℕ × ℕ) → Contains (part from to pairs) pair → IsOrphan is_none loaded number (unheired pair)
    orphan pair here =
        let was = part_has nat_cmp_total same_numbers (λ (p : ℕ × ℕ). p) pairs number 0 4294967295 from to pair between here in
        let reply = list.each pair.0 pair.1 was.0 in
        let keeps = reply.keeps (subst (λ n. IsSome (loaded_at loaded n)) (sym was.1) lives) in
        let kept : keeps.message.head.reply_to ≡ number = keeps.reply_to ∙ was.1 in
        record {
          message = keeps.message;
          reply = record {
            live = keeps.live;
            parent_is =
                ap (λ found. parent_for (live_of loaded) pair.1 found keeps.message.head.reply_to) keeps.no_id
                ∙ ap (parent_for (live_of loaded) pair.1 None) kept
                ∙ parent_as_kept loaded pair.1 number named.0 named.1 (let later = reply.later in let first = was.1 in omega arith);
          };
          passes_it = ap is_none keeps.no_id;
          parent_is = parent_then pair.1 keeps.message keeps.no_id kept;
        }

    forth : (one : Orphan) → Contains (map unheired (part from to pairs)) one → IsOrphan is_none loaded number one
    forth one here =
        let was = mapped unheired (part from to pairs) one here in
        subst (IsOrphan is_none loaded number) was.2 (orphan was.0 was.1)

    back : (one : Orphan) → IsOrphan is_none loaded number one → Contains (map unheired (part from to pairs)) one
    back one is =
        let keeps = reply_keeps loaded number one.number is.message (omega (arith, low)) is.reply is.passes_it in
        let none : replyid_of is.message.subfields ≡ None = none_there (replyid_of is.message.subfields) is.passes_it in
        let under = (named_is_in loaded one.number is.message is.reply.live).high in
        let same : keeps.0.message ≡ is.message = same_message (loaded_at loaded one.number) keeps.0.message is.message keeps.0.live is.reply.live in
        in_mapped unheired (part from to pairs) (number, one.number) one
        (has_part nat_cmp_total same_numbers (λ (p : ℕ × ℕ). p) pairs number 0 4294967295 from to (number, one.number) between
        (list.whole number one.number keeps.1 lives keeps.0) refl (omega arith) (omega (arith, under, high)))
        (same_orphan one one.number 0 refl
        (parent_then one.number is.message none (ap (λ (m : LoadedMessage). m.head.reply_to) (sym same) ∙ keeps.0.reply_to) ∙ sym is.parent_is))

-- any REPLYID, and none
abbrev any : Option (List ℕ) → Bool
any id = true

-- two orphans with one number are one
one_orphan : (loaded : Loaded) (number : ℕ) (one other : Orphan) → IsOrphan any loaded number one → IsOrphan any loaded number other → one.number ≡ other.number → one ≡ other
one_orphan loaded number one other is also same =
    let message : is.message ≡ also.message
    = same_message (loaded_at loaded other.number) is.message also.message (ap (loaded_at loaded) (sym same) ∙ is.reply.live) also.reply.live in
    same_orphan other one.number one.parent same
    (is.parent_is ∙ ap (λ n. parent_of (without_one number (live_of loaded)) (loaded_linkable n is.message)) same
    ∙ ap (λ m. parent_of (without_one number (live_of loaded)) (loaded_linkable other.number m)) message ∙ sym also.parent_is)

-- the orphans of both kinds, sorted, are those that the definition names
pub all_orphans : (loaded : Loaded) (number : ℕ) (first second last : List Orphan) → AddsOrphans is_some loaded number [] first → AddsOrphans is_none loaded number first second
    → IsPermutation second last → IsNonDecreasingBy (λ one. one.number) last → last ≡ orphans_of (live_of loaded) number
all_orphans loaded number first second last by_id by_number moved sorted =
    rising_same (λ one. one.number) last (orphans_of (live_of loaded) number) rising listed_rising (λ one. (λ here. listed one (forth one here), λ here. back one (unlisted one here)))
  where
    A : List Orphan
    A = by_id.more

    B : List Orphan
    B = by_number.more

    joined : second ≡ A ++ B
    joined = by_number.is ∙ ap (λ l. l ++ B) by_id.is

    weaker : (passes : Option (List ℕ) → Bool) (one : Orphan) → IsOrphan passes loaded number one → IsOrphan any loaded number one
    weaker passes one is = record { message = is.message; reply = is.reply; passes_it = refl; parent_is = is.parent_is }

    forth : (one : Orphan) → Contains last one → IsOrphan any loaded number one
    forth one here =
        elim (Contains-append_cases A B one (subst (λ l. Contains l one) joined (Contains-permutation last second one (IsPermutation-sym second last moved) here))) [
          | inl left ↦ weaker is_some one ((by_id.orphans.listed one).0 left)
          | inr right ↦ weaker is_none one ((by_number.orphans.listed one).0 right)
        ]

    back : (one : Orphan) → IsOrphan any loaded number one → Contains last one
    back one is = Contains-permutation second last one moved (subst (λ l. Contains l one) (sym joined) (by_reply (replyid_of is.message.subfields) refl))
      where
        by_reply : (id : Option (List ℕ)) → replyid_of is.message.subfields ≡ id → Contains (A ++ B) one
        by_reply (Some id) e =
            Contains-append_left A B one ((by_id.orphans.listed one).1 (record { message = is.message; reply = is.reply; passes_it = ap is_some e; parent_is = is.parent_is }))
        by_reply None e =
            Contains-append_right A B one ((by_number.orphans.listed one).1 (record { message = is.message; reply = is.reply; passes_it = ap is_none e; parent_is = is.parent_is }))

    common : (one : Orphan) → Contains A one → Contains B one → ⊥
    common one left right =
        let with_id = (by_id.orphans.listed one).0 left in
        let without = (by_number.orphans.listed one).0 right in
        let same : with_id.message ≡ without.message
        = same_message (loaded_at loaded one.number) with_id.message without.message with_id.reply.live without.reply.live in
        never (replyid_of without.message.subfields) (ap (λ (m : LoadedMessage). is_some (replyid_of m.subfields)) (sym same) ∙ with_id.passes_it) without.passes_it
      where
        never : (id : Option (List ℕ)) → is_some id ≡ true → is_none id ≡ true → ⊥
        never None e f = cc
        never (Some id) e f = cc

    once : HasNoTwice last
    once = permuted_apart second last moved (subst HasNoTwice (sym joined)
        (joined_apart A B (rising_apart (λ (one : Orphan). one.number) A by_id.orphans.rising) (rising_apart (λ (one : Orphan). one.number) B by_number.orphans.rising) common))

    rising : AllPairs (λ one other. one.number < other.number) last
    rising i j d before within =
        let upto = sorted i j d (omega arith) within in
        elim (cases_lt (get_or last i d).number (get_or last j d).number) [
          | inl less ↦ less
          | inr not_less ↦
              absurd (once.apart i j d (omega arith) within (λ e. omega arith)
              (one_orphan loaded number (get_or last i d) (get_or last j d) (forth _ (Contains-get_or last i d (omega arith))) (forth _ (Contains-get_or last j d within)) (omega (arith, upto))))
        ]

    listed_rising : AllPairs (λ one other. one.number < other.number) (orphans_of (live_of loaded) number)
    listed_rising = mapped_rises (orphan_of (live_of loaded) number) (λ one. one.number) (filter (is_reply_to (live_of loaded) number) (live_of loaded))
        (AllPairs-filter (λ one other. one.number < other.number) (is_reply_to (live_of loaded) number) (live_of loaded) (live_rising loaded))

    listed : (one : Orphan) → IsOrphan any loaded number one → Contains (orphans_of (live_of loaded) number) one
    listed one is =
        let here = reply_listed loaded number one.number is.message is.reply in
        in_mapped (orphan_of (live_of loaded) number) (filter (is_reply_to (live_of loaded) number) (live_of loaded)) (loaded_linkable one.number is.message) one
        (in_filtered (is_reply_to (live_of loaded) number) (live_of loaded) (loaded_linkable one.number is.message) here.0 here.1)
        (same_orphan one one.number (parent_of (without_one number (live_of loaded)) (loaded_linkable one.number is.message)) refl (sym is.parent_is))

    unlisted : (one : Orphan) → Contains (orphans_of (live_of loaded) number) one → IsOrphan any loaded number one
    unlisted one here =
        let was = mapped (orphan_of (live_of loaded) number) (filter (is_reply_to (live_of loaded) number) (live_of loaded)) one here in
        let passes = filtered (is_reply_to (live_of loaded) number) (live_of loaded) was.0 was.1 in
        let reply = listed_reply loaded number was.0 passes.0 passes.1 in
        let named = listed_named loaded was.0 passes.0 in
        let same : named.message ≡ reply.0 = same_message (loaded_at loaded was.0.number) named.message reply.0 named.live reply.1.live in
        subst (IsOrphan any loaded number) was.2 (record {
          message = reply.0;
          reply = reply.1;
          passes_it = refl;
          parent_is =
              ap (parent_of (without_one number (live_of loaded))) named.is
              ∙ ap (λ m. parent_of (without_one number (live_of loaded)) (loaded_linkable was.0.number m)) same;
        })
