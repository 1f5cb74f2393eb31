-- The parent of a message and the last reply to one, by the numbers of messages.
use Rattle.std.proofs.Common.{◌≡◌, ◌<◌, ◌≤◌, ◌+◌, ◌-◌, ◌⊎◌, inl, inr, ℕ, nat_lt, Bool, true, false, ◌==◌, List, [], length, reverse, find, refl, sym, ◌∙◌, ap, subst, arith}
use Rattle.std.specs.Borrow.{Bor}
use Rattle.std.specs.Option.{option_eq}
use Rattle.std.specs.Prelude.{nat_eq, not, option_map, slice_get, Contains, Option, Some, None, IsSome, is_none, is_some, option_and_then, unwrap_or}
use Rattle.std.proofs.lemmas.Bool.{and_from, and_parts, both_ways, not-true, not-false, cases_lt, eq-eqb, eqb-true, lt-ltb, ltb-true}
use Rattle.std.proofs.lemmas.List.Elements.{All-contains}
use Rattle.jb_bytes.specs.declared.subfield.TheConstants.{MSGID, REPLYID}
use Rattle.jb_state.specs.Plan.{loaded_at}
use Rattle.jb_state.specs.LiveSlots.{IsLive, linkables, loaded_linkable, message_in}
use Rattle.jb_link.proofs.LiveLemmas.{live_from_stands, stands_from_live}
use Rattle.jb_state.specs.Links.{IsGreatest, IsLeast, Linkable, is_answered_by, is_id, is_kept_by, is_reply_to, last_reply_of, number_or_0, parent_at, parent_for, parent_of}
use Rattle.jb_state.specs.Message.{msgid_of, replyid_of}
use Rattle.jb_state.specs.State.{state_of}
use Rattle.jb_state.specs.declared.loaded.Loaded.{Loaded}
use Rattle.jb_state.specs.declared.loaded.LoadedMessage.{LoadedMessage}
use Rattle.jb_state.specs.declared.loaded.LoadedSlot.TheVariants.{Live}
use Rattle.jb_state.proofs.LinkLaws.{found_is_least, last_is_greatest, linkables_rise}
use Rattle.jb_state.proofs.ThreadLaws.{parent_at_is_lower}
use Rattle.jb_link.proofs.AreaLemmas.{by_place, listed_named, named_is_in, named_listed, some_named}
use Rattle.jb_link.proofs.IdListLemmas.{bytes_had, has_bytes, known, live_with}
use Rattle.jb_link.proofs.KeptLemmas.{none_there}
use Rattle.jb_link.specs.IdLists.{IsGreatestWith, IsLeastWith, id_at}
use Rattle.jb_link.specs.Kept.{IsKeptList, IsLastWith, KeepsReplyTo}
use Rattle.jb_link.specs.Replied.{IsLastReply, IsReply}

-- the live messages of an area, as their links see them
abbrev live_of : Loaded → List Linkable
live_of loaded = linkables [] loaded

-- the first that passes is the least that does
least : (test : Linkable → Bool) (loaded : Loaded) → IsLeast test (live_of loaded) (find test (live_of loaded))
least test loaded = found_is_least test loaded.base (live_of loaded) (linkables_rise (state_of [] loaded))

-- what answers an id does so by the bytes
answered : (loaded : Loaded) (number : ℕ) (id : List ℕ) (one : Linkable) → Contains (live_of loaded) one → is_answered_by number id one ≡ true
    → (id_at MSGID loaded one.number ≡ Some id) × (one.number < number)
answered loaded number id one here passes =
    let named = listed_named loaded one here in
    let parts = and_parts (nat_lt one.number number) (is_id id one.msgid) passes in
    let own : id_at MSGID loaded one.number ≡ one.msgid =
    ap (λ found. option_and_then (λ (message : LoadedMessage). msgid_of message.subfields) found) named.live ∙ sym (ap (λ (x : Linkable). x.msgid) named.is) in
    (own ∙ has_bytes id one.msgid parts.1, ltb-true one.number number parts.0)

-- a message with the id answers it from below
answers_it : (loaded : Loaded) (number : ℕ) (id : List ℕ) (other : ℕ) → id_at MSGID loaded other ≡ Some id → other < number
    → (one : Linkable) × (Contains (live_of loaded) one) × (is_answered_by number id one ≡ true) × (one.number ≡ other)
answers_it loaded number id other is lower =
    let live = live_with MSGID (loaded_at loaded other) (known (id_at MSGID loaded other) id is) in
    let own : msgid_of live.0.subfields ≡ Some id = sym (ap (λ found. option_and_then (λ (message : LoadedMessage). msgid_of message.subfields) found) live.1) ∙ is in (
      loaded_linkable other live.0,
      named_listed loaded other live.0 live.1,
      and_from (nat_lt other number) (is_id id (msgid_of live.0.subfields)) (lt-ltb other number lower) (bytes_had id (msgid_of live.0.subfields) own),
      refl,
    )

-- a number that is a parent by an id has it, is lower, and is the least that has it
pub record IsParentById (loaded : Loaded) (number : ℕ) (id : List ℕ) (parent : ℕ) : Type 0 where
  pub has : id_at MSGID loaded parent ≡ Some id
  pub lower : parent < number
  pub upto : (other : ℕ) → id_at MSGID loaded other ≡ Some id → parent ≤ other

pub parent_has_id : (loaded : Loaded) (number : ℕ) (id : List ℕ) (kept parent : ℕ) → 1 ≤ parent → parent_for (live_of loaded) number (Some id) kept ≡ parent
    → IsParentById loaded number id parent
parent_has_id loaded number id kept parent some is = by (find (is_answered_by number id) (live_of loaded)) (least (is_answered_by number id) loaded) is
  where
    by : (found : Option Linkable) → IsLeast (is_answered_by number id) (live_of loaded) found → number_or_0 found ≡ parent → IsParentById loaded number id parent
    by None none e = absurd (omega (arith, some, e))
    by (Some one) (here, passes, all) e =
        let was = answered loaded number id one here passes in
        record {
          has = ap (id_at MSGID loaded) (sym e) ∙ was.0;
          lower = omega (arith, was.1, e);
          upto = λ other other_is. elim (cases_lt other number) [
            | inl below ↦
                (let it = answers_it loaded number id other other_is below in
                let low = All-contains (λ x. is_answered_by number id x ≡ true → one.number ≤ x.number) (live_of loaded) it.0 all it.1 it.2 in
                omega (arith, low, it.3, e))
            | inr above ↦ omega (arith, was.1, e, above)
          ];
        }

-- and such a number is the parent
pub parent_by_id : (loaded : Loaded) (number : ℕ) (id : List ℕ) (kept parent : ℕ) → IsParentById loaded number id parent → parent_for (live_of loaded) number (Some id) kept ≡ parent
parent_by_id loaded number id kept parent h = by (find (is_answered_by number id) (live_of loaded)) (least (is_answered_by number id) loaded)
  where
    it : (one : Linkable) × (Contains (live_of loaded) one) × (is_answered_by number id one ≡ true) × (one.number ≡ parent)
    it = answers_it loaded number id parent h.has h.lower

    by : (found : Option Linkable) → IsLeast (is_answered_by number id) (live_of loaded) found → number_or_0 found ≡ parent
    by None none = absurd (both_ways _ (All-contains (λ x. is_answered_by number id x ≡ false) (live_of loaded) it.0 none it.1) it.2)
    by (Some one) (here, passes, all) =
        let was = answered loaded number id one here passes in
        let from = h.upto one.number was.0 in
        let to = All-contains (λ x. is_answered_by number id x ≡ true → one.number ≤ x.number) (live_of loaded) it.0 all it.1 it.2 in
        omega (arith, from, to, it.3)

-- where no lower number has the id there is none
pub no_parent_by_id : (loaded : Loaded) (number : ℕ) (id : List ℕ) (kept : ℕ) → ((other : ℕ) → id_at MSGID loaded other ≡ Some id → number ≤ other)
    → parent_for (live_of loaded) number (Some id) kept ≡ 0
no_parent_by_id loaded number id kept h = by (find (is_answered_by number id) (live_of loaded)) (least (is_answered_by number id) loaded)
  where
    by : (found : Option Linkable) → IsLeast (is_answered_by number id) (live_of loaded) found → number_or_0 found ≡ 0
    by None none = refl
    by (Some one) (here, passes, all) =
        let was = answered loaded number id one here passes in
        let above = h one.number was.0 in
        absurd (omega (arith, was.1, above))

-- a live lower number is the parent of what keeps it
pub parent_as_kept : (loaded : Loaded) (number kept : ℕ) (message : LoadedMessage) → loaded_at loaded kept ≡ Some message → kept < number
    → parent_for (live_of loaded) number None kept ≡ kept
parent_as_kept loaded number kept message live lower = by (find (is_kept_by number kept) (live_of loaded)) (least (is_kept_by number kept) loaded)
  where
    passes : is_kept_by number kept (loaded_linkable kept message) ≡ true
    passes = and_from (nat_lt kept number) (kept == kept) (lt-ltb kept number lower) (eq-eqb kept kept refl)

    by : (found : Option Linkable) → IsLeast (is_kept_by number kept) (live_of loaded) found → number_or_0 found ≡ kept
    by None none =
        absurd (both_ways _ (All-contains (λ x. is_kept_by number kept x ≡ false) (live_of loaded) (loaded_linkable kept message) none (named_listed loaded kept message live)) passes)
    by (Some one) (here, kept_is, all) = eqb-true one.number kept (and_parts (nat_lt one.number number) (one.number == kept) kept_is).1

-- another has none
pub no_parent_kept : (loaded : Loaded) (number kept : ℕ) → (kept < number → IsSome (loaded_at loaded kept) → ⊥) → parent_for (live_of loaded) number None kept ≡ 0
no_parent_kept loaded number kept h = by (find (is_kept_by number kept) (live_of loaded)) (least (is_kept_by number kept) loaded)
  where
    by : (found : Option Linkable) → IsLeast (is_kept_by number kept) (live_of loaded) found → number_or_0 found ≡ 0
    by None none = refl
    by (Some one) (here, kept_is, all) =
        let parts = and_parts (nat_lt one.number number) (one.number == kept) kept_is in
        let same = eqb-true one.number kept parts.1 in
        let named = listed_named loaded one here in
        absurd (h (subst (λ n. n < number) same (ltb-true one.number number parts.0)) (known (loaded_at loaded kept) named.message (ap (loaded_at loaded) (sym same) ∙ named.live)))

-- a parent of what has no REPLYID is the number that it keeps
pub kept_is_parent : (loaded : Loaded) (number kept parent : ℕ) → 1 ≤ parent → parent_for (live_of loaded) number None kept ≡ parent → (kept ≡ parent) × (parent < number)
kept_is_parent loaded number kept parent some is = by (find (is_kept_by number kept) (live_of loaded)) (least (is_kept_by number kept) loaded) is
  where
    by : (found : Option Linkable) → IsLeast (is_kept_by number kept) (live_of loaded) found → number_or_0 found ≡ parent → (kept ≡ parent) × (parent < number)
    by None none e = absurd (omega (arith, some, e))
    by (Some one) (here, kept_is, all) e =
        let parts = and_parts (nat_lt one.number number) (one.number == kept) kept_is in
        (sym (eqb-true one.number kept parts.1) ∙ e, subst (λ n. n < number) e (ltb-true one.number number parts.0))

-- a number that names a message is live
pub named_live : (loaded : Loaded) (number : ℕ) (message : LoadedMessage) → loaded_at loaded number ≡ Some message → IsLive loaded number
named_live loaded number message h =
    let there = named_is_in loaded number message h in
    live_from_stands loaded number (record { place = number - loaded.base; message = message; numbered = omega (arith, there.low); at = there.at })

-- and a live one names one
pub live_named : (loaded : Loaded) (number : ℕ) → IsLive loaded number → (message : LoadedMessage) × (loaded_at loaded number ≡ Some message)
live_named loaded number live =
    let stands = stands_from_live loaded number live in
    let place : number - loaded.base ≡ stands.place = omega (arith, stands.numbered) in
    (stands.message, by_place loaded number (omega (arith, stands.numbered)) ∙ message_there stands.message place stands.at)
  where
    message_there : (message : LoadedMessage) {k : ℕ} → number - loaded.base ≡ k → slice_get loaded.slots k ≡ Some (Live message)
        → message_in (slice_get loaded.slots (number - loaded.base)) ≡ Some message
    message_there message place at = ap (λ k. message_in (slice_get loaded.slots k)) place ∙ ap message_in at

-- a live number is none below the base
pub live_from_base : (loaded : Loaded) (number : ℕ) → IsLive loaded number → loaded.base ≤ number
live_from_base loaded number live = let named = live_named loaded number live in (named_is_in loaded number named.0 named.1).low

-- and it is below the end
pub live_below_end : (loaded : Loaded) (number : ℕ) → IsLive loaded number → number < loaded.base + length loaded.slots
live_below_end loaded number live = let named = live_named loaded number live in (named_is_in loaded number named.0 named.1).high

-- the parent of a number is 0, or a number of the area below it
pub parent_in_area : (loaded : Loaded) (number parent : ℕ) → parent ≡ parent_at (linkables [] loaded) number → (parent ≡ 0) ⊎ IsLive loaded parent
    → (parent ≡ 0) ⊎ ((loaded.base ≤ parent) × (parent < number))
parent_in_area loaded number parent is (inl none) = inl none
parent_in_area loaded number parent is (inr live) =
    let from = live_from_base loaded parent live in
    elim (parent_at_is_lower (linkables [] loaded) number) [ inl none ↦ inl (is ∙ none) | inr below ↦ inr (from, omega (arith, is, below)) ]

-- the REPLYID of a message that has one
id_there : (found : Option (List ℕ)) → is_some found ≡ true → (id : List ℕ) × (found ≡ Some id)
id_there None h = cc
id_there (Some id) h = (id, refl)

-- a reply by an id has the parent's for its REPLYID
pub record IsReplyById (loaded : Loaded) (parent number : ℕ) (id : List ℕ) : Type 0 where
  pub has : id_at MSGID loaded parent ≡ Some id
  pub answers : id_at REPLYID loaded number ≡ Some id
  pub later : parent < number
  pub upto : (other : ℕ) → id_at MSGID loaded other ≡ Some id → parent ≤ other

pub reply_has_id : (loaded : Loaded) (parent number : ℕ) (message : LoadedMessage) → 1 ≤ parent → IsReply loaded parent number message → is_some (replyid_of message.subfields) ≡ true
    → (id : List ℕ) × IsReplyById loaded parent number id
reply_has_id loaded parent number message some reply with_id =
    let id = id_there (replyid_of message.subfields) with_id in
    let parent_is : parent_for (live_of loaded) number (Some id.0) message.head.reply_to ≡ parent =
    ap (λ found. parent_for (live_of loaded) number found message.head.reply_to) (sym id.1) ∙ reply.parent_is in
    let has = parent_has_id loaded number id.0 message.head.reply_to parent some parent_is in (
      id.0,
      record {
        has = has.has;
        answers = ap (λ found. option_and_then (λ (one : LoadedMessage). replyid_of one.subfields) found) reply.live ∙ id.1;
        later = has.lower;
        upto = has.upto;
      },
    )

-- one with the same id has the same
pub same_id : (found : Option (List ℕ)) (one other : List ℕ) → found ≡ Some one → found ≡ Some other → one ≡ other
same_id found one other h g = cc

-- where the parent has no MSGID, or a lower message has the same, nothing answers it by an id
pub none_by_id : (loaded : Loaded) (parent : ℕ) → 1 ≤ parent → ((number : ℕ) (id : List ℕ) → IsReplyById loaded parent number id → ⊥) → IsLastReply is_some loaded parent 0
none_by_id loaded parent some h = record {
  reply = inl refl;
  greatest = λ number message reply with_id. (let is = reply_has_id loaded parent number message some reply with_id in absurd (h number is.0 is.1));
}

-- else the last that has it for its REPLYID is the last reply by an id
pub last_by_id : (loaded : Loaded) (parent last : ℕ) (id : List ℕ) → 1 ≤ parent → id_at MSGID loaded parent ≡ Some id → ((other : ℕ) → id_at MSGID loaded other ≡ Some id → parent ≤ other)
    → IsGreatestWith REPLYID loaded id (Some last) → parent < last → IsLastReply is_some loaded parent last
last_by_id loaded parent last id some has upto greatest later =
    let live = live_with REPLYID (loaded_at loaded last) (known (id_at REPLYID loaded last) id greatest.0) in
    let own : replyid_of live.0.subfields ≡ Some id = sym (ap (λ found. option_and_then (λ (message : LoadedMessage). replyid_of message.subfields) found) live.1) ∙ greatest.0 in
    record {
      reply = inr (
        live.0,
        record {
          live = live.1;
          parent_is =
              ap (λ found. parent_for (live_of loaded) last found live.0.head.reply_to) own
              ∙ parent_by_id loaded last id live.0.head.reply_to parent (record { has = has; lower = later; upto = upto });
        },
      );
      greatest = λ number message reply with_id.
          let is = reply_has_id loaded parent number message some reply with_id in
          greatest.1 number (is.1.answers ∙ ap Some (same_id (id_at MSGID loaded parent) is.0 id is.1.has has));
    }

-- a reply without an id keeps the parent's number
pub reply_keeps : (loaded : Loaded) (parent number : ℕ) (message : LoadedMessage) → 1 ≤ parent → IsReply loaded parent number message → is_none (replyid_of message.subfields) ≡ true
    → KeepsReplyTo loaded parent number × (parent < number)
reply_keeps loaded parent number message some reply no_id =
    let none = none_there (replyid_of message.subfields) no_id in
    let parent_is : parent_for (live_of loaded) number None message.head.reply_to ≡ parent =
    ap (λ found. parent_for (live_of loaded) number found message.head.reply_to) (sym none) ∙ reply.parent_is in
    let kept = kept_is_parent loaded number message.head.reply_to parent some parent_is in
    (record { message = message; live = reply.live; no_id = none; reply_to = kept.0 }, kept.1)

-- the last that stands in a pair behind a live number is the last reply without an id
pub last_by_number : (loaded : Loaded) (parent : ℕ) (pairs : List (ℕ × ℕ)) (found : Option ℕ) → 1 ≤ parent → IsLive loaded parent → IsKeptList loaded pairs → IsLastWith pairs parent found
    → IsLastReply is_none loaded parent (unwrap_or found 0)
last_by_number loaded parent pairs None some live list last = record {
  reply = inl refl;
  greatest = λ number message reply no_id.
      let keeps = reply_keeps loaded parent number message some reply no_id in
      let named = live_named loaded parent live in
      absurd (last number (list.whole parent number keeps.1 (known (loaded_at loaded parent) named.0 named.1) keeps.0));
}
last_by_number loaded parent pairs (Some number) some live list last =
    let named = live_named loaded parent live in
    let lives = known (loaded_at loaded parent) named.0 named.1 in
    let pair = list.each parent number last.0 in
    let keeps = pair.keeps lives in
    record {
      reply = inr (
        keeps.message,
        record {
          live = keeps.live;
          parent_is =
              ap (λ found. parent_for (live_of loaded) number found keeps.message.head.reply_to) keeps.no_id
              ∙ ap (parent_for (live_of loaded) number None) keeps.reply_to
              ∙ parent_as_kept loaded number parent named.0 named.1 pair.later;
        },
      );
      greatest = λ other message reply no_id.
          let also = reply_keeps loaded parent other message some reply no_id in
          last.1 other (list.whole parent other also.1 lives also.0);
    }

-- a reply is one of those on which the links rest
pub reply_listed : (loaded : Loaded) (parent number : ℕ) (message : LoadedMessage) → IsReply loaded parent number message
    → Contains (live_of loaded) (loaded_linkable number message) × (is_reply_to (live_of loaded) parent (loaded_linkable number message) ≡ true)
reply_listed loaded parent number message reply = (named_listed loaded number message reply.live, eq-eqb _ parent reply.parent_is)

-- and each of those is a reply
pub listed_reply : (loaded : Loaded) (parent : ℕ) (one : Linkable) → Contains (live_of loaded) one → is_reply_to (live_of loaded) parent one ≡ true
    → (message : LoadedMessage) × IsReply loaded parent one.number message
listed_reply loaded parent one here passes =
    let named = listed_named loaded one here in
    (named.message, record { live = named.live; parent_is = sym (ap (parent_of (live_of loaded)) named.is) ∙ eqb-true _ parent passes })

-- the last replies of both kinds, and the last of all
pub last_of_both : (loaded : Loaded) (parent by_id by_number last : ℕ) → IsLastReply is_some loaded parent by_id → IsLastReply is_none loaded parent by_number
    → (last ≡ by_id) ⊎ (last ≡ by_number) → by_id ≤ last → by_number ≤ last → last ≡ last_reply_of (live_of loaded) parent
last_of_both loaded parent by_id by_number last one other either first second =
    by (find (is_reply_to (live_of loaded) parent) (reverse (live_of loaded)))
    (last_is_greatest (is_reply_to (live_of loaded) parent) loaded.base (live_of loaded) (linkables_rise (state_of [] loaded)))
  where
    -- one of them is a reply, or 0
    is_one : (last ≡ by_id) ⊎ (last ≡ by_number) → (last ≡ 0) ⊎ ((message : LoadedMessage) × IsReply loaded parent last message)
    is_one (inl is) = subst (λ n. (n ≡ 0) ⊎ ((message : LoadedMessage) × IsReply loaded parent n message)) (sym is) one.reply
    is_one (inr is) = subst (λ n. (n ≡ 0) ⊎ ((message : LoadedMessage) × IsReply loaded parent n message)) (sym is) other.reply

    -- none is above it
    above : (number : ℕ) (message : LoadedMessage) → IsReply loaded parent number message → number ≤ last
    above number message reply = by_id_or_not (replyid_of message.subfields) refl
      where
        by_id_or_not : (found : Option (List ℕ)) → replyid_of message.subfields ≡ found → number ≤ last
        by_id_or_not None e = (let under = other.greatest number message reply (ap is_none e) in omega (arith, under, second))
        by_id_or_not (Some id) e = (let under = one.greatest number message reply (ap is_some e) in omega (arith, under, first))

    by : (found : Option Linkable) → IsGreatest (is_reply_to (live_of loaded) parent) (live_of loaded) found → last ≡ number_or_0 found
    by None none = elim (is_one either) [
      | inl zero ↦ zero
      | inr (message, reply) ↦
          (let listed = reply_listed loaded parent last message reply in
          absurd (both_ways _ (All-contains (λ x. is_reply_to (live_of loaded) parent x ≡ false) (live_of loaded) (loaded_linkable last message) none listed.0) listed.1))
    ]
    by (Some top) (here, passes, all) =
        let reply = listed_reply loaded parent top here passes in
        let under = above top.number reply.0 reply.1 in
        let from : last ≤ top.number = elim (is_one either) [
          | inl zero ↦ omega (arith, zero)
          | inr (message, own) ↦
              (let listed = reply_listed loaded parent last message own in
              All-contains (λ x. is_reply_to (live_of loaded) parent x ≡ true → x.number ≤ top.number) (live_of loaded) (loaded_linkable last message) all listed.0 listed.1)
        ] in
        omega (arith, under, from)

-- a number with an id is live
pub id_live : (kind : ℕ) (loaded : Loaded) (number : ℕ) (id : List ℕ) → id_at kind loaded number ≡ Some id → IsLive loaded number
id_live kind loaded number id is =
    let live = live_with kind (loaded_at loaded number) (known (id_at kind loaded number) id is) in
    named_live loaded number live.0 live.1

-- what is known of a search that found a number, and of one that found none
pub is_least_with : (kind : ℕ) (loaded : Loaded) (id : List ℕ) (found : Option ℕ) (number : ℕ) → IsLeastWith kind loaded id found → found ≡ Some number
    → IsLeastWith kind loaded id (Some number)
is_least_with kind loaded id found number h is = subst (IsLeastWith kind loaded id) is h

pub none_is_least : (kind : ℕ) (loaded : Loaded) (id : List ℕ) (found : Option ℕ) → IsLeastWith kind loaded id found → found ≡ None
    → (other : ℕ) → id_at kind loaded other ≡ Some id → ⊥
none_is_least kind loaded id found h is = subst (IsLeastWith kind loaded id) is h

-- a message that is lent is the one that the number names
pub lent_message : (found : Option (Bor LoadedMessage)) (message : Option LoadedMessage) {b : Bool} → option_map (λ one. one.now) found ≡ message → is_some found ≡ b → is_some message ≡ b
lent_message None message is some = ap is_some (sym is) ∙ some
lent_message (Some one) message is some = ap is_some (sym is) ∙ some

-- the parent of a number that keeps a live lower one
pub parent_kept_live : (loaded : Loaded) (number kept : ℕ) → kept < number → IsSome (loaded_at loaded kept) → parent_for (live_of loaded) number None kept ≡ kept
parent_kept_live loaded number kept lower live =
    let some = some_named (loaded_at loaded kept) live in
    parent_as_kept loaded number kept some.0 some.1 lower

-- a number that names some message is live
pub some_live : (loaded : Loaded) (number : ℕ) → IsSome (loaded_at loaded number) → IsLive loaded number
some_live loaded number live = let some = some_named (loaded_at loaded number) live in named_live loaded number some.0 some.1

-- nothing answers a message by an id where another message has its MSGID and is lower
pub lower_answered : (loaded : Loaded) (parent : ℕ) (id : List ℕ) (found : Option ℕ) → id_at MSGID loaded parent ≡ Some id → IsLeastWith MSGID loaded id found
    → (found ≡ Some parent → ⊥) → (number : ℕ) (own : List ℕ) → IsReplyById loaded parent number own → ⊥
lower_answered loaded parent id found has least other number own reply = by found least other (same_id (id_at MSGID loaded parent) own id reply.has has)
  where
    by : (found : Option ℕ) → IsLeastWith MSGID loaded id found → (found ≡ Some parent → ⊥) → own ≡ id → ⊥
    by None least other same = least parent has
    by (Some low) least other same =
        let from = least.1 parent has in
        let to = reply.upto low (least.0 ∙ ap Some (sym same)) in
        other (ap Some (let is : low ≡ parent = omega (arith, from, to) in is))

-- so 0 is its last reply by an id
pub lower_has_id : (loaded : Loaded) (parent : ℕ) (id : List ℕ) (found : Option ℕ) → 1 ≤ parent → id_at MSGID loaded parent ≡ Some id → IsLeastWith MSGID loaded id found
    → (found ≡ Some parent → ⊥) → IsLastReply is_some loaded parent 0
lower_has_id loaded parent id found some has least other = none_by_id loaded parent some (lower_answered loaded parent id found has least other)

-- and where none later has its MSGID for its REPLYID
pub none_later : (loaded : Loaded) (parent : ℕ) (id : List ℕ) → 1 ≤ parent → id_at MSGID loaded parent ≡ Some id
    → ((other : ℕ) → id_at REPLYID loaded other ≡ Some id → parent < other → ⊥) → IsLastReply is_some loaded parent 0
none_later loaded parent id some has none =
    none_by_id loaded parent some (λ number own reply. none number (reply.answers ∙ ap Some (same_id (id_at MSGID loaded parent) own id reply.has has)) reply.later)

-- and where the parent has none
pub no_own_id : (loaded : Loaded) (parent : ℕ) → 1 ≤ parent → id_at MSGID loaded parent ≡ None → IsLastReply is_some loaded parent 0
no_own_id loaded parent some none = none_by_id loaded parent some (λ number own reply. absurd (let has = reply.has in cc))

-- two optional numbers are told apart
pub told_apart : (found : Option ℕ) (number : ℕ) → not (option_eq nat_eq found (Some number)) ≡ true → found ≡ Some number → ⊥
told_apart None number h is = cc
told_apart (Some other) number h is =
    let same : other ≡ number = cc in
    both_ways (other == number) (not-true (other == number) h) (eq-eqb other number same)

-- and found the same
pub told_same : (found : Option ℕ) (number : ℕ) → not (option_eq nat_eq found (Some number)) ≡ false → found ≡ Some number
told_same None number h = cc
told_same (Some other) number h = ap Some (eqb-true other number (not-false (other == number) h))

-- a greatest number that is above the parent was found
pub later_found : (loaded : Loaded) (parent : ℕ) (id : List ℕ) (found : Option ℕ) (last : ℕ) → IsGreatestWith REPLYID loaded id found → last ≡ unwrap_or found 0 → parent < last
    → IsGreatestWith REPLYID loaded id (Some last)
later_found loaded parent id None last greatest is later = absurd (omega (arith, is, later))
later_found loaded parent id (Some number) last greatest is later = subst (λ n. IsGreatestWith REPLYID loaded id (Some n)) (sym is) greatest

-- where it is not, nothing later has the id
pub none_found_later : (loaded : Loaded) (parent : ℕ) (id : List ℕ) (found : Option ℕ) (last : ℕ) → IsGreatestWith REPLYID loaded id found → last ≡ unwrap_or found 0 → last ≤ parent
    → (other : ℕ) → id_at REPLYID loaded other ≡ Some id → parent < other → ⊥
none_found_later loaded parent id None last greatest is low other has later = greatest other has
none_found_later loaded parent id (Some number) last greatest is low other has later = (let upto = greatest.1 other has in omega (arith, upto, is, low, later))
