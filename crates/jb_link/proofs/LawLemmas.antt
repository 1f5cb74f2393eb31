-- What leaves the index of an area as it is.
use Rattle.std.proofs.Common.{◌≡◌, ◌<◌, ◌≤◌, ◌+◌, ◌-◌, ◌⊎◌, inl, inr, ℕ, zero, suc, List, [], ◌∷◌, length, length-set, map, refl, sym, ◌∙◌, ap, subst, arith, cond, nat_lt}
use Rattle.std.specs.Prelude.{◌↔◌, Option, Some, None, IsSome, is_some, slice_get, unwrap_or}
use Rattle.std.proofs.lemmas.Bool.{cases_eq, cases_lt}
use Rattle.jb_bytes.specs.Subfields.{first_of}
use Rattle.jb_bytes.specs.declared.subfield.TheConstants.{MSGID, REPLYID}
use Rattle.jb_state.specs.Plan.{loaded_at}
use Rattle.jb_state.specs.LiveSlots.{linkables, loaded_linkable, message_in}
use Rattle.jb_state.specs.Links.{Linkable, parent_for, parent_of}
use Rattle.jb_state.specs.Live.{change_live_from}
use Rattle.jb_state.specs.Loaded.{IsMessageAt, with_head_at}
use Rattle.jb_state.specs.Message.{replyid_of}
use Rattle.jb_state.specs.Relinked.{relinked}
use Rattle.jb_state.specs.State.{LiveMessage, SlotState, slot_state, text_of}
use Rattle.jb_state.specs.declared.loaded.Loaded.{Loaded}
use Rattle.jb_state.specs.declared.loaded.LoadedMessage.{LoadedMessage}
use Rattle.jb_state.specs.declared.loaded.LoadedSlot.{LoadedSlot}
use Rattle.jb_state.specs.declared.loaded.LoadedSlot.TheVariants.{Empty, Killed, Live}
use Rattle.jb_state.specs.declared.message.Head.{Head}
use Rattle.jb_link.proofs.AreaLemmas.{below_base, by_place, get_put, named_beside, named_is_in, some_named}
use Rattle.jb_link.proofs.IndexLemmas.{id_of, rises_alike}
use Rattle.jb_link.proofs.FoundLemmas.{kept_is_parent, parent_kept_live}
use Rattle.jb_link.specs.IdLists.{IsIdList, id_at, id_place}
use Rattle.jb_link.specs.Index.{IsIndexOf, ReplyIndex}
use Rattle.jb_link.specs.Kept.{IsKeptList, KeepsReplyTo}
use Rattle.jb_link.specs.IndexLaws.{RestsOnSlots, StaysUnderHeads, StaysUnderRelink}
use Rattle.jb_link.specs.Order.{id_order}

-- a message and what it becomes: none stays none, the subfields stay, and what it keeps goes with what it kept where it has no REPLYID
abbrev Alike : (ℕ → ℕ → Type 0) → Option LoadedMessage → Option LoadedMessage → Type 0
Alike goes None None = Unit {0}
Alike goes None (Some new) = ⊥
Alike goes (Some old) None = ⊥
Alike goes (Some old) (Some new) = (new.subfields ≡ old.subfields) × (replyid_of old.subfields ≡ None → goes old.head.reply_to new.head.reply_to)

-- the same live lower numbers are kept by a message
abbrev KeepAlike : Loaded → ℕ → ℕ → ℕ → Type 0
KeepAlike loaded number old new = (kept : ℕ) → kept < number → IsSome (loaded_at loaded kept) → (old ≡ kept) ↔ (new ≡ kept)

alike_same : (loaded : Loaded) (number : ℕ) (found : Option LoadedMessage) → Alike (KeepAlike loaded number) found found
alike_same loaded number None = tt
alike_same loaded number (Some message) = (refl, λ no_id kept lower live. (λ e. e, λ e. e))

alike_id : (kind : ℕ) (goes : ℕ → ℕ → Type 0) (old new : Option LoadedMessage) → Alike goes old new → id_of kind new ≡ id_of kind old
alike_id kind goes None None h = refl
alike_id kind goes None (Some new) h = absurd h
alike_id kind goes (Some old) None h = absurd h
alike_id kind goes (Some old) (Some new) h = ap (first_of kind) h.0

alike_some : (goes : ℕ → ℕ → Type 0) (old new : Option LoadedMessage) → Alike goes old new → is_some new ≡ is_some old
alike_some goes None None h = refl
alike_some goes None (Some new) h = absurd h
alike_some goes (Some old) None h = absurd h
alike_some goes (Some old) (Some new) h = refl

-- what is kept is kept on
keeps_on : (old new : Loaded) (kept number : ℕ) → kept < number → IsSome (loaded_at old kept) → Alike (KeepAlike old number) (loaded_at old number) (loaded_at new number)
    → KeepsReplyTo old kept number → KeepsReplyTo new kept number
keeps_on old new kept number lower live alike keeps = by (loaded_at new number) refl (subst (λ found. Alike (KeepAlike old number) found (loaded_at new number)) keeps.live alike)
  where
    by : (found : Option LoadedMessage) → loaded_at new number ≡ found → Alike (KeepAlike old number) (Some keeps.message) (loaded_at new number) → KeepsReplyTo new kept number
    by None e h = absurd (subst (λ found. Alike (KeepAlike old number) (Some keeps.message) found) e h)
    by (Some message) e h =
        let is : Alike (KeepAlike old number) (Some keeps.message) (Some message) = subst (λ found. Alike (KeepAlike old number) (Some keeps.message) found) e h in
        record {
          message = message;
          live = e;
          no_id = ap replyid_of is.0 ∙ keeps.no_id;
          reply_to = (is.1 keeps.no_id kept lower live).0 keeps.reply_to;
        }

-- and was kept before
kept_before : (old new : Loaded) (kept number : ℕ) → kept < number → IsSome (loaded_at old kept) → Alike (KeepAlike old number) (loaded_at old number) (loaded_at new number)
    → KeepsReplyTo new kept number → KeepsReplyTo old kept number
kept_before old new kept number lower live alike keeps = by (loaded_at old number) refl (subst (λ found. Alike (KeepAlike old number) (loaded_at old number) found) keeps.live alike)
  where
    by : (found : Option LoadedMessage) → loaded_at old number ≡ found → Alike (KeepAlike old number) (loaded_at old number) (Some keeps.message) → KeepsReplyTo old kept number
    by None e h = absurd (subst (λ found. Alike (KeepAlike old number) found (Some keeps.message)) e h)
    by (Some message) e h =
        let is : Alike (KeepAlike old number) (Some message) (Some keeps.message) = subst (λ found. Alike (KeepAlike old number) found (Some keeps.message)) e h in
        let no_id : replyid_of message.subfields ≡ None = sym (ap replyid_of is.0) ∙ keeps.no_id in
        record { message = message; live = e; no_id = no_id; reply_to = (is.1 no_id kept lower live).1 keeps.reply_to }

-- where every message is so, the index stays
pub stays : (replies : ReplyIndex) (old new : Loaded) → new.base ≡ old.base → length new.slots ≡ length old.slots
    → ((number : ℕ) → Alike (KeepAlike old number) (loaded_at old number) (loaded_at new number)) → IsIndexOf replies old → IsIndexOf replies new
stays replies old new base long alike index = record { ids = ids MSGID replies.ids index.ids; answers = ids REPLYID replies.answers index.answers; kept = pairs index.kept }
  where
    same_id : (kind number : ℕ) → id_at kind new number ≡ id_at kind old number
    same_id kind number = alike_id kind (KeepAlike old number) (loaded_at old number) (loaded_at new number) (alike number)

    lives : (number : ℕ) → is_some (loaded_at new number) ≡ is_some (loaded_at old number)
    lives number = alike_some (KeepAlike old number) (loaded_at old number) (loaded_at new number) (alike number)

    place : ℕ → Option (List ℕ) → List ℕ × ℕ
    place number found = (unwrap_or found [], number)

    ids : (kind : ℕ) (numbers : List ℕ) → IsIdList kind old numbers → IsIdList kind new numbers
    ids kind numbers list = record {
      listed = λ number. (
        λ here. subst (λ found. IsSome found) (sym (same_id kind number)) ((list.listed number).0 here),
        λ some. (list.listed number).1 (subst (λ found. IsSome found) (same_id kind number) some),
      );
      rising = rises_alike id_order (id_place kind old) (id_place kind new) numbers list.rising (λ number here. ap (place number) (same_id kind number));
    }

    pairs : IsKeptList old replies.kept → IsKeptList new replies.kept
    pairs list = record {
      each = λ kept number here.
          let was = list.each kept number here in
          record {
            later = was.later;
            there = omega (arith, was.there, base, long);
            keeps = λ live. (let lived : IsSome (loaded_at old kept) = sym (lives kept) ∙ live in keeps_on old new kept number was.later lived (alike number) (was.keeps lived));
          };
      whole = λ kept number lower live keeps.
          (let lived : IsSome (loaded_at old kept) = sym (lives kept) ∙ live in
          list.whole kept number lower lived (kept_before old new kept number lower lived (alike number) keeps));
      rising = list.rising;
    }

-- and so it does where base and slots are the same
pub rests_on_slots : RestsOnSlots
rests_on_slots replies before after base slots index =
    stays replies before after base (ap length slots)
    (λ number. subst (λ found. Alike (KeepAlike before number) (loaded_at before number) found) (sym (same number)) (alike_same before number (loaded_at before number))) index
  where
    named : ℕ → List LoadedSlot → ℕ → Option LoadedMessage
    named first xs number = cond (nat_lt number first) None (message_in (slice_get xs (number - first)))

    same : (number : ℕ) → loaded_at after number ≡ loaded_at before number
    same number = ap (λ first. named first after.slots number) base ∙ ap (λ xs. named before.base xs number) slots

-- other fields in the header of one message
head_alike : (loaded : Loaded) (one : ℕ) (message : LoadedMessage) (head : Head) → loaded.base ≤ one → IsMessageAt loaded (one - loaded.base) message → head.reply_to ≡ message.head.reply_to
    → (number : ℕ) → Alike (KeepAlike loaded number) (loaded_at loaded number) (loaded_at (with_head_at (one - loaded.base) head message loaded) number)
head_alike loaded one message head from at same number = elim (cases_eq number one) [
  | inl is ↦
      (let old : loaded_at loaded number ≡ Some message = ap (loaded_at loaded) is ∙ by_place loaded one from ∙ ap message_in at in
      let there = named_is_in loaded number message old in
      let within : one - loaded.base < length loaded.slots = omega (arith, is, there.high, from) in
      let new : loaded_at (with_head_at (one - loaded.base) head message loaded) number ≡ Some (record message { head = head }) =
      ap (loaded_at (with_head_at (one - loaded.base) head message loaded)) is
      ∙ by_place (with_head_at (one - loaded.base) head message loaded) one from
      ∙ ap message_in (get_put loaded.slots (one - loaded.base) (Live (record message { head = head })) within) in
      subst (λ found. Alike (KeepAlike loaded number) found (loaded_at (with_head_at (one - loaded.base) head message loaded) number)) (sym old)
      (subst (λ found. Alike (KeepAlike loaded number) (Some message) found) (sym new) (refl, λ no_id kept lower live. (λ e. same ∙ e, λ e. sym same ∙ e))))
  | inr other ↦
      subst (λ found. Alike (KeepAlike loaded number) (loaded_at loaded number) found)
      (sym (named_beside loaded one (Live (record message { head = head })) number from other)) (alike_same loaded number (loaded_at loaded number))
]

pub stays_under_heads : StaysUnderHeads
stays_under_heads replies loaded place message head at same index =
    let is : loaded.base + place - loaded.base ≡ place = omega arith in
    subst (λ k. IsIndexOf replies (with_head_at k head message loaded)) is
    (stays replies loaded (with_head_at (loaded.base + place - loaded.base) head message loaded) refl
    (length-set loaded.slots (loaded.base + place - loaded.base) (Live (record message { head = head })))
    (head_alike loaded (loaded.base + place) message head (omega arith) (ap (slice_get loaded.slots) is ∙ at) same) index)

-- a message and what a relink makes of it
abbrev Relinked : List Linkable → ℕ → Option LoadedMessage → Option LoadedMessage → Type 0
Relinked live number None None = Unit {0}
Relinked live number None (Some new) = ⊥
Relinked live number (Some old) None = ⊥
Relinked live number (Some old) (Some new) = (new.subfields ≡ old.subfields) × (new.head.reply_to ≡ parent_of live (loaded_linkable number old))

-- a loaded message, without its text
abbrev unloaded : LoadedMessage → LiveMessage
unloaded message = record { owner = message.owner; head = message.head; subfields = message.subfields; text = text_of [] message }

-- what the links of all messages make of one
abbrev relink_of : List Linkable → ℕ → LiveMessage → LiveMessage
relink_of live number message = relinked live (record { number = number; message = message })

-- the first slot, by what it is
first_relinked : (live : List Linkable) (number base : ℕ) (x y : LoadedSlot) (old new : List SlotState) → number ≡ base
    → slot_state [] y ∷ new ≡ change_live_from (relink_of live) base (slot_state [] x ∷ old) → Relinked live number (message_in (Some x)) (message_in (Some y))
first_relinked live number base Empty Empty old new e h = tt
first_relinked live number base Empty (Killed at) old new e h = tt
first_relinked live number base Empty (Live b) old new e h = cc
first_relinked live number base (Killed at) Empty old new e h = tt
first_relinked live number base (Killed at) (Killed also) old new e h = tt
first_relinked live number base (Killed at) (Live b) old new e h = cc
first_relinked live number base (Live a) Empty old new e h = cc
first_relinked live number base (Live a) (Killed at) old new e h = cc
first_relinked live number base (Live a) (Live b) old new e h =
    let same : unloaded b ≡ relink_of live base (unloaded a) = cc in (
      ap (λ (m : LiveMessage). m.subfields) same,
      ap (λ (m : LiveMessage). m.head.reply_to) same ∙ ap (λ n. parent_of live (loaded_linkable n a)) (sym e),
    )

-- the slots behind it
rest_relinked : (live : List Linkable) (base : ℕ) (x y : LoadedSlot) (old new : List SlotState)
    → slot_state [] y ∷ new ≡ change_live_from (relink_of live) base (slot_state [] x ∷ old) → new ≡ change_live_from (relink_of live) (base + 1) old
rest_relinked live base Empty y old new h = cc
rest_relinked live base (Killed at) y old new h = cc
rest_relinked live base (Live a) y old new h = cc

slots_relinked : (live : List Linkable) (k base number : ℕ) (old new : List LoadedSlot) → number ≡ base + k
    → map (slot_state []) new ≡ change_live_from (relink_of live) base (map (slot_state []) old)
    → Relinked live number (message_in (slice_get old k)) (message_in (slice_get new k))
slots_relinked live k base number [] [] e h = tt
slots_relinked live k base number [] (y ∷ new) e h = cc
slots_relinked live k base number (Empty ∷ old) [] e h = cc
slots_relinked live k base number (Killed at ∷ old) [] e h = cc
slots_relinked live k base number (Live a ∷ old) [] e h = cc
slots_relinked live zero base number (x ∷ old) (y ∷ new) e h =
    first_relinked live number base x y (map (slot_state []) old) (map (slot_state []) new) (omega arith) h
slots_relinked live (suc k) base number (x ∷ old) (y ∷ new) e h =
    slots_relinked live k (base + 1) number old new (omega arith) (rest_relinked live base x y (map (slot_state []) old) (map (slot_state []) new) h)

-- a relink keeps what an index rests on
relinked_alike : (loaded : Loaded) (number : ℕ) (old new : Option LoadedMessage) → 1 ≤ loaded.base → loaded_at loaded number ≡ old → Relinked (linkables [] loaded) number old new
    → Alike (KeepAlike loaded number) old new
relinked_alike loaded number None None base at h = tt
relinked_alike loaded number None (Some new) base at h = h
relinked_alike loaded number (Some old) None base at h = h
relinked_alike loaded number (Some old) (Some new) base at h = (
  h.0,
  λ no_id kept lower live.
      let parent : new.head.reply_to ≡ parent_for (linkables [] loaded) number None old.head.reply_to =
      h.1 ∙ ap (λ found. parent_for (linkables [] loaded) number found old.head.reply_to) no_id in (
        λ e. parent ∙ ap (parent_for (linkables [] loaded) number None) e ∙ parent_kept_live loaded number kept lower live,
        λ e.
            let some = some_named (loaded_at loaded kept) live in
            let low = (named_is_in loaded kept some.0 some.1).low in
            (kept_is_parent loaded number old.head.reply_to kept (omega (arith, base, low)) (sym parent ∙ e)).0,
      ),
)

pub stays_under_relink : StaysUnderRelink
stays_under_relink replies before after one base slots index =
    stays replies before after base
    (longer (linkables [] before) before.base before.slots after.slots slots)
    (λ number. relinked_alike before number (loaded_at before number) (loaded_at after number) one refl (by_order number (cases_lt number before.base))) index
  where
    longer : (live : List Linkable) (first : ℕ) (old new : List LoadedSlot) → map (slot_state []) new ≡ change_live_from (relink_of live) first (map (slot_state []) old)
        → length new ≡ length old
    longer live first [] [] h = refl
    longer live first [] (y ∷ new) h = cc
    longer live first (Empty ∷ old) [] h = cc
    longer live first (Killed at ∷ old) [] h = cc
    longer live first (Live a ∷ old) [] h = cc
    longer live first (x ∷ old) (y ∷ new) h =
        ap suc (longer live (first + 1) old new (rest_relinked live first x y (map (slot_state []) old) (map (slot_state []) new) h))

    by_order : (number : ℕ) → (number < before.base) ⊎ (before.base ≤ number) → Relinked (linkables [] before) number (loaded_at before number) (loaded_at after number)
    by_order number (inl below) =
        subst (λ found. Relinked (linkables [] before) number found (loaded_at after number)) (sym (below_base before number below))
        (subst (λ found. Relinked (linkables [] before) number None found) (sym (below_base after number (omega (arith, below, base)))) tt)
    by_order number (inr from) =
        let place : number - after.base ≡ number - before.base = omega (arith, base) in
        let new : loaded_at after number ≡ message_in (slice_get after.slots (number - before.base)) =
        by_place after number (omega (arith, from, base)) ∙ ap (λ k. message_in (slice_get after.slots k)) place in
        subst (λ found. Relinked (linkables [] before) number found (loaded_at after number)) (sym (by_place before number from))
        (subst (λ found. Relinked (linkables [] before) number (message_in (slice_get before.slots (number - before.base))) found) (sym new)
        (slots_relinked (linkables [] before) (number - before.base) before.base number before.slots after.slots (omega (arith, from)) slots))
