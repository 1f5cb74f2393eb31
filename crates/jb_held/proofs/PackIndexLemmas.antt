-- An index of the replies of an area is one of the packed area too.
use Rattle.std.proofs.Common.{◌≡◌, inl, inr, ℕ, zero, suc, ◌+◌, ◌-◌, ◌≤◌, ◌<◌, List, [], ◌∷◌, length, drop, slice_get, refl, sym, ◌∙◌, ap, subst, arith, length-drop}
use Rattle.std.specs.List.{position_or_len}
use Rattle.std.specs.Prelude.{◌↔◌, Contains, IsSome, Option, Some, None, option_and_then, unwrap_or}
use Rattle.std.proofs.lemmas.Bool.{cases_lt}
use Rattle.jb_bytes.specs.Subfields.{first_of}
use Rattle.jb_bytes.specs.declared.subfield.TheConstants.{MSGID, REPLYID}
use Rattle.jb_state.specs.Plan.{loaded_at}
use Rattle.jb_state.specs.LiveSlots.{linkables_from, message_in}
use Rattle.jb_state.specs.Links.{Linkable}
use Rattle.jb_state.specs.Message.{replyid_of}
use Rattle.jb_state.specs.Loaded.{header_size}
use Rattle.jb_state.specs.declared.loaded.Loaded.{Loaded}
use Rattle.jb_state.specs.declared.loaded.LoadedMessage.{LoadedMessage}
use Rattle.jb_state.specs.declared.loaded.LoadedSlot.{LoadedSlot}
use Rattle.jb_state.specs.declared.loaded.LoadedSlot.TheVariants.{Empty, Killed, Live}
use Rattle.jb_pack.proofs.HeldLemmas.{length-packed}
use Rattle.jb_pack.proofs.PlanLemmas.{base_within, new_base_at}
use Rattle.jb_state.specs.Packed.{is_live_slot, kept_slots, new_base, packed, packed_from}
use Rattle.jb_link.proofs.LawLemmas.{stays_under_relink}
use Rattle.jb_state.proofs.LinkedLaws.{linked_slots, linked_state}
use Rattle.jb_link.specs.IdLists.{IsIdList, id_at}
use Rattle.jb_link.specs.Index.{IsIndexOf, ReplyIndex}
use Rattle.jb_link.specs.Kept.{IsKeptList, KeepsReplyTo}
use Rattle.jb_link.specs.Order.{IsRising, id_order}
use Rattle.jb_link.proofs.AreaLemmas.{below_base, by_place}

-- a message and what it becomes: with the same subfields and the same ReplyTo
abbrev Alike : Option LoadedMessage → Option LoadedMessage → Type 0
Alike None None = Unit {0}
Alike None (Some new) = ⊥
Alike (Some old) None = ⊥
Alike (Some old) (Some new) = (new.subfields ≡ old.subfields) × (new.head.reply_to ≡ old.head.reply_to)

-- backwards too
alike_back : (old new : Option LoadedMessage) → Alike old new → Alike new old
alike_back None None is = tt
alike_back None (Some new) is = absurd is
alike_back (Some old) None is = absurd is
alike_back (Some old) (Some new) is = (sym is.0, sym is.1)

-- it has the same ids
alike_id : (kind : ℕ) (old new : Loaded) (number : ℕ) → Alike (loaded_at old number) (loaded_at new number) → id_at kind old number ≡ id_at kind new number
alike_id kind old new number is = by (loaded_at old number) (loaded_at new number) is
  where
    by : (one other : Option LoadedMessage) → Alike one other → option_and_then (λ message. first_of kind message.subfields) one ≡ option_and_then (λ message. first_of kind message.subfields) other
    by None None is = refl
    by None (Some new) is = absurd is
    by (Some old) None is = absurd is
    by (Some old) (Some new) is = ap (first_of kind) (sym is.0)

-- and is live where it was
alike_some : (old new : Option LoadedMessage) → Alike old new → IsSome new → IsSome old
alike_some None None is some = some
alike_some None (Some new) is some = absurd is
alike_some (Some old) None is some = absurd is
alike_some (Some old) (Some new) is some = refl

-- what it keeps it keeps on
keeps_on : (old new : Loaded) (kept number : ℕ) → Alike (loaded_at old number) (loaded_at new number) → KeepsReplyTo old kept number → KeepsReplyTo new kept number
keeps_on old new kept number alike keeps = by (loaded_at new number) refl (subst (λ found. Alike found (loaded_at new number)) keeps.live alike)
  where
    by : (found : Option LoadedMessage) → loaded_at new number ≡ found → Alike (Some keeps.message) (loaded_at new number) → KeepsReplyTo new kept number
    by None there is = absurd (subst (λ found. Alike (Some keeps.message) found) there is)
    by (Some message) there is =
        let same : Alike (Some keeps.message) (Some message) = subst (λ found. Alike (Some keeps.message) found) there is in
        record { message = message; live = there; no_id = ap replyid_of same.0 ∙ keeps.no_id; reply_to = same.1 ∙ keeps.reply_to }

-- where each message is so, and the next number stays, the index does
index_alike : (replies : ReplyIndex) (old new : Loaded) → new.base + length new.slots ≡ old.base + length old.slots
    → ((number : ℕ) → Alike (loaded_at old number) (loaded_at new number)) → IsIndexOf replies old → IsIndexOf replies new
index_alike replies old new next alike index = record {
  ids = ids MSGID replies.ids index.ids;
  answers = ids REPLYID replies.answers index.answers;
  kept = pairs index.kept;
}
  where
    same : (kind : ℕ) → ◌≡◌ {A = ℕ → Option (List ℕ)} (λ number. id_at kind old number) (λ number. id_at kind new number)
    same kind = λ i number. alike_id kind old new number (alike number) i

    ids : (kind : ℕ) (numbers : List ℕ) → IsIdList kind old numbers → IsIdList kind new numbers
    ids kind numbers list = record {
      listed = subst (λ (f : ℕ → Option (List ℕ)). (number : ℕ) → Contains numbers number ↔ IsSome (f number)) (same kind) list.listed;
      rising = subst (λ (f : ℕ → Option (List ℕ)). IsRising id_order (λ (number : ℕ). (unwrap_or (f number) [], number)) numbers) (same kind) list.rising;
    }

    back : (number : ℕ) → Alike (loaded_at new number) (loaded_at old number)
    back number = alike_back (loaded_at old number) (loaded_at new number) (alike number)

    pairs : IsKeptList old replies.kept → IsKeptList new replies.kept
    pairs list = record {
      each = λ kept number here.
          let was = list.each kept number here in
          record {
            later = was.later;
            there = omega (arith, was.there, next);
            keeps = λ live. keeps_on old new kept number (alike number) (was.keeps (alike_some (loaded_at old kept) (loaded_at new kept) (alike kept) live));
          };
      whole = λ kept number lower live keeps.
          list.whole kept number lower (alike_some (loaded_at old kept) (loaded_at new kept) (alike kept) live) (keeps_on new old kept number (back number) keeps);
      rising = list.rising;
    }

-- linked slots are as many
length-linked : (live : List Linkable) (number : ℕ) (slots : List LoadedSlot) → length (linked_slots live number slots) ≡ length slots
length-linked live number [] = refl
length-linked live number (Empty ∷ slots) = ap suc (length-linked live (number + 1) slots)
length-linked live number (Killed header_at ∷ slots) = ap suc (length-linked live (number + 1) slots)
length-linked live number (Live message ∷ slots) = ap suc (length-linked live (number + 1) slots)

-- what is laid out from a slot on is alike
laid_alike : (live : List Linkable) (number header_at text_at : ℕ) (slots : List LoadedSlot) (k : ℕ)
    → Alike (message_in (slice_get (linked_slots live number slots) k)) (message_in (slice_get (packed_from live number header_at text_at slots) k))
laid_alike live number header_at text_at [] k = tt
laid_alike live number header_at text_at (Empty ∷ slots) zero = tt
laid_alike live number header_at text_at (Empty ∷ slots) (suc k) = laid_alike live (number + 1) header_at text_at slots k
laid_alike live number header_at text_at (Killed at ∷ slots) zero = tt
laid_alike live number header_at text_at (Killed at ∷ slots) (suc k) = laid_alike live (number + 1) header_at text_at slots k
laid_alike live number header_at text_at (Live message ∷ slots) zero = (refl, refl)
laid_alike live number header_at text_at (Live message ∷ slots) (suc k) =
    laid_alike live (number + 1) (header_at + header_size message) (text_at + message.text_len) slots k

-- so is what is laid out when the first slots are cut off
cut_alike : (live : List Linkable) (n number header_at text_at : ℕ) (slots : List LoadedSlot) (k place : ℕ) → place ≡ n + k
    → Alike (message_in (slice_get (linked_slots live number slots) place)) (message_in (slice_get (packed_from live (number + n) header_at text_at (drop n slots)) k))
cut_alike live zero number header_at text_at slots k place is =
    let same : number ≡ number + 0 = omega arith in
    let here : k ≡ place = omega (arith, is) in
    subst (λ p. Alike (message_in (slice_get (linked_slots live number slots) p)) (message_in (slice_get (packed_from live (number + 0) header_at text_at slots) k))) here
    (subst (λ m. Alike (message_in (slice_get (linked_slots live number slots) k)) (message_in (slice_get (packed_from live m header_at text_at slots) k))) same
    (laid_alike live number header_at text_at slots k))
cut_alike live (suc n) number header_at text_at [] k place is = tt
cut_alike live (suc n) number header_at text_at (slot ∷ slots) k zero is = absurd (omega (arith, is))
cut_alike live (suc n) number header_at text_at (slot ∷ slots) k (suc place) is =
    let same : number + 1 + n ≡ number + suc n = omega arith in
    let rest = cut_alike live n (number + 1) header_at text_at slots k place (omega (arith, is)) in
    by slot (subst (λ m. Alike (message_in (slice_get (linked_slots live (number + 1) slots) place)) (message_in (slice_get (packed_from live m header_at text_at (drop n slots)) k))) same rest)
  where
    by : (slot : LoadedSlot)
        → Alike (message_in (slice_get (linked_slots live (number + 1) slots) place)) (message_in (slice_get (packed_from live (number + suc n) header_at text_at (drop n slots)) k))
        → Alike (message_in (slice_get (linked_slots live number (slot ∷ slots)) (suc place))) (message_in (slice_get (packed_from live (number + suc n) header_at text_at (drop n slots)) k))
    by Empty is = is
    by (Killed at) is = is
    by (Live message) is = is

-- in front of the first live message there is none
none_before : (live : List Linkable) (number : ℕ) (slots : List LoadedSlot) (k : ℕ) → k < position_or_len is_live_slot slots
    → message_in (slice_get (linked_slots live number slots) k) ≡ None
none_before live number [] k low = refl
none_before live number (Empty ∷ slots) zero low = refl
none_before live number (Empty ∷ slots) (suc k) low = none_before live (number + 1) slots k (omega (arith, low))
none_before live number (Killed at ∷ slots) zero low = refl
none_before live number (Killed at ∷ slots) (suc k) low = none_before live (number + 1) slots k (omega (arith, low))
none_before live number (Live message ∷ slots) k low = absurd (omega (arith, low))

module _ (loaded : Loaded) where
  -- the live messages on which the links rest
  abbrev live : List Linkable
  live = linkables_from loaded.base loaded.slots

  -- the area with its links computed anew
  abbrev mid : Loaded
  mid = record loaded { slots = linked_slots live loaded.base loaded.slots }

  -- what is none and is none is alike
  both_none : (one other : Option LoadedMessage) → one ≡ None → other ≡ None → Alike one other
  both_none one other first second = subst (λ (o : Option LoadedMessage). Alike o other) (sym first) (subst (λ (o : Option LoadedMessage). Alike None o) (sym second) tt)

  -- each number names the same after a pack
  pack_alike : (number : ℕ) → Alike (loaded_at mid number) (loaded_at (packed loaded) number)
  pack_alike number =
      let within = base_within loaded in
      let above = within.0 in
      elim (cases_lt number loaded.base) [
        | inl below ↦ both_none _ _ (below_base mid number below) (below_base (packed loaded) number (omega (arith, below, above)))
        | inr from ↦ elim (cases_lt number (new_base loaded)) [
          | inl cut ↦ both_none _ _
              (by_place mid number from ∙ none_before live loaded.base loaded.slots (number - loaded.base) (omega (arith, from, cut, new_base_at loaded)))
              (below_base (packed loaded) number cut)
          | inr kept ↦
              let n : ℕ = new_base loaded - loaded.base in
              let k : ℕ = number - new_base loaded in
              let base : loaded.base + n ≡ new_base loaded = omega (arith, above) in
              let is = cut_alike live n loaded.base 1024 0 loaded.slots k (number - loaded.base) (omega (arith, from, kept, above)) in
              subst (λ (o : Option LoadedMessage). Alike o (loaded_at (packed loaded) number)) (sym (by_place mid number from))
              (subst (λ (o : Option LoadedMessage). Alike (message_in (slice_get (linked_slots live loaded.base loaded.slots) (number - loaded.base))) o)
              (ap (λ m. message_in (slice_get (packed_from live m 1024 0 (kept_slots loaded)) k)) base ∙ sym (by_place (packed loaded) number kept)) is)
        ]
      ]

  -- the next number stays
  next_stays : (packed loaded).base + length (packed loaded).slots ≡ mid.base + length mid.slots
  next_stays =
      let within = base_within loaded in
      let above = within.0 in
      let below = within.1 in
      omega (
        arith,
        above,
        below,
        length-packed live (new_base loaded) 1024 0 (kept_slots loaded),
        length-drop (new_base loaded - loaded.base) loaded.slots,
        length-linked live loaded.base loaded.slots,
      )

  -- an index of the area is one of the packed area
  pub packed_index : (replies : ReplyIndex) → 1 ≤ loaded.base → IsIndexOf replies loaded → IsIndexOf replies (packed loaded)
  packed_index replies one index =
      index_alike replies mid (packed loaded) next_stays pack_alike (stays_under_relink replies loaded mid one refl (linked_state [] live loaded.base loaded.slots) index)
