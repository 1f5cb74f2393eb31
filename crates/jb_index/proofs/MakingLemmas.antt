-- The summaries of slots that are loaded.
use Rattle.std.proofs.Common.{◌≡◌, ℕ, zero, suc, ◌+◌, ◌<◌, ◌≤◌, ◌==◌, Bool, true, false, cond, List, [], ◌∷◌, ◌++◌, Option, Some, filter, find, map, length, take, get_or, slice_get, length-append, length-take, append-nil, refl, sym, ◌∙◌, ap, subst, arith}
use Rattle.std.specs.Prelude.{unwrap_or, All}
use Rattle.std.proofs.lemmas.List.Elements.{All-get_or, filter-append}
use Rattle.jb_limits.specs.declared.limits.TheConstants.{MOST_SUBFIELD_BYTES}
use Rattle.jb_index.specs.Making.{HasFewBytes}
use Rattle.std.specs.Option.{option_map}
use Rattle.std.proofs.lemmas.Bool.{cond_both}
use Rattle.std.proofs.lemmas.Grind.{take_at_read}
use Rattle.std.proofs.lemmas.Option.{get_or_from_slice_get, slice_get-get_or, slice_get-map, slice_get_within}
use Rattle.jb_bytes.specs.Number.{number_bytes}
use Rattle.jb_bytes.specs.Subfields.{first_of, one_subfield, subfield_bytes}
use Rattle.jb_bytes.specs.declared.subfield.Subfield.{Subfield}
use Rattle.jb_state.specs.Links.{Linkable, linkables_of, parent_at, parent_of}
use Rattle.jb_state.specs.Live.{live_from, live_in}
use Rattle.jb_state.specs.State.{slot_state, state_of}
use Rattle.jb_state.specs.declared.loaded.Loaded.{Loaded}
use Rattle.jb_state.specs.declared.mark.Mark.{Mark}
use Rattle.jb_base.specs.declared.area.AreaRules.{AreaRules}
use Rattle.jb_index.specs.Cut.{NumbersRise}
use Rattle.jb_state.specs.declared.loaded.LoadedMessage.{LoadedMessage}
use Rattle.jb_state.specs.declared.loaded.LoadedSlot.{LoadedSlot}
use Rattle.jb_state.specs.declared.loaded.LoadedSlot.TheVariants.{Empty, Killed, Live}
use Rattle.jb_state.specs.declared.short.Short.{Short}
use Rattle.jb_state.specs.declared.summary.Summary.{Summary}
use Rattle.jb_index.specs.Index.{AreaIndex, summary_of, summary_with}
use Rattle.jb_state.specs.LiveSlots.{linkables_from, loaded_linkable}
use Rattle.jb_link.proofs.LiveLemmas.{linkables_with_texts}
use Rattle.jb_link.proofs.ParentLemmas.{parent_of_message}

-- the data of a subfield is no longer than the bytes of all
pub field_is_short : (id : ℕ) (fields : List Subfield) → length (unwrap_or (first_of id fields) []) ≤ length (subfield_bytes fields)
field_is_short id [] = omega arith
field_is_short id (field ∷ fields) =
    let whole : length (one_subfield field ++ subfield_bytes fields) ≡ length (one_subfield field) + length (subfield_bytes fields) = length-append (one_subfield field) (subfield_bytes fields) in
    let one : length (one_subfield field) ≡ length (number_bytes 2 field.id ++ number_bytes 2 field.hi ++ number_bytes 4 (length field.bytes)) + length field.bytes
    = length-append (number_bytes 2 field.id ++ number_bytes 2 field.hi ++ number_bytes 4 (length field.bytes)) field.bytes in
    let rest : length (unwrap_or (first_of id fields) []) ≤ length (subfield_bytes fields) = field_is_short id fields in
    cond_both (field.id == id) (Some field) (find (λ (f : Subfield). f.id == id) fields)
    (λ (found : Option Subfield). length (unwrap_or (option_map (λ (f : Subfield). f.bytes) found) []) ≤ length (one_subfield field ++ subfield_bytes fields))
    (λ is. omega arith) (λ other. omega arith)

-- a summary by its parts
pub same_summary : (number written attribute parent : ℕ) (from from' to to' : Short 36) (subject subject' : Short 72) → from ≡ from' → to ≡ to' → subject ≡ subject'
    → ◌≡◌ {A = Summary} (record { number = number; from = from; to = to; subject = subject; written = written; attribute = attribute; parent = parent })
    (record { number = number; from = from'; to = to'; subject = subject'; written = written; attribute = attribute; parent = parent })
same_summary number written attribute parent from from' to to' subject subject' e f g = cc

-- the summaries of slots of which the first has this number, by these live messages
abbrev pub listed_from : List Linkable → ℕ → List LoadedSlot → List Summary
listed_from live number slots = map (summary_of live) (live_from number (map (slot_state []) slots))

-- no text bears on them
pub listed_with_texts : (live : List Linkable) (texts : List ℕ) (number : ℕ) (slots : List LoadedSlot) → map (summary_of live) (live_from number (map (slot_state texts) slots)) ≡ listed_from live number slots
listed_with_texts live texts number [] = refl
listed_with_texts live texts number (Empty ∷ slots) = listed_with_texts live texts (number + 1) slots
listed_with_texts live texts number (Killed at ∷ slots) = listed_with_texts live texts (number + 1) slots
listed_with_texts live texts number (Live message ∷ slots) =
    ap (λ rest. summary_with number message.head message.subfields (parent_at live number) ∷ rest) (listed_with_texts live texts (number + 1) slots)

-- the first slots and then the others
pub listed_from-append : (live : List Linkable) (number : ℕ) (xs ys : List LoadedSlot) → listed_from live number (xs ++ ys) ≡ listed_from live number xs ++ listed_from live (number + length xs) ys
listed_from-append live number [] ys = let e : number ≡ number + 0 = omega arith in ap (λ n. listed_from live n ys) e
listed_from-append live number (Empty ∷ xs) ys =
    let e : number + 1 + length xs ≡ number + suc (length xs) = omega arith in
    listed_from-append live (number + 1) xs ys ∙ ap (λ n. listed_from live (number + 1) xs ++ listed_from live n ys) e
listed_from-append live number (Killed at ∷ xs) ys =
    let e : number + 1 + length xs ≡ number + suc (length xs) = omega arith in
    listed_from-append live (number + 1) xs ys ∙ ap (λ n. listed_from live (number + 1) xs ++ listed_from live n ys) e
listed_from-append live number (Live message ∷ xs) ys =
    let e : number + 1 + length xs ≡ number + suc (length xs) = omega arith in
    ap (λ rest. summary_with number message.head message.subfields (parent_at live number) ∷ rest)
    (listed_from-append live (number + 1) xs ys ∙ ap (λ n. listed_from live (number + 1) xs ++ listed_from live n ys) e)

-- one more slot
pub listed_more : (live : List Linkable) (base k : ℕ) (slots : List LoadedSlot) (slot : LoadedSlot) → k < length slots → slot ≡ get_or slots k slot
    → listed_from live base (take (k + 1) slots) ≡ listed_from live base (take k slots) ++ listed_from live (base + k) (slot ∷ [])
listed_more live base k slots slot within read =
    let front : length (take k slots) ≡ k = omega (arith, length-take {A = LoadedSlot}) in
    ap (listed_from live base) ((take_at_read slots k slot within).1 ∙ ap (λ s. take k slots ++ s ∷ []) (sym read))
    ∙ listed_from-append live base (take k slots) (slot ∷ [])
    ∙ ap (λ n. listed_from live base (take k slots) ++ listed_from live (base + n) (slot ∷ [])) front

-- there is one for each live message
pub listed_length : (live : List Linkable) (number : ℕ) (slots : List LoadedSlot) → length (listed_from live number slots) ≡ length (linkables_from number slots)
listed_length live number [] = refl
listed_length live number (Empty ∷ slots) = listed_length live (number + 1) slots
listed_length live number (Killed at ∷ slots) = listed_length live (number + 1) slots
listed_length live number (Live message ∷ slots) = ap suc (listed_length live (number + 1) slots)

-- the live message at a place stands behind those of the slots before
pub linkable_here : (base k : ℕ) (slots : List LoadedSlot) (message : LoadedMessage) → k < length slots → Live message ≡ get_or slots k (Live message)
    → slice_get (linkables_from base slots) (length (linkables_from base (take k slots))) ≡ Some (loaded_linkable (base + k) message)
linkable_here base zero [] message within read = absurd (omega arith)
linkable_here base zero (slot ∷ slots) message within read =
    let e : base ≡ base + 0 = omega arith in
    ap (λ s. slice_get (linkables_from base (s ∷ slots)) 0) (sym read) ∙ ap (λ n. Some (loaded_linkable n message)) e
linkable_here base (suc k) [] message within read = absurd (omega arith)
linkable_here base (suc k) (Empty ∷ slots) message within read =
    let e : base + 1 + k ≡ base + suc k = omega arith in
    linkable_here (base + 1) k slots message (omega arith) read ∙ ap (λ n. Some (loaded_linkable n message)) e
linkable_here base (suc k) (Killed at ∷ slots) message within read =
    let e : base + 1 + k ≡ base + suc k = omega arith in
    linkable_here (base + 1) k slots message (omega arith) read ∙ ap (λ n. Some (loaded_linkable n message)) e
linkable_here base (suc k) (Live other ∷ slots) message within read =
    let e : base + 1 + k ≡ base + suc k = omega arith in
    linkable_here (base + 1) k slots message (omega arith) read ∙ ap (λ n. Some (loaded_linkable n message)) e

-- the live message at a place has a parent in the list of the parents
pub parent_stands : (base k : ℕ) (slots : List LoadedSlot) (message : LoadedMessage) (parents : List ℕ) → k < length slots → Live message ≡ get_or slots k (Live message)
    → parents ≡ map (parent_of (linkables_from base slots)) (linkables_from base slots)
    → slice_get parents (length (linkables_from base (take k slots))) ≡ Some (parent_at (linkables_from base slots) (base + k))
parent_stands base k slots message parents within read are =
    ap (λ (l : List ℕ). slice_get l (length (linkables_from base (take k slots)))) are
    ∙ slice_get-map (parent_of (linkables_from base slots)) (linkables_from base slots) (length (linkables_from base (take k slots)))
    ∙ ap (option_map (parent_of (linkables_from base slots))) (linkable_here base k slots message within read)
    ∙ ap Some (sym (parent_of_message base k slots message (slice_get-get_or slots k (Live message) within ∙ ap Some (sym read))))

-- a live message has a place among the parents
pub parent_within : (base k : ℕ) (slots : List LoadedSlot) (slot : LoadedSlot) (message : LoadedMessage) (parents : List ℕ) (before : List Summary) (at : ℕ)
    → k < length slots → slot ≡ get_or slots k slot → slot ≡ Live message → parents ≡ map (parent_of (linkables_from base slots)) (linkables_from base slots)
    → before ≡ listed_from (linkables_from base slots) base (take k slots) → at ≡ length before → at < length parents
parent_within base k slots slot message parents before at within read is are listed counted =
    let here : Live message ≡ get_or slots k (Live message) = subst (λ (s : LoadedSlot). s ≡ get_or slots k s) is read in
    let count : at ≡ length (linkables_from base (take k slots)) = counted ∙ ap length listed ∙ listed_length (linkables_from base slots) base (take k slots) in
    slice_get_within parents at (parent_at (linkables_from base slots) (base + k)) (ap (slice_get parents) count ∙ parent_stands base k slots message parents within here are)

-- a live message is put behind the others
pub listed_one : (base k : ℕ) (slots : List LoadedSlot) (slot : LoadedSlot) (message : LoadedMessage) (parents : List ℕ) (old new : List Summary) (at parent : ℕ) (one : Summary)
    → k < length slots → slot ≡ get_or slots k slot → slot ≡ Live message → parents ≡ map (parent_of (linkables_from base slots)) (linkables_from base slots)
    → old ≡ listed_from (linkables_from base slots) base (take k slots) → at ≡ length old → parent ≡ get_or parents at parent
    → one ≡ summary_with (base + k) message.head message.subfields parent → new ≡ old ++ one ∷ []
    → new ≡ listed_from (linkables_from base slots) base (take (k + 1) slots)
listed_one base k slots slot message parents old new at parent one within read is are listed counted taken summed put =
    let here : Live message ≡ get_or slots k (Live message) = subst (λ (s : LoadedSlot). s ≡ get_or slots k s) is read in
    let count : at ≡ length (linkables_from base (take k slots)) = counted ∙ ap length listed ∙ listed_length (linkables_from base slots) base (take k slots) in
    let its : parent ≡ parent_at (linkables_from base slots) (base + k) =
    taken ∙ get_or_from_slice_get parents at (parent_at (linkables_from base slots) (base + k)) parent (ap (slice_get parents) count ∙ parent_stands base k slots message parents within here are) in
    put ∙ ap (λ l. l ++ one ∷ []) listed
    ∙ ap (λ s. listed_from (linkables_from base slots) base (take k slots) ++ s ∷ []) (summed ∙ ap (summary_with (base + k) message.head message.subfields) its)
    ∙ sym (listed_more (linkables_from base slots) base k slots (Live message) within here)

-- another slot adds none
pub listed_none : (base k : ℕ) (slots : List LoadedSlot) (slot : LoadedSlot) (old new : List Summary)
    → k < length slots → slot ≡ get_or slots k slot → ((message : LoadedMessage) → slot ≡ Live message → ⊥)
    → old ≡ listed_from (linkables_from base slots) base (take k slots) → new ≡ old
    → new ≡ listed_from (linkables_from base slots) base (take (k + 1) slots)
listed_none base k slots slot old new within read other listed kept =
    kept ∙ listed ∙ sym (append-nil (listed_from (linkables_from base slots) base (take k slots)))
    ∙ ap (λ l. listed_from (linkables_from base slots) base (take k slots) ++ l) (none slot other)
    ∙ sym (listed_more (linkables_from base slots) base k slots slot within read)
  where
    none : (slot : LoadedSlot) → ((message : LoadedMessage) → slot ≡ Live message → ⊥) → [] ≡ listed_from (linkables_from base slots) (base + k) (slot ∷ [])
    none Empty other = refl
    none (Killed at) other = refl
    none (Live message) other = absurd (other message refl)

-- a live message that is there has not too many bytes
pub few_bytes_at : (slots : List LoadedSlot) (slot : LoadedSlot) (message : LoadedMessage) (k : ℕ) → All HasFewBytes slots → k < length slots → slot ≡ get_or slots k slot → slot ≡ Live message
    → length (subfield_bytes message.subfields) ≤ MOST_SUBFIELD_BYTES
few_bytes_at slots slot message k all within read is =
    subst (λ (s : LoadedSlot). HasFewBytes s) (sym read ∙ is) (All-get_or HasFewBytes slots k slot within all)

-- there are no more than slots
pub listed_few : (live : List Linkable) (number k : ℕ) (slots : List LoadedSlot) → length (listed_from live number (take k slots)) ≤ k
listed_few live number zero slots = omega arith
listed_few live number (suc k) [] = omega arith
listed_few live number (suc k) (Empty ∷ slots) = omega (arith, listed_few live (number + 1) k slots)
listed_few live number (suc k) (Killed at ∷ slots) = omega (arith, listed_few live (number + 1) k slots)
listed_few live number (suc k) (Live message ∷ slots) = omega (arith, listed_few live (number + 1) k slots)

-- there are no more than slots, all together
pub listed_count : (live : List Linkable) (number : ℕ) (slots : List LoadedSlot) → length (listed_from live number slots) ≤ length slots
listed_count live number [] = omega arith
listed_count live number (Empty ∷ slots) = omega (arith, listed_count live (number + 1) slots)
listed_count live number (Killed at ∷ slots) = omega (arith, listed_count live (number + 1) slots)
listed_count live number (Live message ∷ slots) = omega (arith, listed_count live (number + 1) slots)

-- none has a number below that of the first slot
listed_above : (live : List Linkable) (number : ℕ) (slots : List LoadedSlot) (k : ℕ) (d : Summary) → k < length (listed_from live number slots)
    → number ≤ (get_or (listed_from live number slots) k d).number
listed_above live number [] k d within = absurd (omega arith)
listed_above live number (Empty ∷ slots) k d within = let above : number + 1 ≤ (get_or (listed_from live (number + 1) slots) k d).number = listed_above live (number + 1) slots k d within in omega arith
listed_above live number (Killed at ∷ slots) k d within = let above : number + 1 ≤ (get_or (listed_from live (number + 1) slots) k d).number = listed_above live (number + 1) slots k d within in omega arith
listed_above live number (Live message ∷ slots) zero d within = omega arith
listed_above live number (Live message ∷ slots) (suc k) d within =
    let above : number + 1 ≤ (get_or (listed_from live (number + 1) slots) k d).number = listed_above live (number + 1) slots k d (omega arith) in omega arith

-- their numbers rise
pub listed_rises : (live : List Linkable) (number : ℕ) (slots : List LoadedSlot) → NumbersRise (listed_from live number slots)
listed_rises live number [] i j d before within = absurd (omega arith)
listed_rises live number (Empty ∷ slots) i j d before within = listed_rises live (number + 1) slots i j d before within
listed_rises live number (Killed at ∷ slots) i j d before within = listed_rises live (number + 1) slots i j d before within
listed_rises live number (Live message ∷ slots) i zero d before within = absurd (omega arith)
listed_rises live number (Live message ∷ slots) zero (suc j) d before within =
    let above : number + 1 ≤ (get_or (listed_from live (number + 1) slots) j d).number = listed_above live (number + 1) slots j d (omega arith) in omega arith
listed_rises live number (Live message ∷ slots) (suc i) (suc j) d before within = listed_rises live (number + 1) slots i j d (omega arith) (omega arith)

-- what is listed of an area, whatever its texts are
pub listed_of_state : (texts : List ℕ) (loaded : Loaded) → listed_from (linkables_from loaded.base loaded.slots) loaded.base loaded.slots
    ≡ map (summary_of (linkables_of (state_of texts loaded))) (live_in (state_of texts loaded))
listed_of_state texts loaded =
    sym (listed_with_texts (linkables_from loaded.base loaded.slots) texts loaded.base loaded.slots)
    ∙ ap (λ (live : List Linkable). map (summary_of live) (live_in (state_of texts loaded))) (sym (linkables_with_texts texts loaded.base loaded.slots))

-- an index by its parts
pub same_index : (summaries summaries' : List Summary) (marks marks' : List Mark) (base next next' : ℕ) (rules rules' : AreaRules) → summaries ≡ summaries' → marks ≡ marks' → next ≡ next' → rules ≡ rules'
    → ◌≡◌ {A = AreaIndex} (record { summaries = summaries; marks = marks; base = base; next = next; rules = rules })
    (record { summaries = summaries'; marks = marks'; base = base; next = next'; rules = rules' })
same_index summaries summaries' marks marks' base next next' rules rules' e f g h = cc

-- one more slot, and what passes of it
pub unread_more : (p : Summary → Bool) (live : List Linkable) (base k : ℕ) (slots : List LoadedSlot) (slot : LoadedSlot) (before here after : ℕ) → k < length slots → slot ≡ get_or slots k slot
    → before ≡ length (filter p (listed_from live base (take k slots))) → here ≡ length (filter p (listed_from live (base + k) (slot ∷ []))) → after ≡ before + here
    → after ≡ length (filter p (listed_from live base (take (k + 1) slots)))
unread_more p live base k slots slot before here after within read was is sum =
    let parts : length (filter p (listed_from live base (take (k + 1) slots))) ≡ length (filter p (listed_from live base (take k slots))) + length (filter p (listed_from live (base + k) (slot ∷ []))) =
    ap (λ l. length (filter p l)) (listed_more live base k slots slot within read)
    ∙ ap length (filter-append p (listed_from live base (take k slots)) (listed_from live (base + k) (slot ∷ [])))
    ∙ length-append (filter p (listed_from live base (take k slots))) (filter p (listed_from live (base + k) (slot ∷ []))) in
    omega (arith, parts, was, is, sum)

-- what passes of one alone
pub one_passes : (p : Summary → Bool) (one : Summary) (b : Bool) → p one ≡ b → length (filter p (one ∷ [])) ≡ cond b 1 0
one_passes p one true is = rw is refl
one_passes p one false is = rw is refl
