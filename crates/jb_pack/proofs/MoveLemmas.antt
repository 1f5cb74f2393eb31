-- The slots of an area as they are moved, one after another.
use Rattle.std.proofs.Common.{◌≡◌, ℕ, zero, suc, ◌+◌, ◌≤◌, ◌<◌, List, [], ◌∷◌, ◌++◌, cond, length, drop, get_or, map, set, refl, sym, ◌∙◌, ap, arith, append_assoc, length-append, length-drop}
use Rattle.std.proofs.lemmas.List.{drop-drop, get_or-drop, set_at}
use Rattle.std.proofs.lemmas.List.Sums.{sum_by-cons}
use Rattle.jb_state.specs.Plan.{links_of}
use Rattle.jb_state.specs.LiveSlots.{linkables_from, loaded_linkable}
use Rattle.jb_state.specs.Links.{Linkable}
use Rattle.jb_state.specs.Loaded.{header_size, slot_moved_to}
use Rattle.jb_state.specs.declared.links.Links.{Links}
use Rattle.jb_state.specs.declared.loaded.LoadedMessage.{LoadedMessage}
use Rattle.jb_state.specs.declared.loaded.LoadedSlot.{LoadedSlot}
use Rattle.jb_state.specs.declared.loaded.LoadedSlot.TheVariants.{Empty, Killed, Live}
use Rattle.jb_state.specs.declared.message.Head.{Head}
use Rattle.jb_state.specs.Packed.{headers_size, is_live_slot, live_slots, moved, packed_from, slot_header_size, slot_text_size, texts_size}
use Rattle.jb_state.specs.Linked.{linked_head}
use Rattle.jb_pack.specs.Places.{IsBehind}
use Rattle.jb_pack.specs.declared.place.Place.{Place}
use Rattle.jb_pack.proofs.SlotLemmas.{from_place}

-- behind as many slots, the next one is that of the whole list
same_there : (done all : List LoadedSlot) (k : ℕ) (d : LoadedSlot) → length done ≡ k → k < length all → get_or (done ++ drop k all) k d ≡ get_or all k d
same_there [] all zero d is low = refl
same_there [] all (suc k) d is low = absurd (omega (arith, is))
same_there (slot ∷ done) all zero d is low = absurd (omega (arith, is))
same_there (slot ∷ done) [] (suc k) d is low = absurd (omega (arith, low))
same_there (slot ∷ done) (first ∷ all) (suc k) d is low = same_there done all k d (omega (arith, is)) (omega (arith, low))

module _ (live : List Linkable) (links : List Links) (base : ℕ) (all : List LoadedSlot) where
  -- so many slots are moved, and these are left
  pub record IsMoved (now : List LoadedSlot) (place : Place) (count : ℕ) (rest : List LoadedSlot) : Type 0 where
    pub done : List LoadedSlot
    pub now_is : now ≡ done ++ rest
    pub many : length done ≡ count
    pub whole : done ++ packed_from live place.number place.header_at place.text_at rest ≡ packed_from live base 1024 0 all
    pub linked : drop place.live links ≡ map (links_of live) (linkables_from place.number rest)
    pub number : place.number + length rest ≡ base + length all
    pub few : place.live ≤ count
    pub headers : place.header_at + headers_size rest ≡ 1024 + headers_size all
    pub texts : place.text_at + texts_size rest ≡ texts_size all
    pub counted : place.live + live_slots rest ≡ live_slots all

  -- at first none is moved
  pub move_none : links ≡ map (links_of live) (linkables_from base all) → IsMoved all (record { number = base; header_at = 1024; text_at = 0; live = 0 }) 0 all
  move_none are = record {
    done = [];
    now_is = refl;
    many = refl;
    whole = refl;
    linked = are;
    number = refl;
    few = omega arith;
    headers = refl;
    texts = omega arith;
    counted = omega arith;
  }

  -- what stands at the next place is what is left there
  pub rest_is : (now : List LoadedSlot) (place : Place) (k : ℕ) (slot : LoadedSlot) → k < length all → slot ≡ get_or now k slot
      → IsMoved now place k (drop k all) → drop k all ≡ slot ∷ drop (k + 1) all
  rest_is now place k slot low read move =
      from_place all k slot low (read ∙ ap (λ (l : List LoadedSlot). get_or l k slot) move.now_is ∙ same_there move.done all k slot move.many low)

  -- a slot without a live message is emptied
  move_empty : (now : List LoadedSlot) (place : Place) (count : ℕ) (slot : LoadedSlot) (rest : List LoadedSlot)
      → packed_from live place.number place.header_at place.text_at (slot ∷ rest) ≡ Empty ∷ packed_from live (place.number + 1) place.header_at place.text_at rest
      → linkables_from place.number (slot ∷ rest) ≡ linkables_from (place.number + 1) rest
      → slot_header_size slot ≡ 0 → slot_text_size slot ≡ 0 → live_slots (slot ∷ rest) ≡ live_slots rest
      → IsMoved now place count (slot ∷ rest) → IsMoved (set now count Empty) (record place { number = place.number + 1 }) (count + 1) rest
  move_empty now place count slot rest is same no_header no_text not_live move =
      let headers_is = sum_by-cons slot_header_size slot rest in
      let texts_is = sum_by-cons slot_text_size slot rest in
      let next : List LoadedSlot = packed_from live (place.number + 1) place.header_at place.text_at rest in
      record {
        done = move.done ++ Empty ∷ [];
        now_is =
            ap (λ (l : List LoadedSlot). set l count Empty) move.now_is ∙ set_at move.done slot rest Empty count move.many
            ∙ sym (append_assoc move.done (Empty ∷ []) rest);
        many = omega (arith, move.many, length-append move.done (Empty ∷ []));
        whole = append_assoc move.done (Empty ∷ []) next ∙ ap (λ (l : List LoadedSlot). move.done ++ l) (sym is) ∙ move.whole;
        linked = move.linked ∙ ap (map (links_of live)) same;
        number = omega (arith, move.number);
        few = omega (arith, move.few);
        headers = omega (arith, move.headers);
        texts = omega (arith, move.texts);
        counted = ap (λ n. place.live + n) (sym not_live) ∙ move.counted;
      }

  -- a slot without a live message
  pub move_no_message : (now : List LoadedSlot) (place : Place) (count : ℕ) (slot : LoadedSlot) (rest : List LoadedSlot)
      → ((message : LoadedMessage) → slot ≡ Live message → ⊥)
      → IsMoved now place count (slot ∷ rest) → IsMoved (set now count Empty) (record place { number = place.number + 1 }) (count + 1) rest
  move_no_message now place count Empty rest other move = move_empty now place count Empty rest refl refl refl refl refl move
  move_no_message now place count (Killed killed_at) rest other move = move_empty now place count (Killed killed_at) rest refl refl refl refl refl move
  move_no_message now place count (Live message) rest other move = absurd (other message refl)

  -- there are links for a live message
  pub links_left : (now : List LoadedSlot) (place : Place) (count : ℕ) (message : LoadedMessage) (rest : List LoadedSlot)
      → IsMoved now place count (Live message ∷ rest) → place.live < length links
  links_left now place count message rest move = omega (arith, ap length move.linked, length-drop place.live links)

  -- and they are its own
  links_are : (now : List LoadedSlot) (place : Place) (count : ℕ) (message : LoadedMessage) (rest : List LoadedSlot) (d : Links)
      → IsMoved now place count (Live message ∷ rest) → get_or links place.live d ≡ links_of live (loaded_linkable place.number message)
  links_are now place count message rest d move =
      let same : place.live + 0 ≡ place.live = omega arith in
      ap (λ n. get_or links n d) (sym same) ∙ sym (get_or-drop place.live links 0 d) ∙ ap (λ (l : List Links). get_or l 0 d) move.linked

  -- a live message is moved
  pub move_live : (now now' : List LoadedSlot) (place next : Place) (count : ℕ) (head : Head) (message : LoadedMessage) (rest : List LoadedSlot) (d : Links)
      → now' ≡ set now count (slot_moved_to head place.header_at place.text_at (get_or now count Empty)) → head ≡ linked_head (get_or links place.live d) message.head
      → IsBehind message place next → IsMoved now place count (Live message ∷ rest) → IsMoved now' next (count + 1) rest
  move_live now now' place next count head message rest d now_is head_is behind move =
      let there : LoadedSlot = Live (moved (links_of live (loaded_linkable place.number message)) place.header_at place.text_at message) in
      let after : List LoadedSlot = packed_from live (place.number + 1) (place.header_at + header_size message) (place.text_at + message.text_len) rest in
      let same : packed_from live next.number next.header_at next.text_at rest ≡ after = λ i. packed_from live (behind.number i) (behind.header_at i) (behind.text_at i) rest in
      let headers_is = sum_by-cons slot_header_size (Live message) rest in
      let texts_is = sum_by-cons slot_text_size (Live message) rest in
      let live_is = sum_by-cons (λ slot. cond (is_live_slot slot) 1 0) (Live message) rest in
      let here : get_or now count Empty ≡ Live message = ap (λ (l : List LoadedSlot). get_or l count Empty) move.now_is ∙ at_seam move.done message rest count move.many in
      let slot_is : slot_moved_to head place.header_at place.text_at (get_or now count Empty) ≡ there =
      ap (slot_moved_to head place.header_at place.text_at) here
      ∙ ap (λ (h : Head). Live (record message { head = h; header_at = place.header_at; text_at = place.text_at }))
      (head_is ∙ ap (λ (l : Links). linked_head l message.head) (links_are now place count message rest d move)) in
      record {
        done = move.done ++ there ∷ [];
        now_is =
            now_is ∙ ap (set now count) slot_is ∙ ap (λ (l : List LoadedSlot). set l count there) move.now_is
            ∙ set_at move.done (Live message) rest there count move.many ∙ sym (append_assoc move.done (there ∷ []) rest);
        many = omega (arith, move.many, length-append move.done (there ∷ []));
        whole =
            ap (λ (l : List LoadedSlot). (move.done ++ there ∷ []) ++ l) same ∙ append_assoc move.done (there ∷ []) after ∙ move.whole;
        linked =
            ap (λ n. drop n links) (behind.live ∙ add_one) ∙ sym (drop-drop 1 place.live links ∙ ap (λ n. drop n links) add_one)
            ∙ ap (drop 1) move.linked ∙ ap (λ n. map (links_of live) (linkables_from n rest)) (sym behind.number);
        number = omega (arith, move.number, behind.number);
        few = omega (arith, move.few, behind.live);
        headers = omega (arith, move.headers, behind.header_at);
        texts = omega (arith, move.texts, behind.text_at);
        counted = omega (arith, move.counted, behind.live);
      }
    where
      add_one : place.live + 1 ≡ suc place.live
      add_one = omega arith

      at_seam : (done : List LoadedSlot) (message : LoadedMessage) (rest : List LoadedSlot) (k : ℕ) → length done ≡ k → get_or (done ++ Live message ∷ rest) k Empty ≡ Live message
      at_seam [] message rest zero is = refl
      at_seam [] message rest (suc k) is = absurd (omega (arith, is))
      at_seam (first ∷ done) message rest zero is = absurd (omega (arith, is))
      at_seam (first ∷ done) message rest (suc k) is = at_seam done message rest k (omega (arith, is))

  -- what the next live message has room for
  pub record HasRoomFor (place : Place) (message : LoadedMessage) : Type 0 where
    pub headers : place.header_at + header_size message ≤ 1024 + headers_size all
    pub texts : place.text_at + message.text_len ≤ texts_size all
    pub number : place.number < base + length all

  -- it has its room
  pub has_room : (now : List LoadedSlot) (place : Place) (count : ℕ) (message : LoadedMessage) (rest : List LoadedSlot)
      → IsMoved now place count (Live message ∷ rest) → HasRoomFor place message
  has_room now place count message rest move =
      let headers_is = sum_by-cons slot_header_size (Live message) rest in
      let texts_is = sum_by-cons slot_text_size (Live message) rest in
      record { headers = omega (arith, move.headers); texts = omega (arith, move.texts); number = omega (arith, move.number) }

  -- where none is left, all are moved
  pub moved_all : (now : List LoadedSlot) (place : Place) (count : ℕ) → IsMoved now place count [] → now ≡ packed_from live base 1024 0 all
  moved_all now place count move = move.now_is ∙ move.whole
