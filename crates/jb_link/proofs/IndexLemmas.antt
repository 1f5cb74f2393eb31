-- The index of an area when a message comes and when one is killed.
use Rattle.std.proofs.Common.{◌≡◌, ◌≢◌, ◌≤◌, ◌+◌, ◌-◌, inl, inr, ℕ, List, [], ◌∷◌, ◌++◌, length, length-set, get_or, refl, sym, ◌∙◌, ap, subst, arith}
use Rattle.std.specs.Prelude.{Contains, Option, None, IsSome, option_and_then, unwrap_or}
use Rattle.std.specs.declared.cmp.Ordering.{Ordering}
use Rattle.std.proofs.lemmas.Bool.{cases_eq}
use Rattle.std.proofs.lemmas.List.Elements.{Contains-get_or}
use Rattle.jb_bytes.specs.Subfields.{first_of}
use Rattle.jb_state.specs.Plan.{loaded_at}
use Rattle.jb_state.specs.Loaded.{with_slot_at}
use Rattle.jb_state.specs.declared.loaded.Loaded.{Loaded}
use Rattle.jb_state.specs.declared.loaded.LoadedMessage.{LoadedMessage}
use Rattle.jb_state.specs.declared.loaded.LoadedSlot.{LoadedSlot}
use Rattle.jb_state.specs.declared.loaded.LoadedSlot.TheVariants.{Killed}
use Rattle.jb_link.proofs.AreaLemmas.{killed_names_none, named_before, named_beside, named_is_in}
use Rattle.jb_link.proofs.IdListLemmas.{id_is_in}
use Rattle.jb_link.proofs.KeptLemmas.{keeps_pair}
use Rattle.jb_link.specs.IdLists.{IsIdList, IsIdListBut, id_at, id_place}
use Rattle.jb_link.specs.Kept.{IsKeptList, IsKeptListBut, KeepsReplyTo, LosesPairOf, pair_at}
use Rattle.jb_link.specs.IndexLaws.{HasOneMore}
use Rattle.jb_link.specs.Order.{IsRising, id_order}

-- a list rises also by other keys that are the same for what stands in it
pub rises_alike : {X K : Type 0} (order : K → K → Ordering) (key other : X → K) (xs : List X) → IsRising order key xs
    → ((x : X) → Contains xs x → other x ≡ key x) → IsRising order other xs
rises_alike order key other xs rising same i j d before within =
    ap (λ a. order a (other (get_or xs j d))) (same (get_or xs i d) (Contains-get_or xs i d (omega arith)))
    ∙ ap (order (key (get_or xs i d))) (same (get_or xs j d) (Contains-get_or xs j d within))
    ∙ rising i j d before within

-- what a number names gives its id
abbrev pub id_of : ℕ → Option LoadedMessage → Option (List ℕ)
id_of kind found = option_and_then (λ message. first_of kind message.subfields) found

-- and so its place among the ids
same_place_of : (kind : ℕ) (one other : Loaded) (number : ℕ) → loaded_at one number ≡ loaded_at other number → id_place kind one number ≡ id_place kind other number
same_place_of kind one other number same = ap (λ found. place found) same
  where
    place : Option LoadedMessage → List ℕ × ℕ
    place found = (unwrap_or (id_of kind found) [], number)

-- with one slot more an area is one longer
longer_list : (xs : List LoadedSlot) (slot : LoadedSlot) → length (xs ++ slot ∷ []) ≡ length xs + 1
longer_list [] slot = refl
longer_list (x ∷ xs) slot = omega (arith, longer_list xs slot)

pub one_longer : (before after : Loaded) → HasOneMore before after → length after.slots ≡ length before.slots + 1
one_longer before after more = ap length more.slots ∙ longer_list before.slots more.slot

-- and its last number is the next one of before
pub last_number : (before after : Loaded) (slots : List LoadedSlot) → HasOneMore before after → slots ≡ after.slots
    → after.base + (length slots - 1) ≡ before.base + length before.slots
last_number before after slots more is =
    let long : length slots ≡ length before.slots + 1 = ap length is ∙ one_longer before after more in
    omega (arith, long, more.base)

-- the ids of an area before its last message came
pub ids_before : (kind : ℕ) (before after : Loaded) (number : ℕ) (numbers : List ℕ) → HasOneMore before after → number ≡ before.base + length before.slots
    → IsIdList kind before numbers → IsIdListBut kind after number numbers
ids_before kind before after number numbers more is list = record {
  listed = λ one. (
    λ here.
        let some = (list.listed one).0 here in
        let low = id_is_in kind before one some in
        (subst (λ found. IsSome (id_of kind found)) (sym (kept one (λ e. omega arith))) some, λ e. omega arith),
    λ there. (list.listed one).1 (subst (λ found. IsSome (id_of kind found)) (kept one (λ e. there.1 (e ∙ sym is))) there.0),
  );
  rising = rises_alike id_order (id_place kind before) (id_place kind after) numbers list.rising
      (λ one here. let low = id_is_in kind before one ((list.listed one).0 here) in same_place_of kind after before one (kept one (λ e. omega arith)));
}
  where
    kept : (one : ℕ) → one ≢ before.base + length before.slots → loaded_at after one ≡ loaded_at before one
    kept one other = named_before before after one more other

-- the pairs of an area before its last message came
pub pairs_before : (before after : Loaded) (number : ℕ) (pairs : List (ℕ × ℕ)) → HasOneMore before after → number ≡ before.base + length before.slots
    → IsKeptList before pairs → IsKeptListBut after number pairs
pairs_before before after number pairs more is list = record {
  each = λ first second here.
      let was = list.each first second here in (
        record {
          later = was.later;
          there = omega (arith, was.there, longer, more.base);
          keeps = λ live. moved first second (λ e. omega (arith, was.there, is))
              (was.keeps (subst (λ (found : Option LoadedMessage). IsSome found) (kept first (λ e. omega (arith, was.later, was.there, is))) live));
        },
        λ e. omega (arith, was.there, is),
      );
  whole = λ first second apart later live keeps.
      let low = (named_is_in after second keeps.message keeps.live).high in
      list.whole first second later
      (subst (λ (found : Option LoadedMessage). IsSome found) (kept first (λ e. omega (arith, later, low, longer, more.base, is))) live)
      (record { message = keeps.message; live = sym (kept second apart) ∙ keeps.live; no_id = keeps.no_id; reply_to = keeps.reply_to });
  rising = list.rising;
}
  where
    longer : length after.slots ≡ length before.slots + 1
    longer = one_longer before after more

    kept : (one : ℕ) → one ≢ number → loaded_at after one ≡ loaded_at before one
    kept one other = named_before before after one more (λ e. other (e ∙ sym is))

    moved : (first second : ℕ) → second ≢ number → KeepsReplyTo before first second → KeepsReplyTo after first second
    moved first second other keeps = record { message = keeps.message; live = kept second other ∙ keeps.live; no_id = keeps.no_id; reply_to = keeps.reply_to }

-- the area with the message of this number killed
abbrev killed : Loaded → ℕ → ℕ → Loaded
killed loaded number header_at = with_slot_at (number - loaded.base) (Killed header_at) loaded

-- the ids after a kill
pub ids_killed : (kind : ℕ) (loaded : Loaded) (number header_at : ℕ) (numbers : List ℕ) → loaded.base ≤ number → IsIdListBut kind loaded number numbers
    → IsIdList kind (killed loaded number header_at) numbers
ids_killed kind loaded number header_at numbers from but = record {
  listed = λ one. (
    λ here.
        let was = (but.listed one).0 here in
        subst (λ found. IsSome (id_of kind found)) (sym (kept one was.1)) was.0,
    λ some. elim (cases_eq one number) [
      | inl is ↦ absurd (gone one is some)
      | inr other ↦ (but.listed one).1 (subst (λ found. IsSome (id_of kind found)) (kept one other) some, other)
    ],
  );
  rising = rises_alike id_order (id_place kind loaded) (id_place kind (killed loaded number header_at)) numbers but.rising
      (λ one here. same_place_of kind (killed loaded number header_at) loaded one (kept one ((but.listed one).0 here).1));
}
  where
    kept : (one : ℕ) → one ≢ number → loaded_at (killed loaded number header_at) one ≡ loaded_at loaded one
    kept one other = named_beside loaded number (Killed header_at) one from other

    gone : (one : ℕ) → one ≡ number → IsSome (id_at kind (killed loaded number header_at) one) → ⊥
    gone one is some =
        let none : loaded_at (killed loaded number header_at) one ≡ None = ap (loaded_at (killed loaded number header_at)) is ∙ killed_names_none loaded number header_at from in
        let no_id : id_at kind (killed loaded number header_at) one ≡ None = ap (id_of kind) none in
        cc

-- the pairs after a kill
pub pairs_killed : (loaded : Loaded) (number header_at : ℕ) (old new : List (ℕ × ℕ)) → loaded.base ≤ number → IsKeptList loaded old → LosesPairOf loaded number old new
    → IsKeptList (killed loaded number header_at) new
pairs_killed loaded number header_at old new from list loses = record {
  each = λ first second here.
      let still = loses.each first second here in
      let was = list.each first second still.0 in
      record {
        later = was.later;
        there = omega (arith, was.there, length-set loaded.slots (number - loaded.base) (Killed header_at));
        keeps = λ live. elim (cases_eq first number) [
          | inl is ↦ absurd (gone first is live)
          | inr other ↦
              (let lives : IsSome (loaded_at loaded first) = subst (λ (found : Option LoadedMessage). IsSome found) (kept first other) live in
              let keeps = was.keeps lives in
              elim (cases_eq second number) [
                | inl is ↦
                    absurd (still.1 (ap (pair_at loaded) (sym is) ∙ keeps_pair loaded first second was.later lives keeps))
                | inr apart ↦ record { message = keeps.message; live = kept second apart ∙ keeps.live; no_id = keeps.no_id; reply_to = keeps.reply_to }
              ])
        ];
      };
  whole = λ first second later live keeps. elim (cases_eq second number) [
    | inl is ↦ absurd (let none = ap (loaded_at (killed loaded number header_at)) is ∙ killed_names_none loaded number header_at from in let some = keeps.live in cc)
    | inr apart ↦
        elim (cases_eq first number) [
          | inl is ↦ absurd (gone first is live)
          | inr other ↦
              loses.whole first second
              (list.whole first second later (subst (λ (found : Option LoadedMessage). IsSome found) (kept first other) live)
              (record { message = keeps.message; live = sym (kept second apart) ∙ keeps.live; no_id = keeps.no_id; reply_to = keeps.reply_to }))
              apart
        ]
  ];
  rising = loses.rising;
}
  where
    kept : (one : ℕ) → one ≢ number → loaded_at (killed loaded number header_at) one ≡ loaded_at loaded one
    kept one other = named_beside loaded number (Killed header_at) one from other

    gone : (one : ℕ) → one ≡ number → IsSome (loaded_at (killed loaded number header_at) one) → ⊥
    gone one is some =
        let none : loaded_at (killed loaded number header_at) one ≡ None = ap (loaded_at (killed loaded number header_at)) is ∙ killed_names_none loaded number header_at from in
        cc
