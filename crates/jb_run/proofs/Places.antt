-- The disks at places: handed out, put back, and what stands at a folder and a name then.
use Rattle.std.proofs.Common.{◌≡◌, ℕ, zero, suc, ◌<◌, Bool, true, false, ◌&&◌, ◌||◌, List, [], ◌∷◌, length, refl, sym, ap, ◌∙◌, arith}
use Rattle.std.specs.Prelude.{bytes_eq, if◌then◌else◌, slice_index_or}
use Rattle.std.proofs.lemmas.Slice.Eq.{bytes_eq-Decides}
use Rattle.jb_run.specs.Desks.{DisksAreOut, BasePlace, Stand, with_each, with_places_out}
use Rattle.jb_disk.specs.Device.{Device}
use Rattle.jb_disk.specs.Silent.{silent_device}
use Rattle.jb_host.specs.Desk.{Disks, DiskPlace, handed_out, has_disk, with_place}

-- the folder and the name are those of this place
abbrev pub is_for : List ℕ → List ℕ → BasePlace → Bool
is_for dir name place = bytes_eq dir place.dir && bytes_eq name place.base

-- they are those of one of these places
abbrev pub is_of : List BasePlace → List ℕ → List ℕ → Bool
is_of [] dir name = false
is_of (place ∷ places) dir name = is_for dir name place || is_of places dir name

false_is_not_true : false ≡ true → ⊥
false_is_not_true is = cc

pub neither : (a b : Bool) → a ≡ false → b ≡ false → (a || b) ≡ false
neither true b h k = h
neither false b h k = k

pub not_first : (a b : Bool) → (a || b) ≡ false → a ≡ false
not_first true b h = h
not_first false b h = refl

pub not_second : (a b : Bool) → (a || b) ≡ false → b ≡ false
not_second true b h = absurd (false_is_not_true (sym h))
not_second false b h = h

other_one : (a b : Bool) → (a || b) ≡ true → a ≡ false → b ≡ true
other_one true b h k = absurd (false_is_not_true (sym k))
other_one false b h k = h

one_of : (a b : Bool) → (a || b) ≡ true → b ≡ false → a ≡ true
one_of true b h k = refl
one_of false b h k = sym k ∙ h

first_of_them : (a b : Bool) → a ≡ true → (a || b) ≡ true
first_of_them a b h = ap (λ (c : Bool). c || b) h

second_of_them : (a b : Bool) → b ≡ true → (a || b) ≡ true
second_of_them true b h = refl
second_of_them false b h = h

-- either way
either : {P : Type 0} (b : Bool) → (b ≡ true → P) → (b ≡ false → P) → P
either true one other = one refl
either false one other = other refl

-- the choice of a place by a test
chosen : (b : Bool) (p q : DiskPlace) → b ≡ true → (if b then p else q) ≡ p
chosen b p q is = ap (λ (c : Bool). if c then p else q) is

pub not_chosen : {A : Type 0} (b : Bool) (p q : A) → b ≡ false → (if b then p else q) ≡ q
not_chosen b p q is = ap (λ (c : Bool). if c then p else q) is

pub same_choice : {A : Type 0} (b : Bool) (p q r : A) → (b ≡ false → q ≡ r) → (if b then p else q) ≡ (if b then p else r)
same_choice true p q r same = refl
same_choice false p q r same = same refl

pub both : (a b : Bool) → a ≡ true → b ≡ true → (a && b) ≡ true
both a b h k = ap (λ (c : Bool). c && b) h ∙ k

pub parts : (a b : Bool) → (a && b) ≡ true → (a ≡ true) × (b ≡ true)
parts true b h = (refl, h)
parts false b h = absurd (false_is_not_true h)

own : (place : BasePlace) → is_for place.dir place.base place ≡ true
own place = both _ _ ((bytes_eq-Decides place.dir place.dir).1 refl) ((bytes_eq-Decides place.base place.base).1 refl)

-- a place is one of them
pub is_among : (places : List BasePlace) (k : ℕ) (place : BasePlace) → k < length places
    → is_of places (slice_index_or places k place).dir (slice_index_or places k place).base ≡ true
is_among [] k place within = absurd (omega (arith, within))
is_among (first ∷ places) zero place within = first_of_them _ _ (own first)
is_among (first ∷ places) (suc k) place within =
    second_of_them (is_for (slice_index_or places k place).dir (slice_index_or places k place).base first) _ (is_among places k place (omega (arith, within)))

-- a disk that is out stays out
pub stays_out : (places : List BasePlace) (disks : Disks) (dir name : List ℕ) → disks dir name ≡ handed_out → with_places_out places disks dir name ≡ handed_out
stays_out [] disks dir name out = out
stays_out (place ∷ places) disks dir name out =
    stays_out places (with_place place.dir place.base handed_out disks) dir name
    (same_choice (is_for dir name place) handed_out (disks dir name) handed_out (λ _. out) ∙ always (is_for dir name place))
  where
    always : (b : Bool) → (if b then handed_out else handed_out) ≡ handed_out
    always true = refl
    always false = refl

-- the disks at the places are out
pub is_out : (places : List BasePlace) (disks : Disks) (dir name : List ℕ) → is_of places dir name ≡ true → with_places_out places disks dir name ≡ handed_out
is_out [] disks dir name on = absurd (false_is_not_true on)
is_out (place ∷ places) disks dir name on =
    either (is_for dir name place)
    (λ here. stays_out places (with_place place.dir place.base handed_out disks) dir name (chosen (is_for dir name place) handed_out (disks dir name) here))
    (λ off. is_out places (with_place place.dir place.base handed_out disks) dir name (other_one (is_for dir name place) (is_of places dir name) on off))

pub are_out : (places : List BasePlace) (disks : Disks) → DisksAreOut places (with_places_out places disks)
are_out places disks k place within = is_out places disks _ _ (is_among places k place within)

-- and no other is
pub is_left : (places : List BasePlace) (disks : Disks) (dir name : List ℕ) → is_of places dir name ≡ false → with_places_out places disks dir name ≡ disks dir name
is_left [] disks dir name off = refl
is_left (place ∷ places) disks dir name off =
    is_left places (with_place place.dir place.base handed_out disks) dir name (not_second (is_for dir name place) (is_of places dir name) off)
    ∙ not_chosen (is_for dir name place) handed_out (disks dir name) (not_first (is_for dir name place) (is_of places dir name) off)

-- elsewhere nothing was put
pub is_untouched : (places : List BasePlace) (devices : List Device) (disks : Disks) (dir name : List ℕ) → is_of places dir name ≡ false
    → with_each places devices disks dir name ≡ disks dir name
is_untouched [] devices disks dir name off = refl
is_untouched (place ∷ places) [] disks dir name off = refl
is_untouched (place ∷ places) (device ∷ devices) disks dir name off =
    is_untouched places devices (with_place place.dir place.base (has_disk device) disks) dir name (not_second (is_for dir name place) (is_of places dir name) off)
    ∙ not_chosen (is_for dir name place) (has_disk device) (disks dir name) (not_first (is_for dir name place) (is_of places dir name) off)

-- at one of the places a disk was put
pub is_filled : (places : List BasePlace) (devices : List Device) (disks : Disks) (dir name : List ℕ) → length devices ≡ length places → is_of places dir name ≡ true
    → (device : Device) × (with_each places devices disks dir name ≡ has_disk device)
is_filled [] devices disks dir name count on = absurd (false_is_not_true on)
is_filled (place ∷ places) [] disks dir name count on = absurd (omega (arith, count))
is_filled (place ∷ places) (device ∷ devices) disks dir name count on =
    either (is_of places dir name)
    (λ later. is_filled places devices (with_place place.dir place.base (has_disk device) disks) dir name (omega (arith, count)) later)
    (λ off. (
      device,
      is_untouched places devices (with_place place.dir place.base (has_disk device) disks) dir name off
          ∙ chosen (is_for dir name place) (has_disk device) (disks dir name) (one_of (is_for dir name place) (is_of places dir name) on off),
    ))

-- what stands then does not hang on what was at the places
same_filled : (places : List BasePlace) (devices : List Device) (one other : Disks) (dir name : List ℕ) → length devices ≡ length places
    → (is_of places dir name ≡ false → one dir name ≡ other dir name) → with_each places devices one dir name ≡ with_each places devices other dir name
same_filled [] devices one other dir name count same = same refl
same_filled (place ∷ places) [] one other dir name count same = absurd (omega (arith, count))
same_filled (place ∷ places) (device ∷ devices) one other dir name count same =
    same_filled places devices (with_place place.dir place.base (has_disk device) one) (with_place place.dir place.base (has_disk device) other) dir name
    (omega (arith, count))
    (λ off. same_choice (is_for dir name place) (has_disk device) (one dir name) (other dir name)
    (λ off_here. same (neither (is_for dir name place) (is_of places dir name) off_here off)))

-- disks that were handed out and put back
pub put_back : (places : List BasePlace) (devices : List Device) (disks : Disks) → length devices ≡ length places
    → with_each places devices (with_places_out places disks) ≡ with_each places devices disks
put_back places devices disks count =
    λ i. λ dir name. same_filled places devices (with_places_out places disks) disks dir name count (is_left places disks dir name) i

-- where disks stand at the places, there is one
pub is_there : (places : List BasePlace) (disks : Disks) (dir name : List ℕ)
    → ((k : ℕ) (place : BasePlace) → k < length places → (device : Device) × (disks (slice_index_or places k place).dir (slice_index_or places k place).base ≡ has_disk device))
    → is_of places dir name ≡ true → (device : Device) × (disks dir name ≡ has_disk device)
is_there [] disks dir name stand on = absurd (false_is_not_true on)
is_there (place ∷ places) disks dir name stand on =
    either (is_for dir name place)
    (λ here.
    let same = parts (bytes_eq dir place.dir) (bytes_eq name place.base) here in
    let at = stand zero place (omega arith) in (
      at.0,
      ap (λ (d : List ℕ). disks d name) ((bytes_eq-Decides dir place.dir).0 same.0)
          ∙ ap (λ (n : List ℕ). disks place.dir n) ((bytes_eq-Decides name place.base).0 same.1) ∙ at.1,
    ))
    (λ off. is_there places disks dir name (λ k other within. stand (suc k) other (omega (arith, within)))
    (other_one (is_for dir name place) (is_of places dir name) on off))

pub stood : (places : List BasePlace) (devices : List Device) (disks : Disks) (dir name : List ℕ) → Stand places devices disks → is_of places dir name ≡ true
    → (device : Device) × (disks dir name ≡ has_disk device)
stood places devices disks dir name stand on =
    is_there places disks dir name (λ k place within. (slice_index_or devices k (silent_device 0), stand k place (silent_device 0) within)) on
