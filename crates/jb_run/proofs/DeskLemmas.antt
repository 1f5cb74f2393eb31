-- The disks at a list of places grow by one as they are handed out, and as they are put back, the last first.
use Rattle.std.proofs.Common.{◌≡◌, ℕ, zero, suc, ◌+◌, Bool, true, false, ◌&&◌, List, [], ◌∷◌, ◌++◌, All, length, refl, sym, ap, subst, ◌∙◌, arith}
use Rattle.std.specs.Prelude.{bytes_eq, if◌then◌else◌, slice_index_or, Option, Some, None}
use Rattle.std.specs.Option.{option_map}
use Rattle.std.proofs.lemmas.Bool.{and_parts}
use Rattle.std.proofs.lemmas.List.{append-nil, append_assoc, length-append, length_push, map-append, map_push}
use Rattle.std.proofs.lemmas.List.Elements.{All-head, All-tail}
use Rattle.std.proofs.lemmas.List.Sums.{sum_by-cons}
use Rattle.std.proofs.lemmas.Slice.Eq.{bytes_eq-Decides}
use Rattle.jb_disk.specs.Device.{Device}
use Rattle.jb_host.proofs.Callers.{keeps_more, keeps_more_back, keeps_none}
use Rattle.jb_host.specs.Desk.{CountsFailed, Desk, Disks, GivesDisk, HostCall, DiskPlace, TakesBack, and_call, asked_disk, handed_out, has_disk, with_place}
use Rattle.jb_run.proofs.Counting.{counts_more, counts_none}
use Rattle.jb_run.proofs.EachLemmas.{each_pair_last}
use Rattle.jb_run.specs.Desks.{BasePlace, HandsOut, PutsBack, Stand, asked_for, disk_faults, with_each, with_places_out}

-- the one place is not the other
abbrev pub IsElsewhere : BasePlace → BasePlace → Type 0
IsElsewhere one other = (one.dir ≡ other.dir) × (one.base ≡ other.base) → ⊥

-- the test for a place is met by that place alone
key_parts : (a b c d : List ℕ) → (bytes_eq a c && bytes_eq b d) ≡ true → (a ≡ c) × (b ≡ d)
key_parts a b c d is = let both = and_parts (bytes_eq a c) (bytes_eq b d) is in ((bytes_eq-Decides a c).0 both.0, (bytes_eq-Decides b d).0 both.1)

-- two choices of which at most one is made
either_first : {A : Type 0} (b c : Bool) (x y z : A) → (b ≡ true → c ≡ true → ⊥) → (if b then x else (if c then y else z)) ≡ (if c then y else (if b then x else z))
either_first true true x y z not = absurd (not refl refl)
either_first true false x y z not = refl
either_first false c x y z not = refl

-- a choice that is not made
not_chosen : {A : Type 0} (b : Bool) (x z : A) → (b ≡ true → ⊥) → (if b then x else z) ≡ z
not_chosen true x z not = absurd (not refl)
not_chosen false x z not = refl

-- a disk that a choice with no disk gives is the other one
chosen_disk : (b : Bool) (z : DiskPlace) (device : Device) → (if b then handed_out else z) ≡ has_disk device → z ≡ has_disk device
chosen_disk true z device is = absurd (cc)
chosen_disk false z device is = is

-- two places are changed in either order
with_place-swap : (dir name dir' name' : List ℕ) (p q : DiskPlace) (disks : Disks) → ((dir ≡ dir') × (name ≡ name') → ⊥)
    → with_place dir name p (with_place dir' name' q disks) ≡ with_place dir' name' q (with_place dir name p disks)
with_place-swap dir name dir' name' p q disks apart = λ i. λ other_dir other_name.
    either_first (bytes_eq other_dir dir && bytes_eq other_name name) (bytes_eq other_dir dir' && bytes_eq other_name name') p q (disks other_dir other_name)
    (λ here there.
    let one = key_parts other_dir other_name dir name here in
    let two = key_parts other_dir other_name dir' name' there in
    apart (sym one.0 ∙ two.0, sym one.1 ∙ two.1)) i

-- another place is as it was
with_place-other : (dir name dir' name' : List ℕ) (q : DiskPlace) (disks : Disks) → ((dir ≡ dir') × (name ≡ name') → ⊥) → with_place dir' name' q disks dir name ≡ disks dir name
with_place-other dir name dir' name' q disks apart =
    not_chosen (bytes_eq dir dir' && bytes_eq name name') q (disks dir name) (λ here. apart (key_parts dir name dir' name' here))

-- the last disk is handed out last
without-push : (places : List BasePlace) (place : BasePlace) (disks : Disks) → with_places_out (places ++ place ∷ []) disks ≡ with_place place.dir place.base handed_out (with_places_out places disks)
without-push [] place disks = refl
without-push (first ∷ places) place disks = without-push places place (with_place first.dir first.base handed_out disks)

-- a disk that is there still was there
pub was_there : (places : List BasePlace) (dir name : List ℕ) (device : Device) (disks : Disks) → with_places_out places disks dir name ≡ has_disk device → disks dir name ≡ has_disk device
was_there [] dir name device disks is = is
was_there (place ∷ places) dir name device disks is =
    chosen_disk (bytes_eq dir place.dir && bytes_eq name place.base) (disks dir name) device (was_there places dir name device (with_place place.dir place.base handed_out disks) is)

-- the first disk may be put back last
with_each-first : (place : BasePlace) (device : Device) (places : List BasePlace) (devices : List Device) (disks : Disks) → All (IsElsewhere place) places
    → with_each (place ∷ places) (device ∷ devices) disks ≡ with_place place.dir place.base (has_disk device) (with_each places devices disks)
with_each-first place device [] devices disks apart = refl
with_each-first place device (other ∷ places) [] disks apart = refl
with_each-first place device (other ∷ places) (there ∷ devices) disks apart =
    ap (λ (d : Disks). with_each places devices d)
    (sym (with_place-swap place.dir place.base other.dir other.base (has_disk device) (has_disk there) disks (All-head (IsElsewhere place) other places apart)))
    ∙ with_each-first place device places devices (with_place other.dir other.base (has_disk there) disks) (All-tail (IsElsewhere place) other places apart)

-- the others leave its place as it was
pub with_each-other : (place : BasePlace) (places : List BasePlace) (devices : List Device) (disks : Disks) → All (IsElsewhere place) places
    → with_each places devices disks place.dir place.base ≡ disks place.dir place.base
with_each-other place [] devices disks apart = refl
with_each-other place (other ∷ places) [] disks apart = refl
with_each-other place (other ∷ places) (there ∷ devices) disks apart =
    with_each-other place places devices (with_place other.dir other.base (has_disk there) disks) (All-tail (IsElsewhere place) other places apart)
    ∙ with_place-other place.dir place.base other.dir other.base (has_disk there) disks (All-head (IsElsewhere place) other places apart)

-- a change of what may be told, told
pub told-map : {A : Type 0} (f : A → A) (o : Option A) (x : A) → o ≡ Some x → option_map f o ≡ Some (f x)
told-map f o x there = ap (λ (p : Option _). option_map f p) there

-- two changes of what may be told
pub map-map : {A : Type 0} (f g h : A → A) (o : Option A) → ((x : A) → h x ≡ g (f x)) → option_map g (option_map f o) ≡ option_map h o
map-map f g h None same = refl
map-map f g h (Some x) same = ap (λ y. Some y) (sym (same x))

-- no change of what may be told
pub map-same : {A : Type 0} (f : A → A) (o : Option A) → ((x : A) → f x ≡ x) → option_map f o ≡ o
map-same f None same = refl
map-same f (Some x) same = ap (λ y. Some y) (same x)

-- no disk was handed out
pub hands_out_none : (desk : Desk) → HandsOut [] [] desk desk
hands_out_none desk = record {
  count = refl;
  were = λ disks there k place device within. absurd (omega arith);
  disks = sym (map-same (with_places_out []) desk.disks (λ disks. refl));
  calls = sym (map-same (λ (earlier : List HostCall). earlier ++ []) desk.calls (λ earlier. append-nil earlier));
  rest = keeps_none desk;
}

-- one disk more was handed out
pub hands_out_more : (places : List BasePlace) (devices : List Device) (place : BasePlace) (device : Device) (old mid new : Desk)
    → HandsOut places devices old mid → GivesDisk place.dir place.base device mid new → HandsOut (places ++ place ∷ []) (devices ++ device ∷ []) old new
hands_out_more places devices place device old mid new hands gives = record {
  count = length_push devices device ∙ ap (λ (n : ℕ). n + 1) hands.count ∙ sym (length_push places place);
  were = λ disks there.
      let out : mid.disks ≡ Some (with_places_out places disks) = hands.disks ∙ told-map (with_places_out places) old.disks disks there in
      each_pair_last (λ (a : BasePlace) (d : Device). disks a.dir a.base ≡ has_disk d) places place devices device hands.count (hands.were disks there)
      (was_there places place.dir place.base device disks (gives.was (with_places_out places disks) out));
  disks = gives.out ∙ ap (option_map (with_place place.dir place.base handed_out)) hands.disks
      ∙ map-map (with_places_out places) (with_place place.dir place.base handed_out) (with_places_out (places ++ place ∷ [])) old.disks (without-push places place);
  calls = gives.calls ∙ ap (and_call (asked_disk place.dir place.base)) hands.calls
      ∙ map-map (λ (earlier : List HostCall). earlier ++ asked_for places) (λ (earlier : List HostCall). earlier ++ asked_disk place.dir place.base ∷ []) (λ (earlier : List HostCall). earlier ++ asked_for (places ++ place ∷ []))
      old.calls (λ earlier. ap (λ (more : List HostCall). earlier ++ more) (map_push (λ (a : BasePlace). asked_disk a.dir a.base) places place) ∙ sym (append_assoc earlier (asked_for places) (asked_disk place.dir place.base ∷ [])));
  rest = keeps_more old mid new hands.rest gives.rest;
}

-- no disk was put back
pub puts_back_none : (desk : Desk) → PutsBack [] [] desk desk
puts_back_none desk = record {
  count = refl;
  disks = λ disks there out. sym (map-same (with_each [] []) desk.disks (λ disks. refl));
  calls = refl;
  failed = counts_none desk.failed;
  rest = keeps_none desk;
}

-- the disk at the place before these is put back behind theirs
pub puts_back_first : (place : BasePlace) (device : Device) (places : List BasePlace) (devices : List Device) (old mid new : Desk) → All (IsElsewhere place) places
    → PutsBack places devices old mid → TakesBack place.dir place.base device mid new → PutsBack (place ∷ places) (device ∷ devices) old new
puts_back_first place device places devices old mid new apart back takes = record {
  count = ap suc back.count;
  disks = λ disks there out.
      let earlier = back.disks disks there (λ k other within. out (suc k) other (omega arith)) ∙ told-map (with_each places devices) old.disks disks there in
      let is_out = with_each-other place places devices disks apart ∙ out 0 place (omega arith) in
      takes.back (with_each places devices disks) earlier is_out
      ∙ told-map (with_place place.dir place.base (has_disk device)) mid.disks (with_each places devices disks) earlier
      ∙ ap (λ (d : Disks). Some d) (sym (with_each-first place device places devices disks apart))
      ∙ sym (told-map (with_each (place ∷ places) (device ∷ devices)) old.disks disks there);
  calls = takes.calls ∙ back.calls;
  failed = subst (λ (n : ℕ). CountsFailed n old.failed new.failed) (sym (sum_by-cons (λ (d : Device). d.faults) device devices))
      (counts_more (disk_faults devices) device.faults old.failed mid.failed new.failed back.failed takes.failed);
  rest = keeps_more_back old mid new back.rest takes.rest;
}

-- the disks at these places and then at those were handed out
pub with_places_out-append : (places more : List BasePlace) (disks : Disks) → with_places_out (places ++ more) disks ≡ with_places_out more (with_places_out places disks)
with_places_out-append [] more disks = refl
with_places_out-append (place ∷ places) more disks = with_places_out-append places more (with_place place.dir place.base handed_out disks)

-- they are put back at these and then at those
pub with_each-append : (places more : List BasePlace) (devices others : List Device) (disks : Disks) → length devices ≡ length places
    → with_each (places ++ more) (devices ++ others) disks ≡ with_each more others (with_each places devices disks)
with_each-append [] more [] others disks count = refl
with_each-append [] more (device ∷ devices) others disks count = absurd (omega (arith, count))
with_each-append (place ∷ places) more [] others disks count = absurd (omega (arith, count))
with_each-append (place ∷ places) more (device ∷ devices) others disks count =
    with_each-append places more devices others (with_place place.dir place.base (has_disk device) disks) (omega (arith, count))

-- what holds of each place and its disk, of these and of those, holds of all
pub both_stand : (places more : List BasePlace) (devices others : List Device) (disks : Disks) → length devices ≡ length places
    → Stand places devices disks → Stand more others disks → Stand (places ++ more) (devices ++ others) disks
both_stand [] more [] others disks count first last k place device within = last k place device within
both_stand [] more (one ∷ devices) others disks count first last k place device within = absurd (omega (arith, count))
both_stand (at ∷ places) more [] others disks count first last k place device within = absurd (omega (arith, count))
both_stand (at ∷ places) more (one ∷ devices) others disks count first last zero place device within = first zero place device (omega arith)
both_stand (at ∷ places) more (one ∷ devices) others disks count first last (suc k) place device within =
    both_stand places more devices others disks (omega (arith, count)) (λ j p d low. first (suc j) p d (omega (arith, low))) last k place device (omega (arith, within))

-- the disks at these places were handed out, and then those at others
pub hands_out_both : (places more : List BasePlace) (devices others : List Device) (old mid new : Desk) → HandsOut places devices old mid → HandsOut more others mid new
    → HandsOut (places ++ more) (devices ++ others) old new
hands_out_both places more devices others old mid new first last = record {
  count = length-append devices others ∙ ap (λ (n : ℕ). n + length others) first.count ∙ ap (λ (n : ℕ). length places + n) last.count ∙ sym (length-append places more);
  were = λ disks there.
      let out : mid.disks ≡ Some (with_places_out places disks) = first.disks ∙ told-map (with_places_out places) old.disks disks there in
      both_stand places more devices others disks first.count (first.were disks there)
      (λ k place device within. was_there places (slice_index_or more k place).dir (slice_index_or more k place).base (slice_index_or others k device) disks
      (last.were (with_places_out places disks) out k place device within));
  disks = last.disks ∙ ap (option_map (with_places_out more)) first.disks
      ∙ map-map (with_places_out places) (with_places_out more) (with_places_out (places ++ more)) old.disks (with_places_out-append places more);
  calls = last.calls ∙ ap (option_map (λ (earlier : List HostCall). earlier ++ asked_for more)) first.calls
      ∙ map-map (λ (earlier : List HostCall). earlier ++ asked_for places) (λ (earlier : List HostCall). earlier ++ asked_for more) (λ (earlier : List HostCall). earlier ++ asked_for (places ++ more))
      old.calls (λ earlier. ap (λ (l : List HostCall). earlier ++ l) (map-append (λ (a : BasePlace). asked_disk a.dir a.base) places more) ∙ sym (append_assoc earlier (asked_for places) (asked_for more)));
  rest = keeps_more old mid new first.rest last.rest;
}
