-- Any bytes are cut in exactly one way, and a cut goes on as more bytes come.
use Rattle.std.proofs.Common.{◌≡◌, ℕ, zero, suc, ◌+◌, ◌<◌, ◌≤◌, length, List, [], ◌∷◌, ◌++◌, flat_map, map, Some, None, refl, sym, ◌∙◌, ap, subst, append_assoc, arith, length-append}
use Rattle.jb_telnet.specs.declared.event.Event.{Event}
use Rattle.jb_telnet.specs.declared.event.Event.TheVariants.{Byte}
use Rattle.jb_telnet.specs.Units.{doubled, Spells, StartsWith, StartsWithNone, CutsInto}
use Rattle.jb_telnet.specs.Front.{First, first_unit}
use Rattle.jb_telnet.specs.Laws.{GoesOnWith}
use Rattle.jb_telnet.proofs.Fronts.{found_first, first_of}

pub first_from : (event : Event) (bytes behind : List ℕ) → StartsWith event bytes behind → first_unit bytes ≡ Some (event, behind)
first_from event bytes behind starts =
    let P : List ℕ → Type 0 = λ w. first_unit w ≡ Some (event, behind) in
    subst P (sym starts.is) (first_of event starts.unit behind starts.spelled)

pub none_from : (bytes : List ℕ) → first_unit bytes ≡ None → StartsWithNone bytes
none_from bytes none event behind starts =
    let some = first_from event bytes behind starts in
    absurd (cc)

none_by : (bytes : List ℕ) (first : First) → first_unit bytes ≡ first → StartsWithNone bytes → first ≡ None
none_by bytes None is none = refl
none_by bytes (Some (event, behind)) is none = absurd (none event behind ((found_first bytes).each event behind is))

pub none_found : (bytes : List ℕ) → StartsWithNone bytes → first_unit bytes ≡ None
none_found bytes none = none_by bytes (first_unit bytes) refl none

-- one unit stands first at most
pub one_first : (a b : Event) (bytes x y : List ℕ) → StartsWith a bytes x → StartsWith b bytes y → (a ≡ b) × (x ≡ y)
one_first a b bytes x y one other =
    let same : Some (a, x) ≡ Some (b, y) = sym (first_from a bytes x one) ∙ first_from b bytes y other in
    let pair : (a, x) ≡ (b, y) = cc in
    let fst : Event × List ℕ → Event = λ w. w.0 in
    let snd : Event × List ℕ → List ℕ = λ w. w.1 in
    (ap fst pair, ap snd pair)

-- it stays the first as more bytes come
pub longer : (ys : List ℕ) (event : Event) (bytes behind : List ℕ) → StartsWith event bytes behind → StartsWith event (bytes ++ ys) (behind ++ ys)
longer ys event bytes behind starts = record {
  unit = starts.unit;
  spelled = starts.spelled;
  is = ap (λ w. w ++ ys) starts.is ∙ append_assoc starts.unit behind ys;
}

-- the rest grows, and still begins with no unit
pub cuts_more : (ys : List ℕ) (events : List Event) (bytes rest : List ℕ) → CutsInto bytes events rest → StartsWithNone (rest ++ ys) → CutsInto (bytes ++ ys) events (rest ++ ys)
cuts_more ys [] bytes rest cuts none = (ap (λ w. w ++ ys) cuts.0, none)
cuts_more ys (event ∷ events) bytes rest cuts none =
    (cuts.0 ++ ys, longer ys event bytes cuts.0 cuts.1, cuts_more ys events cuts.0 rest cuts.2 none)

-- the rest and what has come are one unit
pub cuts_end : (ys : List ℕ) (last : Event) (events : List Event) (bytes rest : List ℕ) → CutsInto bytes events rest → StartsWith last (rest ++ ys) [] → CutsInto (bytes ++ ys) (events ++ last ∷ []) []
cuts_end ys last [] bytes rest cuts ends =
    let P : List ℕ → Type 0 = λ w. StartsWith last (w ++ ys) [] in
    ([], subst P (sym cuts.0) ends, (refl, none_from [] refl))
cuts_end ys last (event ∷ events) bytes rest cuts ends =
    (cuts.0 ++ ys, longer ys event bytes cuts.0 cuts.1, cuts_end ys last events cuts.0 rest cuts.2 ends)

-- there is one cut at most
pub cuts_one : (first second : List Event) (bytes rest other : List ℕ) → CutsInto bytes first rest → CutsInto bytes second other → (first ≡ second) × (rest ≡ other)
cuts_one [] [] bytes rest other one two = (refl, sym one.0 ∙ two.0)
cuts_one [] (event ∷ second) bytes rest other one two =
    absurd (one.1 event two.0 (let P : List ℕ → Type 0 = λ w. StartsWith event w two.0 in subst P one.0 two.1))
cuts_one (event ∷ first) [] bytes rest other one two =
    absurd (two.1 event one.0 (let P : List ℕ → Type 0 = λ w. StartsWith event w one.0 in subst P two.0 one.1))
cuts_one (event ∷ first) (event' ∷ second) bytes rest other one two =
    let here = one_first event event' bytes one.0 two.0 one.1 two.1 in
    let P : List ℕ → Type 0 = λ w. CutsInto w second other in
    let behind = cuts_one first second one.0 rest other one.2 (subst P (sym here.1) two.2) in
    let event_is = here.0 in
    let events_are = behind.0 in
    (cc, behind.1)

-- a unit has a byte at least
shorter : (event : Event) (bytes behind : List ℕ) → StartsWith event bytes behind → length behind < length bytes
shorter event bytes behind starts = by_unit starts.unit starts.spelled starts.is
  where
    by_unit : (unit : List ℕ) → Spells unit event → bytes ≡ unit ++ behind → length behind < length bytes
    by_unit [] spelled is = let none = first_of event [] [] spelled in absurd (cc)
    by_unit (x ∷ xs) spelled is = let sizes = ap length is in let parts = length-append xs behind in omega (arith, sizes, parts)

any_cut : (n : ℕ) (bytes : List ℕ) → ((behind : List ℕ) → length behind < n → GoesOnWith behind []) → length bytes ≤ n → (first : First) → first_unit bytes ≡ first → GoesOnWith bytes []
any_cut n bytes each less None is = record { more = []; rest = bytes; cuts = (refl, none_from bytes is) }
any_cut n bytes each less (Some (event, behind)) is =
    let starts = (found_first bytes).each event behind is in
    let short = shorter event bytes behind starts in
    let on = each behind (omega (arith, short, less)) in
    record { more = event ∷ on.more; rest = on.rest; cuts = (behind, starts, on.cuts) }

-- bytes of fewer than n have a cut
any_below : (n : ℕ) (bytes : List ℕ) → length bytes < n → GoesOnWith bytes []
any_below zero bytes less = absurd (omega arith)
any_below (suc n) bytes less = any_cut n bytes (any_below n) (omega arith) (first_unit bytes) refl

-- more bytes go on from a cut
pub goes_on : (ys : List ℕ) (events : List Event) (bytes rest : List ℕ) → CutsInto bytes events rest → GoesOnWith (bytes ++ ys) events
goes_on ys [] bytes rest cuts = any_below (length (bytes ++ ys) + 1) (bytes ++ ys) (omega arith)
goes_on ys (event ∷ events) bytes rest cuts =
    let on = goes_on ys events cuts.0 rest cuts.2 in
    record { more = on.more; rest = on.rest; cuts = (cuts.0 ++ ys, longer ys event bytes cuts.0 cuts.1, on.cuts) }

-- there is one cut at least
pub cuts_some : (bytes : List ℕ) → GoesOnWith bytes []
cuts_some bytes = any_below (length bytes + 1) bytes (omega arith)

-- bytes with each 255 doubled are cut into those bytes
pub cuts_doubled : (bytes : List ℕ) → CutsInto (flat_map doubled bytes) (map Byte bytes) []
cuts_doubled [] = (refl, none_from [] refl)
cuts_doubled (byte ∷ bytes) = (flat_map doubled bytes, record { unit = doubled byte; spelled = refl; is = refl }, cuts_doubled bytes)
