-- Queue after queue is drained.
use Rattle.std.proofs.Common.{◌≡◌, ◌≤◌, ℕ, ◌+◌, List, [], ◌∷◌, ◌++◌, length, slice_index_or, sym, ap, ◌∙◌, subst, arith, append_assoc, length-append}
use Rattle.std.specs.List.{flat_map}
use Rattle.std.proofs.lemmas.Grind.{flat_map-append}
use Rattle.std.proofs.lemmas.List.{append-nil, get_or_append_left}
use Rattle.std.proofs.Math.Seq.{get_or-append_seam}
use mathlib.Core.Logic.{dite}
use native.Mathlib.Decide.{ℕ_discrete}
use Rattle.jb_page.specs.declared.page.Page.{Page}
use Rattle.jb_page.specs.declared.hand.Hand.{Hand}
use Rattle.jb_page.specs.Rows.{head_row, senders, FitsAll}
use Rattle.jb_page.specs.Seats.{view_in, Leaves}
use Rattle.jb_page.specs.Gathered.{DrainedSoFar}

abbrev Fits : Hand → List Page → Type 0
Fits h part = FitsAll (senders (view_in h).rows) ((head_row (view_in h).rows).taken ++ part)

pub drained_more : (done : ℕ) (hands : List Hand) (before mid after : List Page) (hand : Hand) → ((h : Hand) → slice_index_or hands done h ≡ hand)
    → DrainedSoFar done hands before mid → Leaves (view_in hand) mid after → DrainedSoFar (done + 1) hands before after
drained_more done hands before mid after hand here old more =
    let count = old.count in let rest = more.rest in let parts = old.parts ++ rest ∷ [] in
    let flat : flat_map (λ (p : List Page). p) parts ≡ flat_map (λ (p : List Page). p) old.parts ++ rest =
    flat_map-append (λ (p : List Page). p) old.parts (rest ∷ []) ∙ ap (λ (l : List Page). flat_map (λ (p : List Page). p) old.parts ++ l) (append-nil rest) in
    let last : slice_index_or parts done [] ≡ rest = subst (λ (n : ℕ). slice_index_or parts n [] ≡ rest) count (get_or-append_seam old.parts rest [] []) in
    record {
      parts = parts;
      count = omega (arith, length-append old.parts (rest ∷ []), count);
      all = more.added ∙ (ap (λ (l : List Page). l ++ rest) old.all ∙ (append_assoc before (flat_map (λ (p : List Page). p) old.parts) rest ∙ ap (λ (l : List Page). before ++ l) (sym flat)));
      few = λ j low. dite (ℕ_discrete j done)
          (λ is. subst (λ (l : List Page). length l ≤ 64) (sym (ap (λ (n : ℕ). slice_index_or parts n []) is ∙ last)) more.few)
          (λ ne. subst (λ (l : List Page). length l ≤ 64) (sym (get_or_append_left old.parts (rest ∷ []) [] j (omega (arith, count)))) (old.few j (omega arith)));
      each = λ j h low. dite (ℕ_discrete j done)
          (λ is. subst (λ (n : ℕ). Fits (slice_index_or hands n h) (slice_index_or parts n [])) (sym is)
          (subst (λ (z : Hand). Fits z (slice_index_or parts done [])) (sym (here h)) (subst (Fits hand) (sym last) more.fits)))
          (λ ne. subst (Fits (slice_index_or hands j h)) (sym (get_or_append_left old.parts (rest ∷ []) [] j (omega (arith, count)))) (old.each j h (omega arith)));
    }
