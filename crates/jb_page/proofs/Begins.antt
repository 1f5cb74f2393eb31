-- The pagers that are made.
use Rattle.std.proofs.Common.{◌≡◌, ◌≢◌, ℕ, zero, suc, ◌+◌, ◌<◌, Bool, List, [], ◌∷◌, ◌++◌, length, map, replicate, slice_index_or, refl, sym, ap, ◌∙◌, subst, arith, eq-eqb, ne_eqb, Option, Some, None, length-append}
use Rattle.std.specs.Prelude.{All, nat_le, ◌==◌}
use Rattle.std.proofs.lemmas.List.{length-map, get_or_append_left}
use Rattle.std.proofs.Math.Seq.{get_or-append_seam}
use Rattle.std.proofs.lemmas.Bool.{le-leb, lt-leb}
use mathlib.Core.Logic.{dite}
use native.Mathlib.Decide.{ℕ_discrete}
use Rattle.jb_page.specs.declared.hand.Hand.{Hand}
use Rattle.jb_page.specs.declared.hand.PageQueue.{PageQueue}
use Rattle.jb_page.specs.declared.view.Row.{Row}
use Rattle.jb_page.specs.declared.view.View.{View}
use Rattle.jb_page.specs.Rows.{row, view_of, head_row}
use Rattle.jb_page.specs.Pagers.{PagerView, IsPagerOf, AreNewPagers}
use Rattle.jb_page.specs.Seats.{row_of, view_in, queue_of, id_of}
use Rattle.jb_page.specs.Hands.{queues_view, hands_view, made_by, IsHandOf, AreHands, AreLast, AreOlder, IsNewPagerOn}
use Rattle.jb_page.proofs.Hands.{same_queues}

pub one_of : {A : Type 0} (l : List A) (k : ℕ) → k < length l → A
one_of [] k low = absurd (omega arith)
one_of (x ∷ xs) k low = x

hand_of : (nodes number k : ℕ) (h : Hand) (made : Option ℕ) (takes : Bool) → view_in h ≡ view_of made takes (row number [] [] [] [] ∷ []) → takes ≡ (number == k + 1) → made ≡ made_by nodes number
    → IsHandOf nodes number k h
hand_of nodes number k h made takes is own last = record {
  one = ap (λ (v : View). v.rows) is ∙ sym (ap (λ (v : View). head_row v.rows ∷ []) is);
  pager = ap (λ (v : View). (head_row v.rows).pager) is;
  takes = ap (λ (v : View). v.takes) is ∙ own;
  made = ap (λ (v : View). v.made) is ∙ last;
}

not_last : (nodes number : ℕ) → number ≢ nodes → None ≡ made_by nodes number
not_last nodes number ne = rw (ne_eqb number nodes ne) refl

is_last : (nodes : ℕ) → Some nodes ≡ made_by nodes nodes
is_last nodes = rw (eq-eqb nodes nodes refl) refl

last_takes : (nodes k : ℕ) → k < nodes → nat_le nodes (k + 1) ≡ (nodes == k + 1)
last_takes nodes k low = dite (ℕ_discrete nodes (k + 1))
    (λ e. le-leb nodes (k + 1) (omega (arith, e)) ∙ sym (eq-eqb nodes (k + 1) e))
    (λ ne. lt-leb nodes (k + 1) (omega (arith, ne, low)) ∙ sym (ne_eqb nodes (k + 1) ne))

pub older_hands : (queues : List PageQueue) (number : ℕ) (hands : List Hand) → number < length queues → AreOlder queues number hands → AreHands number hands
older_hands queues number hands few are = λ k h low. let count = are.count in
    hand_of (length hands) number k (slice_index_or hands k h) None (number == k + 1) (are.each k h (omega (arith, count, low))) refl (not_last (length hands) number (λ e. absurd (omega (arith, count, few, e))))

pub last_hands : (queues : List PageQueue) (number : ℕ) (hands : List Hand) → number ≡ length queues → AreLast queues number hands → AreHands number hands
last_hands queues number hands most are = let is : length hands ≡ number = are.count ∙ sym most in λ k h low.
    subst (λ (n : ℕ). IsHandOf n number k (slice_index_or hands k h)) (sym is)
    (hand_of number number k (slice_index_or hands k h) (Some number) (nat_le number (k + 1)) (are.each k h (omega (arith, is, most, low))) (last_takes number k (omega (arith, is, low))) (is_last number))

all_alike : (n : ℕ) (hands : List Hand) (r : Row) → length hands ≡ n → ((k : ℕ) (h : Hand) → k < n → row_of (slice_index_or hands k h) ≡ r) → map row_of hands ≡ replicate n r
all_alike zero [] r long each = refl
all_alike (suc n) [] r long each = absurd (omega (arith, long))
all_alike zero (h ∷ hs) r long each = absurd (omega (arith, long))
all_alike (suc n) (h ∷ hs) r long each = λ i. each 0 h (omega arith) i ∷ all_alike n hs r (omega (arith, long)) (λ k x low. each (suc k) x (omega (arith, low))) i

-- a pager whose hands have an empty row each is new
is_new : (queues : List PageQueue) (number : ℕ) (hands : List Hand) → length hands ≡ length queues
    → ((k : ℕ) (h : Hand) (l : PageQueue) → k < length queues → queue_of (slice_index_or hands k h) ≡ id_of (slice_index_or queues k l))
    → ((k : ℕ) (h : Hand) → k < length queues → row_of (slice_index_or hands k h) ≡ row number [] [] [] []) → IsNewPagerOn queues number (hands_view number 0 hands)
is_new queues number hands count queues_are rows = record {
  new = record {
    number_is = refl;
    none = refl;
    rows = all_alike (length queues) hands (row number [] [] [] []) count rows;
  };
  on = record { queues_are = same_queues queues hands count queues_are; rows = length-map hands row_of ∙ count };
}

pub older_new : (queues : List PageQueue) (number : ℕ) (hands : List Hand) → AreOlder queues number hands → IsNewPagerOn queues number (hands_view number 0 hands)
older_new queues number hands are = is_new queues number hands are.count are.queues_are (λ k h low. ap (λ (v : View). head_row v.rows) (are.each k h low))

pub last_new : (queues : List PageQueue) (number : ℕ) (hands : List Hand) → AreLast queues number hands → IsNewPagerOn queues number (hands_view number 0 hands)
last_new queues number hands are = is_new queues number hands are.count are.queues_are (λ k h low. ap (λ (v : View). head_row v.rows) (are.each k h low))

-- new pagers of these queues, numbered from 1
abbrev pub AreNewOn : List PageQueue → List PagerView → Type 0
AreNewOn queues pagers = (i : ℕ) (p : PagerView) → i < length pagers → IsNewPagerOn queues (i + 1) (slice_index_or pagers i p)

-- with one more
pub new_more : (queues : List PageQueue) (pagers : List PagerView) (more : PagerView) → AreNewOn queues pagers → IsNewPagerOn queues (length pagers + 1) more → AreNewOn queues (pagers ++ more ∷ [])
new_more queues pagers more are is = λ i p low. let long = length-append pagers (more ∷ []) in dite (ℕ_discrete i (length pagers))
    (λ e. subst (λ (n : ℕ). IsNewPagerOn queues (n + 1) (slice_index_or (pagers ++ more ∷ []) n p)) (sym e) (subst (IsNewPagerOn queues (length pagers + 1)) (sym (get_or-append_seam pagers more [] p)) is))
    (λ ne. let here : i < length pagers = omega (arith, ne, low, long) in subst (IsNewPagerOn queues (i + 1)) (sym (get_or_append_left pagers (more ∷ []) p i here)) (are i p here))

-- as many pagers as queues are all
pub all_new : (queues : List PageQueue) (pagers : List PagerView) → length pagers ≡ length queues → AreNewOn queues pagers → AreNewPagers (length queues) pagers
all_new queues pagers long are = record { count = long; each = λ i p low. (are i p (omega (arith, long, low))).new }

pub all_of : (queues : List PageQueue) (pagers : List PagerView) → length pagers ≡ length queues → AreNewOn queues pagers → All (IsPagerOf (queues_view (length queues) queues)) pagers
all_of queues pagers long are = λ i p low. let is = are i p low in let n = is.new.number_is in record {
  few = (omega (arith, n), omega (arith, n, low, long));
  queues = is.on.queues_are;
  rows = is.on.rows;
}

-- the last pager comes to the others, and they are all
pub all_made : (queues : List PageQueue) (nodes : ℕ) (pagers all : List PagerView) (hands : List Hand) → length queues ≡ nodes → AreNewOn queues pagers → length pagers + 1 ≡ nodes → AreLast queues nodes hands
    → all ≡ pagers ++ hands_view nodes 0 hands ∷ [] → AreNewPagers nodes all × All (IsPagerOf (queues_view nodes queues)) all
all_made queues nodes pagers all hands counted are count last is =
    let long : length all ≡ length queues = ap length is ∙ (length-append pagers (hands_view nodes 0 hands ∷ []) ∙ (count ∙ sym counted)) in
    let each = subst (AreNewOn queues) (sym is) (new_more queues pagers (hands_view nodes 0 hands) are (subst (λ (n : ℕ). IsNewPagerOn queues n (hands_view nodes 0 hands)) (sym count) (last_new queues nodes hands last))) in
    (subst (λ (n : ℕ). AreNewPagers n all) counted (all_new queues all long each), subst (λ (n : ℕ). All (IsPagerOf (queues_view n queues)) all) counted (all_of queues all long each))
