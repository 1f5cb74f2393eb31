-- What the hands of all pagers know together.
use Rattle.std.proofs.Common.{◌≡◌, ⊎_elim, ℕ, zero, suc, ◌+◌, ◌<◌, ◌≤◌, Bool, true, false, true≢false, ◌||◌, List, [], ◌∷◌, ◌++◌, length, sym, refl, ap, ◌∙◌, subst, arith, eq-eqb, ne_eqb, Option, Some, None}
use Rattle.std.specs.Prelude.{◌==◌, if◌then◌else◌}
use Rattle.std.specs.List.{list_any}
use Rattle.std.proofs.lemmas.List.Elements.{filter-append}
use mathlib.Core.Option.{some-injective}
use mathlib.Core.Logic.{dite}
use native.Mathlib.Decide.{ℕ_discrete}
use Rattle.crossbeam_queue.proofs.Lists.{at_longer, at_map}
use Rattle.jb_page.specs.declared.page.Page.{Page}
use Rattle.jb_page.specs.declared.view.Row.{Row}
use Rattle.jb_page.specs.declared.view.View.{View}
use Rattle.jb_page.specs.Rows.{Has, pages_of, head_row, either_of, ordered, joined, senders, FitsAll}
use Rattle.jb_page.specs.Seats.{HasAll}
use Rattle.jb_page.specs.Pagers.{PagerView, row_at}
use Rattle.jb_page.specs.Closing.{IsPaged}
use Rattle.jb_page.specs.Hands.{made_by}
use Rattle.jb_page.specs.Gathered.{own_view, gathered, AreOwn, HasAllNumbers}
use Rattle.jb_page.proofs.Keeps.{only_has, none_has, head_longer, has_ordered, has_sender}

abbrev last_made : ℕ → List PagerView → Option ℕ
last_made nodes ps = if list_any (λ p. p.number == nodes) ps then Some nodes else None

-- what is known together of some pagers
pub record IsHeap (nodes k : ℕ) (ps : List PagerView) (v : View) : Type 0 where
  pub some_row : 0 < length v.rows
  pub made : v.made ≡ last_made nodes ps
  pub takes : v.takes ≡ list_any (λ p. p.number == k + 1) ps
  pub head : v.takes ≡ true → (p : PagerView) × Has ps p × ((p.number == k + 1) ≡ true) × ((head_row v.rows).taken ≡ (row_at (k + 1) p).taken)
  pub has : (p : PagerView) → Has ps p → Has v.rows (row_at (k + 1) p)
  pub from : (r : Row) → Has v.rows r → (p : PagerView) × Has ps p × (row_at (k + 1) p ≡ r)

made_alone : (nodes n : ℕ) (b : Bool) → (n == nodes) ≡ b → made_by nodes n ≡ (if b || false then Some nodes else None)
made_alone nodes n true e = rw e refl
made_alone nodes n false e = rw e refl

either_made : (nodes : ℕ) (a b : Bool) → either_of (if a then Some nodes else None) (if b then Some nodes else None) ≡ (if b || a then Some nodes else None)
either_made nodes true true = refl
either_made nodes true false = refl
either_made nodes false true = refl
either_made nodes false false = refl

or_swap : (a b : Bool) → (a || b) ≡ (b || a)
or_swap true true = refl
or_swap true false = refl
or_swap false true = refl
or_swap false false = refl

pub has_left : {A : Type 0} (xs ys : List A) (a : A) → Has xs a → Has (xs ++ ys) a
has_left xs ys a h = (h.0, at_longer xs ys h.0 a h.1)

pub has_right : {A : Type 0} (xs ys : List A) (a : A) → Has ys a → Has (xs ++ ys) a
has_right [] ys a h = h
has_right (x ∷ xs) ys a h = let t = has_right xs ys a h in (suc t.0, t.1)

ordered_left : (b : Bool) (xs ys : List Row) (r : Row) → Has xs r → Has (ordered b xs ys) r
ordered_left true xs ys r h = has_right ys xs r h
ordered_left false xs ys r h = has_left xs ys r h

ordered_right : (b : Bool) (xs ys : List Row) (r : Row) → Has ys r → Has (ordered b xs ys) r
ordered_right true xs ys r h = has_left ys xs r h
ordered_right false xs ys r h = has_right xs ys r h

pub ordered_some : (b : Bool) (xs ys : List Row) → 0 < length xs → 0 < length ys → 0 < length (ordered b xs ys)
ordered_some true (x ∷ xs) (y ∷ ys) a b = omega arith
ordered_some true [] ys a b = absurd (omega arith)
ordered_some true (x ∷ xs) [] a b = absurd (omega arith)
ordered_some false (x ∷ xs) ys a b = omega arith
ordered_some false [] ys a b = absurd (omega arith)

-- the head of both is that of the one that takes
ordered_head : (a b : Bool) (xs ys : List Row) (P : Row → Type 0) → 0 < length xs → 0 < length ys → (a ≡ true → P (head_row xs)) → (b ≡ true → P (head_row ys)) → (a || b) ≡ true → P (head_row (ordered b xs ys))
ordered_head a true xs ys P lx ly mine his e = subst P (sym (head_longer ys xs ly)) (his refl)
ordered_head true false xs ys P lx ly mine his e = subst P (sym (head_longer xs ys lx)) (mine refl)
ordered_head false false xs ys P lx ly mine his e = absurd (true≢false (sym e))

pub heap : (nodes k : ℕ) (ps : List PagerView) → 0 < length ps → IsHeap nodes k ps (gathered nodes k ps)
heap nodes k [] some_pager = absurd (omega arith)
heap nodes k (p ∷ []) some_pager = record {
  some_row = omega arith;
  made = made_alone nodes p.number (p.number == nodes) refl;
  takes = or_swap false (p.number == k + 1);
  head = λ e. (p, (0, refl), e, refl);
  has = λ q h. let is = only_has p q h in subst (λ (z : PagerView). Has (own_view nodes k p).rows (row_at (k + 1) z)) is (0, refl);
  from = λ r h. (p, (0, refl), only_has (row_at (k + 1) p) r h);
}
heap nodes k (p ∷ (q ∷ ps)) some_pager =
    let v = gathered nodes k (q ∷ ps) in let w = own_view nodes k p in let old = heap nodes k (q ∷ ps) (omega arith) in
    let P : Row → Type 0 = λ r. (z : PagerView) × Has (p ∷ (q ∷ ps)) z × ((z.number == k + 1) ≡ true) × (r.taken ≡ (row_at (k + 1) z).taken) in record {
      some_row = ordered_some w.takes v.rows w.rows old.some_row (omega arith);
      made = ap (λ (o : Option ℕ). either_of o (made_by nodes p.number)) old.made ∙ either_made nodes (list_any (λ z. z.number == nodes) (q ∷ ps)) (p.number == nodes);
      takes = ap (λ (b : Bool). b || (p.number == k + 1)) old.takes ∙ or_swap (list_any (λ z. z.number == k + 1) (q ∷ ps)) (p.number == k + 1);
      head = λ e. ordered_head v.takes w.takes v.rows w.rows P old.some_row (omega arith) (λ t. let h = old.head t in (h.0, (suc h.1.0, h.1.1), h.2, h.3)) (λ t. (p, (0, refl), t, refl)) e;
      has = λ z h. has_both z h old;
      from = λ r h. ⊎_elim (λ (g : Has v.rows r). let z = old.from r g in (z.0, (suc z.1.0, z.1.1), z.2)) (λ (g : Has w.rows r). (p, (0, refl), only_has (row_at (k + 1) p) r g)) (has_ordered w.takes v.rows w.rows r h);
    }
  where
    has_both : (z : PagerView) → Has (p ∷ (q ∷ ps)) z → IsHeap nodes k (q ∷ ps) (gathered nodes k (q ∷ ps)) → Has (joined (gathered nodes k (q ∷ ps)) (own_view nodes k p)).rows (row_at (k + 1) z)
    has_both z (zero, e) old = subst (λ (y : PagerView). Has (joined (gathered nodes k (q ∷ ps)) (own_view nodes k p)).rows (row_at (k + 1) y)) (some-injective p z e)
        (ordered_right (own_view nodes k p).takes (gathered nodes k (q ∷ ps)).rows (own_view nodes k p).rows (row_at (k + 1) p) (0, refl))
    has_both z (suc j, e) old = ordered_left (own_view nodes k p).takes (gathered nodes k (q ∷ ps)).rows (own_view nodes k p).rows (row_at (k + 1) z) (old.has z (j, e))

any_has : (n : ℕ) (ps : List PagerView) (p : PagerView) → Has ps p → p.number ≡ n → list_any (λ z. z.number == n) ps ≡ true
any_has n [] p h e = absurd (none_has p h)
any_has n (q ∷ ps) p (zero, e) is = ap (λ (b : Bool). b || list_any (λ z. z.number == n) ps) (eq-eqb q.number n (ap (λ (z : PagerView). z.number) (some-injective q p e) ∙ is))
any_has n (q ∷ ps) p (suc j, e) is = ap (λ (b : Bool). (q.number == n) || b) (any_has n ps p (j, e) is) ∙ or_swap (q.number == n) true

has_sender_of : (rows : List Row) (r : Row) → Has rows r → Has (senders rows) (r.pager, r.sent)
has_sender_of rows r h = (h.0, at_map (λ (q : Row). (q.pager, q.sent)) rows h.0 r h.1)

eq_of : (a b : ℕ) → (a == b) ≡ true → a ≡ b
eq_of a b e = dite (ℕ_discrete a b) (λ is. is) (λ ne. absurd (true≢false (sym e ∙ ne_eqb a b ne)))

-- all are there: the heap takes, and knows all
module _ (nodes k : ℕ) (ps : List PagerView) (some_pager : 0 < length ps) (own : AreOwn nodes ps) (all : HasAllNumbers ps nodes) (k_less : k < nodes) where
  pub heap_takes : (gathered nodes k ps).takes ≡ true
  heap_takes = let h = all (k + 1) (omega arith) (omega arith) in (heap nodes k ps some_pager).takes ∙ any_has (k + 1) ps h.0 h.1 h.2

  pub heap_all : HasAll (gathered nodes k ps)
  heap_all = let h = all nodes (omega arith) (omega arith) in let hp = heap nodes k ps some_pager in record {
    most = nodes;
    last = hp.made ∙ ap (λ (b : Bool). if b then Some nodes else None) (any_has nodes ps h.0 h.1 h.2);
    each = λ m is. let n = all m is.0 is.1 in ((_, _), has_sender_of (gathered nodes k ps).rows (row_at (k + 1) n.0) (hp.has n.0 n.1), own n.0 k n.1 k_less ∙ n.2);
  }

  -- what then is left comes behind what was taken
  pub paged : (part : List Page) → length part ≤ 64 → FitsAll (senders (gathered nodes k ps).rows) ((head_row (gathered nodes k ps).rows).taken ++ part) → IsPaged ps (k + 1) part
  paged part few fits = let hp = heap nodes k ps some_pager in let r = hp.head heap_takes in record {
    receiver = r.0;
    among = r.1;
    number = eq_of r.0.number (k + 1) r.2;
    each = λ s h.
        sym (filter-append (λ (p : Page). p.from == s.number) (row_at (k + 1) r.0).taken part)
        ∙ (ap (λ (t : List Page). pages_of s.number (t ++ part)) (sym r.3)
        ∙ (ap (λ (n : ℕ). pages_of n ((head_row (gathered nodes k ps).rows).taken ++ part)) (sym (own s k h k_less))
        ∙ fits.0 ((row_at (k + 1) s).pager, (row_at (k + 1) s).sent) (has_sender_of (gathered nodes k ps).rows (row_at (k + 1) s) (hp.has s h))));
    no_other = λ n none. ap (λ (t : List Page). pages_of n (t ++ part)) (sym r.3)
        ∙ fits.1 n (λ s h e. let q = has_sender (gathered nodes k ps).rows s h in let z = hp.from q.0 q.1 in
        none (z.0, z.1, sym (own z.0 k z.1 k_less) ∙ (ap (λ (x : Row). x.pager) z.2 ∙ (ap (λ (x : ℕ × List Page). x.0) q.2 ∙ e))));
    few = few;
  }
