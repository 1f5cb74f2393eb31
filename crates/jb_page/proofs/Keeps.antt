-- Each step keeps the rule of the queue.
use Rattle.std.proofs.Common.{◌≡◌, ◌≢◌, ◌⊎◌, ℕ, zero, suc, ◌+◌, ◌<◌, Bool, true, false, true≢false, ◌||◌, List, [], ◌∷◌, ◌++◌, length, set, sym, refl, ap, ◌∙◌, subst, ⊎_elim, inl, inr, arith, append_assoc, Option, Some, None, eq-eqb, ne_eqb, length-set}
use Rattle.std.specs.Prelude.{◌==◌}
use Rattle.std.proofs.lemmas.List.{append-nil}
use Rattle.std.proofs.lemmas.List.Elements.{filter-append}
use mathlib.Core.Option.{some, some-injective, some-ne-none}
use native.Mathlib.Decide.{ℕ_discrete}
use lib.ListN.{get_elem?}
use Rattle.crossbeam_queue.specs.Fifo.{Pushes, Pops, Forks, Merges, Learns}
use Rattle.crossbeam_queue.proofs.Lists.{at_set}
use Rattle.jb_page.specs.declared.page.Page.{Page}
use Rattle.jb_page.specs.declared.view.Row.{Row}
use Rattle.jb_page.specs.declared.view.View.{View}
use Rattle.jb_page.specs.Rows.{Has, pages_of, row, view_of, head_row, other_rows, blank, maker, or_none, either_of, older, newcomer, with_row, row_with_put, with_put, row_with_taken, with_taken, ordered, joined, senders, Accounts, Whole}
use Rattle.jb_page.specs.Seats.{HasAll}
use Rattle.jb_page.specs.Rule.{IsMade, IsSeat, Queued}

abbrev pick : {P : Type 0} → Dec P → ℕ → ℕ → ℕ
pick (yes _) a b = a
pick (no _) a b = b

-- the function with another value at one place
pub put : (ℕ → ℕ) → ℕ → ℕ → ℕ → ℕ
put f i c j = pick (ℕ_discrete j i) c (f j)

put_here : (f : ℕ → ℕ) (i c : ℕ) → put f i c i ≡ c
unfolding put
put_here f i c = go (ℕ_discrete i i)
  where
    go : (d : Dec (i ≡ i)) → pick d c (f i) ≡ c
    go (yes _) = refl
    go (no n) = absurd (n refl)

put_else : (f : ℕ → ℕ) (i c j : ℕ) → j ≢ i → put f i c j ≡ f j
unfolding put
put_else f i c j other = go (ℕ_discrete j i)
  where
    go : (d : Dec (j ≡ i)) → pick d c (f j) ≡ f j
    go (yes e) = absurd (other e)
    go (no _) = refl

module _ {A : Type 0} where
  pub only_has : (x y : A) → Has (x ∷ []) y → x ≡ y
  only_has x y (zero, e) = some-injective x y e
  only_has x y (suc k, e) = absurd (some-ne-none y (sym e))

  pub none_has : (y : A) → Has [] y → ⊥
  none_has y (k, e) = some-ne-none y (sym e)

  at_end : (l : List A) (a b : A) (j : ℕ) → get_elem? (l ++ a ∷ []) j ≡ some b → (get_elem? l j ≡ some b) ⊎ ((j ≡ length l) × (a ≡ b))
  at_end [] a b zero e = inr (refl, some-injective a b e)
  at_end [] a b (suc j) e = absurd (some-ne-none b (sym e))
  at_end (x ∷ xs) a b zero e = inl e
  at_end (x ∷ xs) a b (suc j) e = ⊎_elim (λ h. inl h) (λ h. inr (ap suc h.0, h.1)) (at_end xs a b j e)

  at_less : (l : List A) (j : ℕ) (a : A) → get_elem? l j ≡ some a → j < length l
  at_less [] j a e = absurd (some-ne-none a (sym e))
  at_less (x ∷ xs) zero a e = omega arith
  at_less (x ∷ xs) (suc j) a e = let h = at_less xs j a e in omega arith

  pub has_either : (xs ys : List A) (a : A) → Has (xs ++ ys) a → Has xs a ⊎ Has ys a
  has_either [] ys a h = inr h
  has_either (x ∷ xs) ys a (zero, e) = inl (zero, e)
  has_either (x ∷ xs) ys a (suc k, e) = ⊎_elim (λ (t : Has xs a). inl (suc t.0, t.1)) (λ t. inr t) (has_either xs ys a (k, e))

abbrev All : (ℕ → View → Type 0) → List View → Type 0
All F views = (j : ℕ) (v : View) → get_elem? views j ≡ some v → F j v

-- what holds of the view that changed and of each other holds of all
all_set : (F : ℕ → View → Type 0) (views : List View) (port : ℕ) (w : View) → F port w → ((j : ℕ) (u : View) → j ≢ port → get_elem? views j ≡ some u → F j u) → All F (set views port w)
all_set F views port w mine others j u e = ⊎_elim (λ (x : (j ≡ port) × (w ≡ u)). subst (λ (y : ℕ × View). F y.0 y.1) (λ i. (sym x.0 i, x.1 i)) mine)
    (λ (x : (j ≢ port) × (get_elem? views j ≡ some u)). others j u x.0 x.1) (at_set views port j w u e)

-- and of one view more
all_snoc : (F : ℕ → View → Type 0) (views : List View) (w : View) → All F views → F (length views) w → All F (views ++ w ∷ [])
all_snoc F views w old new j u e = ⊎_elim (old j u) (λ (x : (j ≡ length views) × (w ≡ u)). subst (λ (y : ℕ × View). F y.0 y.1) (λ i. (sym x.0 i, x.1 i)) new) (at_end views w u j e)

pages_mine : (n : ℕ) (x : Page) → x.from ≡ n → (x.from == n) ≡ true → (xs : List Page) → pages_of n (xs ++ x ∷ []) ≡ pages_of n xs ++ x ∷ []
pages_mine n x is b xs = filter-append (λ p. p.from == n) xs (x ∷ []) ∙ ap (λ w. pages_of n xs ++ w) (rw b refl)

pages_not : (n : ℕ) (x : Page) → (x.from == n) ≡ false → (xs : List Page) → pages_of n (xs ++ x ∷ []) ≡ pages_of n xs
pages_not n x b xs = filter-append (λ p. p.from == n) xs (x ∷ []) ∙ (ap (λ w. pages_of n xs ++ w) (rw b refl) ∙ append-nil (pages_of n xs))

abbrev pub IsOne : View → Type 0
IsOne v = v.rows ≡ head_row v.rows ∷ []

has_head : (v : View) → IsOne v → Has v.rows (head_row v.rows)
has_head v one = (0, ap (λ (l : List Row). get_elem? l 0) one)

pub has_one : (v : View) → IsOne v → 0 < length v.rows
has_one v one = let e = ap length one in omega arith

single : (v : View) (r : Row) → IsOne v → (with_row v r).rows ≡ r ∷ []
single v r one = ap (λ (l : List Row). r ∷ other_rows l) one

-- what holds of the one row that the view then has
only_row : (P : Row → Type 0) (v : View) (r q : Row) → IsOne v → P r → Has (with_row v r).rows q → P q
only_row P v r q one p h = subst P (only_has r q (subst (λ (l : List Row). Has l q) (single v r one) h)) p

-- a page of another pager changes nothing, and its own comes last
sent_more : (n : ℕ) (x : Page) (all sent : List Page) → pages_of n all ≡ sent → x.from ≡ n → pages_of n (all ++ x ∷ []) ≡ sent ++ x ∷ []
sent_more n x all sent is from = pages_mine n x from (eq-eqb x.from n from) all ∙ ap (λ w. w ++ x ∷ []) is

sent_same : (n : ℕ) (x : Page) (all sent : List Page) → pages_of n all ≡ sent → x.from ≢ n → pages_of n (all ++ x ∷ []) ≡ sent
sent_same n x all sent is from = pages_not n x (ne_eqb x.from n from) all ∙ is

pub pushes : (n port : ℕ) (v : View) (x : Page) → IsOne v → x.from ≡ (head_row v.rows).pager → Pushes Queued n port v x (λ w. w ≡ with_put v x)
pushes n port v x one from items views _ q at =
    let r = head_row v.rows in let mine = q.each port v at in let has = has_head v one in
    let owns : q.owner x.from ≡ port = ap q.owner from ∙ mine.owned r has in
    let small : IsMade q.made x.from = subst (IsMade q.made) (sym from) (mine.made_before r has) in
    let shift = append_assoc q.taken items (x ∷ []) in (
      with_put v x,
      record {
        taken = q.taken;
        made = q.made;
        maker = q.maker;
        taker = q.taker;
        owner = q.owner;
        each = all_set (IsSeat q.taken (items ++ x ∷ []) q.made q.maker q.taker q.owner) views port (with_put v x) record {
          sent = λ z h. only_row (λ (p : Row). pages_of p.pager (q.taken ++ (items ++ x ∷ [])) ≡ p.sent) v (row_with_put r x) z one
              (ap (pages_of r.pager) (sym shift) ∙ sent_more r.pager x (q.taken ++ items) r.sent (mine.sent r has) from) h;
          owned = λ z h. only_row (λ (p : Row). q.owner p.pager ≡ port) v (row_with_put r x) z one (mine.owned r has) h;
          made_before = λ z h. only_row (λ (p : Row). IsMade q.made p.pager) v (row_with_put r x) z one (mine.made_before r has) h;
          takes = mine.takes;
          makes = mine.makes;
        } (λ j u other there. let o = q.each j u there in record {
          sent = λ z h. ap (pages_of z.pager) (sym shift) ∙ sent_same z.pager x (q.taken ++ items) z.sent (o.sent z h) (λ e. other (sym (o.owned z h) ∙ (ap q.owner (sym e) ∙ owns)));
          owned = o.owned;
          made_before = o.made_before;
          takes = o.takes;
          makes = o.makes;
        });
        unmade = λ m h. ap (pages_of m) (sym shift) ∙ sent_same m x (q.taken ++ items) [] (q.unmade m h) (λ e. h (subst (IsMade q.made) e small));
      },
      refl,
    )

-- what holds of the first row and of each other
first_row : (P : Row → Type 0) (v : View) (r q : Row) → P r → ((z : Row) → Has (other_rows v.rows) z → P z) → Has (with_row v r).rows q → P q
first_row P v r q p others (zero, e) = subst P (some-injective r q e) p
first_row P v r q p others (suc k, e) = others q (k, e)

old_row : (rows : List Row) (z : Row) → Has (other_rows rows) z → Has rows z
old_row [] z h = h
old_row (r ∷ rs) z h = (suc h.0, h.1)

has_first : (rows : List Row) → 0 < length rows → Has rows (head_row rows)
has_first [] h = absurd (omega arith)
has_first (r ∷ rs) h = (0, refl)

pub pops : (port : ℕ) (v : View) → 0 < length v.rows → v.takes ≡ true → Pops Queued port v (λ x w. w ≡ with_taken v x)
pops port v some_row may x items views q at =
    let r = head_row v.rows in let mine = q.each port v at in let has = has_first v.rows some_row in let t = mine.takes may in
    let shift : (q.taken ++ x ∷ []) ++ items ≡ q.taken ++ (x ∷ items) = append_assoc q.taken (x ∷ []) items in (
      with_taken v x,
      record {
        taken = q.taken ++ x ∷ [];
        made = q.made;
        maker = q.maker;
        taker = q.taker;
        owner = q.owner;
        each = all_set (IsSeat (q.taken ++ x ∷ []) items q.made q.maker q.taker q.owner) views port (with_taken v x) record {
          sent = λ z h. first_row (λ (p : Row). pages_of p.pager ((q.taken ++ x ∷ []) ++ items) ≡ p.sent) v (row_with_taken r x) z
              (ap (pages_of r.pager) shift ∙ mine.sent r has) (λ y g. ap (pages_of y.pager) shift ∙ mine.sent y (old_row v.rows y g)) h;
          owned = λ z h. first_row (λ (p : Row). q.owner p.pager ≡ port) v (row_with_taken r x) z (mine.owned r has) (λ y g. mine.owned y (old_row v.rows y g)) h;
          made_before = λ z h. first_row (λ (p : Row). IsMade q.made p.pager) v (row_with_taken r x) z (mine.made_before r has) (λ y g. mine.made_before y (old_row v.rows y g)) h;
          takes = λ _. (t.0, ap (λ (l : List Page). l ++ x ∷ []) t.1);
          makes = mine.makes;
        } (λ j u other there. let o = q.each j u there in record {
          sent = λ z h. ap (pages_of z.pager) shift ∙ o.sent z h;
          owned = o.owned;
          made_before = o.made_before;
          takes = λ e. absurd (other (sym (o.takes e).0 ∙ t.0));
          makes = o.makes;
        });
        unmade = λ m h. ap (pages_of m) shift ∙ q.unmade m h;
      },
      refl,
    )

pub accounts : (port : ℕ) (v : View) → v.takes ≡ true → Learns Queued port v (Accounts v)
accounts port v may items views q at r h = let mine = q.each port v at in ap (λ (t : List Page). pages_of r.pager (t ++ items)) (mine.takes may).1 ∙ mine.sent r h

-- a blank pass may always come
blank_seat : (taken items : List Page) (made maker taker : ℕ) (owner : ℕ → ℕ) (j : ℕ) → IsSeat taken items made maker taker owner j blank
blank_seat taken items made maker taker owner j = record {
  sent = λ z h. absurd (none_has z h);
  owned = λ z h. absurd (none_has z h);
  made_before = λ z h. absurd (none_has z h);
  takes = λ e. absurd (true≢false (sym e));
  makes = λ n e. absurd (cc e);
}

-- the row with other answers knows the same of the queue
abbrev pub IsAlike : Row → Row → Type 0
IsAlike r s = (s.pager ≡ r.pager) × (s.sent ≡ r.sent) × (s.taken ≡ r.taken)

pub records : (port : ℕ) (v : View) (s : Row) → IsOne v → IsAlike (head_row v.rows) s → Forks Queued port v (with_row v s) blank
records port v s one alike items views q at =
    let r = head_row v.rows in let mine = q.each port v at in let has = has_head v one in
    let F : ℕ → View → Type 0 = IsSeat q.taken items q.made q.maker q.taker q.owner in
    record {
      taken = q.taken;
      made = q.made;
      maker = q.maker;
      taker = q.taker;
      owner = q.owner;
      each = all_snoc F (set views port (with_row v s)) blank (all_set F views port (with_row v s) record {
        sent = λ z h. only_row (λ (p : Row). pages_of p.pager (q.taken ++ items) ≡ p.sent) v s z one
            (ap (λ (k : ℕ). pages_of k (q.taken ++ items)) alike.0 ∙ (mine.sent r has ∙ sym alike.1)) h;
        owned = λ z h. only_row (λ (p : Row). q.owner p.pager ≡ port) v s z one (ap q.owner alike.0 ∙ mine.owned r has) h;
        made_before = λ z h. only_row (λ (p : Row). IsMade q.made p.pager) v s z one (subst (IsMade q.made) (sym alike.0) (mine.made_before r has)) h;
        takes = λ e. ((mine.takes e).0, alike.2 ∙ (mine.takes e).1);
        makes = mine.makes;
      } (λ j u other there. q.each j u there)) (blank_seat q.taken items q.made q.maker q.taker q.owner (length (set views port (with_row v s))));
      unmade = q.unmade;
    }

pub begins : Queued [] (maker ∷ [])
begins = record {
  taken = [];
  made = 1;
  maker = 0;
  taker = 0;
  owner = λ _. 0;
  each = λ j v e. starts j v e;
  unmade = λ n h. refl;
}
  where
    starts : (j : ℕ) (v : View) → get_elem? (maker ∷ []) j ≡ some v → IsSeat [] [] 1 0 0 (λ _. 0) j v
    starts zero v e = subst (IsSeat [] [] 1 0 0 (λ _. 0) 0) (some-injective maker v e) record {
      sent = λ z h. subst (λ (p : Row). [] ≡ p.sent) (only_has (row 1 [] [] [] []) z h) refl;
      owned = λ z h. refl;
      made_before = λ z h. subst (λ (p : Row). IsMade 1 p.pager) (only_has (row 1 [] [] [] []) z h) (omega arith, omega arith);
      takes = λ _. (refl, refl);
      makes = λ n e. (refl, cc e);
    }
    starts (suc j) v e = absurd (some-ne-none v (sym e))

less_apart : (a b : ℕ) → IsMade b a → a ≢ b + 1
less_apart a b le e = let l = le.1 in absurd (omega arith)

made_more : (a b : ℕ) → IsMade b a → IsMade (b + 1) a
made_more a b le = let l = le.1 in (le.0, omega arith)

-- the row of a pager that was made now
new_seat : (taken items : List Page) (made taker : ℕ) (owner : ℕ → ℕ) (j : ℕ) (takes : Bool) → pages_of (made + 1) (taken ++ items) ≡ [] → owner (made + 1) ≡ j → (takes ≡ true → (taker ≡ j) × ([] ≡ taken))
    → IsSeat taken items (made + 1) j taker owner j (view_of (Some (made + 1)) takes (row (made + 1) [] [] [] [] ∷ []))
new_seat taken items made taker owner j takes none owned may = record {
  sent = λ z h. subst (λ (p : Row). pages_of p.pager (taken ++ items) ≡ p.sent) (only_has (row (made + 1) [] [] [] []) z h) none;
  owned = λ z h. subst (λ (p : Row). owner p.pager ≡ j) (only_has (row (made + 1) [] [] [] []) z h) owned;
  made_before = λ z h. subst (λ (p : Row). IsMade (made + 1) p.pager) (only_has (row (made + 1) [] [] [] []) z h) (omega arith, omega arith);
  takes = may;
  makes = λ n e. (refl, cc e);
}

-- one pager more. `taker` is the place that takes from now on
grows : (items : List Page) (views : List View) (q : Queued items views) (port : ℕ) (v : View) (n taker : ℕ) (left right : Bool) → get_elem? views port ≡ some v → v.made ≡ Some n
    → (left ≡ true → (taker ≡ port) × ((head_row v.rows).taken ≡ q.taken))
    → (right ≡ true → (taker ≡ length views) × ([] ≡ q.taken))
    → ((j : ℕ) (u : View) → j ≢ port → get_elem? views j ≡ some u → u.takes ≡ true → taker ≡ j)
    → Queued items (set views port (older v left) ++ newcomer v right ∷ [])
grows items views q port v n taker left right at makes lefts rights others =
    let mine = q.each port v at in let m = mine.makes n makes in
    let count : or_none v.made ≡ q.made = ap or_none makes ∙ m.1 in
    let long : length (set views port (older v left)) ≡ length views = length-set views port (older v left) in
    let owner : ℕ → ℕ = put q.owner (q.made + 1) (length views) in
    let F : ℕ → View → Type 0 = IsSeat q.taken items (q.made + 1) (length views) taker owner in
    let keeps : (r : Row) → IsMade q.made r.pager → owner r.pager ≡ q.owner r.pager = λ r le. put_else q.owner (q.made + 1) (length views) r.pager (less_apart r.pager q.made le) in
    record {
      taken = q.taken;
      made = q.made + 1;
      maker = length views;
      taker = taker;
      owner = owner;
      each = all_snoc F (set views port (older v left)) (newcomer v right) (all_set F views port (older v left) record {
        sent = mine.sent;
        owned = λ z h. keeps z (mine.made_before z h) ∙ mine.owned z h;
        made_before = λ z h. made_more z.pager q.made (mine.made_before z h);
        takes = lefts;
        makes = λ k e. absurd (cc e);
      } (λ j u other there. let o = q.each j u there in record {
        sent = o.sent;
        owned = λ z h. keeps z (o.made_before z h) ∙ o.owned z h;
        made_before = λ z h. made_more z.pager q.made (o.made_before z h);
        takes = λ e. (others j u other there e, (o.takes e).1);
        makes = λ k e. absurd (other (sym (o.makes k e).0 ∙ m.0));
      })) (subst (λ (y : ℕ × ℕ). IsSeat q.taken items (q.made + 1) (length views) taker owner y.0 (view_of (Some (y.1 + 1)) right (row (y.1 + 1) [] [] [] [] ∷ []))) (λ i. (sym long i, sym count i))
          (new_seat q.taken items q.made taker owner (length views) right (q.unmade (q.made + 1) (λ h. let l = h.1 in absurd (omega arith))) (put_here q.owner (q.made + 1) (length views)) rights));
      unmade = λ k h. q.unmade k (λ l. h (made_more k q.made l));
    }

pub grows_next : (port : ℕ) (v : View) (n : ℕ) → v.made ≡ Some n → Forks Queued port v (older v v.takes) (newcomer v false)
grows_next port v n makes items views q at = grows items views q port v n q.taker v.takes false at makes (q.each port v at).takes (λ e. absurd (true≢false (sym e))) (λ j u other there e. ((q.each j u there).takes e).0)

pub grows_taker : (port : ℕ) (v : View) (n : ℕ) → v.made ≡ Some n → v.takes ≡ true → (head_row v.rows).taken ≡ [] → Forks Queued port v (older v false) (newcomer v true)
grows_taker port v n makes may none items views q at = let t = (q.each port v at).takes may in
    grows items views q port v n (length views) false true at makes (λ e. absurd (true≢false (sym e))) (λ e. (refl, sym none ∙ t.1)) (λ j u other there e. absurd (other (sym ((q.each j u there).takes e).0 ∙ t.0)))

pub head_longer : (xs ys : List Row) → 0 < length xs → head_row (xs ++ ys) ≡ head_row xs
head_longer [] ys h = absurd (omega arith)
head_longer (x ∷ xs) ys h = refl

pub has_ordered : (b : Bool) (xs ys : List Row) (z : Row) → Has (ordered b xs ys) z → Has xs z ⊎ Has ys z
has_ordered true xs ys z h = ⊎_elim (λ (t : Has ys z). inr t) (λ (t : Has xs z). inl t) (has_either ys xs z h)
has_ordered false xs ys z h = has_either xs ys z h

-- the place of the pass that was made last, once `other` went to `port`
moved : ℕ → ℕ → ℕ → ℕ
moved m other port = pick (ℕ_discrete m other) port m

moved_on : (m other port : ℕ) → m ≡ other → moved m other port ≡ port
unfolding moved
moved_on m other port is = go (ℕ_discrete m other)
  where
    go : (d : Dec (m ≡ other)) → pick d port m ≡ port
    go (yes e) = refl
    go (no n) = absurd (n is)

moved_not : (m other port : ℕ) → m ≢ other → moved m other port ≡ m
unfolding moved
moved_not m other port ne = go (ℕ_discrete m other)
  where
    go : (d : Dec (m ≡ other)) → pick d port m ≡ m
    go (yes e) = absurd (ne e)
    go (no n) = refl

makes_both : (a b : Option ℕ) (port other maker made : ℕ) → other ≢ port → ((n : ℕ) → a ≡ Some n → (maker ≡ port) × (n ≡ made)) → ((n : ℕ) → b ≡ Some n → (maker ≡ other) × (n ≡ made))
    → (n : ℕ) → either_of a b ≡ Some n → (moved maker other port ≡ port) × (n ≡ made)
makes_both None b port other maker made two mine his n e = let h = his n e in (moved_on maker other port h.0, h.1)
makes_both (Some k) b port other maker made two mine his n e = let h = mine n e in (moved_not maker other port (λ is. two (sym is ∙ h.0)) ∙ h.0, h.1)

takes_both : (a b : Bool) (xs ys : List Row) (taken : List Page) (port other taker : ℕ) → other ≢ port → 0 < length xs → 0 < length ys
    → (a ≡ true → (taker ≡ port) × ((head_row xs).taken ≡ taken)) → (b ≡ true → (taker ≡ other) × ((head_row ys).taken ≡ taken))
    → (a || b) ≡ true → (moved taker other port ≡ port) × ((head_row (ordered b xs ys)).taken ≡ taken)
takes_both true true xs ys taken port other taker two lx ly mine his e = absurd (two (sym (his refl).0 ∙ (mine refl).0))
takes_both true false xs ys taken port other taker two lx ly mine his e = let h = mine refl in
    (moved_not taker other port (λ is. two (sym is ∙ h.0)) ∙ h.0, ap (λ (p : Row). p.taken) (head_longer xs ys lx) ∙ h.1)
takes_both false true xs ys taken port other taker two lx ly mine his e = let h = his refl in (moved_on taker other port h.0, ap (λ (p : Row). p.taken) (head_longer ys xs ly) ∙ h.1)
takes_both false false xs ys taken port other taker two lx ly mine his e = absurd (true≢false (sym e))

pub merges : (port : ℕ) (v : View) (other : ℕ) (w : View) → 0 < length v.rows → IsOne w → Merges Queued port v other w (joined v w) blank
merges port v other w some_row one items views q at two at' =
    let r = head_row w.rows in let mine = q.each port v at in
    let was : get_elem? views other ≡ some w = ⊎_elim (λ (x : (other ≡ port) × (joined v w ≡ w)). absurd (two x.0)) (λ (x : (other ≢ port) × (get_elem? views other ≡ some w)). x.1) (at_set views port other (joined v w) w at') in
    let his = q.each other w was in let has = has_head w one in
    let owner : ℕ → ℕ = put q.owner r.pager port in let maker' : ℕ = moved q.maker other port in let taker' : ℕ = moved q.taker other port in
    let F : ℕ → View → Type 0 = IsSeat q.taken items q.made maker' taker' owner in
    let apart : (z : Row) (j : ℕ) → q.owner z.pager ≡ j → j ≢ other → owner z.pager ≡ j = λ z j e ne. put_else q.owner r.pager port z.pager (λ same. ne (sym e ∙ (ap q.owner same ∙ his.owned r has))) ∙ e in
    let G : ℕ → View → Type 0 = λ j u. j ≢ other → F j u in
    let now : All G (set views port (joined v w)) = all_set G views port (joined v w) (λ _. record {
      sent = λ z h. ⊎_elim (mine.sent z) (his.sent z) (has_ordered w.takes v.rows w.rows z h);
      owned = λ z h. ⊎_elim (λ (g : Has v.rows z). apart z port (mine.owned z g) (λ e. two (sym e))) (λ (g : Has w.rows z). let is : r ≡ z = only_has r z (subst (λ (l : List Row). Has l z) one g) in ap (λ (p : Row). owner p.pager) (sym is) ∙ put_here q.owner r.pager port) (has_ordered w.takes v.rows w.rows z h);
      made_before = λ z h. ⊎_elim (mine.made_before z) (his.made_before z) (has_ordered w.takes v.rows w.rows z h);
      takes = takes_both v.takes w.takes v.rows w.rows q.taken port other q.taker two some_row (has_one w one) mine.takes his.takes;
      makes = makes_both v.made w.made port other q.maker q.made two mine.makes his.makes;
    }) (λ j u ne there apart_too. let o = q.each j u there in record {
      sent = o.sent;
      owned = λ z h. apart z j (o.owned z h) apart_too;
      made_before = o.made_before;
      takes = λ e. let h = o.takes e in (moved_not q.taker other port (λ is. apart_too (sym h.0 ∙ is)) ∙ h.0, h.1);
      makes = λ n e. let h = o.makes n e in (moved_not q.maker other port (λ is. apart_too (sym h.0 ∙ is)) ∙ h.0, h.1);
    }) in
    record {
      taken = q.taken;
      made = q.made;
      maker = maker';
      taker = taker';
      owner = owner;
      each = all_set F (set views port (joined v w)) other blank (blank_seat q.taken items q.made maker' taker' owner other) (λ j u ne there. now j u there ne);
      unmade = q.unmade;
    }

pub has_sender : (rows : List Row) (s : ℕ × List Page) → Has (senders rows) s → (r : Row) × Has rows r × ((r.pager, r.sent) ≡ s)
has_sender [] s h = absurd (none_has s h)
has_sender (r ∷ rs) s (zero, e) = (r, (0, refl), some-injective (r.pager, r.sent) s e)
has_sender (r ∷ rs) s (suc k, e) = let h = has_sender rs s (k, e) in (h.0, (suc h.1.0, h.1.1), h.2)

-- a pass that took in all others knows all
pub whole : (port : ℕ) (v : View) → v.takes ≡ true → HasAll v → Learns Queued port v (Whole v)
whole port v may all items views q at =
    let mine = q.each port v at in let t = mine.takes may in let m = mine.makes all.most all.last in
    let shift : (head_row v.rows).taken ++ items ≡ q.taken ++ items = ap (λ (l : List Page). l ++ items) t.1 in (
      (λ s h. let r = has_sender v.rows s h in subst (λ (z : ℕ × List Page). pages_of z.0 ((head_row v.rows).taken ++ items) ≡ z.1) r.2 (ap (pages_of r.0.pager) shift ∙ mine.sent r.0 r.1)),
      λ k none. ap (pages_of k) shift ∙ q.unmade k (λ (is : IsMade q.made k). let a = all.each k (subst (λ (i : ℕ). IsMade i k) (sym m.1) is) in none a.0 a.1 a.2),
    )
