-- What a pager tells behind the sends and takes that were asked.
use Rattle.std.proofs.Common.{◌≡◌, ◌≢◌, ℕ, ◌+◌, ◌-◌, ◌==◌, ◌<◌, ◌≤◌, Bool, true, false, List, [], ◌∷◌, ◌++◌, length, Option, Some, None, Result, Ok, Err, refl, sym, ap, subst, ◌∙◌, append_assoc, append-nil, arith}
use Rattle.std.specs.Prelude.{if◌then◌else◌, unwrap_or}
use Rattle.std.specs.List.{flat_map}
use Rattle.std.specs.Option.{option_to_list}
use Rattle.std.proofs.lemmas.Bool.Decides.{Decides-eqb, nat_tests}
use Rattle.std.proofs.lemmas.Grind.{flat_map-append, get_or-set_at}
use Rattle.std.proofs.lemmas.List.{get_or-set_other, length-set}
use Rattle.jb_base.specs.declared.user.User.{User}
use Rattle.jb_menu.specs.declared.given.Given.{Given}
use Rattle.jb_menu.specs.declared.given.Given.TheVariants as given
use Rattle.jb_page.specs.Pagers.{PagerView, page, row_at, sent_with, taken_with, with_row_at}
use Rattle.jb_page.specs.Rows.{row, row_with_none, row_with_put, row_with_refusal, row_with_taken}
use Rattle.jb_page.specs.declared.page.Page.{Page}
use Rattle.jb_page.specs.declared.page.PageError.{PageError}
use Rattle.jb_page.specs.declared.page.PageError.TheVariants.{Full, Spent}
use Rattle.jb_page.specs.declared.view.Row.{Row}
use Rattle.jb_speech.specs.declared.request.AreaRequest.{AreaRequest}
use Rattle.jb_speech.specs.declared.request.Request.{Request}
use Rattle.jb_speech.specs.declared.request.Request.TheVariants.{Area, Clock, Send, Take}
use Rattle.jb_state.specs.declared.short.Short.{Short}
use Rattle.jb_session.specs.Exchanges.{Answers, Exchange, NodeState, Passed, PassedLast, text_sent}
use Rattle.jb_session.specs.Pages.{NoPagerComes, PagesAreAsked, PagesGoOn, Sending, TellsPages, answers_from, only_at, pages_from, put_count, row_after, sending_of, sendings_of, taking_of, takings_of}

-- a row with more behind each of its lists
abbrev row_more : Row → List Page → List Bool → List Page → List (Option Page) → Row
row_more r sent answers taken given = row r.pager (r.sent ++ sent) (r.answers ++ answers) (r.taken ++ taken) (r.given ++ given)

more_same : (r : Row) {s s' : List Page} {a a' : List Bool} {t t' : List Page} {g g' : List (Option Page)} → s ≡ s' → a ≡ a' → t ≡ t' → g ≡ g' → row_more r s a t g ≡ row_more r s' a' t' g'
more_same r {s} {s'} {a} {a'} {t} {t'} {g} {g'} one two three four =
    ap (λ w. row_more r w a t g) one ∙ ap (λ w. row_more r s' w t g) two ∙ ap (λ w. row_more r s' a' w g) three ∙ ap (λ w. row_more r s' a' t' w) four

more_none : (r : Row) → row_more r [] [] [] [] ≡ r
more_none r =
    ap (λ w. row r.pager w (r.answers ++ []) (r.taken ++ []) (r.given ++ [])) (append-nil r.sent)
    ∙ ap (λ w. row r.pager r.sent w (r.taken ++ []) (r.given ++ [])) (append-nil r.answers)
    ∙ ap (λ w. row r.pager r.sent r.answers w (r.given ++ [])) (append-nil r.taken)
    ∙ ap (λ w. row r.pager r.sent r.answers r.taken w) (append-nil r.given)

more_then : (r : Row) (s s' : List Page) (a a' : List Bool) (t t' : List Page) (g g' : List (Option Page))
    → row_more (row_more r s a t g) s' a' t' g' ≡ row_more r (s ++ s') (a ++ a') (t ++ t') (g ++ g')
more_then r s s' a a' t t' g g' =
    ap (λ w. row r.pager w ((r.answers ++ a) ++ a') ((r.taken ++ t) ++ t') ((r.given ++ g) ++ g')) (append_assoc r.sent s s')
    ∙ ap (λ w. row r.pager (r.sent ++ (s ++ s')) w ((r.taken ++ t) ++ t') ((r.given ++ g) ++ g')) (append_assoc r.answers a a')
    ∙ ap (λ w. row r.pager (r.sent ++ (s ++ s')) (r.answers ++ (a ++ a')) w ((r.given ++ g) ++ g')) (append_assoc r.taken t t')
    ∙ ap (λ w. row r.pager (r.sent ++ (s ++ s')) (r.answers ++ (a ++ a')) (r.taken ++ (t ++ t')) w) (append_assoc r.given g g')

-- an empty list
abbrev none_of : (T : Type 0) → List T
none_of T = []

either_none : {T : Type 0} (b : Bool) → (if b then none_of T else none_of T) ≡ none_of T
either_none true = refl
either_none false = refl

only_none : {T : Type 0} (own node : ℕ) → only_at own node (none_of T) ≡ none_of T
only_none own node = either_none (own == node)

only_append : {T : Type 0} (own node : ℕ) (xs ys : List T) → only_at own node (xs ++ ys) ≡ only_at own node xs ++ only_at own node ys
only_append {T} own node xs ys = by (own == node)
  where
    by : (b : Bool) → (if b then xs ++ ys else []) ≡ (if b then xs else []) ++ (if b then ys else [])
    by true = refl
    by false = refl

answers_append : (node : ℕ) (xs ys : List Sending) → answers_from node (xs ++ ys) ≡ answers_from node xs ++ answers_from node ys
answers_append node [] ys = refl
answers_append node (one ∷ xs) ys =
    let here : List Bool = if one.to == node then one.put ∷ [] else [] in
    ap (λ w. here ++ w) (answers_append node xs ys) ∙ sym (append_assoc here (answers_from node xs) (answers_from node ys))

put_append : (xs ys : List Sending) → put_count (xs ++ ys) ≡ put_count xs + put_count ys
put_append [] ys = omega arith
put_append (one ∷ xs) ys = by one.put (put_append xs ys)
  where
    by : (b : Bool) → put_count (xs ++ ys) ≡ put_count xs + put_count ys → (if b then put_count (xs ++ ys) + 1 else put_count (xs ++ ys)) ≡ (if b then put_count xs + 1 else put_count xs) + put_count ys
    by true rest = omega (arith, rest)
    by false rest = rest

pages_append : (number count node : ℕ) (xs ys : List Sending)
    → pages_from number count node (xs ++ ys) ≡ pages_from number count node xs ++ pages_from number (count + put_count xs) node ys
pages_append number count node [] ys = let P : ℕ → Type 0 = λ w. pages_from number count node ys ≡ pages_from number w node ys in subst P (omega arith) refl
pages_append number count node (one ∷ xs) ys = by one.put (λ n. pages_append number n node xs ys)
  where
    here : List Page
    here = if one.to == node then page number (count + 1) one.text ∷ [] else []

    by : (b : Bool) → ((n : ℕ) → pages_from number n node (xs ++ ys) ≡ pages_from number n node xs ++ pages_from number (n + put_count xs) node ys)
        → (if b then here ++ pages_from number (count + 1) node (xs ++ ys) else pages_from number count node (xs ++ ys))
        ≡ (if b then here ++ pages_from number (count + 1) node xs else pages_from number count node xs) ++ pages_from number (count + (if b then put_count xs + 1 else put_count xs)) node ys
    by true rest =
        let P : ℕ → Type 0 = λ w. here ++ pages_from number (count + 1) node (xs ++ ys) ≡ (here ++ pages_from number (count + 1) node xs) ++ pages_from number w node ys in
        subst P (omega arith)
        (ap (λ w. here ++ w) (rest (count + 1))
        ∙ sym (append_assoc here (pages_from number (count + 1) node xs) (pages_from number ((count + 1) + put_count xs) node ys)))
    by false rest = rest count

-- what is told behind some, and behind more
told_then : (number count node : ℕ) (xs ys : List Sending) (us vs : List (Option Page)) (r : Row)
    → row_after number (count + put_count xs) node ys vs (row_after number count node xs us r) ≡ row_after number count node (xs ++ ys) (us ++ vs) r
told_then number count node xs ys us vs r =
    let f : List (Option Page) → List Page = flat_map option_to_list in
    more_then r (pages_from number count node xs) (pages_from number (count + put_count xs) node ys) (answers_from node xs) (answers_from node ys)
    (only_at number node (f us)) (only_at number node (f vs)) (only_at number node us) (only_at number node vs)
    ∙ more_same r (sym (pages_append number count node xs ys)) (sym (answers_append node xs ys))
    (sym (ap (only_at number node) (flat_map-append option_to_list us vs) ∙ only_append number node (f us) (f vs))) (sym (only_append number node us vs))

pub go_on : PagesGoOn
go_on exchanges later from mid to one two =
    let sendings : sendings_of (exchanges ++ later) ≡ sendings_of exchanges ++ sendings_of later = flat_map-append (λ (x : Exchange). sending_of x.request x.given) exchanges later in
    let takings : takings_of (exchanges ++ later) ≡ takings_of exchanges ++ takings_of later = flat_map-append (λ (x : Exchange). taking_of x.request x.given) exchanges later in
    record {
      number = two.number ∙ one.number;
      queues = two.queues ∙ one.queues;
      rows = two.rows ∙ one.rows;
      count = omega (arith, two.count, one.count, ap put_count sendings, put_append (sendings_of exchanges) (sendings_of later));
      tells = λ node low high.
          let after : Row → Row = row_after from.number (from.count + put_count (sendings_of exchanges)) node (sendings_of later) (takings_of later) in
          two.tells node low (omega (arith, one.rows, high))
          ∙ ap (λ w. row_after w mid.count node (sendings_of later) (takings_of later) (row_at node mid)) one.number
          ∙ ap (λ w. row_after from.number w node (sendings_of later) (takings_of later) (row_at node mid)) one.count
          ∙ ap after (one.tells node low high)
          ∙ told_then from.number from.count node (sendings_of exchanges) (sendings_of later) (takings_of exchanges) (takings_of later) (row_at node from)
          ∙ ap (λ w. row_after from.number from.count node w (takings_of exchanges ++ takings_of later) (row_at node from)) (sym sendings)
          ∙ ap (λ w. row_after from.number from.count node (sendings_of (exchanges ++ later)) w (row_at node from)) (sym takings);
    }

-- nothing was sent and nothing taken
tells_none : (xs : List Exchange) (p : PagerView) → sendings_of xs ≡ [] → takings_of xs ≡ [] → TellsPages xs p p
tells_none xs p sendings takings = record {
  number = refl;
  queues = refl;
  rows = refl;
  count = omega (arith, ap put_count sendings);
  tells = λ node low high.
      sym
      (ap (λ w. row_after p.number p.count node w (takings_of xs) (row_at node p)) sendings
      ∙ ap (λ w. row_after p.number p.count node [] w (row_at node p)) takings
      ∙ more_same (row_at node p) refl refl (only_none p.number node) (only_none p.number node)
      ∙ more_none (row_at node p));
}

-- the row of this node, where the one of that node has more
row_with : (p : PagerView) (to node : ℕ) (made : Row) (s : List Page) (a : List Bool) (t : List Page) (g : List (Option Page))
    → 0 < to → to ≤ length p.rows → 0 < node → made ≡ row_more (row_at to p) s a t g
    → row_at node (with_row_at to made p)
    ≡ row_more (row_at node p) (if to == node then s else []) (if to == node then a else []) (if to == node then t else []) (if to == node then g else [])
row_with p to node made s a t g low high above is = by (to == node) refl
  where
    by : (b : Bool) → (to == node) ≡ b → row_at node (with_row_at to made p)
        ≡ row_more (row_at node p) (if b then s else []) (if b then a else []) (if b then t else []) (if b then g else [])
    by true same =
        let at : to ≡ node = (Decides-eqb to node).0 same in
        get_or-set_at p.rows (to - 1) (node - 1) made (row 0 [] [] [] []) (omega (arith, at)) (omega (arith, low, high))
        ∙ is
        ∙ ap (λ w. row_more (row_at w p) s a t g) at
    by false same =
        let other : to ≢ node = grind (arith, nat_tests) in
        let apart : (node - 1) ≢ (to - 1) = λ e. other (omega (arith, e, low, above)) in
        get_or-set_other p.rows (to - 1) (node - 1) made (row 0 [] [] [] []) apart ∙ sym (more_none (row_at node p))

-- a send that was so answered
sent_tells : (p : PagerView) (to : ℕ) (text : Short 72) (result : Result (Unit {0}) PageError) → 0 < to → to ≤ length p.rows
    → TellsPages (record { request = Send to text; given = given.Sent result } ∷ []) p (sent_with p to (text_sent text) result)
sent_tells p to text (Ok done) low high =
    let x : Page = page p.number (p.count + 1) (text_sent text) in
    let r : Row = row_at to p in
    let made : Row = row_with_put r x in
    record {
      number = refl;
      queues = refl;
      rows = length-set p.rows (to - 1) made;
      count = omega arith;
      tells = λ node above within.
          row_with p to node made (x ∷ []) (true ∷ []) [] [] low high above
          (ap (λ w. row r.pager (r.sent ++ x ∷ []) (r.answers ++ true ∷ []) w r.given) (sym (append-nil r.taken))
          ∙ ap (λ w. row r.pager (r.sent ++ x ∷ []) (r.answers ++ true ∷ []) (r.taken ++ []) w) (sym (append-nil r.given)))
          ∙ more_same (row_at node p) (sym (append-nil (if to == node then x ∷ [] else []))) (sym (append-nil (if to == node then true ∷ [] else [])))
          (either_none (to == node) ∙ sym (only_none p.number node)) (either_none (to == node) ∙ sym (only_none p.number node));
    }
sent_tells p to text (Err (Full n)) low high =
    let r : Row = row_at to p in
    let made : Row = row_with_refusal r in
    record {
      number = refl;
      queues = refl;
      rows = length-set p.rows (to - 1) made;
      count = omega arith;
      tells = λ node above within.
          row_with p to node made [] (false ∷ []) [] [] low high above
          (ap (λ w. row r.pager w (r.answers ++ false ∷ []) r.taken r.given) (sym (append-nil r.sent))
          ∙ ap (λ w. row r.pager (r.sent ++ []) (r.answers ++ false ∷ []) w r.given) (sym (append-nil r.taken))
          ∙ ap (λ w. row r.pager (r.sent ++ []) (r.answers ++ false ∷ []) (r.taken ++ []) w) (sym (append-nil r.given)))
          ∙ more_same (row_at node p) (either_none (to == node)) (sym (append-nil (if to == node then false ∷ [] else [])))
          (either_none (to == node) ∙ sym (only_none p.number node)) (either_none (to == node) ∙ sym (only_none p.number node));
    }
sent_tells p to text (Err (Spent n)) low high = tells_none (record { request = Send to text; given = given.Sent (Err (Spent n)) } ∷ []) p refl refl

-- a take that was so answered
taken_tells : (p : PagerView) (result : Option Page) → 0 < p.number → p.number ≤ length p.rows
    → TellsPages (record { request = Take; given = given.Page result } ∷ []) p (taken_with p result)
taken_tells p (Some x) low high =
    let r : Row = row_at p.number p in
    let made : Row = row_with_taken r x in
    record {
      number = refl;
      queues = refl;
      rows = length-set p.rows (p.number - 1) made;
      count = omega arith;
      tells = λ node above within.
          row_with p p.number node made [] [] (x ∷ []) (Some x ∷ []) low high above
          (ap (λ w. row r.pager w r.answers (r.taken ++ x ∷ []) (r.given ++ Some x ∷ [])) (sym (append-nil r.sent))
          ∙ ap (λ w. row r.pager (r.sent ++ []) w (r.taken ++ x ∷ []) (r.given ++ Some x ∷ [])) (sym (append-nil r.answers)))
          ∙ more_same (row_at node p) (either_none (p.number == node)) (either_none (p.number == node)) refl refl;
    }
taken_tells p None low high =
    let r : Row = row_at p.number p in
    let made : Row = row_with_none r in
    record {
      number = refl;
      queues = refl;
      rows = length-set p.rows (p.number - 1) made;
      count = omega arith;
      tells = λ node above within.
          row_with p p.number node made [] [] [] (None ∷ []) low high above
          (ap (λ w. row r.pager w r.answers r.taken (r.given ++ None ∷ [])) (sym (append-nil r.sent))
          ∙ ap (λ w. row r.pager (r.sent ++ []) w r.taken (r.given ++ None ∷ [])) (sym (append-nil r.answers))
          ∙ ap (λ w. row r.pager (r.sent ++ []) (r.answers ++ []) w (r.given ++ None ∷ [])) (sym (append-nil r.taken)))
          ∙ more_same (row_at node p) (either_none (p.number == node)) (either_none (p.number == node)) refl refl;
    }

-- the pager behind these exchanges
abbrev Tells : List Exchange → PagerView → NodeState → Type 0
Tells exchanges pager to = (after : PagerView) × (to.pager ≡ Some after) × TellsPages exchanges pager after

stays : (exchanges : List Exchange) (pager : PagerView) (to : NodeState) → sendings_of exchanges ≡ [] → takings_of exchanges ≡ [] → to.pager ≡ Some pager → Tells exchanges pager to
stays exchanges pager to sendings takings is = (pager, is, tells_none exchanges pager sendings takings)

-- it is the pager of the node
own : (p pager : PagerView) (held : Option PagerView) → held ≡ Some p → held ≡ Some pager → p ≡ pager
own p pager held one two = ap (λ w. unwrap_or w pager) (sym one ∙ two)

exchanged : (user_of : AreaRequest → Option User) (request : Request) (what : Given) (old new : NodeState) (pager : PagerView) → Answers user_of request what old new
    → old.pager ≡ Some pager → 0 < pager.number → pager.number ≤ length pager.rows → Tells (record { request = request; given = what } ∷ []) pager new
exchanged user_of (Area request) what old new pager a has low high = stays (record { request = Area request; given = what } ∷ []) pager new refl refl (a.pager ∙ has)
exchanged user_of Clock (given.Moment moment) old new pager a has low high =
    stays (record { request = Clock; given = given.Moment moment } ∷ []) pager new refl refl (ap (λ (w : NodeState). w.pager) a.1 ∙ has)
exchanged user_of (Send to text) (given.Sent result) old new pager a has low high =
    let x : List Exchange = record { request = Send to text; given = given.Sent result } ∷ [] in
    let P : PagerView → Type 0 = λ w. Tells x w new in
    subst P (own a.0 pager old.pager a.1 has) (sent_with a.0 to (text_sent text) result, ap (λ (w : NodeState). w.pager) a.5, sent_tells a.0 to text result a.2 a.3)
exchanged user_of Take (given.Page result) old new pager a has low high =
    let x : List Exchange = record { request = Take; given = given.Page result } ∷ [] in
    let P : PagerView → Type 0 = λ w. 0 < w.number → w.number ≤ length w.rows → Tells x w new in
    subst P (own a.0 pager old.pager a.1 has) (λ above within. (taken_with a.0 result, ap (λ (w : NodeState). w.pager) a.3, taken_tells a.0 result above within)) low high
exchanged user_of request what old new pager a has low high = absurd a

passed : (user_of : AreaRequest → Option User) (exchanges : List Exchange) (from to : NodeState) (pager : PagerView) → Passed user_of from exchanges to
    → from.pager ≡ Some pager → 0 < pager.number → pager.number ≤ length pager.rows → Tells exchanges pager to
passed user_of [] from to pager is has low high = stays [] pager to refl refl (ap (λ (w : NodeState). w.pager) is ∙ has)
passed user_of (x ∷ xs) from to pager p has low high =
    let first = exchanged user_of x.request x.given from p.0 pager p.1 has low high in
    let rest = passed user_of xs p.0 to first.0 p.2 first.1 (omega (arith, first.2.number, low)) (omega (arith, first.2.number, first.2.rows, high)) in
    (rest.0, rest.1, go_on (x ∷ []) xs pager first.0 rest.0 first.2 rest.2)

-- memory was wanting for a request of an area alone
lacked : (user_of : AreaRequest → Option User) (last : Option Request) (mid to : NodeState) → PassedLast user_of mid last to → to.pager ≡ mid.pager
lacked user_of None mid to is = ap (λ (w : NodeState). w.pager) is
lacked user_of (Some (Area request)) mid to lacks = lacks.pager
lacked user_of (Some request) mid to lacks = absurd lacks

pub asked : PagesAreAsked
asked user_of exchanges last from mid to pager through at_last has low high =
    let t = passed user_of exchanges from mid pager through has low high in
    (t.0, lacked user_of last mid to at_last ∙ t.1, t.2)

-- there is none and one
none_some : {A : Type 0} {B : Type 0} (held : Option A) (one : A) → held ≡ Some one → held ≡ None → B
none_some held one is none = absurd (let no : Some one ≡ None → ⊥ = λ same. cc in no (sym is ∙ none))

exchanged_none : (user_of : AreaRequest → Option User) (request : Request) (what : Given) (old new : NodeState) → Answers user_of request what old new → old.pager ≡ None → new.pager ≡ None
exchanged_none user_of (Area request) what old new a none = a.pager ∙ none
exchanged_none user_of Clock (given.Moment moment) old new a none = ap (λ (w : NodeState). w.pager) a.1 ∙ none
exchanged_none user_of (Send to text) (given.Sent result) old new a none = none_some old.pager a.0 a.1 none
exchanged_none user_of Take (given.Page result) old new a none = none_some old.pager a.0 a.1 none
exchanged_none user_of request what old new a none = absurd a

passed_none : (user_of : AreaRequest → Option User) (exchanges : List Exchange) (from to : NodeState) → Passed user_of from exchanges to → from.pager ≡ None → to.pager ≡ None
passed_none user_of [] from to is none = ap (λ (w : NodeState). w.pager) is ∙ none
passed_none user_of (x ∷ xs) from to p none = passed_none user_of xs p.0 to p.2 (exchanged_none user_of x.request x.given from p.0 p.1 none)

pub comes : NoPagerComes
comes user_of exchanges last from mid to through at_last none = lacked user_of last mid to at_last ∙ passed_none user_of exchanges from mid through none
