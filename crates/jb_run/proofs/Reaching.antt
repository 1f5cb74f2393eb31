-- What the pager of each node has done is what its sessions asked, and so each page is taken or unread.
use Rattle.std.proofs.Common.{◌≡◌, ℕ, zero, suc, ◌+◌, ◌-◌, ◌==◌, ◌<◌, ◌≤◌, Bool, true, false, List, [], ◌∷◌, ◌++◌, get_or, length, refl, sym, ap, subst, ◌∙◌, true≢false, arith}
use Rattle.std.specs.Prelude.{Some, if◌then◌else◌, nat_lt, slice_get}
use Rattle.std.proofs.lemmas.Bool.{lt-ltb, ltb-true}
use Rattle.std.proofs.lemmas.Bool.Decides.{nat_tests}
use Rattle.std.proofs.lemmas.List.{get_or-replicate, length-replicate}
use Rattle.std.proofs.lemmas.List.Elements.{filter-append}
use Rattle.std.proofs.lemmas.Option.{same_Some, slice_get-get_or}
use mathlib.Core.Option.{some}
use lib.ListN.{get_elem?}
use Rattle.jb_page.specs.Pagers.{IsNewPager, PagerView, row_at}
use Rattle.jb_page.specs.Rows.{Has, pages_of, row}
use Rattle.jb_page.specs.declared.page.Page.{Page}
use Rattle.jb_page.specs.declared.view.Row.{Row}
use Rattle.jb_server.specs.Laws.{PagesAreOfSessions}
use Rattle.jb_server.specs.Tallies.{no_tally}
use Rattle.jb_session.specs.Exchanges.{Exchange}
use Rattle.jb_session.specs.Pages.{PagesAreAsked, TellsPages, pages_from, sendings_of}
use Rattle.jb_run.specs.Lines.{Line, lines_for}
use Rattle.jb_run.specs.NodePages.{HasPaged, pager_of}
use Rattle.jb_run.specs.Reach.{EachReachesOfMany, EachReachesOfOne, IsNode, PagesReach, asked_alone, asked_at, asked_of, no_line, no_gate, taken_in, where_true}
use Rattle.jb_run.proofs.Numbers.{length-lines_for, node_line}
use Rattle.jb_run.proofs.PagerLemmas.{elem_at, nobody}

-- what stands in a list stands at a place
at_place : {A : Type 0} (xs : List A) (k : ℕ) (x d : A) → get_elem? xs k ≡ some x → (k < length xs) × (get_or xs k d ≡ x)
at_place [] k x d is = absurd (let no : ⊥ = cc in no)
at_place (y ∷ xs) zero x d is = (omega arith, cc)
at_place (y ∷ xs) (suc k) x d is = let rest = at_place xs k x d is in (omega (arith, rest.0), rest.1)

-- the row of a new pager
new_row : (nodes number to : ℕ) (p : PagerView) → IsNewPager nodes number p → IsNode nodes to → row_at to p ≡ row number [] [] [] []
new_row nodes number to p new is =
    ap (λ (l : List Row). get_or l (to - 1) (row 0 [] [] [] [])) new.rows
    ∙ get_or-replicate nodes (to - 1) (row number [] [] [] []) (row 0 [] [] [] []) (omega (arith, is.0, is.1))

-- since it was new a pager has sent and taken just what was asked in these
record HasDone (nodes number : ℕ) (asked : List Exchange) (after : PagerView) : Type 0 where
  pub sent : (to : ℕ) → IsNode nodes to → (row_at to after).sent ≡ pages_from number 0 to (sendings_of asked)
  pub taken : (row_at number after).taken ≡ taken_in asked

-- as the pager tells
done : (nodes number : ℕ) (asked : List Exchange) (p after : PagerView) → IsNewPager nodes number p → IsNode nodes number → TellsPages asked p after → HasDone nodes number asked after
done nodes number asked p after new node told = record {
  sent = λ to is.
      let pages : ℕ → ℕ → Row → List Page = λ n count r. r.sent ++ pages_from n count to (sendings_of asked) in
      ap (λ (r : Row). r.sent) (told.tells to is.0 (long to is)) ∙ ap (pages p.number p.count) (new_row nodes number to p new is)
      ∙ ap (λ (n : ℕ). pages n p.count (row number [] [] [] [])) new.number_is ∙ ap (λ (n : ℕ). pages number n (row number [] [] [] [])) new.none;
  taken =
      let pages : ℕ → Row → List Page = λ n r. r.taken ++ (if n == number then taken_in asked else []) in
      let own : (number == number) ≡ true = grind (arith, nat_tests) in
      ap (λ (r : Row). r.taken) (told.tells number node.0 (long number node)) ∙ ap (pages p.number) (new_row nodes number number p new node)
      ∙ ap (λ (n : ℕ). pages n (row number [] [] [] [])) new.number_is ∙ ap (λ (b : Bool). if b then taken_in asked else []) own;
}
  where
    long : (to : ℕ) → IsNode nodes to → to ≤ length p.rows
    long to is = omega (arith, is.1, ap length new.rows, length-replicate nodes (row number [] [] [] []))

-- the pager of a node
abbrev of_node : List PagerView → ℕ → PagerView
of_node pagers node = get_or pagers (node - 1) nobody

module _ (nodes : ℕ) (pagers pagers_after : List PagerView) (paged : HasPaged nodes pagers pagers_after) where
  made : (node : ℕ) → IsNode nodes node → IsNewPager nodes node (of_node pagers node)
  made node is =
      let here : node - 1 + 1 ≡ node = omega (arith, is.0) in
      subst (λ (n : ℕ). IsNewPager nodes n (of_node pagers node)) here (paged.made.each (node - 1) nobody (omega (arith, is.0, is.1)))

  many : length pagers_after ≡ nodes
  many = paged.are.count ∙ paged.between

  number_of : (node : ℕ) → IsNode nodes node → (of_node pagers_after node).number ≡ node
  number_of node is = paged.are.numbers (node - 1) nobody (omega (arith, is.0, is.1, paged.between)) ∙ omega (arith, is.0)

  -- who has the number of a node is its pager
  found : (node : ℕ) (p : PagerView) → Has pagers_after p → p.number ≡ node → IsNode nodes node × (of_node pagers_after node ≡ p)
  found node p has is =
      let place = at_place pagers_after has.0 p nobody has.1 in
      let low : has.0 < nodes = omega (arith, place.0, many) in
      let number : has.0 + 1 ≡ node = sym (paged.are.numbers has.0 nobody (omega (arith, low, paged.between))) ∙ ap (λ (q : PagerView). q.number) place.1 ∙ is in
      let here : node - 1 ≡ has.0 = omega (arith, number) in
      ((omega (arith, number), omega (arith, number, low)), ap (λ (k : ℕ). get_or pagers_after k nobody) here ∙ place.1)

  -- each page reaches its node, where the pagers have done just what was asked
  reaches : (asked : ℕ → List Exchange) → ((node : ℕ) → IsNode nodes node → HasDone nodes node (asked node) (of_node pagers_after node)) → PagesReach nodes asked paged.unread
  reaches asked each = record {
    parts = paged.closed.parts;
    all = paged.closed.all;
    count = paged.closed.count;
    each = λ from to here there.
        let part : List Page = get_or paged.closed.parts (to - 1) [] in
        let queue = paged.closed.each (to - 1) (omega (arith, there.0, there.1)) in
        let s : PagerView = of_node pagers_after from in
        let has : Has pagers_after s = (from - 1, elem_at pagers_after (from - 1) nobody (omega (arith, here.0, here.1, many))) in
        filter-append (λ (p : Page). p.from == from) (taken_in (asked to)) part
        ∙ ap (λ (l : List Page). pages_of from l ++ pages_of from part) (sym (taken_at to there))
        ∙ subst (λ (n : ℕ). pages_of n (row_at to queue.receiver).taken ++ pages_of n part ≡ (row_at to s).sent) (number_of from here) (
        subst (λ (n : ℕ). pages_of s.number (row_at n queue.receiver).taken ++ pages_of s.number part ≡ (row_at n s).sent) (place_of to there) (queue.each s has)
        )
        ∙ (each from here).sent to there;
    no_other = λ n to other there.
        let part : List Page = get_or paged.closed.parts (to - 1) [] in
        let queue = paged.closed.each (to - 1) (omega (arith, there.0, there.1)) in
        ap (λ (l : List Page). pages_of n (l ++ part)) (sym (taken_at to there))
        ∙ subst (λ (m : ℕ). pages_of n ((row_at m queue.receiver).taken ++ part) ≡ []) (place_of to there)
        (queue.no_other n (λ one. other (found n one.0 one.1 one.2).0));
    few = λ to there. (paged.closed.each (to - 1) (omega (arith, there.0, there.1))).few;
  }
    where
      place_of : (to : ℕ) → IsNode nodes to → to - 1 + 1 ≡ to
      place_of to there = omega (arith, there.0)

      taken_at : (to : ℕ) (there : IsNode nodes to) → (row_at to (paged.closed.each (to - 1) (omega (arith, there.0, there.1))).receiver).taken ≡ taken_in (asked to)
      taken_at to there =
          let queue = paged.closed.each (to - 1) (omega (arith, there.0, there.1)) in
          ap (λ (p : PagerView). (row_at to p).taken) (sym (found to queue.receiver queue.among (queue.number ∙ place_of to there)).1)
          ∙ (each to there).taken

-- where it is so these are they
where_is : (is : Bool) (asked : is ≡ true → List Exchange) → is ≡ true → (so : is ≡ true) × (where_true is asked ≡ asked so)
where_is true asked so = (refl, refl)
where_is false asked so = absurd (true≢false (sym so))

pub many_reach : PagesAreOfSessions → EachReachesOfMany
many_reach law readings board most gates gates_after rings rings_after from to pagers pagers_after targets tallies works paged =
    reaches board.nodes pagers pagers_after paged (asked_of works) on_line
  where
    lines : List Line
    lines = lines_for board most

    at_line : (k : ℕ) (within : k < length lines) → k < board.nodes → HasDone board.nodes (k + 1) (asked_at works k within) (get_or pagers_after k nobody)
    at_line k within low =
        let line : Line = get_or lines k no_line in
        let one = works.served k no_line no_gate no_gate no_tally within in
        let new = paged.made.each k nobody low in
        let place : line.node - 1 ≡ k = omega (arith, node_line board most k no_line low) in
        let before : pager_of pagers line ≡ Some (get_or pagers k nobody) = ap (slice_get pagers) place ∙ slice_get-get_or pagers k nobody (omega (arith, low, paged.made.count)) in
        let after : pager_of pagers_after line ≡ Some (get_or pagers_after k nobody)
        = ap (slice_get pagers_after) place ∙ slice_get-get_or pagers_after k nobody (omega (arith, low, many board.nodes pagers pagers_after paged)) in
        let told = law line.service board _ one.1.sessions _ (get_or pagers k nobody) one.1.serves.run before (omega (arith, new.number_is))
        (omega (arith, new.number_is, low, ap length new.rows, length-replicate board.nodes (row (k + 1) [] [] [] []))) in
        done board.nodes (k + 1) (asked_at works k within) (get_or pagers k nobody) (get_or pagers_after k nobody) new (omega arith, omega (arith, low))
        (subst (TellsPages (asked_at works k within) (get_or pagers k nobody)) (same_Some _ _ (sym told.1 ∙ after)) told.2)

    on_line : (node : ℕ) → IsNode board.nodes node → HasDone board.nodes node (asked_of works node) (of_node pagers_after node)
    on_line node is =
        let low : node - 1 < board.nodes = omega (arith, is.0, is.1) in
        let within : node - 1 < length lines = omega (arith, low, length-lines_for board most) in
        let asked : nat_lt (node - 1) (length lines) ≡ true → List Exchange = λ so. asked_at works (node - 1) (ltb-true (node - 1) (length lines) so) in
        let so = where_is (nat_lt (node - 1) (length lines)) asked (lt-ltb (node - 1) (length lines) within) in
        let here : node - 1 + 1 ≡ node = omega (arith, is.0) in
        subst (λ (n : ℕ). HasDone board.nodes n (asked_of works node) (of_node pagers_after node)) here
        (subst (λ (xs : List Exchange). HasDone board.nodes (node - 1 + 1) xs (of_node pagers_after node)) (sym so.1)
        (at_line (node - 1) (ltb-true (node - 1) (length lines) so.0) low))

pub one_reaches : PagesAreAsked → EachReachesOfOne
one_reaches law path old new end run = reaches run.board.nodes (run.pager ∷ run.others) (run.pager_after ∷ run.others) run.paged (asked_alone run.served.exchanges) on_node
  where
    paged_new : (k : ℕ) → IsNode run.board.nodes (suc (suc k)) → IsNewPager run.board.nodes (suc k + 1) (get_or run.others k nobody)
    paged_new k is = run.paged.made.each (suc k) nobody (omega (arith, is.1))

    on_node : (node : ℕ) → IsNode run.board.nodes node → HasDone run.board.nodes node (asked_alone run.served.exchanges node) (of_node (run.pager_after ∷ run.others) node)
    on_node zero is = absurd (omega (arith, is.0))
    on_node (suc zero) is =
        let new = run.paged.made.each 0 nobody (omega (arith, is.1)) in
        let told = law _ run.served.exchanges run.served.last _ run.served.mid _ run.pager run.served.passed run.served.lacks refl (omega (arith, new.number_is))
        (omega (arith, new.number_is, is.1, ap length new.rows, length-replicate run.board.nodes (row 1 [] [] [] []))) in
        done run.board.nodes 1 run.served.exchanges run.pager run.pager_after new is
        (subst (TellsPages run.served.exchanges run.pager) (same_Some _ _ (sym told.1)) told.2)
    on_node (suc (suc k)) is =
        let place : suc k ≡ suc (suc k) - 1 = omega arith in
        let new = paged_new k is in
        subst (λ (i : ℕ). HasDone run.board.nodes (suc (suc k)) [] (get_or (run.pager_after ∷ run.others) i nobody)) place (record {
          sent = λ to there. ap (λ (r : Row). r.sent) (new_row run.board.nodes (suc k + 1) to (get_or run.others k nobody) new there);
          taken = ap (λ (r : Row). r.taken) (new_row run.board.nodes (suc k + 1) (suc (suc k)) (get_or run.others k nobody) new is);
        })
