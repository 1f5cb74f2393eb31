use Rattle.std.proofs.Common.{◌<◌, ◌≤◌, ◌++◌, ◌∷◌, [], ◌∙◌, ℕ, List, length, reverse, Option, Some, None, ap, arith, refl, sym, subst}
use Rattle.std.specs.Prelude.{option_to_list}
use Rattle.std.specs.Vec.{with_item, with_items}
use Rattle.std.proofs.lemmas.List.{length-append, length-reverse}
use Rattle.jb_host.specs.Desk.{Desk}
use Rattle.jb_page.specs.Pagers.{HasPager, PagerView}
use Rattle.jb_run.specs.All.{passes_at}
use Rattle.jb_session.specs.Exchanges.{AreOf, node_with}
use Rattle.jb_session.specs.Served.{Served}
use Rattle.jb_shared.specs.Passes.{PassView}
use Rattle.jb_run.specs.NodePages.{ArePagersOf}
use Rattle.jb_run.specs.Workers.{pager_number}
use Rattle.jb_run.proofs.PagerLemmas.{first_back, first_taken}
use Rattle.jb_run.proofs.Passing.{keeps_starts, session_keeps}
use Rattle.jb_run.proofs.LocalServing.{are_of, first_after, first_of, whole_after}
use Rattle.jb_run.proofs.console.serve.Goals as goal

-- the passes of the node are those of the areas
pub serve_session-end-requires-clause-ours : goal.serve_session-end-requires-clause-ours
serve_session-end-requires-clause-ours g c =
    let shared = c.args.shared.now in
    let count = length c.args.board.now.areas in
    rw (c.as_slice.ensures.value, c.as_mut_slice.ensures.value)
    (subst (AreOf shared.areas.items) (first_of shared count c.index_mut.result.now c.requires.whole c.index_mut.ensures.value) (are_of shared count c.requires.whole))

-- the pager is that of node 1
pub serve_session-end-requires-clause-pager : goal.serve_session-end-requires-clause-pager
serve_session-end-requires-clause-pager g c =
    let pages = c.args.node_pages.now.pages in
    let pagers = c.args.node_pages.now.pagers in
    let some : 0 < pages.nodes = omega (arith, c.requires.nodes, c.args.board.now.in_range.nodes_least) in
    let first = first_taken pages pagers.items c.pop-pager.new.self.items c.pop-pager.result c.requires.of some c.pop-pager.ensures.items
    (c.pop-pager.ensures.variant.1 (omega (arith, some, c.requires.of.count, length-reverse pagers.items, pagers.ok.0))) in
    subst (HasPager pages c.args.board.now.nodes) (sym first.is) (first.of, omega (arith, c.requires.nodes))

-- there is room for it
pub put_back-requires : goal.put_back-requires
put_back-requires g c =
    let pages = c.args.node_pages.now.pages in
    let pagers = c.args.node_pages.now.pagers in
    let some : 0 < pages.nodes = omega (arith, c.requires.nodes, c.args.board.now.in_range.nodes_least) in
    let first = first_taken pages pagers.items c.pop-pager.new.self.items c.pop-pager.result c.requires.of some c.pop-pager.ensures.items
    (c.pop-pager.ensures.variant.1 (omega (arith, some, c.requires.of.count, length-reverse pagers.items, pagers.ok.0))) in
    omega (
      arith,
      ap length c.pop-pager.ensures.items,
      ap (λ (o : Option PagerView). length (c.pop-pager.new.self.items ++ option_to_list o)) first.is,
      length-append c.pop-pager.new.self.items (first.pager ∷ []),
      few c.serve_session-end.new.pager,
      c.pop-pager.ensures.capacity,
      pagers.ok.0,
      pagers.ok.1,
    )
  where
    few : (o : Option PagerView) → length (option_to_list o) ≤ 1
    few None = omega arith
    few (Some one) = omega arith

pub returns-clause-whole : goal.returns-clause-whole
returns-clause-whole g c =
    let shared = c.args.shared.now in
    let node = c.index_mut.result.now in
    let to = c.serve_session-end.new.passes in
    let ended = c.serve_session-end.ensures in
    whole_after shared (length c.args.board.now.areas) node c.as_slice.result.now c.as_mut_slice.result.now to (with_item shared.nodes 0 (with_items node to))
    c.requires.whole c.index_mut.ensures.value c.as_slice.ensures.value c.as_mut_slice.ensures.value refl ended.ours (keeps_starts _ _ _ _ _ _ ended.served)

-- the passes were lent as a slice, and the console is back
pub returns-clause-served : goal.returns-clause-served
returns-clause-served g c =
    let shared = c.args.shared.now in
    let board = c.args.board.now in
    let node = c.index_mut.result.now in
    let whole = c.requires.whole in
    let found = c.index_mut.ensures.value in
    let ended = c.serve_session-end.ensures in
    let to = c.serve_session-end.new.passes in
    let one = g.H.Link.Link.wire c.console-console.result in
    let other = g.H.Link.Link.wire c.serve_session-end.new.link in
    let left = g.H.Clock.Clock.readings c.serve_session-end.new.clock in
    let long = sym ended.ours.count ∙ ap length c.as_slice.ensures.value ∙ whole.areas in
    let same = c.clock-clock.ensures.same in
    let end = c.serve_session-end.result in
    let pages = c.args.node_pages.now.pages in
    let pagers = c.args.node_pages.now.pagers in
    let some : 0 < pages.nodes = omega (arith, c.requires.nodes, c.args.board.now.in_range.nodes_least) in
    let first = first_taken pages pagers.items c.pop-pager.new.self.items c.pop-pager.result c.requires.of some c.pop-pager.ensures.items
    (c.pop-pager.ensures.variant.1 (omega (arith, some, c.requires.of.count, length-reverse pagers.items, pagers.ok.0))) in
    let back = first_back pages first.pager c.put_back.new.pagers.items c.pop-pager.new.self.items c.serve_session-end.new.pager c.args.board.now.nodes
    (subst (ArePagersOf pages) first.parts c.requires.of) (omega (arith, some, c.requires.nodes)) ended.pager
    (session_keeps _ _ _ _ _ _ ended.served ∙ ap pager_number first.is ∙ ap (λ (n : ℕ). Some n) first.number) c.put_back.ensures.items in
    let told = (g.H.Host.desk c.args.host.now).readings in
    let before = Some first.pager in
    let after = Some back.pager in
    let P : Option PagerView → Type 0 = λ p. Served board one (node_with (g.H.Clock.Clock.readings c.clock-clock.result) c.as_mut_slice.result.now p) end other (node_with left to c.serve_session-end.new.pager) in
    let Q : Option PagerView → Type 0 = λ p. Served board one (node_with (g.H.Clock.Clock.readings c.clock-clock.result) c.as_mut_slice.result.now before) end other (node_with left to p) in
    let R : Option (List ℕ) → Type 0 = λ w. Served board one (node_with w c.as_mut_slice.result.now before) end other (node_with left to after) in
    let F : List PassView → Type 0 = λ w. Served board one (node_with told w before) end other (node_with left to after) in
    let T : List PassView → Type 0 = λ w. Served board one (node_with told (passes_at shared 0) before) end other (node_with left w after) in (
      one,
      other,
      left,
      sym (ap (λ (d : Desk). d.console) same) ∙ c.console-console.ensures.was,
      c.put_console.ensures ∙ ap (λ (d : Desk). record d { console = Some other }) (c.console-console.ensures.out ∙ ap (λ (d : Desk). record d { console = None }) same),
      first.pager,
      back.pager,
      reverse c.pop-pager.new.self.items,
      first.parts,
      back.parts,
      subst T (sym (first_after shared (length board.areas) node to (with_item shared.nodes 0 (with_items node to)).items whole found long refl))
          (subst F (c.as_mut_slice.ensures.value ∙ sym (first_of shared (length board.areas) node whole found)) (subst R c.clock-clock.ensures.gives (subst Q back.is (subst P first.is ended.served)))),
    )

pub returns-clause-of : goal.returns-clause-of
returns-clause-of g c =
    let pages = c.args.node_pages.now.pages in
    let pagers = c.args.node_pages.now.pagers in
    let some : 0 < pages.nodes = omega (arith, c.requires.nodes, c.args.board.now.in_range.nodes_least) in
    let first = first_taken pages pagers.items c.pop-pager.new.self.items c.pop-pager.result c.requires.of some c.pop-pager.ensures.items
    (c.pop-pager.ensures.variant.1 (omega (arith, some, c.requires.of.count, length-reverse pagers.items, pagers.ok.0))) in
    let ended = c.serve_session-end.ensures in
    let back = first_back pages first.pager c.put_back.new.pagers.items c.pop-pager.new.self.items c.serve_session-end.new.pager c.args.board.now.nodes
    (subst (ArePagersOf pages) first.parts c.requires.of) (omega (arith, some, c.requires.nodes)) ended.pager
    (session_keeps _ _ _ _ _ _ ended.served ∙ ap pager_number first.is ∙ ap (λ (n : ℕ). Some n) first.number) c.put_back.ensures.items in
    back.are
