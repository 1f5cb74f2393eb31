use Rattle.std.proofs.Common.{◌≡◌, ◌∙◌, ℕ, List, [], ◌∷◌, length, take, ap, refl, sym, subst, arith}
use Rattle.std.specs.Prelude.{Result, Err}
use Rattle.std.proofs.Math.Seq.{take-length}
use Rattle.std.proofs.lemmas.Result.{err_from_is_err_and}
use Rattle.jb_run.specs.All.{ClosesAll, OpensAll, RefusesAll, passes_at}
use Rattle.jb_run.specs.Rows.{lists_of}
use Rattle.jb_run.proofs.Callers.{only_list}
use Rattle.jb_run.proofs.RowLemmas.{length-lists_of}
use Rattle.jb_run.proofs.WholeLemmas.{whole_own}
use Rattle.jb_conf.specs.declared.board.BoardArea.{BoardArea}
use Rattle.jb_page.specs.Closing.{PagesInOrder}
use Rattle.jb_page.specs.Pagers.{AreNewPagers, PagerView, PagesView}
use Rattle.jb_shared.specs.Passes.{PassView}
use Rattle.jb_run.proofs.LocalRefusing.{no_areas}
use Rattle.jb_run.proofs.LocalServing.{serves_one}
use Rattle.jb_run.proofs.NodesRefusing.{no_room}
use Rattle.jb_run.specs.LocalEnding.{of_areas}
use Rattle.jb_run.specs.Local.{RunsLocal}
use Rattle.jb_run.specs.NodePages.{ArePagersOf, HasPaged}
use Rattle.jb_run.specs.declared.local_end.LocalEnd.{LocalEnd}
use Rattle.jb_run.specs.declared.error.RunError.{RunError}
use Rattle.jb_run.proofs.console.run_board.Goals as goal

-- memory was wanting before the areas were opened
pub returns-in_default : goal.returns-in_default
returns-in_default g c = λ path old has. no_room ⊥ path c.args.board.now old (g.H.Host.desk c.args.host.now) has

pub returns-in_err-shared : goal.returns-in_err-shared
returns-in_err-shared g c = λ path old has.
    let new = g.H.Host.desk c.open_areas.new.host in
    let why = c.in_err-shared.field-0.0 in
    let p = err_from_is_err_and c.from_residual.result c.from_residual.ensures.1 in
    subst (λ (r : Result LocalEnd RunError). RunsLocal path old new r) (sym (p.1 ∙ ap (λ (e : RunError). Err e) p.2))
    (no_areas ⊥ path old new (of_areas why) (record {
      board = c.args.board.now;
      mid = g.H.Host.desk c.args.host.now;
      has = has;
      why = why;
      is = refl;
      refuses = subst (λ (areas : List BoardArea). RefusesAll areas (g.H.Host.desk c.args.host.now) new why) c.as_slice.ensures c.in_err-shared.ensures.err;
    }))

-- there is a pager for each node
pub serve-session-requires-clause-nodes : goal.serve-session-requires-clause-nodes
serve-session-requires-clause-nodes g c = sym c.in-Ok.ensures.of.count ∙ c.in-Ok.ensures.new.count

pub close_areas-is_doubtful-requires-clause-whole : goal.close_areas-is_doubtful-requires-clause-whole
close_areas-is_doubtful-requires-clause-whole g c = whole_own c.serve-session.new.shared 1 (length c.args.board.now.areas) c.serve-session.ensures.whole

pub returns : goal.returns
returns g c = λ path old has.
    let areas = c.args.board.now.areas in
    let served = g.H.Host.desk c.serve-session.new.host in
    let new = g.H.Host.desk c.close_areas-is_doubtful.new.host in
    let after = c.serve-session.new.shared in
    let nodes = lists_of after.nodes.items in
    let to = passes_at after 0 in
    let doubtful = c.close_areas-is_doubtful.result in
    let serves = c.serve-session.ensures.served in
    let whole = c.serve-session.ensures.whole in
    let read = g.H.Host.desk c.args.host.now in
    let opened = g.H.Host.desk c.open_areas.new.host in
    let shared = c.in_ok-shared.shared in
    let opens = subst (λ (list : List BoardArea). OpensAll list 1 read opened shared) c.as_slice.ensures c.in_ok-shared.ensures.ok in
    let all = ap (λ (list : List BoardArea). take (length after.areas.items) list) c.as_slice-2.ensures ∙ ap (λ (n : ℕ). take n areas) whole.areas ∙ take-length areas in
    let only : nodes ≡ to ∷ [] = only_list nodes (length-lists_of after.nodes.items ∙ whole.lists) in
    let pages = c.in-Ok.node_pages.pages in
    let between = sym c.in-Ok.ensures.of.count ∙ c.in-Ok.ensures.new.count in
    let unread = c.close_pages.result.items in
    let closed = subst (λ (l : List PagerView). PagesInOrder l c.serve-session.new.node_pages.pages.nodes unread) serves.9 c.close_pages.ensures in
    let paged : HasPaged c.args.board.now.nodes (serves.5 ∷ serves.7) (serves.6 ∷ serves.7)
    = record {
      pages = pages;
      between = between;
      made = subst (AreNewPagers c.args.board.now.nodes) serves.8 c.in-Ok.ensures.new;
      are = subst (λ (p : PagesView). ArePagersOf p (serves.6 ∷ serves.7)) c.serve-session.ensures.pages
          (subst (ArePagersOf c.serve-session.new.node_pages.pages) serves.9 c.serve-session.ensures.of);
      unread = unread;
      closed = subst (λ (n : ℕ). PagesInOrder (serves.6 ∷ serves.7) n unread) (ap (λ (p : PagesView). p.nodes) c.serve-session.ensures.pages ∙ between) closed;
    } in
    serves_one path c.args.board.now old read opened served new c.serve-session.result doubtful
    shared to serves.5 serves.6 serves.7 serves.2 serves.0 serves.1 has opens serves.3 serves.4 serves.10 (whole.passes 0 (omega arith)) paged
    (subst (λ (lists : List (List PassView)). ClosesAll areas lists served new doubtful) only
    (subst (λ (done : List BoardArea). ClosesAll done nodes served new doubtful) all c.close_areas-is_doubtful.ensures))
