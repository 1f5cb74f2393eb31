use Rattle.std.proofs.Common.{◌≡◌, ◌++◌, ◌∷◌, [], ℕ, List, Option, ap, arith, length, map, reverse, subst, sym, ◌∙◌}
use Rattle.std.specs.Prelude.{All, IsSome}
use Rattle.std.specs.Option.{option_map}
use Rattle.std.proofs.lemmas.List.{length-reverse}
use Rattle.jb_page.specs.Closing.{PagesInOrder}
use Rattle.jb_page.specs.Pagers.{PagerView}
use Rattle.jb_run.proofs.RowLemmas.{length-lists_of}
use Rattle.jb_run.specs.Lines.{lines_for}
use Rattle.jb_run.specs.Rows.{lists_of}
use Rattle.jb_server.specs.Workers.{IsAtWork}
use Rattle.jb_server.specs.declared.worker.PackSlot.{PackSlot}
use Rattle.jb_server.specs.declared.worker.Worker.{Worker}
use Rattle.jb_server.specs.declared.worker.Worker.TheVariants.{Packer}
use Rattle.jb_shared.specs.declared.shared.SharedArea.{SharedArea}
use Rattle.jb_run.specs.NodePages.{ArePagersOf, HasPaged}
use Rattle.jb_run.specs.Workers.{HasDoor, HaveOwn, pagers_of, with_pagers, with_passes}
use Rattle.jb_run.specs.Working.{AreAllOf}
use Rattle.jb_run.proofs.Lists.{lent_back}
use Rattle.jb_run.proofs.Crew.{all_at_work, all_of_still, are_over, ends_work, left_front, left_pagers, packer_at_work, short_name, targets_of}
use Rattle.jb_run.proofs.Own.{crew_own, have_doors, own_most}
use Rattle.jb_run.proofs.PagerLemmas.{pagers_all}
use Rattle.jb_run.proofs.TargetLemmas.{shows_all}
use Rattle.jb_run.proofs.nodes.work.Goals as goal

-- each has its passes
pub serve-requires-clause-ours : goal.serve-requires-clause-ours
serve-requires-clause-ours g c κs within =
    let W : Type 0 = Worker g.row.H-Door.Denot g.row.H-Bell.Denot g.row.H-Clock.Denot g.row.H-Disk.Denot in
    let board = c.args.board.now in
    let workers = c.args.crew.lines.items in
    let slot = c.args.crew.packer in
    let vectors = c.args.shared.now.nodes.items in
    let rows = lists_of vectors in
    let slice : c.as_mut_slice.result.now ≡ workers ++ Packer slot ∷ [] = c.as_mut_slice.ensures.value ∙ c.push_reserved.ensures.items in
    let areas = c.args.shared.now.areas.items in
    let own = crew_own board c.args.calls workers slot (length rows) c.requires.lines (length-lists_of vectors ∙ c.requires.lists) c.requires.packer.number in
    let pages = c.args.crew.node_pages.pages in
    subst (λ (a : List (SharedArea g.row.H-Disk.Denot)). All (IsAtWork a pages board) c.as_mut_slice.result.now) (sym c.as_slice-areas.ensures.value)
    (subst (λ (l : List W). All (IsAtWork areas pages board) l) (sym slice)
    (all_at_work areas pages board c.args.calls workers slot rows c.requires.lines own c.requires.ours (short_name slot.user c.requires.packer.user) c.requires.packer.targets
    (sym c.requires.of.count ∙ c.requires.pagers.count) c.requires.of.of))

-- the packer is still the last
pub part_packer-targets-requires-clause-last : goal.part_packer-targets-requires-clause-last
part_packer-targets-requires-clause-last g c =
    let W : Type 0 = Worker g.row.H-Door.Denot g.row.H-Bell.Denot g.row.H-Clock.Denot g.row.H-Disk.Denot in
    let board = c.args.board.now in
    let workers = c.args.crew.lines.items in
    let slot = c.args.crew.packer in
    let vectors = c.args.shared.now.nodes.items in
    let slice : c.as_mut_slice.result.now ≡ workers ++ Packer slot ∷ [] = c.as_mut_slice.ensures.value ∙ c.push_reserved.ensures.items in
    let told = (g.H.Host.desk c.args.host.now).readings in
    let lent = c.push_reserved.new.self in
    let after = c.serve.new.workers in
    let all = lent_back lent.items c.as_mut_slice.result.now after lent.len c.as_mut_slice.ensures.value c.serve.auto.workers lent.ok.0 in
    let over = are_over g.H.Door.Door.gate g.H.Bell.Bell.rings g.H.Clock.Clock.readings g.H.Disk.Disk.device told board c.args.calls workers slot c.as_mut_slice.result.now after (length vectors) slice
    c.serve.auto.workers c.requires.lines c.requires.ready c.requires.packer c.serve.ensures.worked c.requires.lists in
    record { front = over.done.front; slot = over.done.last; is = all ∙ over.done.is }

pub part_packer-targets-requires-clause-own : goal.part_packer-targets-requires-clause-own
part_packer-targets-requires-clause-own g c =
    let W : Type 0 = Worker g.row.H-Door.Denot g.row.H-Bell.Denot g.row.H-Clock.Denot g.row.H-Disk.Denot in
    let board = c.args.board.now in
    let workers = c.args.crew.lines.items in
    let slot = c.args.crew.packer in
    let vectors = c.args.shared.now.nodes.items in
    let slice : c.as_mut_slice.result.now ≡ workers ++ Packer slot ∷ [] = c.as_mut_slice.ensures.value ∙ c.push_reserved.ensures.items in
    let told = (g.H.Host.desk c.args.host.now).readings in
    let lent = c.push_reserved.new.self in
    let after = c.serve.new.workers in
    let all = lent_back lent.items c.as_mut_slice.result.now after lent.len c.as_mut_slice.ensures.value c.serve.auto.workers lent.ok.0 in
    let over = are_over g.H.Door.Door.gate g.H.Bell.Bell.rings g.H.Clock.Clock.readings g.H.Disk.Disk.device told board c.args.calls workers slot c.as_mut_slice.result.now after (length vectors) slice
    c.serve.auto.workers c.requires.lines c.requires.ready c.requires.packer c.serve.ensures.worked c.requires.lists in
    subst (λ (l : List W). HaveOwn (length vectors) l) (sym all) over.own

pub part_lines-door_failed-requires-clause-doors : goal.part_lines-door_failed-requires-clause-doors
part_lines-door_failed-requires-clause-doors g c =
    let W : Type 0 = Worker g.row.H-Door.Denot g.row.H-Bell.Denot g.row.H-Clock.Denot g.row.H-Disk.Denot in
    let board = c.args.board.now in
    let workers = c.args.crew.lines.items in
    let slot = c.args.crew.packer in
    let vectors = c.args.shared.now.nodes.items in
    let slice : c.as_mut_slice.result.now ≡ workers ++ Packer slot ∷ [] = c.as_mut_slice.ensures.value ∙ c.push_reserved.ensures.items in
    let told = (g.H.Host.desk c.args.host.now).readings in
    let lent = c.push_reserved.new.self in
    let after = c.serve.new.workers in
    let all = lent_back lent.items c.as_mut_slice.result.now after lent.len c.as_mut_slice.ensures.value c.serve.auto.workers lent.ok.0 in
    let over = are_over g.H.Door.Door.gate g.H.Bell.Bell.rings g.H.Clock.Clock.readings g.H.Disk.Disk.device told board c.args.calls workers slot c.as_mut_slice.result.now after (length vectors) slice
    c.serve.auto.workers c.requires.lines c.requires.ready c.requires.packer c.serve.ensures.worked c.requires.lists in
    let parts = c.part_packer-targets.ensures.bell in
    let same = left_front g.H.Door.Door.gate g.H.Bell.Bell.rings g.H.Clock.Clock.readings g.H.Disk.Disk.device told board (lines_for board c.args.calls) workers slot after c.part_packer-targets.new.workers.items parts.slot
    over.done (sym all ∙ parts.is) in
    subst (λ (l : List W). All HasDoor l) (sym same.0) (have_doors (lines_for board c.args.calls) over.done.front over.still)

pub part_lines-door_failed-requires-clause-own : goal.part_lines-door_failed-requires-clause-own
part_lines-door_failed-requires-clause-own g c =
    let W : Type 0 = Worker g.row.H-Door.Denot g.row.H-Bell.Denot g.row.H-Clock.Denot g.row.H-Disk.Denot in
    let board = c.args.board.now in
    let workers = c.args.crew.lines.items in
    let slot = c.args.crew.packer in
    let vectors = c.args.shared.now.nodes.items in
    let slice : c.as_mut_slice.result.now ≡ workers ++ Packer slot ∷ [] = c.as_mut_slice.ensures.value ∙ c.push_reserved.ensures.items in
    let told = (g.H.Host.desk c.args.host.now).readings in
    let lent = c.push_reserved.new.self in
    let after = c.serve.new.workers in
    let all = lent_back lent.items c.as_mut_slice.result.now after lent.len c.as_mut_slice.ensures.value c.serve.auto.workers lent.ok.0 in
    let over = are_over g.H.Door.Door.gate g.H.Bell.Bell.rings g.H.Clock.Clock.readings g.H.Disk.Disk.device told board c.args.calls workers slot c.as_mut_slice.result.now after (length vectors) slice
    c.serve.auto.workers c.requires.lines c.requires.ready c.requires.packer c.serve.ensures.worked c.requires.lists in
    let parts = c.part_packer-targets.ensures.bell in
    let fewer = c.part_packer-targets.new.workers.items in
    subst (λ (n : ℕ). HaveOwn n fewer) (sym c.part_packer-targets.ensures.lists)
    (own_most (length vectors) fewer (Packer parts.slot) (subst (λ (l : List W). HaveOwn (length vectors) l) (sym all ∙ parts.is) over.own))

-- each node's pager is there, and there is room for all
pub part_lines-door_failed-requires-clause-room : goal.part_lines-door_failed-requires-clause-room
part_lines-door_failed-requires-clause-room g c =
    let W : Type 0 = Worker g.row.H-Door.Denot g.row.H-Bell.Denot g.row.H-Clock.Denot g.row.H-Disk.Denot in
    let board = c.args.board.now in
    let workers = c.args.crew.lines.items in
    let slot = c.args.crew.packer in
    let vectors = c.args.shared.now.nodes.items in
    let slice : c.as_mut_slice.result.now ≡ workers ++ Packer slot ∷ [] = c.as_mut_slice.ensures.value ∙ c.push_reserved.ensures.items in
    let told = (g.H.Host.desk c.args.host.now).readings in
    let lent = c.push_reserved.new.self in
    let after = c.serve.new.workers in
    let all = lent_back lent.items c.as_mut_slice.result.now after lent.len c.as_mut_slice.ensures.value c.serve.auto.workers lent.ok.0 in
    let over = are_over g.H.Door.Door.gate g.H.Bell.Bell.rings g.H.Clock.Clock.readings g.H.Disk.Disk.device told board c.args.calls workers slot c.as_mut_slice.result.now after (length vectors) slice
    c.serve.auto.workers c.requires.lines c.requires.ready c.requires.packer c.serve.ensures.worked c.requires.lists in
    let parts = c.part_packer-targets.ensures.bell in
    let fewer = c.part_packer-targets.new.workers.items in
    let pages = c.args.crew.node_pages.pages in
    let still = subst (λ (a : List (SharedArea g.row.H-Disk.Denot)). All (IsAtWork a pages board) after) c.as_slice-areas.ensures.value c.serve.ensures.ours in
    let are = left_pagers g.H.Door.Door.gate g.H.Bell.Bell.rings g.H.Clock.Clock.readings g.H.Disk.Disk.device told board c.args.shared.now.areas.items pages c.args.calls workers slot after fewer parts.slot
    over.done over.still (sym all ∙ parts.is) (sym c.requires.of.count ∙ c.requires.pagers.count) still in
    omega (
      arith,
      c.requires.pager_room,
      ap (λ (l : List PagerView). length (with_pagers fewer l)) c.requires.given,
      length-reverse (pagers_of fewer),
      are.count,
      c.requires.of.count,
      c.requires.pagers.count,
    )

pub close_pages-requires : goal.close_pages-requires
close_pages-requires g c =
    let W : Type 0 = Worker g.row.H-Door.Denot g.row.H-Bell.Denot g.row.H-Clock.Denot g.row.H-Disk.Denot in
    let board = c.args.board.now in
    let workers = c.args.crew.lines.items in
    let slot = c.args.crew.packer in
    let vectors = c.args.shared.now.nodes.items in
    let slice : c.as_mut_slice.result.now ≡ workers ++ Packer slot ∷ [] = c.as_mut_slice.ensures.value ∙ c.push_reserved.ensures.items in
    let told = (g.H.Host.desk c.args.host.now).readings in
    let lent = c.push_reserved.new.self in
    let after = c.serve.new.workers in
    let all = lent_back lent.items c.as_mut_slice.result.now after lent.len c.as_mut_slice.ensures.value c.serve.auto.workers lent.ok.0 in
    let over = are_over g.H.Door.Door.gate g.H.Bell.Bell.rings g.H.Clock.Clock.readings g.H.Disk.Disk.device told board c.args.calls workers slot c.as_mut_slice.result.now after (length vectors) slice
    c.serve.auto.workers c.requires.lines c.requires.ready c.requires.packer c.serve.ensures.worked c.requires.lists in
    let parts = c.part_packer-targets.ensures.bell in
    let fewer = c.part_packer-targets.new.workers.items in
    let pages = c.args.crew.node_pages.pages in
    let still = subst (λ (a : List (SharedArea g.row.H-Disk.Denot)). All (IsAtWork a pages board) after) c.as_slice-areas.ensures.value c.serve.ensures.ours in
    subst (ArePagersOf pages) (sym (pagers_all fewer c.args.crew.node_pages.pagers.items c.part_lines-door_failed.new.pagers.items c.requires.given (sym c.part_lines-door_failed.ensures.pagers)))
    (left_pagers g.H.Door.Door.gate g.H.Bell.Bell.rings g.H.Clock.Clock.readings g.H.Disk.Disk.device told board c.args.shared.now.areas.items pages c.args.calls workers slot after fewer parts.slot
    over.done over.still (sym all ∙ parts.is) (sym c.requires.of.count ∙ c.requires.pagers.count) still)

pub returns-clause-worked : goal.returns-clause-worked
returns-clause-worked g c =
    let W : Type 0 = Worker g.row.H-Door.Denot g.row.H-Bell.Denot g.row.H-Clock.Denot g.row.H-Disk.Denot in
    let board = c.args.board.now in
    let workers = c.args.crew.lines.items in
    let slot = c.args.crew.packer in
    let vectors = c.args.shared.now.nodes.items in
    let slice : c.as_mut_slice.result.now ≡ workers ++ Packer slot ∷ [] = c.as_mut_slice.ensures.value ∙ c.push_reserved.ensures.items in
    let told = (g.H.Host.desk c.args.host.now).readings in
    let lent = c.push_reserved.new.self in
    let after = c.serve.new.workers in
    let all = lent_back lent.items c.as_mut_slice.result.now after lent.len c.as_mut_slice.ensures.value c.serve.auto.workers lent.ok.0 in
    let over = are_over g.H.Door.Door.gate g.H.Bell.Bell.rings g.H.Clock.Clock.readings g.H.Disk.Disk.device told board c.args.calls workers slot c.as_mut_slice.result.now after (length vectors) slice
    c.serve.auto.workers c.requires.lines c.requires.ready c.requires.packer c.serve.ensures.worked c.requires.lists in
    let parts = c.part_packer-targets.ensures.bell in
    let rows = lists_of vectors in
    let many = length-lists_of vectors in
    let fewer = c.part_packer-targets.new.workers.items in
    let pages = c.args.crew.node_pages.pages in
    let between = sym c.requires.of.count ∙ c.requires.pagers.count in
    let still = subst (λ (a : List (SharedArea g.row.H-Disk.Denot)). All (IsAtWork a pages board) after) c.as_slice-areas.ensures.value c.serve.ensures.ours in
    let back = pagers_all fewer c.args.crew.node_pages.pagers.items c.part_lines-door_failed.new.pagers.items c.requires.given (sym c.part_lines-door_failed.ensures.pagers) in
    let paged : HasPaged board.nodes (pagers_of workers) (pagers_of fewer)
    = record {
      pages = pages;
      between = between;
      made = c.requires.pagers;
      are = left_pagers g.H.Door.Door.gate g.H.Bell.Bell.rings g.H.Clock.Clock.readings g.H.Disk.Disk.device told board c.args.shared.now.areas.items pages c.args.calls workers slot after fewer parts.slot
          over.done over.still (sym all ∙ parts.is) between still;
      unread = c.close_pages.result.items;
      closed = subst (λ (l : List PagerView). PagesInOrder l board.nodes c.close_pages.result.items) back
          (subst (λ (n : ℕ). PagesInOrder (reverse c.part_lines-door_failed.new.pagers.items) n c.close_pages.result.items) between c.close_pages.ensures);
    } in
    let there : (last : PackSlot g.row.H-Bell.Denot g.row.H-Clock.Denot g.row.H-Disk.Denot) → last ≡ parts.slot → All IsSome last.targets.items
    = λ last is. subst (λ (s : PackSlot g.row.H-Bell.Denot g.row.H-Clock.Denot g.row.H-Disk.Denot). All IsSome s.targets.items) (sym is)
    (packer_at_work c.args.shared.now.areas.items pages board fewer parts.slot (subst (λ (l : List W). All (IsAtWork c.args.shared.now.areas.items pages board) l) (sym all ∙ parts.is) still)) in
    let device = g.H.Disk.Disk.device in
    let same = left_front g.H.Door.Door.gate g.H.Bell.Bell.rings g.H.Clock.Clock.readings device told board (lines_for board c.args.calls) workers slot after fewer parts.slot
    over.done (sym all ∙ parts.is) in (
      targets_of device slot over.done.last,
      shows_all device slot.targets.items c.requires.packer.targets.there,
      ap (λ (l : List (Option g.row.H-Disk.Denot)). map (option_map device) l) (parts.left ∙ ap (λ (s : PackSlot g.row.H-Bell.Denot g.row.H-Clock.Denot g.row.H-Disk.Denot). s.targets.items) same.1)
          ∙ shows_all device over.done.last.targets.items (there over.done.last (sym same.1)),
      ends_work g.H.Door.Door.gate g.H.Bell.Bell.rings g.H.Clock.Clock.readings g.H.Disk.Disk.device told board c.args.calls workers slot after c.part_packer-targets.new.workers.items parts.slot
          rows (lists_of c.part_lines-door_failed.new.nodes.items) (g.H.Host.desk c.args.host.now) (g.H.Host.desk c.part_packer-targets.new.host) (g.H.Host.desk c.part_lines-door_failed.new.host) c.part_lines-door_failed.result
          over.done c.requires.lines c.requires.packer (sym all ∙ parts.is) parts.back c.part_lines-door_failed.ensures.doors c.part_lines-door_failed.ensures.failed
          (c.part_lines-door_failed.ensures.rows ∙ c.part_packer-targets.ensures.rows ∙ ap (λ (l : List W). with_passes l rows) all) (many ∙ c.requires.lists)
          (crew_own board c.args.calls workers slot (length rows) c.requires.lines (many ∙ c.requires.lists) c.requires.packer.number)
          (subst (λ (n : ℕ). HaveOwn n after) (sym many) over.own) there paged,
    )

-- the targets are all there
pub returns-clause-there : goal.returns-clause-there
returns-clause-there g c =
    let W : Type 0 = Worker g.row.H-Door.Denot g.row.H-Bell.Denot g.row.H-Clock.Denot g.row.H-Disk.Denot in
    let areas = c.args.shared.now.areas.items in
    let lent = c.push_reserved.new.self in
    let after = c.serve.new.workers in
    let all = lent_back lent.items c.as_mut_slice.result.now after lent.len c.as_mut_slice.ensures.value c.serve.auto.workers lent.ok.0 in
    let parts = c.part_packer-targets.ensures.bell in
    let pages = c.args.crew.node_pages.pages in
    let still = subst (λ (a : List (SharedArea g.row.H-Disk.Denot)). All (IsAtWork a pages c.args.board.now) after) c.as_slice-areas.ensures.value c.serve.ensures.ours in
    subst (λ (l : List (Option g.row.H-Disk.Denot)). All IsSome l) (sym parts.left)
    (packer_at_work areas pages c.args.board.now c.part_packer-targets.new.workers.items parts.slot (subst (λ (l : List W). All (IsAtWork areas pages c.args.board.now) l) (sym all ∙ parts.is) still))

pub returns-clause-ours : goal.returns-clause-ours
returns-clause-ours g c =
    let W : Type 0 = Worker g.row.H-Door.Denot g.row.H-Bell.Denot g.row.H-Clock.Denot g.row.H-Disk.Denot in
    let board = c.args.board.now in
    let workers = c.args.crew.lines.items in
    let slot = c.args.crew.packer in
    let vectors = c.args.shared.now.nodes.items in
    let slice : c.as_mut_slice.result.now ≡ workers ++ Packer slot ∷ [] = c.as_mut_slice.ensures.value ∙ c.push_reserved.ensures.items in
    let told = (g.H.Host.desk c.args.host.now).readings in
    let lent = c.push_reserved.new.self in
    let after = c.serve.new.workers in
    let all = lent_back lent.items c.as_mut_slice.result.now after lent.len c.as_mut_slice.ensures.value c.serve.auto.workers lent.ok.0 in
    let over = are_over g.H.Door.Door.gate g.H.Bell.Bell.rings g.H.Clock.Clock.readings g.H.Disk.Disk.device told board c.args.calls workers slot c.as_mut_slice.result.now after (length vectors) slice
    c.serve.auto.workers c.requires.lines c.requires.ready c.requires.packer c.serve.ensures.worked c.requires.lists in
    let rows = lists_of vectors in
    let many = length-lists_of vectors in
    let areas = c.args.shared.now.areas.items in
    let pages = c.args.crew.node_pages.pages in
    let still : All (IsAtWork areas pages board) after
    = subst (λ (a : List (SharedArea g.row.H-Disk.Denot)). All (IsAtWork a pages board) after) c.as_slice-areas.ensures.value c.serve.ensures.ours in
    let end = over.done.front ++ Packer over.done.last ∷ [] in
    subst (AreAllOf areas)
    (sym (c.part_lines-door_failed.ensures.rows ∙ c.part_packer-targets.ensures.rows ∙ ap (λ (l : List W). with_passes l rows) (all ∙ over.done.is)))
    (all_of_still areas pages board c.args.calls over.done.front (Packer over.done.last) rows over.still (over.done.packer_done.node ∙ c.requires.packer.number) (many ∙ c.requires.lists)
    (subst (λ (n : ℕ). HaveOwn n end) (sym many) (subst (λ (l : List W). HaveOwn (length vectors) l) over.done.is over.own))
    (subst (λ (l : List W). All (IsAtWork areas pages board) l) over.done.is still))
