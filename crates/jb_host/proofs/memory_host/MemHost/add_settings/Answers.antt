use Rattle.std.proofs.Common.{ap, ◌∙◌, Some}
use Rattle.jb_host.specs.declared.page.Page.{Page}
use Rattle.jb_host.specs.Desk.{Pages}
use Rattle.jb_host.specs.Shelves.{memory_desk, pages_written}
use Rattle.jb_host.proofs.Paging.{written-push}
use Rattle.jb_host.proofs.memory_host.MemHost.add_settings.Goals as goal

pub returns-clause-ok : goal.returns-clause-ok
returns-clause-ok c =
    let old = c.args.self.now in
    let page : Page = record { path = c.in_ok-path.path; bytes = c.args.bytes } in
    let pages = ap pages_written c.in_ok-push.ensures.items ∙ written-push c.args.path.now old.pages.items page (c.in_ok-path.ensures ∙ c.as_bytes.ensures.value) in
    ap (λ (p : Pages). record (memory_desk old) { settings = Some p }) pages
