use Rattle.std.proofs.Common.{◌≡◌, ap, sym, ◌∙◌, true, Some, [], arith}
use Rattle.std.specs.Prelude.{bytes_eq}
use Rattle.jb_host.specs.declared.page.Page.{Page}
use Rattle.jb_host.proofs.Paging.{written-first, written-none}
use Rattle.jb_host.proofs.page.bytes_at.Goals as goal

pub returns-then-eq-clause-found : goal.returns-then-eq-clause-found
returns-then-eq-clause-found c =
    let path = c.args.path.now in
    let page : Page = c.index-pages-k.result in
    let is : bytes_eq path page.path ≡ true = ap (λ p. bytes_eq path p) (sym c.as_slice.ensures) ∙ sym c.if-eq.ensures in
    written-first path c.args.pages.now c.loop-k.k page c.loop-k-test.true (ap (λ (p : Page). bytes_eq path p.path) (sym c.index-pages-k.is) ∙ is)
    (λ j low. c.loop-k.invariant j page low)
    ∙ ap (λ (p : Page). Some p.bytes) (sym c.index-pages-k.is) ∙ ap (λ b. Some b) (sym c.as_slice-then-eq.ensures)

pub returns-clause-none : goal.returns-clause-none
returns-clause-none c =
    let d : Page = record { path = []; bytes = [] } in
    written-none c.args.path.now c.args.pages.now d (λ k low. c.loop-k.invariant k d (omega (arith, low, c.loop-k-test.false)))
