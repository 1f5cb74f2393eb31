-- The pages of a host in memory: which is found, and what one more changes.
use Rattle.std.proofs.Common.{◌≡◌, ℕ, zero, suc, ◌<◌, Bool, true, false, List, [], ◌∷◌, ◌++◌, length, ap, ◌∙◌, refl, arith}
use Rattle.std.specs.Prelude.{bytes_eq, slice_index_or, if◌then◌else◌, Option, Some, None}
use Rattle.jb_host.specs.declared.page.Page.{Page}
use Rattle.jb_host.specs.Desk.{or_page, with_page_behind}
use Rattle.jb_host.specs.Shelves.{pages_written}

-- the first page with a path tells
pub written-first : (path : List ℕ) (pages : List Page) (k : ℕ) (d : Page) → k < length pages
    → bytes_eq path (slice_index_or pages k d).path ≡ true → ((j : ℕ) → j < k → bytes_eq path (slice_index_or pages j d).path ≡ false)
    → pages_written pages path ≡ Some (slice_index_or pages k d).bytes
written-first path [] k d within is before = absurd (omega arith)
written-first path (page ∷ pages) zero d within is before = ap (λ (b : Bool). if b then Some page.bytes else pages_written pages path) is
written-first path (page ∷ pages) (suc k) d within is before =
    ap (λ (b : Bool). if b then Some page.bytes else pages_written pages path) (before 0 (omega arith))
    ∙ written-first path pages k d (omega arith) is (λ j low. before (suc j) (omega arith))

-- no page has a path
pub written-none : (path : List ℕ) (pages : List Page) (d : Page) → ((k : ℕ) → k < length pages → bytes_eq path (slice_index_or pages k d).path ≡ false)
    → pages_written pages path ≡ None
written-none path [] d none = refl
written-none path (page ∷ pages) d none =
    ap (λ (b : Bool). if b then Some page.bytes else pages_written pages path) (none 0 (omega arith)) ∙ written-none path pages d (λ k low. none (suc k) (omega arith))

-- a page with another behind it
page_further : (first : Bool) (bytes : List ℕ) (rest more behind : Option (List ℕ)) → more ≡ or_page rest behind
    → (if first then Some bytes else more) ≡ or_page (if first then Some bytes else rest) behind
page_further true bytes rest more behind is = refl
page_further false bytes rest more behind is = is

-- one page more, behind the others
written-behind : (path : List ℕ) (pages : List Page) (page : Page) (other : List ℕ) → page.path ≡ path
    → pages_written (pages ++ page ∷ []) other ≡ with_page_behind path page.bytes (pages_written pages) other
written-behind path [] page other same = ap (λ (p : List ℕ). if bytes_eq other p then Some page.bytes else None) same
written-behind path (first ∷ pages) page other same =
    page_further (bytes_eq other first.path) first.bytes (pages_written pages other) (pages_written (pages ++ page ∷ []) other)
    (if bytes_eq other path then Some page.bytes else None) (written-behind path pages page other same)

-- the same, of all paths at once
pub written-push : (path : List ℕ) (pages : List Page) (page : Page) → page.path ≡ path → pages_written (pages ++ page ∷ []) ≡ with_page_behind path page.bytes (pages_written pages)
written-push path pages page same = λ i. λ other. written-behind path pages page other same i
