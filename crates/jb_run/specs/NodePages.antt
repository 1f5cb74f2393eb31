-- The pages of a run: a pager for each node, used by who serves there, and all closed behind the workers.
use Rattle.std.specs.Prelude.{◌≡◌, ℕ, ◌+◌, ◌-◌, ◌<◌, All, List, length, Option, slice_get, slice_index_or}
use Rattle.jb_page.specs.Closing.{PagesInOrder}
use Rattle.jb_page.specs.Pagers.{AreNewPagers, IsPagerOf, PagerView, PagesView}
use Rattle.jb_page.specs.declared.page.Page.{Page}
use Rattle.jb_run.specs.Lines.{Line}

-- the pager of the node of a line; the line of news has none
abbrev pub pager_of : List PagerView → Line → Option PagerView
pager_of pagers line = slice_get pagers (line.node - 1)

-- one pager of these pages for each node, in order
pub record ArePagersOf (pages : PagesView) (pagers : List PagerView) : Type 0 where
  pub count : length pagers ≡ pages.nodes
  pub of : All (IsPagerOf pages) pagers
  pub numbers : (i : ℕ) (absent : PagerView) → i < pages.nodes → (slice_index_or pagers i absent).number ≡ i + 1

-- the pages between so many nodes: each had a new pager, and when all are closed every page that was put was taken or is unread
pub record HasPaged (nodes : ℕ) (pagers pagers_after : List PagerView) : Type 0 where
  pub pages : PagesView
  pub between : pages.nodes ≡ nodes
  pub made : AreNewPagers nodes pagers
  pub are : ArePagersOf pages pagers_after
  pub unread : List Page
  pub closed : PagesInOrder pagers_after nodes unread
