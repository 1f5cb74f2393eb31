-- That what a node's pager has sent and taken is what was asked of it.
use Rattle.std.specs.Prelude.{◌≡◌, ℕ, ◌+◌, ◌==◌, ◌<◌, ◌≤◌, Bool, true, false, List, [], ◌∷◌, ◌++◌, length, Option, Some, None, Ok, Err, if◌then◌else◌}
use Rattle.std.specs.List.{flat_map}
use Rattle.std.specs.Option.{option_to_list}
use Rattle.jb_state.specs.declared.short.Short.{Short}
use Rattle.jb_menu.specs.declared.given.Given.{Given}
use Rattle.jb_menu.specs.declared.given.Given.TheVariants as given
use Rattle.jb_page.specs.Pagers.{PagerView, page, row_at}
use Rattle.jb_page.specs.Rows.{row}
use Rattle.jb_page.specs.declared.view.Row.{Row}
use Rattle.jb_page.specs.declared.page.Page.{Page}
use Rattle.jb_page.specs.declared.page.PageError.TheVariants.{Full}
use Rattle.jb_speech.specs.declared.request.AreaRequest.{AreaRequest}
use Rattle.jb_speech.specs.declared.request.Request.{Request}
use Rattle.jb_speech.specs.declared.request.Request.TheVariants.{Send, Take}
use Rattle.jb_base.specs.declared.user.User.{User}
use Rattle.jb_session.specs.Exchanges.{Exchange, NodeState, Passed, PassedLast, text_sent}

-- a send that was not refused as spent: the node, the text, and whether the page was put
pub record Sending : Type 0 where
  pub to : ℕ
  pub text : Short 72
  pub put : Bool

abbrev pub sending_of : Request → Given → List Sending
sending_of (Send to text) (given.Sent (Ok _)) = record { to = to; text = text_sent text; put = true } ∷ []
sending_of (Send to text) (given.Sent (Err (Full n))) = record { to = to; text = text_sent text; put = false } ∷ []
sending_of _ _ = []

-- those of all of these, in order
abbrev pub sendings_of : List Exchange → List Sending
sendings_of exchanges = flat_map (λ exchange. sending_of exchange.request exchange.given) exchanges

-- what was answered to the sends to this node
abbrev pub answers_from : ℕ → List Sending → List Bool
answers_from node [] = []
answers_from node (one ∷ sendings) = (if one.to == node then one.put ∷ [] else []) ++ answers_from node sendings

-- the pages that were put there, by a pager with this number, the next of which has the serial number behind this one
abbrev pub pages_from : ℕ → ℕ → ℕ → List Sending → List Page
pages_from number count node [] = []
pages_from number count node (one ∷ sendings) =
    if one.put then (if one.to == node then page number (count + 1) one.text ∷ [] else []) ++ pages_from number (count + 1) node sendings
    else pages_from number count node sendings

-- how many pages were put
abbrev pub put_count : List Sending → ℕ
put_count [] = 0
put_count (one ∷ sendings) = if one.put then put_count sendings + 1 else put_count sendings

-- what was answered to a take
abbrev pub taking_of : Request → Given → List (Option Page)
taking_of Take (given.Page taken) = taken ∷ []
taking_of _ _ = []

abbrev pub takings_of : List Exchange → List (Option Page)
takings_of exchanges = flat_map (λ exchange. taking_of exchange.request exchange.given) exchanges

-- of all queues these are for the one of this node alone
abbrev pub only_at : {T : Type 0} → ℕ → ℕ → List T → List T
only_at own node xs = if own == node then xs else []

-- what a pager with this number, that has sent so many pages, did at the queue of this node, behind these sends and takes
abbrev pub row_after : ℕ → ℕ → ℕ → List Sending → List (Option Page) → Row → Row
row_after number count node sendings takings r = row r.pager (r.sent ++ pages_from number count node sendings) (r.answers ++ answers_from node sendings)
    (r.taken ++ only_at number node (flat_map option_to_list takings)) (r.given ++ only_at number node takings)

-- what the pager tells more than before is just that
pub record TellsPages (exchanges : List Exchange) (from to : PagerView) : Type 0 where
  pub number : to.number ≡ from.number
  pub queues : to.queues ≡ from.queues
  pub rows : length to.rows ≡ length from.rows
  pub count : to.count ≡ from.count + put_count (sendings_of exchanges)
  pub tells : (node : ℕ) → 0 < node → node ≤ length from.rows
      → row_at node to ≡ row_after from.number from.count node (sendings_of exchanges) (takings_of exchanges) (row_at node from)

-- through whatever is asked of a node
abbrev pub PagesAreAsked : Type 0
PagesAreAsked = (user_of : AreaRequest → Option User) (exchanges : List Exchange) (last : Option Request) (from mid to : NodeState) (pager : PagerView)
    → Passed user_of from exchanges mid → PassedLast user_of mid last to → from.pager ≡ Some pager
    → 0 < pager.number → pager.number ≤ length pager.rows
    → (after : PagerView) × (to.pager ≡ Some after) × TellsPages exchanges pager after

-- and through what is asked of it after that
abbrev pub PagesGoOn : Type 0
PagesGoOn = (exchanges later : List Exchange) (from mid to : PagerView)
    → TellsPages exchanges from mid → TellsPages later mid to → TellsPages (exchanges ++ later) from to

-- a node without a pager gets none
abbrev pub NoPagerComes : Type 0
NoPagerComes = (user_of : AreaRequest → Option User) (exchanges : List Exchange) (last : Option Request) (from mid to : NodeState)
    → Passed user_of from exchanges mid → PassedLast user_of mid last to → from.pager ≡ None → to.pager ≡ None
