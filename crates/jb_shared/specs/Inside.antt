-- How a pass is held.
use Rattle.std.specs.Prelude.{◌≡◌, true, is_some, Option, Some, None, []}
use Rattle.jb_model.specs.declared.entry.Entry.{Entry}
use Rattle.jb_publish.specs.Accounts.{Account, account_of}
use Rattle.jb_publish.specs.Marks.{book_at, opening_at}
use Rattle.jb_publish.specs.declared.known.PairMark.{PairMark}
use Rattle.jb_turn.specs.Seats.{resting_row, resting_turn}
use Rattle.jb_turn.specs.declared.view.Row.{Row}
use Rattle.jb_shared.specs.Passes.{Known, PassView}
use Rattle.jb_shared.specs.declared.opening.Opening.{Opening}
use Rattle.jb_shared.specs.declared.parts.Parts.{Parts}
use Rattle.jb_shared.specs.declared.pass.Pass.TheInside.{Inside}
use Rattle.jb_shared.specs.declared.refusal.Refusal.{Refusal}

-- what is known by a row of the turn and by a reader's account
abbrev pub known_by_both : Row (PairMark Opening) Entry Refusal → Account Opening Entry → Known
known_by_both row account = record {
  node = row.node;
  opening = opening_at row.opening;
  front = row.front;
  mine = row.mine;
  refused = row.remarks;
  shown = account.shown;
  looks = account.looks;
  barred = account.barred;
}

-- what a pass of these parts knows
abbrev pub known_in : Parts → Known
known_in parts = known_by_both (resting_row parts.seat) (account_of parts.reader)

-- the pass of these parts
abbrev pub pass_with : Parts → PassView
pass_with parts = record { area = Some (record { turn = resting_turn parts.seat; book = book_at (resting_row parts.seat).opening }); known = known_in parts }

-- the pass of these parts; nobody's where they are away
abbrev pub pass_of : Option Parts → PassView
pass_of None = record { area = None; known = record { node = 0; opening = None; front = []; mine = []; refused = []; shown = []; looks = []; barred = 0 } }
pass_of (Some parts) = pass_with parts

-- the pass that is held so
abbrev pub pass_in : Inside → PassView
pass_in held = pass_of held.parts

-- the parts are there
abbrev pub HasParts : Inside → Type 0
HasParts held = is_some held.parts ≡ true
