-- Areas that are closed with no call: their disks are left as their files opened.
use Rattle.std.proofs.Common.{◌≡◌, ℕ, ◌+◌, ◌<◌, Bool, false, List, [], length, sym, ap, subst, ◌∙◌, arith}
use Rattle.std.specs.Prelude.{slice_index_or}
use Rattle.std.proofs.lemmas.Option.{same_Some}
use Rattle.jb_base.specs.declared.area.AreaRules.{AreaRules}
use Rattle.jb_conf.specs.declared.board.BoardArea.{BoardArea}
use Rattle.jb_disk.specs.Device.{Device}
use Rattle.jb_host.specs.Desk.{Desk}
use Rattle.jb_model.specs.declared.entry.Entry.{Entry}
use Rattle.jb_shared.specs.Passes.{Known, PassView, first_known}
use Rattle.jb_shared.specs.declared.opening.Opening.{Opening}
use Rattle.jb_run.specs.All.{Abandons, ClosesAll, OpenAs}
use Rattle.jb_run.specs.Lives.{Ends, KeepsArea, LeavesArea, GoesOnFrom}
use Rattle.jb_run.proofs.EndLemmas.{known_here}
use Rattle.jb_run.proofs.WholeLemmas.{nobody}

-- what is closed with no call is left as it was opened
keeps_area : (by : AreaRules) (before after : Device) (opening : Opening) (row : List PassView) (is_doubtful : Bool)
    → GoesOnFrom by before opening → ((n : ℕ) → n < length row → (slice_index_or row n nobody).known ≡ first_known (n + 1) opening) → Ends row is_doubtful after → KeepsArea by before after
keeps_area by before after opening row is_doubtful opens fresh ends =
    let longest = ends.longest in
    let place = known_here row longest.0 longest.1 in
    let is : longest.0 ≡ first_known (place.0 + 1) opening = sym place.2 ∙ fresh place.0 place.1 in
    let same : opening ≡ ends.opening = same_Some opening ends.opening (sym (ap (λ (k : Known). k.opening) is) ∙ (ends.each longest.0 longest.1).from) in
    let nothing : ends.history ≡ [] = sym longest.2 ∙ ap (λ (k : Known). k.front) is in
    let settled : LeavesArea ends.opening [] is_doubtful after = subst (λ (h : List Entry). LeavesArea ends.opening h is_doubtful after) nothing ends.leaves in
    record {
      opening = ends.opening;
      opens = subst (GoesOnFrom by before) same opens;
      leaves = subst (λ (b : Bool). LeavesArea ends.opening [] b after) settled.stopped settled;
    }

-- areas of which no node has seen anything are closed
pub abandons : (areas : List BoardArea) (nodes : List (List PassView)) (old new : Desk) (is_doubtful : Bool) → ClosesAll areas nodes old new is_doubtful
    → (befores : List Device) (openings : List Opening) → OpenAs areas befores openings nodes → Abandons areas befores old new
abandons areas nodes old new is_doubtful closes befores openings opens = record {
  afters = closes.afters;
  back = closes.back;
  kept = λ k area before after within.
      let end = closes.ends k false after within in
      let row = end.0 in
      let column = end.1 in
      let opening = end.2.opening in
      keeps_area (slice_index_or areas k area).rules (slice_index_or befores k before) (slice_index_or closes.afters k after) (slice_index_or openings k opening)
      row (slice_index_or closes.doubts k false) (opens.opens k area before opening within)
      (λ n here. ap (λ (p : PassView). p.known) (column.each n nobody (omega (arith, here, column.count))) ∙ opens.fresh n k nobody opening (omega (arith, here, column.count)) within)
      end.2;
}
