-- What is known of a state that is out, with one entry more.
use Rattle.std.proofs.Common.{◌≡◌, ◌+◌, List, [], ◌∷◌, ◌++◌, length, Option, Some, None, Result, Ok, Err, IfErr, OnErr, OnOk, refl, sym, ◌∙◌, ap, subst}
use Rattle.jb_model.specs.History.{calls_of}
use Rattle.jb_model.specs.declared.entry.Entry.{Entry}
use Rattle.jb_publish.specs.declared.known.PairMark.{PairMark}
use Rattle.jb_turn.specs.Rows.{StandsFrom, is_at, when}
use Rattle.jb_turn.specs.Steps.{noted}
use Rattle.jb_turn.proofs.Histories.{calls_snoc}
use Rattle.jb_shared.specs.InTurn.{Knows, SeatRow}
use Rattle.jb_shared.specs.Standing.{caller_of}
use Rattle.jb_shared.specs.declared.opening.Opening.{Opening}
use Rattle.jb_shared.specs.declared.shown.ShownArea.{ShownArea}
use Rattle.jb_shared.proofs.HistoryLemmas.{calls_are}

-- what is said of a call that was done goes on to what follows from it
pub on_ok_then : {T E : Type 0} (result : Result T E) (P R : Type 0) → OnOk result P → (P → R) → OnOk result R
on_ok_then (Ok value) P R is then = then is
on_ok_then (Err error) P R is then = tt

-- what is said of a call that was done, where it was done
pub ok_gives : {T E : Type 0} (result : Result T E) (value : T) (P : Type 0) → result ≡ Ok value → OnOk result P → P
ok_gives {T} {E} result value P is claim = subst (λ (r : Result T E). OnOk r P) is claim

-- what is said of how a call failed, where it failed so
pub err_gives : {T E : Type 0} (result : Result T E) (error : E) (P : E → Type 0) → result ≡ Err error → IfErr result P → P error
err_gives {T} {E} result error P is claim = subst (λ (r : Result T E). IfErr r P) is claim

-- what holds in any case is said of each answer
pub on_ok : {T E : Type 0} (result : Result T E) (P : Type 0) → P → OnOk result P
on_ok (Ok value) P is = is
on_ok (Err error) P is = tt

pub on_err : {T E : Type 0} (result : Result T E) (P : Type 0) → P → OnErr result P
on_err (Ok value) P is = tt
on_err (Err error) P is = is

module _ {D : Type 0} where
  -- an opening is known
  pub mark_known : (P : ShownArea D → PairMark Opening → List Entry → Type 0) (mark : Option (PairMark Opening)) (state : ShownArea D) (history : List Entry) → StandsFrom P mark state history
      → (first : PairMark Opening) × (mark ≡ Some first) × P state first history
  mark_known P None state history none = absurd none
  mark_known P (Some first) state history here = (first, refl, here)

module _ {D : Type 0} (P Q : ShownArea D → PairMark Opening → List Entry → Type 0) where
  -- from what stood for one history to what stands for another, whatever the mark is
  pub stands_to : (mark : Option (PairMark Opening)) (old new : ShownArea D) (before after : List Entry) → ((first : PairMark Opening) → P old first before → Q new first after) → StandsFrom P mark old before → StandsFrom Q mark new after
  stands_to None old new before after step none = none
  stands_to (Some first) old new before after step here = step first here

  -- the number of the node's next call
  pub next_number : (state : ShownArea D) (known : SeatRow) → Knows P state known → length known.mine + 1 ≡ length (calls_of known.node known.front) + 1
  next_number state known knows = ap (λ (l : List Entry). length l + 1) (sym knows.own ∙ calls_are known.node known.front)

  -- an entry that is noted stands among the node's calls where it is one
  pub knows_noted : (old new : ShownArea D) (known known' : SeatRow) (entry : Entry) → known' ≡ noted caller_of known entry → Knows P old known
      → ((first : PairMark Opening) → P old first known.front → Q new first (known.front ++ entry ∷ [])) → Knows Q new known'
  knows_noted old new known known' entry is knows step = subst (λ (k : SeatRow). Knows Q new k) (sym is) record {
    stands_for = stands_to known.opening old new known.front (known.front ++ entry ∷ []) step knows.stands_for;
    own = calls_snoc caller_of known.node known.front entry ∙ ap (λ (l : List Entry). l ++ when (is_at known.node (caller_of entry)) entry) knows.own;
  }

  -- nothing is recorded
  pub knows_still : (old new : ShownArea D) (known : SeatRow) → Knows P old known → ((first : PairMark Opening) → P old first known.front → Q new first known.front) → Knows Q new known
  knows_still old new known knows step = record { stands_for = stands_to known.opening old new known.front known.front step knows.stands_for; own = knows.own }
