-- What a change makes of an area, as what it brings.
use Rattle.std.proofs.Common.{◌≡◌, ℕ, List, ◌++◌, length, take, Option, ap, ◌∙◌, arith}
use Rattle.std.proofs.lemmas.List.{take_all, take-append-le}
use Rattle.jb_change.specs.Makes.{Makes}
use Rattle.jb_disk.specs.RedoView.{RedoView}
use Rattle.jb_state.specs.declared.loaded.Loaded.{Loaded}
use Rattle.jb_pack.specs.Shadow.{Shadow}
use Rattle.jb_decide.specs.Coming.{BringsComing}

-- with these bytes behind the texts
pub brings : (change : RedoView) (from to : Loaded) (texts text : List ℕ) (copies : Option Shadow) → Makes change from to text
    → BringsComing change from texts copies (record { to = to; texts = texts ++ text })
brings change from to texts text copies makes = record {
  legal = λ files has. makes.legal files has.holds.loads;
  grown = λ files has. makes.grown files has.holds.loads;
  made = λ files has. record {
    loads = (makes.made files has.holds.loads).loads;
    texts_are = (makes.made files has.holds.loads).texts ∙ ap (λ (t : List ℕ). t ++ text) has.holds.texts_are;
  };
}

-- texts that stay begin with themselves
pub keeps_same : (texts : List ℕ) → take (length texts) texts ≡ texts
keeps_same texts = take_all (length texts) texts (omega arith)

-- and so do texts with others behind them
pub keeps_more : (texts text : List ℕ) → take (length texts) (texts ++ text) ≡ texts
keeps_more texts text = take-append-le (length texts) texts text (omega arith) ∙ keeps_same texts
