use Rattle.std.proofs.Common.{◌≡◌, ◌∙◌, ℕ, subst, sym}
use Rattle.std.proofs.lemmas.Result.{IfOk-weaker}
use Rattle.jb_link.proofs.KeptLemmas.{pairs_sorted}
use Rattle.jb_link.specs.Kept.{IsKeptList}
use Rattle.jb_tiered.specs.Tiered.{TieredList}
use Rattle.jb_link.proofs.kept.ordered.Goals as goal

pub returns : goal.returns
returns c =
    let sorted = pairs_sorted _ _ _ c.in_ok-pairs.ensures c.sort_unstable.ensures.permutation c.sort_unstable.ensures.sorted in
    IfOk-weaker c.copy.result (λ (list : TieredList (ℕ × ℕ)). list.items ≡ c.deref.result.now) (λ (list : TieredList (ℕ × ℕ)). IsKeptList c.args.loaded.now list.items)
    (λ list same. subst (λ pairs. IsKeptList c.args.loaded.now pairs) (sym (same ∙ c.deref.ensures.value)) sorted) c.copy.ensures
