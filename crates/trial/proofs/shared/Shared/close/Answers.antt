use Rattle.std.proofs.Common.{◌≡◌, Bool, true, false, List, ◌++◌, All, subst, sym, ◌∙◌}
use Rattle.std.specs.Prelude.{if◌then◌else◌, is_ok}
use Rattle.std.proofs.lemmas.List.Elements.{All-append, All-drop, All-same, All-take}
use Rattle.jb_shared.specs.Areas.{IsOf}
use Rattle.trial.proofs.shared.Shared.close.Goals as goal

-- what holds of both holds where the second was appended and where it was not
appended : {A : Type 0} (P : A → Type 0) (done : Bool) (all front behind : List A) → all ≡ (if done then front ++ behind else front) → All P front → All P behind → All P all
appended P true all front behind is one two = All-same P all _ is (All-append P front behind one two)
appended P false all front behind is one two = All-same P all _ is one

pub invariant_of-result-in-Err : goal.invariant_of-result-in-Err
invariant_of-result-in-Err g c =
    let kept = c.in-Err.ensures.kept in
    let was = c.self.inside.area in
    let front = All-same (IsOf was) c.in-Err.passes.items _ (kept.1 ∙ c.in-Ok.ensures.items) (All-take (IsOf was) _ _ c.self.invariant) in
    let behind = All-same (IsOf was) c.in-Ok.kept.items _ c.in-Ok.ensures.tail (All-drop (IsOf was) _ _ c.self.invariant) in
    subst (λ area. All (IsOf area) c.append.new.self.items) (sym kept.0)
    (appended (IsOf was) (is_ok c.append.result) c.append.new.self.items c.in-Err.passes.items c.in-Ok.kept.items c.append.ensures.items front behind)
