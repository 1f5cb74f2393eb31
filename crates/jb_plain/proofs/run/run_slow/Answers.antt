use Rattle.std.proofs.Common.{◌≡◌, ℕ, ◌+◌, List, [], ◌∷◌, ◌++◌, drop, sym, ◌∙◌, ap, subst, append_assoc}
use Rattle.std.proofs.lemmas.List.{at_drop_more}
use Rattle.jb_model.specs.Answered.{Answered}
use Rattle.jb_model.specs.Run.{Ran, run_of}
use Rattle.jb_state.specs.State.{AreaState}
use Rattle.jb_model.specs.Step.{step}
use Rattle.jb_state.specs.Tight.{tight_state}
use Rattle.jb_model.specs.declared.command.Asked.{Asked}
use Rattle.jb_model.specs.declared.reply.Reply.{Reply}
use Rattle.jb_plain.specs.Seen.{seen_state}
use Rattle.jb_plain.specs.Small.{AreSmall}
use Rattle.jb_plain.proofs.SeenLaws.{answer}
use Rattle.jb_plain.proofs.SmallLaws.{small_range, small_step}
use Rattle.jb_plain.proofs.run.run_slow.Goals as goal

pub loop-asked-init : goal.loop-asked-init
loop-asked-init c =
    let rules = c.args.rules.now in
    let list : List Asked = c.args.list.now in
    let P : AreaState → Type 0 = λ s. AreSmall s.slots in
    record {
      small = subst P (sym c.of-state.ensures) (small_range (tight_state c.args.area).slots c.requires.each);
      replies =
          ap (λ (l : List Reply). l ++ (run_of rules (seen_state c.of-state.result) list).replies) c.new-replies.ensures.items
          ∙ ap (λ (s : AreaState). (run_of rules s list).replies) c.of-state.ensures;
      state = ap (λ (s : AreaState). (run_of rules s list).state) c.of-state.ensures;
    }

pub loop-asked-preserved : goal.loop-asked-preserved
loop-asked-preserved c =
    let rules = c.args.rules.now in
    let list : List Asked = c.args.list.now in
    let i : ℕ = c.loop-asked.asked-index in
    let asked : Asked = c.asked-item.result in
    let rest : List Asked = drop (i + 1) list in
    let before : AreaState = seen_state c.loop-asked.state in
    let after : AreaState = seen_state c.step.new.state in
    let P : AreaState → Type 0 = λ s. AreSmall s.slots in
    let answered : answer c.in_ok-reply.reply after ≡ step rules before asked.user asked.moment asked.command = c.in_ok-reply.ensures in
    let later : run_of rules before (drop i list) ≡ run_of rules before (asked ∷ rest) =
    at_drop_more (run_of rules before) list i asked c.loop-asked-test.true ∙ ap (λ (a : Asked). run_of rules before (a ∷ rest)) (sym c.asked-item.is) in
    let told : (run_of rules before (drop i list)).replies ≡ c.in_ok-reply.reply ∷ (run_of rules after rest).replies =
    ap (λ (r : Ran). r.replies) later ∙ ap (λ (a : Answered). a.reply ∷ (run_of rules a.state rest).replies) (sym answered) in
    let left : (run_of rules before (drop i list)).state ≡ (run_of rules after rest).state =
    ap (λ (r : Ran). r.state) later ∙ ap (λ (a : Answered). (run_of rules a.state rest).state) (sym answered) in
    record {
      small = subst P (sym (ap (λ (a : Answered). a.state) answered)) (small_step rules before asked.user asked.moment asked.command c.loop-asked.invariant.small);
      replies =
          ap (λ (l : List Reply). l ++ (run_of rules after rest).replies) c.in_ok-push.ensures.items
          ∙ append_assoc c.loop-asked.replies.items (c.in_ok-reply.reply ∷ []) (run_of rules after rest).replies
          ∙ ap (λ (l : List Reply). c.loop-asked.replies.items ++ l) (sym told)
          ∙ c.loop-asked.invariant.replies;
      state = sym left ∙ c.loop-asked.invariant.state;
    }
