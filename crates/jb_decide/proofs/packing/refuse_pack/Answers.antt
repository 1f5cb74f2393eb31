use Rattle.std.proofs.Common.{◌≡◌, ◌∙◌, Some, refl, subst, sym}
use Rattle.jb_state.specs.State.{state_of}
use Rattle.jb_state.specs.declared.loaded.Loaded.{Loaded}
use Rattle.jb_model.specs.declared.reply.Reply.{Reply}
use Rattle.jb_model.specs.declared.reply.Reply.TheVariants.{Denied, TextFull}
use Rattle.jb_pack.specs.Plan.{AnswersPack}
use Rattle.jb_decide.proofs.DecidedLemmas.{same_answer, unchanged_decided}
use Rattle.jb_decide.proofs.PackLemmas.{full_step, pack_by, pack_refused}
use Rattle.jb_decide.proofs.packing.refuse_pack.Goals as goal

-- one reply is another
same_reply : (one other : Reply) → Some one ≡ Some other → one ≡ other
same_reply one other is = cc

pub returns-in-Some-clause-refused : goal.returns-in-Some-clause-refused
returns-in-Some-clause-refused c = λ reply is moment texts contents redo are.
    let loaded : Loaded = c.args.held.now in
    unchanged_decided c.args.rules.now loaded texts contents redo c.args.user.now moment _ _ _ (Denied c.in-Some.rule) (sym (same_reply (Denied c.in-Some.rule) reply is)) refl refl
    (pack_refused c.args.rules.now loaded c.args.user.now moment (Denied c.in-Some.rule) refl c.requires.kept.sound
    (λ any sized. pack_by c.args.rules.now (state_of any loaded) c.args.user.now (Some c.in-Some.rule) (sym c.denied.ensures ∙ c.in-Some.is)))
    (same_answer loaded texts contents (Denied c.in-Some.rule) are.sized) are.sized

pub returns-in-TextFull-clause-refused : goal.returns-in-TextFull-clause-refused
returns-in-TextFull-clause-refused c =
    let kept = rw (← c.loaded.ensures) at c.requires.kept in
    rw (← c.loaded.ensures) (λ reply is moment texts contents redo are.
    let loaded : Loaded = c.loaded.result.now in
    unchanged_decided c.args.rules.now loaded texts contents redo c.args.user.now moment _ _ _ (TextFull c.in-TextFull.length) (sym (same_reply (TextFull c.in-TextFull.length) reply is)) refl refl
    (pack_refused c.args.rules.now loaded c.args.user.now moment (TextFull c.in-TextFull.length) refl kept.sound
    (λ any sized. full_step c.args.rules.now (state_of any loaded) c.args.user.now c.in-TextFull.length (sym c.denied.ensures ∙ c.in_default.is)
    (subst (AnswersPack (state_of any loaded)) c.in-TextFull.is (c.pack_comes_to.ensures.answer any sized))))
    (same_answer loaded texts contents (TextFull c.in-TextFull.length) are.sized) are.sized)
