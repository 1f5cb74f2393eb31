use Rattle.std.proofs.Common.{◌≡◌, inl, inr, List, [], ◌∷◌, ap, ◌∙◌}
use Rattle.std.proofs.lemmas.Result.{IfOk-weaker}
use Rattle.jb_state.specs.LiveSlots.{linkables}
use Rattle.jb_index.specs.Change.{Follows, edits_of_kill}
use Rattle.jb_index.specs.declared.op.OpEdit.{OpEdit}
use Rattle.jb_index.specs.declared.op.OpEdit.TheVariants.{Base, Mark as Marking}
use Rattle.jb_index.proofs.ChangeLemmas.{edited_follows, follows_as, headed_follows, marked_follows, nothing_follows}
use Rattle.jb_index.proofs.KillLemmas.{killed_follows}
use Rattle.jb_index.proofs.PostLemmas.{posted_follows}
use Rattle.jb_index.proofs.RelinkLemmas.{packed_follows, relinked_follows}
use Rattle.jb_index.proofs.op.Op.of.Goals as goal

pub returns-in-Posted : goal.returns-in-Posted
returns-in-Posted c =
    IfOk-weaker c.one.result (λ (op : List OpEdit). op ≡ c.posted.result ∷ []) (λ (op : List OpEdit). Follows c.args.change.now c.args.loaded.now op)
    (λ op is. follows_as _ _ c.args.loaded.now _ _ c.in-Posted.is (is ∙ ap (λ (edit : OpEdit). edit ∷ []) c.posted.ensures)
    (posted_follows c.in-Posted.message c.in-Posted.neighbour c.args.loaded.now))
    c.one.ensures

pub returns-in-Headed : goal.returns-in-Headed
returns-in-Headed c =
    IfOk-weaker c.one-in-Headed.result (λ (op : List OpEdit). op ≡ c.headed.result ∷ []) (λ (op : List OpEdit). Follows c.args.change.now c.args.loaded.now op)
    (λ op is. follows_as _ _ c.args.loaded.now _ _ c.in-Headed.is (is ∙ ap (λ (edit : OpEdit). edit ∷ []) c.headed.ensures)
    (headed_follows c.in-Headed.at c.args.loaded.now))
    c.one-in-Headed.ensures

pub returns-in-Edited : goal.returns-in-Edited
returns-in-Edited c =
    IfOk-weaker c.one-in-Edited.result (λ (op : List OpEdit). op ≡ c.edited.result ∷ []) (λ (op : List OpEdit). Follows c.args.change.now c.args.loaded.now op)
    (λ op is. follows_as _ _ c.args.loaded.now _ _ c.in-Edited.is (is ∙ ap (λ (edit : OpEdit). edit ∷ []) c.edited.ensures)
    (edited_follows c.in-Edited.place c.in-Edited.message c.args.loaded.now))
    c.one-in-Edited.ensures

pub returns-in-Killed : goal.returns-in-Killed
returns-in-Killed c =
    IfOk-weaker c.killed.result (λ (op : List OpEdit). op ≡ edits_of_kill (linkables [] c.args.loaded.now) c.number_at.result)
    (λ (op : List OpEdit). Follows c.args.change.now c.args.loaded.now op)
    (λ op is. follows_as _ _ c.args.loaded.now _ _ c.in-Killed.is (is ∙ ap (edits_of_kill (linkables [] c.args.loaded.now)) c.number_at.ensures)
    (killed_follows c.in-Killed.place c.args.loaded.now))
    c.killed.ensures

pub returns-in-Marked : goal.returns-in-Marked
returns-in-Marked c =
    IfOk-weaker c.one-in-Marked.result (λ (op : List OpEdit). op ≡ Marking c.in-Marked.mark ∷ []) (λ (op : List OpEdit). Follows c.args.change.now c.args.loaded.now op)
    (λ op is. follows_as _ _ c.args.loaded.now _ _ c.in-Marked.is is (marked_follows c.in-Marked.place c.in-Marked.mark c.args.loaded.now)) c.one-in-Marked.ensures

pub returns-in-Packed : goal.returns-in-Packed
returns-in-Packed c =
    IfOk-weaker c.one-in-Packed.result (λ (op : List OpEdit). op ≡ Base c.in-Packed.base ∷ []) (λ (op : List OpEdit). Follows c.args.change.now c.args.loaded.now op)
    (λ op is. follows_as _ _ c.args.loaded.now _ _ c.in-Packed.is is (packed_follows c.in-Packed.plan c.in-Packed.base c.args.loaded.now)) c.one-in-Packed.ensures

pub returns-in-Nothing : goal.returns-in-Nothing
returns-in-Nothing c =
    elim c.in-Nothing.is [
      | inl nothing ↦ follows_as _ _ c.args.loaded.now _ _ nothing c.new.ensures (nothing_follows c.args.loaded.now)
      | inr (plan, relinked) ↦ follows_as _ _ c.args.loaded.now _ _ relinked c.new.ensures (relinked_follows plan c.args.loaded.now)
    ]
