use Rattle.std.proofs.Common.{◌≡◌, List, ℕ, sym, ◌∙◌, ap}
use Rattle.jb_model.specs.Post.{parts_refusal}
use Rattle.jb_state.specs.declared.loaded.LoadedMessage.{LoadedMessage}
use Rattle.jb_decide.proofs.EditLemmas.{IsAccepted, MayEdit, brought, edit_denied, edit_forbidden, edit_full, edit_is, edit_long, edit_unseen}
use Rattle.jb_decide.proofs.StepLemmas.{refused_outcome}
use Rattle.jb_decide.proofs.edits.edit.Goals as goal

pub returns-in-Some : goal.returns-in-Some
returns-in-Some c = λ moment.
    refused_outcome c.args.rules.now c.args.loaded.now c.args.user.now moment _ c.unchanged.result _ c.unchanged.ensures.reply c.unchanged.ensures.change c.requires.sound
    (edit_denied c.args.rules.now c.args.loaded.now c.args.user.now c.args.edit.number c.args.edit.subject.now c.args.edit.text.now c.in-Some.rule (sym c.denied.ensures ∙ c.in-Some.is))

pub returns-in_default-seen_at : goal.returns-in_default-seen_at
returns-in_default-seen_at c = λ moment.
    refused_outcome c.args.rules.now c.args.loaded.now c.args.user.now moment _ c.unchanged-in_default-seen_at.result _ c.unchanged-in_default-seen_at.ensures.reply c.unchanged-in_default-seen_at.ensures.change c.requires.sound
    (edit_unseen c.args.rules.now c.args.loaded.now c.args.user.now c.args.edit.number c.args.edit.subject.now c.args.edit.text.now (sym c.denied.ensures ∙ c.in_default.is) (sym c.in_default-seen_at.ensures.named))

pub returns-in-Some-edit_denied : goal.returns-in-Some-edit_denied
returns-in-Some-edit_denied c = λ moment.
    refused_outcome c.args.rules.now c.args.loaded.now c.args.user.now moment _ c.unchanged-in-Some-edit_denied.result _ c.unchanged-in-Some-edit_denied.ensures.reply c.unchanged-in-Some-edit_denied.ensures.change c.requires.sound
    (edit_forbidden c.args.rules.now c.args.loaded.now c.args.user.now c.args.edit.number c.args.edit.subject.now c.args.edit.text.now c.in-Some-seen_at.found.message.now c.in-Some-edit_denied.rule
    (sym c.denied.ensures ∙ c.in_default.is) (sym c.in-Some-seen_at.ensures.named) (sym c.edit_denied.ensures ∙ c.in-Some-edit_denied.is))

pub returns-in-Some-long_part : goal.returns-in-Some-long_part
returns-in-Some-long_part c = λ moment.
    let message : LoadedMessage = c.in-Some-seen_at.found.message.now in
    let may : MayEdit c.args.rules.now c.args.loaded.now c.args.user.now c.args.edit.number message = record {
      listed = sym c.denied.ensures ∙ c.in_default.is;
      seen = sym c.in-Some-seen_at.ensures.named;
      allowed = sym c.edit_denied.ensures ∙ c.in_default-edit_denied.is;
    } in
    let found : c.long_part.result ≡ parts_refusal (brought c.args.edit.subject.now message) c.args.edit.text.now =
    c.long_part.ensures ∙ ap (λ (s : List ℕ). parts_refusal s c.args.edit.text.now) c.new_subject.ensures in
    refused_outcome c.args.rules.now c.args.loaded.now c.args.user.now moment _ c.unchanged-in-Some-long_part.result _ c.unchanged-in-Some-long_part.ensures.reply c.unchanged-in-Some-long_part.ensures.change c.requires.sound
    (edit_long c.args.rules.now c.args.loaded.now c.args.user.now c.args.edit.number c.args.edit.subject.now c.args.edit.text.now message c.in-Some-long_part.reply may (sym found ∙ c.in-Some-long_part.is))

pub returns-in-Err : goal.returns-in-Err
returns-in-Err c = λ moment.
    let message : LoadedMessage = c.in-Some-seen_at.found.message.now in
    let may : MayEdit c.args.rules.now c.args.loaded.now c.args.user.now c.args.edit.number message = record {
      listed = sym c.denied.ensures ∙ c.in_default.is;
      seen = sym c.in-Some-seen_at.ensures.named;
      allowed = sym c.edit_denied.ensures ∙ c.in_default-edit_denied.is;
    } in
    let found : c.long_part.result ≡ parts_refusal (brought c.args.edit.subject.now message) c.args.edit.text.now =
    c.long_part.ensures ∙ ap (λ (s : List ℕ). parts_refusal s c.args.edit.text.now) c.new_subject.ensures in
    refused_outcome c.args.rules.now c.args.loaded.now c.args.user.now moment _ c.unchanged-in-Err.result _ c.unchanged-in-Err.ensures.reply c.unchanged-in-Err.ensures.change c.requires.sound
    (edit_full c.args.rules.now c.args.loaded.now c.args.user.now c.args.edit.number c.args.edit.subject.now c.args.edit.text.now message c.in-Err.reply may (sym found ∙ c.in_default-long_part.is)
    (rw c.in-Err.is at c.in_ok-message.ensures.full))

pub returns : goal.returns
returns c = λ moment.
    let message : LoadedMessage = c.in-Some-seen_at.found.message.now in
    let may : MayEdit c.args.rules.now c.args.loaded.now c.args.user.now c.args.edit.number message = record {
      listed = sym c.denied.ensures ∙ c.in_default.is;
      seen = sym c.in-Some-seen_at.ensures.named;
      allowed = sym c.edit_denied.ensures ∙ c.in_default-edit_denied.is;
    } in
    let found : c.long_part.result ≡ parts_refusal (brought c.args.edit.subject.now message) c.args.edit.text.now =
    c.long_part.ensures ∙ ap (λ (s : List ℕ). parts_refusal s c.args.edit.text.now) c.new_subject.ensures in
    let accepted : IsAccepted c.args.rules.now c.args.loaded.now c.args.user.now c.args.edit.number c.args.edit.subject.now c.args.edit.text.now message = record {
      may = may;
      short = sym found ∙ c.in_default-long_part.is;
      room = rw c.in-Ok.is at c.in_ok-message.ensures.room;
    } in
    edit_is c.args.rules.now c.args.loaded.now c.args.user.now moment c.args.edit.number c.in-Some-seen_at.found.place c.args.edit.subject.now c.args.edit.text.now message c.in-Ok.message
    accepted c.in-Some-seen_at.ensures.placed (rw c.in-Ok.is at c.in_ok-message.ensures.made) c.requires.sound
