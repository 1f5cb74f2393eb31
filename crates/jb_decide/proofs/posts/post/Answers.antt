use Rattle.std.proofs.Common.{sym, ◌∙◌}
use Rattle.jb_decide.specs.Draft.{draft_of}
use Rattle.jb_decide.proofs.PostLemmas.{IsAccepted, post_denied, post_full, post_is, post_numberless, post_unfit, post_unseen}
use Rattle.jb_decide.proofs.StepLemmas.{refused_outcome}
use Rattle.jb_decide.proofs.posts.post.Goals as goal

pub returns-in-Some : goal.returns-in-Some
returns-in-Some c =
    refused_outcome c.args.rules.now c.args.loaded.now c.args.user.now c.args.moment _ c.unchanged.result _ c.unchanged.ensures.reply c.unchanged.ensures.change c.requires.sound
    (post_denied c.args.rules.now c.args.loaded.now c.args.user.now (draft_of c.args.draft) c.in-Some.rule (sym c.denied.ensures ∙ c.in-Some.is))

pub returns-in-Some-unfit : goal.returns-in-Some-unfit
returns-in-Some-unfit c =
    refused_outcome c.args.rules.now c.args.loaded.now c.args.user.now c.args.moment _ c.unchanged-in-Some-unfit.result _ c.unchanged-in-Some-unfit.ensures.reply c.unchanged-in-Some-unfit.ensures.change c.requires.sound
    (post_unfit c.args.rules.now c.args.loaded.now c.args.user.now (draft_of c.args.draft) c.in-Some-unfit.reply (sym c.denied.ensures ∙ c.in_default.is) (sym c.unfit.ensures ∙ c.in-Some-unfit.is))

pub returns-in-Some-unseen : goal.returns-in-Some-unseen
returns-in-Some-unseen c =
    refused_outcome c.args.rules.now c.args.loaded.now c.args.user.now c.args.moment _ c.unchanged-in-Some-unseen.result _ c.unchanged-in-Some-unseen.ensures.reply c.unchanged-in-Some-unseen.ensures.change c.requires.sound
    (post_unseen c.args.rules.now c.args.loaded.now c.args.user.now (draft_of c.args.draft) c.in-Some-unseen.reply
    (sym c.denied.ensures ∙ c.in_default.is) (sym c.unfit.ensures ∙ c.in_default-unfit.is) (sym c.unseen.ensures ∙ c.in-Some-unseen.is))

pub returns-in-Some-no_number : goal.returns-in-Some-no_number
returns-in-Some-no_number c =
    refused_outcome c.args.rules.now c.args.loaded.now c.args.user.now c.args.moment _ c.unchanged-in-Some-no_number.result _ c.unchanged-in-Some-no_number.ensures.reply c.unchanged-in-Some-no_number.ensures.change c.requires.sound
    (post_numberless c.args.rules.now c.args.loaded.now c.args.user.now (draft_of c.args.draft) c.in-Some-no_number.reply
    (sym c.denied.ensures ∙ c.in_default.is) (sym c.unfit.ensures ∙ c.in_default-unfit.is) (sym c.unseen.ensures ∙ c.in_default-unseen.is)
    (sym c.no_number.ensures ∙ c.in-Some-no_number.is))

pub returns-in-Err : goal.returns-in-Err
returns-in-Err c =
    refused_outcome c.args.rules.now c.args.loaded.now c.args.user.now c.args.moment _ c.unchanged-in-Err.result _ c.unchanged-in-Err.ensures.reply c.unchanged-in-Err.ensures.change c.requires.sound
    (post_full c.args.rules.now c.args.loaded.now c.args.user.now (draft_of c.args.draft) c.in-Err.reply
    (sym c.denied.ensures ∙ c.in_default.is) (sym c.unfit.ensures ∙ c.in_default-unfit.is) (sym c.unseen.ensures ∙ c.in_default-unseen.is)
    (sym c.no_number.ensures ∙ c.in_default-no_number.is) (rw c.in-Err.is at c.in_ok-message.ensures.full))

pub returns : goal.returns
returns c =
    let accepted : IsAccepted c.args.rules.now c.args.loaded.now c.args.user.now (draft_of c.args.draft) = record {
      allowed = sym c.denied.ensures ∙ c.in_default.is;
      fit = sym c.unfit.ensures ∙ c.in_default-unfit.is;
      seen = sym c.unseen.ensures ∙ c.in_default-unseen.is;
      numbered = sym c.no_number.ensures ∙ c.in_default-no_number.is;
      room = rw c.in-Ok.is at c.in_ok-message.ensures.room;
    } in
    post_is c.args.rules.now c.args.loaded.now c.args.user.now c.args.moment c.next_number-number.result (draft_of c.args.draft) c.in-Ok.message c.neighbour_of-neighbour.result accepted
    c.next_number-number.ensures (rw c.in-Ok.is at c.in_ok-message.ensures.made) c.neighbour_of-neighbour.ensures c.requires.sound c.requires.name c.requires.address
