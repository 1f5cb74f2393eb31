-- A linked area stays linked under a post.
use Rattle.std.proofs.Common.{◌≡◌, ℕ, List, [], ◌∷◌, ◌++◌, Option, Some, None, map, refl, sym, ap, option_to_list}
use Rattle.jb_base.specs.Access.{first_refusal}
use Rattle.jb_base.specs.declared.area.Action.TheVariants.{Post as Posting}
use Rattle.jb_base.specs.declared.area.AreaRules.{AreaRules}
use Rattle.jb_base.specs.declared.area.Rule.{Rule}
use Rattle.jb_bytes.specs.declared.subfield.TheConstants.{SENDER_NAME, RECEIVER_NAME, MSGID, REPLYID, SUBJECT}
use Rattle.jb_base.specs.declared.user.User.{User}
use Rattle.jb_model.specs.Answered.{Answered, unless_denied, unless_refused}
use Rattle.jb_state.specs.Links.{IsLinked, linkables_of, parent_for}
use Rattle.jb_state.specs.Message.{replyid_of}
use Rattle.jb_model.specs.Post.{Draft, answer_refusal, draft_refusal, plain_field, post_done, posted_message, posted_msgid, posted_subfields, room_refusal}
use Rattle.jb_state.specs.Posted.{posted_replyid}
use Rattle.jb_state.specs.State.{AreaState, LiveMessage, next_number}
use Rattle.jb_model.specs.declared.reply.Reply.{Reply}
use Rattle.jb_decide.specs.Laws.{PostsKeepLinks}
use Rattle.jb_link.proofs.Theorems.{posted_is_linked}

-- the REPLYID of a posted message is the one that was chosen for it
replyid_posted : (rules : AreaRules) (state : AreaState) (user : User) (draft : Draft) → replyid_of (posted_subfields rules state user draft) ≡ posted_replyid state draft.reply_to
replyid_posted rules state user draft = by_reply (posted_replyid state draft.reply_to)
  where
    by_reply : (reply : Option (List ℕ))
        → replyid_of ((plain_field SENDER_NAME user.name ∷ plain_field RECEIVER_NAME draft.to ∷ plain_field MSGID (posted_msgid rules (next_number state)) ∷ [])
        ++ map (plain_field REPLYID) (option_to_list reply) ++ plain_field SUBJECT draft.subject ∷ []) ≡ reply
    by_reply None = refl
    by_reply (Some id) = refl

-- a refusal keeps the area, and so its links
unless_refused_linked : (state : AreaState) (refusal : Option Reply) (rest : Answered) → IsLinked state → IsLinked rest.state → IsLinked (unless_refused state refusal rest).state
unless_refused_linked state (Some reply) rest linked after_it = linked
unless_refused_linked state None rest linked after_it = after_it

unless_denied_linked : (state : AreaState) (rule : Option Rule) (rest : Answered) → IsLinked state → IsLinked rest.state → IsLinked (unless_denied state rule rest).state
unless_denied_linked state (Some rule) rest linked after_it = linked
unless_denied_linked state None rest linked after_it = after_it

-- a linked area stays linked whatever is posted
pub posts_keep_links : PostsKeepLinks
posts_keep_links rules state user moment draft above linked =
    let message : LiveMessage = posted_message rules state user moment draft in
    unless_denied_linked state (first_refusal user rules Posting None) _ linked
    (unless_refused_linked state (draft_refusal draft) _ linked
    (unless_refused_linked state (answer_refusal rules state user draft) _ linked
    (unless_refused_linked state (room_refusal rules state message) (post_done state message) linked
    (posted_is_linked state message draft.reply_to above linked
    (ap (λ reply. parent_for (linkables_of state) (next_number state) reply draft.reply_to) (sym (replyid_posted rules state user draft)))
    refl refl))))
