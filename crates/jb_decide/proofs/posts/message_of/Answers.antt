use Rattle.std.proofs.Common.{◌≡◌, ℕ, List, [], length, Option, ◌∙◌, ap}
use Rattle.std.specs.Option.{option_map}
use Rattle.std.specs.Borrow.{Bor}
use Rattle.jb_bytes.specs.Crc.{jam_crc_of}
use Rattle.jb_bytes.specs.declared.subfield.Subfield.{Subfield}
use Rattle.jb_state.specs.LiveSlots.{linkables}
use Rattle.jb_state.specs.Links.{parent_for}
use Rattle.jb_model.specs.Post.{Draft, posted_msgid, fields_with, head_with}
use Rattle.jb_state.specs.declared.loaded.Loaded.{Loaded}
use Rattle.jb_state.specs.declared.message.Head.{Head}
use Rattle.jb_link.specs.Parents.{copied_msgid, parent_behind}
use Rattle.jb_decide.specs.Draft.{draft_of, new_fields, new_head, next_of}
use Rattle.jb_decide.proofs.PostLemmas.{loaded_with}
use Rattle.jb_decide.proofs.posts.message_of.Goals as goal

pub returns-clause-made : goal.returns-clause-made
returns-clause-made c =
    let rules = c.args.rules.now in
    let loaded : Loaded = c.args.loaded.now in
    let user = c.args.user.now in
    let moment : ℕ = c.args.moment in
    let draft : Draft = draft_of c.args.draft in
    let number : c.next_number-number.result ≡ next_of loaded = c.next_number-number.ensures in
    let id : c.in_ok-msgid.msgid ≡ posted_msgid rules (next_of loaded) = c.in_ok-msgid.ensures ∙ ap (posted_msgid rules) number in
    let reply : Option (List ℕ) = option_map (λ (b : Bor (List ℕ)). b.now) c.copied_msgid-replyid.result in
    let replied : reply ≡ copied_msgid loaded draft.reply_to = c.copied_msgid-replyid.ensures in
    let above : c.parent-above.result ≡ parent_behind loaded draft.reply_to =
    c.parent-above.ensures.found [] ∙ ap (λ n. parent_for (linkables [] loaded) n reply draft.reply_to) number
    ∙ ap (λ r. parent_for (linkables [] loaded) (next_of loaded) r draft.reply_to) replied in
    let head : c.head_of.result ≡ new_head rules loaded moment draft =
    c.head_of.ensures
    ∙ ap (λ i. head_with rules moment draft i reply c.parent-above.result) (c.as_slice-2.ensures ∙ id)
    ∙ ap (λ r. head_with rules moment draft (posted_msgid rules (next_of loaded)) r c.parent-above.result) replied
    ∙ ap (head_with rules moment draft (posted_msgid rules (next_of loaded)) (copied_msgid loaded draft.reply_to)) above in
    let fields : c.in_ok-subfields.subfields ≡ new_fields rules loaded user draft =
    c.in_ok-subfields.ensures
    ∙ ap (λ i. fields_with user draft i reply) (c.as_slice.ensures ∙ id)
    ∙ ap (fields_with user draft (posted_msgid rules (next_of loaded))) replied in
    ap (λ (o : ℕ). loaded_with o c.head_of.result c.in_ok-subfields.subfields loaded.headers_len loaded.texts_len (length draft.text)) c.jam_crc.ensures
    ∙ ap (λ (h : Head). loaded_with (jam_crc_of draft.to) h c.in_ok-subfields.subfields loaded.headers_len loaded.texts_len (length draft.text)) head
    ∙ ap (λ (f : List Subfield). loaded_with (jam_crc_of draft.to) (new_head rules loaded moment draft) f loaded.headers_len loaded.texts_len (length draft.text)) fields
