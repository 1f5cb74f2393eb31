use Rattle.std.proofs.Common.{◌≡◌, ℕ, ◌+◌, List, [], ◌∷◌, ◌++◌, length, ap, ◌∙◌}
use Rattle.jb_disk.specs.declared.piece.Length.{Length}
use Rattle.jb_disk.specs.declared.piece.Piece.{Piece}
use Rattle.jb_state.specs.declared.loaded.Loaded.{Loaded}
use Rattle.jb_state.specs.declared.loaded.LoadedMessage.{LoadedMessage}
use Rattle.jb_state.specs.declared.loaded.LoadedSlot.{LoadedSlot}
use Rattle.jb_change.specs.Post.{entry_piece, index_length, message_lengths, message_pieces, post_lengths, post_pieces}
use Rattle.jb_change.proofs.LongerLemmas.{read_again}
use Rattle.jb_change.proofs.PostLemmas.{appends_post, makes_post, numbers_post, size_of_post}
use Rattle.jb_change.proofs.posting.put_post.Goals as goal

-- the lengths that are put one after another
lengths_put : (loaded : Loaded) (message : LoadedMessage) (now new : List Length) → now ≡ message_lengths message → new ≡ now ++ index_length loaded ∷ [] → new ≡ post_lengths loaded message
lengths_put loaded message now new first then = then ∙ ap (λ (l : List Length). l ++ index_length loaded ∷ []) first

-- and the pieces
pieces_put : (loaded : Loaded) (message : LoadedMessage) (text : List ℕ) (slots : List LoadedSlot) (now new : List Piece) → slots ≡ loaded.slots
    → now ≡ message_pieces (loaded.base + length slots) message text → new ≡ now ++ entry_piece (length loaded.slots) message ∷ [] → new ≡ post_pieces loaded message text
pieces_put loaded message text slots now new same first then =
    then ∙ ap (λ (l : List Piece). l ++ entry_piece (length loaded.slots) message ∷ []) (first ∙ ap (λ (s : List LoadedSlot). message_pieces (loaded.base + length s) message text) same)

pub returns-clause-makes : goal.returns-clause-makes
returns-clause-makes c =
    makes_post c.args.loaded.now c.args.message.now c.args.text.now c.requires.next
    (read_again c.args.loaded.now c.args.message.now c.as_slice.result.now c.as_slice.ensures c.in_ok-put_message.ensures.back c.put_entry.ensures.back) c.in_ok-put_message.ensures.fit c.put_entry.new.redo
    (lengths_put c.args.loaded.now c.args.message.now _ _ c.in_ok-put_message.ensures.lengths c.put_entry.ensures.lengths)
    (pieces_put c.args.loaded.now c.args.message.now c.args.text.now _ _ _ c.as_slice.ensures c.in_ok-put_message.ensures.pieces c.put_entry.ensures.pieces)

pub returns-clause-numbered : goal.returns-clause-numbered
returns-clause-numbered c =
    numbers_post c.args.loaded.now c.args.message.now c.args.text.now c.requires.next
    (read_again c.args.loaded.now c.args.message.now c.as_slice.result.now c.as_slice.ensures c.in_ok-put_message.ensures.back c.put_entry.ensures.back) c.in_ok-put_message.ensures.fit c.put_entry.new.redo
    (lengths_put c.args.loaded.now c.args.message.now _ _ c.in_ok-put_message.ensures.lengths c.put_entry.ensures.lengths)
    (pieces_put c.args.loaded.now c.args.message.now c.args.text.now _ _ _ c.as_slice.ensures c.in_ok-put_message.ensures.pieces c.put_entry.ensures.pieces)

pub returns-clause-size : goal.returns-clause-size
returns-clause-size c =
    size_of_post c.args.loaded.now c.args.message.now c.args.text.now c.requires.next c.put_entry.new.redo
    (lengths_put c.args.loaded.now c.args.message.now _ _ c.in_ok-put_message.ensures.lengths c.put_entry.ensures.lengths)
    (pieces_put c.args.loaded.now c.args.message.now c.args.text.now _ _ _ c.as_slice.ensures c.in_ok-put_message.ensures.pieces c.put_entry.ensures.pieces)

pub returns-clause-appends : goal.returns-clause-appends
returns-clause-appends c =
    appends_post c.args.loaded.now c.args.message.now c.args.text.now c.requires.next
    (read_again c.args.loaded.now c.args.message.now c.as_slice.result.now c.as_slice.ensures c.in_ok-put_message.ensures.back c.put_entry.ensures.back) c.in_ok-put_message.ensures.fit c.put_entry.new.redo
    (lengths_put c.args.loaded.now c.args.message.now _ _ c.in_ok-put_message.ensures.lengths c.put_entry.ensures.lengths)
    (pieces_put c.args.loaded.now c.args.message.now c.args.text.now _ _ _ c.as_slice.ensures c.in_ok-put_message.ensures.pieces c.put_entry.ensures.pieces)
