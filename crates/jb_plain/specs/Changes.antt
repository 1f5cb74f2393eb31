-- The changes of a command, one after another.
use Rattle.std.specs.Prelude.{ℕ, Bool, if◌then◌else◌, List, ◌+◌, ◌-◌, drop, map, option_map, min, ◌^◌}
use Rattle.jb_state.specs.Edited.{with_subject}
use Rattle.jb_state.specs.Live.{message_at}
use Rattle.jb_state.specs.PackedState.{emptied}
use Rattle.jb_state.specs.Tight.{headers_together, texts_together}
use Rattle.jb_bytes.specs.declared.subfield.Subfield.{Subfield}
use Rattle.jb_model.specs.Post.{Draft}
use Rattle.jb_state.specs.Posted.{slots_with, spliced_slots}
use Rattle.jb_state.specs.State.{AreaState, LiveMessage}
use Rattle.jb_plain.specs.declared.post.PlainDraft.{PlainDraft as LentDraft}

-- the area with a reply to this parent named by its neighbour
abbrev pub spliced_area : AreaState → ℕ → ℕ → AreaState
spliced_area state parent number = record state { slots = spliced_slots state parent number }

-- the area with the message of a number changed, where there is one
abbrev pub renamed_area : AreaState → ℕ → (LiveMessage → LiveMessage) → AreaState
renamed_area state named change = record state { slots = slots_with state named (option_map change (message_at state named)) }

-- the area without its first slots and without killed messages
abbrev pub cut_area : AreaState → ℕ → AreaState
cut_area state front = record state { base = state.base + front; slots = map emptied (drop front state.slots) }

-- the area with files that hold just its messages
abbrev pub tightened_area : AreaState → AreaState
tightened_area state = record state {
  headers_len = min (1024 + headers_together state.slots) (2 ^ 64 - 1);
  texts_len = min (texts_together state.slots) (2 ^ 64 - 1);
}

-- what a user wrote, as the definitions see it
abbrev pub draft_of : LentDraft → Draft
draft_of draft = record { to = draft.to.now; subject = draft.subject.now; text = draft.text.now; reply_to = draft.reply_to; private = draft.private }

-- the rest of a message's subfields, of which the first SUBJECT gets this subject where none before it did
abbrev pub with_subject_in_rest : Bool → List ℕ → List Subfield → List Subfield
with_subject_in_rest named subject fields = if named then fields else with_subject subject fields
