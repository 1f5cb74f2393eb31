-- The ways through a reading and through a look.
use Rattle.std.proofs.Common.{◌≡◌, ◌^◌, ◌%◌, subst, ℕ, ◌+◌, Bool, true, false, cond, List, Some, None, refl, sym, ◌∙◌, ap, bit_and}
use Rattle.jb_base.specs.Access.{first_refusal}
use Rattle.jb_bytes.specs.Name.{same_name}
use Rattle.jb_bytes.specs.Subfields.{receiver_of}
use Rattle.jb_base.specs.declared.area.Action.TheVariants.{List as Listing}
use Rattle.jb_base.specs.declared.area.AreaRules.{AreaRules}
use Rattle.jb_base.specs.declared.attribute.TheConstants.{DELETED}
use Rattle.jb_base.specs.declared.user.User.{User}
use Rattle.jb_model.proofs.RangeLaws.{read_keeps_deleted}
use Rattle.jb_model.specs.Answered.{Answered, with_message}
use Rattle.jb_state.specs.Live.{counted}
use Rattle.jb_state.specs.Loaded.{IsMessageAt, with_head_at}
use Rattle.jb_model.specs.Letter.{letter_of}
use Rattle.jb_model.specs.Read.{read_done, read_message, read_once_more, read_step, received_at}
use Rattle.jb_state.specs.Sound.{IsSound}
use Rattle.jb_state.specs.State.{AreaState, LiveMessage, state_of, with_text}
use Rattle.jb_state.specs.Visible.{visible_at}
use Rattle.jb_model.specs.declared.command.Command.TheVariants.{Read}
use Rattle.jb_state.specs.declared.loaded.Loaded.{Loaded}
use Rattle.jb_state.specs.declared.loaded.LoadedMessage.{LoadedMessage}
use Rattle.jb_state.specs.declared.loaded.LoadedSlot.TheVariants.{Live}
use Rattle.jb_state.specs.declared.message.Head.{Head}
use Rattle.jb_model.specs.declared.reply.Reply.TheVariants.{Text}
use Rattle.jb_state.specs.Change.{live_messages, loaded_counted}
use Rattle.jb_decide.specs.Read.{IsReading, letter_in, read_head}
use Rattle.jb_decide.proofs.StepLemmas.{something}
use Rattle.jb_state.proofs.PlaceLaws.{headed_is}
use Rattle.jb_state.specs.declared.change.HeadAt.{HeadAt}
use Rattle.jb_decide.specs.Seen.{IsNamed, seen_at, with_head}
use Rattle.jb_decide.proofs.CountLemmas.{counted_now}
use Rattle.jb_decide.proofs.SoundLemmas.{slot_within, sound_after_set, sound_counted}
use Rattle.jb_decide.proofs.StateLemmas.{allowed_way, answer, message_way, state_with_slot, visible_found}

-- what follows the first rule, in a reading
abbrev read_rest : AreaRules → AreaState → User → ℕ → ℕ → Answered
read_rest rules state user moment number =
    with_message state number (visible_at rules user state number) (λ message. read_done state number (read_message user moment message))

-- the message as a reading leaves it, with its text
message_read : (texts : List ℕ) (user : User) (moment : ℕ) (message : LoadedMessage)
    → read_message user moment (with_text texts message) ≡ with_text texts (with_head (read_head user moment message) message)
message_read texts user moment message = by_name (same_name user.name (receiver_of message.subfields))
  where
    by_name : (same : Bool)
        → cond same (with_text texts (with_head (received_at moment (read_once_more message.head)) message)) (with_text texts (with_head (read_once_more message.head) message))
        ≡ with_text texts (with_head (cond same (received_at moment (read_once_more message.head)) (read_once_more message.head)) message)
    by_name true = refl
    by_name false = refl

-- the message is read
pub read_way : (texts : List ℕ) (rules : AreaRules) (loaded : Loaded) (user : User) (moment number place : ℕ) (head : Head) (message : LoadedMessage)
    → first_refusal user rules Listing None ≡ None → seen_at rules user loaded number ≡ Some message
    → head ≡ read_head user moment message → IsNamed loaded number place message
    → read_step rules (state_of texts loaded) user moment number
    ≡ answer (Text (letter_of number (with_text texts (with_head head message)))) (state_of texts (loaded_counted (with_head_at place head message loaded)))
read_way texts rules loaded user moment number place head message listed seen made named =
    let after : LiveMessage = with_text texts (with_head head message) in
    allowed_way (state_of texts loaded) (first_refusal user rules Listing None) (read_rest rules (state_of texts loaded) user moment number) listed
    ∙ message_way (state_of texts loaded) number (visible_at rules user (state_of texts loaded) number) (with_text texts message)
    (λ m. read_done (state_of texts loaded) number (read_message user moment m))
    (visible_found texts rules user loaded number message seen)
    ∙ ap (read_done (state_of texts loaded) number) (message_read texts user moment message ∙ ap (λ h. with_text texts (with_head h message)) (sym made))
    ∙ ap (λ s. answer (Text (letter_of number after)) (counted s)) (sym (state_with_slot texts loaded number place (Live (with_head head message)) named.placed))
    ∙ ap (answer (Text (letter_of number after))) (sym (counted_now texts (with_head_at place head message loaded)))

-- a reading sets no bit that says that the message is killed
read_stays_live : (user : User) (moment : ℕ) (message : LoadedMessage) → bit_and message.head.attribute DELETED ≡ 0 → bit_and (read_head user moment message).attribute DELETED ≡ 0
read_stays_live user moment message live = by_name (same_name user.name (receiver_of message.subfields))
  where
    by_name : (same : Bool) → bit_and (cond same (received_at moment (read_once_more message.head)) (read_once_more message.head)).attribute DELETED ≡ 0
    by_name true = read_keeps_deleted message.head.attribute ∙ live
    by_name false = live

-- the area stays sound
pub read_keeps_sound : (limit : ℕ) (loaded : Loaded) (user : User) (moment place : ℕ) (head : Head) (message : LoadedMessage) → IsMessageAt loaded place message
    → head ≡ read_head user moment message → IsSound limit loaded → IsSound limit (loaded_counted (with_head_at place head message loaded))
read_keeps_sound limit loaded user moment place head message here made sound =
    let fits = slot_within limit loaded place (Live message) here sound in
    sound_counted limit (with_head_at place head message loaded) ((loaded.counter + 1) % 2 ^ 32) (live_messages (with_head_at place head message loaded))
    (sound_after_set limit loaded place (Live message) (Live (with_head head message)) here (λ i covered. covered)
    (record {
      live = ap (λ h. bit_and h.attribute DELETED) made ∙ read_stays_live user moment message fits.live;
      few_bytes = fits.few_bytes;
      header = fits.header;
      text = fits.text;
    })
    sound)

-- a reading changes three fields alone
reading_same : (user : User) (moment : ℕ) (message : LoadedMessage) (head : Head) → head ≡ read_head user moment message
    → head ≡ record message.head { times_read = head.times_read; received = head.received; attribute = head.attribute }
reading_same user moment message head made =
    subst (λ (h : Head). h ≡ record message.head { times_read = h.times_read; received = h.received; attribute = h.attribute }) (sym made)
    (by_name (same_name user.name (receiver_of message.subfields)))
  where
    by_name : (same : Bool)
        → cond same (received_at moment (read_once_more message.head)) (read_once_more message.head)
        ≡ record message.head {
          times_read = (cond same (received_at moment (read_once_more message.head)) (read_once_more message.head)).times_read;
          received = (cond same (received_at moment (read_once_more message.head)) (read_once_more message.head)).received;
          attribute = (cond same (received_at moment (read_once_more message.head)) (read_once_more message.head)).attribute;
        }
    by_name true = refl
    by_name false = refl

-- a reading that nothing refuses
pub reading_is : (rules : AreaRules) (loaded : Loaded) (user : User) (moment number : ℕ) (at : HeadAt) (message : LoadedMessage)
    → first_refusal user rules Listing None ≡ None → seen_at rules user loaded number ≡ Some message → at.head ≡ read_head user moment message
    → IsNamed loaded number at.place message → IsSound rules.slots loaded → IsReading rules loaded user moment number at
reading_is rules loaded user moment number at message listed seen made named sound =
    let same = headed_is at message loaded named.here in
    let fits = slot_within rules.slots loaded at.place (Live message) named.here sound in
    record {
      message = message;
      here = named.here;
      step = record {
        step = λ texts sized. subst (λ (l : Loaded). read_step rules (state_of texts loaded) user moment number ≡ answer (letter_in number at.head message texts) (state_of texts (loaded_counted l))) (sym same)
            (read_way texts rules loaded user moment number at.place at.head message listed seen made named);
        fits = record {
          message = message;
          here = named.here;
          same = reading_same user moment message at.head made;
          live = ap (λ (h : Head). bit_and h.attribute DELETED) made ∙ read_stays_live user moment message fits.live;
        };
        sound = subst (λ (l : Loaded). IsSound rules.slots (loaded_counted l)) (sym same) (read_keeps_sound rules.slots loaded user moment at.place at.head message named.here made sound);
        kind = tt;
        text = refl;
        idle = λ texts nothing. absurd (something (Read number) (letter_in number at.head message texts) refl (λ look. look) (λ links. cc) nothing);
        told = λ texts. tt;
        named = λ texts. tt;
      };
    }
