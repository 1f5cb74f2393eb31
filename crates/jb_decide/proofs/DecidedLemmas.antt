-- From what a command does in the loaded area to what is pending.
use Rattle.std.proofs.Common.{◌≡◌, ◌≢◌, ◌⊎◌, inl, inr, ℕ, ◌+◌, ◌-◌, ◌≤◌, ◌++◌, List, [], ◌∷◌, length, take, drop, replicate, Option, None, Some, ap, sym, refl, ◌∙◌, subst, arith, length-append, length-set}
use Rattle.std.proofs.lemmas.List.{append-nil, drop-append-le, drop_all, length-replicate, nil_from_length, take-append-le, take_all}
use Rattle.std.specs.Option.{ForSome}
use Rattle.std.specs.Prelude.{IsSome}
use Rattle.std.proofs.lemmas.Option.{slice_get_within}
use Rattle.jb_base.specs.declared.area.AreaRules.{AreaRules}
use Rattle.jb_base.specs.declared.user.User.{User}
use Rattle.jb_change.specs.Headers.{UpdatesBut}
use Rattle.jb_change.specs.Put.{IsMoved, IsNoPacking, IsShort, IsTextOf, KeepsIndexOnKill, NumbersPosted}
use Rattle.jb_disk.specs.Files.{Files}
use Rattle.jb_disk.specs.RedoView.{RedoView}
use Rattle.jb_held.specs.Pending.{BringsRoom, no_room}
use Rattle.jb_image.specs.Stands.{Loads}
use Rattle.jb_state.specs.Change.{Fits, after, headed_where, texts_after}
use Rattle.jb_state.specs.Linked.{with_links_in, with_links_of}
use Rattle.jb_state.specs.Loaded.{IsMessageAt}
use Rattle.jb_model.specs.Letter.{letter_of}
use Rattle.jb_state.specs.Plan.{loaded_at}
use Rattle.jb_state.specs.Sound.{IsMessageWithin, IsSound, IsTextWithin}
use Rattle.jb_state.specs.State.{state_of, text_of}
use Rattle.jb_model.specs.Step.{Step}
use Rattle.jb_state.specs.declared.change.Change.{Change}
use Rattle.jb_state.specs.declared.change.Change.TheVariants.{Nothing, Posted, Headed, Edited, Killed, Relinked, Marked, Packed}
use Rattle.jb_model.specs.declared.command.Command.{Command}
use Rattle.jb_state.specs.declared.links.Links.{Links}
use Rattle.jb_state.specs.declared.loaded.Loaded.{Loaded}
use Rattle.jb_state.specs.declared.loaded.LoadedMessage.{LoadedMessage}
use Rattle.jb_state.specs.declared.loaded.LoadedSlot.TheVariants as slot
use Rattle.jb_state.specs.declared.message.Head.{Head}
use Rattle.jb_model.specs.declared.reply.Letter.{Letter}
use Rattle.jb_model.specs.declared.reply.Reply.{Reply}
use Rattle.jb_model.specs.declared.reply.Reply.TheVariants as reply
use Rattle.jb_pack.specs.Shadow.{Shadow}
use Rattle.jb_redo.specs.Changes.{IsWritable, changed}
use Rattle.jb_decide.specs.Coming.{BringsComing, Coming, coming_of}
use Rattle.jb_decide.specs.Decided.{HasShortRecord, IsAnswerBy, IsDecided, IsPending, IsTold, made}
use Rattle.jb_decide.specs.Headers.{KeepsHeaders, NamesWritten, PacksHeaders}
use Rattle.jb_decide.specs.Draft.{next_of}
use Rattle.jb_decide.specs.Packs.{IsPacked}
use Rattle.jb_decide.specs.Read.{letter_in}
use Rattle.jb_decide.specs.Seen.{shown_message}
use Rattle.jb_decide.specs.StepOf.{ChangesNothing, IsStepOf, NamesNumber, written_text, text_behind}
use Rattle.jb_decide.specs.Telling.{IsPacking, IsToldBy}
use Rattle.jb_decide.specs.declared.decided.Decided.{Decided}
use Rattle.jb_decide.proofs.BringLemmas.{brings, keeps_more, keeps_same}
use Rattle.jb_decide.proofs.HeaderLemmas.{keeps_all, keeps_headers, last_message, message_set, stands_behind}
use Rattle.jb_decide.proofs.SoundLemmas.{as_many, slot_within}
use Rattle.jb_state.proofs.LinkedLaws.{length_of}

-- a change is nothing or something
pub nothing_or : (change : Change) → (change ≡ Nothing) ⊎ (change ≢ Nothing)
nothing_or Nothing = inl refl
nothing_or (Posted message neighbour) = inr (λ is. cc)
nothing_or (Headed at) = inr (λ is. cc)
nothing_or (Edited place message) = inr (λ is. cc)
nothing_or (Killed place) = inr (λ is. cc)
nothing_or (Relinked plan) = inr (λ is. cc)
nothing_or (Marked place mark) = inr (λ is. cc)
nothing_or (Packed plan base) = inr (λ is. cc)

-- a sound area is so under a higher limit
pub sound_under : (limit more : ℕ) (loaded : Loaded) → limit ≤ more → IsSound limit loaded → IsSound more loaded
sound_under limit more loaded under sound = record {
  fixed = sound.fixed;
  base = sound.base;
  numbers = sound.numbers;
  few_slots = omega (arith, sound.few_slots);
  few_marks = sound.few_marks;
  within = sound.within;
  apart = sound.apart;
}

-- what fits under a limit fits under a higher one
pub fits_under : (limit more : ℕ) (change : Change) (loaded : Loaded) → limit ≤ more → Fits limit change loaded → Fits more change loaded
fits_under limit more Nothing loaded under fits = fits
fits_under limit more (Posted message neighbour) loaded under fits = (
  record {
    number = fits.0.number;
    slot = omega (arith, fits.0.slot);
    header_at = fits.0.header_at;
    text_at = fits.0.text_at;
    headers = fits.0.headers;
    texts = fits.0.texts;
    few_bytes = fits.0.few_bytes;
    short = fits.0.short;
    live = fits.0.live;
    parent = fits.0.parent;
  },
  fits.1,
)
fits_under limit more (Headed at) loaded under fits = fits
fits_under limit more (Edited place message) loaded under fits = fits
fits_under limit more (Killed place) loaded under fits = fits
fits_under limit more (Relinked plan) loaded under fits = fits
fits_under limit more (Marked place mark) loaded under fits = fits
fits_under limit more (Packed plan base) loaded under fits = fits

-- a change that takes no memory posts no message, and no text
pub short_is : (redo : RedoView) (loaded : Loaded) (change : Change) (text : List ℕ) → IsShort change → NumbersPosted redo loaded change × (text_behind change text ≡ [])
short_is redo loaded Nothing text short = (tt, refl)
short_is redo loaded (Posted message neighbour) text short = absurd short
short_is redo loaded (Headed at) text short = (tt, refl)
short_is redo loaded (Edited place message) text short = absurd short
short_is redo loaded (Killed place) text short = (tt, refl)
short_is redo loaded (Relinked plan) text short = (tt, refl)
short_is redo loaded (Marked place mark) text short = (tt, refl)
short_is redo loaded (Packed plan base) text short = (tt, refl)

-- and it brings nothing
pub short_room : (change : Change) (from : Loaded) → IsShort change → BringsRoom change no_room from
short_room Nothing from short = refl
short_room (Posted message neighbour) from short = absurd short
short_room (Headed at) from short = refl
short_room (Edited place message) from short = absurd short
short_room (Killed place) from short = refl
short_room (Relinked plan) from short = absurd short
short_room (Marked place mark) from short = refl
short_room (Packed plan base) from short = absurd short

-- what is none of a pack packs nothing, and nothing is said of its record
none_of_pack : (change : Change) (redo : RedoView) (from to : Loaded) → IsNoPacking change → (IsPacking change → ⊥) × HasShortRecord change redo to
none_of_pack Nothing redo from to none = (λ packing. packing, tt)
none_of_pack (Posted message neighbour) redo from to none = (λ packing. packing, tt)
none_of_pack (Headed at) redo from to none = (λ packing. packing, tt)
none_of_pack (Edited place message) redo from to none = (λ packing. packing, tt)
none_of_pack (Killed place) redo from to none = (λ packing. packing, tt)
none_of_pack (Relinked plan) redo from to none = (λ packing. packing, tt)
none_of_pack (Marked place mark) redo from to none = (λ packing. packing, tt)
none_of_pack (Packed plan base) redo from to none = absurd none

-- its text comes behind the others
texts_behind : (change : Change) (from : Loaded) (posted texts : List ℕ) → IsNoPacking change → texts_after change from posted texts ≡ texts ++ text_behind change posted
texts_behind Nothing from posted texts none = sym (append-nil texts)
texts_behind (Posted message neighbour) from posted texts none = refl
texts_behind (Headed at) from posted texts none = sym (append-nil texts)
texts_behind (Edited place message) from posted texts none = refl
texts_behind (Killed place) from posted texts none = sym (append-nil texts)
texts_behind (Relinked plan) from posted texts none = sym (append-nil texts)
texts_behind (Marked place mark) from posted texts none = sym (append-nil texts)
texts_behind (Packed plan base) from posted texts none = absurd none

-- links leave the texts
texts_in : (links : Links) (found : Option LoadedMessage) (loaded : Loaded) → (with_links_in links found loaded).texts_len ≡ loaded.texts_len
texts_in links None loaded = refl
texts_in links (Some message) loaded = refl

-- so do those of a plan
texts_of : (plan : List Links) (loaded : Loaded) → (with_links_of plan loaded).texts_len ≡ loaded.texts_len
texts_of [] loaded = refl
texts_of (links ∷ plan) loaded =
    texts_of plan (with_links_in links (loaded_at loaded links.number) loaded) ∙ texts_in links (loaded_at loaded links.number) loaded

-- the length of the texts is then longer by that of this text
longer : (change : Change) (from : Loaded) (posted : List ℕ) → IsNoPacking change → IsTextOf change (text_behind change posted)
    → (after change from).texts_len ≡ from.texts_len + length (text_behind change posted)
longer Nothing from posted none is = omega arith
longer (Posted message None) from posted none is = ap (λ (n : ℕ). from.texts_len + n) is
longer (Posted message (Some one)) from posted none is = ap (λ (n : ℕ). from.texts_len + n) is
longer (Headed at) from posted none is = omega arith
longer (Edited place message) from posted none is = ap (λ (n : ℕ). from.texts_len + n) is
longer (Killed place) from posted none is = omega arith
longer (Relinked plan) from posted none is = let same = texts_of plan from in omega (arith, same)
longer (Marked place mark) from posted none is = omega arith
longer (Packed plan base) from posted none is = absurd none

-- what a redo does for a change with this text behind the others
pub record IsPutIn (redo : RedoView) (from : Loaded) (change : Change) (text : List ℕ) : Type 0 where
  pub updates : UpdatesBut (IsMoved change) redo from (after change from) text
  pub numbered : NumbersPosted redo from change
  pub index : KeepsIndexOnKill redo from change
  pub writable : IsWritable redo

-- each header stays where it was, with its number, but that of a message that is edited; this one, and a new one, stands behind the others
headers_kept : (answer : Reply) (limit : ℕ) (redo : RedoView) (from : Loaded) (change : Change) (text : List ℕ) → IsNoPacking change → IsPutIn redo from change text
    → Fits limit change from → NamesNumber change from answer → (files : Files) → Loads from files → KeepsHeaders change answer from (after change from) files (changed redo files)
headers_kept answer limit redo from Nothing text none put fits named files loads =
    keeps_headers answer Nothing redo from (after Nothing from) text put.updates (λ place moved. moved) refl files loads
headers_kept answer limit redo from (Posted message neighbour) text none put fits named files loads =
    let names : NamesWritten answer (next_of from) = subst (λ (r : Reply). NamesWritten r (next_of from)) (sym named) refl in
    record {
      places = put.updates.places;
      numbers = put.updates.numbers files loads;
      behind = λ place other there here. elim there [
        | inl moved ↦ absurd moved
        | inr past ↦ stands_behind answer from message other (next_of from) redo files
            (last_message (headed_where neighbour from).slots place message other (let same = as_many neighbour from in omega (arith, past, same)) here)
            fits.0.header_at fits.0.text_at put.numbered names loads
      ];
    }
headers_kept answer limit redo from (Headed at) text none put fits named files loads =
    keeps_headers answer (Headed at) redo from (after (Headed at) from) text put.updates (λ place moved. moved) (length-set from.slots at.place _) files loads
headers_kept answer limit redo from (Edited place message) text none put fits named files loads =
    let names : NamesWritten answer (from.base + place) = subst (λ (r : Reply). NamesWritten r (from.base + place)) (sym named) refl in
    let as_many = length-set from.slots place (slot.Live message) in
    record {
      places = put.updates.places;
      numbers = put.updates.numbers files loads;
      behind = λ at other there here. elim there [
        | inl moved ↦ stands_behind answer from message other (from.base + place) redo files
            (message_set from.slots place message fits.was other fits.here (subst (λ (k : ℕ). IsMessageAt (after (Edited place message) from) k other) moved here))
            fits.header_at fits.text_at put.numbered names loads
        | inr past ↦ (let within = slice_get_within (after (Edited place message) from).slots at _ here in absurd (omega (arith, past, within, as_many)))
      ];
    }
headers_kept answer limit redo from (Killed place) text none put fits named files loads =
    keeps_headers answer (Killed place) redo from (after (Killed place) from) text put.updates (λ other moved. moved) (length-set from.slots place _) files loads
headers_kept answer limit redo from (Relinked plan) text none put fits named files loads =
    keeps_headers answer (Relinked plan) redo from (after (Relinked plan) from) text put.updates (λ place moved. moved) (length_of plan from) files loads
headers_kept answer limit redo from (Marked place mark) text none put fits named files loads =
    keeps_headers answer (Marked place mark) redo from (after (Marked place mark) from) text put.updates (λ other moved. moved) refl files loads
headers_kept answer limit redo from (Packed plan base) text none put fits named files loads = absurd none

-- something that is pending is done by the redo
pub made_some : (change : Change) (redo : RedoView) (files : Files) → change ≢ Nothing → made change redo files ≡ changed redo files
made_some Nothing redo files some = absurd (some refl)
made_some (Posted message neighbour) redo files some = refl
made_some (Headed at) redo files some = refl
made_some (Edited place message) redo files some = refl
made_some (Killed place) redo files some = refl
made_some (Relinked plan) redo files some = refl
made_some (Marked place mark) redo files some = refl
made_some (Packed plan base) redo files some = refl

-- what is put is pending
pending_of : (limit : ℕ) (contents : Option Files) (redo : RedoView) (change : Change) (from : Loaded) (posted texts : List ℕ) → change ≢ Nothing → IsNoPacking change
    → IsTextOf change (text_behind change posted) → IsPutIn redo from change (text_behind change posted) → Fits limit change from → IsSound limit (after change from)
    → length texts ≡ from.texts_len → IsPending limit contents None redo change from posted texts (coming_of change from posted texts)
pending_of limit contents redo change from posted texts some kind is_text put fits sound sized =
    let text : List ℕ = text_behind change posted in
    let behind : texts_after change from posted texts ≡ texts ++ text = texts_behind change from posted texts kind in
    record {
      some = some;
      becomes = refl;
      texts_are = refl;
      change = record {
        brings = λ files there. subst (λ (t : List ℕ). BringsComing redo from texts None (record { to = after change from; texts = t })) (sym behind)
            (brings redo from (after change from) texts text None put.updates.makes);
        writable = put.writable;
      };
      fits = fits;
      sound = sound;
      sized = ap length behind ∙ length-append texts text ∙ ap (λ (n : ℕ). n + length text) sized ∙ sym (longer change from posted kind is_text);
      short = (none_of_pack change redo from (after change from) kind).1;
    }

-- no other answer says how headers stand
none_packed : (answer : Reply) → (IsPacked answer → ⊥) → (to : Loaded) (files : Files) → PacksHeaders answer to files
none_packed (reply.Packed base live dropped) other to files = absurd (other (record { base = base; live = live; dropped = dropped; is = refl }))
none_packed (reply.Posted number) other to files = tt
none_packed (reply.Edited number) other to files = tt
none_packed (reply.Text letter) other to files = tt
none_packed (reply.Killed number) other to files = tt
none_packed (reply.Marked last high) other to files = tt
none_packed (reply.Relinked changed) other to files = tt
none_packed (reply.Denied rule) other to files = tt
none_packed (reply.NoMessage number) other to files = tt
none_packed (reply.TooLong field len) other to files = tt
none_packed (reply.EmptyName field) other to files = tt
none_packed (reply.SlotsFull slots) other to files = tt
none_packed (reply.SubfieldsFull len) other to files = tt
none_packed (reply.HeadersFull len) other to files = tt
none_packed (reply.TextFull len) other to files = tt
none_packed (reply.NumbersSpent next) other to files = tt
none_packed (reply.MarksFull marks) other to files = tt

-- a step of which the redo does what it changes
pub step_decided : (rules : AreaRules) (from : Loaded) (texts : List ℕ) (contents : Option Files) (redo : RedoView) (user : User) (moment : ℕ) (command : Command) (shows : List ℕ → Reply) (decided : Decided)
    → IsStepOf rules from user moment command shows decided.pending.change → IsAnswerBy shows from texts contents decided.reply
    → (decided.pending.change ≢ Nothing → IsPutIn redo from decided.pending.change (text_behind decided.pending.change (written_text command)))
    → BringsRoom decided.pending.change decided.pending.room from → length texts ≡ from.texts_len → IsDecided rules from texts contents None redo user moment command decided
step_decided rules from texts contents redo user moment command shows decided is answer put room sized =
    let change : Change = decided.pending.change in
    let posted : List ℕ = written_text command in
    let coming : Coming = coming_of change from posted texts in
    let told : IsToldBy decided.reply change = subst (λ (r : Reply). IsToldBy r change) (sym answer.answers) (is.told answer.others) in
    let unchanged : change ≡ Nothing → coming ≡ record { to = from; texts = texts } = λ none. ap (λ (c : Change). coming_of c from posted texts) none in
    record {
      coming = coming;
      change = elim (nothing_or change) [
        | inl none ↦ inl (record { none = none; same = unchanged none })
        | inr some ↦ inr (pending_of rules.slots contents redo change from posted texts some is.kind is.text (put some) is.fits is.sound sized)
      ];
      room = room;
      step = λ told. subst (λ (r : Reply). Step rules (state_of texts from) user moment command r (state_of coming.texts coming.to)) (sym (answer.told told)) (is.step texts sized);
      somewhere = record {
        texts = answer.others;
        sized = answer.sized;
        step = subst (λ (r : Reply). Step rules (state_of answer.others from) user moment command r (state_of (texts_after change from posted answer.others) (after change from)))
            (sym answer.answers) (is.step answer.others answer.sized);
      };
      idle = λ nothing.
          let none : change ≡ Nothing = is.idle answer.others (subst (ChangesNothing command) answer.answers nothing) in
          record { none = none; same = unchanged none };
      kind = λ no. (none_of_pack change redo from from is.kind).0;
      told = told;
      headers = λ same files has. elim (nothing_or change) [
        | inl none ↦ subst (λ (c : Change). KeepsHeaders c decided.reply from (after c from) files (made c redo files)) (sym none) (keeps_all decided.reply from files)
        | inr some ↦ subst (KeepsHeaders change decided.reply from (after change from) files) (sym (made_some change redo files some))
            (headers_kept decided.reply rules.slots redo from change (text_behind change posted) is.kind (put some) is.fits
            (subst (NamesNumber change from) (sym answer.answers) (is.named answer.others)) files has.holds.loads)
      ];
      index = elim (nothing_or change) [
        | inl none ↦ subst (KeepsIndexOnKill redo from) (sym none) tt
        | inr some ↦ (put some).index
      ];
      packs = λ files has. none_packed decided.reply (λ packed. (none_of_pack change redo from from is.kind).0 (subst (λ (r : Reply). IsToldBy r change) packed.is told)) coming.to (made change redo files);
    }

-- a step that changes nothing
pub unchanged_decided : (rules : AreaRules) (from : Loaded) (texts : List ℕ) (contents : Option Files) (redo : RedoView) (user : User) (moment : ℕ) (command : Command) (shows : List ℕ → Reply) (decided : Decided) (answer : Reply)
    → decided.reply ≡ answer → decided.pending.change ≡ Nothing → decided.pending.room ≡ no_room → IsStepOf rules from user moment command shows Nothing
    → IsAnswerBy shows from texts contents answer → length texts ≡ from.texts_len → IsDecided rules from texts contents None redo user moment command decided
unchanged_decided rules from texts contents redo user moment command shows decided answer is none bare step by sized =
    step_decided rules from texts contents redo user moment command shows decided
    (subst (IsStepOf rules from user moment command shows) (sym none) step)
    (subst (IsAnswerBy shows from texts contents) (sym is) by)
    (λ some. absurd (some none)) (subst (λ (change : Change). BringsRoom change decided.pending.room from) (sym none) bare) sized

-- a reply that is the same whatever the texts are
pub same_answer : (from : Loaded) (texts : List ℕ) (contents : Option Files) (answer : Reply) → length texts ≡ from.texts_len → IsAnswerBy (λ texts. answer) from texts contents answer
same_answer from texts contents answer sized = record { told = λ told. refl; others = texts; sized = sized; answers = refl }

-- what holds where files are told holds of a letter that is told
of_letter : (contents : Option Files) (letter : Letter) (P : Type 0) → IsTold (reply.Text letter) contents → ForSome contents (λ files. P) → P
of_letter contents letter P told is = by_contents contents refl (told letter refl)
  where
    by_contents : (o : Option Files) → contents ≡ o → IsSome o → P
    by_contents None none some = absurd (not_some some)
      where
        not_some : IsSome {T = Files} None → ⊥
        not_some some = cc
    by_contents (Some files) there some = is files there

-- texts in which a message has a text
record HasText (message : LoadedMessage) (text : List ℕ) (len : ℕ) : Type 0 where
  pub texts : List ℕ
  pub sized : length texts ≡ len
  pub is : text_of texts message ≡ text

-- there are such texts, where there is room for that one
has_text : (message : LoadedMessage) (text : List ℕ) (len : ℕ) → IsTextWithin len message.text_at message.text_len → length text ≡ message.text_len → HasText message text len
has_text message text len within long = elim within.placed [
  | inl empty ↦ record {
    texts = replicate len 0;
    sized = length-replicate len 0;
    is = ap (λ (n : ℕ). take n (drop message.text_at (replicate len 0))) empty ∙ sym (nil_from_length text (long ∙ empty));
  }
  | inr placed ↦
      let at : ℕ = message.text_at in
      let front : List ℕ = replicate at 0 in
      let rest : List ℕ = replicate (len - (at + message.text_len)) 0 in
      let low : length front ≡ at = length-replicate at 0 in
      let high : length rest ≡ len - (at + message.text_len) = length-replicate (len - (at + message.text_len)) 0 in
      let inside : at + message.text_len ≤ len = placed.0 in
      record {
        texts = front ++ (text ++ rest);
        sized = omega (arith, length-append front (text ++ rest), length-append text rest, low, high, inside, long);
        is = ap (take message.text_len)
            (drop-append-le at front (text ++ rest) (omega (arith, low)) ∙ ap (λ (f : List ℕ). f ++ (text ++ rest)) (drop_all at front (omega (arith, low))))
            ∙ take-append-le message.text_len text rest (omega (arith, long)) ∙ take_all message.text_len text (omega (arith, long));
      }
]

-- a letter with a text of the message's length, which is that of these texts where they are told
pub letter_answer : (from : Loaded) (texts : List ℕ) (contents : Option Files) (number : ℕ) (head : Head) (message : LoadedMessage) (text : List ℕ) (letter : Letter)
    → IsTextWithin from.texts_len message.text_at message.text_len → length text ≡ message.text_len → letter ≡ letter_of number (shown_message head message text)
    → ForSome contents (λ files. text ≡ text_of texts message)
    → IsAnswerBy (letter_in number head message) from texts contents (reply.Text letter)
letter_answer from texts contents number head message text letter within long shows found =
    let has : HasText message text from.texts_len = has_text message text from.texts_len within long in
    let as_shown : (other : List ℕ) → text ≡ other → reply.Text letter ≡ reply.Text (letter_of number (shown_message head message other)) =
    λ other same. ap (λ (l : Letter). reply.Text l) (shows ∙ ap (λ (t : List ℕ). letter_of number (shown_message head message t)) same) in
    record {
      told = λ told. as_shown (text_of texts message) (of_letter contents letter (text ≡ text_of texts message) told found);
      others = has.texts;
      sized = has.sized;
      answers = as_shown (text_of has.texts message) (sym has.is);
    }

-- the texts after a change that is none of a pack begin with those before
texts_kept : (change : Change) (from : Loaded) (posted texts : List ℕ) → (IsPacking change → ⊥) → take (length texts) (texts_after change from posted texts) ≡ texts
texts_kept Nothing from posted texts none = keeps_same texts
texts_kept (Posted message neighbour) from posted texts none = keeps_more texts posted
texts_kept (Headed at) from posted texts none = keeps_same texts
texts_kept (Edited place message) from posted texts none = keeps_more texts posted
texts_kept (Killed place) from posted texts none = keeps_same texts
texts_kept (Relinked plan) from posted texts none = keeps_same texts
texts_kept (Marked place mark) from posted texts none = keeps_same texts
texts_kept (Packed plan base) from posted texts none = absurd (none tt)

-- so do those to come
pub keeps_texts : (limit : ℕ) (contents : Option Files) (copies : Option Shadow) (redo : RedoView) (pending : Change) (from : Loaded) (posted texts : List ℕ) (coming : Coming)
    → IsPending limit contents copies redo pending from posted texts coming → (IsPacking pending → ⊥) → take (length texts) coming.texts ≡ texts
keeps_texts limit contents copies redo pending from posted texts coming is none =
    ap (take (length texts)) is.texts_are ∙ texts_kept pending from posted texts none

-- a live message in a sound area is within its files
pub within_is : (limit place : ℕ) (message : LoadedMessage) (from : Loaded) → IsMessageAt from place message → IsSound limit from
    → IsMessageWithin from.headers_len from.texts_len message
within_is limit place message from here sound = slot_within limit from place (slot.Live message) here sound

-- one message stands at a place
pub same_message : (from : Loaded) (place : ℕ) (one other : LoadedMessage) → IsMessageAt from place one → IsMessageAt from place other → one ≡ other
same_message from place one other first second = live_same one other (sym first ∙ second)
  where
    live_same : (one other : LoadedMessage) → Some (slot.Live one) ≡ Some (slot.Live other) → one ≡ other
    live_same one other is = cc
