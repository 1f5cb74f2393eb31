-- From what a pack comes to in the loaded area to what is pending.
use Rattle.std.proofs.Common.{◌≡◌, ◌≢◌, Bool, true, false, cond, nat_lt, lt-ltb, le-ltb, inr, ℕ, ◌≤◌, List, [], ◌∷◌, All, length, Option, None, Some, ap, sym, refl, ◌∙◌, arith, length-append}
use Rattle.std.proofs.lemmas.List.Elements.{All-head, All-tail}
use Rattle.std.proofs.lemmas.List.Sums.{sum_by-cons}
use Rattle.jb_base.specs.Access.{first_refusal}
use Rattle.jb_base.specs.declared.area.Action.TheVariants.{Tend as Tending}
use Rattle.jb_base.specs.declared.area.AreaRules.{AreaRules}
use Rattle.jb_base.specs.declared.area.Rule.{Rule}
use Rattle.jb_limits.specs.declared.limits.TheConstants.{TEXTS_CEILING}
use Rattle.jb_base.specs.declared.user.User.{User}
use Rattle.jb_disk.specs.RedoView.{RedoView}
use Rattle.jb_disk.specs.Files.{Files}
use Rattle.jb_state.specs.Plan.{plan_of}
use Rattle.jb_state.specs.LiveSlots.{linkables_from}
use Rattle.jb_model.specs.Answered.{refused, unless_denied, unless_refused}
use Rattle.jb_model.specs.Pack.{pack_done, pack_refusal, pack_step}
use Rattle.jb_state.specs.Tight.{texts_together}
use Rattle.jb_state.specs.Sound.{IsSlotWithin, IsSound}
use Rattle.jb_state.specs.State.{AreaState, state_of, text_of}
use Rattle.jb_model.specs.declared.command.Command.TheVariants.{Pack}
use Rattle.jb_state.specs.declared.links.Links.{Links}
use Rattle.jb_state.specs.declared.loaded.Loaded.{Loaded}
use Rattle.jb_state.specs.declared.loaded.LoadedSlot.{LoadedSlot}
use Rattle.jb_state.specs.declared.loaded.LoadedSlot.TheVariants.{Empty, Killed, Live}
use Rattle.jb_model.specs.declared.reply.Reply.{Reply}
use Rattle.jb_model.specs.declared.reply.Reply.TheVariants as reply
use Rattle.jb_pack.proofs.SoundLemmas.{packed_sound}
use Rattle.jb_pack.proofs.StateLemmas.{base_packed, kept_within, length-text, state_packed, sum_of_kept, texts_of_state}
use Rattle.jb_state.specs.Packed.{kept_slots, packed, packed_texts, slot_text_size, texts_in, texts_size}
use Rattle.jb_pack.specs.Finish.{HoldsWithCopies, IsPackOfCopies}
use Rattle.jb_pack.specs.Plan.{AnswersPack}
use Rattle.jb_pack.specs.Shadow.{Shadow}
use Rattle.jb_pack.specs.declared.packing.Packing.TheVariants.{Fits, TextFull}
use Rattle.jb_held.specs.Pending.{BringsPacked}
use Rattle.jb_held.specs.declared.pending.Room.{Room}
use Rattle.jb_decide.specs.Decided.{IsDecided}
use Rattle.jb_decide.specs.Holds.{HoldsWith}
use Rattle.jb_decide.proofs.StepLemmas.{something, told_of_refusal}
use Rattle.jb_decide.specs.StepOf.{IsStepOf}
use Rattle.jb_model.specs.Standing.{is_refusal}
use Rattle.jb_state.specs.declared.change.Change.TheVariants.{Nothing, Packed}

-- the texts of live messages that lie within the texts have their lengths
length-texts : (headers_len texts_len : ℕ) (texts : List ℕ) (slots : List LoadedSlot) → length texts ≡ texts_len → All (IsSlotWithin headers_len texts_len) slots
    → length (texts_in texts slots) ≡ texts_size slots
length-texts headers_len texts_len texts [] size within = refl
length-texts headers_len texts_len texts (Empty ∷ slots) size within =
    let rest = length-texts headers_len texts_len texts slots size (All-tail (IsSlotWithin headers_len texts_len) Empty slots within) in
    omega (arith, sum_by-cons slot_text_size Empty slots)
length-texts headers_len texts_len texts (Killed at ∷ slots) size within =
    let rest = length-texts headers_len texts_len texts slots size (All-tail (IsSlotWithin headers_len texts_len) (Killed at) slots within) in
    omega (arith, sum_by-cons slot_text_size (Killed at) slots)
length-texts headers_len texts_len texts (Live message ∷ slots) size within =
    let rest = length-texts headers_len texts_len texts slots size (All-tail (IsSlotWithin headers_len texts_len) (Live message) slots within) in
    let here = All-head (IsSlotWithin headers_len texts_len) (Live message) slots within in
    omega (
      arith,
      sum_by-cons slot_text_size (Live message) slots,
      length-text texts_len texts message here.text size,
      length-append (text_of texts message) (texts_in texts slots),
    )

-- where a pack fits, so do the texts of the slots that are kept
fits_kept : (limit : ℕ) (loaded : Loaded) (texts : List ℕ) → IsSound limit loaded → length texts ≡ loaded.texts_len → texts_together (state_of texts loaded).slots ≤ TEXTS_CEILING
    → texts_size (kept_slots loaded) ≤ TEXTS_CEILING
fits_kept limit loaded texts sound size fits =
    let together = texts_of_state loaded.headers_len loaded.texts_len texts loaded.slots size sound.within in
    let kept = sum_of_kept slot_text_size refl (λ at. refl) loaded in
    omega (arith, fits, together, kept)

-- something changes
pub packed_some : (plan : List Links) (base : ℕ) → Packed plan base ≢ Nothing
packed_some plan base is = cc

-- the rule that keeps the user from it comes first
pub pack_by : (rules : AreaRules) (state : AreaState) (user : User) (rule : Option Rule) → first_refusal user rules Tending None ≡ rule
    → pack_step rules state user ≡ unless_denied state rule (unless_refused state (pack_refusal state) (pack_done state))
pack_by rules state user rule is = ap (λ (r : Option Rule). unless_denied state r (unless_refused state (pack_refusal state) (pack_done state))) is

-- else the answer hangs on the length of the texts together
refused_by : (rules : AreaRules) (state : AreaState) (user : User) (long : Bool) → first_refusal user rules Tending None ≡ None → nat_lt TEXTS_CEILING (texts_together state.slots) ≡ long
    → pack_step rules state user ≡ unless_refused state (cond long (Some (reply.TextFull (texts_together state.slots))) None) (pack_done state)
refused_by rules state user long allowed is =
    pack_by rules state user None allowed
    ∙ ap (λ (b : Bool). unless_refused state (cond b (Some (reply.TextFull (texts_together state.slots))) None) (pack_done state)) is

-- texts that are too long
pub full_step : (rules : AreaRules) (state : AreaState) (user : User) (len : ℕ) → first_refusal user rules Tending None ≡ None → AnswersPack state (TextFull len)
    → pack_step rules state user ≡ refused state (reply.TextFull len)
full_step rules state user len allowed full =
    refused_by rules state user true allowed (lt-ltb TEXTS_CEILING (texts_together state.slots) full.0) ∙ ap (λ (n : ℕ). refused state (reply.TextFull n)) (sym full.1)

-- but not where they fit
pub not_full : (limit : ℕ) (loaded : Loaded) (texts : List ℕ) (len : ℕ) → IsSound limit loaded → length texts ≡ loaded.texts_len → texts_size loaded.slots ≤ TEXTS_CEILING
    → AnswersPack (state_of texts loaded) (TextFull len) → ⊥
not_full limit loaded texts len sound size fits full =
    let long = full.0 in
    absurd (omega (arith, long, fits, texts_of_state loaded.headers_len loaded.texts_len texts loaded.slots size sound.within))

-- a pack that is refused
pub pack_refused : (rules : AreaRules) (from : Loaded) (user : User) (moment : ℕ) (answer : Reply) → is_refusal answer ≡ true → IsSound rules.slots from
    → ((texts : List ℕ) → length texts ≡ from.texts_len → pack_step rules (state_of texts from) user ≡ refused (state_of texts from) answer)
    → IsStepOf rules from user moment Pack (λ texts. answer) Nothing
pack_refused rules from user moment answer refusal sound is = record {
  step = is;
  fits = tt;
  sound = sound;
  kind = tt;
  text = refl;
  idle = λ texts nothing. refl;
  told = λ texts. told_of_refusal answer refusal;
  named = λ texts. tt;
}

-- a pack, out of the copies of all texts
pub pack_decided : (rules : AreaRules) (from : Loaded) (texts : List ℕ) (contents : Option Files) (shadow : Shadow) (redo : RedoView) (user : User) (moment base live dropped : ℕ) (plan : List Links) (room : Room)
    → first_refusal user rules Tending None ≡ None → IsSound rules.slots from → length texts ≡ from.texts_len
    → AnswersPack (state_of texts from) (Fits base live dropped) → IsPackOfCopies from shadow redo → plan ≡ plan_of (linkables_from from.base from.slots)
    → BringsPacked room from
    → IsDecided rules from texts contents (Some shadow) redo user moment Pack (record { reply = reply.Packed base live dropped; pending = record { change = Packed plan base; room = room } })
pack_decided rules from texts contents shadow redo user moment base live dropped plan room allowed sound size answer is links brought =
    let state : AreaState = state_of texts from in
    let fits : texts_size (kept_slots from) ≤ TEXTS_CEILING = fits_kept rules.slots from texts sound size answer.fits in
    let brings = is.brings in
    let both : (files : Files) → HoldsWith from texts (Some shadow) files → HoldsWithCopies from shadow files =
    λ files has. record { loads = has.holds.loads; has = has.has } in
    let done : pack_step rules state user ≡ record { reply = reply.Packed base live dropped; state = state_of (packed_texts texts from) (packed from) } =
    refused_by rules state user false allowed (le-ltb TEXTS_CEILING (texts_together state.slots) answer.fits)
    ∙ (λ i. record { reply = reply.Packed (sym answer.base i) (sym answer.live i) (sym answer.dropped i); state = sym (state_packed rules.slots texts from sound size) i }) in
    record {
      coming = record { to = packed from; texts = packed_texts texts from };
      change = inr (record {
        some = packed_some plan base;
        becomes = refl;
        texts_are = refl;
        change = record {
          brings = λ own told. record {
            legal = λ files has. brings.legal files (both files has);
            grown = λ files has. brings.grown files (both files has);
            made = λ files has. record {
              loads = (brings.made files (both files has)).loads;
              texts_are = (brings.made files (both files has)).texts_are ∙ ap (λ (t : List ℕ). packed_texts t from) has.holds.texts_are;
            };
          };
          writable = is.writable;
        };
        fits = (links, answer.base ∙ base_packed texts from, fits);
        sound = packed_sound rules.slots from sound fits;
        sized = length-texts from.headers_len from.texts_len texts (kept_slots from) size (kept_within rules.slots texts from sound size);
        short = is.short;
      });
      room = brought;
      step = λ told. done;
      somewhere = record { texts = texts; sized = size; step = done };
      idle = λ nothing. absurd (something Pack (reply.Packed base live dropped) refl (λ look. look) (λ links. cc) nothing);
      kind = λ none packing. none;
      told = tt;
      headers = λ none files has. absurd none;
      index = tt;
      packs = λ files has. (brings.made files (both files has)).together;
    }
