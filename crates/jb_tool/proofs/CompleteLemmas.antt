-- What the tools answer of a base that opens, and of none.
use Rattle.std.proofs.Common.{◌≡◌, ◌≢◌, ◌⊎◌, inl, inr, ℕ, List, length, ap, refl, sym, ◌∙◌, subst, arith}
use Rattle.std.specs.Prelude.{Bool, true, false, Ok, Err, if◌then◌else◌, ◌==◌}
use Rattle.jb_area_open.proofs.RefusalLemmas.{no_bad_place, refuses_nothing_that_opens}
use Rattle.jb_area_open.specs.Laws.{OpensWithin}
use Rattle.jb_area_open.specs.declared.error.OpeningError.TheVariants.{BadJournal as bad_journal, Base}
use Rattle.jb_change.specs.NewBase.{AreEmpty}
use Rattle.jb_disk.specs.Device.{Device, RoseIf}
use Rattle.jb_disk.specs.Files.{Files}
use Rattle.jb_disk.specs.declared.file.FileId.TheVariants.{Jhr}
use Rattle.jb_image.proofs.Theorems.{not_refused_where_open}
use Rattle.jb_image.specs.Answers.{IsRefusedBy}
use Rattle.jb_image.specs.Laws.{IsNotOfFiles}
use Rattle.jb_image.specs.Places.{bytes_at}
use Rattle.jb_image.specs.Stands.{Loads}
use Rattle.jb_image.specs.declared.error.OpenError.{OpenError}
use Rattle.jb_image.specs.declared.error.OpenError.TheVariants.{OutOfMemory as no_memory, StoreFault}
use Rattle.jb_limits.specs.declared.limits.TheConstants.{MOST_SLOTS}
use Rattle.jb_model.specs.Answered.{Answered}
use Rattle.jb_model.specs.declared.command.Command.{Command}
use Rattle.jb_model.specs.declared.command.Command.TheVariants as command
use Rattle.jb_redo.proofs.WayLemmas.{one_replay}
use Rattle.jb_redo.specs.Replay.{Replays}
use Rattle.jb_state.specs.Relinked.{wrongly_linked}
use Rattle.jb_state.specs.State.{AreaState}
use Rattle.jb_state.specs.declared.loaded.Loaded.{Loaded}
use Rattle.jb_tool.specs.Making.{RefusesMaking}
use Rattle.jb_tool.specs.Laws.{IsCompleteAnswer, IsUsedOn, MakesWhereNoneIs, ServesWhatOpens}
use Rattle.jb_tool.specs.Recovered.{RefusesReading, is_tool_fault}
use Rattle.jb_tool.specs.Tending.{Tends, tool_answer, tool_answered}
use Rattle.jb_tool.specs.declared.error.ToolError.{ToolError}
use Rattle.jb_tool.specs.declared.error.ToolError.TheVariants.{BadJournal, Open, AlreadyThere, TextFull, NotEmpty}
use Rattle.jb_tool.specs.declared.tool.Tool.{Tool}
use Rattle.jb_tool.specs.declared.tool.Tool.TheVariants as tool

-- what is not of the files and no fault is want of memory
pub wants_memory : (error : OpenError) → IsNotOfFiles error → Open error ≢ Open StoreFault → error ≡ no_memory
wants_memory StoreFault of_none fault = absurd (fault refl)
wants_memory no_memory of_none fault = refl
wants_memory _ of_none fault = absurd of_none

-- files that hold an area are not empty
not_empty : (files : Files) (loaded : Loaded) → Loads loaded files → AreEmpty files → ⊥
not_empty files loaded loads empty =
    let size = subst (λ (b : List ℕ). length (bytes_at 0 1024 b) ≡ 1024) (empty Jhr (omega arith)) loads.header.size in
    absurd (omega (arith, size))

-- two answers, neither of which is that the texts are too long
neither_full : (same : Bool) (one other : Answered) (len : ℕ) → tool_answer one.reply ≢ Err (TextFull len) → tool_answer other.reply ≢ Err (TextFull len)
    → tool_answer (if same then one else other).reply ≢ Err (TextFull len)
neither_full true one other len no_one no_other = no_one
neither_full false one other len no_one no_other = no_other

-- so a relink is not refused for its texts
relink_line : (area : AreaState) (len : ℕ) → tool_answer (tool_answered command.Relink area).reply ≢ Err (TextFull len)
relink_line area len = neither_full (wrongly_linked area == 0) _ _ len (λ is. absurd (cc)) (λ is. absurd (cc))

module _ (was : Files) (used : Tool) (moment : ℕ) (before after : Device) where
  -- where the count did not rise, no fault is answered
  no_fault : (error : ToolError) → IsUsedOn was used moment before after (Err error) → error ≢ Open StoreFault
  no_fault error is fault = is.quiet (subst (λ (e : ToolError). RoseIf (is_tool_fault e) before.faults after.faults) fault is.answers.faults.cause)

  module _ (opens : OpensWithin MOST_SLOTS was) where
    -- a tool that looks serves what opens
    looks : (error : ToolError) → IsUsedOn was used moment before after (Err error) → RefusesReading before after error → IsCompleteAnswer used (Err error)
    looks (BadJournal at) is refused = refuses_nothing_that_opens MOST_SLOTS before after was (bad_journal at) is.told opens refused
    looks (Open error) is refused =
        let fault = no_fault (Open error) is in
        let so = (refused (λ same. fault (ap Open same)) was is.told).replayed opens.safe in
        let one : so.files ≡ opens.after = one_replay was so.files opens.after so.replays opens.replays in
        wants_memory error (not_refused_where_open MOST_SLOTS opens.after opens.loaded error opens.opens (subst (λ (f : Files). IsRefusedBy MOST_SLOTS f error) one so.has)) fault
    looks AlreadyThere is refused = absurd refused
    looks (TextFull len) is refused = absurd refused
    looks (NotEmpty file) is refused = absurd refused

    -- and so does one that tends it, where the texts may be too long for that one
    tends : (command : Command) (error : ToolError) → ((len : ℕ) → Tends command before after (Err (TextFull len)) → used ≡ tool.Pack)
        → IsUsedOn was used moment before after (Err error) → Tends command before after (Err error) → IsCompleteAnswer used (Err error)
    tends command (BadJournal at) full is refused = refuses_nothing_that_opens MOST_SLOTS before after was (bad_journal at) is.told opens refused
    tends command (Open error) full is refused = elim refused [
      | inl memory ↦ memory.0
      | inr later ↦ elim later [
        | inl refuses ↦ wants_memory error (refuses_nothing_that_opens MOST_SLOTS before after was (Base error) is.told opens refuses) (no_fault (Open error) is)
        | inr memory ↦ memory.0
      ]
    ]
    tends command AlreadyThere full is refused = absurd refused
    tends command (TextFull len) full is refused = full len refused
    tends command (NotEmpty file) full is refused = absurd refused

-- what is not made of files that replay is not for their journal
unmade : (was files : Files) (moment : ℕ) (before after : Device) (error : ToolError) → Replays was files → IsUsedOn was tool.Make moment before after (Err error)
    → (error ≡ Open no_memory) ⊎ (error ≡ AlreadyThere)
unmade was files moment before after (BadJournal at) replays is =
    let over = is.answers.says was is.told in
    absurd (no_bad_place was files at replays over.0 over.1)
unmade was files moment before after (Open error) replays is = elim is.answers.says [
  | inl memory ↦ inl (ap Open memory.0)
  | inr stopped ↦ absurd (no_fault was tool.Make moment before after (Open error) is (ap Open stopped))
]
unmade was files moment before after AlreadyThere replays is = inr refl
unmade was files moment before after (TextFull len) replays is = absurd is.answers.says
unmade was files moment before after (NotEmpty file) replays is = absurd is.answers.says

-- a tool serves each base that opens
pub serves_what_opens : ServesWhatOpens
serves_what_opens was tool.List moment before after (Ok text) opens is = λ same. absurd (cc)
serves_what_opens was tool.List moment before after (Err error) opens is = looks was tool.List moment before after opens error is is.answers.says
serves_what_opens was tool.Check moment before after (Ok text) opens is = λ same. absurd (cc)
serves_what_opens was tool.Check moment before after (Err error) opens is = looks was tool.Check moment before after opens error is is.answers.says
serves_what_opens was tool.Make moment before after (Ok text) opens is =
    let none = (is.answers.says was is.told).replayed opens.safe in
    absurd (not_empty opens.after opens.loaded opens.opens.loads (subst AreEmpty (one_replay was none.after opens.after none.replays opens.replays) none.has))
serves_what_opens was tool.Make moment before after (Err error) opens is =
    let complete : ToolError → Type 0 = λ e. IsCompleteAnswer tool.Make (Err e) in
    elim (unmade was opens.after moment before after error opens.replays is) [ inl memory ↦ subst complete (sym memory) refl | inr there ↦ subst complete (sym there) refl ]
serves_what_opens was tool.Relink moment before after (Ok text) opens is = λ same. absurd (cc)
serves_what_opens was tool.Relink moment before after (Err error) opens is =
    tends was tool.Relink moment before after opens command.Relink error (λ len full. absurd (relink_line (full was is.told).old len (full was is.told).outcome.0)) is is.answers.says
serves_what_opens was tool.Pack moment before after (Ok text) opens is = λ same. absurd (cc)
serves_what_opens was tool.Pack moment before after (Err error) opens is =
    tends was tool.Pack moment before after opens command.Pack error (λ len full. refl) is is.answers.says

-- a base is made where none is
pub makes_where_none_is : MakesWhereNoneIs
makes_where_none_is was moment before after (Ok text) none is = tt
makes_where_none_is was moment before after (Err error) none is = elim (unmade was none.empty.after moment before after error none.empty.replays is) [
  | inl memory ↦ memory
  | inr there ↦
      let so = ((subst (RefusesMaking before after) there is.answers.says) was is.told).replayed none.safe in
      let one : so.files ≡ none.empty.after = one_replay was so.files none.empty.after so.replays none.empty.replays in
      absurd (so.has.some (ap (λ (f : Files). f so.has.file) one ∙ none.empty.has so.has.file so.has.of_base))
]
