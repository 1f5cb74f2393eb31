-- Parts put one behind another into the journal.
use Rattle.std.proofs.Common.{◌≡◌, ℕ, ◌+◌, ◌≤◌, List, [], ◌++◌, length, sym, ◌∙◌, ap, arith, refl, length-append, Result, Ok, OnOk, Option}
use Rattle.std.specs.Prelude.{IsErr}
use Rattle.std.specs.Option.{option_map}
use Rattle.jb_disk.specs.declared.file.FileId.TheVariants.{Jnl}
use Rattle.jb_disk.specs.Files.{Files, written}
use Rattle.jb_disk.specs.Device.{Device, TellsAlike}
use Rattle.jb_disk.specs.Runs.{Keeps}
use Rattle.jb_disk.proofs.RunLemmas.{keeps-refl, keeps-then}
use Rattle.jb_journal.specs.Coming.{ComeBy}
use Rattle.jb_journal.specs.Pending.{Pending, told_with, IsBound, Flushes, Gathers, PutsBytes}
use Rattle.jb_journal.specs.Stages.{KeepsHead}
use Rattle.jb_journal.specs.Writing.{Reaches}
use Rattle.jb_journal.proofs.ComingLemmas.{come_none, come_on}
use Rattle.jb_journal.proofs.GatherLemmas.{seen-none}
use Rattle.jb_journal.proofs.Told.{fails_then, fails_as, none_done, on_ok, option_map-twice, option_map-same, written-twice, Reaches-written, told_join}

-- one part
pub puts_one : {T E : Type 0} (at : ℕ) (bytes : List ℕ) (was : Pending) (old : Device) (now : Pending) (new : Device) (result : Result T E) → 16 ≤ at → IsBound was old.contents
    → Gathers Jnl at bytes was old now new result → PutsBytes at bytes was old now new result
puts_one at bytes was old now new result behind bound gathers =
    let safe = gathers.head bound.head refl behind in
    record { done = gathers.told; bound = on_ok result _ _ (λ held. record { head = safe.0; held = held }) gathers.held; keeps = safe.1; come = gathers.come; cause = gathers.cause }

-- one part, and then the rest
pub puts_then : {T E U F : Type 0} (at place : ℕ) (front back whole : List ℕ) (was : Pending) (old : Device) (half : Pending) (mid : Device) (now : Pending) (new : Device) (value : U) (result : Result T E)
    → Reaches (told_with was old.contents) Jnl (at + length whole) → place ≡ at + length front → whole ≡ front ++ back
    → PutsBytes {T = U} {E = F} at front was old half mid (Ok value) → PutsBytes place back half mid now new result → PutsBytes at whole was old now new result
puts_then at place front back whole was old half mid now new value result room place_is parts first second = record {
  done = on_ok result _ _ (told_join (told_with was old.contents) (told_with half mid.contents) (told_with now new.contents) Jnl at place front back whole room place_is parts first.done) second.done;
  bound = second.bound;
  come = on_ok result _ _ (come_on [] [] old.moments mid.moments new.moments first.come) second.come;
  keeps = λ start. keeps-then (KeepsHead start) old mid new (first.keeps start) (second.keeps start);
  cause = fails_then old mid new result first.cause.kept first.cause.alike second.cause;
}

-- a part that was refused
pub puts_failed : {T E U F : Type 0} (at : ℕ) (front whole : List ℕ) (was : Pending) (old : Device) (now : Pending) (new : Device) (first : Result T E) (result : Result U F) → IsErr first → IsErr result
    → PutsBytes at front was old now new first → PutsBytes at whole was old now new result
puts_failed at front whole was old now new first result fails err puts = record { done = none_done result _ err; bound = none_done result _ err; come = none_done result _ err; keeps = puts.keeps; cause = fails_as old new first result fails err puts.cause }

-- the rest is still to be put at this place
pub record Writing (was : Pending) (initial : Device) (pending : Pending) (now : Device) (at place : ℕ) (whole rest : List ℕ) : Type 0 where
  pub behind : 16 ≤ place
  pub end : place + length rest ≡ at + length whole
  pub told : option_map (written Jnl place rest) (told_with pending now.contents) ≡ option_map (written Jnl at whole) (told_with was initial.contents)
  pub room : Reaches (told_with pending now.contents) Jnl (at + length whole)
  pub bound : IsBound pending now.contents
  pub come : ComeBy [] [] initial.moments now.moments
  pub counted : now.faults ≡ initial.faults
  pub alike : TellsAlike initial now
  pub keeps : (start : Files) → Keeps (KeepsHead start) initial now

-- nothing is put yet
pub writing_start : (was : Pending) (device : Device) (at : ℕ) (whole : List ℕ) → 16 ≤ at → IsBound was device.contents → Reaches (told_with was device.contents) Jnl (at + length whole) → Writing was device was device at at whole whole
writing_start was device at whole behind bound room = record {
  behind = behind;
  end = refl;
  told = refl;
  room = room;
  bound = bound;
  come = come_none device.moments;
  counted = refl;
  alike = refl;
  keeps = λ start. keeps-refl (KeepsHead start) device;
}

-- one part more
pub writing_on : {T E : Type 0} (was : Pending) (initial : Device) (pending : Pending) (now : Device) (coming : Pending) (next : Device) (at place n : ℕ) (whole rest front back : List ℕ) (value : T)
    → Writing was initial pending now at place whole rest → n ≡ length front → rest ≡ front ++ back → PutsBytes {T = T} {E = E} place front pending now coming next (Ok value)
    → Writing was initial coming next at (place + n) whole back
writing_on was initial pending now coming next at place n whole rest front back value w size parts puts =
    let lengths : length rest ≡ length front + length back = ap length parts ∙ length-append front back in
    let end = w.end in
    let before : Option Files = told_with pending now.contents in
    let after : Option Files = told_with coming next.contents in
    let here : Reaches before Jnl (place + length front) = λ files is. omega (arith, w.room files is, lengths) in
    record {
      behind = omega (arith, w.behind);
      end = omega (arith, lengths);
      told =
          ap (λ (k : ℕ). option_map (written Jnl (place + k) back) after) size
          ∙ ap (option_map (written Jnl (place + length front) back)) puts.done
          ∙ option_map-twice (written Jnl place front) (written Jnl (place + length front) back) before
          ∙ option_map-same _ _ before (λ files is. written-twice Jnl place front back files (omega (arith, w.room files is, lengths)))
          ∙ ap (λ (l : List ℕ). option_map (written Jnl place l) before) (sym parts)
          ∙ w.told;
      room = Reaches-written before after Jnl Jnl place (at + length whole) front puts.done here w.room;
      bound = puts.bound;
      come = come_on [] [] initial.moments now.moments next.moments w.come puts.come;
      counted = puts.cause.kept ∙ w.counted;
      alike = puts.cause.alike ∙ w.alike;
      keeps = λ start. keeps-then (KeepsHead start) initial now next (w.keeps start) (puts.keeps start);
    }

-- the room that a part has
pub writing_room : (was : Pending) (initial : Device) (pending : Pending) (now : Device) (at place : ℕ) (whole rest front back : List ℕ) → Writing was initial pending now at place whole rest → rest ≡ front ++ back
    → Reaches (told_with pending now.contents) Jnl (place + length front)
writing_room was initial pending now at place whole rest front back w parts = λ files is.
    let lengths : length rest ≡ length front + length back = ap length parts ∙ length-append front back in
    omega (arith, w.room files is, w.end, lengths)

-- a part that was refused
pub writing_failed : {T E U F : Type 0} (was : Pending) (initial : Device) (pending : Pending) (now : Device) (coming : Pending) (next : Device) (at place : ℕ) (whole rest front : List ℕ) (first : Result T E) (result : Result U F)
    → Writing was initial pending now at place whole rest → IsErr first → IsErr result → PutsBytes place front pending now coming next first → PutsBytes at whole was initial coming next result
writing_failed was initial pending now coming next at place whole rest front first result w fails err puts = record {
  done = none_done result _ err;
  bound = none_done result _ err;
  come = none_done result _ err;
  keeps = λ start. keeps-then (KeepsHead start) initial now next (w.keeps start) (puts.keeps start);
  cause = fails_then initial now next result w.counted w.alike (fails_as now next first result fails err puts.cause);
}

-- all is put
pub writing_end : {E : Type 0} {T : Type 0} (was : Pending) (initial : Device) (pending : Pending) (now : Device) (at place : ℕ) (whole rest : List ℕ) (value : T) → Writing was initial pending now at place whole rest → rest ≡ []
    → PutsBytes {T = T} {E = E} at whole was initial pending now (Ok value)
writing_end was initial pending now at place whole rest value w none = record {
  done =
      sym (seen-none Jnl place (told_with pending now.contents))
      ∙ ap (λ (l : List ℕ). option_map (written Jnl place l) (told_with pending now.contents)) (sym none) ∙ w.told;
  bound = w.bound;
  come = w.come;
  keeps = w.keeps;
  cause = record { kept = w.counted; later = omega (arith, w.counted); failed = tt; refused = λ never. absurd never; alike = w.alike };
}

-- room that is left after a part
pub puts_room : {T E : Type 0} (at : ℕ) (bytes : List ℕ) (was : Pending) (old : Device) (now : Pending) (new : Device) (value : T) (end : ℕ) → PutsBytes {T = T} {E = E} at bytes was old now new (Ok value)
    → Reaches (told_with was old.contents) Jnl (at + length bytes) → Reaches (told_with was old.contents) Jnl end → Reaches (told_with now new.contents) Jnl end
puts_room at bytes was old now new value end puts here room = Reaches-written (told_with was old.contents) (told_with now new.contents) Jnl Jnl at end bytes puts.done here room

-- all is put and written, where nothing was on its way
pub puts_flushed : {T E U F : Type 0} (at : ℕ) (bytes : List ℕ) (was : Pending) (old : Device) (half : Pending) (mid : Device) (now : Pending) (new : Device) (value : U) (result : Result T E) → was.bytes ≡ []
    → PutsBytes {T = U} {E = F} at bytes was old half mid (Ok value) → Flushes half mid now new result → OnOk result (new.contents ≡ option_map (written Jnl at bytes) old.contents)
puts_flushed at bytes was old half mid now new value result none puts flush = on_ok result _ _ (λ told.
    told ∙ puts.done ∙ ap (λ (l : List ℕ). option_map (written Jnl at bytes) (option_map (written was.file was.at l) old.contents)) none
    ∙ ap (option_map (written Jnl at bytes)) (seen-none was.file was.at old.contents)) flush.told
