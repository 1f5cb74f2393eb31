-- A claim on an answer, from other claims on it.
use Rattle.std.proofs.Common.{◌≡◌, ◌≤◌, ℕ, Bool, false, Result, Ok, Err, IfOk, IfErr, OnOk, refl, sym, subst, arith}
use Rattle.jb_disk.specs.Device.{CountsFaults, Device, RoseIf}

-- a claim on what was done, where it was done
pub ok_gives : {T E : Type 0} (result : Result T E) (value : T) (P : Type 0) → result ≡ Ok value → OnOk result P → P
ok_gives {T} {E} result value P ok claim = subst (λ (r : Result T E). OnOk r P) ok claim

-- a claim on a refusal, where it is this one
pub err_gives : {T E : Type 0} (result : Result T E) (error : E) (P : E → Type 0) → result ≡ Err error → IfErr result P → P error
err_gives {T} {E} result error P refused claim = subst (λ (r : Result T E). IfErr r P) refused claim

module _ {T E : Type 0} where
  -- of a refusal
  pub if_err_then : (result : Result T E) (P Q : E → Type 0) → IfErr result P → ((error : E) → P error → Q error) → IfErr result Q
  if_err_then (Ok value) P Q is then = tt
  if_err_then (Err error) P Q is then = then error is

  -- of a refusal, from three claims
  pub if_err_then3 : (result : Result T E) (P Q R S : E → Type 0) → IfErr result P → IfErr result Q → IfErr result R → ((error : E) → P error → Q error → R error → S error) → IfErr result S
  if_err_then3 (Ok value) P Q R S first second third then = tt
  if_err_then3 (Err error) P Q R S first second third then = then error first second third

  -- of what was done, whatever it gives, from one claim
  pub on_ok_then : (result : Result T E) (P R : Type 0) → OnOk result P → (P → R) → OnOk result R
  on_ok_then (Ok value) P R is then = then is
  on_ok_then (Err error) P R is then = tt

  -- of what was done, whatever it gives
  pub on_ok_then2 : (result : Result T E) (P Q R : Type 0) → OnOk result P → OnOk result Q → (P → Q → R) → OnOk result R
  on_ok_then2 (Ok value) P Q R first second then = then first second
  on_ok_then2 (Err error) P Q R first second then = tt

  -- of what it gives
  pub if_ok_then2 : (result : Result T E) (P : T → Type 0) (Q : Type 0) (R : T → Type 0) → IfOk result P → OnOk result Q → ((value : T) → P value → Q → R value) → IfOk result R
  if_ok_then2 (Ok value) P Q R first second then = then value first second
  if_ok_then2 (Err error) P Q R first second then = tt

  -- of what it gives, from one claim
  pub if_ok_then : (result : Result T E) (P R : T → Type 0) → IfOk result P → ((value : T) → P value → R value) → IfOk result R
  if_ok_then (Ok value) P R is then = then value is
  if_ok_then (Err error) P R is then = tt

module _ {T E : Type 0} (is_fault : E → Bool) where
  -- where no call of the disk was made, no fault is counted
  pub counts_none : (device : Device) (result : Result T E) → IfErr result (λ error. is_fault error ≡ false) → CountsFaults is_fault device device result
  counts_none device (Ok value) none = record { quiet = refl; later = omega arith; cause = tt }
  counts_none device (Err error) none = record { quiet = tt; later = omega arith; cause = subst (λ (b : Bool). RoseIf b device.faults device.faults) (sym none) refl }

  -- nor by calls that are done, before others
  pub counts_behind : (old mid new : Device) (result : Result T E) → mid.faults ≡ old.faults → CountsFaults is_fault mid new result → CountsFaults is_fault old new result
  counts_behind old mid new result quiet counts = record {
    quiet = subst (λ (n : ℕ). OnOk result (new.faults ≡ n)) quiet counts.quiet;
    later = subst (λ (n : ℕ). n ≤ new.faults) quiet counts.later;
    cause = subst (λ (n : ℕ). IfErr result (λ error. RoseIf (is_fault error) n new.faults)) quiet counts.cause;
  }
