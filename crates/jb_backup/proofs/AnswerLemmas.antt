-- How answers of calls that copy go together.
use Rattle.std.proofs.Common.{refl, ◌∙◌, arith, Result, Ok, Err, Bool, true, false}
use Rattle.jb_disk.specs.Device.{Device, CountsFaults, RoseIf}
use Rattle.jb_backup.specs.declared.error.BackupError.{BackupError}
use Rattle.jb_backup.specs.Answers.{AnswersCopy, is_source_fault, is_target_fault}

-- an answer of these types
abbrev pub ok_of : (T E : Type 0) → T → Result T E
ok_of T E value = Ok value

-- counts of one run of calls and of the next
pub counts_then : {A T E : Type 0} (is_fault : E → Bool) (a b c : Device) (value : A) (result : Result T E) → CountsFaults is_fault a b (ok_of A E value) → CountsFaults is_fault b c result → CountsFaults is_fault a c result
counts_then is_fault a b c value (Ok done) first second = record { quiet = second.quiet ∙ first.quiet; later = omega (arith, first.later, second.later); cause = tt }
counts_then is_fault a b c value (Err error) first second = record { quiet = tt; later = omega (arith, first.later, second.later); cause = rose (is_fault error) second.cause }
  where
    rose : (fault : Bool) → RoseIf fault b.faults c.faults → RoseIf fault a.faults c.faults
    rose true is = let same = first.quiet in omega (arith, same, is)
    rose false is = is ∙ first.quiet

-- copying goes on where it was done so far
pub answers_then : {A T : Type 0} (s0 s1 s2 t0 t1 t2 : Device) (value : A) (result : Result T BackupError) → AnswersCopy s0 s1 t0 t1 (Ok value) → AnswersCopy s1 s2 t1 t2 result → AnswersCopy s0 s2 t0 t2 result
answers_then s0 s1 s2 t0 t1 t2 value result first second = record {
  reads = record { contents = second.reads.contents ∙ first.reads.contents; moments = second.reads.moments ∙ first.reads.moments };
  fault = second.fault;
  source_faults = counts_then is_source_fault s0 s1 s2 value result first.source_faults second.source_faults;
  target_faults = counts_then is_target_fault t0 t1 t2 value result first.target_faults second.target_faults;
  alike = second.alike ∙ first.alike;
}

-- no call is made
pub answers_none : {T : Type 0} (s t : Device) (value : T) → AnswersCopy s s t t (Ok value)
answers_none s t value = record {
  reads = record { contents = refl; moments = refl };
  fault = tt;
  source_faults = record { quiet = refl; later = omega arith; cause = tt };
  target_faults = record { quiet = refl; later = omega arith; cause = tt };
  alike = refl;
}
