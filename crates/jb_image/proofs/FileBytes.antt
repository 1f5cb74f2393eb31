-- What is read of a file, one read after another.
use Rattle.std.proofs.Common.{◌≡◌, inl, inr, refl, Option, Some, None, Result, Ok, Err, ℕ, ◌+◌, ◌≤◌, List, length, drop, ◌∙◌, arith, length-take, length-drop}
use Rattle.std.specs.Prelude.{◌⊎◌, OnErr}
use Rattle.std.specs.Option.{ForSome}
use Rattle.jb_bytes.specs.Fault.{Rose}
use Rattle.jb_disk.specs.Files.{Files}
use Rattle.jb_disk.specs.declared.file.FileId.{FileId}
use Rattle.jb_disk.specs.Device.{Device, IsPast, OnlyReads}
use Rattle.jb_image.specs.Places.{bytes_at}

-- reads one after another
pub reads_on : (old mid new : Device) → OnlyReads old mid → OnlyReads mid new → OnlyReads old new
reads_on old mid new first second = record {
  contents = second.contents ∙ first.contents;
  moments = second.moments ∙ first.moments;
}

-- a part of bytes has its length
pub length-bytes_at : (at len : ℕ) (bytes : List ℕ) → at + len ≤ length bytes → length (bytes_at at len bytes) ≡ len
length-bytes_at at len bytes room = omega (arith, length-take len (drop at bytes), length-drop at bytes)

-- a read within the file fails by a fault alone
pub rose_within : {T E : Type 0} (result : Result T E) (contents : Option Files) (file : FileId) (end before now : ℕ)
    → ForSome contents (λ files. end ≤ length (files file)) → OnErr result (Rose before now ⊎ IsPast contents file end) → OnErr result (Rose before now)
rose_within (Ok value) contents file end before now within failed = tt
rose_within (Err error) None file end before now within failed = elim failed [ inl rose ↦ rose | inr past ↦ absurd past ]
rose_within (Err error) (Some files) file end before now within failed = elim failed [
  | inl rose ↦ rose
  | inr past ↦
      let low = within files refl in
      absurd (omega (arith, low, past))
]
