-- What reading subfields answers.
use Rattle.std.specs.Prelude.{◌≡◌, ◌⊎◌, ⊤, List, ℕ, Result, Ok, Err}
use Rattle.jb_bytes.specs.declared.subfield.Subfield.{Subfield}
use Rattle.jb_bytes.specs.Subfields.{IsCutAt, IsSubfieldList}
use Rattle.jb_subfield.specs.declared.error.SubfieldError.{SubfieldError}
use Rattle.jb_subfield.specs.declared.error.SubfieldError.TheVariants.{Cut, OutOfMemory}

-- the list whose bytes these are, or the place of the first subfield that is not whole, or want of memory
abbrev pub ReadsSubfields : List ℕ → Result (List Subfield) SubfieldError → Type 0
ReadsSubfields bytes (Ok fields) = IsSubfieldList fields bytes
ReadsSubfields bytes (Err (Cut at)) = IsCutAt bytes at
ReadsSubfields bytes (Err OutOfMemory) = ⊤

-- the one answer, unless memory runs out
abbrev pub IsUnlessMemory : Result (List Subfield) SubfieldError → Result (List Subfield) SubfieldError → Type 0
IsUnlessMemory result wanted = (result ≡ wanted) ⊎ (result ≡ Err OutOfMemory)
