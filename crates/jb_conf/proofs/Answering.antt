-- What a settings file is answered, and that this is its one answer.
use Rattle.std.proofs.Common.{◌≡◌, ◌⊎◌, List, ℕ, Some, Result, Ok, Err, inl, inr, refl, ap, subst, sym, ◌∙◌}
use Rattle.toml.specs.Data.{Members}
use Rattle.jb_conf.specs.Settings.{AreSettingsOf, AreSettingsUnlessMemory, IsDocument, IsNoDocument, ReadsSettings}
use Rattle.jb_conf.specs.declared.board.Board.{Board}
use Rattle.jb_conf.specs.declared.error.ConfError.{ConfError}
use Rattle.jb_conf.specs.declared.error.ConfError.TheVariants.{NotToml, OutOfMemory}
use Rattle.jb_conf.proofs.Named.{never_not_toml}

-- a document that was read
pub document_read : (bytes : List ℕ) (entries : Members) (result : Result Board ConfError) → IsDocument bytes entries → AreSettingsUnlessMemory entries result → ReadsSettings bytes result
document_read bytes entries (Ok board) document answers = inl (entries, document, answers)
document_read bytes entries (Err error) document (inl is) = inl (entries, document, is)
document_read bytes entries (Err error) document (inr memory) = inr (inr (ap Err memory))

-- bytes that write two documents write one
one_document : (bytes : List ℕ) (one other : Members) → IsDocument bytes one → IsDocument bytes other → one ≡ other
one_document bytes one other is is' = let same : Some one ≡ Some other = sym is.1 ∙ is'.1 in cc

or_memory : (entries : Members) (result : Result Board ConfError) → AreSettingsOf entries result → AreSettingsUnlessMemory entries result
or_memory entries (Ok board) are = are
or_memory entries (Err error) is = inl is

-- the settings of a document are the one answer
pub only_settings : (bytes : List ℕ) (result : Result Board ConfError) → ReadsSettings bytes result → (entries : Members) → IsDocument bytes entries → AreSettingsUnlessMemory entries result
only_settings bytes result (inl read) entries document =
    or_memory entries result (subst (λ (e : Members). AreSettingsOf e result) (one_document bytes read.0 entries read.1 document) read.2)
only_settings bytes result (inr (inl none)) entries document = absurd (none.0 entries document)
only_settings bytes result (inr (inr memory)) entries document = subst (AreSettingsUnlessMemory entries) (sym memory) (inr refl)

-- and that there is none is
pub only_not_toml : (bytes : List ℕ) (result : Result Board ConfError) → ReadsSettings bytes result → IsNoDocument bytes → (result ≡ Err NotToml) ⊎ (result ≡ Err OutOfMemory)
only_not_toml bytes result (inl read) none = absurd (none read.0 read.1)
only_not_toml bytes result (inr (inl is)) none = inl is.1
only_not_toml bytes result (inr (inr memory)) none = inr memory

-- bytes of which it is answered are none
pub answered_not_toml : (bytes : List ℕ) (result : Result Board ConfError) → ReadsSettings bytes result → result ≡ Err NotToml → IsNoDocument bytes
answered_not_toml bytes result (inl read) e = absurd (never_not_toml read.0 (subst (AreSettingsOf read.0) e read.2))
answered_not_toml bytes result (inr (inl none)) e = none.0
answered_not_toml bytes result (inr (inr memory)) e = absurd (let same : ◌≡◌ {A = Result Board ConfError} (Err NotToml) (Err OutOfMemory) = sym e ∙ memory in cc)
