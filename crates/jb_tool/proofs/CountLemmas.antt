-- How many live messages have an id that can be read.
use Rattle.std.proofs.Common.{◌≡◌, inl, inr, ℕ, suc, refl, sym, ◌∙◌, subst, Bool, true, false, List, ◌+◌, ◌≤◌, arith}
use Rattle.std.proofs.lemmas.Bool.Decides.{nat_tests}
use Rattle.std.specs.Prelude.{IsTrue, if◌then◌else◌, ◌↔◌, Some, Result, Ok, Err, IfOk, nat_eq}
use Rattle.jb_bytes.specs.declared.subfield.Subfield.{Subfield}
use Rattle.jb_bytes.specs.declared.memory.OutOfMemory.{OutOfMemory}
use Rattle.jb_state.specs.Message.{msgid_of}
use Rattle.jb_state.specs.declared.loaded.LoadedMessage.{LoadedMessage}
use Rattle.jb_state.specs.declared.loaded.LoadedSlot.TheVariants.{Live}
use Rattle.jb_msgid.specs.Answer.{ReadsMsgId, IsUnlessMemory}
use Rattle.jb_msgid.specs.Text.{IsMsgId}
use Rattle.jb_msgid.specs.declared.error.MsgIdError.{MsgIdError}
use Rattle.jb_msgid.specs.declared.error.MsgIdError.TheVariants.{BadQuote, EmptyAddress, NoSerial, OutOfMemory as no_memory}
use Rattle.jb_msgid.specs.declared.value.MsgId.{MsgId}
use Rattle.jb_tool.specs.Check.{CountsSlot, HasReadableId, IsReadAs}

-- what is not so
not_true : false ≡ true → ⊥
not_true is = cc

-- a live message counts where its id can be read
counts_live : (message : LoadedMessage) (readable : Bool) → (IsTrue readable ↔ HasReadableId message.subfields) → CountsSlot (Live message) readable
counts_live message true is = λ texts number behind count has. inl (is.0 refl, (count, refl, has))
counts_live message false is = λ texts number behind count has. inr (λ readable. not_true (is.1 readable), has)

-- where that is known
pub counts_answered : (message : LoadedMessage) (result : Result Bool OutOfMemory) → IfOk result (λ readable. IsTrue readable ↔ HasReadableId message.subfields) → IfOk result (CountsSlot (Live message))
counts_answered message (Ok readable) is = counts_live message readable is
counts_answered message (Err error) is = tt

module _ (fields : List Subfield) (text : List ℕ) (found : msgid_of fields ≡ Some text) where
  -- a text that cannot be read is no id
  no_value : (error : MsgIdError) (readable : Bool) → (error ≡ no_memory → ⊥) → readable ≡ false → ((value : MsgId) → IsMsgId text value → IsUnlessMemory (Err error) (Ok value)) → IsTrue readable ↔ HasReadableId fields
  no_value error readable memory is values = (
    λ yes. absurd (not_true (sym is ∙ yes)),
    λ has.
        let same : has.text ≡ text = one_text (sym has.found ∙ found) in
        absurd (neither (values has.value (subst (λ (t : List ℕ). IsMsgId t has.value) same has.reads))),
  )
    where
      one_text : {a b : List ℕ} → Some a ≡ Some b → a ≡ b
      one_text is = cc

      neither : {value : MsgId} → IsUnlessMemory (Err error) (Ok value) → ⊥
      neither is = elim is [
        | inl ok ↦ cc
        | inr none ↦ memory (cc)
      ]

  -- whether the first MSGID can be read, by what the reading of it answered
  read_by : (answer : Result MsgId MsgIdError) → ReadsMsgId text answer → ((value : MsgId) → IsMsgId text value → IsUnlessMemory answer (Ok value))
      → (readable : Bool) → IsReadAs answer readable → IsTrue readable ↔ HasReadableId fields
  read_by (Ok value) reads values readable is = (λ yes. record { text = text; found = found; value = value; reads = reads }, λ has. is)
  read_by (Err (NoSerial at)) reads values readable is = no_value (NoSerial at) readable (λ same. cc) is values
  read_by (Err (BadQuote at)) reads values readable is = no_value (BadQuote at) readable (λ same. cc) is values
  read_by (Err EmptyAddress) reads values readable is = no_value EmptyAddress readable (λ same. cc) is values
  read_by (Err no_memory) reads values readable is = absurd is

  -- where that is known
  pub read_answered : (answer : Result MsgId MsgIdError) → ReadsMsgId text answer → ((value : MsgId) → IsMsgId text value → IsUnlessMemory answer (Ok value))
      → (result : Result Bool OutOfMemory) → IfOk result (IsReadAs answer) → IfOk result (λ readable. IsTrue readable ↔ HasReadableId fields)
  read_answered answer reads values (Ok readable) is = read_by answer reads values readable is
  read_answered answer reads values (Err error) is = tt

-- a number that is nothing
pub zero_is : (n : ℕ) → nat_eq n 0 ≡ true → n ≡ 0
zero_is n is = grind (arith, nat_tests)

-- one at most
pub one_at_most : (so : Bool) → (if so then 1 else 0) ≤ 1
one_at_most true = omega arith
one_at_most false = omega arith

-- one more, or none
pub one_more : (so : Bool) (count more : ℕ) → count + (if so then suc more else more) ≡ count + (if so then 1 else 0) + more
one_more true count more = omega arith
one_more false count more = omega arith
