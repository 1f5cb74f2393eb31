-- What the tests of the access rules tell.
use Rattle.std.proofs.Common.{◌≡◌, ◌≤◌, ◌≢◌, ◌⊎◌, ℕ, not, ◌&&◌, List, map, bit_and, arith}
use Rattle.std.specs.Prelude.{Decides, nat_lt, Some}
use Rattle.std.specs.Char.{to_ascii_lowercase}
use Rattle.std.proofs.lemmas.Bool.Decides.{nat_tests}
use Rattle.std.proofs.lemmas.Slice.Eq.{bytes_eq-Decides}
use Rattle.jb_base.specs.Access.{Envelope, has_attribute, is_party, is_sysop, is_visible, refuses_showing}
use Rattle.jb_bytes.specs.Name.{SameName, same_name}
use Rattle.jb_base.specs.declared.area.AreaRules.{AreaRules}
use Rattle.jb_base.specs.declared.user.User.{User}

-- the test of two names
pub same_name-decides : (one other : List ℕ) → Decides (same_name one other) (SameName one other)
same_name-decides one other = bytes_eq-Decides (map to_ascii_lowercase one) (map to_ascii_lowercase other)

-- the test of the sysop
pub is_sysop-decides : (user : User) (rules : AreaRules) → Decides (is_sysop user rules) (rules.sysop ≤ user.level)
is_sysop-decides user rules = grind (arith, nat_tests)

-- the test of an attribute
pub has_attribute-decides : (bit : ℕ) (message : Envelope) → Decides (has_attribute bit message) (bit_and message.attribute bit ≢ 0)
has_attribute-decides bit message = grind (arith, nat_tests)

-- the test of a party
pub is_party-decides : (user : User) (message : Envelope) → Decides (is_party user message) (SameName user.name message.sender ⊎ SameName user.name message.receiver)
is_party-decides user message = grind (arith, nat_tests, same_name-decides user.name message.sender, same_name-decides user.name message.receiver)

-- a visible message: a level that reads, and no rule on showing it that refuses
pub is_visible-parts : (user : User) (rules : AreaRules) (message : Envelope) →
    is_visible user rules message ≡ (not (nat_lt user.level rules.read) && not (refuses_showing user rules (Some message)))
is_visible-parts user rules message = grind (arith, nat_tests)
