-- What a contract sees of a tiered vector.
use Rattle.std.specs.Prelude.{ℕ, List, refl}
use Rattle.std.specs.Coded.{Coded, code_by, coded×, coded_ℕ, coded_list}

-- the elements in their order, and how many more fit with no memory taken
pub record TieredList (X : Type 0) : Type 0 where
  pub items : List X
  pub room : ℕ

-- it is stored as the pair of its fields
abbrev pub tiered_code : {X : Type 0} → Coded X → Coded (TieredList X)
tiered_code {X} code =
    code_by (List X × ℕ) (coded× (coded_list code) coded_ℕ) (λ t. (t.items, t.room)) (λ p. record { items = p.0; room = p.1 }) (λ _. refl)
