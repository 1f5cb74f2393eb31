-- That news sees in a group nothing that is not to be shown, and nothing private of others.
use Rattle.std.proofs.Common.{◌≡◌, Bool, true, false, cond, [], ◌∷◌, Option, Some, refl, arith, nat_lt}
use Rattle.std.specs.Prelude.{◌&&◌, ◌||◌, not, nat_le, find, is_none}
use Rattle.std.proofs.lemmas.Bool.{and_parts, ltb-true, lt-leb}
use Rattle.jb_base.specs.Access.{has_attribute, is_party, is_sysop, refuses}
use Rattle.jb_base.specs.declared.area.Action.TheVariants.{List as Listing}
use Rattle.jb_base.specs.declared.area.Rule.{Rule}
use Rattle.jb_base.specs.declared.area.Rule.TheVariants.{A1, A2, A3, A4, A5, A6}
use Rattle.jb_base.specs.declared.attribute.TheConstants.{NODISP, PRIVATE}
use Rattle.jb_news_talk.specs.Laws.{SeesOpenOnly}
use Rattle.jb_news_talk.specs.Newsgroups.{news_user}

-- where nothing is found, the first test failed
none_of : {X : Type 0} (b : Bool) (x : X) (rest : Option X) → is_none (cond b (Some x) rest) ≡ true → (b ≡ false) × (is_none rest ≡ true)
none_of true x rest is = absurd (grind (arith, is))
none_of false x rest is = (refl, is)

-- who is no sysop is shown nothing that is withheld
shown_by : (sysop nodisp private party : Bool) → sysop ≡ false → (not sysop && (nodisp || (private && not party))) ≡ false
    → (nodisp ≡ false) × (party ≡ false → private ≡ false)
shown_by true nodisp private party none is = absurd (grind (arith, none))
shown_by false true private party none is = absurd (grind (arith, is))
shown_by false false true true none is = (refl, λ other. absurd (grind (arith, other)))
shown_by false false true false none is = absurd (grind (arith, is))
shown_by false false false party none is = (refl, λ _. refl)

pub sees_open_only : SeesOpenOnly
sees_open_only = λ board area message group seen.
    let user = news_user board in
    let p : Rule → Bool = refuses user area.rules Listing (Some message) in
    let behind_reading = none_of (p A1) A1 (find p (A2 ∷ A3 ∷ A4 ∷ A5 ∷ A6 ∷ [])) seen in
    let behind_posting = none_of (p A2) A2 (find p (A3 ∷ A4 ∷ A5 ∷ A6 ∷ [])) behind_reading.1 in
    let behind_showing = none_of (p A3) A3 (find p (A4 ∷ A5 ∷ A6 ∷ [])) behind_posting.1 in
    let above = (and_parts (nat_le area.rules.read board.news_level) (nat_lt board.news_level area.rules.sysop) group).1 in
    let none = lt-leb area.rules.sysop board.news_level (ltb-true board.news_level area.rules.sysop above) in
    let shown = shown_by (is_sysop user area.rules) (has_attribute NODISP message) (has_attribute PRIVATE message) (is_party user message) none behind_showing.0 in
    record { shown = shown.0; public = shown.1 }
