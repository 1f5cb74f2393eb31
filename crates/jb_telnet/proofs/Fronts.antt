-- The first unit found from the front is the first unit by the grammar.
use Rattle.std.proofs.Common.{◌≡◌, ◌≢◌, ℕ, ◌==◌, Bool, true, false, ◌&&◌, List, [], ◌∷◌, ◌++◌, Some, None, All, flat_map, if◌then◌else◌, refl, sym, ◌∙◌, ap, subst, append_assoc, append-nil, lit<}
use Rattle.std.proofs.lemmas.Bool.{eqb-true, eqb-false, ne_eqb, cond_both}
use Rattle.std.proofs.lemmas.List.Elements.{All-head, All-tail, All-cons, All-nil, All-push}
use Rattle.std.proofs.lemmas.List.Concat.{flat_map-append}
use Rattle.jb_telnet.specs.declared.codes.TheConstants.{SE, AYT, EC, EL, SB, WILL, WONT, DO, DONT, IAC}
use Rattle.jb_telnet.specs.declared.event.Event.{Event}
use Rattle.jb_telnet.specs.declared.event.Event.TheVariants.{Byte, Do, Dont, Will, Wont, AreYouThere, EraseChar, EraseLine, Sub, Other}
use Rattle.jb_telnet.specs.declared.verb.Verb.{Verb}
use Rattle.jb_telnet.specs.declared.verb.Verb.TheVariants.{Will as WillVerb, Wont as WontVerb, Do as DoVerb, Dont as DontVerb}
use Rattle.jb_telnet.specs.Codes.{code_of, said}
use Rattle.jb_telnet.specs.Units.{Part, plain, pair, part_bytes, IsPart, IsOther, Spells, StartsWith}
use Rattle.jb_telnet.specs.Front.{First, command_event, behind_block, behind_verb, behind_iac, first_unit}

-- what was found stands first by the grammar
pub record IsFound (bytes : List ℕ) (first : First) : Type 0 where
  pub each : (event : Event) (behind : List ℕ) → first ≡ Some (event, behind) → StartsWith event bytes behind

spelled_verb : (verb : Verb) (option : ℕ) → Spells (IAC ∷ code_of verb ∷ option ∷ []) (said verb option)
spelled_verb WillVerb option = refl
spelled_verb WontVerb option = refl
spelled_verb DoVerb option = refl
spelled_verb DontVerb option = refl

found_none : (bytes : List ℕ) → IsFound bytes None
found_none bytes = record { each = λ event behind is. absurd (cc) }

found_some : (bytes : List ℕ) (event : Event) (behind : List ℕ) → StartsWith event bytes behind → IsFound bytes (Some (event, behind))
found_some bytes event behind starts = record {
  each = λ other more is.
      let same : (event, behind) ≡ (other, more) = cc in
      let P : Event × List ℕ → Type 0 = λ w. StartsWith w.0 bytes w.1 in
      subst P same starts;
}

found_either : (bytes : List ℕ) (test : Bool) (a b : First) → (test ≡ true → IsFound bytes a) → (test ≡ false → IsFound bytes b) → IsFound bytes (if test then a else b)
found_either bytes true a b one other = one refl
found_either bytes false a b one other = other refl

-- the first byte of a pair, where it has come
abbrev pending : Bool → List ℕ
pending true = IAC ∷ []
pending false = []

-- the beginning of a subnegotiation with these parts
abbrev opened : List Part → List ℕ
opened parts = IAC ∷ SB ∷ flat_map part_bytes parts

opened-push : (parts : List Part) (part : Part) (more : List ℕ) → opened (parts ++ part ∷ []) ++ more ≡ opened parts ++ part_bytes part ++ more
opened-push parts part more = rw (flat_map-append part_bytes parts (part ∷ []), append-nil (part_bytes part)) refl

nil_between : (front xs : List ℕ) → front ++ [] ++ xs ≡ front ++ xs
nil_between front xs = rw append-nil refl

-- bytes may be counted to what stands before them or to what stands behind
one_over : (front xs : List ℕ) (x : ℕ) → front ++ (x ∷ []) ++ xs ≡ front ++ x ∷ xs
one_over front xs x = append_assoc front (x ∷ []) xs

two_over : (front xs : List ℕ) (x y : ℕ) → front ++ (x ∷ y ∷ []) ++ xs ≡ front ++ (x ∷ []) ++ y ∷ xs
two_over front xs x y = append_assoc front (x ∷ y ∷ []) xs ∙ sym (append_assoc front (x ∷ []) (y ∷ xs))

plain_passed : (parts : List Part) (x : ℕ) (xs : List ℕ) → opened (parts ++ plain x ∷ []) ++ [] ++ xs ≡ opened parts ++ [] ++ x ∷ xs
plain_passed parts x xs =
    nil_between (opened (parts ++ plain x ∷ [])) xs ∙ opened-push parts (plain x) xs ∙ one_over (opened parts) xs x ∙ sym (nil_between (opened parts) (x ∷ xs))

pair_passed : (parts : List Part) (x : ℕ) (xs : List ℕ) → opened (parts ++ pair x ∷ []) ++ [] ++ xs ≡ opened parts ++ (IAC ∷ []) ++ x ∷ xs
pair_passed parts x xs =
    nil_between (opened (parts ++ pair x ∷ [])) xs ∙ opened-push parts (pair x) xs ∙ two_over (opened parts) xs IAC x

-- outside a pair, the next byte begins a pair or is a part of its own
found_plain : (x : ℕ) (xs : List ℕ) (parts : List Part) → IsFound (opened parts ++ pending true ++ xs) (behind_block true xs)
    → (x ≢ IAC → IsFound (opened (parts ++ plain x ∷ []) ++ pending false ++ xs) (behind_block false xs))
    → (test : Bool) → (x == IAC) ≡ test → IsFound (opened parts ++ pending false ++ x ∷ xs) (behind_block (true && test) xs)
found_plain x xs parts first own true is =
    let P : List ℕ → Type 0 = λ w. IsFound w (behind_block true xs) in
    let here : opened parts ++ (IAC ∷ []) ++ xs ≡ opened parts ++ [] ++ x ∷ xs =
    rw (eqb-true x IAC is) (one_over (opened parts) xs IAC ∙ sym (nil_between (opened parts) (IAC ∷ xs))) in
    subst P here first
found_plain x xs parts first own false is =
    let P : List ℕ → Type 0 = λ w. IsFound w (behind_block false xs) in
    subst P (plain_passed parts x xs) (own (eqb-false x IAC is))

found_block : (escaped : Bool) (parts : List Part) → All IsPart parts → (bytes : List ℕ) → IsFound (opened parts ++ pending escaped ++ bytes) (behind_block escaped bytes)
found_block escaped parts each [] = found_none _
found_block true parts each (x ∷ xs) = found_either _ (x == SE) (Some (Sub, xs)) (behind_block false xs)
    (λ ends. found_some _ Sub xs (record {
      unit = opened parts ++ IAC ∷ SE ∷ [];
      spelled = record { parts = parts; each = each; is = refl };
      is = rw (eqb-true x SE ends) (sym (two_over (opened parts) xs IAC SE));
    }))
    (λ goes. let P : List ℕ → Type 0 = λ w. IsFound w (behind_block false xs) in
    subst P (pair_passed parts x xs) (found_block false (parts ++ pair x ∷ []) (All-push IsPart parts (pair x) each (eqb-false x SE goes)) xs))
found_block false parts each (x ∷ xs) =
    found_plain x xs parts (found_block true parts each xs) (λ other. found_block false (parts ++ plain x ∷ []) (All-push IsPart parts (plain x) each other) xs) (x == IAC) refl

-- nine codes have events of their own, and this is none of them
other_from : (code : ℕ) → code ≢ AYT → code ≢ EC → code ≢ EL → code ≢ SB → code ≢ WILL → code ≢ WONT → code ≢ DO → code ≢ DONT → code ≢ IAC → IsOther code
other_from code ayt ec el sb will wont do_ dont iac =
    let P : ℕ → Type 0 = λ named. code ≢ named in
    let from8 = All-cons P IAC [] iac (All-nil P) in
    let from7 = All-cons P DONT (IAC ∷ []) dont from8 in
    let from6 = All-cons P DO (DONT ∷ IAC ∷ []) do_ from7 in
    let from5 = All-cons P WONT (DO ∷ DONT ∷ IAC ∷ []) wont from6 in
    let from4 = All-cons P WILL (WONT ∷ DO ∷ DONT ∷ IAC ∷ []) will from5 in
    let from3 = All-cons P SB (WILL ∷ WONT ∷ DO ∷ DONT ∷ IAC ∷ []) sb from4 in
    let from2 = All-cons P EL (SB ∷ WILL ∷ WONT ∷ DO ∷ DONT ∷ IAC ∷ []) el from3 in
    let from1 = All-cons P EC (EL ∷ SB ∷ WILL ∷ WONT ∷ DO ∷ DONT ∷ IAC ∷ []) ec from2 in
    All-cons P AYT (EC ∷ EL ∷ SB ∷ WILL ∷ WONT ∷ DO ∷ DONT ∷ IAC ∷ []) ayt from1

spelled_command : (code : ℕ) → code ≢ SB → code ≢ WILL → code ≢ WONT → code ≢ DO → code ≢ DONT → Spells (IAC ∷ code ∷ []) (command_event code)
spelled_command code sb will wont do_ dont =
    let P : Event → Type 0 = λ event. Spells (IAC ∷ code ∷ []) event in
    cond_both (code == IAC) (Byte IAC) _ P (λ is. ap (λ w. IAC ∷ w ∷ []) (eqb-true code IAC is))
    (λ iac. cond_both (code == AYT) AreYouThere _ P (λ is. ap (λ w. IAC ∷ w ∷ []) (eqb-true code AYT is))
    (λ ayt. cond_both (code == EC) EraseChar _ P (λ is. ap (λ w. IAC ∷ w ∷ []) (eqb-true code EC is))
    (λ ec. cond_both (code == EL) EraseLine (Other code) P (λ is. ap (λ w. IAC ∷ w ∷ []) (eqb-true code EL is))
    (λ el. (other_from code (eqb-false code AYT ayt) (eqb-false code EC ec) (eqb-false code EL el) sb will wont do_ dont (eqb-false code IAC iac), refl)))))

found_verb : (verb : Verb) (bytes : List ℕ) → IsFound (IAC ∷ code_of verb ∷ bytes) (behind_verb verb bytes)
found_verb verb [] = found_none _
found_verb verb (option ∷ bytes) = found_some _ (said verb option) bytes (record { unit = IAC ∷ code_of verb ∷ option ∷ []; spelled = spelled_verb verb option; is = refl })

-- the code is this one, so that what was found behind this one was found behind the code
found_by : (code named : ℕ) (bytes : List ℕ) (first : First) → IsFound (IAC ∷ named ∷ bytes) first → (code == named) ≡ true → IsFound (IAC ∷ code ∷ bytes) first
found_by code named bytes first found is =
    let P : ℕ → Type 0 = λ w. IsFound (IAC ∷ w ∷ bytes) first in
    subst P (sym (eqb-true code named is)) found

found_iac : (bytes : List ℕ) → IsFound (IAC ∷ bytes) (behind_iac bytes)
found_iac [] = found_none _
found_iac (code ∷ bytes) =
    let found = found_either (IAC ∷ code ∷ bytes) in
    found (code == SB) (behind_block false bytes) _ (found_by code SB bytes _ (found_block false [] (All-nil IsPart) bytes))
    (λ sb. found (code == WILL) (behind_verb WillVerb bytes) _ (found_by code WILL bytes _ (found_verb WillVerb bytes))
    (λ will. found (code == WONT) (behind_verb WontVerb bytes) _ (found_by code WONT bytes _ (found_verb WontVerb bytes))
    (λ wont. found (code == DO) (behind_verb DoVerb bytes) _ (found_by code DO bytes _ (found_verb DoVerb bytes))
    (λ do_. found (code == DONT) (behind_verb DontVerb bytes) (Some (command_event code, bytes)) (found_by code DONT bytes _ (found_verb DontVerb bytes))
    (λ dont. found_some _ (command_event code) bytes (record {
      unit = IAC ∷ code ∷ [];
      spelled = spelled_command code (eqb-false code SB sb) (eqb-false code WILL will) (eqb-false code WONT wont) (eqb-false code DO do_) (eqb-false code DONT dont);
      is = refl;
    }))))))

pub found_first : (bytes : List ℕ) → IsFound bytes (first_unit bytes)
found_first [] = found_none _
found_first (x ∷ xs) = found_either (x ∷ xs) (x == IAC) (behind_iac xs) (Some (Byte x, xs))
    (λ is. let P : List ℕ → Type 0 = λ w. IsFound w (behind_iac xs) in subst P (ap (λ w. w ∷ xs) (sym (eqb-true x IAC is))) (found_iac xs))
    (λ other. found_some _ (Byte x) xs (record { unit = x ∷ []; spelled = rw other refl; is = refl }))

first_doubled : (byte : ℕ) (behind : List ℕ) (test : Bool) → (byte == IAC) ≡ test → first_unit ((if test then IAC ∷ IAC ∷ [] else byte ∷ []) ++ behind) ≡ Some (Byte byte, behind)
first_doubled byte behind true is = rw (eqb-true byte IAC is) refl
first_doubled byte behind false is = rw is refl

-- whole parts of a subnegotiation are passed over
first_parts : (parts : List Part) → All IsPart parts → (more : List ℕ) → behind_block false (flat_map part_bytes parts ++ more) ≡ behind_block false more
first_parts [] each more = refl
first_parts (plain x ∷ parts) each more = rw (ne_eqb x IAC (All-head IsPart (plain x) parts each)) (first_parts parts (All-tail IsPart (plain x) parts each) more)
first_parts (pair x ∷ parts) each more = rw (ne_eqb x SE (All-head IsPart (pair x) parts each)) (first_parts parts (All-tail IsPart (pair x) parts each) more)

first_command : (code : ℕ) (behind : List ℕ) → code ≢ SB → code ≢ WILL → code ≢ WONT → code ≢ DO → code ≢ DONT → behind_iac (code ∷ behind) ≡ Some (command_event code, behind)
first_command code behind sb will wont do_ dont = rw (ne_eqb code SB sb, ne_eqb code WILL will, ne_eqb code WONT wont, ne_eqb code DO do_, ne_eqb code DONT dont) refl

command_other : (code : ℕ) → IsOther code → command_event code ≡ Other code
command_other code other = rw (ne_eqb code IAC (other 8 0 (lit< tt)), ne_eqb code AYT (other 0 0 (lit< tt)), ne_eqb code EC (other 1 0 (lit< tt)), ne_eqb code EL (other 2 0 (lit< tt))) refl

-- a unit that stands first by the grammar is found
pub first_of : (event : Event) (unit behind : List ℕ) → Spells unit event → first_unit (unit ++ behind) ≡ Some (event, behind)
first_of (Byte byte) unit behind spelled = rw spelled (first_doubled byte behind (byte == IAC) refl)
first_of (Will option) unit behind spelled = rw spelled refl
first_of (Wont option) unit behind spelled = rw spelled refl
first_of (Do option) unit behind spelled = rw spelled refl
first_of (Dont option) unit behind spelled = rw spelled refl
first_of AreYouThere unit behind spelled = rw spelled refl
first_of EraseChar unit behind spelled = rw spelled refl
first_of EraseLine unit behind spelled = rw spelled refl
first_of Sub unit behind spelled =
    let P : List ℕ → Type 0 = λ w. first_unit (w ++ behind) ≡ Some (Sub, behind) in
    let Q : List ℕ → Type 0 = λ w. first_unit w ≡ Some (Sub, behind) in
    let whole = append_assoc (opened spelled.parts) (IAC ∷ SE ∷ []) behind in
    subst P (sym spelled.is) (subst Q (sym whole) (first_parts spelled.parts spelled.each (IAC ∷ SE ∷ behind)))
first_of (Other code) unit behind spelled = rw (spelled.1, first_command code behind (spelled.0 3 0 (lit< tt)) (spelled.0 4 0 (lit< tt)) (spelled.0 5 0 (lit< tt)) (spelled.0 6 0 (lit< tt)) (spelled.0 7 0 (lit< tt)), command_other code spelled.0) refl
