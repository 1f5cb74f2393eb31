-- A push goes on from what was read.
use Rattle.std.proofs.Common.{◌≡◌, ◌↔◌, ℕ, List, [], ◌∷◌, ◌++◌, Option, Some, None, refl, sym, ◌∙◌, ap, subst, append_assoc, append-nil}
use Rattle.jb_telnet.specs.declared.event.Event.{Event}
use Rattle.jb_telnet.specs.declared.decoder.Phase.{Phase}
use Rattle.jb_telnet.specs.declared.decoder.Phase.TheVariants.{Text, Command, Verb, Block, Escape}
use Rattle.jb_telnet.specs.declared.verb.Verb.TheVariants.{Will, Wont, Do, Dont}
use Rattle.jb_telnet.specs.Units.{StartsWith}
use Rattle.jb_telnet.specs.Reading.{events_given, ActsAs, HasRead}
use Rattle.jb_telnet.specs.Front.{First, first_unit}
use Rattle.jb_telnet.specs.Phases.{phase_bytes, first_behind, first_or_given, EndsInText}
use Rattle.jb_telnet.proofs.Fronts.{found_first}
use Rattle.jb_telnet.proofs.Cuts.{first_from, none_from, none_found, cuts_more, cuts_end}

-- where whatever follows has one first unit, one stands for the other
acts_from : (kept rest : List ℕ) → ((more : List ℕ) → first_unit (rest ++ more) ≡ first_unit (kept ++ more)) → ActsAs kept rest
acts_from kept rest same more event behind = (
  λ starts. (found_first (kept ++ more)).each event behind (sym (same more) ∙ first_from event (rest ++ more) behind starts),
  λ starts. (found_first (rest ++ more)).each event behind (same more ∙ first_from event (kept ++ more) behind starts),
)

one_first_unit : (a b : List ℕ) → ((event : Event) (behind : List ℕ) → StartsWith event b behind → StartsWith event a behind) → (first : First) → first_unit a ≡ first
    → ((event : Event) (behind : List ℕ) → StartsWith event a behind → StartsWith event b behind) → first_unit b ≡ first
one_first_unit a b back None is on = none_found b (λ event behind starts. none_from a is event behind (back event behind starts))
one_first_unit a b back (Some (event, behind)) is on = first_from event b behind (on event behind ((found_first a).each event behind is))

-- and the other way round
first_same : (kept rest : List ℕ) → ActsAs kept rest → (more : List ℕ) → first_unit (rest ++ more) ≡ first_unit (kept ++ more)
first_same kept rest acts more =
    one_first_unit (kept ++ more) (rest ++ more) (λ event behind. (acts more event behind).0) (first_unit (kept ++ more)) refl (λ event behind. (acts more event behind).1)

kept_first : (phase : Phase) (more : List ℕ) → first_unit (phase_bytes phase ++ more) ≡ first_behind phase more
kept_first Text more = refl
kept_first Command more = refl
kept_first (Verb Will) more = refl
kept_first (Verb Wont) more = refl
kept_first (Verb Do) more = refl
kept_first (Verb Dont) more = refl
kept_first Block more = refl
kept_first Escape more = refl

none_behind : (phase : Phase) → first_behind phase [] ≡ None
none_behind Text = refl
none_behind Command = refl
none_behind (Verb verb) = refl
none_behind Block = refl
none_behind Escape = refl

pub read_none : HasRead [] [] []
read_none = record { rest = []; cuts = (refl, none_from [] refl); acts = acts_from [] [] (λ more. refl) }

pub read_on : (phase later : Phase) (byte : ℕ) (event : Option Event) → ((more : List ℕ) → first_behind phase (byte ∷ more) ≡ first_or_given later event more) → EndsInText later event
    → (bytes : List ℕ) (events : List Event) → HasRead (phase_bytes phase) bytes events → HasRead (phase_bytes later) (bytes ++ byte ∷ []) (events ++ events_given event)
read_on phase later byte None goes text bytes events read =
    let grown : (more : List ℕ) → first_unit ((read.rest ++ byte ∷ []) ++ more) ≡ first_behind later more =
    λ more. rw append_assoc (first_same (phase_bytes phase) read.rest read.acts (byte ∷ more) ∙ kept_first phase (byte ∷ more) ∙ goes more) in
    let here : first_unit (read.rest ++ byte ∷ []) ≡ None =
    first_same (phase_bytes phase) read.rest read.acts (byte ∷ []) ∙ kept_first phase (byte ∷ []) ∙ goes [] ∙ none_behind later in
    let P : List Event → Type 0 = λ w. HasRead (phase_bytes later) (bytes ++ byte ∷ []) w in
    subst P (sym (append-nil events)) (record {
      rest = read.rest ++ byte ∷ [];
      cuts = cuts_more (byte ∷ []) events bytes read.rest read.cuts (none_from (read.rest ++ byte ∷ []) here);
      acts = acts_from (phase_bytes later) (read.rest ++ byte ∷ []) (λ more. grown more ∙ sym (kept_first later more));
    })
read_on phase later byte (Some event) goes text bytes events read =
    let ends : first_unit (read.rest ++ byte ∷ []) ≡ Some (event, []) =
    first_same (phase_bytes phase) read.rest read.acts (byte ∷ []) ∙ kept_first phase (byte ∷ []) ∙ goes [] in
    record {
      rest = [];
      cuts = cuts_end (byte ∷ []) event events bytes read.rest read.cuts ((found_first (read.rest ++ byte ∷ [])).each event [] ends);
      acts = acts_from (phase_bytes later) [] (λ more. ap (λ w. first_unit (phase_bytes w ++ more)) (sym text));
    }

one_given : (later : Phase) (given_event : Option Event) (event : Event) → first_or_given later given_event [] ≡ Some (event, []) → given_event ≡ Some event
one_given later None event is = let none = none_behind later in absurd (cc)
one_given later (Some other) event is =
    let a : Event × List ℕ = (other, []) in
    let b : Event × List ℕ = (event, []) in
    let same : a ≡ b = cc in
    let P : Event × List ℕ → Option Event = λ w. Some w.0 in
    ap P same

-- a push gives the unit that the byte ends
pub ends_unit : (phase later : Phase) (byte : ℕ) (given_event : Option Event) → ((more : List ℕ) → first_behind phase (byte ∷ more) ≡ first_or_given later given_event more)
    → (event : Event) → (given_event ≡ Some event) ↔ StartsWith event (phase_bytes phase ++ byte ∷ []) []
ends_unit phase later byte given_event goes event =
    let first : first_unit (phase_bytes phase ++ byte ∷ []) ≡ first_or_given later given_event [] = kept_first phase (byte ∷ []) ∙ goes [] in (
      λ is. (found_first (phase_bytes phase ++ byte ∷ [])).each event [] (first ∙ ap (λ w. first_or_given later w []) is),
      λ starts. one_given later given_event event (sym first ∙ first_from event (phase_bytes phase ++ byte ∷ []) [] starts),
    )
