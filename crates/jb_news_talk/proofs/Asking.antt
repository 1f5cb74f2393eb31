-- That each answer leaves fewer requests to come.
use Rattle.std.proofs.Common.{◌≡◌, ℕ, ◌+◌, ◌-◌, ◌<◌, ◌≤◌, Bool, true, false, List, [], ◌∷◌, length, drop, Option, Some, None, refl, arith, if◌then◌else◌, nat_lt}
use Rattle.std.specs.Prelude.{is_some, nat_le, position, option_map, ◌&&◌}
use Rattle.std.proofs.lemmas.Bool.{and_parts, leb-false, leb-true, ltb-true}
use Rattle.jb_conf.specs.declared.board.Board.{Board}
use Rattle.jb_menu.specs.declared.given.Given.{Given}
use Rattle.jb_menu.specs.declared.given.Given.TheVariants as given
use Rattle.jb_model.specs.declared.reply.Reply.TheVariants as reply
use Rattle.jb_state.specs.declared.look.Answer.TheVariants as answer
use Rattle.jb_state.specs.declared.summary.Figures.{Figures}
use Rattle.jb_state.specs.declared.summary.Summary.{Summary}
use Rattle.jb_news.specs.declared.command.Part.{Part}
use Rattle.jb_news.specs.declared.numbers.NumberRange.{NumberRange}
use Rattle.jb_news.specs.declared.responses.FixedResponse.{FixedResponse}
use Rattle.jb_speech.specs.Conversations.{Turn}
use Rattle.jb_news_talk.specs.Conversations.{given_in, given_turn}
use Rattle.jb_news_talk.specs.Newsgroups.{is_listed}
use Rattle.jb_news_talk.specs.Reading.{IsPlaceOn, IsStageOn, most_asked, spread}
use Rattle.jb_news_talk.specs.Turns.{first_number, greatest, piece}
use Rattle.jb_news_talk.specs.Listing.{listing_row, lists_next}
use Rattle.jb_news_talk.specs.Telling.{behind_last, breaks, chosen_by, has_none, has_numbers, last_number, missing_of, telling_row, tells, tells_on}
use Rattle.jb_news_talk.specs.Choosing.{choosing_row, entering_row, enters}
use Rattle.jb_news_talk.specs.Moving.{following_row, follows, middle, narrows, seeking_row, seeks}
use Rattle.jb_news_talk.specs.Articles.{showing_row}
use Rattle.jb_news_talk.specs.Commands.{dating_row}
use Rattle.jb_news_talk.specs.declared.place.Chosen.{Chosen}
use Rattle.jb_news_talk.specs.declared.place.NewsPlace.{NewsPlace}
use Rattle.jb_news_talk.specs.declared.place.NewsStage.{NewsStage}
use Rattle.jb_news_talk.specs.declared.place.NewsStage.TheVariants as stage
use Rattle.jb_news_talk.specs.declared.place.ShownBy.{ShownBy}
use Rattle.jb_news_talk.specs.declared.place.Told.{Told}

-- where the turn asks, fewer requests follow than these
abbrev Falls : Board → ℕ → Turn NewsPlace → Type 0
Falls board most turn = is_some turn.request ≡ true → most_asked board turn.place.stage < most

no : {X : Type 0} → false ≡ true → X
no h = absurd (grind (arith, h))

-- whichever way a test comes out
decided : (board : Board) (most : ℕ) (b : Bool) (one other : Turn NewsPlace) → (b ≡ true → Falls board most one) → (b ≡ false → Falls board most other)
    → Falls board most (if b then one else other)
decided board most true one other h k = h refl
decided board most false one other h k = k refl

module _ (board : Board) (chosen : Chosen) where
  -- behind a group comes one further on
  lists_falls : (wildmat : Option (List ℕ)) (area : ℕ) (text : List ℕ) (place : Option ℕ) → area < length board.areas
      → Falls board (length board.areas - area) (lists_next chosen wildmat (option_map (λ n. area + 1 + n) place) text)
  lists_falls wildmat area text None here = no
  lists_falls wildmat area text (Some n) here = λ _. omega (arith, here)

  listing_falls : (wildmat : Option (List ℕ)) (area : ℕ) (text : List ℕ) (what : Given) → area < length board.areas
      → Falls board (length board.areas - area) (listing_row board chosen wildmat area text what)
  listing_falls wildmat area text (given.Answer (answer.Figures figures)) here = lists_falls wildmat area _ (position (is_listed board wildmat) (drop (area + 1) board.areas)) here
  listing_falls wildmat area text _ here = no

  choosing_falls : (area : ℕ) (range : Option NumberRange) (what : Given) → Falls board (3 + spread range) (choosing_row chosen area range what)
  choosing_falls area range (given.Answer (answer.Figures figures)) = decided board _ (nat_le figures.next greatest) _ _ (λ _ _. omega arith) (λ _. no)
  choosing_falls area range _ = no

  enters_falls : (area : ℕ) (range : Option NumberRange) (figures : Figures) (first : Option ℕ) → Falls board (2 + spread range) (enters board chosen area range figures first)
  enters_falls area None figures first = no
  enters_falls area (Some range) figures first = decided board _ (has_numbers range) _ _ (λ _ _. omega arith) (λ _. no)

  entering_falls : (area : ℕ) (range : Option NumberRange) (figures : Figures) (what : Given)
      → Falls board (2 + spread range) (entering_row board chosen area range figures what)
  entering_falls area range figures (given.Answer (answer.Summaries messages)) = enters_falls area range figures (first_number messages)
  entering_falls area range figures _ = no

  -- behind a piece comes one further on
  module _ (chosen_next : Chosen) (told : Told) (area next last : ℕ) where
    goes_on_falls : (b : Bool) (text : List ℕ) (number : ℕ) → (nat_le next number && nat_lt number last) ≡ b
        → Falls board (1 + (last - next)) (tells_on chosen_next told area last text (if b then Some (number + 1) else None))
    goes_on_falls true text number is =
        let parts = and_parts (nat_le next number) (nat_lt number last) is in
        let from : next ≤ number = leb-true next number parts.0 in
        let below : number < last = ltb-true number last parts.1 in
        λ _. omega (arith, from, below)
    goes_on_falls false text number is = no

    behind_falls : (text : List ℕ) (found : Option ℕ) → Falls board (1 + (last - next)) (tells_on chosen_next told area last text (behind_last next last found))
    behind_falls text None = no
    behind_falls text (Some number) = goes_on_falls (nat_le next number && nat_lt number last) text number refl

    piece_falls : (short : Bool) (text : List ℕ) (found : Option ℕ)
        → Falls board (1 + (last - next)) (tells_on chosen_next told area last text (if short then None else behind_last next last found))
    piece_falls true text found = no
    piece_falls false text found = behind_falls text found

  tells_falls : (told : Told) (area next last : ℕ) (head : List ℕ) (messages : List Summary) (missing : Option FixedResponse)
      → Falls board (1 + (last - next)) (tells board chosen told area next last head messages missing)
  tells_falls told area next last head messages (Some missing) = no
  tells_falls told area next last head messages None =
      piece_falls (chosen_by told chosen area) told area next last (nat_lt (length messages) piece) _ (last_number messages)

  breaks_falls : (most : ℕ) (head : List ℕ) → Falls board most (breaks chosen head)
  breaks_falls most [] = no
  breaks_falls most (byte ∷ head) = no

  telling_falls : (told : Told) (area next last : ℕ) (head : List ℕ) (what : Given)
      → Falls board (1 + (last - next)) (telling_row board chosen told area next last head what)
  telling_falls told area next last head (given.Answer (answer.Summaries messages)) = tells_falls told area next last head messages (missing_of told head (has_none last messages))
  telling_falls told area next last head _ = breaks_falls _ head

  follows_falls : (most area : ℕ) (first : Option ℕ) → Falls board most (follows board chosen area first)
  follows_falls most area None = no
  follows_falls most area (Some number) = decided board most (nat_le number greatest) _ _ (λ _. no) (λ _. no)

  following_falls : (most area : ℕ) (what : Given) → Falls board most (following_row board chosen area what)
  following_falls most area (given.Answer (answer.Summaries messages)) = follows_falls most area (first_number messages)
  following_falls most area _ = no

  -- the part in which an article is sought gets smaller
  narrows_falls : (most area found top : ℕ) → (found + 1 < top → top - found < most) → Falls board most (narrows board chosen area found top)
  narrows_falls most area found top smaller =
      decided board most (nat_le top (found + 1)) _ _ (λ _. no) (λ wide _. smaller (leb-false top (found + 1) wide))

  halves : (found top : ℕ) → found + 1 < middle found top → middle found top - found < top - found
  halves found top wide = omega arith

  raises : (found top number : ℕ) → middle found top ≤ number → number + 1 < top → top - number < top - found
  raises found top number above wide = omega arith

  seeks_falls : (area : ℕ) (found : Option ℕ) (top : ℕ) (first : Option ℕ) → Falls board (most_asked board (stage.Seeking area found top)) (seeks board chosen area found top first)
  seeks_falls area None top None = no
  seeks_falls area None top (Some number) = decided board _ (nat_lt number top) _ _ (λ _. narrows_falls _ area number top (λ _. omega arith)) (λ _. no)
  seeks_falls area (Some found) top None = narrows_falls _ area found (middle found top) (halves found top)
  seeks_falls area (Some found) top (Some number) =
      decided board _ (nat_le (middle found top) number && nat_lt number top) _ _
      (λ is. narrows_falls _ area number top (raises found top number (leb-true (middle found top) number (and_parts (nat_le (middle found top) number) (nat_lt number top) is).0)))
      (λ _. narrows_falls _ area found (middle found top) (halves found top))

  seeking_falls : (area : ℕ) (found : Option ℕ) (top : ℕ) (what : Given)
      → Falls board (most_asked board (stage.Seeking area found top)) (seeking_row board chosen area found top what)
  seeking_falls area found top (given.Answer (answer.Summaries messages)) = seeks_falls area found top (first_number messages)
  seeking_falls area found top _ = no

  showing_falls : (most area number : ℕ) (part : Part) (how : ShownBy) (what : Given) → Falls board most (showing_row board chosen part area number how what)
  showing_falls most area number part how (given.Reply (reply.Text letter)) = no
  showing_falls most area number part how (given.Reply refusal) = no
  showing_falls most area number part how _ = no

  dating_falls : (most : ℕ) (what : Given) → Falls board most (dating_row chosen what)
  dating_falls most (given.Moment moment) = no
  dating_falls most _ = no

  given_falls : (at : NewsStage) (what : Given) → IsStageOn board at → Falls board (most_asked board at) (given_in board chosen at what)
  unfolding given_in
  given_falls (stage.Listing wildmat area text) what of = listing_falls wildmat area text what of.area.within
  given_falls (stage.Choosing area range) what of = choosing_falls area range what
  given_falls (stage.Entering area range figures) what of = entering_falls area range figures what
  given_falls (stage.Telling told area next last head) what of = telling_falls told area next last head what
  given_falls (stage.Following area) what of = following_falls _ area what
  given_falls (stage.Seeking area found top) what of = seeking_falls area found top what
  given_falls (stage.Showing part area number how) what of = showing_falls _ area number part how what
  given_falls stage.Dating what of = dating_falls _ what
  given_falls stage.Idle what of = no
  given_falls stage.Over what of = no
  given_falls stage.Broken what of = no

-- an answer that leads to a request leaves fewer to come
pub asks_fewer : (board : Board) (place : NewsPlace) (what : Given) → IsPlaceOn board place → is_some (given_turn board place what).request ≡ true
    → most_asked board (given_turn board place what).place.stage < most_asked board place.stage
asks_fewer board place what on = given_falls board place.chosen place.stage what on.stage
