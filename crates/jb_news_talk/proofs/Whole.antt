-- That a list of a news reader is whole.
use Rattle.std.proofs.Common.{◌≡◌, ℕ, zero, suc, ◌-◌, ◌<◌, ◌≤◌, Bool, true, false, List, [], ◌∷◌, ◌++◌, take, Option, Some, None, refl, sym, ap, ◌∙◌, arith, append_assoc}
use Rattle.std.specs.List.{flat_map}
use Rattle.std.specs.Prelude.{if◌then◌else◌}
use Rattle.std.proofs.lemmas.Bool.{eq-eqb}
use Rattle.std.proofs.lemmas.List.{append-nil}
use Rattle.std.proofs.lemmas.Grind.{flat_map-append}
use Rattle.jb_conf.specs.declared.board.Board.{Board}
use Rattle.jb_menu.specs.declared.given.Given.{Given}
use Rattle.jb_menu.specs.declared.given.Given.TheVariants as given
use Rattle.jb_state.specs.declared.look.SharedFault.TheVariants.{Barred}
use Rattle.jb_state.specs.declared.summary.Summary.{Summary}
use Rattle.jb_news.specs.Responses.{end_text, response_text}
use Rattle.jb_news.specs.declared.responses.FixedResponse.{FixedResponse}
use Rattle.jb_speech.specs.declared.request.Act.{Act}
use Rattle.jb_speech.specs.declared.request.Request.TheVariants.{Area}
use Rattle.jb_news_talk.specs.Conversations.{given_in}
use Rattle.jb_news_talk.specs.Telling.{chosen_by, goes_on_from, has_none, missing_of, tells, tells_on, told_line, up_to}
use Rattle.jb_news_talk.specs.Turns.{answers, listing, piece, tells_and_asks}
use Rattle.jb_news_talk.specs.Whole.{IsRising, ListsAreWhole, lists, lists_of, told_out, whole_text}
use Rattle.jb_news_talk.specs.declared.place.Chosen.{Chosen}
use Rattle.jb_news_talk.specs.declared.place.NewsPlace.{NewsPlace}
use Rattle.jb_news_talk.specs.declared.place.NewsStage.TheVariants as stage
use Rattle.jb_news_talk.specs.declared.place.Told.{Told}
use Rattle.jb_news_talk.specs.declared.place.Told.TheVariants.{Numbers, Overviews}
use Rattle.jb_news_talk.proofs.Pieces.{Goes, from, front_is_empty, goes, none_is, range_is, some_is}

module _ (board : Board) (area : ℕ) (messages : List Summary) where
  -- where nothing is asked, nothing more is sent
  stays_quiet : (more : ℕ) (place : NewsPlace) → told_out board area messages more (record { place = place; text = []; request = None }) ≡ []
  stays_quiet zero place = refl
  stays_quiet (suc more) place = stays_quiet more place

  answers_alone : (more : ℕ) (chosen : Chosen) (text : List ℕ) → told_out board area messages more (answers chosen text) ≡ text
  answers_alone zero chosen text = refl
  answers_alone (suc more) chosen text = ap (λ (w : List ℕ). text ++ w) (stays_quiet more _) ∙ append-nil text

module _ (board : Board) (messages : List Summary) (rising : IsRising messages) (told : Told) (area last : ℕ) where
  -- what is told of these messages
  abbrev lines : List Summary → List ℕ
  lines some = flat_map (told_line board told area) some

  -- from a number on the rest is told
  abbrev TellsRest : ℕ → Type 0
  TellsRest more = (chosen : Chosen) (next : ℕ) (text : List ℕ) → next ≤ last → last - next < more
      → told_out board area messages more (tells_and_asks chosen text (stage.Telling told area next last []) area (listing next piece))
      ≡ text ++ lines (up_to last (from next messages)) ++ end_text

  tells_rest_on : (more next : ℕ) (chosen : Chosen) (head : List ℕ) (taken : List Summary) (further : Option ℕ) → Goes last messages rising next taken further
      → last - next < suc more → TellsRest more
      → told_out board area messages more (tells_on chosen told area last (head ++ lines (up_to last taken)) further)
      ≡ head ++ lines (up_to last (from next messages)) ++ end_text
  tells_rest_on more next chosen head taken None goes_on enough rest =
      answers_alone board area messages more chosen ((head ++ lines (up_to last taken)) ++ end_text)
      ∙ ap (λ (w : List Summary). head ++ lines w ++ end_text) goes_on
  tells_rest_on more next chosen head taken (Some further) goes_on enough rest =
      rest chosen further (head ++ lines (up_to last taken)) goes_on.within (omega (arith, enough, goes_on.moves, goes_on.within))
      ∙ ap (λ (w : List ℕ). w ++ end_text) (append_assoc head (lines (up_to last taken)) (lines (up_to last (from further messages)))
      ∙ ap (λ (w : List ℕ). head ++ w) (sym (flat_map-append (told_line board told area) (up_to last taken) (up_to last (from further messages)))
      ∙ ap lines (sym goes_on.splits)))

  -- a piece and what follows it
  tells_piece : (more next : ℕ) (chosen : Chosen) (head : List ℕ) (missing : Option FixedResponse) → missing ≡ None → last - next < suc more → TellsRest more
      → told_out board area messages more (tells board chosen told area next last head (take piece (from next messages)) missing)
      ≡ head ++ lines (up_to last (from next messages)) ++ end_text
  tells_piece more next chosen head (Some other) there enough rest = absurd (cc (there))
  tells_piece more next chosen head None there enough rest =
      tells_rest_on more next (chosen_by told chosen area) head (take piece (from next messages)) (goes_on_from next last (take piece (from next messages)))
      (goes last messages rising next) enough rest

-- the area answers for itself
own_answer : (area : ℕ) (messages : List Summary) (act : Act) → lists_of area messages (Area (record { user = 0; area = area; act = act })) ≡ lists messages act
own_answer area messages act = ap (λ (b : Bool). if b then lists messages act else given.Fault Barred) (eq-eqb area area refl)

-- only an answer that has not begun can be another one
none_missing : (told : Told) (none : Bool) → missing_of told [] none ≡ None
none_missing (Numbers first) none = refl
none_missing (Overviews missing) none = refl

tells_rest : (board : Board) (messages : List Summary) (rising : IsRising messages) (told : Told) (area last more : ℕ) → TellsRest board messages rising told area last more
unfolding given_in
tells_rest board messages rising told area last zero chosen next text within enough = absurd (omega (arith, enough))
tells_rest board messages rising told area last (suc more) chosen next text within enough =
    ap (λ (what : Given). text ++ told_out board area messages more (given_in board chosen (stage.Telling told area next last []) what)) (own_answer area messages (listing next piece))
    ∙ ap (λ (w : List ℕ). text ++ w) (tells_piece board messages rising told area last more next chosen []
    (missing_of told [] (has_none last (take piece (from next messages)))) (none_missing told _) enough (tells_rest board messages rising told area last more))
    ∙ sym (append_assoc text (flat_map (told_line board told area) (up_to last (from next messages))) end_text)

module _ (board : Board) (messages : List Summary) (rising : IsRising messages) (area next last : ℕ) where
  abbrev first_piece : List Summary
  first_piece = take piece (from next messages)

  rest_is_empty : (further : Option ℕ) → Goes last messages rising next first_piece further → has_none last first_piece ≡ true → up_to last (from next messages) ≡ []
  rest_is_empty None goes_on none = sym goes_on ∙ none_is last first_piece none
  rest_is_empty (Some further) goes_on none = absurd (cc (goes_on.some, none))

  rest_is_not : (further : Option ℕ) → Goes last messages rising next first_piece further → has_none last first_piece ≡ false → up_to last (from next messages) ≡ [] → ⊥
  rest_is_not None goes_on some empty = some_is last first_piece some (goes_on ∙ empty)
  rest_is_not (Some further) goes_on some empty =
      some_is last first_piece some (front_is_empty (up_to last first_piece) (up_to last (from further messages)) (sym goes_on.splits ∙ empty))

  lines_whole : (missing : FixedResponse) (head : List ℕ) (some : List Summary) → (some ≡ [] → ⊥)
      → head ++ flat_map (told_line board (Overviews missing) area) some ++ end_text ≡ whole_text board (Overviews missing) area head some
  lines_whole missing head [] not_empty = absurd (not_empty refl)
  lines_whole missing head (one ∷ some) not_empty = refl

  -- the first piece and what follows it
  tells_first : (told : Told) (none : Bool) → has_none last first_piece ≡ none → (more : ℕ) (chosen : Chosen) (byte : ℕ) (head : List ℕ) → last - next < suc more
      → told_out board area messages more (tells board chosen told area next last (byte ∷ head) first_piece (missing_of told (byte ∷ head) none))
      ≡ whole_text board told area (byte ∷ head) (up_to last (from next messages))
  tells_first (Numbers first) none is more chosen byte head enough =
      tells_piece board messages rising (Numbers first) area last more next chosen (byte ∷ head) None refl enough (tells_rest board messages rising (Numbers first) area last more)
  tells_first (Overviews missing) true is more chosen byte head enough =
      answers_alone board area messages more chosen (response_text missing)
      ∙ ap (whole_text board (Overviews missing) area (byte ∷ head)) (sym (rest_is_empty (goes_on_from next last first_piece) (goes last messages rising next) is))
  tells_first (Overviews missing) false is more chosen byte head enough =
      tells_piece board messages rising (Overviews missing) area last more next chosen (byte ∷ head) None refl enough
      (tells_rest board messages rising (Overviews missing) area last more)
      ∙ lines_whole missing (byte ∷ head) (up_to last (from next messages)) (rest_is_not (goes_on_from next last first_piece) (goes last messages rising next) is)

pub lists_whole : ListsAreWhole
unfolding given_in
lists_whole board chosen told area range byte head zero messages rising has enough = absurd (omega (arith, enough))
lists_whole board chosen told area range byte head (suc more) messages rising has enough =
    ap (λ (what : Given). told_out board area messages more (given_in board chosen (stage.Telling told area range.first range.last (byte ∷ head)) what))
    (own_answer area messages (listing range.first piece))
    ∙ tells_first board messages rising area range.first range.last told (has_none range.last (take piece (from range.first messages))) refl more chosen byte head enough
    ∙ ap (whole_text board told area (byte ∷ head)) (sym (range_is range messages))
