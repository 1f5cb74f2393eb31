-- That each turn keeps a place at groups of the board, and asks only an area of the board, which it only reads, or the clock.
use Rattle.std.proofs.Common.{◌≡◌, ℕ, ◌+◌, ◌≤◌, Bool, true, false, List, [], ◌∷◌, Option, Some, None, refl, arith, if◌then◌else◌, nat_lt}
use Rattle.std.specs.Prelude.{IfSome, is_some, nat_le, ◌&&◌}
use Rattle.std.proofs.lemmas.Bool.{leb-false}
use Rattle.jb_conf.specs.declared.board.Board.{Board}
use Rattle.jb_menu.specs.declared.given.Given.{Given}
use Rattle.jb_menu.specs.declared.given.Given.TheVariants as given
use Rattle.jb_model.specs.declared.reply.Reply.TheVariants as reply
use Rattle.jb_state.specs.declared.look.Answer.TheVariants as answer
use Rattle.jb_state.specs.declared.summary.Figures.{Figures}
use Rattle.jb_state.specs.declared.summary.Summary.{Summary}
use Rattle.jb_news.specs.declared.command.NewsCommand.{NewsCommand}
use Rattle.jb_news.specs.declared.command.NewsCommand.TheVariants as command
use Rattle.jb_news.specs.declared.command.OverTarget.{OverTarget}
use Rattle.jb_news.specs.declared.command.OverTarget.TheVariants as over
use Rattle.jb_news.specs.declared.command.Part.{Part}
use Rattle.jb_news.specs.declared.command.Target.{Target}
use Rattle.jb_news.specs.declared.command.Target.TheVariants as target
use Rattle.jb_news.specs.declared.names.GroupName.TheVariants.{Number}
use Rattle.jb_news.specs.declared.numbers.NumberRange.{NumberRange}
use Rattle.jb_news.specs.declared.responses.FixedResponse.{FixedResponse}
use Rattle.jb_news.specs.declared.responses.FixedResponse.TheVariants as fixed
use Rattle.jb_news.specs.Responses.{response_text}
use Rattle.jb_speech.specs.Conversations.{Turn}
use Rattle.jb_speech.specs.declared.request.Act.{Act}
use Rattle.jb_news_talk.specs.Conversations.{given_in, is_waiting}
use Rattle.jb_news_talk.specs.Laws.{OnlyReads, ReadsGroup}
use Rattle.jb_news_talk.specs.Newsgroups.{IsGroupAt, group_of, next_group}
use Rattle.jb_news_talk.specs.Reading.{IsPlaceOn, IsRequestOn, IsStageOn}
use Rattle.jb_news_talk.specs.Turns.{answers, first_number, greatest, responds, tells_and_asks}
use Rattle.jb_news_talk.specs.Listing.{listing_row, lists_next}
use Rattle.jb_news_talk.specs.Telling.{breaks, chosen_by, goes_on_from, has_none, has_numbers, missing_of, over_in, overview_of, overviews, telling_row, tells, tells_on}
use Rattle.jb_news_talk.specs.Choosing.{chooses, chooses_again, choosing_row, entering_row, enters}
use Rattle.jb_news_talk.specs.Moving.{following_row, follows, last_from, last_in, middle, moves_to, narrows, next_from, next_in, seeking_row, seeks}
use Rattle.jb_news_talk.specs.Articles.{chosen_then, show_row, showing_row, shows, shows_current, shows_in, shows_named, shows_numbered}
use Rattle.jb_news_talk.specs.Commands.{command_row, dating_row}
use Rattle.jb_news_talk.specs.declared.place.Chosen.{Chosen}
use Rattle.jb_news_talk.specs.declared.place.NewsPlace.{NewsPlace}
use Rattle.jb_news_talk.specs.declared.place.NewsStage.{NewsStage}
use Rattle.jb_news_talk.specs.declared.place.NewsStage.TheVariants as stage
use Rattle.jb_news_talk.specs.declared.place.ShownBy.{ShownBy}
use Rattle.jb_news_talk.specs.declared.place.ShownBy.TheVariants as by
use Rattle.jb_news_talk.specs.declared.place.Told.{Told}
use Rattle.jb_news_talk.specs.declared.place.Told.TheVariants.{Numbers, Overviews}
use Rattle.jb_news_talk.proofs.Found.{group_on, next_on}

-- a turn leaves a place on the board, and waits exactly where it asks: an area that the board has and that it only reads, or the clock
pub record IsTurnOn (board : Board) (turn : Turn NewsPlace) : Type 0 where
  pub place : IsPlaceOn board turn.place
  pub waits : is_waiting turn.place.stage ≡ is_some turn.request
  pub of : IfSome turn.request (IsRequestOn board)
  pub reads : IfSome turn.request (OnlyReads board)

module _ (board : Board) where
  -- the group that is chosen is the board's
  abbrev pub IsChosenOn : Chosen → Type 0
  IsChosenOn chosen = IfSome chosen.group (IsGroupAt board)

  -- what is sent alone
  answers_on : (chosen : Chosen) (text : List ℕ) → IsChosenOn chosen → IsTurnOn board (answers chosen text)
  answers_on chosen text on = record { place = record { group = on; stage = record { area = tt; order = tt } }; waits = refl; of = tt; reads = tt }

  -- what is asked besides
  asks_on : (chosen : Chosen) (text : List ℕ) (awaited : NewsStage) (area : ℕ) (act : Act) → IsChosenOn chosen → IsStageOn board awaited → is_waiting awaited ≡ true → IsGroupAt board area
      → ReadsGroup board act area → IsTurnOn board (tells_and_asks chosen text awaited area act)
  asks_on chosen text awaited area act on of waits here reads =
      record { place = record { group = on; stage = of }; waits = waits; of = here.within; reads = reads }

  -- whichever way a test comes out
  either : (b : Bool) (one other : Turn NewsPlace) → IsTurnOn board one → IsTurnOn board other → IsTurnOn board (if b then one else other)
  either true one other h k = h
  either false one other h k = k

  decided : (b : Bool) (one other : Turn NewsPlace) → (b ≡ true → IsTurnOn board one) → (b ≡ false → IsTurnOn board other) → IsTurnOn board (if b then one else other)
  decided true one other h k = h refl
  decided false one other h k = k refl

  module _ (chosen : Chosen) (on : IsChosenOn chosen) where
    responds_on : (response : FixedResponse) → IsTurnOn board (responds chosen response)
    responds_on response = answers_on chosen (response_text response) on

    -- the rows, each for itself
    lists_on : (wildmat : Option (List ℕ)) (next : Option ℕ) (text : List ℕ) → IfSome next (IsGroupAt board) → IsTurnOn board (lists_next chosen wildmat next text)
    lists_on wildmat None text here = answers_on chosen _ on
    lists_on wildmat (Some area) text here = asks_on chosen [] _ area _ on (record { area = here; order = tt }) refl here here

    listing_on : (wildmat : Option (List ℕ)) (area : ℕ) (text : List ℕ) (what : Given) → IsTurnOn board (listing_row board chosen wildmat area text what)
    listing_on wildmat area text (given.Answer (answer.Figures figures)) = lists_on wildmat (next_group board wildmat (area + 1)) _ (next_on board wildmat (area + 1))
    listing_on wildmat area text _ = responds_on fixed.Fault

    chooses_on : (range : Option NumberRange) (group : Option ℕ) → IfSome group (IsGroupAt board) → IsTurnOn board (chooses chosen range group)
    chooses_on range None here = responds_on fixed.NoSuchGroup
    chooses_on range (Some area) here = asks_on chosen [] _ area _ on (record { area = here; order = tt }) refl here here

    chooses_again_on : (range : NumberRange) (group : Option ℕ) → IfSome group (IsGroupAt board) → IsTurnOn board (chooses_again chosen range group)
    chooses_again_on range None here = responds_on fixed.NoGroup
    chooses_again_on range (Some area) here = chooses_on (Some range) (Some area) here

    overviews_on : (area : ℕ) (missing : FixedResponse) (range : NumberRange) → IsGroupAt board area → IsTurnOn board (overviews chosen area missing range)
    overviews_on area missing range here =
        either (has_numbers range) _ _ (asks_on chosen [] _ area _ on (record { area = here; order = tt }) refl here here) (responds_on missing)

    overview_on : (area : ℕ) (current : Option ℕ) → IsGroupAt board area → IsTurnOn board (overview_of chosen area current)
    overview_on area None here = responds_on fixed.NoCurrent
    overview_on area (Some number) here = overviews_on area fixed.NoCurrent _ here

    over_on : (wanted : OverTarget) (group : Option ℕ) → IfSome group (IsGroupAt board) → IsTurnOn board (over_in chosen wanted group)
    over_on over.Id group here = responds_on fixed.NotKept
    over_on over.Current None here = responds_on fixed.NoGroup
    over_on over.Current (Some area) here = overview_on area chosen.current here
    over_on (over.Range range) None here = responds_on fixed.NoGroup
    over_on (over.Range range) (Some area) here = overviews_on area fixed.NoSuchNumber range here

    next_from_on : (area : ℕ) (current : Option ℕ) → IsGroupAt board area → IsTurnOn board (next_from chosen area current)
    next_from_on area None here = responds_on fixed.NoCurrent
    next_from_on area (Some number) here = asks_on chosen [] _ area _ on (record { area = here; order = tt }) refl here here

    next_in_on : (group : Option ℕ) → IfSome group (IsGroupAt board) → IsTurnOn board (next_in chosen group)
    next_in_on None here = responds_on fixed.NoGroup
    next_in_on (Some area) here = next_from_on area chosen.current here

    last_from_on : (area : ℕ) (current : Option ℕ) → IsGroupAt board area → IsTurnOn board (last_from chosen area current)
    last_from_on area None here = responds_on fixed.NoCurrent
    last_from_on area (Some number) here = asks_on chosen [] _ area _ on (record { area = here; order = tt }) refl here here

    last_in_on : (group : Option ℕ) → IfSome group (IsGroupAt board) → IsTurnOn board (last_in chosen group)
    last_in_on None here = responds_on fixed.NoGroup
    last_in_on (Some area) here = last_from_on area chosen.current here

    shows_on : (part : Part) (area number : ℕ) (how : ShownBy) → IsGroupAt board area → IsTurnOn board (shows chosen part area number how)
    shows_on part area number how here = asks_on chosen [] _ area _ on (record { area = here; order = tt }) refl here here

    shows_current_on : (part : Part) (area : ℕ) (current : Option ℕ) → IsGroupAt board area → IsTurnOn board (shows_current chosen part area current)
    shows_current_on part area None here = responds_on fixed.NoCurrent
    shows_current_on part area (Some number) here = shows_on part area number by.Current here

    shows_in_on : (part : Part) (group : Option ℕ) → IfSome group (IsGroupAt board) → IsTurnOn board (shows_in chosen part group)
    shows_in_on part None here = responds_on fixed.NoGroup
    shows_in_on part (Some area) here = shows_current_on part area chosen.current here

    shows_numbered_on : (part : Part) (number : ℕ) (group : Option ℕ) → IfSome group (IsGroupAt board) → IsTurnOn board (shows_numbered chosen part number group)
    shows_numbered_on part number None here = responds_on fixed.NoGroup
    shows_numbered_on part number (Some area) here = either (nat_le number greatest) _ _ (shows_on part area number by.Number here) (responds_on fixed.NoSuchNumber)

    shows_named_on : (part : Part) (number : ℕ) (group : Option ℕ) → IfSome group (IsGroupAt board) → IsTurnOn board (shows_named chosen part number group)
    shows_named_on part number None here = responds_on fixed.NoSuchArticle
    shows_named_on part number (Some area) here = shows_on part area number by.Id here

    show_on : (part : Part) (wanted : Target) → IsTurnOn board (show_row board chosen part wanted)
    show_on part target.Current = shows_in_on part chosen.group on
    show_on part (target.Number number) = shows_numbered_on part number chosen.group on
    show_on part (target.Id id) = shows_named_on part id.number (group_of board (Number id.area)) (group_on board (Number id.area))
    show_on part target.OtherId = responds_on fixed.NoSuchArticle

    pub command_on : (asked : NewsCommand) → IsTurnOn board (command_row board chosen asked)
    command_on command.Capabilities = responds_on fixed.Capabilities
    command_on command.ModeReader = responds_on fixed.NoPosting
    command_on command.Help = responds_on fixed.Help
    command_on command.Quit = record { place = record { group = on; stage = record { area = tt; order = tt } }; waits = refl; of = tt; reads = tt }
    command_on (command.ListActive wildmat) = lists_on wildmat (next_group board wildmat 0) _ (next_on board wildmat 0)
    command_on (command.ListNewsgroups wildmat) = answers_on chosen _ on
    command_on command.ListOverviewFormat = responds_on fixed.OverviewFormat
    command_on command.ListNotKept = responds_on fixed.NotKept
    command_on (command.Group name) = chooses_on None (group_of board name) (group_on board name)
    command_on (command.Listgroup None range) = chooses_again_on range chosen.group on
    command_on (command.Listgroup (Some name) range) = chooses_on (Some range) (group_of board name) (group_on board name)
    command_on command.Next = next_in_on chosen.group on
    command_on command.Last = last_in_on chosen.group on
    command_on (command.Over wanted) = over_on wanted chosen.group on
    command_on command.Date =
        record { place = record { group = on; stage = record { area = tt; order = tt } }; waits = refl; of = tt; reads = tt }
    command_on command.Newgroups = responds_on fixed.NewGroups
    command_on command.Post = responds_on fixed.NotPosted
    command_on (command.Show part wanted) = show_on part wanted
    command_on command.Syntax = responds_on fixed.Syntax
    command_on command.Unknown = responds_on fixed.Unknown

    dating_on : (what : Given) → IsTurnOn board (dating_row chosen what)
    dating_on (given.Moment moment) = answers_on chosen _ on
    dating_on _ = responds_on fixed.Fault

    -- the rows of answers, in an area of the board
    module _ (area : ℕ) (here : IsGroupAt board area) where
      choosing_on : (range : Option NumberRange) (what : Given) → IsTurnOn board (choosing_row chosen area range what)
      choosing_on range (given.Answer (answer.Figures figures)) =
          either (nat_le figures.next greatest) _ _ (asks_on chosen [] _ area _ on (record { area = here; order = tt }) refl here here) (responds_on fixed.NoSuchGroup)
      choosing_on range _ = responds_on fixed.Fault

      enters_on : (range : Option NumberRange) (figures : Figures) (first : Option ℕ) → IsTurnOn board (enters board chosen area range figures first)
      enters_on None figures first = answers_on _ _ here
      enters_on (Some range) figures first =
          either (has_numbers range) _ _ (asks_on chosen [] _ area _ on (record { area = here; order = tt }) refl here here) (answers_on _ _ here)

      entering_on : (range : Option NumberRange) (figures : Figures) (what : Given) → IsTurnOn board (entering_row board chosen area range figures what)
      entering_on range figures (given.Answer (answer.Summaries messages)) = enters_on range figures (first_number messages)
      entering_on range figures _ = responds_on fixed.Fault

      chosen_on : (told : Told) → IsChosenOn (chosen_by told chosen area)
      chosen_on (Numbers first) = here
      chosen_on (Overviews missing) = on

      moves_on : (number : ℕ) → IsTurnOn board (moves_to board chosen area number)
      moves_on number = answers_on _ _ on

      follows_on : (first : Option ℕ) → IsTurnOn board (follows board chosen area first)
      follows_on None = responds_on fixed.NoNext
      follows_on (Some number) = either (nat_le number greatest) _ _ (moves_on number) (responds_on fixed.NoNext)

      following_on : (what : Given) → IsTurnOn board (following_row board chosen area what)
      following_on (given.Answer (answer.Summaries messages)) = follows_on (first_number messages)
      following_on _ = responds_on fixed.Fault

      narrows_on : (found top : ℕ) → IsTurnOn board (narrows board chosen area found top)
      narrows_on found top =
          decided (nat_le top (found + 1)) _ _ (λ _. moves_on found)
          (λ wide. let apart : found ≤ top = omega (arith, leb-false top (found + 1) wide) in asks_on chosen [] _ area _ on (record { area = here; order = apart }) refl here here)

      seeks_on : (found : Option ℕ) (top : ℕ) (first : Option ℕ) → IsTurnOn board (seeks board chosen area found top first)
      seeks_on None top None = responds_on fixed.NoPrevious
      seeks_on None top (Some number) = either (nat_lt number top) _ _ (narrows_on number top) (responds_on fixed.NoPrevious)
      seeks_on (Some found) top None = narrows_on found (middle found top)
      seeks_on (Some found) top (Some number) =
          either (nat_le (middle found top) number && nat_lt number top) _ _ (narrows_on number top) (narrows_on found (middle found top))

      seeking_on : (found : Option ℕ) (top : ℕ) (what : Given) → IsTurnOn board (seeking_row board chosen area found top what)
      seeking_on found top (given.Answer (answer.Summaries messages)) = seeks_on found top (first_number messages)
      seeking_on found top _ = responds_on fixed.Fault

      chosen_then_on : (how : ShownBy) (number : ℕ) → IsChosenOn (chosen_then how chosen number)
      chosen_then_on by.Current number = on
      chosen_then_on by.Number number = on
      chosen_then_on by.Id number = on

      showing_on : (part : Part) (number : ℕ) (how : ShownBy) (what : Given) → IsTurnOn board (showing_row board chosen part area number how what)
      showing_on part number how (given.Reply (reply.Text letter)) = answers_on _ _ (chosen_then_on how number)
      showing_on part number how (given.Reply refusal) = responds_on _
      showing_on part number how _ = responds_on fixed.Fault

  tells_on_board : (chosen : Chosen) → IsChosenOn chosen → (told : Told) (area last : ℕ) (text : List ℕ) (next : Option ℕ) → IsGroupAt board area
      → IsTurnOn board (tells_on chosen told area last text next)
  tells_on_board chosen on told area last text None here = answers_on chosen _ on
  tells_on_board chosen on told area last text (Some next) here = asks_on chosen text _ area _ on (record { area = here; order = tt }) refl here here

  module _ (chosen : Chosen) (on : IsChosenOn chosen) (area : ℕ) (here : IsGroupAt board area) where
    tells_here : (told : Told) (next last : ℕ) (head : List ℕ) (messages : List Summary) (missing : Option FixedResponse)
        → IsTurnOn board (tells board chosen told area next last head messages missing)
    tells_here told next last head messages (Some missing) = responds_on chosen on missing
    tells_here told next last head messages None =
        tells_on_board (chosen_by told chosen area) (chosen_on chosen on area here told) told area last _ (goes_on_from next last messages) here

    breaks_on : (head : List ℕ) → IsTurnOn board (breaks chosen head)
    breaks_on [] = record { place = record { group = on; stage = record { area = tt; order = tt } }; waits = refl; of = tt; reads = tt }
    breaks_on (byte ∷ head) = responds_on chosen on fixed.Fault

    telling_on : (told : Told) (next last : ℕ) (head : List ℕ) (what : Given) → IsTurnOn board (telling_row board chosen told area next last head what)
    telling_on told next last head (given.Answer (answer.Summaries messages)) = tells_here told next last head messages (missing_of told head (has_none last messages))
    telling_on told next last head _ = breaks_on head

  -- an answer at a stage
  pub given_on : (chosen : Chosen) (at : NewsStage) (what : Given) → IsChosenOn chosen → IsStageOn board at → IsTurnOn board (given_in board chosen at what)
  unfolding given_in
  given_on chosen (stage.Listing wildmat area text) what on of = listing_on chosen on wildmat area text what
  given_on chosen (stage.Choosing area range) what on of = choosing_on chosen on area of.area range what
  given_on chosen (stage.Entering area range figures) what on of = entering_on chosen on area of.area range figures what
  given_on chosen (stage.Telling told area next last head) what on of = telling_on chosen on area of.area told next last head what
  given_on chosen (stage.Following area) what on of = following_on chosen on area of.area what
  given_on chosen (stage.Seeking area found top) what on of = seeking_on chosen on area of.area found top what
  given_on chosen (stage.Showing part area number how) what on of = showing_on chosen on area of.area part number how what
  given_on chosen stage.Dating what on of = dating_on chosen on what
  given_on chosen stage.Idle what on of = record { place = record { group = on; stage = of }; waits = refl; of = tt; reads = tt }
  given_on chosen stage.Over what on of = record { place = record { group = on; stage = of }; waits = refl; of = tt; reads = tt }
  given_on chosen stage.Broken what on of = record { place = record { group = on; stage = of }; waits = refl; of = tt; reads = tt }
