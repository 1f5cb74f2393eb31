-- What a line asks for, by its words (RFC 3977 sections 5 to 8).
use Rattle.std.specs.Prelude.{ℕ, ◌==◌, ◌||◌, ◌&&◌, Bool, List, [], ◌∷◌, length, Option, Some, None, codes, if◌then◌else◌}
use Rattle.std.specs.Char.{is_ascii_digit}
use Rattle.std.specs.List.{list_all}
use Rattle.jb_news.specs.declared.command.NewsCommand.{NewsCommand}
use Rattle.jb_news.specs.declared.command.NewsCommand.TheVariants as command
use Rattle.jb_news.specs.declared.command.OverTarget.TheVariants as over
use Rattle.jb_news.specs.declared.command.Part.{Part}
use Rattle.jb_news.specs.declared.command.Part.TheVariants.{Article, Head, Body, Stat}
use Rattle.jb_news.specs.declared.command.Target.{Target}
use Rattle.jb_news.specs.declared.command.Target.TheVariants as target
use Rattle.jb_news.specs.declared.line.NewsLine.{NewsLine}
use Rattle.jb_news.specs.declared.line.NewsLine.TheVariants.{Line, TooLong}
use Rattle.jb_news.specs.declared.names.ArticleId.{ArticleId}
use Rattle.jb_news.specs.declared.names.GroupName.{GroupName}
use Rattle.jb_news.specs.declared.numbers.NumberRange.{NumberRange}
use Rattle.jb_news.specs.declared.verb.ListKind.{ListKind}
use Rattle.jb_news.specs.declared.verb.ListKind.TheVariants as list
use Rattle.jb_news.specs.declared.verb.Verb.{Verb}
use Rattle.jb_news.specs.declared.verb.Verb.TheVariants as verb
use Rattle.jb_news.specs.Names.{group_name, id_from}
use Rattle.jb_news.specs.Numbers.{article_number, range_of}
use Rattle.jb_news.specs.Verbs.{list_kind, verb_of}
use Rattle.jb_news.specs.Words.{ends_with, says, words_of}

-- a command that no other word follows
abbrev pub alone : NewsCommand → List (List ℕ) → NewsCommand
alone asked [] = asked
alone asked (word ∷ words) = command.Syntax

-- a command that one other word may follow
abbrev pub with_one : NewsCommand → List (List ℕ) → NewsCommand
with_one asked [] = asked
with_one asked (word ∷ words) = alone asked words

-- `MODE` and what follows
abbrev pub mode_of : List (List ℕ) → NewsCommand
mode_of [] = command.Syntax
mode_of (word ∷ words) = if says (codes "READER") word then alone command.ModeReader words else command.Syntax

-- a list of groups with a wildmat, or of all
abbrev pub with_wildmat : ListKind → Option (List ℕ) → NewsCommand
with_wildmat list.Active wildmat = command.ListActive wildmat
with_wildmat list.Newsgroups wildmat = command.ListNewsgroups wildmat
with_wildmat list.OverviewFormat wildmat = command.Syntax
with_wildmat list.NotKept wildmat = command.Syntax
with_wildmat list.Other wildmat = command.Syntax

-- a list of groups that a wildmat may follow
abbrev pub one_wildmat : ListKind → List (List ℕ) → NewsCommand
one_wildmat kind [] = with_wildmat kind None
one_wildmat kind (word ∷ words) = alone (with_wildmat kind (Some word)) words

-- a list of this kind and what follows
abbrev pub list_by : ListKind → List (List ℕ) → NewsCommand
list_by list.Active words = one_wildmat list.Active words
list_by list.Newsgroups words = one_wildmat list.Newsgroups words
list_by list.OverviewFormat words = alone command.ListOverviewFormat words
list_by list.NotKept words = with_one command.ListNotKept words
list_by list.Other words = one_wildmat list.Other words

-- `LIST` and what follows: with nothing, the groups
abbrev pub list_of : List (List ℕ) → NewsCommand
list_of [] = command.ListActive None
list_of (word ∷ words) = list_by (list_kind word) words

-- `GROUP` and what follows
abbrev pub group_command : List (List ℕ) → NewsCommand
group_command [] = command.Syntax
group_command (word ∷ words) = alone (command.Group (group_name word)) words

-- each number of an article
abbrev pub all_numbers : NumberRange
all_numbers = record { first = 1; last = 2_147_483_647 }

-- the numbers of a group in a range, where there is one
abbrev pub in_range : GroupName → Option NumberRange → NewsCommand
in_range group None = command.Syntax
in_range group (Some range) = command.Listgroup (Some group) range

-- `LISTGROUP`, a group and what follows
abbrev pub listgroup_in : GroupName → List (List ℕ) → NewsCommand
listgroup_in group [] = command.Listgroup (Some group) all_numbers
listgroup_in group (word ∷ words) = alone (in_range group (range_of word)) words

-- `LISTGROUP` and what follows
abbrev pub listgroup_of : List (List ℕ) → NewsCommand
listgroup_of [] = command.Listgroup None all_numbers
listgroup_of (word ∷ words) = listgroup_in (group_name word) words

-- an article by its id, or by one that none has
abbrev pub by_id : Option ArticleId → Target
by_id None = target.OtherId
by_id (Some id) = target.Id id

-- an article by its id, of which this stands behind `<`
abbrev pub named_target : List ℕ → Option Target
named_target text = if ends_with 62 text then Some (by_id (id_from text)) else None

-- an article by its number, where there is one
abbrev pub by_number : Option ℕ → Option Target
by_number None = None
by_number (Some number) = Some (target.Number number)

-- the article that a word names: `<..>`, or a number
abbrev pub target_of : List ℕ → Option Target
target_of [] = None
target_of (first ∷ rest) = if first == 60 then named_target rest else by_number (article_number (first ∷ rest))

-- a part of an article, where a word names one
abbrev pub shown_part : Part → Option Target → NewsCommand
shown_part part None = command.Syntax
shown_part part (Some article) = command.Show part article

-- a command that shows a part of an article, and what follows
abbrev pub show_of : Part → List (List ℕ) → NewsCommand
show_of part [] = command.Show part target.Current
show_of part (word ∷ words) = alone (shown_part part (target_of word)) words

-- an overview of a range, where there is one
abbrev pub over_range : Option NumberRange → NewsCommand
over_range None = command.Syntax
over_range (Some range) = command.Over (over.Range range)

-- an overview of what a word names: `<..>`, or a range
abbrev pub over_target : List ℕ → NewsCommand
over_target [] = command.Syntax
over_target (first ∷ rest) = if (first == 60) && ends_with 62 rest then command.Over over.Id else over_range (range_of (first ∷ rest))

-- `OVER` and what follows
abbrev pub over_of : List (List ℕ) → NewsCommand
over_of [] = command.Over over.Current
over_of (word ∷ words) = alone (over_target word) words

-- six digits or eight
abbrev pub is_date : List ℕ → Bool
is_date word = ((length word == 6) || (length word == 8)) && list_all is_ascii_digit word

-- six digits
abbrev pub is_time : List ℕ → Bool
is_time word = (length word == 6) && list_all is_ascii_digit word

-- `NEWGROUPS`, date, time and what follows
abbrev pub zone_of : List (List ℕ) → NewsCommand
zone_of [] = command.Newgroups
zone_of (word ∷ words) = if says (codes "GMT") word then alone command.Newgroups words else command.Syntax

-- `NEWGROUPS`, a date and what follows
abbrev pub newgroups_since : List (List ℕ) → NewsCommand
newgroups_since [] = command.Syntax
newgroups_since (word ∷ words) = if is_time word then zone_of words else command.Syntax

-- `NEWGROUPS` and what follows
abbrev pub newgroups_of : List (List ℕ) → NewsCommand
newgroups_of [] = command.Syntax
newgroups_of (word ∷ words) = if is_date word then newgroups_since words else command.Syntax

-- the first word and what follows
abbrev pub by_verb : Verb → List (List ℕ) → NewsCommand
by_verb verb.Capabilities words = with_one command.Capabilities words
by_verb verb.Mode words = mode_of words
by_verb verb.Help words = alone command.Help words
by_verb verb.Quit words = alone command.Quit words
by_verb verb.List words = list_of words
by_verb verb.Group words = group_command words
by_verb verb.Listgroup words = listgroup_of words
by_verb verb.Article words = show_of Article words
by_verb verb.Head words = show_of Head words
by_verb verb.Body words = show_of Body words
by_verb verb.Stat words = show_of Stat words
by_verb verb.Next words = alone command.Next words
by_verb verb.Last words = alone command.Last words
by_verb verb.Over words = over_of words
by_verb verb.Date words = alone command.Date words
by_verb verb.Newgroups words = newgroups_of words
by_verb verb.Post words = alone command.Post words
by_verb verb.Other words = command.Unknown

-- the words of a line: with none it is no command
abbrev pub by_words : List (List ℕ) → NewsCommand
by_words [] = command.Unknown
by_words (word ∷ words) = by_verb (verb_of word) words

-- what a line asks for
abbrev pub command_of : NewsLine → NewsCommand
command_of (Line text) = by_words (words_of text)
command_of TooLong = command.Syntax
