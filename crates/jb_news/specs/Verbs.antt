-- The first word of a command, and the word behind `LIST` (RFC 3977 sections 5 to 8), in either case.
use Rattle.std.specs.Prelude.{ℕ, Bool, ◌||◌, List, codes, if◌then◌else◌}
use Rattle.jb_news.specs.declared.verb.ListKind.{ListKind}
use Rattle.jb_news.specs.declared.verb.ListKind.TheVariants as list
use Rattle.jb_news.specs.declared.verb.Verb.{Verb}
use Rattle.jb_news.specs.declared.verb.Verb.TheVariants as verb
use Rattle.jb_news.specs.Words.{says}

-- what the first word of a line says
abbrev pub verb_of : List ℕ → Verb
verb_of word =
    if says (codes "CAPABILITIES") word then verb.Capabilities
    else if says (codes "MODE") word then verb.Mode
    else if says (codes "HELP") word then verb.Help
    else if says (codes "QUIT") word then verb.Quit
    else if says (codes "LIST") word then verb.List
    else if says (codes "GROUP") word then verb.Group
    else if says (codes "LISTGROUP") word then verb.Listgroup
    else if says (codes "ARTICLE") word then verb.Article
    else if says (codes "HEAD") word then verb.Head
    else if says (codes "BODY") word then verb.Body
    else if says (codes "STAT") word then verb.Stat
    else if says (codes "NEXT") word then verb.Next
    else if says (codes "LAST") word then verb.Last
    else if says (codes "OVER") word || says (codes "XOVER") word then verb.Over
    else if says (codes "DATE") word then verb.Date
    else if says (codes "NEWGROUPS") word then verb.Newgroups
    else if says (codes "POST") word then verb.Post
    else verb.Other

-- a list of this name is known and not kept here
abbrev pub is_not_kept : List ℕ → Bool
is_not_kept word =
    says (codes "HEADERS") word || (says (codes "ACTIVE.TIMES") word || (says (codes "DISTRIB.PATS") word || says (codes "SUBSCRIPTIONS") word))

-- what the word behind `LIST` says
abbrev pub list_kind : List ℕ → ListKind
list_kind word =
    if says (codes "ACTIVE") word then list.Active
    else if says (codes "NEWSGROUPS") word then list.Newsgroups
    else if says (codes "OVERVIEW.FMT") word then list.OverviewFormat
    else if is_not_kept word then list.NotKept
    else list.Other
