-- What is answered without a number in it (RFC 3977 sections 3.2 and 5 to 8), each line with its end.
use Rattle.std.specs.Prelude.{ℕ, List, [], ◌∷◌, ◌++◌, codes}
use Rattle.std.specs.List.{flat_map}
use Rattle.jb_text.specs.Letter.{line}
use Rattle.jb_text.specs.Shown.{shown}
use Rattle.jb_news.specs.declared.responses.FixedResponse.{FixedResponse}
use Rattle.jb_news.specs.declared.responses.FixedResponse.TheVariants as answer

-- the end of a block of lines
abbrev pub end_text : List ℕ
end_text = line (codes ".")

-- a block of these lines
abbrev pub block : List (List ℕ) → List ℕ
block lines = flat_map line lines ++ end_text

-- the bytes of each answer
abbrev pub response_text : FixedResponse → List ℕ
response_text answer.Capabilities =
    block (codes "101 Capabilities" ∷ codes "VERSION 2" ∷ codes "READER" ∷ codes "OVER" ∷ codes "LIST ACTIVE NEWSGROUPS OVERVIEW.FMT" ∷ [])
response_text answer.Help =
    block (codes "100 Help" ∷ codes "CAPABILITIES MODE HELP QUIT LIST GROUP ARTICLE HEAD BODY STAT" ∷ codes "LISTGROUP NEXT LAST OVER DATE NEWGROUPS POST" ∷ [])
response_text answer.NoPosting = line (codes "201 No posting")
response_text answer.Bye = line (codes "205 Bye")
response_text answer.Groups = line (codes "215 Groups")
response_text answer.OverviewFormat =
    block (codes "215 Fields" ∷ codes "Subject:" ∷ codes "From:" ∷ codes "Date:" ∷ codes "Message-ID:" ∷ codes "References:" ∷ codes "Bytes:" ∷ codes "Lines:" ∷ [])
response_text answer.Overview = line (codes "224 Overview")
response_text answer.NewGroups = block (codes "231 New groups" ∷ [])
response_text answer.Fault = line (codes "403 Fault")
response_text answer.NoSuchGroup = line (codes "411 No such group")
response_text answer.NoGroup = line (codes "412 No group")
response_text answer.NoCurrent = line (codes "420 No current article")
response_text answer.NoNext = line (codes "421 No next article")
response_text answer.NoPrevious = line (codes "422 No previous article")
response_text answer.NoSuchNumber = line (codes "423 No such number")
response_text answer.NoSuchArticle = line (codes "430 No such article")
response_text answer.NotPosted = line (codes "440 No posting")
response_text answer.Unknown = line (codes "500 Unknown")
response_text answer.Syntax = line (codes "501 Syntax")
response_text answer.NotKept = line (codes "503 Not kept")

-- what a connection begins with
abbrev pub greeting_text : List ℕ → List ℕ
greeting_text board = line (codes "201 " ++ shown board)
