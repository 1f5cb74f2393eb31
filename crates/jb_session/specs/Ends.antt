-- The end of a session by that of its talk.
use Rattle.jb_speech.specs.declared.end.TalkEnd.{TalkEnd}
use Rattle.jb_speech.specs.declared.end.TalkEnd.TheVariants as talk
use Rattle.jb_session.specs.declared.end.SessionEnd.{SessionEnd}
use Rattle.jb_session.specs.declared.end.SessionEnd.TheVariants.{Quit, Hangup, LinkFault, LoginRefused, Spent, OutOfMemory}
use Rattle.jb_session.specs.declared.end.NewsEnd.{NewsEnd}
use Rattle.jb_session.specs.declared.end.NewsEnd.TheVariants as news

-- a talk whose answers end is one for which memory was wanting
abbrev pub end_as : TalkEnd → SessionEnd
end_as talk.Quit = Quit
end_as talk.LoginRefused = LoginRefused
end_as talk.Spent = Spent
end_as talk.Hangup = Hangup
end_as talk.Unanswered = OutOfMemory
end_as talk.OutOfMemory = OutOfMemory

-- the end of a news reader's session, as that of a session
abbrev pub session_end : NewsEnd → SessionEnd
session_end news.Quit = Quit
session_end news.Hangup = Hangup
session_end news.LinkFault = LinkFault
session_end news.Spent = Spent
session_end news.OutOfMemory = OutOfMemory
