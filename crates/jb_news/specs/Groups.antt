-- The lines of groups and of articles (RFC 3977 sections 6.1, 6.2 and 7.6).
use Rattle.std.specs.Prelude.{ℕ, ◌-◌, ◌==◌, List, [], ◌∷◌, ◌++◌, codes, decimal, if◌then◌else◌}
use Rattle.jb_state.specs.declared.summary.Figures.{Figures}
use Rattle.jb_text.specs.Lines.{line_end}
use Rattle.jb_text.specs.Shown.{shown}
use Rattle.jb_news.specs.declared.command.Part.{Part}
use Rattle.jb_news.specs.declared.command.Part.TheVariants.{Article, Head, Body, Stat}
use Rattle.jb_news.specs.Names.{group_text, message_id}

-- the low number of a group: its base, or the next number where nothing is to be seen
abbrev pub low_of : Figures → ℕ
low_of figures = if figures.visible == 0 then figures.next else figures.base

-- two numbers with spaces around them
abbrev pub span_text : ℕ → ℕ → List ℕ
span_text first second = codes " " ++ decimal first ++ codes " " ++ decimal second ++ codes " "

-- the answer that chooses a group: `211 COUNT LOW HIGH jam.K`
abbrev pub chosen_line : ℕ → Figures → List ℕ
chosen_line area figures = codes "211 " ++ decimal figures.visible ++ span_text (low_of figures) (figures.next - 1) ++ group_text area ++ line_end

-- a group in a list of groups: `jam.K HIGH LOW n`
abbrev pub active_line : ℕ → Figures → List ℕ
active_line area figures = group_text area ++ span_text (figures.next - 1) (low_of figures) ++ codes "n" ++ line_end

-- a group with its name: `jam.K`, a tab, and the name of the area
abbrev pub name_line : ℕ → List ℕ → List ℕ
name_line area name = group_text area ++ (9 ∷ []) ++ shown name ++ line_end

-- a number of an article in a list of numbers
abbrev pub number_line : ℕ → List ℕ
number_line number = decimal number ++ line_end

-- the code of the answer that shows a part of an article
abbrev pub article_code : Part → List ℕ
article_code Article = codes "220 "
article_code Head = codes "221 "
article_code Body = codes "222 "
article_code Stat = codes "223 "

-- which article is shown: `220 N ID`
abbrev pub article_line : Part → ℕ → ℕ → ℕ → List ℕ
article_line part asked area number = article_code part ++ decimal asked ++ codes " " ++ message_id area number ++ line_end
