-- The names of groups and of articles: `jam.K` for the area K, and `<K.N@jam.invalid>` for the message N there.
use Rattle.std.specs.Prelude.{ℕ, nat_eq, List, ◌++◌, take, drop, Option, Some, None, codes, decimal, bytes_eq, if◌then◌else◌}
use Rattle.std.specs.List.{starts_with}
use Rattle.jb_news.specs.declared.names.ArticleId.{ArticleId}
use Rattle.jb_news.specs.declared.names.GroupName.{GroupName}
use Rattle.jb_news.specs.declared.names.GroupName.TheVariants.{Number, Other}
use Rattle.jb_news.specs.Numbers.{plain_number}
use Rattle.jb_news.specs.Words.{behind_of, front_of, place_of}

-- the name of a group
abbrev pub group_text : ℕ → List ℕ
group_text area = codes "jam." ++ decimal area

-- the message id of an article
abbrev pub message_id : ℕ → ℕ → List ℕ
message_id area number = codes "<" ++ decimal area ++ codes "." ++ decimal number ++ codes "@jam.invalid>"

-- the group of a number, where there is one
abbrev pub numbered_group : Option ℕ → GroupName
numbered_group None = Other
numbered_group (Some number) = Number number

-- the group that a word names
abbrev pub group_name : List ℕ → GroupName
group_name word = if starts_with nat_eq word (codes "jam.") then numbered_group (plain_number (drop 4 word)) else Other

-- the number of an article in what stands behind the first stop of its id
abbrev pub number_from : List ℕ → Option ℕ
number_from text = if bytes_eq (drop (place_of 64 text) text) (codes "@jam.invalid>") then plain_number (take (place_of 64 text) text) else None

-- the two numbers of an id, where both are there
abbrev pub both_numbers : Option ℕ → Option ℕ → Option ArticleId
both_numbers None number = None
both_numbers (Some area) None = None
both_numbers (Some area) (Some number) = Some (record { area = area; number = number })

-- the article that an id names, of which this stands behind `<`
abbrev pub id_from : List ℕ → Option ArticleId
id_from text = both_numbers (plain_number (front_of 46 text)) (number_from (behind_of 46 text))
