-- That the names of groups and of articles are read back.
use Rattle.std.specs.Prelude.{◌≡◌, ℕ, ◌^◌, ◌<◌, drop, Some}
use Rattle.jb_news.specs.declared.names.GroupName.TheVariants.{Number}
use Rattle.jb_news.specs.Names.{group_name, group_text, id_from, message_id}

-- each message id is read as the article that it names
abbrev pub IdsAreRead : Type 0
IdsAreRead = (area number : ℕ) → area < 2 ^ 32 → number < 2 ^ 32 → id_from (drop 1 (message_id area number)) ≡ Some (record { area = area; number = number })

-- the name of each group is read as its number
abbrev pub GroupsAreRead : Type 0
GroupsAreRead = (area : ℕ) → area < 2 ^ 32 → group_name (group_text area) ≡ Number area
