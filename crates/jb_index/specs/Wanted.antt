-- Which summaries a question asks for.
use Rattle.std.specs.Prelude.{Bool, true, nat_lt}
use Rattle.jb_bytes.specs.Name.{same_name}
use Rattle.jb_base.specs.declared.user.User.{User}
use Rattle.jb_index.specs.Answer.{name_in}
use Rattle.jb_index.specs.declared.shown.Wanted.{Wanted}
use Rattle.jb_index.specs.declared.shown.Wanted.TheVariants.{All, Above, Received}
use Rattle.jb_state.specs.declared.summary.Summary.{Summary}

-- the message is one of this kind
abbrev pub is_kind : User → Wanted → Summary → Bool
is_kind user All one = true
is_kind user (Above last) one = nat_lt last one.number
is_kind user Received one = same_name user.name (name_in one.to)
