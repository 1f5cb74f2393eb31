-- What one user asks of an area that is empty at first, step by step, and what is answered.
use Rattle.std.specs.Prelude.{ℕ, zero, suc, ◌+◌, ◌-◌, ◌*◌, ◌/◌, ◌%◌, ◌==◌, false, List, [], ◌∷◌, ◌++◌, codes, replicate, if◌then◌else◌}
use Rattle.jb_base.specs.declared.area.AreaRules.{AreaRules}
use Rattle.jb_base.specs.declared.area.Kind.TheVariants.{Local}
use Rattle.jb_base.specs.declared.user.User.{User}
use Rattle.jb_change.specs.NewBase.{new_area}
use Rattle.jb_model.specs.Answered.{Answered}
use Rattle.jb_state.specs.State.{AreaState, next_number}
use Rattle.jb_model.specs.Step.{step}
use Rattle.jb_model.specs.declared.command.Command.{Command}
use Rattle.jb_model.specs.declared.command.Command.TheVariants.{Kill, Pack, Post, Read, SetMark}
use Rattle.jb_model.specs.declared.reply.Reply.{Reply}
use Rattle.jb_model.specs.declared.reply.Reply.TheVariants.{Killed, Posted, Text}

-- the rules of the area
abbrev pub load_rules : AreaRules
load_rules = record { ordinal = 1; address = codes "1:1/1"; kind = Local; read = 0; post = 0; sysop = 255; slots = 65000 }

-- the user who asks
abbrev pub loader : User
loader = record { name = codes "Loader"; id = 1; level = 255 }

-- the area of a base that was just made, at the moment 0
abbrev pub empty_area : AreaState
empty_area = new_area 0

-- a run so far: the area, and how many commands were answered as a post, as a reading and as a kill
pub record LoadRun : Type 0 where
  pub area : AreaState
  pub posts : ℕ
  pub reads : ℕ
  pub kills : ℕ

-- one where the reply tells of a post
abbrev pub posts_in : Reply → ℕ
posts_in (Posted number) = 1
posts_in other = 0

-- one where the reply shows a message
abbrev pub reads_in : Reply → ℕ
reads_in (Text letter) = 1
reads_in other = 0

-- one where the reply tells of a kill
abbrev pub kills_in : Reply → ℕ
kills_in (Killed number) = 1
kills_in other = 0

-- the run with one answer more
abbrev pub tallied : LoadRun → Answered → LoadRun
tallied run answered = record {
  area = answered.state;
  posts = run.posts + posts_in answered.reply;
  reads = run.reads + reads_in answered.reply;
  kills = run.kills + kills_in answered.reply;
}

-- the run with a command that is asked at this moment
unfoldable pub asked : ℕ → Command → LoadRun → LoadRun
asked moment command run = tallied run (step load_rules run.area loader moment command)

-- the text that a step posts: some bytes of one letter, and the end of the line
abbrev pub text_of_step : ℕ → ℕ → List ℕ
text_of_step seed i = replicate (19 + 10 * (i % 10)) (97 + (seed + i) % 26) ++ 13 ∷ []

-- the number that the post of a step answers, where the next number is this one: each third post answers the one before it
abbrev pub answered_in_step : ℕ → ℕ → ℕ
answered_in_step i next = if i % 10 % 3 == 0 then next - 1 else 0

-- the post of a step, where the next number is this one
abbrev pub post_of_step : ℕ → ℕ → ℕ → Command
post_of_step seed i next = Post (codes "All") (codes "Load") (text_of_step seed i) (answered_in_step i next) false

-- the number of the first message of the ten steps that end with this one
abbrev pub first_of_ten : ℕ → ℕ
first_of_ten i = 9 * (i / 10 - 1) + 1

-- of the nine messages of ten steps the first is read, and then one of them is killed
abbrev pub tenth : ℕ → ℕ → LoadRun → LoadRun
tenth seed i run = asked i (Kill (first_of_ten i + seed % 9)) (asked i (Read (first_of_ten i)) run)

-- a step: each tenth reads and kills, the others post
abbrev pub in_step : ℕ → ℕ → LoadRun → LoadRun
in_step seed i run = if i % 10 == 0 then tenth seed i run else asked i (post_of_step seed i (next_number run.area)) run

-- the user marks all as read
abbrev pub marked : ℕ → LoadRun → LoadRun
marked i run = asked i (SetMark (next_number run.area - 1)) run

-- behind the step that ends the first half the area is packed, and all is marked as read
abbrev pub behind_step : ℕ → ℕ → LoadRun → LoadRun
behind_step count i run = if i == count / 2 then marked i (asked i Pack run) else run

-- the run after so many of the steps; where the first half has none, it ends before the first step
abbrev pub run_to : ℕ → ℕ → ℕ → LoadRun → LoadRun
run_to seed count zero run = behind_step count 0 run
run_to seed count (suc i) run = behind_step count (suc i) (in_step seed (suc i) (run_to seed count i run))

-- the run after all steps, and a pack
abbrev pub whole_run : ℕ → ℕ → LoadRun → LoadRun
whole_run seed count run = asked count Pack (run_to seed count count run)

-- nothing was asked yet
abbrev pub first_run : LoadRun
first_run = record { area = empty_area; posts = 0; reads = 0; kills = 0 }

-- the whole run, from the empty area on
abbrev pub load_run : ℕ → ℕ → LoadRun
load_run seed count = whole_run seed count first_run
