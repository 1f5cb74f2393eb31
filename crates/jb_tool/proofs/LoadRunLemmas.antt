-- Commands that are done take a run further.
use Rattle.std.proofs.Common.{◌≡◌, ◌≢◌, ◌+◌, ◌*◌, ◌/◌, ◌%◌, ◌≤◌, ℕ, suc, true, false, length, ap, refl, sym, ◌∙◌, subst, arith}
use Rattle.std.proofs.lemmas.List.{length-map}
use Rattle.std.proofs.lemmas.Bool.Decides.{nat_tests}
use Rattle.std.specs.Prelude.{◌==◌, Ok, Err, IsSome, Result}
use Rattle.jb_area.specs.Calls.{MeetsCall}
use Rattle.jb_area.specs.declared.area.OpenArea.{OpenArea}
use Rattle.jb_base.specs.declared.area.AreaRules.{AreaRules}
use Rattle.jb_decide.specs.Errors.{is_area_fault}
use Rattle.jb_decide.specs.declared.error.AreaError.{AreaError}
use Rattle.jb_disk.specs.Device.{Device, TellsAlike}
use Rattle.jb_model.specs.Answered.{Answered}
use Rattle.jb_state.specs.State.{AreaState, next_number, slot_state, state_of}
use Rattle.jb_model.specs.Step.{Step}
use Rattle.jb_model.specs.declared.command.Command.{Command}
use Rattle.jb_model.specs.declared.command.Command.TheVariants.{Pack}
use Rattle.jb_state.specs.declared.loaded.Loaded.{Loaded}
use Rattle.jb_model.specs.declared.reply.Reply.{Reply}
use Rattle.jb_tool.proofs.Recovering.{counts_then}
use Rattle.jb_tool.specs.LoadRuns.{Goes, IsRunAt, IsLoadReady, RestsAs, answers_in}
use Rattle.jb_tool.specs.Workload.{LoadRun, asked, behind_step, in_step, kills_in, load_rules, loader, marked, post_of_step, posts_in, reads_in, run_to, tenth}
use Rattle.jb_tool.specs.declared.counts.Counts.{Counts}

-- the run that an answered command leads to
asked_is : (moment : ℕ) (command : Command) (run : LoadRun) (reply : Reply) (state : AreaState) → Step load_rules run.area loader moment command reply state
    → asked moment command run ≡ record { area = state; posts = run.posts + posts_in reply; reads = run.reads + reads_in reply; kills = run.kills + kills_in reply }
unfolding asked
asked_is moment command run reply state is = ap (λ (a : Answered). record {
  area = a.state;
  posts = run.posts + posts_in a.reply;
  reads = run.reads + reads_in a.reply;
  kills = run.kills + kills_in a.reply;
}) is

-- what comes behind the step that ends the first half
pub behind_is : (count i : ℕ) (run : LoadRun) → i ≡ count / 2 → marked i (asked i Pack run) ≡ behind_step count i run
behind_is count i run is =
    let test : (i == count / 2) ≡ true = grind (arith, nat_tests) in
    rw test refl

-- a tenth step
pub tenth_is : (seed i : ℕ) (run : LoadRun) → i % 10 ≡ 0 → tenth seed i run ≡ in_step seed i run
tenth_is seed i run is =
    let test : (i % 10 == 0) ≡ true = grind (arith, nat_tests) in
    rw test refl

-- another step
pub post_is : (seed i : ℕ) (run : LoadRun) → i % 10 ≢ 0 → asked i (post_of_step seed i (next_number run.area)) run ≡ in_step seed i run
post_is seed i run other =
    let test : (i % 10 == 0) ≡ false = grind (arith, nat_tests) in
    rw test refl

-- of a disk that shows itself so
module _ {D : Type 0} (shown : D → Device) where
  -- the next number of an area is that of the state for which it stands
  pub next_is : (area : OpenArea D) (state : AreaState) → RestsAs shown area state → area.held.base + length area.held.slots ≡ next_number state
  next_is area state rests =
      ap (λ (n : ℕ). area.held.base + n) (sym (length-map area.held.slots (slot_state rests.texts)))
      ∙ ap (λ (s : AreaState). next_number s) rests.is

  -- the same commands, otherwise told
  pub goes_as : (most : ℕ) (old new : OpenArea D) (was now : Counts) (f g : LoadRun → LoadRun) (result : Result (Unit {0}) AreaError)
      → ((run : LoadRun) → IsRunAt shown old was run → f run ≡ g run) → Goes shown most old new was now f result → Goes shown most old new was now g result
  goes_as most old new was now f g (Ok done) same goes = record {
    ready = goes.ready;
    done = λ tells run at. subst (IsRunAt shown new now) (same run at) (goes.done tells run at);
    few = goes.few;
    faults = goes.faults;
    alike = goes.alike;
  }
  goes_as most old new was now f g (Err error) same goes = record { ready = tt; done = tt; few = goes.few; faults = goes.faults; alike = goes.alike }

  -- commands, and others behind them
  pub goes_then : (m n : ℕ) (a b c : OpenArea D) (x y z : Counts) (f g : LoadRun → LoadRun) (result : Result (Unit {0}) AreaError)
      → Goes shown m a b x y f (Ok tt) → Goes shown n b c y z g result → Goes shown (m + n) a c x z (λ run. g (f run)) result
  goes_then m n a b c x y z f g (Ok done) one two = record {
    ready = two.ready;
    done = λ tells run at. two.done (one.alike ∙ tells) (f run) (one.done tells run at);
    few = let first = one.few in let second = two.few in omega (arith, first, second);
    faults = counts_then is_area_fault (shown a.disk) (shown b.disk) (shown c.disk) (Ok done) one.faults.quiet two.faults;
    alike = two.alike ∙ one.alike;
  }
  goes_then m n a b c x y z f g (Err error) one two = record {
    ready = tt;
    done = tt;
    few = let first = one.few in let second = two.few in omega (arith, first, second);
    faults = counts_then is_area_fault (shown a.disk) (shown b.disk) (shown c.disk) (Err error) one.faults.quiet two.faults;
    alike = two.alike ∙ one.alike;
  }

  -- the same, of more commands
  pub goes_more : (m n : ℕ) (a b : OpenArea D) (x y : Counts) (f : LoadRun → LoadRun) (result : Result (Unit {0}) AreaError) → Goes shown m a b x y f result → Goes shown (m + n) a b x y f result
  goes_more m n a b x y f result one = record { ready = one.ready; done = one.done; few = let first = one.few in omega (arith, first); faults = one.faults; alike = one.alike }

  -- so many steps were done since the first half may have ended before the first
  pub record HasGone (seed count steps : ℕ) (old new : OpenArea D) (was now : Counts) : Type 0 where
    pub ready : IsLoadReady shown new
    pub done : IsSome (shown old.disk).contents → (run : LoadRun) → IsRunAt shown old was (behind_step count 0 run) → IsRunAt shown new now (run_to seed count steps run)
    pub few : answers_in now ≤ answers_in was + 4 * steps
    pub quiet : (shown new.disk).faults ≡ (shown old.disk).faults
    pub alike : TellsAlike (shown old.disk) (shown new.disk)

  -- none yet
  pub gone_nowhere : (seed count : ℕ) (area : OpenArea D) (counts : Counts) → IsLoadReady shown area → HasGone seed count 0 area area counts counts
  gone_nowhere seed count area counts ready = record { ready = ready; done = λ tells run at. at; few = omega arith; quiet = refl; alike = refl }

  module _ (seed count steps : ℕ) (a b c : OpenArea D) (x y z : Counts) (gone : HasGone seed count steps a b x y) where
    -- one more
    pub gone_further : Goes shown 4 b c y z (λ run. behind_step count (steps + 1) (in_step seed (steps + 1) run)) (Ok tt) → HasGone seed count (steps + 1) a c x z
    gone_further goes = record {
      ready = goes.ready;
      done = λ tells run at. subst (IsRunAt shown c z) (one_step (steps + 1) run (omega arith)) (goes.done (gone.alike ∙ tells) (run_to seed count steps run) (gone.done tells run at));
      few = let first = gone.few in let second = goes.few in omega (arith, first, second);
      quiet = goes.faults.quiet ∙ gone.quiet;
      alike = goes.alike ∙ gone.alike;
    }
      where
        one_step : (next : ℕ) (run : LoadRun) → next ≡ suc steps → behind_step count next (in_step seed next (run_to seed count steps run)) ≡ run_to seed count next run
        one_step next run is = subst (λ (n : ℕ). behind_step count n (in_step seed n (run_to seed count steps run)) ≡ run_to seed count n run) (sym is) refl

  module _ (old new : OpenArea D) (moment : ℕ) (command : Command) where
    -- a command that failed
    pub ask_failed : (counts : Counts) (error : AreaError) → MeetsCall shown old new loader moment command (Err error)
        → Goes shown 1 old new counts counts (asked moment command) (Err error)
    ask_failed counts error meets = record { ready = tt; done = tt; few = omega arith; faults = record { quiet = tt; later = meets.faults.later; cause = meets.faults.cause }; alike = meets.alike }

    -- a command that was answered, and is counted
    pub ask_done : (was now : Counts) (reply : Reply) → IsLoadReady shown old → MeetsCall shown old new loader moment command (Ok reply)
        → now.posts ≡ was.posts + posts_in reply → now.reads ≡ was.reads + reads_in reply → now.kills ≡ was.kills + kills_in reply
        → answers_in now ≤ answers_in was + 1 → Goes shown 1 old new was now (asked moment command) (Ok tt)
    ask_done was now reply ready meets posts reads kills few = record {
      ready = record {
        rest = (let answered = meets.answered ready.rest.texts ready.rest.rests in record { texts = answered.coming.texts; rests = answered.rests.rests });
        rules = meets.rules ∙ ready.rules;
      };
      done = λ tells run at.
          let answered = meets.answered at.rests.texts at.rests.rests in
          let after = state_of answered.coming.texts answered.coming.to in
          let one = answered.step (λ letter is. tells) in
          let two = subst (λ (r : AreaRules). Step r (state_of at.rests.texts old.held) loader moment command reply after) ready.rules one in
          let three = subst (λ (s : AreaState). Step load_rules s loader moment command reply after) at.rests.is two in
          subst (IsRunAt shown new now) (sym (asked_is moment command run reply after three)) (record {
            rests = record {
              texts = answered.coming.texts;
              rests = answered.rests.rests;
              is = ap (λ (l : Loaded). state_of answered.coming.texts l) answered.rests.is;
            };
            posts = posts ∙ ap (λ (n : ℕ). n + posts_in reply) at.posts;
            reads = reads ∙ ap (λ (n : ℕ). n + reads_in reply) at.reads;
            kills = kills ∙ ap (λ (n : ℕ). n + kills_in reply) at.kills;
          });
      few = few;
      faults = record { quiet = meets.faults.quiet; later = meets.faults.later; cause = tt };
      alike = meets.alike;
    }
