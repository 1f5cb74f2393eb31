-- The sessions of callers, one after another.
use Rattle.std.proofs.Common.{◌≡◌, ℕ, true, false, List, [], ◌∷◌, ◌++◌, length, ◌+◌, Option, refl, sym, ◌∙◌, ap, subst}
use Rattle.std.specs.Option.{option_map}
use Rattle.std.proofs.lemmas.List.{map-append}
use Rattle.std.proofs.lemmas.List.Sums.{fold-append}
use Rattle.jb_bytes.specs.Fault.{Rose}
use Rattle.jb_host.specs.Gate.{FailsToGive, Gate, GivesLink, GivesNone, HangsUp, IsFoundShut}
use Rattle.jb_host.specs.Wire.{Wire}
use Rattle.jb_session.specs.Exchanges.{NodeState}
use Rattle.jb_session.specs.declared.end.SessionEnd.{SessionEnd}
use Rattle.jb_server.specs.Sessions.{Serves, Session, SessionsRun, Works, back_of, ends_of, given_of}
use Rattle.jb_server.specs.Tallies.{and_failed, tallied, counted_all}
use Rattle.jb_server.specs.declared.tally.Tally.{Tally}
use Rattle.jb_server.proofs.Told.{added_more, added_none, left_more, left_none, took_more, took_none}

module _ (served : Wire → NodeState → SessionEnd → Wire → NodeState → Type 0) where
  -- a session more
  run_more : (sessions : List Session) (last : Session) (from mid to : NodeState) → SessionsRun served from sessions mid
      → served last.given mid last.end last.back to → SessionsRun served from (sessions ++ last ∷ []) to
  run_more [] last from mid to run came =
      let P : NodeState → Type 0 = λ w. served last.given w last.end last.back to in
      (to, subst P run came, refl)
  run_more (session ∷ sessions) last from mid to run came = (run.0, run.1, run_more sessions last run.0 mid to run.2 came)

  -- one that goes on: its sessions, each tallied under its end; its door has not failed, and is not found shut
  pub record IsServing (old : Gate) (from : NodeState) (before : Tally) (now : Gate) (to : NodeState) (tally : Tally) : Type 0 where
    pub sessions : List Session
    pub serves : Serves served sessions old from now to
    pub shut : now.is_shut ≡ old.is_shut
    pub faults : now.faults ≡ old.faults
    pub counts : tally ≡ counted_all before (ends_of sessions)

  -- it has served nobody yet
  pub serving_none : (gate : Gate) (from : NodeState) (tally : Tally) → IsServing gate from tally gate from tally
  serving_none gate from tally = record {
    sessions = [];
    serves = record { run = refl; gave = took_none gate.to_come; hung = added_none gate.hung; left = left_none gate.left };
    shut = refl;
    faults = refl;
    counts = refl;
  }

  -- it has served one more
  pub serving_more : (old now mid new : Gate) (from seat to : NodeState) (before tally : Tally) (given back : Wire) (end : SessionEnd)
      → IsServing old from before now seat tally → GivesLink given now mid → served given seat end back to → HangsUp back mid new
      → IsServing old from before new to (tallied tally end)
  serving_more old now mid new from seat to before tally given back end so_far gives came hangs =
      let last : Session = record { given = given; end = end; back = back } in
      let sessions = so_far.sessions in
      let s = so_far.serves in
      record {
        sessions = sessions ++ last ∷ [];
        serves = record {
          run = run_more sessions last from seat to s.run came;
          gave =
              let P : List Wire → Type 0 = λ w. old.to_come ≡ option_map (λ rest. w ++ rest) new.to_come in
              let Q : Option (List Wire) → Type 0 = λ w. old.to_come ≡ option_map (λ rest. (given_of sessions ++ given ∷ []) ++ rest) w in
              subst P (sym (map-append (λ (session : Session). session.given) sessions (last ∷ [])))
              (subst Q (sym hangs.to_come) (took_more old.to_come now.to_come mid.to_come (given_of sessions) given s.gave gives.first));
          hung =
              let P : List Wire → Type 0 = λ w. new.hung ≡ option_map (λ earlier. earlier ++ w) old.hung in
              subst P (sym (map-append (λ (session : Session). session.back) sessions (last ∷ [])))
              (added_more old.hung mid.hung new.hung (back_of sessions) back (gives.hung ∙ s.hung) (hangs.hung gives.room));
          left =
              let Q : Option ℕ → Type 0 = λ w. old.left ≡ option_map (λ n. n + length (sessions ++ last ∷ [])) w in
              subst Q (sym hangs.left) (left_more old.left now.left mid.left sessions last s.left gives.left);
        };
        shut = hangs.shut ∙ gives.shut ∙ so_far.shut;
        faults = hangs.faults ∙ gives.faults ∙ so_far.faults;
        counts =
            let P : List SessionEnd → Type 0 = λ w. tallied tally end ≡ counted_all before w in
            subst P (sym (map-append (λ (session : Session). session.end) sessions (last ∷ [])))
            (ap (λ (w : Tally). tallied w end) so_far.counts ∙ sym (fold-append tallied before (ends_of sessions) (end ∷ [])));
      }

  -- the door gave none: what was served stays
  serves_still : (sessions : List Session) (old now new : Gate) (from to : NodeState) → Serves served sessions old from now to → GivesNone now new
      → Serves served sessions old from new to
  serves_still sessions old now new from to s none =
      let P : Option (List Wire) → Type 0 = λ w. old.to_come ≡ option_map (λ rest. given_of sessions ++ rest) w in
      let Q : Option ℕ → Type 0 = λ w. old.left ≡ option_map (λ n. n + length sessions) w in
      record {
        run = s.run;
        gave = subst P (sym none.to_come) s.gave;
        hung = none.hung ∙ s.hung;
        left = subst Q (sym none.left) s.left;
      }

  -- the door is found shut
  pub works_shut : (old now new : Gate) (from to : NodeState) (before tally : Tally) → IsServing old from before now to tally → IsFoundShut now new
      → Works served old from before new to tally
  works_shut old now new from to before tally so_far found = record {
    sessions = so_far.sessions;
    serves = serves_still so_far.sessions old now new from to so_far.serves found.none;
    has_failed = false;
    stops = (found.shut, found.none.left ∙ found.over, found.faults ∙ so_far.faults);
    tally = so_far.counts;
  }

  -- the door has failed
  pub works_failed : (old now new : Gate) (from to : NodeState) (before tally : Tally) → IsServing old from before now to tally → FailsToGive now new
      → Rose now.faults new.faults → Works served old from before new to (and_failed true tally)
  works_failed old now new from to before tally so_far fails rose = record {
    sessions = so_far.sessions;
    serves = serves_still so_far.sessions old now new from to so_far.serves fails.none;
    has_failed = true;
    stops = (subst (λ (n : ℕ). Rose n new.faults) so_far.faults rose, fails.shut ∙ so_far.shut);
    tally = ap (and_failed true) so_far.counts;
  }
