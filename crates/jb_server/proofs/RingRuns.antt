-- The rings of a bell, one after another.
use Rattle.std.proofs.Common.{◌≡◌, ℕ, ◌+◌, ◌-◌, ◌<◌, List, [], ◌∷◌, ◌++◌, length, Option, refl, sym, ◌∙◌, ap, subst, arith}
use Rattle.std.specs.Prelude.{slice_index_or, slice_set}
use Rattle.std.specs.Option.{option_map}
use Rattle.std.proofs.lemmas.List.{get_or-set_other, get_or-set_same, get_or_default, length-set, map-append}
use Rattle.std.proofs.lemmas.List.Sums.{fold-append}
use Rattle.jb_base.specs.declared.user.User.{User}
use Rattle.jb_host.specs.Rings.{RingsNoMore, Rings, RingsFor}
use Rattle.jb_shared.specs.Passes.{Known, PassView}
use Rattle.jb_server.specs.Packers.{OnPass, PackerState}
use Rattle.jb_server.specs.Rounds.{AnswersRing, AnswersRings, Came, PackerWorks, Rung, RungsRun, came_of, ring_numbers, packs_after, packs_with}
use Rattle.jb_server.proofs.Told.{left_more, left_none, took_more, took_none}

-- what happens on the pass at a place happens on that of the area with the next number
pub on_pass : (happens : Known → Known → Type 0) (number k : ℕ) (old : List PassView) (before absent after : PassView) → number ≡ k + 1 → k < length old
    → before ≡ slice_index_or old k absent → happens before.known after.known → OnPass number happens old (slice_set old k after)
on_pass happens number k old before absent after is within found did = record {
  some = omega (arith, is);
  within = omega (arith, is);
  does = λ pass.
      let at : number - 1 ≡ k = omega (arith, is) in
      let was : before ≡ slice_index_or old k pass = found ∙ get_or_default old k absent pass within in
      subst (λ (j : ℕ). happens (slice_index_or old j pass).known (slice_index_or (slice_set old k after) j pass).known) (sym at)
      (subst (λ (p : PassView). happens (slice_index_or old k pass).known p.known) (sym (get_or-set_same old k after pass within))
      (subst (λ (p : PassView). happens p.known after.known) was did));
  count = length-set old k after;
  others = λ j pass other. get_or-set_other old k j after pass (λ same. other (ap (λ (n : ℕ). n + 1) same ∙ sym is));
}

module _ (user : User) where
  -- a ring more
  run_more : (rungs : List Rung) (last : Rung) (from mid to : PackerState) → RungsRun user from rungs mid
      → AnswersRing user last.number last.came mid to → RungsRun user from (rungs ++ last ∷ []) to
  run_more [] last from mid to run answers =
      let P : PackerState → Type 0 = λ w. AnswersRing user last.number last.came w to in
      (to, subst P run answers, refl)
  run_more (rung ∷ rungs) last from mid to run answers = (run.0, run.1, run_more rungs last run.0 mid to run.2 answers)

  -- a packer that goes on: the rings that it has answered, and the packs that it has counted; its bell is not found shut
  pub record IsPacking (old : Rings) (from : PackerState) (before : ℕ) (now : Rings) (to : PackerState) (packs : ℕ) : Type 0 where
    pub rungs : List Rung
    pub answers : AnswersRings user rungs old from now to
    pub counts : packs ≡ packs_after before (came_of rungs)

  -- the bell has not rung yet
  pub packing_none : (rings : Rings) (from : PackerState) (packs : ℕ) → IsPacking rings from packs rings from packs
  packing_none rings from packs = record {
    rungs = [];
    answers = record { run = refl; rang = took_none rings.to_come; left = left_none rings.left };
    counts = refl;
  }

  -- it has rung once more
  pub packing_more : (old now new : Rings) (from seat to : PackerState) (before packs number : ℕ) (came : Came)
      → IsPacking old from before now seat packs → RingsFor number now new → AnswersRing user number came seat to
      → IsPacking old from before new to (packs_with packs came)
  packing_more old now new from seat to before packs number came so_far rings answers =
      let last : Rung = record { number = number; came = came } in
      let rungs = so_far.rungs in
      let s = so_far.answers in
      record {
        rungs = rungs ++ last ∷ [];
        answers = record {
          run = run_more rungs last from seat to s.run answers;
          rang =
              let P : List ℕ → Type 0 = λ w. old.to_come ≡ option_map (λ rest. w ++ rest) new.to_come in
              subst P (sym (map-append (λ (rung : Rung). rung.number) rungs (last ∷ [])))
              (took_more old.to_come now.to_come new.to_come (ring_numbers rungs) number s.rang rings.first);
          left = left_more old.left now.left new.left rungs last s.left rings.left;
        };
        counts =
            let P : List Came → Type 0 = λ w. packs_with packs came ≡ packs_after before w in
            subst P (sym (map-append (λ (rung : Rung). rung.came) rungs (last ∷ [])))
            (ap (λ (w : ℕ). packs_with w came) so_far.counts ∙ sym (fold-append packs_with before (came_of rungs) (came ∷ [])));
      }

  -- the bell is found shut
  pub works_shut : (old now new : Rings) (from to : PackerState) (before packs : ℕ) → IsPacking old from before now to packs → RingsNoMore now new
      → PackerWorks user old from before new to packs
  works_shut old now new from to before packs so_far found =
      let P : Option (List ℕ) → Type 0 = λ w. old.to_come ≡ option_map (λ rest. ring_numbers so_far.rungs ++ rest) w in
      let Q : Option ℕ → Type 0 = λ w. old.left ≡ option_map (λ n. n + length so_far.rungs) w in
      record {
        rungs = so_far.rungs;
        answers = record {
          run = so_far.answers.run;
          rang = subst P (sym found.to_come) so_far.answers.rang;
          left = subst Q (sym found.left) so_far.answers.left;
        };
        shut = found.shut;
        over = found.left ∙ found.over;
        packs = so_far.counts;
      }
