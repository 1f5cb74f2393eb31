use Rattle.std.proofs.Common.{◌∙◌, ◌-◌, ℕ, List, inl, inr, ap, arith, length, refl, subst, sym}
use Rattle.jb_pack.specs.Reaching.{IsReach}
use Rattle.jb_pack.specs.Shadow.{lefts}
use Rattle.jb_pack.specs.declared.copied.CopiedText.{CopiedText}
use Rattle.jb_pack.proofs.RestLemmas.{most_anew, most_here}
use Rattle.jb_pack.proofs.ShadowLemmas.{lefts-none}
use Rattle.jb_pack.proofs.TouchLemmas.{touches-none}
use Rattle.jb_pack.proofs.stepping.start.Goals as goal

pub returns-in_default : goal.returns-in_default
returns-in_default g c = record {
  starts = inl (record { same = refl; is = c.requires.first; fits = c.in_default.not-Ceiling });
  has = c.requires.has;
  each = c.requires.each;
  most = most_here c.args.budget c.args.first.bytes c.args.first.stop c.in_default.not-Ceiling;
  durable = λ synced. synced;
  kept = touches-none (g.D.Disk.device c.args.disk.now);
  cause = record { kept = refl; later = omega arith; failed = tt; refused = λ none. absurd none; alike = refl };
}

pub returns-clause-starts : goal.returns-clause-starts
returns-clause-starts g c =
    let behind = c.reach_of.ensures.behind in
    inr (record {
      before = c.args.first;
      was = c.requires.first;
      full = c.in-Ceiling.is;
      empty = behind;
      none = ap (λ (l : List CopiedText). lefts l c.args.slots.now) c.forget.ensures ∙ lefts-none (length c.args.copies.now) c.args.slots.now;
      is = subst (λ (n : ℕ). IsReach (c.args.budget - c.args.first.bytes) c.args.slots.now (record { texts = c.forget.new.copies; len = n }) c.reach_of.result) (sym behind) c.reach_of.ensures;
    })

pub returns-clause-most : goal.returns-clause-most
returns-clause-most g c =
    let fits = c.reach_of.ensures.fits in
    most_anew c.args.budget c.args.first.bytes c.reach_of.result.bytes c.args.first.stop c.in-Ceiling.is (omega arith)
