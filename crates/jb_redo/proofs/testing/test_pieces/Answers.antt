use Rattle.std.proofs.Common.{◌≡◌, ◌∙◌, ℕ, sym, subst, arith, refl}
use Rattle.jb_redo.specs.Walk.{HasPiecesTo}
use Rattle.jb_redo.proofs.WalkLemmas.{bad_piece_count, no_number, pieces_start, bad_piece, next_piece}
use Rattle.jb_redo.proofs.testing.test_pieces.Goals as goal

pub returns-in_default-clause-refused : goal.returns-in_default-clause-refused
returns-in_default-clause-refused g c = λ files is.
    let none = rw c.in_default.is at c.in_ok-count.ensures.none in
    bad_piece_count files c.args.lengths.now.at c.args.lengths.now.ends (c.requires.lengths files is) (λ n low. no_number files c.args.lengths.now.at n (none files is))

pub loop-init : goal.loop-init
loop-init g c =
    let found = rw c.in-Some.is at c.in_ok-count.ensures.found in
    let fits = rw c.in-Some.is at c.in_ok-count.ensures.fits in
    record {
      kept = record { contents = refl; moments = refl };
      quiet = refl;
      told = λ files now.
          let is = sym c.read_number.ensures.kept.contents ∙ now in
          pieces_start files c.in-Some.count c.args.lengths.now.at c.args.lengths.now.ends (c.requires.lengths files is) fits (found files is);
    }

pub returns-in_default-2-clause-refused : goal.returns-in_default-2-clause-refused
returns-in_default-2-clause-refused g c = λ files is.
    let start = c.read_number.ensures.kept.contents ∙ is in
    let none = rw c.in_default-2.is at c.in_ok-part.ensures.none in
    bad_piece files c.in-Some.count c.loop.counter c.loop.at c.args.lengths.now.ends (c.loop.invariant.told files start) c.loop-test.true (none files (c.loop.invariant.kept.contents ∙ start))

pub loop-preserved : goal.loop-preserved
loop-preserved g c =
    let found = rw c.in-Some-2.is at c.in_ok-part.ensures.found in
    let kept = c.read_part.ensures.kept in
    let was = c.loop.invariant.kept in
    record {
      kept = record { contents = kept.contents ∙ was.contents; moments = kept.moments ∙ was.moments };
      quiet = c.in_ok-part.ensures.faults.quiet ∙ c.loop.invariant.quiet;
      told = λ files start.
          next_piece files c.in-Some.count c.loop.counter c.loop.at c.args.lengths.now.ends (c.loop.invariant.told files start) c.in-Some-2.part c.loop-test.true (found files (was.contents ∙ start));
    }

pub returns-clause-found : goal.returns-clause-found
returns-clause-found g c = λ files is.
    let start = c.read_number.ensures.kept.contents ∙ is in
    let ends = c.args.lengths.now.ends in
    let count = c.in-Some.count in
    let counted = c.loop.auto.counter-end in
    let all = c.loop-test.false in
    let same : c.loop.counter ≡ count = omega arith in
    record { count = count; ends = ends; all = subst (λ (n : ℕ). HasPiecesTo files count n c.loop.at ends) same (c.loop.invariant.told files start) }
