use Rattle.std.proofs.Common.{◌≡◌, ◌+◌, ℕ, [], ◌∙◌, refl, ap, sym, subst, arith, inl}
use Rattle.jb_disk.specs.declared.version.Version.{Version}
use Rattle.jb_redo.specs.Reading.{BeginsWith, Lengths}
use Rattle.jb_redo.specs.Record.{width_of, length_bytes}
use Rattle.jb_redo.specs.Rules.{sizes_of, IsLegalLength}
use Rattle.jb_redo.specs.Walk.{size_in, journal_from, IsReadTo, HasLengthsTo}
use Rattle.jb_redo.proofs.WalkLemmas.{head_few, width_few, bad_length, next_length, lengths_start, lengths_done, within_set}
use Rattle.jb_redo.proofs.lengths.read_lengths.Goals as goal

pub read_count-requires-clause-head : goal.read_count-requires-clause-head
read_count-requires-clause-head g c = λ files is. c.in_ok-head.ensures.found files (sym c.read_head.ensures.kept.contents ∙ is)

pub loop-init : goal.loop-init
loop-init g c = record {
  kept = record { contents = refl; moments = refl };
  quiet = refl;
  place = omega (arith, c.head_bytes.ensures, head_few c.args.sizes.now.version);
  version = refl;
  within = λ file. inl refl;
  told = λ files now.
      let second = sym c.read_count.ensures.kept.contents ∙ now in
      let start = sym c.read_head.ensures.kept.contents ∙ second in
      let sized : size_in c.args.sizes.now ≡ sizes_of files = λ i. λ file. c.requires.sizes files start file i in
      lengths_start files c.in_ok-head.head.change c.in_ok-count.count (20 + c.head_bytes.result) c.args.sizes.now
      (subst (λ (n : ℕ). IsReadTo files c.args.sizes.now.version (Lengths c.in_ok-head.head.change c.in_ok-count.count []) (20 + n)) (sym c.head_bytes.ensures) (c.in_ok-count.ensures.found files second)) sized;
}

pub returns-in_default-clause-refused : goal.returns-in_default-clause-refused
returns-in_default-clause-refused g c = λ files is.
    let start = c.read_count.ensures.kept.contents ∙ c.read_head.ensures.kept.contents ∙ is in
    let none = rw c.in_default.is at c.in_ok-entry.ensures.none in
    let version = c.loop.invariant.version in
    bad_length files c.in_ok-count.count c.loop.counter c.loop.least c.loop.at c.loop.ends (c.loop.invariant.told files start) c.loop-test.true
    (λ entry legal high begins. none files (c.loop.invariant.kept.contents ∙ start) entry (subst (λ (v : Version). IsLegalLength v entry) version legal) high
    (subst (λ (v : Version). BeginsWith (journal_from files c.loop.at) (length_bytes v entry)) version begins))

pub loop-preserved : goal.loop-preserved
loop-preserved g c =
    let legal = rw c.in-Some.is at c.in_ok-entry.ensures.legal in
    let found = rw c.in-Some.is at c.in_ok-entry.ensures.found in
    let kept = c.read_length.ensures.kept in
    let was = c.loop.invariant.kept in
    let version = c.loop.invariant.version in
    record {
      kept = record { contents = kept.contents ∙ was.contents; moments = kept.moments ∙ was.moments };
      quiet = c.in_ok-entry.ensures.faults.quiet ∙ c.loop.invariant.quiet;
      place = omega (arith, c.width.ensures, width_few c.args.sizes.now.version, c.loop.invariant.place);
      version = c.set.ensures.version ∙ version;
      within = within_set c.args.sizes.now.version c.args.sizes.now c.loop.ends c.set.new.self c.in-Some.entry c.loop.invariant.within legal.0 c.set.ensures.sizes;
      told = λ files start.
          subst (λ (n : ℕ). HasLengthsTo files c.in_ok-count.count (c.loop.counter + 1) (c.number-least.result + 1) (c.loop.at + (4 + n)) c.set.new.self) (ap width_of version ∙ sym c.width.ensures)
          (next_length files c.in_ok-count.count c.loop.counter c.loop.least c.number-least.result c.loop.at c.loop.ends c.set.new.self c.in-Some.entry c.number-least.ensures
          (c.loop.invariant.told files start) c.loop-test.true (subst (λ (v : Version). IsLegalLength v c.in-Some.entry) (sym version) legal.0) legal.1
          (subst (λ (v : Version). BeginsWith (journal_from files c.loop.at) (length_bytes v c.in-Some.entry)) (sym version) (found files (was.contents ∙ start))) c.set.ensures.sizes c.set.ensures.version);
    }

pub overflow_add-at-in-loop : goal.overflow_add-at-in-loop
overflow_add-at-in-loop g c =
    let few = c.in_ok-count.ensures.few in
    let more = c.loop-test.true in
    let end = c.loop.auto.counter-end in
    omega (arith, c.width.ensures, width_few c.args.sizes.now.version, c.loop.invariant.place)

pub returns-clause-found : goal.returns-clause-found
returns-clause-found g c = λ files is.
    let start = c.read_count.ensures.kept.contents ∙ c.read_head.ensures.kept.contents ∙ is in
    lengths_done files c.in_ok-count.count c.loop.counter c.loop.least c.loop.at c.loop.ends (c.loop.invariant.told files start) (let end = c.loop.auto.counter-end in let all = c.loop-test.false in omega arith)
