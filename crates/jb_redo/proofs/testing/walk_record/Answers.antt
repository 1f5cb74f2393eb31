use Rattle.std.proofs.Common.{◌≡◌, ◌∙◌, refl, ap, sym, subst}
use Rattle.jb_redo.specs.Reading.{BeginsWith}
use Rattle.jb_redo.specs.Record.{record_end}
use Rattle.jb_redo.specs.Walk.{journal_from}
use Rattle.jb_redo.proofs.WalkLemmas.{bad_end, whole_record, change_read, whole_change}
use Rattle.jb_redo.proofs.testing.walk_record.Goals as goal

pub returns-then-not-branch-clause-answer : goal.returns-then-not-branch-clause-answer
returns-then-not-branch-clause-answer g c = λ files is.
    let second = c.of.ensures.kept.contents ∙ is in
    let third = c.read_lengths.ensures.kept.contents ∙ second in
    let fourth = c.test_pieces.ensures.kept.contents ∙ third in
    let has = c.in_ok-at.ensures.found files third in
    let end : c.end_mark-end.result ≡ record_end has.ends.version = c.end_mark-end.ensures ∙ ap record_end (c.in_ok-sizes.ensures.version files is ∙ sym has.all.read_to.version_is) in
    bad_end files has.count has.count c.in_ok-at.at has.ends has.all refl
    (λ begins. c.in_ok-has_mark.ensures.none c.if-not-branch.true files fourth (subst (BeginsWith (journal_from files c.in_ok-at.at)) (sym end) begins))

pub returns-clause-answer : goal.returns-clause-answer
returns-clause-answer g c = λ files is.
    let second = c.of.ensures.kept.contents ∙ is in
    let third = c.read_lengths.ensures.kept.contents ∙ second in
    let fourth = c.test_pieces.ensures.kept.contents ∙ third in
    let has = c.in_ok-at.ensures.found files third in
    let head = c.in_ok-lengths.ensures.head files second in
    let end : c.end_mark-end.result ≡ record_end has.ends.version = c.end_mark-end.ensures ∙ ap record_end (c.in_ok-sizes.ensures.version files is ∙ sym has.all.read_to.version_is) in
    let begins = subst (BeginsWith (journal_from files c.in_ok-at.at)) end (c.in_ok-has_mark.ensures.found c.if-not-branch.false files fourth) in
    record {
      version = head.version;
      has = record {
        lengths = has.all.lengths;
        pieces = has.all.pieces;
        is = whole_record files has.count has.count c.in_ok-at.at has.ends has.all refl begins;
      };
      change = whole_change files has.count has.count c.in_ok-at.at has.ends has.all refl begins ∙ change_read files has.count has.count c.in_ok-at.at has.ends has.all c.in_ok-lengths.lengths.head head;
    }
