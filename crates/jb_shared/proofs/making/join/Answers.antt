use Rattle.std.proofs.Common.{◌≡◌, [], ◌∷◌, All, drop, length, slice_get, suc, ap, arith, subst, sym, ◌∙◌}
use Rattle.std.proofs.lemmas.List.Elements.{All-head, All-tail}
use Rattle.jb_publish.specs.Accounts.{account_of}
use Rattle.jb_publish.proofs.Fronts.{prefix_trans}
use Rattle.jb_turn.specs.Seats.{Rests, id_of, resting_row, resting_turn}
use Rattle.jb_shared.proofs.MakingLemmas.{dropped_at, first_is_new, joined_fresh, parts_fit, pass_of_new, reader_is_fresh, taken_off}
use Rattle.jb_shared.proofs.making.join.Goals as goal

pub invariant_of-push_reserved : goal.invariant_of-push_reserved
invariant_of-push_reserved g c =
    let at = c.loop-seats in
    let mark = c.requires.fresh.0 in
    let whole = ap (λ l. c.remove.result ∷ l) c.remove.ensures.items ∙ taken_off at.seats.items c.remove.result (omega (arith, c.remove.ensures.len)) c.remove.ensures.value in
    let is = first_is_new mark c.args.seats.items at.seats.items c.remove.new.self.items (length at.passes.items) c.remove.result whole at.invariant.seats c.requires.fresh.1 in
    let fresh = reader_is_fresh mark c.args.readers.items at.readers.items c.pop.new.self.items c.in-Some.reader at.invariant.readers c.in-Some.ensures.items c.requires.fresh.2 in
    let fit = parts_fit mark (length at.passes.items) c.remove.result (resting_row c.rest-seat.result) (account_of c.in-Some.reader) c.rest-seat.ensures.same.1 is fresh in
    record { same_mark = fit.0; informed = fit.1 }

pub loop-seats-preserved : goal.loop-seats-preserved
loop-seats-preserved g c =
    let at = c.loop-seats in
    let old = at.invariant in
    let whole = ap (λ l. c.remove.result ∷ l) c.remove.ensures.items ∙ taken_off at.seats.items c.remove.result (omega (arith, c.remove.ensures.len)) c.remove.ensures.value in
    let dropped = dropped_at c.args.seats.items c.remove.new.self.items (length at.passes.items) c.remove.result (whole ∙ old.seats) in
    let rests = subst (λ l. All (Rests c.args.turn.now) l) (sym whole) old.rests in
    let count : suc (length at.passes.items) ≡ length c.push_reserved.new.self.items = omega (arith, c.push_reserved.ensures.len) in
    record {
      seats = dropped.1 ∙ ap (λ n. drop n c.args.seats.items) count;
      readers = prefix_trans c.pop.new.self.items at.readers.items c.args.readers.items (c.in-Some.reader ∷ [], sym c.in-Some.ensures.items) old.readers;
      sum = omega (arith, c.push_reserved.ensures.len, c.remove.ensures.len, old.sum);
      alike = omega (arith, c.in-Some.ensures.len, c.remove.ensures.len, old.alike);
      rests = All-tail (Rests c.args.turn.now) c.remove.result c.remove.new.self.items rests;
      cap = omega (arith, c.push_reserved.ensures.capacity, old.cap);
      fresh = λ mark new fresh.
          let is = first_is_new mark c.args.seats.items at.seats.items c.remove.new.self.items (length at.passes.items) c.remove.result whole old.seats new in
          let account = reader_is_fresh mark c.args.readers.items at.readers.items c.pop.new.self.items c.in-Some.reader old.readers c.in-Some.ensures.items fresh in
          let here = c.rest-seat.ensures.same.0 ∙ (All-head (Rests c.args.turn.now) c.remove.result c.remove.new.self.items rests).0 in
          let last = pass_of_new (id_of c.args.turn.now) (resting_turn c.rest-seat.result) mark (length at.passes.items) c.remove.result (resting_row c.rest-seat.result) (account_of c.in-Some.reader) here c.rest-seat.ensures.same.1 is account in
          λ k pass found.
          joined_fresh (id_of c.args.turn.now) mark at.passes.items _ (old.fresh mark new fresh) last k pass (ap (λ l. slice_get l k) (sym c.push_reserved.ensures.items) ∙ found);
    }
