use Rattle.std.proofs.Common.{◌≡◌, ◌%◌, ap, get_or, length, refl, set, sym, ◌∙◌}
use Rattle.std.specs.Vec.{with_item}
use Rattle.jb_link.specs.Ids.{hash_of}
use Rattle.jb_link.specs.declared.ids.Ids.{Ids}
use Rattle.jb_link.proofs.IdLemmas.{TakesSeat, seat_kept, seat_settled}
use Rattle.jb_link.proofs.ids.Ids.keep.Goals as goal

pub returns-then-first-eq0 : goal.returns-then-first-eq0
returns-then-first-eq0 c =
    let seat : c.seat_of-seat.result ≡ hash_of c.args.id.now % length c.args.self.now.seats.items = cc in
    let free : get_or c.args.self.now.seats.items c.seat_of-seat.result 0 ≡ 0 = cc in
    let new : Ids = record { seats = with_item c.args.self.now.seats c.seat_of-seat.result c.args.number; others = c.args.self.now.others } in
    let h : TakesSeat c.args.base c.args.slots.now c.args.self.now new c.args.id.now c.args.number = record {
      settled = c.requires.settled;
      some = c.requires.number;
      named = c.requires.id;
      free = ap (λ i. get_or c.args.self.now.seats.items i 0) (sym seat) ∙ free;
      seats = ap (λ i. set c.args.self.now.seats.items i c.args.number) seat;
      others = refl;
    }
    in (
      seat_settled c.args.base c.args.slots.now c.args.self.now new c.args.id.now c.args.number h,
      seat_kept c.args.base c.args.slots.now c.args.self.now new c.args.id.now c.args.number h,
    )
