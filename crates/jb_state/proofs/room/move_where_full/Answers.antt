use Rattle.std.proofs.Common.{◌≡◌, ap, arith, false, length, sym, ◌∙◌}
use Rattle.std.specs.Int.{is_power_of_two}
use Rattle.jb_state.proofs.RoomLaws.{place_left}
use Rattle.jb_state.proofs.room.move_where_full.Goals as goal

pub returns-then-not-is_power_of_two-clause-place : goal.returns-then-not-is_power_of_two-clause-place
returns-then-not-is_power_of_two-clause-place c =
    let same : length c.args.items.now.items ≡ c.len.result = omega (arith, c.len.ensures) in
    let told : is_power_of_two c.len.result ≡ false = sym c.is_power_of_two.ensures ∙ c.if-not-is_power_of_two.true in
    place_left (length c.args.items.now.items) _ c.requires.room (ap is_power_of_two same ∙ told)
