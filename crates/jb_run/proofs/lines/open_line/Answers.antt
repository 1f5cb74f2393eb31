use Rattle.std.proofs.Common.{◌≡◌, refl, sym, subst, ◌∙◌}
use Rattle.jb_host.specs.Desk.{Desk, GivesDoor}
use Rattle.jb_run.proofs.lines.open_line.Goals as goal

-- the clock leaves the host as it is
pub returns-clause-ok : goal.returns-clause-ok
returns-clause-ok g c =
    let same : g.H.Host.desk c.clock-clock.new.self ≡ g.H.Host.desk c.door.new.self = c.clock-clock.ensures.same in
    let gives = c.in_ok-door.ensures.ok in
    record {
      number = refl;
      ready = record { clock = c.clock-clock.ensures.gives ∙ gives.rest.readings; none = c.new.ensures };
      gives = subst (λ (d : Desk). GivesDoor c.args.node c.args.port c.args.calls (g.H.Door.Door.gate c.in_ok-door.door) (g.H.Host.desk c.args.host.now) d) (sym same) gives;
      made = c.in_ok-door.ensures.counts;
    }
