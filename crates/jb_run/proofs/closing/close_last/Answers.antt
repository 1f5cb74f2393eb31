use Rattle.std.proofs.Common.{length, ap, arith}
use Rattle.std.proofs.lemmas.List.{length_push}
use Rattle.jb_shared.specs.Areas.{passes_of}
use Rattle.jb_run.specs.declared.opening.SharedAreas.{SharedAreas}
use Rattle.jb_run.proofs.EndLemmas.{all_there, closes_last}
use Rattle.jb_run.proofs.WholeLemmas.{IsBehind, IsSharedBy, last_of_each, whole_last, whole_less, whole_own}
use Rattle.jb_run.proofs.closing.close_last.Goals as goal

pub collect-requires-clause-last : goal.collect-requires-clause-last
collect-requires-clause-last g c =
    let more = c.args.shared.now in
    last_of_each more (length more.nodes.items) (length more.areas.items) (omega (arith, ap length c.in_ok-area.ensures.items, length_push c.pop.new.self.items c.in_ok-area.area)) c.requires.whole

-- the row has the pass of each node
pub end-requires-clause-ours : goal.end-requires-clause-ours
end-requires-clause-ours g c =
    let area = c.in_ok-area.area in
    let row = c.collect.new.row.items in
    let room = c.in-Some.row in
    let more = c.args.shared.now in
    let fewer : SharedAreas g.row.H-Disk.Denot = record { areas = c.pop.new.self; nodes = c.collect.new.lists; rooms = c.pop-2.new.self; live = c.args.shared.now.live } in
    let behind : IsBehind more fewer area row room = record { areas = c.in_ok-area.ensures.items; passes = c.collect.ensures; rooms = c.in-Some.ensures.items } in
    let by : IsSharedBy (length more.nodes.items) area row = whole_last more fewer area row room (length more.nodes.items) (length more.areas.items) behind c.requires.whole in
    by.ours

pub end-requires-clause-all : goal.end-requires-clause-all
end-requires-clause-all g c =
    let area = c.in_ok-area.area in
    let row = c.collect.new.row.items in
    let room = c.in-Some.row in
    let more = c.args.shared.now in
    let fewer : SharedAreas g.row.H-Disk.Denot = record { areas = c.pop.new.self; nodes = c.collect.new.lists; rooms = c.pop-2.new.self; live = c.args.shared.now.live } in
    let behind : IsBehind more fewer area row room = record { areas = c.in_ok-area.ensures.items; passes = c.collect.ensures; rooms = c.in-Some.ensures.items } in
    let by : IsSharedBy (length more.nodes.items) area row = whole_last more fewer area row room (length more.nodes.items) (length more.areas.items) behind c.requires.whole in
    all_there (length more.nodes.items) area row (passes_of area) by.all by

pub returns : goal.returns
returns g c =
    let area = c.in_ok-area.area in
    let row = c.collect.new.row.items in
    let room = c.in-Some.row in
    let more = c.args.shared.now in
    let fewer : SharedAreas g.row.H-Disk.Denot = record { areas = c.pop.new.self; nodes = c.collect.new.lists; rooms = c.pop-2.new.self; live = c.args.shared.now.live } in
    let behind : IsBehind more fewer area row room = record { areas = c.in_ok-area.ensures.items; passes = c.collect.ensures; rooms = c.in-Some.ensures.items } in
    record {
      whole = whole_own fewer (length more.nodes.items) (length fewer.areas.items) (whole_less more fewer area row room (length more.nodes.items) (length more.areas.items) behind c.requires.whole);
      closed = closes_last c.args.areas.now c.len-place.result c.index-areas-place.result more fewer area row room (g.H.Host.desk c.args.host.now) (g.H.Host.desk c.end.new.host)
          c.end.result c.end.ensures.0 behind c.requires.within (omega (arith, c.len-place.ensures, c.pop.new.self.ok.0)) c.index-areas-place.is c.end.ensures.1 c.end.ensures.2;
      none = tt;
    }
