use Rattle.std.proofs.Common.{◌≡◌, ◌∙◌, List, ap, map, sym}
use Rattle.jb_area.specs.Area.{device_of, loaded_of}
use Rattle.jb_area.specs.declared.area.OpenArea.{OpenArea}
use Rattle.jb_state.specs.Live.{live_count}
use Rattle.jb_state.specs.State.{slot_state}
use Rattle.jb_state.specs.declared.loaded.Loaded.{Loaded}
use Rattle.jb_state.specs.declared.loaded.LoadedSlot.{LoadedSlot}
use Rattle.jb_run.proofs.LifeLemmas.{lacks_room, takes_back_at}
use Rattle.jb_run.proofs.sharing.share.Goals as goal

pub returns-in-Ok-clause-ok : goal.returns-in-Ok-clause-ok
returns-in-Ok-clause-ok g c =
    let given = c.in_ok-opened.ensures.ok in
    let opened = c.in_ok-opened.opened in
    let slots : c.as_slice.result.now ≡ (loaded_of opened).slots = c.as_slice.ensures ∙ ap (λ (l : Loaded). l.slots) c.loaded.ensures in
    record {
      before = given.0;
      gives = given.1;
      opened = opened;
      opens = given.2;
      shares = c.in-Ok.ensures.ok;
      counts = λ texts. c.count_live-live.ensures texts ∙ ap (λ (s : List LoadedSlot). live_count (map (slot_state texts) s)) slots;
    }

pub returns-in-Err-clause-err : goal.returns-in-Err-clause-err
returns-in-Err-clause-err g c =
    let shown = g.H.Disk.Disk.device in
    let given = c.in_ok-opened.ensures.ok in
    let area = c.args.area.now in
    let opened = c.in_ok-opened.opened in
    let mid = g.H.Host.desk c.open_disk.new.host in
    let new = g.H.Host.desk c.put_back.new.self in
    let after = shown c.close.result in
    let same : c.in-Err.opened ≡ opened = c.in-Err.ensures.err in
    lacks_room shown c.args.place area (g.H.Host.desk c.args.host.now) mid new given.0 opened after given.1 given.2
    (ap (λ (o : OpenArea g.row.H-Disk.Denot). device_of shown o) (sym same) ∙ c.close.ensures)
    (takes_back_at c.as_str.result.now c.as_str-in-Err.result.now area.dir area.base after mid new c.as_str.ensures c.as_str-in-Err.ensures c.put_back.ensures)
