use Rattle.std.proofs.Common.{◌≡◌, List, filter, length, map, ap, sym, ◌∙◌}
use Rattle.std.specs.Prelude.{nat_lt}
use Rattle.jb_index.specs.Answer.{is_listed, last_of}
use Rattle.jb_index.specs.Making.{is_unread, slots_listed}
use Rattle.jb_bytes.specs.Crc.{jam_crc_of}
use Rattle.jb_state.specs.LiveSlots.{linkables_from}
use Rattle.jb_index.specs.Index.{summary_of}
use Rattle.jb_state.specs.Links.{linkables_of}
use Rattle.jb_state.specs.Live.{live_in}
use Rattle.jb_state.specs.Marks.{mark_of}
use Rattle.jb_state.specs.State.{state_of}
use Rattle.jb_state.specs.declared.loaded.LoadedSlot.{LoadedSlot}
use Rattle.jb_state.specs.declared.summary.Summary.{Summary}
use Rattle.jb_index.proofs.ListLemmas.{filter_filter}
use Rattle.jb_index.proofs.MakingLemmas.{listed_of_state}
use Rattle.jb_index.proofs.counting.unread_in.Goals as goal

pub returns : goal.returns
returns c = λ texts.
    let summaries : List Summary = map (summary_of (linkables_of (state_of texts c.args.loaded.now))) (live_in (state_of texts c.args.loaded.now)) in
    let slots : c.as_slice-slots.result.now ≡ c.args.loaded.now.slots = c.as_slice-slots.ensures in
    let last : c.last_read-last.result ≡ last_of (mark_of (jam_crc_of c.args.user.now.name) c.args.user.now.id c.args.loaded.now.marks)
    = c.last_read-last.ensures ∙ ap (λ marks. last_of (mark_of (jam_crc_of c.args.user.now.name) c.args.user.now.id marks)) c.as_slice.ensures in
    c.unread_among.ensures
    ∙ ap (λ (l : List LoadedSlot). length (filter (is_unread c.args.rules.now c.args.user.now c.last_read-last.result) (slots_listed (linkables_from c.args.loaded.now.base l) c.args.loaded.now.base l))) slots
    ∙ ap (λ (l : List Summary). length (filter (is_unread c.args.rules.now c.args.user.now c.last_read-last.result) l)) (listed_of_state texts c.args.loaded.now)
    ∙ ap length (sym (filter_filter (λ one. nat_lt c.last_read-last.result one.number) (is_listed c.args.rules.now c.args.user.now) summaries))
    ∙ ap (λ n. length (filter (λ one. nat_lt n one.number) (filter (is_listed c.args.rules.now c.args.user.now) summaries))) last
