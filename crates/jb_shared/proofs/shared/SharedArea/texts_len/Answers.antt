use Rattle.std.proofs.Common.{length, ap, refl, subst, sym, ◌∙◌}
use Rattle.jb_publish.specs.Accounts.{account_of}
use Rattle.jb_turn.specs.Seats.{front, resting_row, row_of}
use Rattle.jb_state.specs.declared.loaded.Loaded.{Loaded}
use Rattle.jb_shared.specs.Histories.{Tells}
use Rattle.jb_shared.specs.Passes.{Known}
use Rattle.jb_shared.specs.Texts.{text_files_at}
use Rattle.jb_shared.specs.declared.opening.Opening.{Opening}
use Rattle.jb_shared.proofs.BackingLemmas.{same_opening, taken_in, texts_sized, turned}
use Rattle.jb_shared.proofs.CallLemmas.{still_told}
use Rattle.jb_shared.proofs.SettledLemmas.{begins_itself}
use Rattle.jb_shared.proofs.shared.SharedArea.texts_len.Goals as goal

pub give_back-requires-clause-told : goal.give_back-requires-clause-told
give_back-requires-clause-told g c =
    let at = c.enter-seat in
    let taken = row_of at.result.seat in
    still_told taken taken (account_of at.result.reader) refl (begins_itself taken.front) at.ensures.told

pub returns-clause-taken : goal.returns-clause-taken
returns-clause-taken g c =
    let at = c.enter-seat in (
      front at.result.seat,
      at.ensures.grows,
      taken_in (account_of c.args.parts.reader) (account_of at.result.reader) (account_of c.give_back.result.reader) at.ensures.account.0 c.give_back.ensures.account.0 (resting_row c.args.parts.seat) (row_of at.result.seat)
          (resting_row c.give_back.result.seat) (front at.result.seat) at.ensures.took c.give_back.ensures.row at.ensures.account.1 c.give_back.ensures.account.1,
    )

pub returns-clause-len : goal.returns-clause-len
returns-clause-len g c = λ opening is t.
    let at = c.enter-seat in
    let old = resting_row c.args.parts.seat in
    let list = front at.result.seat in
    let turn = turned g.D.Disk.device (account_of c.args.parts.reader) old (row_of at.result.seat) list at.result.held.state at.ensures.took at.ensures.out.knows.stands_for in
    let same = same_opening turn.0 opening (sym turn.1 ∙ is) in
    let taken =
    taken_in (account_of c.args.parts.reader) (account_of at.result.reader) (account_of c.give_back.result.reader) at.ensures.account.0 c.give_back.ensures.account.0 old (row_of at.result.seat)
    (resting_row c.give_back.result.seat) list at.ensures.took c.give_back.ensures.row at.ensures.account.1 c.give_back.ensures.account.1 in
    ap (λ (l : Loaded). l.texts_len) c.loaded.ensures
    ∙ texts_sized g.D.Disk.device at.result.held.state.area turn.0 list turn.2 (subst (λ (o : Opening). Tells o) (sym same) t)
    ∙ ap (λ (o : Opening). length (text_files_at o list).now.bytes) same
    ∙ ap (λ (k : Known). length (text_files_at opening k.front).now.bytes) (sym taken)
