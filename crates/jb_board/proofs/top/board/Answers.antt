use Rattle.std.proofs.Common.{◌≡◌, ◌∙◌, ℕ, List, ap, subst}
use Rattle.std.specs.Prelude.{Option, Some, map}
use Rattle.std.specs.Option.{ForSome}
use Rattle.std.specs.String.{string_bytes}
use Rattle.jb_host.specs.Desk.{Desk}
use Rattle.jb_host.specs.Readings.{reading_of}
use Rattle.jb_board.specs.Run.{AnswersWords}
use Rattle.jb_board.specs.Words.{command_line_of}
use Rattle.jb_board.proofs.top.board.Goals as goal

pub returns : goal.returns
returns g c =
    let mid = g.H.Host.desk c.answer-answer.new.host in
    let back = Some (g.H.Link.Link.wire c.print-status.new.console) in
    let words = command_line_of (map string_bytes c.args.words.now) in
    let moment = c.now-moment.result in
    let said = c.answer-answer.result in
    record {
      moment = moment;
      shown = subst (λ (r : Option (List ℕ)). ForSome r (λ readings. moment ≡ reading_of readings)) c.clock-clock.ensures.gives c.now-moment.ensures.told;
      answer = said;
      mid = mid;
      answers = subst (λ (d : Desk). AnswersWords g.H.Host.door_for g.H.Host.bell_over words moment d mid said) c.clock-clock.ensures.same c.answer-answer.ensures.found;
      console = _;
      console_is = c.console-console.ensures.was;
      console_after = _;
      printed = c.print-status.ensures;
      left = c.tell_refusal.ensures ∙ c.put_console.ensures ∙ ap (λ (d : Desk). record d { console = back }) c.console-console.ensures.out;
    }
