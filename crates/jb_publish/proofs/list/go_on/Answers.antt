use Rattle.std.proofs.Common.{sym, ◌∙◌, ap}
use Rattle.jb_publish.proofs.Growing.{grows_moves}
use Rattle.jb_publish.proofs.list.go_on.Goals as goal

pub compare_exchange-found-requires : goal.compare_exchange-found-requires
compare_exchange-found-requires g c =
    let h = c.requires.word in
    let offer = c.plain-offer.ensures in
    let pen = c.no_pen-pen.ensures in
    let again = c.again-next.ensures in (
      ap (λ w. w.tracked) h,
      ap (λ s. s.book) again ∙ sym (ap (λ w. w.book) h),
      pen.0 ∙ (ap (λ s. s.book) again ∙ sym (ap (λ w. w.book) h)),
      offer.0,
      rw (ap (λ w. w.key) h, pen.1, offer.3, again) (grows_moves c.args.seen.now.log g.J.NamesList.items c.plain-offer.result.ask c.args.old c.args.new c.requires.old c.requires.list.1 c.requires.list.0),
    )
