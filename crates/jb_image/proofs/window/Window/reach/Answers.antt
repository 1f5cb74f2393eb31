use Rattle.std.proofs.Common.{ap, ◌∙◌, refl, arith, Result, Ok, Err, OnOk}
use Rattle.jb_image.specs.Places.{bytes_at}
use Rattle.jb_image.specs.Windows.{seen_at}
use Rattle.jb_image.proofs.WindowLemmas.{seen_shown}
use Rattle.jb_image.proofs.window.Window.reach.Goals as goal

-- two facts of what went well give a third
on_ok_both : {T E P Q R : Type 0} (r : Result T E) → (P → Q → R) → OnOk r P → OnOk r Q → OnOk r R
on_ok_both (Ok x) both p q = both p q
on_ok_both (Err e) both p q = tt

pub returns-then-not-holds-clause-found : goal.returns-then-not-holds-clause-found
returns-then-not-holds-clause-found g c =
    let range = c.next-range.ensures in
    let on = c.fill.ensures.on in
    on_ok_both c.fill.result (λ at_is len_is files contents_is.
    seen_shown files c.fill.new.self c.args.at c.args.len (on.shows files (c.fill.ensures.kept.contents ∙ contents_is))
    (record { from = omega (arith, range.from); to = omega (arith, range.to) })
    ∙ ap (λ file. bytes_at c.args.at c.args.len (files file)) on.file_is) c.fill.ensures.at_is c.fill.ensures.len_is

pub returns-clause-found : goal.returns-clause-found
unfolding seen_at
returns-clause-found g c = λ files contents_is.
    seen_shown files c.args.self.now c.args.at c.args.len (c.requires.on.shows files contents_is) (c.if-not-holds.ensures.0 refl)
