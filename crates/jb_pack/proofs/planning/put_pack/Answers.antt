use Rattle.std.proofs.Common.{List, ap, arith, refl, subst}
use Rattle.jb_limits.specs.declared.limits.TheConstants.{MOST_SLOTS}
use Rattle.jb_state.specs.declared.loaded.LoadedSlot.{LoadedSlot}
use Rattle.jb_pack.proofs.PlanLemmas.{base_within, pack_of}
use Rattle.jb_pack.proofs.StateLemmas.{sum_of_kept}
use Rattle.jb_pack.specs.Copying.{PutsTexts}
use Rattle.jb_state.specs.Packed.{slot_text_size, texts_size}
use Rattle.jb_pack.proofs.planning.put_pack.Goals as goal

pub returns-clause-packs : goal.returns-clause-packs
returns-clause-packs g c =
    let slots = c.kept_of-slots.ensures in
    pack_of MOST_SLOTS c.args.loaded.now c.put_base.new.redo c.put_texts.new.redo (g.D.Disk.device c.args.disk.now).contents c.requires.sound (omega arith)
    (omega (arith, c.requires.fits, sum_of_kept slot_text_size refl (λ at. refl) c.args.loaded.now))
    c.in_ok-put_base.ensures.puts
    (subst (λ (l : List LoadedSlot). PutsTexts (g.D.Disk.device c.args.disk.now).contents l c.put_base.new.redo c.put_texts.new.redo) slots c.in_ok-put_texts.ensures.puts)

pub overflow_sub-base : goal.overflow_sub-base
overflow_sub-base g c = let within = base_within c.args.loaded.now in let above = within.0 in omega (arith, c.requires.base)

pub kept_of-slots-requires-clause-within : goal.kept_of-slots-requires-clause-within
kept_of-slots-requires-clause-within g c =
    let within = base_within c.args.loaded.now in
    let above = within.0 in
    let below = within.1 in
    omega (arith, c.requires.base)

pub put_texts-requires-clause-fits : goal.put_texts-requires-clause-fits
put_texts-requires-clause-fits g c =
    omega (arith, c.requires.fits, sum_of_kept slot_text_size refl (λ at. refl) c.args.loaded.now, ap texts_size c.kept_of-slots.ensures)
