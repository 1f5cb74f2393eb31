use Rattle.std.proofs.Common.{◌∙◌, refl}
use Rattle.jb_backup.specs.Target.{IsUnsigned}
use Rattle.jb_tool.proofs.BackingLemmas.{copies_as, copies_more, copies_nothing, leaves_none, leaves_then, more_front}
use Rattle.jb_tool.proofs.copying.copy_texts.Goals as goal

pub loop-init : goal.loop-init
loop-init g c = record {
  begun = c.requires.begun;
  front = c.requires.front;
  crash = leaves_none IsUnsigned _ c.requires.begun.unsigned.left;
  copies = copies_nothing _ _;
  stays = g.met.S.Source.stays_same _;
  told = refl;
}

pub returns-in_err-more-clause-crash : goal.returns-in_err-more-clause-crash
returns-in_err-more-clause-crash g c = leaves_then IsUnsigned _ (g.E.Disk.device c.loop.onto) _ c.loop.invariant.crash c.some.ensures.crash

pub loop-preserved : goal.loop-preserved
loop-preserved g c = record {
  begun = c.in_ok-more.ensures.begun;
  front = more_front _ _ _ _ _ _ c.loop.invariant.copies.reads.contents c.loop.invariant.front c.in_ok-more.ensures.front;
  crash = leaves_then IsUnsigned _ (g.E.Disk.device c.loop.onto) _ c.loop.invariant.crash c.some.ensures.crash;
  copies = copies_as _ _ _ _ c.in_ok-more.more (copies_more _ _ _ _ _ _ _ c.loop.invariant.copies c.in_ok-more.ensures.answer);
  stays = g.met.S.Source.stays_on _ _ _ c.loop.invariant.stays c.some.ensures.stays;
  told = c.tell_copied.ensures ∙ c.loop.invariant.told;
}

pub returns-then-not-more-clause-front : goal.returns-then-not-more-clause-front
returns-then-not-more-clause-front g c = more_front _ _ _ _ _ _ c.loop.invariant.copies.reads.contents c.loop.invariant.front c.in_ok-more.ensures.front

pub returns-then-not-more-clause-crash : goal.returns-then-not-more-clause-crash
returns-then-not-more-clause-crash g c = leaves_then IsUnsigned _ (g.E.Disk.device c.loop.onto) _ c.loop.invariant.crash c.some.ensures.crash
