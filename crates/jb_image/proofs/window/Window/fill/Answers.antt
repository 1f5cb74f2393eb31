use Rattle.std.proofs.Common.{refl}
use Rattle.jb_image.proofs.WindowLemmas.{window_empty, window_same}
use Rattle.jb_image.proofs.window.Window.fill.Goals as goal

pub returns-in_err-resize-clause-on : goal.returns-in_err-resize-clause-on
returns-in_err-resize-clause-on g c =
    window_same _ _ _ _ c.args.self.now _ refl refl refl refl c.in_err-resize.ensures.items c.requires.on

pub returns-in-Err-clause-on : goal.returns-in-Err-clause-on
returns-in-Err-clause-on g c =
    window_empty _ _ _ _ c.args.self.now _ c.read_into.ensures.kept.contents refl refl c.clear.ensures.items c.requires.on
