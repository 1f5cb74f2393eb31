use Rattle.std.proofs.Common.{Ok, Result, ◌∙◌, subst, sym}
use Rattle.jb_decide.specs.declared.error.AreaError.{AreaError}
use Rattle.jb_model.specs.declared.command.Command.{Command}
use Rattle.jb_area.specs.Calls.{BeginsCall}
use Rattle.jb_area.proofs.CallLemmas.{same_edit, same_post}
use Rattle.jb_area.proofs.area.OpenArea.begin.Goals as goal

pub returns-in-Post : goal.returns-in-Post
returns-in-Post g c = record {
  begins = subst (λ (command : Command). BeginsCall g.D.Disk.device c.args.self.now c.begin_post.new.self c.args.user.now c.args.moment command c.begin_post.result)
      (same_post _ _ _ _ _ _ _ _ c.as_slice.ensures c.as_slice-in-Post.ensures c.as_slice-in-Post-2.ensures ∙ sym c.in-Post.is) c.begin_post.ensures.begins;
}

pub returns-in-Edit : goal.returns-in-Edit
returns-in-Edit g c = record {
  begins = subst (λ (command : Command). BeginsCall g.D.Disk.device c.args.self.now c.begin_edit.new.self c.args.user.now c.args.moment command c.begin_edit.result)
      (same_edit _ _ _ _ _ c.as_slice-in-Edit.ensures c.as_slice-in-Edit-2.ensures ∙ sym c.in-Edit.is) (c.begin_edit.ensures.begins c.args.moment);
}

pub returns-in-Peek : goal.returns-in-Peek
returns-in-Peek g c = record {
  begins = subst (λ (command : Command). BeginsCall g.D.Disk.device c.args.self.now c.begin_peek.new.self c.args.user.now c.args.moment command c.begin_peek.result)
      (sym c.in-Peek.is) (c.begin_peek.ensures c.args.moment);
}

pub returns-in-Kill : goal.returns-in-Kill
returns-in-Kill g c =
    let done : Result (Unit {0}) AreaError = Ok tt in
    record {
      begins = subst (λ (command : Command). BeginsCall g.D.Disk.device c.args.self.now c.begin_kill.new.self c.args.user.now c.args.moment command done)
          (sym c.in-Kill.is) (c.begin_kill.ensures c.args.moment);
    }

pub returns-in-SetMark : goal.returns-in-SetMark
returns-in-SetMark g c =
    let done : Result (Unit {0}) AreaError = Ok tt in
    record {
      begins = subst (λ (command : Command). BeginsCall g.D.Disk.device c.args.self.now c.begin_mark.new.self c.args.user.now c.args.moment command done)
          (sym c.in-SetMark.is) (c.begin_mark.ensures c.args.moment);
    }

pub returns-in-Relink : goal.returns-in-Relink
returns-in-Relink g c = record {
  begins = subst (λ (command : Command). BeginsCall g.D.Disk.device c.args.self.now c.begin_relink.new.self c.args.user.now c.args.moment command c.begin_relink.result)
      (sym c.in-Relink.is) (c.begin_relink.ensures.begins c.args.moment);
}

pub returns-in-Pack : goal.returns-in-Pack
returns-in-Pack g c = record {
  begins = subst (λ (command : Command). BeginsCall g.D.Disk.device c.args.self.now c.begin_pack.new.self c.args.user.now c.args.moment command c.begin_pack.result)
      (sym c.in-Pack.is) (c.begin_pack.ensures.begins c.args.moment);
}
