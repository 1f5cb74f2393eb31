use Rattle.std.proofs.Common.{List, ℕ, sym, subst}
use Rattle.std.proofs.lemmas.Result.{IfOk-weaker}
use Rattle.jb_disk.specs.declared.file.FileId.{FileId}
use Rattle.jb_disk.specs.Memory.{Recording, files_of_list}
use Rattle.jb_disk.specs.Images.{IsImage}
use Rattle.jb_disk.specs.Crash.{IsPicked, images_at, contents_at}
use Rattle.jb_disk.proofs.CrashLemmas.{picked-image, image-moment, each_of_six}
use Rattle.jb_disk.proofs.memory.MemDisk.crashed.Goals as goal

pub returns-clause-found : goal.returns-clause-found
returns-clause-found c =
    let Is = λ (file : FileId) (bytes : List ℕ). IsPicked c.args.pick (images_at c.args.after c.args.self.now file) (contents_at c.args.after c.args.self.now file) bytes in
    IfOk-weaker c.new-2.result _ (λ (disk : Recording). (file : FileId) → Is file (files_of_list disk.first file)) (λ disk is.
    subst (λ (l : List (List ℕ)). (file : FileId) → Is file (files_of_list l file)) (sym is)
    (each_of_six Is
    c.in_ok-left.field-0 c.in_ok-left-2.field-0 c.in_ok-left-3.field-0 c.in_ok-left-4.field-0 c.in_ok-left-5.field-0 c.in_ok-left-6.field-0
    c.in_ok-left.ensures c.in_ok-left-2.ensures c.in_ok-left-3.ensures c.in_ok-left-4.ensures c.in_ok-left-5.ensures c.in_ok-left-6.ensures)) c.new-2.ensures.first

pub returns-clause-image : goal.returns-clause-image
returns-clause-image c =
    IfOk-weaker c.new-2.result _ (λ (disk : Recording). IsImage (images_at c.args.after c.args.self.now) (files_of_list disk.first))
    (λ disk found. picked-image c.args.pick c.args.after c.args.self.now (files_of_list disk.first) found) (returns-clause-found c)

pub returns-clause-crash : goal.returns-clause-crash
returns-clause-crash c = IfOk-weaker c.new-2.result _ _ (λ disk image. image-moment c.args.after c.args.self.now (files_of_list disk.first) image) (returns-clause-image c)
