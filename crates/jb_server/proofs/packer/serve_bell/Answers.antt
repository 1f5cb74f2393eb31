use Rattle.std.proofs.Common.{◌≡◌, ℕ, sym, ◌∙◌, ap, refl, subst}
use Rattle.jb_base.specs.declared.user.User.{User}
use Rattle.jb_host.specs.Rings.{Rings}
use Rattle.jb_server.specs.Rounds.{AnswersRing, packs_with}
use Rattle.jb_server.specs.Workers.{packer_of}
use Rattle.jb_server.proofs.RingRuns.{IsPacking, packing_more, packing_none}
use Rattle.jb_server.proofs.packer.serve_bell.Goals as goal

pub loop-ring-init : goal.loop-ring-init
loop-ring-init g c = (tt, tt, c.requires.ours, c.requires.targets, refl, refl, refl, packing_none _ _ _ _)

-- a ring was answered
pub loop-ring-preserved : goal.loop-ring-preserved
loop-ring-preserved g c =
    let i = c.loop-ring.invariant in
    let answer = c.answer-came.ensures in
    let user = c.args.slot.now.user in
    let rings = g.B.Bell.rings in
    let came = c.answer-came.result in
    let first = packer_of g.C.Clock.readings g.E.Disk.device c.args.slot.now in
    let from = packer_of g.C.Clock.readings g.E.Disk.device c.loop-ring.slot in
    let to = packer_of g.C.Clock.readings g.E.Disk.device c.answer-came.new.self in
    let U : User → Type 0 = λ w. AnswersRing w c.in-Pack.number came from to in
    let B : Rings → Type 0 = λ w. IsPacking user (rings c.args.slot.now.bell) first c.args.slot.now.packs w to c.count_pack-slot.result in
    let N : ℕ → Type 0 = λ w. IsPacking user (rings c.args.slot.now.bell) first c.args.slot.now.packs (rings c.next-in-loop-ring.new.self) to w in
    let counted : c.count_pack-slot.result ≡ packs_with c.loop-ring.slot.packs came = c.count_pack-slot.ensures ∙ ap (λ (w : ℕ). packs_with w came) answer.packs in
    let on = packing_more user (rings c.args.slot.now.bell) (rings c.loop-ring.slot.bell) (rings c.next-in-loop-ring.new.self) first from to
    c.args.slot.now.packs c.loop-ring.slot.packs c.in-Pack.number came i.7 c.in-Pack.ensures (subst U i.6 answer.answers) in
    (tt, tt, answer.ours, answer.targets, answer.count ∙ i.4, answer.node ∙ i.5, answer.user ∙ i.6, subst B (sym answer.bell) (subst N (sym counted) on))
