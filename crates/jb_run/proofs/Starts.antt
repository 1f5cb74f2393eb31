-- What workers leave of what their passes know: whose they are, and the opening from which they went on.
use Rattle.std.proofs.Common.{◌≡◌, ◌≢◌, ℕ, ◌+◌, ◌-◌, ◌<◌, ◌==◌, Bool, true, false, List, [], ◌∷◌, length, refl, sym, ap, subst, arith}
use Rattle.std.specs.Prelude.{Option, Some, None, Result, slice_index_or}
use Rattle.std.proofs.lemmas.Bool.Decides.{nat_tests}
use Rattle.jb_backup.specs.declared.error.BackupError.{BackupError}
use Rattle.jb_base.specs.declared.user.User.{User}
use Rattle.jb_conf.specs.declared.board.Board.{Board}
use Rattle.jb_disk.specs.Device.{Device}
use Rattle.jb_host.specs.Gate.{Gate}
use Rattle.jb_host.specs.Real.{silent_gate}
use Rattle.jb_host.specs.Rings.{Rings}
use Rattle.jb_page.specs.Pagers.{PagerView}
use Rattle.jb_run.proofs.Lists.{one_of}
use Rattle.jb_run.proofs.Numbers.{line_with}
use Rattle.jb_run.proofs.Passing.{KeepsStart, and_then, called, is_same, served_keeps}
use Rattle.jb_model.specs.declared.command.Command.TheVariants.{Pack}
use Rattle.jb_server.specs.Backups.{BacksUpDue, due_at}
use Rattle.jb_server.specs.Packers.{OnPass, PackerState}
use Rattle.jb_server.specs.Rounds.{AnswersRing, Came, Rung, RungsRun}
use Rattle.jb_server.specs.Sessions.{ServedAs, Session, SessionsRun}
use Rattle.jb_server.specs.Tallies.{no_tally}
use Rattle.jb_server.specs.declared.service.Service.{Service}
use Rattle.jb_server.specs.declared.tally.Tally.{Tally}
use Rattle.jb_session.specs.Exchanges.{AsksPass, NodeState, node_with}
use Rattle.jb_shared.specs.Backups.{BacksUp}
use Rattle.jb_shared.specs.Passes.{Known, PassView}
use Rattle.jb_shared.specs.declared.backed.Backed.{Backed}
use Rattle.jb_run.specs.NodePages.{pager_of}
use Rattle.jb_run.specs.Workers.{Rows, packer}
use Rattle.jb_run.specs.Lines.{Line, lines_for}
use Rattle.jb_run.specs.Backed.{Targets}
use Rattle.jb_run.specs.Working.{WorkAll, packer_after, packer_before, row_of}

-- each of these passes is still of its node, and goes on from its opening
abbrev pub KeepStarts : List PassView → List PassView → Type 0
KeepStarts from to = (k : ℕ) (pass : PassView) → KeepsStart (slice_index_or from k pass).known (slice_index_or to k pass).known

all_same : (from to : List PassView) → to ≡ from → KeepStarts from to
all_same from to is k pass = is_same _ _ (ap (λ (w : List PassView). (slice_index_or w k pass).known) is)

then_all : (from mid to : List PassView) → KeepStarts from mid → KeepStarts mid to → KeepStarts from to
then_all from mid to one two k pass = and_then _ _ _ (one k pass) (two k pass)

-- through sessions
pub sessions_keep : (service : Service) (board : Board) (sessions : List Session) (from to : NodeState) → SessionsRun (ServedAs service board) from sessions to → KeepStarts from.passes to.passes
sessions_keep service board [] from to is = all_same from.passes to.passes (ap (λ (w : NodeState). w.passes) is)
sessions_keep service board (session ∷ sessions) from to run =
    then_all from.passes run.0.passes to.passes (served_keeps service board session.given session.back from run.0 session.end run.1)
    (sessions_keep service board sessions run.0 to run.2)

-- what happens on one pass
on_pass : (number : ℕ) (happens : Known → Known → Type 0) (from to : List PassView) → OnPass number happens from to
    → ((before after : Known) → happens before after → KeepsStart before after) → KeepStarts from to
on_pass number happens from to on each k pass = by (k + 1 == number) refl
  where
    here : k + 1 ≡ number → KeepsStart (slice_index_or from k pass).known (slice_index_or to k pass).known
    here is =
        let same : number - 1 ≡ k = omega (arith, is) in
        let P : ℕ → Type 0 = λ n. KeepsStart (slice_index_or from n pass).known (slice_index_or to n pass).known in
        subst P same (each _ _ (on.does pass))

    by : (b : Bool) → (k + 1 == number) ≡ b → KeepsStart (slice_index_or from k pass).known (slice_index_or to k pass).known
    by true is = here (let at : k + 1 ≡ number = grind (arith, nat_tests) in at)
    by false is =
        let other : k + 1 ≢ number = grind (arith, nat_tests) in
        is_same _ _ (ap (λ (p : PassView). p.known) (on.others k pass other))

-- through a backup
backed_up : (before after : Known) (target left : Device) (result : Result Backed BackupError) → BacksUp before after target left result → KeepsStart before after
backed_up before after target left result backs = record { node = ap (λ (k : Known). k.node) backs.taken.2; opening = ap (λ (k : Known). k.opening) backs.taken.2 }

backup_keeps : (number : ℕ) (due : Option Device) (from to : PackerState) → BacksUpDue number due from to → KeepStarts from.node.passes to.node.passes
backup_keeps number None from to is = all_same from.node.passes to.node.passes (ap (λ (w : PackerState). w.node.passes) is)
backup_keeps number (Some target) from to backs =
    on_pass number (λ before after. BacksUp before after target backs.left backs.result) from.node.passes to.node.passes backs.backs
    (λ before after one. backed_up before after target backs.left backs.result one)

-- through a ring
ring_keeps : (user : User) (number : ℕ) (came : Came) (from to : PackerState) → AnswersRing user number came from to → KeepStarts from.node.passes to.node.passes
ring_keeps user number None from to answers = all_same from.node.passes to.node.passes (ap (λ (w : PackerState). w.node.passes) answers.1)
ring_keeps user number (Some answer) from to answers =
    let packed = answers.0 in
    then_all from.node.passes packed.node.passes to.node.passes
    (on_pass number (λ before after. AsksPass from.node.readings user Pack before after answer) from.node.passes packed.node.passes answers.1.asks
    (λ before after asks. called before after user asks.0 Pack answer asks.2))
    (backup_keeps number (due_at (number - 1) packed.targets packed.backups) packed to answers.2)

-- through the rings of a packer
pub rings_keep : (user : User) (rungs : List Rung) (from to : PackerState) → RungsRun user from rungs to → KeepStarts from.node.passes to.node.passes
rings_keep user [] from to is = all_same from.node.passes to.node.passes (ap (λ (w : PackerState). w.node.passes) is)
rings_keep user (rung ∷ rungs) from to run =
    then_all from.node.passes run.0.node.passes to.node.passes (ring_keeps user rung.number rung.came from run.0 run.1) (rings_keep user rungs run.0 to run.2)

-- through all work
pub work_keeps : (readings : Option (List ℕ)) (board : Board) (most : Option ℕ) (gates gates_after : List Gate) (rings rings_after : Rings) (from to : Rows) (pagers pagers_after : List PagerView) (targets : Targets) (tallies : List Tally)
    → WorkAll readings board (lines_for board most) gates gates_after rings rings_after from to pagers pagers_after targets tallies → (n : ℕ) → n < length from
    → KeepStarts (slice_index_or from n []) (slice_index_or to n [])
work_keeps readings board most gates gates_after rings rings_after from to pagers pagers_after targets tallies works n within = by (n == board.nodes) refl
  where
    by : (b : Bool) → (n == board.nodes) ≡ b → KeepStarts (slice_index_or from n []) (slice_index_or to n [])
    by true is =
        let here : n ≡ board.nodes = grind (arith, nat_tests) in
        let P : ℕ → Type 0 = λ m. KeepStarts (slice_index_or from m []) (slice_index_or to m []) in
        let packed = works.packed in
        subst P (sym here) (rings_keep packer packed.rungs (packer_before readings board from targets) (packer_after works.left board to targets)
        packed.answers.run)
    by false is =
        let other : n ≢ board.nodes = grind (arith, nat_tests) in
        let lines : List Line = lines_for board most in
        let one = line_with board most n (omega (arith, within, works.started)) other in
        let absent : Line = one_of lines one.0 one.1 in
        let line : Line = slice_index_or lines one.0 absent in
        let served = works.served one.0 absent (silent_gate 0 false None) (silent_gate 0 false None) no_tally one.1 in
        let place : line.node - 1 ≡ n = omega (arith, one.2 absent) in
        subst (λ (m : ℕ). KeepStarts (slice_index_or from m []) (slice_index_or to m [])) place
        (sessions_keep line.service board served.1.sessions (node_with readings (row_of from line) (pager_of pagers line))
        (node_with served.0 (row_of to line) (pager_of pagers_after line)) served.1.serves.run)
