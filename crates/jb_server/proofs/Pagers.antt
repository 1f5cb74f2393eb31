-- The pager of a node, through its sessions.
use Rattle.std.proofs.Common.{◌≡◌, ℕ, ◌<◌, ◌≤◌, [], ◌∷◌, length, Option, Some, None, refl, sym, ◌∙◌, subst, arith}
use Rattle.jb_conf.specs.declared.board.Board.{Board}
use Rattle.jb_host.specs.Wire.{Wire}
use Rattle.jb_page.specs.Pagers.{HasPager, PagerView, PagesView}
use Rattle.jb_session.specs.Exchanges.{NodeState}
use Rattle.jb_session.specs.Pages.{NoPagerComes, PagesAreAsked, PagesGoOn, TellsPages}
use Rattle.jb_session.specs.declared.end.SessionEnd.{SessionEnd}
use Rattle.jb_server.specs.Laws.{PagesAreOfSessions, asked_in}
use Rattle.jb_server.specs.Sessions.{ServedAs}
use Rattle.jb_server.specs.Workers.{KeepsPager}
use Rattle.jb_server.specs.declared.service.Service.{Service}
use Rattle.jb_server.specs.declared.service.Service.TheVariants.{Menus, News}

-- the pager stays the same
pub keeps_same : (p : Option PagerView) → KeepsPager p p
keeps_same None = tt
keeps_same (Some p) = (refl, refl, refl)

pub keeps_more : (a b c : Option PagerView) → KeepsPager a b → KeepsPager b c → KeepsPager a c
keeps_more None None None one two = tt
keeps_more None None (Some c) one two = absurd two
keeps_more None (Some b) c one two = absurd one
keeps_more (Some a) None c one two = absurd one
keeps_more (Some a) (Some b) None one two = absurd two
keeps_more (Some a) (Some b) (Some c) one two = (two.0 ∙ one.0, two.1 ∙ one.1, two.2 ∙ one.2)

-- what the pager tells behind a session
told : PagesAreAsked → (service : Service) (board : Board) (given : Wire) (from : NodeState) (end : SessionEnd) (back : Wire) (to : NodeState)
    → (served : ServedAs service board given from end back to) (pager : PagerView) → from.pager ≡ Some pager → 0 < pager.number → pager.number ≤ length pager.rows
    → (after : PagerView) × (to.pager ≡ Some after) × TellsPages (asked_in service board given from end back to served) pager after
told asked Menus board given from end back to served pager has = asked _ served.exchanges served.last from served.mid to pager served.passed served.lacks has
told asked News board given from end back to served pager has = asked _ served.exchanges served.last from served.mid to pager served.passed served.lacks has

-- where there is none
none_told : NoPagerComes → (service : Service) (board : Board) (given : Wire) (from : NodeState) (end : SessionEnd) (back : Wire) (to : NodeState)
    → ServedAs service board given from end back to → from.pager ≡ None → to.pager ≡ None
none_told comes Menus board given from end back to served = comes _ served.exchanges served.last from served.mid to served.passed served.lacks
none_told comes News board given from end back to served = comes _ served.exchanges served.last from served.mid to served.passed served.lacks

-- through a session the pager stays the same
pub keeps : PagesAreAsked → NoPagerComes → (pages : PagesView) (reach : ℕ) (service : Service) (board : Board) (given : Wire) (from : NodeState)
    (end : SessionEnd) (back : Wire) (to : NodeState) (p : Option PagerView) → ServedAs service board given from end back to → from.pager ≡ p → HasPager pages reach p
    → KeepsPager p to.pager
keeps asked comes pages reach service board given from end back to None served has is =
    subst (λ (w : Option PagerView). KeepsPager None w) (sym (none_told comes service board given from end back to served has)) tt
keeps asked comes pages reach service board given from end back to (Some pager) served has is =
    let t = told asked service board given from end back to served pager has is.0.few.0 (omega (arith, is.0.few.1, is.0.rows)) in
    subst (λ (w : Option PagerView). KeepsPager (Some pager) w) (sym t.1) (t.2.number, t.2.queues, t.2.rows)

-- through sessions, one after another, it tells what was asked in them
pub of_sessions : PagesAreAsked → PagesGoOn → PagesAreOfSessions
of_sessions asked go_on service board from [] to pager run has low high = asked (λ request. None) [] None from from to pager refl run has low high
of_sessions asked go_on service board from (session ∷ sessions) to pager run has low high =
    let first = told asked service board session.given from session.end session.back run.0 run.1 pager has low high in
    let rest = of_sessions asked go_on service board run.0 sessions to first.0 run.2 first.1
    (omega (arith, first.2.number, low)) (omega (arith, first.2.number, first.2.rows, high)) in
    (rest.0, rest.1, go_on _ _ pager first.0 rest.0 first.2 rest.2)
