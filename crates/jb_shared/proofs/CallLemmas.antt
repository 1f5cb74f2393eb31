-- What a call makes of what its pass knows.
use Rattle.std.proofs.Common.{◌≡◌, inl, inr, ℕ, ◌<◌, ◌≤◌, List, [], ◌∷◌, ◌++◌, length, Bool, Option, Some, None, Result, Ok, Err, refl, sym, ◌∙◌, ap, subst}
use Rattle.std.proofs.lemmas.List.{append-nil}
use Rattle.jb_limits.specs.declared.limits.TheConstants.{MOST_ENTRIES}
use Rattle.jb_base.specs.declared.user.User.{User}
use Rattle.jb_disk.specs.Device.{Device}
use Rattle.jb_model.specs.declared.command.Command.{Command}
use Rattle.jb_model.specs.declared.entry.Entry.{Entry}
use Rattle.jb_model.specs.declared.entry.Entry.TheVariants.{Reopened}
use Rattle.jb_model.specs.declared.entry.Outcome.{Outcome}
use Rattle.jb_model.specs.declared.reply.Reply.{Reply}
use Rattle.jb_publish.specs.Accounts.{Account, told_with}
use Rattle.jb_publish.specs.Marks.{opening_at}
use Rattle.jb_publish.specs.Publications.{publication_of}
use Rattle.jb_publish.specs.declared.known.PairMark.{PairMark}
use mathlib.Core.List.{IsPrefix}
use Rattle.jb_turn.specs.Rows.{Begins, StandsFrom, row, when}
use Rattle.jb_turn.specs.Steps.{given, noted, sighted as took_in}
use Rattle.jb_turn.proofs.Callers.{is_at_itself}
use Rattle.jb_shared.specs.Calls.{Answers, Asks, Performs, Runs, call_of, ending, recording}
use Rattle.jb_shared.specs.Histories.{IsHistory, settled_of}
use Rattle.jb_shared.specs.InTurn.{IsBehind, IsToldOf, Leads, SeatRow}
use Rattle.jb_shared.specs.Inside.{known_by_both}
use Rattle.jb_shared.specs.Keeping.{IsKept}
use Rattle.jb_shared.specs.Passes.{Known, refusing, seen}
use Rattle.jb_shared.specs.Standing.{caller_of}
use Rattle.jb_shared.specs.declared.error.SharedError.{SharedError}
use Rattle.jb_shared.specs.declared.error.SharedError.TheVariants.{StoreFault, RunSpent, OutOfMemory}
use Rattle.jb_shared.specs.declared.opening.Opening.{Opening}
use Rattle.jb_shared.specs.declared.refusal.Refusal.{Refusal}
use Rattle.jb_shared.specs.declared.shown.ShownArea.{ShownArea}
use Rattle.jb_shared.proofs.KeepingLemmas.{begins_length, fits}
use Rattle.jb_shared.proofs.KnowingLemmas.{mark_known}
use Rattle.jb_shared.proofs.SettledLemmas.{begins_itself, begins_of, begins_on, settled_begins}

-- one entry more, with these calls of the node
leads_noted : (holds : Known → Known → Type 0) (old new : SeatRow) (entry : Entry) (own : List Entry) → new ≡ row old.node old.opening (old.front ++ entry ∷ []) own old.remarks
    → ((account : Account Opening Entry) → holds (known_by_both old account) (known_by_both (row old.node old.opening (old.front ++ entry ∷ []) own old.remarks) account)) → Leads holds old new
leads_noted holds old new entry own is each = record {
  mark = ap (λ (r : SeatRow). r.opening) is;
  grows = (entry ∷ [], ap (λ (r : SeatRow). r.front) is);
  known = λ account. subst (λ (r : SeatRow). holds (known_by_both old account) (known_by_both r account)) (sym is) (each account);
}

-- the end of a doubt
pub leads_ended : (old new : SeatRow) (stands : Bool) → new ≡ noted caller_of old (Reopened stands) → Leads (λ before after. after ≡ ending before (Some stands)) old new
leads_ended old new stands is =
    leads_noted _ old new (Reopened stands) old.mine (is ∙ ap (λ (own : List Entry). row old.node old.opening (old.front ++ Reopened stands ∷ []) own old.remarks) (append-nil old.mine)) (λ account. refl)

-- the node's next call
pub leads_called : (holds : Known → Known → Type 0) (old new : SeatRow) (user : User) (moment : ℕ) (command : Command) (outcome : Outcome) → new ≡ noted caller_of old (call_of old.node old.mine user moment command outcome)
    → ((account : Account Opening Entry) → holds (known_by_both old account) (recording (known_by_both old account) (call_of old.node old.mine user moment command outcome))) → Leads holds old new
leads_called holds old new user moment command outcome is each =
    let call : Entry = call_of old.node old.mine user moment command outcome in
    leads_noted holds old new call (old.mine ++ call ∷ [])
    (is ∙ ap (λ (b : Bool). row old.node old.opening (old.front ++ call ∷ []) (old.mine ++ when b call) old.remarks) (is_at_itself old.node)) each

-- nothing
pub leads_still : (holds : Known → Known → Type 0) (known : SeatRow) → ((account : Account Opening Entry) → holds (known_by_both known account) (known_by_both known account)) → Leads holds known known
leads_still holds known each = record { mark = refl; grows = begins_itself known.front; known = each }

-- a command that is done at rest once a doubt has ended, as from before
run_behind : (old mid new : Known) (ended : Option Bool) (user : User) (moment : ℕ) (command : Command) (result : Result Reply SharedError) → mid ≡ ending old ended → Runs mid new (call_of mid.node mid.mine user moment command) result
    → Runs (ending old ended) new (call_of old.node old.mine user moment command) result
run_behind old mid new None user moment command result is runs = subst (λ (k : Known). Runs k new (call_of k.node k.mine user moment command) result) is runs
run_behind old mid new (Some stands) user moment command result is runs = subst (λ (k : Known). Runs k new (call_of k.node k.mine user moment command) result) is runs

-- a doubt that has ended, and then a command that is done at rest
pub leads_behind : (old mid new : SeatRow) (ended : Option Bool) (user : User) (moment : ℕ) (command : Command) (result : Result Reply SharedError) → Leads (λ before after. after ≡ ending before ended) old mid
    → Leads (λ before after. Runs before after (call_of mid.node mid.mine user moment command) result) mid new → Leads (λ before after. Performs before after user moment command result) old new
leads_behind old mid new ended user moment command result one other = record {
  mark = other.mark ∙ one.mark;
  grows = begins_on old.front mid.front new.front one.grows other.grows;
  known = λ account. inl (ended, run_behind (known_by_both old account) (known_by_both mid account) (known_by_both new account) ended user moment command result (one.known account) (other.known account));
}

-- with no remark a row stays
pub given_none : (known : SeatRow) → given known None ≡ known
given_none known = ap (λ (remarks : List Refusal). row known.node known.opening known.front known.mine remarks) (append-nil known.remarks)

-- a reader that was told with the seat was told no more than is settled of what the seat has seen later
pub still_told : (old new : SeatRow) (account : Account Opening Entry) → new.opening ≡ old.opening → Begins old.front new.front → IsToldOf old account → IsBehind new account
still_told old new account mark grows told =
    (told.0 ∙ sym mark, subst (λ (l : List Entry). Begins l (settled_of new.front)) (sym told.1) (settled_begins old.front new.front grows))

-- and so it was as the seat took the turn
pub told_taking : (old new : SeatRow) (account : Account Opening Entry) (front : List Entry) → IsToldOf old account → new ≡ took_in old front → Begins old.front front → IsBehind new account
told_taking old new account front told took grows =
    still_told old new account (ap (λ (k : SeatRow). k.opening) took) (subst (λ (k : SeatRow). Begins old.front k.front) (sym took) grows) told

-- what a pass knows is the same whatever its reader was told
pub known_told : (row : SeatRow) (account account' : Account Opening Entry) (list : List Entry) → account' ≡ told_with account list → known_by_both row account' ≡ known_by_both row account
known_told row account account' list told = ap (λ (a : Account Opening Entry). known_by_both row a) told

pub known_after : (row row' : SeatRow) (account account' account'' : Account Opening Entry) (list list' : List Entry) → row' ≡ row → account' ≡ told_with account list → account'' ≡ told_with account' list'
    → known_by_both row' account'' ≡ known_by_both row account
known_after row row' account account' account'' list list' rows told told' =
    ap (λ (r : SeatRow). known_by_both r account'') rows ∙ ap (λ (a : Account Opening Entry). known_by_both row a) told' ∙ ap (λ (a : Account Opening Entry). known_by_both row (told_with a list')) told

-- a call that was let through, by its answer
let_through : (old new : Known) (user : User) (moment : ℕ) (command : Command) (result : Result Reply SharedError) → length old.front < MOST_ENTRIES → Performs old new user moment command result
    → Answers old new user moment command result
let_through old new user moment command (Ok reply) room (inl runs) = (room, runs)
let_through old new user moment command (Err StoreFault) room (inl (ended, (faults, is))) = (room, inl (ended, faults, is))
let_through old new user moment command (Err OutOfMemory) room (inl runs) = (room, runs)
let_through old new user moment command (Err RunSpent) room (inl (ended, none)) = absurd none
let_through old new user moment command result room (inr (is, stopped)) =
    subst (λ (r : Result Reply SharedError). Answers old new user moment command r) (sym is) (room, stopped)

module _ {D : Type 0} (shown : D → Device) where
  -- a call of a pass, that was let through
  pub calls_through : (account : Account Opening Entry) (old taken new : SeatRow) (front : List Entry) (state state' : ShownArea D) (user : User) (moment : ℕ) (command : Command) (result : Result Reply SharedError)
      → taken ≡ took_in old front → Begins old.front front → StandsFrom (IsKept shown) taken.opening state taken.front → Leads (λ before after. Performs before after user moment command result) taken new → length front < MOST_ENTRIES
      → StandsFrom (IsKept shown) new.opening state' new.front → Begins account.shown (settled_of front)
      → Asks (known_by_both old account) (known_by_both new account) user moment command result
  calls_through account old taken new front state state' user moment command result took grows stands performs room later begins =
      let first = mark_known (IsKept shown) taken.opening state taken.front stands in
      let now = subst (λ (m : Option (PairMark Opening)). StandsFrom (IsKept shown) m state' new.front) (performs.mark ∙ first.1) later in
      record {
        opening = first.0.opening;
        from = ap opening_at (sym (ap (λ (k : SeatRow). k.opening) took) ∙ first.1);
        taken = front;
        grows = grows;
        answers =
            let_through (known_by_both (took_in old front) account) (known_by_both new account) user moment command result room
            (subst (λ (k : SeatRow). Performs (known_by_both k account) (known_by_both new account) user moment command result) took (performs.known account));
        covered = begins;
        history = now.area.1.history;
      }

  -- a call of a pass, that was refused so
  pub calls_refused : (account : Account Opening Entry) (old taken new : SeatRow) (front : List Entry) (state : ShownArea D) (user : User) (moment : ℕ) (command : Command) (error : SharedError) (refusal : Refusal)
      → taken ≡ took_in old front → Begins old.front front → StandsFrom (IsKept shown) taken.opening state taken.front → new ≡ given taken (Some refusal)
      → (known_by_both new account ≡ refusing (seen (known_by_both old account) front) refusal → Answers (seen (known_by_both old account) front) (known_by_both new account) user moment command (Err error))
      → Begins account.shown (settled_of front) → Asks (known_by_both old account) (known_by_both new account) user moment command (Err error)
  calls_refused account old taken new front state user moment command error refusal took grows stands is answers covered =
      let first = mark_known (IsKept shown) taken.opening state taken.front stands in
      let whole : new ≡ given (took_in old front) (Some refusal) = is ∙ ap (λ (k : SeatRow). given k (Some refusal)) took in
      record {
        opening = first.0.opening;
        from = ap opening_at (sym (ap (λ (k : SeatRow). k.opening) took) ∙ first.1);
        taken = front;
        grows = grows;
        answers = answers (ap (λ (k : SeatRow). known_by_both k account) whole);
        covered = covered;
        history = subst (λ (l : List Entry). IsHistory first.0.opening l) (sym (ap (λ (k : SeatRow). k.front) is)) first.2.area.1.history;
      }

  -- what looks see of the area is of the pair of a reader that is told with the seat
  pub same_pair : (known : SeatRow) (account : Account Opening Entry) (state : ShownArea D) → account.mark ≡ known.opening → StandsFrom (IsKept shown) known.opening state known.front
      → account.mark ≡ (publication_of state.shower).mark
  same_pair known account state mark stands = mark ∙ sym (fits shown known.opening state known.front stands).0

  -- and so as the turn is taken
  pub taken_pair : (old taken : SeatRow) (list : List Entry) (account : Account Opening Entry) (state : ShownArea D) → taken ≡ took_in old list → account.mark ≡ old.opening → StandsFrom (IsKept shown) taken.opening state taken.front
      → account.mark ≡ (publication_of state.shower).mark
  taken_pair old taken list account state took mark stands = same_pair taken account state (mark ∙ ap (λ (k : SeatRow). k.opening) (sym took)) stands

  -- what it was shown begins what was published, and so all that is settled
  pub shown_begins : (known : SeatRow) (account : Account Opening Entry) (state : ShownArea D) (list : List Entry) → list ≡ account.shown → StandsFrom (IsKept shown) known.opening state known.front → IsPrefix list (publication_of state.shower).list
      → Begins account.shown (settled_of known.front)
  shown_begins known account state list seen stands leads =
      begins_of account.shown (settled_of known.front)
      (subst (IsPrefix account.shown) (fits shown known.opening state known.front stands).1 (subst (λ (l : List Entry). IsPrefix l (publication_of state.shower).list) seen leads))

  -- a reader that was told no more may learn all that is shown
  pub may_inform : (known : SeatRow) (account : Account Opening Entry) (state : ShownArea D) → Begins account.told (settled_of known.front) → StandsFrom (IsKept shown) known.opening state known.front
      → length account.told ≤ length (publication_of state.shower).list
  may_inform known account state told stands =
      subst (λ (l : List Entry). length account.told ≤ length l) (sym (fits shown known.opening state known.front stands).1) (begins_length account.told (settled_of known.front) told)

  -- and then it was told that
  pub is_informed : (known : SeatRow) (account account' : Account Opening Entry) (state : ShownArea D) → account.mark ≡ known.opening → StandsFrom (IsKept shown) known.opening state known.front
      → account' ≡ told_with account (publication_of state.shower).list → IsToldOf known account'
  is_informed known account account' state mark stands is =
      (ap (λ (a : Account Opening Entry). a.mark) is ∙ mark, ap (λ (a : Account Opening Entry). a.told) is ∙ (fits shown known.opening state known.front stands).1)
