-- Each step keeps the rule of the turn.
use Rattle.std.proofs.Common.{◌≡◌, ◌≢◌, ◌⊎◌, ℕ, ◌+◌, ◌%◌, ◌^◌, ◌<◌, ◌≤◌, List, [], ◌∷◌, ◌++◌, map, length, get_or, set, sym, refl, ap, ◌∙◌, subst, ⊎_elim, inl, inr, arith, length-set, length-append, Option, Some}
use Rattle.std.proofs.lemmas.List.{append-nil}
use mathlib.Core.Logic.{dite}
use mathlib.Core.Option.{none, some, some-injective}
use native.Mathlib.Decide.{ℕ_discrete}
use lib.ListN.{get_elem?}
use lib.Seq.{set-get_or}
use Rattle.atomic_table.specs.Table.{State, Me, step, Act, keeps, takes, gives, stepped, Allows, Splits, Joins, opening, Seen, Final, Valid, carried_after, put_back, rest}
use Rattle.atomic_table.proofs.Lists.{at_set, set_here, set_else, set_again, at_longer, one_turn}
use Rattle.jb_turn.specs.declared.view.Row.{Row}
use Rattle.jb_turn.specs.declared.view.View.{View}
use Rattle.jb_turn.specs.declared.view.TicketStage.{TicketStage}
use Rattle.jb_turn.specs.declared.view.TicketStage.TheVariants.{Idle, Waits, Came}
use Rattle.jb_turn.specs.Rows.{Has, calls, is_at, when, row, view_of, head_row, IsOwn, StandsFrom}
use Rattle.jb_turn.specs.Rule.{Home, AreMade, HasTicket, weight, waiting, IsLongest, IsStateOut, IsHome, IsRow, IsStage, IsSeat, HasOwn, TurnRule}
use Rattle.jb_turn.specs.Whole.{HasRows, HasRow, IsWhole}
use Rattle.jb_turn.specs.Steps.{ticket, sighted, noted, given, maker, maker_no_more, newcomer, both, spent, Draws, Arrives, Comes, Notes, Gives, Counts}
use Rattle.jb_turn.proofs.Places.{has_reverse, has_reversed}
use Rattle.std.proofs.Common.{reverse}
use Rattle.jb_turn.proofs.Histories.{put, put_here, put_else, passed, passed_on, passed_not, begins_self, begins_longer, only_has, none_has, at_less, at_end, has_left, has_right, has_either, calls_snoc, calls_other, calls_none, waiting_set, waiting_snoc, waiting_most, same_at, longest_set, out_set, drawn_set, drawn_longer, drawn_next}

abbrev M64 : ℕ
M64 = 18446744073709551616

next_word : (n : ℕ) → (n % 18446744073709551616 + 1) % 18446744073709551616 ≡ (n + 1) % 18446744073709551616
next_word n = omega arith

module _ (S O E Q : Type 0) (stands : S → O → List E → Type 0) (caller : E → Option ℕ) (first : O) where
  abbrev V : Type 0
  V = View O E Q

  abbrev St : Type 0
  St = State (Option S) V

  abbrev Sat : Type 0
  Sat = Me (Option S) V

  abbrev Homes : Type 0
  Homes = Home S

  abbrev Rule : ℕ → St → Type 0
  Rule = TurnRule stands caller first

  -- what is known of the others and of the seat that steps is known of all
  each_set : (views : List V) (id : ℕ) (w : V) (log' : List E) (homes' : Homes) (serving' next' : ℕ) (whose' owner' : ℕ → ℕ) → IsSeat caller first log' homes' (length views) serving' next' whose' owner' id w
      → ((j : ℕ) (v : V) → j ≢ id → get_elem? views j ≡ some v → IsSeat caller first log' homes' (length views) serving' next' whose' owner' j v)
      → (j : ℕ) (v : V) → get_elem? (set views id w) j ≡ some v → IsSeat caller first log' homes' (length (set views id w)) serving' next' whose' owner' j v
  each_set views id w log' homes' serving' next' whose' owner' mine others j v e =
      subst (λ (n : ℕ). IsSeat caller first log' homes' n serving' next' whose' owner' j v) (sym (length-set views id w))
      (⊎_elim (λ (t : (j ≡ id) × (w ≡ v)). subst (λ (z : ℕ × V). IsSeat caller first log' homes' (length views) serving' next' whose' owner' z.0 z.1) (λ i. (sym t.0 i, t.1 i)) mine)
      (λ (t : (j ≢ id) × (get_elem? views j ≡ some v)). others j v t.0 t.1) (at_set views id j w v e))

  unmade_set : (log : List E) (views : List V) (id : ℕ) (w : V) → ((n : ℕ) → (AreMade (length views) n → ⊥) → calls caller n log ≡ []) → (n : ℕ) → (AreMade (length (set views id w)) n → ⊥) → calls caller n log ≡ []
  unmade_set log views id w un n h = un n (subst (λ (k : ℕ). AreMade k n → ⊥) (length-set views id w) h)

  abbrev IsOne : V → Type 0
  IsOne v = v.rows ≡ head_row v.rows ∷ []

  owns : (owner : ℕ → ℕ) (id : ℕ) (v : V) → IsOne v → HasOwn owner id v → (owner (id + 1) ≡ id) × HasRow v.rows (id + 1)
  owns owner id v one own = ⊎_elim (λ (h : (owner (id + 1) ≡ id) × HasRow v.rows (id + 1)). h) (λ (h : (v.rows ≡ []) × (v.stage ≡ Idle)). absurd (cc (one, h.0))) own

  -- a seat with one row still has its node where the row is another of the same node
  owns_as : (owner : ℕ → ℕ) (id : ℕ) (v : V) → IsOne v → (q : Row O E Q) → q.node ≡ (head_row v.rows).node → HasOwn owner id v → (owner (id + 1) ≡ id) × HasRow (q ∷ []) (id + 1)
  owns_as owner id v one q same own = let o = owns owner id v one own in let had = o.1 in
      let is : head_row v.rows ≡ had.0 = only_has (head_row v.rows) had.0 (subst (λ (l : List (Row O E Q)). Has l had.0) one had.1) in (o.0, (q, (0, refl), same ∙ ap (λ (r : Row O E Q). r.node) is ∙ had.2))

  draw_else : (log : List E) (homes : Homes) (serving next : ℕ) (whose : ℕ → ℕ) (j id : ℕ) (rows : List (Row O E Q)) (st : TicketStage) → IsStage log homes serving next whose j rows st
      → IsStage log homes serving (next + 1) (put whose next id) j rows st
  draw_else log homes serving next whose j id rows Idle h = tt
  draw_else log homes serving next whose j id rows (Waits t) h = let old : t < next = h.1 in (h.0, omega arith, put_else whose next id t (λ e. omega arith) ∙ h.2)
  draw_else log homes serving next whose j id rows (Came t) h = let old : t < next = h.1 in (h.0, omega arith, put_else whose next id t (λ e. omega arith) ∙ h.2, h.3, h.4)

  -- drawing a ticket
  pub draws : (seats slots id : ℕ) (me : Sat) → IsOne me.0 → me.0.stage ≡ Idle → Allows (Rule seats) slots id me 0 (λ n. (n + 1) % 2 ^ 64) (Draws (step slots 0 1 0 none) me)
  draws seats slots id me one idle s r deep at small =
      let w : V = view_of (Waits r.next) me.0.rows me.0.made in let mine = r.each id me.0 at in let whose' : ℕ → ℕ = put r.whose r.next id in
      let sum = waiting_set s.views id me.0 w at in let none_yet : weight me.0.stage ≡ 0 = ap weight idle in let line = r.queue in
      let longer : r.serving + waiting (set s.views id w) ≡ r.next + 1 = omega arith in
      let ahead : r.serving ≤ r.next = omega arith in (
        w,
        keeps,
        tt,
        record {
          log = r.log;
          serving = r.serving;
          next = r.next + 1;
          whose = whose';
          owner = r.owner;
          few = r.few;
          words_are = ap (λ (ws : List ℕ). set ws 0 ((get_or ws 0 0 + 1) % 18446744073709551616)) r.words_are ∙ ap (λ (k : ℕ). k ∷ r.serving % 18446744073709551616 ∷ length r.log ∷ []) (next_word r.next);
          drawn = λ u a b. drawn_next r.whose (set s.views id w) id r.next w (set_here s.views id w (at_less s.views id me.0 at)) refl u
              (λ ne. drawn_set r.whose s.views id me.0 w at u (λ h. absurd (subst (HasTicket u) idle h)) (r.drawn u a (omega arith)));
          queue = longer;
          room = subst (λ (k : ℕ). k ≤ seats) (sym (length-set s.views id w)) r.room;
          unmade = unmade_set r.log s.views id w r.unmade;
          each = each_set s.views id w r.log s.homes r.serving (r.next + 1) whose' r.owner record {
            rows = mine.rows;
            owned = mine.owned;
            stage = (ahead, omega arith, put_here r.whose r.next id);
            own = inl (owns r.owner id me.0 one mine.own);
            maker = mine.maker;
          } (λ j v other there. let o = r.each j v there in record {
            rows = o.rows;
            owned = o.owned;
            stage = draw_else r.log s.homes r.serving r.next r.whose j id v.rows v.stage o.stage;
            own = o.own;
            maker = o.maker;
          });
          state = ⊎_elim (λ (h : IsHome stands first r.log s.homes). inl h) (λ (h : IsStateOut r.serving s.views). inr (out_set r.serving s.views id me.0 w at (λ e. absurd (cc (idle, e))) h)) r.state;
          longest = longest_set r.log s.views id me.0 w at (λ q h. h) r.longest;
        },
        (r.next, ap (λ (ws : List ℕ). get_or ws 0 0) r.words_are, refl),
      )

  -- a seat that steps and changes nothing
  unmoved : (seats i id : ℕ) (me : Sat) (s : St) → Rule seats s → get_elem? s.views id ≡ some me.0 → Rule seats (stepped s i (get_or s.words i 0) id me.1 me.0 keeps)
  unmoved seats i id me s r at = subst (λ (z : List ℕ × List V). Rule seats record { words = z.0; homes = s.homes; views = z.1 })
      (λ k. (sym (set-get_or s.words i 0) k, sym (set_again s.views id me.0 at) k)) r

  has_head : (v : V) → IsOne v → Has v.rows (head_row v.rows)
  has_head v one = (0, ap (λ (l : List (Row O E Q)). get_elem? l 0) one)

  served : (seats id : ℕ) (me : Sat) (s : St) (r : Rule seats s) → get_elem? s.views id ≡ some me.0 → (t : ℕ) → me.0.stage ≡ Waits t → r.serving % 18446744073709551616 ≡ t % 18446744073709551616 → r.serving ≡ t
  served seats id me s r at t is same =
      let mine : IsStage r.log s.homes r.serving r.next r.whose id me.0.rows (Waits t) = subst (IsStage r.log s.homes r.serving r.next r.whose id me.0.rows) is (r.each id me.0 at).stage in
      let a : r.serving ≤ t = mine.0 in let b : t < r.next = mine.1 in
      let most = waiting_most s.views in let room = r.room in let few = r.few in let line = r.queue in
      one_turn r.serving t 18446744073709551616 a (omega arith) same

  take_else : (log : List E) (homes homes' : Homes) (x : S) (serving next : ℕ) (whose : ℕ → ℕ) (j : ℕ) (rows : List (Row O E Q)) (st : TicketStage) → homes ≡ some (Some x) ∷ [] → IsStage log homes serving next whose j rows st
      → IsStage log homes' serving next whose j rows st
  take_else log homes homes' x serving next whose j rows Idle full h = tt
  take_else log homes homes' x serving next whose j rows (Waits t) full h = h
  take_else log homes homes' x serving next whose j rows (Came t) full h = let out : homes ≡ none ∷ [] = h.3 in absurd (cc (full, out))

  -- the look that finds the seat's own ticket served, and takes the state with it
  comes_now : (seats id : ℕ) (me : Sat) (s : St) (r : Rule seats s) → IsOne me.0 → me.1 ≡ [] → get_elem? s.views id ≡ some me.0 → (t : ℕ) → me.0.stage ≡ Waits t → r.serving ≡ t
      → (IsHome stands first r.log s.homes ⊎ IsStateOut r.serving s.views)
      → (w : V) × (a : Act (Option S)) × Valid s.homes me.1 a × Rule seats (stepped s 1 (get_or s.words 1 0) id me.1 w a) × Arrives stands caller t me (w, carried_after me.1 a)
  comes_now seats id me s r one empty at t is serves (inl (x, full, st)) =
      let r0 : Row O E Q = head_row me.0.rows in let w : V = view_of (Came t) (sighted r0 r.log ∷ []) me.0.made in let mine = r.each id me.0 at in let old = mine.rows r0 (has_head me.0 one) in
      let place : IsStage r.log s.homes r.serving r.next r.whose id me.0.rows (Waits t) = subst (IsStage r.log s.homes r.serving r.next r.whose id me.0.rows) is mine.stage in
      let sum = waiting_set s.views id me.0 w at in let was : weight me.0.stage ≡ 1 = ap weight is in let line = r.queue in
      let out : set s.homes 0 none ≡ none ∷ [] = ap (λ (h : Homes). set h 0 none) full in
      let here : get_elem? (set s.views id w) id ≡ some w = set_here s.views id w (at_less s.views id me.0 at) in (
        w,
        takes 0 (Some x),
        ap (λ (h : Homes). get_elem? h 0) full,
        record {
          log = r.log;
          serving = r.serving;
          next = r.next;
          whose = r.whose;
          owner = r.owner;
          few = r.few;
          words_are = ap (λ (ws : List ℕ). set ws 1 (get_or ws 1 0)) r.words_are;
          drawn = λ u a b. drawn_set r.whose s.views id me.0 w at u (λ h. subst (HasTicket u) is h) (r.drawn u a b);
          queue = omega arith;
          room = subst (λ (k : ℕ). k ≤ seats) (sym (length-set s.views id w)) r.room;
          unmade = unmade_set r.log s.views id w r.unmade;
          each = each_set s.views id w r.log (set s.homes 0 none) r.serving r.next r.whose r.owner record {
            rows = λ q h. subst (IsRow caller first r.log (length s.views)) (only_has (sighted r0 r.log) q h) record { opening = old.opening; begins = begins_self r.log; mine = old.mine; seen = old.mine; made_before = old.made_before };
            owned = λ q h. subst (λ (z : Row O E Q). r.owner z.node ≡ id) (only_has (sighted r0 r.log) q h) (mine.owned r0 (has_head me.0 one));
            stage = (serves, place.1, place.2, out, λ q h. ap (λ (z : Row O E Q). z.front) (sym (only_has (sighted r0 r.log) q h)));
            own = inl (owns_as r.owner id me.0 one (sighted r0 r.log) refl mine.own);
            maker = mine.maker;
          } (λ j v other there. let o = r.each j v there in record {
            rows = o.rows;
            owned = o.owned;
            stage = take_else r.log s.homes (set s.homes 0 none) x r.serving r.next r.whose j v.rows v.stage full o.stage;
            own = o.own;
            maker = o.maker;
          });
          state = inr (id, w, here, ap (λ (u : ℕ). let c : TicketStage = Came u in c) (sym serves));
          longest = (id, w, sighted r0 r.log, here, (0, refl), refl);
        },
        (r.log, x, ap (λ (c : List (ℕ × Option S)). (w, (0, Some x) ∷ c)) empty, old.begins, old.mine, subst (λ (o : Option O). StandsFrom stands o x r.log) (sym old.opening) st),
      )
  comes_now seats id me s r one empty at t is serves (inr (j, v, there, came)) =
      let mine : IsStage r.log s.homes r.serving r.next r.whose id me.0.rows (Waits t) = subst (IsStage r.log s.homes r.serving r.next r.whose id me.0.rows) is (r.each id me.0 at).stage in
      let his : IsStage r.log s.homes r.serving r.next r.whose j v.rows (Came r.serving) = subst (IsStage r.log s.homes r.serving r.next r.whose j v.rows) came (r.each j v there).stage in
      let one_seat : j ≡ id = sym his.2 ∙ (ap r.whose serves ∙ mine.2) in
      let same : me.0 ≡ v = same_at s.views id j me.0 v at there one_seat in
      let clash : Waits t ≡ Came r.serving = sym is ∙ (ap (λ (z : V). z.stage) same ∙ came) in
      absurd (cc clash)

  -- a look at the ticket that is served
  pub comes : (seats slots id : ℕ) (me : Sat) → IsOne me.0 → me.0.stage ≡ Waits (ticket me.0.stage) → me.1 ≡ [] → Allows (Rule seats) slots id me 1 (λ n. n) (Comes stands caller (step slots 1 0 0 none) me)
  comes seats slots id me one waits empty s r deep at small =
      let found : get_or s.words 1 0 ≡ r.serving % 18446744073709551616 = ap (λ (ws : List ℕ). get_or ws 1 0) r.words_are in
      dite (ℕ_discrete (get_or s.words 1 0) (ticket me.0.stage % 18446744073709551616))
      (λ hit. let d = comes_now seats id me s r one empty at (ticket me.0.stage) waits (served seats id me s r at (ticket me.0.stage) waits (sym found ∙ hit)) r.state in
      (d.0, d.1, d.2, d.3, ((λ _. d.4), λ miss. absurd (miss hit))))
      (λ miss. (me.0, keeps, tt, unmoved seats 1 id me s r at, ((λ hit. absurd (miss hit)), λ _. refl)))

  came_at : (seats id : ℕ) (me : Sat) (s : St) (r : Rule seats s) → get_elem? s.views id ≡ some me.0 → (t : ℕ) → me.0.stage ≡ Came t → IsStage r.log s.homes r.serving r.next r.whose id me.0.rows (Came t)
  came_at seats id me s r at t is = subst (IsStage r.log s.homes r.serving r.next r.whose id me.0.rows) is (r.each id me.0 at).stage

  -- a look at the count while the state is out with the seat
  pub counts : (seats slots id : ℕ) (me : Sat) → IsOne me.0 → (t : ℕ) → me.0.stage ≡ Came t → Allows (Rule seats) slots id me 2 (λ n. n) (Counts (step slots 2 0 0 none) me)
  counts seats slots id me one t is s r deep at small =
      (me.0, keeps, tt, unmoved seats 2 id me s r at, (refl, ap (λ (ws : List ℕ). get_or ws 2 0) r.words_are ∙ ap length (sym ((came_at seats id me s r at t is).4 (head_row me.0.rows) (has_head me.0 one)))))

  note_else : (log log' : List E) (homes : Homes) (serving next : ℕ) (whose : ℕ → ℕ) (j id : ℕ) (rows : List (Row O E Q)) (st : TicketStage) → whose serving ≡ id → j ≢ id → IsStage log homes serving next whose j rows st
      → IsStage log' homes serving next whose j rows st
  note_else log log' homes serving next whose j id rows Idle is other h = tt
  note_else log log' homes serving next whose j id rows (Waits t) is other h = h
  note_else log log' homes serving next whose j id rows (Came t) is other h = absurd (other (sym h.2 ∙ (ap whose (sym h.0) ∙ is)))

  -- noting an entry
  pub notes : (seats slots id : ℕ) (me : Sat) (picked : Option E) → IsOne me.0 → (t : ℕ) → me.0.stage ≡ Came t → (e : E) → picked ≡ Some e → IsOwn caller (head_row me.0.rows).node e → length (head_row me.0.rows).front ≤ 2 ^ 62
      → Allows (Rule seats) slots id me 2 (λ n. (n + 1) % 2 ^ 64) (Notes caller picked (step slots 2 1 0 none) me)
  notes seats slots id me picked one t is e named own few s r deep at small =
      let r0 : Row O E Q = head_row me.0.rows in let log' : List E = r.log ++ e ∷ [] in let w : V = view_of me.0.stage (noted caller r0 e ∷ []) me.0.made in
      let mine = r.each id me.0 at in let has = has_head me.0 one in let old = mine.rows r0 has in let place = came_at seats id me s r at t is in
      let whole : r0.front ≡ r.log = place.4 r0 has in let long : length r0.front ≡ length r.log = ap length whole in
      let sum = waiting_set s.views id me.0 w at in let line = r.queue in let more = length-append r.log (e ∷ []) in
      let fits : (length r.log + 1) % 18446744073709551616 ≡ length log' = omega arith in
      let here : get_elem? (set s.views id w) id ≡ some w = set_here s.views id w (at_less s.views id me.0 at) in
      let full_front : r0.front ++ e ∷ [] ≡ log' = ap (λ (l : List E). l ++ e ∷ []) whole in (
        w,
        keeps,
        tt,
        record {
          log = log';
          serving = r.serving;
          next = r.next;
          whose = r.whose;
          owner = r.owner;
          few = r.few;
          words_are = ap (λ (ws : List ℕ). set ws 2 ((get_or ws 2 0 + 1) % 18446744073709551616)) r.words_are ∙ ap (λ (k : ℕ). r.next % 18446744073709551616 ∷ r.serving % 18446744073709551616 ∷ k ∷ []) fits;
          drawn = λ u a b. drawn_set r.whose s.views id me.0 w at u (λ h. h) (r.drawn u a b);
          queue = omega arith;
          room = subst (λ (k : ℕ). k ≤ seats) (sym (length-set s.views id w)) r.room;
          unmade = unmade_set log' s.views id w (λ n h. calls_other caller n r.log e (own n (λ eq. h (subst (AreMade (length s.views)) (sym eq) old.made_before))) ∙ r.unmade n h);
          each = each_set s.views id w log' s.homes r.serving r.next r.whose r.owner record {
            rows = λ q h. subst (IsRow caller first log' (length s.views)) (only_has (noted caller r0 e) q h) record {
              opening = old.opening;
              begins = ([], sym full_front ∙ sym (append-nil (r0.front ++ e ∷ [])));
              mine = calls_snoc caller r0.node r.log e ∙ ap (λ (m : List E). m ++ when (is_at r0.node (caller e)) e) old.mine;
              seen = calls_snoc caller r0.node r0.front e ∙ ap (λ (m : List E). m ++ when (is_at r0.node (caller e)) e) old.seen;
              made_before = old.made_before;
            };
            owned = λ q h. subst (λ (z : Row O E Q). r.owner z.node ≡ id) (only_has (noted caller r0 e) q h) (mine.owned r0 has);
            stage = subst (IsStage log' s.homes r.serving r.next r.whose id (noted caller r0 e ∷ [])) (sym is) (place.0, place.1, place.2, place.3, λ q h. ap (λ (z : Row O E Q). z.front) (sym (only_has (noted caller r0 e) q h)) ∙ full_front);
            own = inl (owns_as r.owner id me.0 one (noted caller r0 e) refl mine.own);
            maker = mine.maker;
          } (λ j v other there. let o = r.each j v there in record {
            rows = λ q h. let p = o.rows q h in record {
              opening = p.opening;
              begins = begins_longer q.front r.log (e ∷ []) p.begins;
              mine = calls_other caller q.node r.log e (own q.node (λ eq. other (sym (o.owned q h) ∙ (ap r.owner eq ∙ mine.owned r0 has)))) ∙ p.mine;
              seen = p.seen;
              made_before = p.made_before;
            };
            owned = o.owned;
            stage = note_else r.log log' s.homes r.serving r.next r.whose j id v.rows v.stage (ap r.whose place.0 ∙ place.2) other o.stage;
            own = o.own;
            maker = o.maker;
          });
          state = ⊎_elim (λ (h : IsHome stands first r.log s.homes). let full : s.homes ≡ some (Some h.0) ∷ [] = h.1 in let out : s.homes ≡ none ∷ [] = place.3 in absurd (cc (full, out))) (λ (h : IsStateOut r.serving s.views). inr (out_set r.serving s.views id me.0 w at (λ x. x) h)) r.state;
          longest = (id, w, noted caller r0 e, here, (0, refl), full_front);
        },
        λ e' named'. let same : e ≡ e' = cc (named, named') in ap (λ (z : E). (view_of me.0.stage (noted caller r0 z ∷ []) me.0.made, me.1)) same,
      )

  give_else : (log : List E) (homes homes' : Homes) (serving next : ℕ) (whose : ℕ → ℕ) (j id : ℕ) (rows : List (Row O E Q)) (st : TicketStage) → whose serving ≡ id → j ≢ id → IsStage log homes serving next whose j rows st
      → IsStage log homes' (serving + 1) next whose j rows st
  give_else log homes homes' serving next whose j id rows Idle is other h = tt
  give_else log homes homes' serving next whose j id rows (Waits t) is other h = let apart : t ≢ serving = λ e. other (sym h.2 ∙ (ap whose e ∙ is)) in let a : serving ≤ t = h.0 in (omega arith, h.1, h.2)
  give_else log homes homes' serving next whose j id rows (Came t) is other h = absurd (other (sym h.2 ∙ (ap whose (sym h.0) ∙ is)))

  -- giving the turn back, with the state that stands for the history
  pub gives_back : (seats slots id : ℕ) (me : Sat) (remark : Option Q) → IsOne me.0 → (t : ℕ) → me.0.stage ≡ Came t → (x : S) → me.1 ≡ (0, Some x) ∷ [] → StandsFrom stands (head_row me.0.rows).opening x (head_row me.0.rows).front
      → Allows (Rule seats) slots id me 1 (λ n. (n + 1) % 2 ^ 64) (Gives remark (step slots 1 1 0 none) me)
  gives_back seats slots id me remark one t is x held st s r deep at small =
      let r0 : Row O E Q = head_row me.0.rows in let w : V = view_of Idle (given r0 remark ∷ []) me.0.made in
      let mine = r.each id me.0 at in let has = has_head me.0 one in let old = mine.rows r0 has in let place = came_at seats id me s r at t is in
      let whole : r0.front ≡ r.log = place.4 r0 has in
      let sum = waiting_set s.views id me.0 w at in let was : weight me.0.stage ≡ 1 = ap weight is in let line = r.queue in
      let full : put_back s.homes me.1 ≡ some (Some x) ∷ [] = ap (put_back s.homes) held ∙ ap (λ (h : Homes). set h 0 (some (Some x))) place.3 in
      let here : get_elem? (set s.views id w) id ≡ some w = set_here s.views id w (at_less s.views id me.0 at) in (
        w,
        gives,
        tt,
        record {
          log = r.log;
          serving = r.serving + 1;
          next = r.next;
          whose = r.whose;
          owner = r.owner;
          few = r.few;
          words_are = ap (λ (ws : List ℕ). set ws 1 ((get_or ws 1 0 + 1) % 18446744073709551616)) r.words_are ∙ ap (λ (k : ℕ). r.next % 18446744073709551616 ∷ k ∷ length r.log ∷ []) (next_word r.serving);
          drawn = λ u a b. drawn_set r.whose s.views id me.0 w at u (λ h. let had : t ≡ u = subst (HasTicket u) is h in let served_now : r.serving ≡ t = place.0 in absurd (omega arith)) (r.drawn u (omega arith) b);
          queue = omega arith;
          room = subst (λ (k : ℕ). k ≤ seats) (sym (length-set s.views id w)) r.room;
          unmade = unmade_set r.log s.views id w r.unmade;
          each = each_set s.views id w r.log (put_back s.homes me.1) (r.serving + 1) r.next r.whose r.owner record {
            rows = λ q h. subst (IsRow caller first r.log (length s.views)) (only_has (given r0 remark) q h) record { opening = old.opening; begins = old.begins; mine = old.mine; seen = old.seen; made_before = old.made_before };
            owned = λ q h. subst (λ (z : Row O E Q). r.owner z.node ≡ id) (only_has (given r0 remark) q h) (mine.owned r0 has);
            stage = tt;
            own = inl (owns_as r.owner id me.0 one (given r0 remark) refl mine.own);
            maker = mine.maker;
          } (λ j v other there. let o = r.each j v there in record {
            rows = o.rows;
            owned = o.owned;
            stage = give_else r.log s.homes (put_back s.homes me.1) r.serving r.next r.whose j id v.rows v.stage (ap r.whose place.0 ∙ place.2) other o.stage;
            own = o.own;
            maker = o.maker;
          });
          state = inl (x, full, subst (stands x first) whole (subst (λ (o : Option O). StandsFrom stands o x r0.front) old.opening st));
          longest = (id, w, given r0 remark, here, (0, refl), whole);
        },
        ap (λ (c : List (ℕ × Option S)). (w, rest c)) held,
      )

  grown : (log : List E) (made : ℕ) (q : Row O E Q) → IsRow caller first log made q → IsRow caller first log (made + 1) q
  grown log made q p = let le : q.node ≤ made = p.made_before.1 in record { opening = p.opening; begins = p.begins; mine = p.mine; seen = p.seen; made_before = (p.made_before.0, omega arith) }

  -- making a seat
  pub cuts : (seats id : ℕ) (v : V) → IsOne v → 0 < v.made → v.made < seats → Splits (Rule seats) id v (maker_no_more v) (newcomer v)
  cuts seats id v one some_made few_made s r at =
      let n : ℕ = length s.views in let left : V = maker_no_more v in let right : V = newcomer v in let part : List V = set s.views id left in let views' : List V = part ++ right ∷ [] in
      let mine = r.each id v at in let is = mine.maker some_made in let made_is : v.made ≡ n = is.0 in let last : id + 1 ≡ n = is.1 in
      let r0 : Row O E Q = head_row v.rows in let known = mine.rows r0 (has_head v one) in let fresh : Row O E Q = row (v.made + 1) r0.opening r0.front [] [] in let none_yet : calls caller (v.made + 1) r.log ≡ [] = r.unmade (v.made + 1) (λ (is_made : AreMade n (v.made + 1)). let le : v.made + 1 ≤ n = is_made.1 in omega arith) in
      let part_long : length part ≡ n = length-set s.views id left in
      let long : length views' ≡ n + 1 = omega (arith, length-append part (right ∷ [])) in
      let owner' : ℕ → ℕ = put r.owner (n + 1) n in
      let sum = waiting_set s.views id v left at in let sum' = waiting_snoc part right in let line = r.queue in
      let Seat' : ℕ → V → Type 0 = λ j u. IsSeat caller first r.log s.homes (n + 1) r.serving r.next r.whose owner' j u in
      let old : (j : ℕ) (u : V) → get_elem? s.views j ≡ some u → (0 < u.made → ⊥) ⊎ (j ≡ id) → (made' : ℕ) → (j ≢ id → made' ≡ u.made) → (j ≡ id → made' ≡ 0) → Seat' j (view_of u.stage u.rows made') = λ j u there who made' keeps_made drops_made.
      let o = r.each j u there in let inside : j < n = at_less s.views j u there in record {
        rows = λ q h. grown r.log n q (o.rows q h);
        owned = λ q h. let le : q.node ≤ n = (o.rows q h).made_before.1 in put_else r.owner (n + 1) n q.node (λ e. omega arith) ∙ o.owned q h;
        stage = o.stage;
        own = ⊎_elim (λ (h : (r.owner (j + 1) ≡ j) × HasRow u.rows (j + 1)). inl (put_else r.owner (n + 1) n (j + 1) (λ e. omega arith) ∙ h.0, h.1)) (λ (h : (u.rows ≡ []) × (u.stage ≡ Idle)). inr h) o.own;
        maker = λ some. dite (ℕ_discrete j id) (λ e. let z : made' ≡ 0 = drops_made e in absurd (omega arith))
            (λ ne. let z : made' ≡ u.made = keeps_made ne in let m = o.maker (omega arith) in absurd (ne (omega arith)));
      } in
      record {
        log = r.log;
        serving = r.serving;
        next = r.next;
        whose = r.whose;
        owner = owner';
        few = r.few;
        words_are = r.words_are;
        drawn = λ u a b. drawn_longer r.whose part (right ∷ []) u (drawn_set r.whose s.views id v left at u (λ h. h) (r.drawn u a b));
        queue = omega arith;
        room = omega arith;
        unmade = λ m h. r.unmade m (λ (is_made : AreMade n m). let le : m ≤ n = is_made.1 in h (is_made.0, omega arith));
        each = λ j u e. subst (λ (k : ℕ). IsSeat caller first r.log s.homes k r.serving r.next r.whose owner' j u) (sym long)
            (⊎_elim (λ (in_part : get_elem? part j ≡ some u).
            ⊎_elim (λ (t : (j ≡ id) × (left ≡ u)). subst (λ (z : ℕ × V). Seat' z.0 z.1) (λ i. (sym t.0 i, t.1 i)) (old id v at (inr refl) 0 (λ ne. absurd (ne refl)) (λ _. refl)))
            (λ (t : (j ≢ id) × (get_elem? s.views j ≡ some u)). old j u t.1 (inl (λ some. let m = (r.each j u t.1).maker some in t.0 (omega arith))) u.made (λ _. refl) (λ e'. absurd (t.0 e')))
            (at_set s.views id j left u in_part))
            (λ (t : (j ≡ length part) × (right ≡ u)). let here : j ≡ n = t.0 ∙ part_long in subst (Seat' j) t.1 record {
              rows = λ q h. subst (IsRow caller first r.log (n + 1)) (only_has fresh q h) record { opening = known.opening; begins = known.begins; mine = none_yet; seen = calls_none caller (v.made + 1) r0.front r.log known.begins none_yet; made_before = (omega arith, omega arith) };
              owned = λ q h. subst (λ (z : Row O E Q). owner' z.node ≡ j) (only_has fresh q h) (ap (λ (k : ℕ). owner' (k + 1)) made_is ∙ (put_here r.owner (n + 1) n ∙ sym here));
              stage = tt;
              own = inl (ap (λ (k : ℕ). owner' (k + 1)) here ∙ (put_here r.owner (n + 1) n ∙ sym here), (fresh, (0, refl), ap (λ (k : ℕ). k + 1) (made_is ∙ sym here)));
              maker = λ _. (omega arith, omega arith);
            }) (at_end part right u j e));
        state = ⊎_elim (λ (h : IsHome stands first r.log s.homes). inl h) (λ (h : IsStateOut r.serving s.views). let o = out_set r.serving s.views id v left at (λ x. x) h in inr (o.0, o.1, at_longer part (right ∷ []) o.0 o.1 o.2, o.3)) r.state;
        longest = let o = longest_set r.log s.views id v left at (λ q h. h) r.longest in (o.0, o.1, o.2, at_longer part (right ∷ []) o.0 o.1 o.3, o.4, o.5);
      }

  -- taking in a seat
  pub joins : (seats id : ℕ) (v : V) (other : ℕ) (u : V) → (v.rows ≡ [] → ⊥) → v.stage ≡ Idle → u.stage ≡ Idle → Joins (Rule seats) id v other u (both v u) spent
  joins seats id v other u some_row idle idle' s r at apart there' =
      let w : V = both v u in let views1 : List V = set s.views id w in let views2 : List V = set views1 other spent in
      let there : get_elem? s.views other ≡ some u = sym (set_else s.views id other w apart) ∙ there' in
      let back : id ≢ other = λ e. apart (sym e) in
      let mine = r.each id v at in let his = r.each other u there in let owner' : ℕ → ℕ = passed r.owner other id in
      let long1 : length views1 ≡ length s.views = length-set s.views id w in let long : length views2 ≡ length s.views = length-set views1 other spent ∙ long1 in
      let Seat' : ℕ → V → Type 0 = λ j z. IsSeat caller first r.log s.homes (length s.views) r.serving r.next r.whose owner' j z in
      let sum = waiting_set s.views id v w at in let sum' = waiting_set views1 other u spent there' in let none' : weight u.stage ≡ 0 = ap weight idle' in let line = r.queue in
      let here : get_elem? views2 id ≡ some w = set_else views1 other id spent back ∙ set_here s.views id w (at_less s.views id v at) in
      record {
        log = r.log;
        serving = r.serving;
        next = r.next;
        whose = r.whose;
        owner = owner';
        few = r.few;
        words_are = r.words_are;
        drawn = λ t a b. drawn_set r.whose views1 other u spent there' t (λ h. absurd (subst (HasTicket t) idle' h)) (drawn_set r.whose s.views id v w at t (λ h. h) (r.drawn t a b));
        queue = omega arith;
        room = subst (λ (k : ℕ). k ≤ seats) (sym long) r.room;
        unmade = λ n h. r.unmade n (subst (λ (k : ℕ). AreMade k n → ⊥) long h);
        each = each_set views1 other spent r.log s.homes r.serving r.next r.whose owner' record {
          rows = λ q h. absurd (none_has q h);
          owned = λ q h. absurd (none_has q h);
          stage = tt;
          own = inr (refl, refl);
          maker = λ h. absurd (omega arith);
        } (λ j z ne e. subst (λ (k : ℕ). IsSeat caller first r.log s.homes k r.serving r.next r.whose owner' j z) (sym long1)
            (⊎_elim (λ (t : (j ≡ id) × (w ≡ z)). subst (λ (y : ℕ × V). Seat' y.0 y.1) (λ i. (sym t.0 i, t.1 i)) record {
              rows = λ q h. ⊎_elim (mine.rows q) (his.rows q) (has_either v.rows u.rows q h);
              owned = λ q h. ⊎_elim (λ (x : Has v.rows q). let o = mine.owned q x in passed_not r.owner other id q.node (λ e'. back (sym o ∙ e')) ∙ o)
                  (λ (x : Has u.rows q). passed_on r.owner other id q.node (his.owned q x)) (has_either v.rows u.rows q h);
              stage = subst (IsStage r.log s.homes r.serving r.next r.whose id w.rows) (sym idle) tt;
              own = ⊎_elim (λ (h : (r.owner (id + 1) ≡ id) × HasRow v.rows (id + 1)). inl (passed_not r.owner other id (id + 1) (λ e'. back (sym h.0 ∙ e')) ∙ h.0, (h.1.0, has_left v.rows u.rows h.1.0 h.1.1, h.1.2))) (λ (h : (v.rows ≡ []) × (v.stage ≡ Idle)). absurd (some_row h.0)) mine.own;
              maker = mine.maker;
            })
            (λ (t : (j ≢ id) × (get_elem? s.views j ≡ some z)). let o = r.each j z t.1 in record {
              rows = o.rows;
              owned = λ q h. let is = o.owned q h in passed_not r.owner other id q.node (λ e'. ne (sym is ∙ e')) ∙ is;
              stage = o.stage;
              own = ⊎_elim (λ (h : (r.owner (j + 1) ≡ j) × HasRow z.rows (j + 1)). inl (passed_not r.owner other id (j + 1) (λ e'. ne (sym h.0 ∙ e')) ∙ h.0, h.1)) (λ (h : (z.rows ≡ []) × (z.stage ≡ Idle)). inr h) o.own;
              maker = o.maker;
            }) (at_set s.views id j w z e)));
        state = ⊎_elim (λ (h : IsHome stands first r.log s.homes). inl h) (λ (h : IsStateOut r.serving s.views).
            inr (out_set r.serving views1 other u spent there' (λ came. absurd (cc (idle', came))) (out_set r.serving s.views id v w at (λ x. x) h))) r.state;
        longest = longest_join r here at there r.longest;
      }
    where
      longest_join : (r : Rule seats s) → get_elem? (set (set s.views id (both v u)) other spent) id ≡ some (both v u) → get_elem? s.views id ≡ some v → get_elem? s.views other ≡ some u → IsLongest r.log s.views
          → IsLongest r.log (set (set s.views id (both v u)) other spent)
      longest_join r here at there (j, z, q, place, has, is) =
          dite (ℕ_discrete j id) (λ e. (id, both v u, q, here, has_left v.rows u.rows q (subst (λ (y : V). Has y.rows q) (sym (same_at s.views id j v z at place e)) has), is))
          (λ ne. dite (ℕ_discrete j other) (λ e. (id, both v u, q, here, has_right v.rows u.rows q (subst (λ (y : V). Has y.rows q) (sym (same_at s.views other j u z there place e)) has), is))
          (λ ne'. (j, z, q, set_else (set s.views id (both v u)) other j spent ne' ∙ (set_else s.views id j (both v u) ne ∙ place), has, is)))

  -- the turn begins with the state in its place, no entry and one seat
  pub starts : (seats : ℕ) (x : S) (slots : List (Option S)) → 0 < seats → seats ≤ 33 → slots ≡ Some x ∷ [] → stands x first [] → Rule seats (opening (0 ∷ 0 ∷ 0 ∷ []) slots (maker first))
  starts seats x slots some_seat few is st = let m : V = maker first in let only : Row O E Q = row 1 (Some first) [] [] [] in record {
    log = [];
    serving = 0;
    next = 0;
    whose = λ _. 0;
    owner = λ _. 0;
    few = few;
    words_are = refl;
    drawn = λ u a b. absurd (omega arith);
    queue = omega arith;
    room = omega arith;
    unmade = λ n h. refl;
    each = λ j v at. let here : j < 1 = at_less (m ∷ []) j v at in let at_0 : 0 ≡ j = omega arith in subst (λ (z : ℕ × V). IsSeat caller first [] (map some slots) 1 0 0 (λ _. 0) (λ _. 0) z.0 z.1) (λ i. (at_0 i, only_has m v (j, at) i)) record {
      rows = λ q h. subst (IsRow caller first [] 1) (only_has only q h) record { opening = refl; begins = ([], refl); mine = refl; seen = refl; made_before = (omega arith, omega arith) };
      owned = λ q h. refl;
      stage = tt;
      own = inl (refl, (only, (0, refl), refl));
      maker = λ _. (refl, refl);
    };
    state = inl (x, ap (map some) is, st);
    longest = (0, m, only, refl, (0, refl), refl);
  }

  -- a resting seat that has every node stands alone: the state is at home, and stands for its longest front
  pub closes : (seats id : ℕ) (v : V) (s : St) → Seen (Rule seats) id v s → v.stage ≡ Idle → HasRows v.rows seats → (x : S) × (s.homes ≡ some (Some x) ∷ []) × IsWhole stands caller v.rows x
  closes seats id v s (r, at) idle all = let whole : IsHome stands first r.log s.homes = ⊎_elim (λ (h : IsHome stands first r.log s.homes). h) (λ (h : IsStateOut r.serving s.views). absurd (nobody h)) r.state in
      let long = r.longest in let q : Row O E Q = long.2 in
      (whole.0, whole.1, record { first = first; log = r.log; stands_for = whole.2; fits = λ p h. let o = (r.each id v at).rows p h in record { opening = o.opening; begins = o.begins; mine = o.mine; seen = o.seen }; others = λ n no. r.unmade n (λ (made : AreMade (length s.views) n). let le : n ≤ length s.views = made.1 in let room = r.room in no (all n made.0 (omega arith))); longest = (q, mine_too (long.0) long.1 long.3 q long.4, long.5) })
    where
      gone : (j : ℕ) (u : V) → j ≢ id → get_elem? s.views j ≡ some u → (u.rows ≡ []) × (u.stage ≡ Idle)
      gone j u ne there = let inside : j < length s.views = at_less s.views j u there in let room = r.room in let has = all (j + 1) (omega arith) (omega arith) in
          let owned : r.owner (j + 1) ≡ id = ap r.owner (sym has.2) ∙ (r.each id v at).owned has.0 has.1 in
          ⊎_elim (λ (h : (r.owner (j + 1) ≡ j) × HasRow u.rows (j + 1)). absurd (ne (sym h.0 ∙ owned))) (λ (h : (u.rows ≡ []) × (u.stage ≡ Idle)). h) (r.each j u there).own

      nobody : IsStateOut r.serving s.views → ⊥
      nobody (j, u, there, came) = dite (ℕ_discrete j id) (λ e. let same : v ≡ u = same_at s.views id j v u at there e in let clash : Idle ≡ Came r.serving = sym idle ∙ (ap (λ (z : V). z.stage) same ∙ came) in cc clash)
          (λ ne. let g = gone j u ne there in let clash : Idle ≡ Came r.serving = sym g.1 ∙ came in cc clash)

      mine_too : (j : ℕ) (u : V) → get_elem? s.views j ≡ some u → (q : Row O E Q) → Has u.rows q → Has v.rows q
      mine_too j u there q has = dite (ℕ_discrete j id) (λ e. subst (λ (z : V). Has z.rows q) (sym (same_at s.views id j v u at there e)) has)
          (λ ne. let g = gone j u ne there in absurd (none_has q (subst (λ (l : List (Row O E Q)). Has l q) g.0 has)))

  -- a seat is made where as many were made as the view says
  pub cuts_at : (seats id n : ℕ) (v : V) (made : v.made ≡ n) → IsOne v → 0 < n → n < seats → Splits (Rule seats) id v (maker_no_more v) (newcomer v)
  cuts_at seats id n v made one positive few = cuts seats id v one (omega arith) (omega arith)

  -- the table after the end of a turn with all seats, of which the last took in the others
  pub ended : (seats id : ℕ) (v : V) (words : List ℕ) (slots : List (Option S)) (rows : List (Row O E Q)) (got : Option S) → Final (Seen (Rule seats) id v) words slots → v.stage ≡ Idle → v.rows ≡ reverse rows → HasRows rows seats
      → get_elem? slots 0 ≡ some got → (x : S) × (got ≡ Some x) × IsWhole stands caller rows x
  ended seats id v words slots rows got (s, seen_, words_are, long, values) idle is all there =
      let has : (r : Row O E Q) → Has rows r → Has v.rows r = λ r h. subst (λ (l : List (Row O E Q)). Has l r) (sym is) (has_reverse rows r h) in
      let back : (r : Row O E Q) → Has v.rows r → Has rows r = λ r h. has_reversed rows r (subst (λ (l : List (Row O E Q)). Has l r) is h) in
      let c = closes seats id v s seen_ idle (λ m positive le. let h = all m positive le in (h.0, has h.0 h.1, h.2)) in let x : S = c.0 in let w = c.2 in
      let here : get_elem? slots 0 ≡ some (Some x) = values 0 (Some x) (ap (λ (h : Homes). get_elem? h 0) c.1) in
      (x, some-injective got (Some x) (sym there ∙ here), record { first = w.first; log = w.log; stands_for = w.stands_for; fits = λ r h. w.fits r (has r h); others = λ n no. w.others n (λ h. no (h.0, back h.0 h.1, h.2)); longest = (w.longest.0, back w.longest.0 w.longest.1, w.longest.2) })
