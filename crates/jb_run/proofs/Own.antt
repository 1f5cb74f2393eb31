-- The passes of workers: taken one after another, given back, and found at their places meanwhile.
use Rattle.std.specs.declared.alloc.Global.{Global}
use Rattle.std.proofs.Common.{Vec, ◌≡◌, ◌≢◌, ◌⊎◌, inl, inr, ℕ, zero, suc, ◌+◌, ◌-◌, ◌<◌, ◌≤◌, List, [], ◌∷◌, ◌++◌, get_or, length, set, refl, sym, ap, subst, ◌∙◌, arith}
use Rattle.std.specs.Prelude.{All, Option}
use Rattle.std.specs.List.{AllZip}
use Rattle.std.proofs.lemmas.List.{append-nil, get_or-map, get_or-set_other, get_or-set_same, get_or_append_left, get_or_push, length-append, length-map, length-set, length_push, map-set, set-get_or}
use Rattle.std.proofs.lemmas.List.Elements.{All-push}
use Rattle.std.proofs.lemmas.List.Quantifiers.{all_pairs_push}
use Rattle.jb_conf.specs.declared.board.Board.{Board}
use Rattle.jb_host.specs.Gate.{Gate}
use Rattle.jb_server.specs.declared.worker.NodeSlot.{NodeSlot}
use Rattle.jb_server.specs.declared.worker.PackSlot.{PackSlot}
use Rattle.jb_server.specs.declared.worker.Worker.{Worker}
use Rattle.jb_server.specs.declared.worker.Worker.TheVariants.{News, Node, Packer}
use Rattle.jb_shared.specs.Passes.{PassView}
use Rattle.jb_run.specs.Lines.{Line, lines_for, nodes_of}
use Rattle.jb_run.specs.Rows.{lists_of}
use Rattle.jb_run.specs.Workers.{HasDoor, HasLine, HaveOwn, Rows, gate_of, number_of, numbers_of, tally_of, with_passes, worker_pager, worker_passes}
use Rattle.jb_run.proofs.EachLemmas.{all_most}
use Rattle.jb_run.proofs.Lists.{one_of}
use Rattle.jb_run.proofs.Numbers.{length-lines_for, number_apart, number_at, number_other, number_within}
use Rattle.jb_run.proofs.Zips.{zip_all, zip_at, zip_long, zip_map}

-- what is set twice is as it was set last
set_twice : {A : Type 0} (xs : List A) (k : ℕ) (x y : A) → set (set xs k x) k y ≡ set xs k y
set_twice [] k x y = refl
set_twice (z ∷ xs) zero x y = refl
set_twice {A} (z ∷ xs) (suc k) x y = ap (λ (l : List A). z ∷ l) (set_twice xs k x y)

module _ {R B C E : Type 0} where
  -- the passes of the last are set first
  with_push : (workers : List (Worker R B C E)) (one : Worker R B C E) (rows : Rows)
      → with_passes (workers ++ one ∷ []) rows ≡ with_passes workers (set rows (number_of one - 1) (worker_passes one))
  with_push [] one rows = refl
  with_push (worker ∷ workers) one rows = ap (λ (l : Rows). set l (number_of worker - 1) (worker_passes worker)) (with_push workers one rows)

  -- one takes its passes
  pub rows_taken : (workers : List (Worker R B C E)) (one : Worker R B C E) (k : ℕ) (rows left : Rows) → number_of one - 1 ≡ k → worker_passes one ≡ get_or rows k [] → left ≡ set rows k []
      → with_passes (workers ++ one ∷ []) left ≡ with_passes workers rows
  rows_taken workers one k rows left place taken is =
      with_push workers one left
      ∙ ap (λ (l : Rows). with_passes workers l)
      (ap (λ (j : ℕ). set left j (worker_passes one)) place ∙ ap (λ (l : Rows). set l k (worker_passes one)) is ∙ set_twice rows k [] (worker_passes one)
      ∙ ap (set rows k) taken ∙ set-get_or rows k [])

  -- the last gives its passes back
  pub rows_given : (more fewer : List (Worker R B C E)) (one : Worker R B C E) (vectors : List (Vec PassView Global)) (passes : Vec PassView Global) (k : ℕ) → more ≡ fewer ++ one ∷ []
      → k ≡ number_of one - 1 → passes.items ≡ worker_passes one → with_passes fewer (lists_of (set vectors k passes)) ≡ with_passes more (lists_of vectors)
  rows_given more fewer one vectors passes k is place same =
      ap (λ (l : Rows). with_passes fewer l)
      (map-set (λ (v : Vec PassView Global). v.items) vectors k passes ∙ ap (λ (n : ℕ). set (lists_of vectors) n passes.items) place
      ∙ ap (set (lists_of vectors) (number_of one - 1)) same)
      ∙ sym (with_push fewer one (lists_of vectors)) ∙ ap (λ (l : List (Worker R B C E)). with_passes l (lists_of vectors)) (sym is)

  -- there are as many rows
  pub length-with_passes : (workers : List (Worker R B C E)) (rows : Rows) → length (with_passes workers rows) ≡ length rows
  length-with_passes [] rows = refl
  length-with_passes (worker ∷ workers) rows =
      length-set (with_passes workers rows) (number_of worker - 1) (worker_passes worker) ∙ length-with_passes workers rows

  -- all but the first have passes of their own
  own_rest : (count : ℕ) (worker : Worker R B C E) (workers : List (Worker R B C E)) → HaveOwn count (worker ∷ workers) → HaveOwn count workers
  own_rest count worker workers own = record {
    within = λ k absent low. own.within (suc k) absent (omega (arith, low));
    apart = λ j k absent before low. own.apart (suc j) (suc k) absent (omega (arith, before)) (omega (arith, low));
  }

  -- the passes of each stand at their place
  pub row_is : (workers : List (Worker R B C E)) (rows : Rows) (k : ℕ) (absent : Worker R B C E) → HaveOwn (length rows) workers → k < length workers
      → get_or (with_passes workers rows) (number_of (get_or workers k absent) - 1) [] ≡ worker_passes (get_or workers k absent)
  row_is [] rows k absent own low = absurd (omega (arith, low))
  row_is (worker ∷ workers) rows zero absent own low =
      let in_range = own.within 0 absent low in
      get_or-set_same (with_passes workers rows) (number_of worker - 1) (worker_passes worker) [] (omega (arith, in_range.0, in_range.1, length-with_passes workers rows))
  row_is (worker ∷ workers) rows (suc k) absent own low =
      let other : Worker R B C E = get_or workers k absent in
      let apart : number_of worker ≢ number_of other = own.apart 0 (suc k) absent (omega arith) low in
      let mine = own.within 0 absent (omega arith) in
      let its = own.within (suc k) absent low in
      get_or-set_other (with_passes workers rows) (number_of worker - 1) (number_of other - 1) (worker_passes worker) []
      (λ same. apart (let is : number_of worker ≡ number_of other = omega (arith, same, mine.0, its.0) in is))
      ∙ row_is workers rows k absent (own_rest (length rows) worker workers own) (omega (arith, low))

  -- all but the last have passes of their own
  pub own_most : (count : ℕ) (workers : List (Worker R B C E)) (one : Worker R B C E) → HaveOwn count (workers ++ one ∷ []) → HaveOwn count workers
  own_most count workers one own =
      let at : (k : ℕ) (absent : Worker R B C E) → k < length workers → get_or (workers ++ one ∷ []) k absent ≡ get_or workers k absent
      = λ k absent low. get_or_append_left workers (one ∷ []) absent k low in
      record {
        within = all_most (λ (w : Worker R B C E). (0 < number_of w) × (number_of w ≤ count)) workers one own.within;
        apart = λ j k absent before low.
            let P : Worker R B C E → Worker R B C E → Type 0 = λ x y. number_of x ≢ number_of y in
            subst (λ (x : Worker R B C E). P x (get_or workers k absent)) (at j absent (omega (arith, before, low)))
            (subst (λ (y : Worker R B C E). P (get_or (workers ++ one ∷ []) j absent) y) (at k absent low)
            (own.apart j k absent before (omega (arith, low, length_push workers one))));
      }

  -- and the last none of theirs
  pub own_last : (count : ℕ) (workers : List (Worker R B C E)) (one : Worker R B C E) → HaveOwn count (workers ++ one ∷ []) → All (λ other. other ≢ number_of one) (numbers_of workers)
  own_last count workers one own k absent low =
      let within : k < length workers = omega (arith, low, length-map workers number_of) in
      let P : Worker R B C E → Worker R B C E → Type 0 = λ x y. number_of x ≢ number_of y in
      let differs : P (get_or workers k one) one
      = subst (λ (x : Worker R B C E). P x one) (get_or_append_left workers (one ∷ []) one k within)
      (subst (λ (y : Worker R B C E). P (get_or (workers ++ one ∷ []) k one) y) (get_or_push workers one one (length workers) refl)
      (own.apart k (length workers) one within (omega (arith, length_push workers one)))) in
      subst (λ (n : ℕ). n ≢ number_of one) (sym (get_or-map number_of workers k one absent within)) differs

  -- one more has passes of its own
  own_more : (count : ℕ) (workers : List (Worker R B C E)) (one : Worker R B C E) → HaveOwn count workers → 0 < number_of one → number_of one ≤ count
      → ((k : ℕ) (absent : Worker R B C E) → k < length workers → number_of (get_or workers k absent) ≢ number_of one) → HaveOwn count (workers ++ one ∷ [])
  own_more count workers one own some few differs = record {
    within = All-push (λ (w : Worker R B C E). (0 < number_of w) × (number_of w ≤ count)) workers one own.within (some, few);
    apart = all_pairs_push (λ (x y : Worker R B C E). number_of x ≢ number_of y) workers one own.apart differs;
  }

  -- it works with this
  pub record HasSlot (worker : Worker R B C E) (slot : NodeSlot R C) : Type 0 where
    pub number : slot.node ≡ number_of worker
    pub passes : slot.passes.items ≡ worker_passes worker
    pub pager : slot.pager ≡ worker_pager worker
    pub tally : slot.tally ≡ tally_of worker
    pub door : (gate : R → Gate) → gate slot.door ≡ gate_of gate worker

  pub has_slot : (worker : Worker R B C E) (slot : NodeSlot R C) → (worker ≡ Node slot) ⊎ (worker ≡ News slot) → HasSlot worker slot
  has_slot worker slot (inl is) = subst (λ (w : Worker R B C E). HasSlot w slot) (sym is) (record { number = refl; passes = refl; pager = refl; tally = refl; door = λ gate. refl })
  has_slot worker slot (inr is) = subst (λ (w : Worker R B C E). HasSlot w slot) (sym is) (record { number = refl; passes = refl; pager = refl; tally = refl; door = λ gate. refl })

  -- who serves a line is on its passes, and has a door
  pub of_line : (line : Line) (worker : Worker R B C E) → HasLine line worker → number_of worker ≡ line.node
  of_line line (Node slot) is = is.1
  of_line line (Packer slot) is = absurd is
  of_line line (News slot) is = is.1

  pub has_door : (line : Line) (worker : Worker R B C E) → HasLine line worker → HasDoor worker
  has_door line (Node slot) is = tt
  has_door line (Packer slot) is = absurd is
  has_door line (News slot) is = tt

  -- those who serve lines are on the passes of these, and have doors
  pub numbers_are : (lines : List Line) (workers : List (Worker R B C E)) → AllZip HasLine lines workers → numbers_of workers ≡ nodes_of lines
  numbers_are lines workers each = zip_map HasLine (λ line. line.node) number_of of_line lines workers each

  pub have_doors : (lines : List Line) (workers : List (Worker R B C E)) → AllZip HasLine lines workers → All HasDoor workers
  have_doors lines workers each = zip_all HasLine HasDoor has_door lines workers each

  module _ (board : Board) (most : Option ℕ) (done left : List Line) (parts : lines_for board most ≡ done ++ left) (workers : List (Worker R B C E)) (each : AllZip HasLine done workers) where
    first_within : (k : ℕ) → k < length workers → k < length (lines_for board most)
    first_within k low = omega (arith, low, zip_long HasLine done workers each, ap length parts, length-append done left)

    -- the number of one of them
    pub number_is : (k : ℕ) (absent : Worker R B C E) (none : Line) → k < length workers → number_of (get_or workers k absent) ≡ number_at (lines_for board most) k none
    number_is k absent none low =
        let within : k < length done = omega (arith, low, zip_long HasLine done workers each) in
        of_line (get_or done k none) (get_or workers k absent) (zip_at HasLine done workers k none absent each within)
        ∙ sym (ap (λ (l : Line). l.node) (ap (λ (l : List Line). get_or l k none) parts ∙ get_or_append_left done left none k within))

    -- those who serve the first lines have passes of their own
    pub own_lines : (count : ℕ) → length (lines_for board most) < count → HaveOwn count workers
    own_lines count room = record {
      within = λ k absent low.
          let none : Line = one_of (lines_for board most) k (first_within k low) in
          let number = number_is k absent none low in
          let in_range = number_within board most k none (first_within k low) in
          (omega (arith, number, in_range.0), omega (arith, number, in_range.1, room));
      apart = λ j k absent before low.
          let none : Line = one_of (lines_for board most) k (first_within k low) in
          let apart = number_apart board most j k none none before (first_within k low) in
          λ same. apart (sym (number_is j absent none (omega (arith, before, low))) ∙ same ∙ number_is k absent none low);
    }

    -- and the packer behind them, too
    pub own_crew : (count : ℕ) (packer : Worker R B C E) → length (lines_for board most) < count → board.nodes < count → number_of packer ≡ board.nodes + 1
        → HaveOwn count (workers ++ packer ∷ [])
    own_crew count packer room within number =
        own_more count workers packer (own_lines count room) (omega (arith, number)) (omega (arith, number, within))
        (λ k absent low same.
        let none : Line = one_of (lines_for board most) k (first_within k low) in
        number_other board most k none (first_within k low) (sym (number_is k absent none low) ∙ same ∙ number))

-- those who serve all lines and the packer have passes of their own, where there are as many
pub crew_own : {R B C E : Type 0} (board : Board) (most : Option ℕ) (workers : List (Worker R B C E)) (slot : PackSlot B C E) (count : ℕ) → AllZip HasLine (lines_for board most) workers
    → count ≡ length (lines_for board most) + 1 → slot.node ≡ board.nodes + 1 → HaveOwn count (workers ++ Packer slot ∷ [])
crew_own board most workers slot count each many number =
    own_crew board most (lines_for board most) [] (sym (append-nil (lines_for board most))) workers each count (Packer slot) (omega (arith, many))
    (omega (arith, many, length-lines_for board most)) number
