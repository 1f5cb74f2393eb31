-- The pagers of workers: each stands at the place of its node, and of these pages there is one for each.
use Rattle.std.proofs.Common.{◌≡◌, ℕ, zero, suc, ◌+◌, ◌-◌, ◌<◌, ◌≤◌, List, [], ◌∷◌, ◌++◌, get_or, length, reverse, inl, inr, refl, sym, ap, subst, ◌∙◌, append_assoc, arith}
use Rattle.std.specs.Prelude.{All, IsSome, Option, Some, None, option_to_list, slice_get}
use Rattle.std.specs.List.{AllZip}
use Rattle.std.proofs.Math.Seq.{get_or-append_seam}
use Rattle.std.proofs.lemmas.List.{append-nil, get_or-append_right, get_or_append_left, length-append, length-reverse, reverse-append, reverse-reverse}
use Rattle.std.proofs.lemmas.List.FromFn.{get_or-map-range_with_len, length-map-range_with_len}
use Rattle.std.proofs.lemmas.Option.{none-some, same_Some, slice_get-get_or, slice_get_past}
use mathlib.Core.Option.{some}
use lib.ListN.{get_elem?}
use Rattle.jb_conf.specs.declared.board.Board.{Board}
use Rattle.jb_page.specs.Closing.{IsLowestMissing}
use Rattle.jb_page.specs.Pagers.{AreNewPagers, HasPager, IsPagerOf, PagerView, PagesView}
use Rattle.jb_server.specs.Workers.{KeepsPager}
use Rattle.jb_server.specs.declared.service.Service.{Service}
use Rattle.jb_server.specs.declared.service.Service.TheVariants as service
use Rattle.jb_server.specs.declared.worker.Worker.{Worker}
use Rattle.jb_server.specs.declared.worker.Worker.TheVariants.{News, Node, Packer}
use Rattle.jb_run.specs.Lines.{Line, first_lines, line_for, lines_for, news_lines}
use Rattle.jb_run.specs.NodePages.{ArePagersOf, pager_of}
use Rattle.jb_run.specs.Workers.{HasLine, pager_number, pagers_of, with_pagers, worker_pager}
use Rattle.jb_run.proofs.Lists.{one_of}
use Rattle.jb_run.proofs.Numbers.{length-lines_for, line_number}
use Rattle.jb_run.proofs.Zips.{zip_at, zip_long}

-- what stands at a place stands in the list
pub elem_at : {A : Type 0} (xs : List A) (k : ℕ) (d : A) → k < length xs → get_elem? xs k ≡ some (get_or xs k d)
elem_at [] k d within = absurd (omega (arith, within))
elem_at (x ∷ xs) zero d within = refl
elem_at (x ∷ xs) (suc k) d within = elem_at xs k d (omega (arith, within))

pub nobody : PagerView
nobody = record { number = 0; count = 0; queues = []; rows = [] }

-- where there is one for each node no number is missing
pub none_missing : (pages : PagesView) (pagers : List PagerView) (n : ℕ) → ArePagersOf pages pagers → IsLowestMissing pagers pages.nodes n → ⊥
none_missing pages pagers n are missing =
    let low : n - 1 < pages.nodes = omega (arith, missing.0, missing.1) in
    missing.2 (get_or pagers (n - 1) nobody) (n - 1, elem_at pagers (n - 1) nobody (omega (arith, low, are.count)))
    (omega (arith, are.numbers (n - 1) nobody low, missing.0))

-- a list without length is empty
pub none_left : {A : Type 0} (xs : List A) → length xs ≡ 0 → xs ≡ []
none_left [] none = refl
none_left (x ∷ xs) none = absurd (omega (arith, none))

same_reversed : {A : Type 0} (o : Option A) → reverse (option_to_list o) ≡ option_to_list o
same_reversed None = refl
same_reversed (Some x) = refl

module _ {R B C E : Type 0} where
  pub pagers_push : (workers : List (Worker R B C E)) (one : Worker R B C E) → pagers_of (workers ++ one ∷ []) ≡ pagers_of workers ++ option_to_list (worker_pager one)
  pagers_push [] one = append-nil (option_to_list (worker_pager one))
  pagers_push (worker ∷ workers) one =
      ap (λ (l : List PagerView). option_to_list (worker_pager worker) ++ l) (pagers_push workers one)
      ∙ sym (append_assoc (option_to_list (worker_pager worker)) (pagers_of workers) (option_to_list (worker_pager one)))

  -- the last gives its pager back
  pub pager_given : (workers : List (Worker R B C E)) (one : Worker R B C E) (pagers : List PagerView)
      → with_pagers workers (pagers ++ option_to_list (worker_pager one)) ≡ with_pagers (workers ++ one ∷ []) pagers
  pager_given workers one pagers =
      let mine : List PagerView = option_to_list (worker_pager one) in
      append_assoc pagers mine (reverse (pagers_of workers))
      ∙ ap (λ (l : List PagerView). pagers ++ l)
      (ap (λ (l : List PagerView). l ++ reverse (pagers_of workers)) (sym (same_reversed (worker_pager one)))
      ∙ sym (reverse-append (pagers_of workers) mine) ∙ ap (λ (l : List PagerView). reverse l) (sym (pagers_push workers one)))

  -- all pagers are those of these workers, where none waits
  pub pagers_all : (workers : List (Worker R B C E)) (waiting all : List PagerView) → waiting ≡ [] → with_pagers workers waiting ≡ all → reverse all ≡ pagers_of workers
  pagers_all workers waiting all none same =
      ap (λ (l : List PagerView). reverse l) (sym same ∙ ap (λ (l : List PagerView). with_pagers workers l) none) ∙ reverse-reverse (pagers_of workers)

  -- where all have room so has its own
  pub pager_fits : (workers : List (Worker R B C E)) (one : Worker R B C E) (pagers : List PagerView)
      → length pagers + length (option_to_list (worker_pager one)) ≤ length (with_pagers (workers ++ one ∷ []) pagers)
  pager_fits workers one pagers =
      let mine : List PagerView = option_to_list (worker_pager one) in
      omega (
        arith,
        ap length (pager_given workers one pagers),
        length-append (pagers ++ mine) (reverse (pagers_of workers)),
        length-append pagers mine,
      )

  -- the last of the new pagers that wait is that of the next node
  pub record IsNext (workers : List (Worker R B C E)) (waiting rest : List PagerView) (taken : Option PagerView) : Type 0 where
    pub number : pager_number taken ≡ Some (length workers + 1)
    pub fewer : length rest + 1 ≡ length waiting

  pub next_pager : (nodes : ℕ) (workers : List (Worker R B C E)) (waiting rest : List PagerView) (taken : Option PagerView) (all : List PagerView) → AreNewPagers nodes (reverse all)
      → with_pagers workers waiting ≡ all → waiting ≡ rest ++ option_to_list taken → length waiting + length workers ≡ nodes → 0 < length waiting → IsSome taken
      → IsNext workers waiting rest taken
  next_pager nodes workers waiting rest None all new same is count low has = absurd (let no : ⊥ = cc in no)
  next_pager nodes workers waiting rest (Some one) all new same is count low has =
      let theirs : List PagerView = pagers_of workers in
      let whole : reverse all ≡ theirs ++ one ∷ reverse rest
      = ap (λ (l : List PagerView). reverse l) (sym same ∙ ap (λ (l : List PagerView). l ++ reverse theirs) is) ∙ reverse-append (rest ++ one ∷ []) (reverse theirs)
      ∙ ap (λ (l : List PagerView). l ++ reverse (rest ++ one ∷ [])) (reverse-reverse theirs) ∙ ap (λ (l : List PagerView). theirs ++ l) (reverse-append rest (one ∷ [])) in
      let fewer : length rest + 1 ≡ length waiting = sym (ap length is ∙ length-append rest (one ∷ [])) in
      let many : length theirs ≡ length workers
      = omega (arith, new.count, length-reverse all, ap length same, length-append waiting (reverse theirs), length-reverse theirs, count) in
      let first : get_or (reverse all) (length workers) one ≡ one
      = ap (λ (l : List PagerView). get_or l (length workers) one) whole ∙ ap (λ (n : ℕ). get_or (theirs ++ one ∷ reverse rest) n one) (sym many)
      ∙ get_or-append_seam theirs one (reverse rest) one in
      record {
        number = ap (λ (n : ℕ). Some n)
            (ap (λ (p : PagerView). p.number) (sym first) ∙ (new.each (length workers) one (omega (arith, count, low))).number_is);
        fewer = fewer;
      }

  -- the first so many have pagers, and the others none
  abbrev ArePaged : ℕ → List (Worker R B C E) → Type 0
  ArePaged n workers = (k : ℕ) (absent : Worker R B C E) → k < length workers
      → (k < n → (pager : PagerView) × (worker_pager (get_or workers k absent) ≡ Some pager)) × (n ≤ k → worker_pager (get_or workers k absent) ≡ None)

  rest_paged : (n : ℕ) (worker : Worker R B C E) (workers : List (Worker R B C E)) → ArePaged (suc n) (worker ∷ workers) → ArePaged n workers
  rest_paged n worker workers paged k absent within =
      let both = paged (suc k) absent (omega (arith, within)) in
      (λ low. both.0 (omega (arith, low)), λ high. both.1 (omega (arith, high)))

  no_pagers : (workers : List (Worker R B C E)) → ArePaged 0 workers → pagers_of workers ≡ []
  no_pagers [] paged = refl
  no_pagers (worker ∷ workers) paged =
      ap (λ (o : Option PagerView). option_to_list o ++ pagers_of workers) ((paged 0 worker (omega arith)).1 (omega arith))
      ∙ no_pagers workers (λ k absent within. (λ low. absurd (omega (arith, low)), λ high. (paged (suc k) absent (omega (arith, within))).1 (omega arith)))

  many_pagers : (n : ℕ) (workers : List (Worker R B C E)) → ArePaged n workers → n ≤ length workers → length (pagers_of workers) ≡ n
  many_pagers zero workers paged few = ap length (no_pagers workers paged)
  many_pagers (suc n) [] paged few = absurd (omega (arith, few))
  many_pagers (suc n) (worker ∷ workers) paged few =
      ap (λ (o : Option PagerView). length (option_to_list o ++ pagers_of workers)) ((paged 0 worker (omega arith)).0 (omega arith)).1
      ∙ omega (arith, many_pagers n workers (rest_paged n worker workers paged) (omega (arith, few)))

  pager_found : (n : ℕ) (workers : List (Worker R B C E)) (k : ℕ) (absent : Worker R B C E) → ArePaged n workers → k < length workers
      → slice_get (pagers_of workers) k ≡ worker_pager (get_or workers k absent)
  pager_found zero workers k absent paged within = ap (λ (l : List PagerView). slice_get l k) (no_pagers workers paged) ∙ sym ((paged k absent within).1 (omega arith))
  pager_found (suc n) [] k absent paged within = absurd (omega (arith, within))
  pager_found (suc n) (worker ∷ workers) zero absent paged within =
      let one = (paged 0 absent within).0 (omega arith) in
      ap (λ (o : Option PagerView). slice_get (option_to_list o ++ pagers_of workers) 0) one.1 ∙ sym one.1
  pager_found (suc n) (worker ∷ workers) (suc k) absent paged within =
      ap (λ (o : Option PagerView). slice_get (option_to_list o ++ pagers_of workers) (suc k)) ((paged 0 worker (omega arith)).0 (omega arith)).1
      ∙ pager_found n workers k absent (rest_paged n worker workers paged) (omega (arith, within))

-- the number of the pager of who serves there so
abbrev pager_for : Service → ℕ → Option ℕ
pager_for service.Menus node = Some node
pager_for service.News node = None

abbrev line_pager : Line → Option ℕ
line_pager line = pager_for line.service line.node

-- a pager that is kept has its number still
pub number_kept : (old new : Option PagerView) → KeepsPager old new → pager_number new ≡ pager_number old
number_kept None None kept = refl
number_kept None (Some new) kept = absurd kept
number_kept (Some old) None kept = absurd kept
number_kept (Some old) (Some new) kept = ap (λ (n : ℕ). Some n) kept.0

has_number : (pager : Option PagerView) (n : ℕ) → pager_number pager ≡ Some n → (one : PagerView) × (pager ≡ Some one) × (one.number ≡ n)
has_number None n is = absurd (none-some n is)
has_number (Some one) n is = (one, refl, same_Some one.number n is)

has_none : (pager : Option PagerView) → pager_number pager ≡ None → pager ≡ None
has_none None is = refl
has_none (Some one) is = absurd (none-some one.number (sym is))

module _ {R B C E : Type 0} where
  of_pager : (line : Line) (worker : Worker R B C E) → HasLine line worker → pager_number (worker_pager worker) ≡ line_pager line
  of_pager line (Node slot) is = is.2 ∙ sym (ap (λ (s : Service). pager_for s line.node) is.0)
  of_pager line (Packer slot) is = absurd is
  of_pager line (News slot) is = is.2 ∙ sym (ap (λ (s : Service). pager_for s line.node) is.0)

  module _ (board : Board) (most : Option ℕ) (workers : List (Worker R B C E)) (each : AllZip HasLine (lines_for board most) workers) where
    at_line : (k : ℕ) (absent : Worker R B C E) (none : Line) → k < length workers → pager_number (worker_pager (get_or workers k absent)) ≡ line_pager (get_or (lines_for board most) k none)
    at_line k absent none within =
        of_pager (get_or (lines_for board most) k none) (get_or workers k absent)
        (zip_at HasLine (lines_for board most) workers k none absent each (omega (arith, within, zip_long HasLine (lines_for board most) workers each)))

    -- who serves the node at a place has the pager of its number
    node_pager : (k : ℕ) (absent : Worker R B C E) → k < board.nodes → k < length workers → pager_number (worker_pager (get_or workers k absent)) ≡ Some (k + 1)
    node_pager k absent low within =
        let f = line_for board most in
        at_line k absent (f 0) within
        ∙ ap line_pager
        (get_or_append_left (first_lines board most board.nodes) (news_lines board.nodes board.news_port most) (f 0) k (omega (arith, low, length-map-range_with_len f 1 board.nodes))
        ∙ get_or-map-range_with_len f 1 board.nodes k (k + 1) (f 0) low (omega arith))

    -- and who serves news none
    news_pager : (k : ℕ) (absent : Worker R B C E) → board.nodes ≤ k → k < length workers → pager_number (worker_pager (get_or workers k absent)) ≡ None
    news_pager k absent high within =
        let f = line_for board most in
        let n : ℕ = board.nodes in
        at_line k absent (f 0) within
        ∙ ap line_pager (get_or-append_right (first_lines board most n) (news_lines n board.news_port most) n k (f 0) (length-map-range_with_len f 1 n) high)
        ∙ no_pager board.news_port (k - n)
        (omega (arith, high, within, length-lines_for board most, zip_long HasLine (lines_for board most) workers each))
      where
        no_pager : (port : Option ℕ) (j : ℕ) → j < length (news_lines board.nodes port most) → line_pager (get_or (news_lines board.nodes port most) j (line_for board most 0)) ≡ None
        no_pager None j low = absurd (omega (arith, low))
        no_pager (Some port) zero low = refl
        no_pager (Some port) (suc j) low = absurd (omega (arith, low))

    are_paged : ArePaged board.nodes workers
    are_paged k absent within = (
      λ low. let one = has_number (worker_pager (get_or workers k absent)) (k + 1) (node_pager k absent low within) in (one.0, one.1),
      λ high. has_none (worker_pager (get_or workers k absent)) (news_pager k absent high within),
    )

    few_nodes : board.nodes ≤ length workers
    few_nodes = omega (arith, length-lines_for board most, zip_long HasLine (lines_for board most) workers each)

    -- there is one for each node
    pub count_pagers : length (pagers_of workers) ≡ board.nodes
    count_pagers = many_pagers board.nodes workers are_paged few_nodes

    -- the pager of a line is that of who serves it
    pub pager_is : (k : ℕ) (none : Line) (absent : Worker R B C E) → k < length workers → pager_of (pagers_of workers) (get_or (lines_for board most) k none) ≡ worker_pager (get_or workers k absent)
    pager_is k none absent within =
        let lines : List Line = lines_for board most in
        let pagers : List PagerView = pagers_of workers in
        let at : ℕ = (get_or lines k none).node in
        elim (line_number board most k none (omega (arith, within, zip_long HasLine lines workers each))) [
          | inl node ↦ ap (slice_get pagers) (let here : at - 1 ≡ k = omega (arith, node.1) in here) ∙ pager_found board.nodes workers k absent are_paged within
          | inr news ↦ slice_get_past pagers (at - 1) (omega (arith, news.1, count_pagers)) ∙ sym ((are_paged k absent within).1 (omega (arith, news.0)))
        ]

    -- that at a place is that of a worker
    pager_at : (k : ℕ) (absent : Worker R B C E) (none : PagerView) → k < board.nodes → worker_pager (get_or workers k absent) ≡ Some (get_or (pagers_of workers) k none)
    pager_at k absent none low =
        sym (pager_found board.nodes workers k absent are_paged (omega (arith, low, few_nodes))) ∙ slice_get-get_or (pagers_of workers) k none (omega (arith, low, count_pagers))

    -- what holds of all holds of each, and what holds of each of all
    pub each_pager : (P : PagerView → Type 0) → All P (pagers_of workers) → (k : ℕ) (absent : Worker R B C E) (one : PagerView) → k < length workers
        → worker_pager (get_or workers k absent) ≡ Some one → P one
    each_pager P all k absent one within is =
        let within_pagers : k < board.nodes = below k absent one within is in
        subst P (same_Some _ _ (sym (pager_at k absent one within_pagers) ∙ is)) (all k one (omega (arith, within_pagers, count_pagers)))
      where
        below : (k : ℕ) (absent : Worker R B C E) (one : PagerView) → k < length workers → worker_pager (get_or workers k absent) ≡ Some one → k < board.nodes
        below k absent one within is = elim (line_number board most k (line_for board most 0) (omega (arith, within, zip_long HasLine (lines_for board most) workers each))) [
          | inl node ↦ node.0
          | inr news ↦ absurd (none-some one (sym ((are_paged k absent within).1 (omega (arith, news.0))) ∙ is))
        ]

    -- where each is one of these pages, they are a pager of them for each node
    pub are_pagers : (pages : PagesView) → pages.nodes ≡ board.nodes
        → ((k : ℕ) (absent : Worker R B C E) (one : PagerView) → k < length workers → worker_pager (get_or workers k absent) ≡ Some one → IsPagerOf pages one) → ArePagersOf pages (pagers_of workers)
    are_pagers pages between of = record {
      count = count_pagers ∙ sym between;
      of = λ k none low.
          let within : k < board.nodes = omega (arith, low, count_pagers) in
          let far : k < length workers = omega (arith, within, few_nodes) in
          let absent = one_of workers k far in
          of k absent (get_or (pagers_of workers) k none) far (pager_at k absent none within);
      numbers = λ k none low.
          let within : k < board.nodes = omega (arith, low, between) in
          let far : k < length workers = omega (arith, within, few_nodes) in
          let absent = one_of workers k far in
          same_Some _ _ (ap pager_number (sym (pager_at k absent none within)) ∙ node_pager k absent within far);
    }

-- the pager of node 1 is taken
pub record IsFirst (pages : PagesView) (all rest : List PagerView) (taken : Option PagerView) : Type 0 where
  pub pager : PagerView
  pub is : taken ≡ Some pager
  pub of : IsPagerOf pages pager
  pub number : pager.number ≡ 1
  pub parts : reverse all ≡ pager ∷ reverse rest

pub first_taken : (pages : PagesView) (all rest : List PagerView) (taken : Option PagerView) → ArePagersOf pages (reverse all) → 0 < pages.nodes → all ≡ rest ++ option_to_list taken → IsSome taken
    → IsFirst pages all rest taken
first_taken pages all rest None are low is has = absurd (let no : ⊥ = cc in no)
first_taken pages all rest (Some one) are low is has =
    let parts : reverse all ≡ one ∷ reverse rest = ap (λ (l : List PagerView). reverse l) is ∙ reverse-append rest (one ∷ []) in
    let first : get_or (reverse all) 0 one ≡ one = ap (λ (l : List PagerView). get_or l 0 one) parts in
    record {
      pager = one;
      is = refl;
      of = subst (IsPagerOf pages) first (are.of 0 one (omega (arith, low, are.count)));
      number = ap (λ (p : PagerView). p.number) (sym first) ∙ are.numbers 0 one low;
      parts = parts;
    }

-- and it is put back
pub record IsBack (pages : PagesView) (all rest : List PagerView) (back : Option PagerView) : Type 0 where
  pub pager : PagerView
  pub is : back ≡ Some pager
  pub parts : reverse all ≡ pager ∷ reverse rest
  pub are : ArePagersOf pages (reverse all)

pub first_back : (pages : PagesView) (before : PagerView) (all rest : List PagerView) (back : Option PagerView) (nodes : ℕ) → ArePagersOf pages (before ∷ reverse rest) → 0 < nodes
    → HasPager pages nodes back → pager_number back ≡ Some 1 → all ≡ rest ++ option_to_list back → IsBack pages all rest back
first_back pages before all rest None nodes are low has number is = absurd (omega (arith, low, has))
first_back pages before all rest (Some one) nodes are low has number is =
    let parts : reverse all ≡ one ∷ reverse rest = ap (λ (l : List PagerView). reverse l) is ∙ reverse-append rest (one ∷ []) in
    record {
      pager = one;
      is = refl;
      parts = parts;
      are = subst (ArePagersOf pages) (sym parts) (record { count = are.count; of = of; numbers = numbers });
    }
  where
    of : All (IsPagerOf pages) (one ∷ reverse rest)
    of zero none within = has.0
    of (suc k) none within = are.of (suc k) none within

    numbers : (i : ℕ) (none : PagerView) → i < pages.nodes → (get_or (one ∷ reverse rest) i none).number ≡ i + 1
    numbers zero none within = same_Some one.number 1 number
    numbers (suc i) none within = are.numbers (suc i) none within
