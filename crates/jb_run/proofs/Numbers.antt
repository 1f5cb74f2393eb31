-- The numbers of the passes that the lines of a board are on.
use Rattle.std.proofs.Common.{◌≡◌, ◌≢◌, ◌⊎◌, ℕ, ◌+◌, ◌-◌, ◌<◌, ◌≤◌, List, [], ◌∷◌, ◌++◌, get_or, length, inl, inr, refl, ap, ◌∙◌, arith}
use Rattle.std.specs.Prelude.{Option, Some, None}
use Rattle.std.proofs.Math.Nat.{eq-or-lt_of_le}
use Rattle.std.proofs.lemmas.List.{append-nil, get_or-append_right, get_or_append_left, length-append}
use Rattle.std.proofs.lemmas.List.FromFn.{get_or-map-range_with_len, length-map-range_with_len}
use Rattle.jb_conf.specs.declared.board.Board.{Board}
use Rattle.jb_server.specs.declared.service.Service.TheVariants.{News}
use Rattle.jb_run.specs.Lines.{Line, first_lines, line_for, lines_for, news_lines}

-- the number of the line at this place
abbrev pub number_at : List Line → ℕ → Line → ℕ
number_at lines k absent = (get_or lines k absent).node

-- so many nodes have so many lines
pub length-first_lines : (board : Board) (most : Option ℕ) (count : ℕ) → length (first_lines board most count) ≡ count
length-first_lines board most count = length-map-range_with_len (line_for board most) 1 count

-- there are as many lines as nodes, and that of news
pub length-lines_for : (board : Board) (most : Option ℕ) → length (lines_for board most) ≡ board.nodes + length (news_lines board.nodes board.news_port most)
length-lines_for board most =
    length-append (first_lines board most board.nodes) (news_lines board.nodes board.news_port most)
    ∙ ap (λ (n : ℕ). n + length (news_lines board.nodes board.news_port most)) (length-map-range_with_len (line_for board most) 1 board.nodes)

pub is_none : (port : Option ℕ) → ((n : ℕ) → port ≡ Some n → ⊥) → port ≡ None
is_none None other = refl
is_none (Some n) other = absurd (other n refl)

-- they are those of the nodes, where there is no port for news
pub lines_without : (board : Board) (most : Option ℕ) → board.news_port ≡ None → lines_for board most ≡ first_lines board most board.nodes
lines_without board most none =
    ap (λ (port : Option ℕ). first_lines board most board.nodes ++ news_lines board.nodes port most) none ∙ append-nil (first_lines board most board.nodes)

-- and that of news besides, where there is one
abbrev pub news_at : Board → Option ℕ → ℕ → Line
news_at board most port = record { service = News; node = board.nodes + 2; port = port; calls = most }

pub lines_with : (board : Board) (most : Option ℕ) (port : ℕ) → board.news_port ≡ Some port → lines_for board most ≡ first_lines board most board.nodes ++ news_at board most port ∷ []
lines_with board most port some = ap (λ (p : Option ℕ). first_lines board most board.nodes ++ news_lines board.nodes p most) some

news_few : (nodes : ℕ) (port most : Option ℕ) → length (news_lines nodes port most) ≤ 1
news_few nodes None most = omega arith
news_few nodes (Some port) most = omega arith

news_first : (nodes : ℕ) (port most : Option ℕ) (absent : Line) → 0 < length (news_lines nodes port most) → number_at (news_lines nodes port most) 0 absent ≡ nodes + 2
news_first nodes None most absent some = absurd (omega (arith, some))
news_first nodes (Some port) most absent some = refl

-- a node's line has its number
pub node_line : (board : Board) (most : Option ℕ) (k : ℕ) (absent : Line) → k < board.nodes → number_at (lines_for board most) k absent ≡ k + 1
node_line board most k absent low =
    let f = line_for board most in
    ap (λ (l : Line). l.node)
    (get_or_append_left (first_lines board most board.nodes) (news_lines board.nodes board.news_port most) absent k (omega (arith, low, length-map-range_with_len f 1 board.nodes))
    ∙ get_or-map-range_with_len f 1 board.nodes k (k + 1) absent low (omega arith))

-- that of news one more
news_number : (board : Board) (most : Option ℕ) (absent : Line) → board.nodes < length (lines_for board most) → number_at (lines_for board most) board.nodes absent ≡ board.nodes + 2
news_number board most absent some =
    let n : ℕ = board.nodes in
    let news : List Line = news_lines n board.news_port most in
    let none : n - n ≡ 0 = omega arith in
    ap (λ (l : Line). l.node) (get_or-append_right (first_lines board most n) news n n absent (length-map-range_with_len (line_for board most) 1 n) (omega arith))
    ∙ ap (λ (k : ℕ). number_at news k absent) none ∙ news_first n board.news_port most absent (omega (arith, some, length-lines_for board most))

-- the line at a place is that of a node, or of news
pub line_number : (board : Board) (most : Option ℕ) (k : ℕ) (absent : Line) → k < length (lines_for board most)
    → ((k < board.nodes) × (number_at (lines_for board most) k absent ≡ k + 1)) ⊎ ((k ≡ board.nodes) × (number_at (lines_for board most) k absent ≡ board.nodes + 2))
line_number board most k absent within =
    let low : k ≤ board.nodes = omega (arith, within, length-lines_for board most, news_few board.nodes board.news_port most) in
    elim (eq-or-lt_of_le low) [
      | inl is ↦ inr (is, ap (λ (j : ℕ). number_at (lines_for board most) j absent) is ∙ news_number board most absent (omega (arith, within, is)))
      | inr below ↦ inl (below, node_line board most k absent below)
    ]

-- its number is one of as many as there are lines, and one more
pub number_within : (board : Board) (most : Option ℕ) (k : ℕ) (absent : Line) → k < length (lines_for board most)
    → (0 < number_at (lines_for board most) k absent) × (number_at (lines_for board most) k absent ≤ length (lines_for board most) + 1)
number_within board most k absent within = elim (line_number board most k absent within) [
  | inl node ↦ (omega (arith, node.1), omega (arith, node.1, within))
  | inr news ↦ (omega (arith, news.1), omega (arith, news.0, news.1, within))
]

-- it is not that behind the nodes
pub number_other : (board : Board) (most : Option ℕ) (k : ℕ) (absent : Line) → k < length (lines_for board most) → number_at (lines_for board most) k absent ≢ board.nodes + 1
number_other board most k absent within = elim (line_number board most k absent within) [
  | inl node ↦ λ same. omega (arith, node.0, node.1, same)
  | inr news ↦ λ same. omega (arith, news.1, same)
]

-- nor that of an earlier line
pub number_apart : (board : Board) (most : Option ℕ) (j k : ℕ) (absent other : Line) → j < k → k < length (lines_for board most)
    → number_at (lines_for board most) j absent ≢ number_at (lines_for board most) k other
number_apart board most j k absent other before within =
    let first : number_at (lines_for board most) j absent ≡ j + 1
    = node_line board most j absent (omega (arith, before, within, length-lines_for board most, news_few board.nodes board.news_port most)) in
    elim (line_number board most k other within) [
      | inl node ↦ λ same. omega (arith, first, node.1, same, before)
      | inr news ↦ λ same. omega (arith, first, news.0, news.1, same, before)
    ]

-- each number but that behind the nodes is that of a line
pub line_with : (board : Board) (most : Option ℕ) (j : ℕ) → j < length (lines_for board most) + 1 → j ≢ board.nodes
    → (k : ℕ) × (k < length (lines_for board most)) × ((absent : Line) → number_at (lines_for board most) k absent ≡ j + 1)
line_with board most j within other =
    let few = news_few board.nodes board.news_port most in
    let count = length-lines_for board most in
    let close : j ≤ board.nodes + 1 = omega (arith, within, few, count) in
    elim (eq-or-lt_of_le close) [
      | inl is ↦ (
        board.nodes,
        omega (arith, within, is),
        λ absent. news_number board most absent (omega (arith, within, is)) ∙ omega (arith, is),
      )
      | inr below ↦ let low : j < board.nodes = omega (arith, below, other) in (
        j,
        omega (arith, low, count),
        λ absent. node_line board most j absent low,
      )
    ]
