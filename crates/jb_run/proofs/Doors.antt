-- The doors of lines, as one more is handed out behind the others, and as the last is put back before the others.
use Rattle.std.proofs.Common.{◌≡◌, ◌≢◌, ℕ, zero, suc, ◌+◌, ◌<◌, ◌==◌, ◌||◌, Bool, true, false, List, [], ◌∷◌, ◌++◌, drop, get_or, length, All, refl, sym, ap, subst, ◌∙◌, append_assoc, arith}
use Rattle.std.specs.Prelude.{Option, Some, None, if◌then◌else◌, slice_index_or}
use Rattle.std.specs.Option.{ForSome, option_map}
use Rattle.std.proofs.lemmas.Bool.Decides.{nat_tests}
use Rattle.std.proofs.lemmas.List.{append-nil, drop_more, length_push, map_push, take-append-drop}
use Rattle.std.proofs.lemmas.List.FromFn.{get_or-map-range_with_len, length-map-range_with_len, map-range_with_len_more, take-map-range_with_len}
use Rattle.std.proofs.lemmas.List.Sums.{sum_by_push}
use Rattle.jb_conf.specs.declared.board.Board.{Board}
use Rattle.jb_host.proofs.Callers.{keeps_more_doors, keeps_none}
use Rattle.jb_host.specs.Desk.{CountsFailed, Desk, Doors, Entrance, GivesDoor, HostCall, TakesDoor, and_call, door_out, has_door, with_door}
use Rattle.jb_host.specs.Gate.{Gate}
use Rattle.jb_run.specs.Lines.{DoorsAreOut, HandsDoors, Line, PutsDoors, asked_doors, asked_line, door_faults, first_lines, line_for, lines_for, news_lines, nodes_of, with_doors, with_doors_out}
use Rattle.jb_run.proofs.DeskLemmas.{map-map, map-same, told-map}
use Rattle.jb_run.proofs.EachLemmas.{all_end, all_most}
use Rattle.jb_run.proofs.Places.{neither, not_chosen, not_first, not_second, same_choice}
use Rattle.jb_run.proofs.Counting.{counts_more, counts_none}

-- the door of the node itself, and that of another
door_itself : (node : ℕ) (is : Entrance) (doors : Doors) → with_door node is doors node ≡ is
door_itself node is doors = by (node == node) (grind (arith, nat_tests))
  where
    by : (b : Bool) → b ≡ true → (if b then is else doors node) ≡ is
    by true same = refl
    by false same = absurd (let no : ⊥ = cc in no)

door_other : (node other : ℕ) (is : Entrance) (doors : Doors) → other ≢ node → with_door node is doors other ≡ doors other
door_other node other is doors differs = by (other == node) (grind (arith, nat_tests))
  where
    by : (b : Bool) → b ≡ false → (if b then is else doors other) ≡ doors other
    by true same = absurd (let no : ⊥ = cc in no)
    by false same = refl

gates_then : (gates : List Gate) (gate : Gate) (waiting : Option (List Gate))
    → option_map (λ rest. gates ++ rest) (option_map (λ rest. gate ∷ rest) waiting) ≡ option_map (λ rest. (gates ++ gate ∷ []) ++ rest) waiting
gates_then gates gate None = refl
gates_then gates gate (Some rest) = ap (λ (all : List Gate). Some all) (sym (append_assoc gates (gate ∷ []) rest))

pub calls_then : (asked more : List HostCall) (call : HostCall) (calls : Option (List HostCall)) → more ≡ asked ++ call ∷ []
    → and_call call (option_map (λ earlier. earlier ++ asked) calls) ≡ option_map (λ earlier. earlier ++ more) calls
calls_then asked more call None is = refl
calls_then asked more call (Some earlier) is =
    ap (λ (all : List HostCall). Some all) (append_assoc earlier asked (call ∷ []) ∙ ap (λ (all : List HostCall). earlier ++ all) (sym is))

pub calls_behind : (first more : List HostCall) (calls : Option (List HostCall))
    → option_map (λ earlier. earlier ++ more) (option_map (λ earlier. earlier ++ first) calls) ≡ option_map (λ earlier. earlier ++ (first ++ more)) calls
calls_behind first more None = refl
calls_behind first more (Some earlier) = ap (λ (all : List HostCall). Some all) (append_assoc earlier first more)

none_first : (waiting : Option (List Gate)) → waiting ≡ option_map (λ rest. [] ++ rest) waiting
none_first None = refl
none_first (Some rest) = refl

pub no_call : (calls : Option (List HostCall)) → calls ≡ option_map (λ earlier. earlier ++ []) calls
no_call None = refl
no_call (Some earlier) = ap (λ (all : List HostCall). Some all) (sym (append-nil earlier))

-- one node more
pub lines_more : (board : Board) (most : Option ℕ) (count : ℕ) → first_lines board most (count + 1) ≡ first_lines board most count ++ line_for board most (count + 1) ∷ []
lines_more board most count = map-range_with_len_more (line_for board most) 1 count (count + 1) (omega arith)

-- the node is one of these
abbrev is_one_of : List ℕ → ℕ → Bool
is_one_of [] other = false
is_one_of (node ∷ nodes) other = (other == node) || is_one_of nodes other

-- the last door is handed out last
out-push : (nodes : List ℕ) (node : ℕ) (doors : Doors) → with_doors_out (nodes ++ node ∷ []) doors ≡ with_door node door_out (with_doors_out nodes doors)
out-push [] node doors = refl
out-push (first ∷ nodes) node doors = out-push nodes node (with_door first door_out doors)

-- and put back first
with_doors-push : (nodes : List ℕ) (node : ℕ) (gates : List Gate) (gate : Gate) (doors : Doors) → length gates ≡ length nodes
    → with_doors (nodes ++ node ∷ []) (gates ++ gate ∷ []) doors ≡ with_doors nodes gates (with_door node (has_door gate) doors)
with_doors-push [] node [] gate doors count = refl
with_doors-push [] node (other ∷ gates) gate doors count = absurd (omega (arith, count))
with_doors-push (first ∷ nodes) node [] gate doors count = absurd (omega (arith, count))
with_doors-push (first ∷ nodes) node (other ∷ gates) gate doors count =
    ap (λ (d : Doors). with_door first (has_door other) d) (with_doors-push nodes node gates gate doors (omega (arith, count)))

-- a door that is out stays out
stays_out : (nodes : List ℕ) (doors : Doors) (other : ℕ) → doors other ≡ door_out → with_doors_out nodes doors other ≡ door_out
stays_out [] doors other out = out
stays_out (node ∷ nodes) doors other out = stays_out nodes (with_door node door_out doors) other (by (other == node))
  where
    by : (b : Bool) → (if b then door_out else doors other) ≡ door_out
    by true = refl
    by false = out

-- the doors of the nodes are out
are_out : (nodes : List ℕ) (doors : Doors) → DoorsAreOut nodes (with_doors_out nodes doors)
are_out [] doors k absent within = absurd (omega (arith, within))
are_out (node ∷ nodes) doors zero absent within = stays_out nodes (with_door node door_out doors) node (door_itself node door_out doors)
are_out (node ∷ nodes) doors (suc k) absent within = are_out nodes (with_door node door_out doors) k absent (omega (arith, within))

-- and no other is
is_left : (nodes : List ℕ) (doors : Doors) (other : ℕ) → is_one_of nodes other ≡ false → with_doors_out nodes doors other ≡ doors other
is_left [] doors other off = refl
is_left (node ∷ nodes) doors other off =
    is_left nodes (with_door node door_out doors) other (not_second (other == node) (is_one_of nodes other) off)
    ∙ not_chosen (other == node) door_out (doors other) (not_first (other == node) (is_one_of nodes other) off)

-- what stands then does not hang on what the doors of the nodes were
same_set : (nodes : List ℕ) (gates : List Gate) (one two : Doors) (other : ℕ) → length gates ≡ length nodes → (is_one_of nodes other ≡ false → one other ≡ two other)
    → with_doors nodes gates one other ≡ with_doors nodes gates two other
same_set [] gates one two other count same = same refl
same_set (node ∷ nodes) [] one two other count same = absurd (omega (arith, count))
same_set (node ∷ nodes) (gate ∷ gates) one two other count same =
    same_choice (other == node) (has_door gate) (with_doors nodes gates one other) (with_doors nodes gates two other)
    (λ off. same_set nodes gates one two other (omega (arith, count)) (λ off_behind. same (neither (other == node) (is_one_of nodes other) off off_behind)))

-- no door
pub hands_none : (host : Desk) → HandsDoors [] [] host host
hands_none host = record {
  count = refl;
  first = none_first host.waiting;
  out = sym (map-same (with_doors_out []) host.doors (λ doors. refl));
  disks = refl;
  calls = no_call host.calls;
  rest = keeps_none host;
}

-- a door more is handed out
pub hands_more : (lines : List Line) (line : Line) (gates : List Gate) (gate : Gate) (old mid new : Desk) → HandsDoors lines gates old mid
    → GivesDoor line.node line.port line.calls gate mid new → HandsDoors (lines ++ line ∷ []) (gates ++ gate ∷ []) old new
hands_more lines line gates gate old mid new hands gives = record {
  count = length_push gates gate ∙ ap (λ (n : ℕ). n + 1) hands.count ∙ sym (length_push lines line);
  first = hands.first ∙ ap (option_map (λ (rest : List Gate). gates ++ rest)) gives.first ∙ gates_then gates gate new.waiting;
  out = gives.out ∙ ap (option_map (with_door line.node door_out)) hands.out
      ∙ map-map (with_doors_out (nodes_of lines)) (with_door line.node door_out) (with_doors_out (nodes_of (lines ++ line ∷ []))) old.doors
      (λ doors. ap (λ (nodes : List ℕ). with_doors_out nodes doors) (map_push (λ (l : Line). l.node) lines line) ∙ out-push (nodes_of lines) line.node doors);
  disks = gives.disks ∙ hands.disks;
  calls = gives.calls ∙ ap (and_call (asked_line line)) hands.calls
      ∙ calls_then (asked_doors lines) (asked_doors (lines ++ line ∷ [])) (asked_line line) old.calls (map_push asked_line lines line);
  rest = keeps_more_doors old mid new hands.rest gives.rest;
}

-- no door is put back
pub puts_none : (host : Desk) → PutsDoors [] [] host host
puts_none host = record {
  count = refl;
  back = λ doors told out. sym (map-same (with_doors [] []) host.doors (λ doors. refl));
  disks = refl;
  calls = refl;
  failed = counts_none host.failed;
  rest = keeps_none host;
}

-- the last door is put back, and the others behind it
pub puts_more : (nodes : List ℕ) (node : ℕ) (gates : List Gate) (gate : Gate) (old mid new : Desk) → All (λ other. other ≢ node) nodes
    → TakesDoor node gate old mid → PutsDoors nodes gates mid new → PutsDoors (nodes ++ node ∷ []) (gates ++ gate ∷ []) old new
puts_more nodes node gates gate old mid new apart takes puts = record {
  count = length_push gates gate ∙ ap (λ (n : ℕ). n + 1) puts.count ∙ sym (length_push nodes node);
  back = λ before told out.
      let IsOut : ℕ → Type 0 = λ n. before n ≡ door_out in
      let mine : Doors = with_door node (has_door gate) before in
      let told_mine : mid.doors ≡ Some mine
      = takes.back before told (all_end IsOut nodes node out) ∙ told-map (with_door node (has_door gate)) old.doors before told in
      let still : DoorsAreOut nodes mine = λ k absent within.
      door_other node (slice_index_or nodes k absent) (has_door gate) before (apart k absent within) ∙ all_most IsOut nodes node out k absent within in
      puts.back mine told_mine still ∙ told-map (with_doors nodes gates) mid.doors mine told_mine
      ∙ ap (λ (d : Doors). Some d) (sym (with_doors-push nodes node gates gate before puts.count))
      ∙ sym (told-map (with_doors (nodes ++ node ∷ []) (gates ++ gate ∷ [])) old.doors before told);
  disks = puts.disks ∙ takes.disks;
  calls = puts.calls ∙ takes.calls;
  failed = subst (λ (n : ℕ). CountsFailed n old.failed new.failed) (sym (sum_by_push (λ (g : Gate). g.faults) gates gate))
      (counts_more gate.faults (door_faults gates) old.failed mid.failed new.failed takes.failed puts.failed);
  rest = record {
    settings = puts.rest.settings ∙ takes.rest.settings;
    console = puts.rest.console ∙ takes.rest.console;
    readings = puts.rest.readings ∙ takes.rest.readings;
    faults = puts.rest.faults ∙ takes.rest.faults;
    failed = refl;
    waiting = puts.rest.waiting ∙ takes.rest.waiting;
    doors = refl;
    bell = puts.rest.bell ∙ takes.rest.bell;
  };
}

-- doors that were handed out are put back
pub doors_return : (nodes : List ℕ) (gates : List Gate) (old lined asked new : Desk) → lined.doors ≡ option_map (with_doors_out nodes) old.doors → asked.doors ≡ lined.doors
    → PutsDoors nodes gates asked new → ForSome old.doors (λ before. new.doors ≡ Some (with_doors nodes gates before))
doors_return nodes gates old lined asked new out same puts = λ before told.
    let gone : asked.doors ≡ Some (with_doors_out nodes before) = same ∙ out ∙ told-map (with_doors_out nodes) old.doors before told in
    puts.back (with_doors_out nodes before) gone (are_out nodes before) ∙ told-map (with_doors nodes gates) asked.doors (with_doors_out nodes before) gone
    ∙ ap (λ (d : Doors). Some d) (λ i. λ other. same_set nodes gates (with_doors_out nodes before) before other puts.count (is_left nodes before other) i)

-- behind the lines of the first nodes comes that of the next
pub next_node : (board : Board) (most : Option ℕ) (count : ℕ) → count < board.nodes → (left : List Line) × (lines_for board most ≡ first_lines board most count ++ line_for board most (count + 1) ∷ left)
next_node board most count low =
    let nodes : List Line = first_lines board most board.nodes in
    let news : List Line = news_lines board.nodes board.news_port most in
    let f = line_for board most in
    let none : Line = f 0 in
    let next : get_or nodes count none ≡ f (count + 1) = get_or-map-range_with_len f 1 board.nodes count (count + 1) none low (omega arith) in
    let within : count < length nodes = omega (arith, low, length-map-range_with_len f 1 board.nodes) in
    let parts : nodes ≡ first_lines board most count ++ f (count + 1) ∷ drop (count + 1) nodes
    = sym (take-append-drop count nodes)
    ∙ ap (λ (l : List Line). l ++ drop count nodes) (take-map-range_with_len f 1 board.nodes count (omega (arith, low)))
    ∙ ap (λ (l : List Line). first_lines board most count ++ l) (drop_more nodes count none within ∙ ap (λ (l : Line). l ∷ drop (count + 1) nodes) next) in (
      drop (count + 1) nodes ++ news,
      ap (λ (l : List Line). l ++ news) parts ∙ append_assoc (first_lines board most count) (f (count + 1) ∷ drop (count + 1) nodes) news,
    )
