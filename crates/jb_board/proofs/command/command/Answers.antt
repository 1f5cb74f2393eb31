use Rattle.std.proofs.Common.{◌∙◌, List, ap, map, rules, sym, arith, ℕ}
use Rattle.std.specs.Prelude.{bytes_eq, codes}
use Rattle.std.proofs.lemmas.List.{length-map}
use Rattle.std.specs.String.{string_bytes}
use Rattle.jb_board.proofs.WordLemmas.{five_words, many_words, one_word}
use Rattle.jb_board.proofs.command.command.Goals.{in_default-via-then-words-lt1, in_default-via-in-len1+else-eq, in_default-via-else-words-lt1+else-words-lt2+else-words-lt3+else-words-lt4+else-words-lt5+then-words-lt6, in_default-via-else-words-lt1+else-words-lt2+else-words-lt3+else-words-lt4+else-words-lt5+else-words-lt6+else-words-lt7}
use Rattle.jb_board.proofs.command.command.Goals as goal

pub returns-in_default-clause-none : goal.returns-in_default-clause-none
returns-in_default-clause-none c =
    let words = c.args.words.now in
    let many = length-map words string_bytes in
    elim c.in_default.branch [
      | in_default-via-then-words-lt1 w ↦ search rules
      | in_default-via-in-len1+else-eq w ↦ one_word string_bytes words w.verb-item.result (omega arith) w.verb-item.is
          (ap (λ (b : List ℕ). bytes_eq b (codes "help")) (sym w.as_str.ensures.value) ∙ sym w.eq.ensures ∙ w.if-eq.false)
      | in_default-via-else-words-lt1+else-words-lt2+else-words-lt3+else-words-lt4+else-words-lt5+then-words-lt6 w ↦ five_words (map string_bytes words) (grind (arith, many))
      | in_default-via-else-words-lt1+else-words-lt2+else-words-lt3+else-words-lt4+else-words-lt5+else-words-lt6+else-words-lt7 w ↦ many_words (map string_bytes words) (grind (arith, many))
    ]
