use Rattle.std.proofs.Common.{◌≡◌, ℕ, ◌+◌, ◌<◌, ◌∙◌, length, ap, sym, subst, arith, []}
use Rattle.jb_bytes.specs.Number.{number_bytes}
use Rattle.jb_disk.specs.declared.version.Version.{Version}
use Rattle.jb_redo.specs.Reading.{BeginsWith, Lengths, IsBadAt}
use Rattle.jb_redo.specs.Walk.{head_size, journal_from, IsReadTo}
use Rattle.jb_redo.proofs.WalkLemmas.{bad_count, no_number, one_number, read_count}
use Rattle.jb_redo.proofs.lengths.read_count.Goals as goal

pub returns-in_default-clause-refused : goal.returns-in_default-clause-refused
returns-in_default-clause-refused g c = λ files is.
    let version = c.args.head.version in
    let head = c.requires.head files is in
    let none = rw c.in_default.is at c.in_ok-count.ensures.none in
    let place : head_size version ≡ c.head_bytes-at.result = ap head_size c.requires.version ∙ sym c.head_bytes-at.ensures in
    let few : length (journal_from files (16 + head_size version)) < 4 = subst (λ (n : ℕ). length (journal_from files (16 + n)) < 4) (sym place) (none files is) in
    subst (λ (n : ℕ). IsBadAt files (16 + n)) place
    (bad_count files version c.args.head.change head.version head.numbered head.begins (λ n low. no_number files (16 + head_size version) n few))

pub returns-then-count-gt4-clause-refused : goal.returns-then-count-gt4-clause-refused
returns-then-count-gt4-clause-refused g c = λ files is.
    let version = c.args.head.version in
    let head = c.requires.head files is in
    let found = rw c.in-Some.is at c.in_ok-count.ensures.found in
    let fits = rw c.in-Some.is at c.in_ok-count.ensures.fits in
    let many = c.if-count-gt4.true in
    let place : head_size version ≡ c.head_bytes-at.result = ap head_size c.requires.version ∙ sym c.head_bytes-at.ensures in
    let there = subst (λ (n : ℕ). BeginsWith (journal_from files (16 + n)) (number_bytes 4 c.in-Some.count)) (sym place) (found files is) in
    subst (λ (n : ℕ). IsBadAt files (16 + n)) place
    (bad_count files version c.args.head.change head.version head.numbered head.begins (λ n few begins.
    let same = one_number files (16 + head_size version) n c.in-Some.count (omega arith) fits begins there in
    omega (arith, same, many)))

pub returns-clause-found : goal.returns-clause-found
returns-clause-found g c = λ files is.
    let version = c.args.head.version in
    let head = c.requires.head files is in
    let found = rw c.in-Some.is at c.in_ok-count.ensures.found in
    let few = c.if-count-gt4.false in
    let place : head_size version ≡ c.head_bytes-at.result = ap head_size c.requires.version ∙ sym c.head_bytes-at.ensures in
    let there = subst (λ (n : ℕ). BeginsWith (journal_from files (16 + n)) (number_bytes 4 c.in-Some.count)) (sym place) (found files is) in
    subst (λ (v : Version). IsReadTo files v (Lengths c.args.head.change c.in-Some.count []) (20 + head_size v)) c.requires.version
    (read_count files version c.args.head.change c.in-Some.count (omega (arith, few)) head.version head.numbered head.begins there)
