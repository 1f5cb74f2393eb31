-- How many of the disks and doors that came back had failed, over one part of them after another.
use Rattle.std.proofs.Common.{◌≡◌, ℕ, zero, suc, ◌+◌, ◌<◌, List, length, refl, sym, subst, arith}
use Rattle.std.specs.Prelude.{slice_index_or}
use Rattle.std.proofs.lemmas.List.Sums.{get_or-le-sum_by}
use Rattle.jb_bytes.specs.Fault.{Rose}
use Rattle.jb_disk.specs.Device.{Device}
use Rattle.jb_host.specs.Desk.{CountsFailed}
use Rattle.jb_run.specs.Desks.{disk_faults}

-- nothing came back
pub counts_none : (n : ℕ) → CountsFailed 0 n n
counts_none n = record { rose = λ some. absurd (omega (arith, some)); quiet = λ none. refl; later = omega arith }

-- something came back, and something more
pub counts_more : (one other before mid now : ℕ) → CountsFailed one before mid → CountsFailed other mid now → CountsFailed (other + one) before now
counts_more one zero before mid now first last =
    let same : one ≡ 0 + one = omega arith in
    subst (λ (n : ℕ). CountsFailed n before now) same (subst (CountsFailed one before) (sym (last.quiet refl)) first)
counts_more one (suc other) before mid now first last = record {
  rose = λ some. omega (arith, first.later, last.rose (omega arith));
  quiet = λ none. absurd (omega (arith, none));
  later = omega (arith, first.later, last.later);
}

-- what rose is above 0
pub rose_above : (before now : ℕ) → Rose before now → 0 < now
rose_above before now rose = omega (arith, rose)

-- one of these disks has failed
pub one_disk_failed : (devices : List Device) (k : ℕ) (before : ℕ) (absent : Device) → k < length devices → Rose before (slice_index_or devices k absent).faults → 0 < disk_faults devices
one_disk_failed devices k before absent within rose =
    omega (arith, rose, get_or-le-sum_by (λ (d : Device). d.faults) devices k absent within)
