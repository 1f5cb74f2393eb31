use Rattle.std.proofs.Common.{◌≡◌, ℕ, ◌+◌, ◌-◌, ◌<◌, ◌≤◌, ◌++◌, inl, inr, List, length, take, drop, replicate, min, ap, sym, ◌∙◌, arith, subst, append-nil}
use Rattle.std.proofs.Math.Seq.{take-append-add}
use Rattle.std.proofs.lemmas.Bool.{cases_lt}
use Rattle.std.proofs.lemmas.List.{take-append-le, take_all, take-replicate, drop-replicate}
use Rattle.jb_state.proofs.short.Short.of.Goals as goal

-- bytes that fill the place are cut
cut : (n : ℕ) (bytes : List ℕ) → n ≤ length bytes → take n bytes ++ drop n (replicate n 0) ≡ take n (bytes ++ replicate n 0)
cut n bytes fills =
    let none : n - n ≡ 0 = omega arith in
    ap (λ (l : List ℕ). take n bytes ++ l) (drop-replicate n n 0 ∙ ap (λ (k : ℕ). replicate k 0) none)
    ∙ append-nil (take n bytes) ∙ sym (take-append-le n bytes (replicate n 0) fills)

-- shorter ones stand before zeros
filled : (n : ℕ) (bytes : List ℕ) → length bytes < n → take (length bytes) bytes ++ drop (length bytes) (replicate n 0) ≡ take n (bytes ++ replicate n 0)
filled n bytes short =
    let whole : length bytes + (n - length bytes) ≡ n = omega arith in
    let rest : n - length bytes ≤ n = omega arith in
    let all : length bytes ≤ length bytes = omega arith in
    ap (λ (l : List ℕ). l ++ drop (length bytes) (replicate n 0)) (take_all (length bytes) bytes all)
    ∙ ap (λ (l : List ℕ). bytes ++ l) (drop-replicate (length bytes) n 0 ∙ sym (take-replicate (n - length bytes) n 0 rest))
    ∙ sym (take-append-add bytes (replicate n 0) (n - length bytes))
    ∙ ap (λ (k : ℕ). take k (bytes ++ replicate n 0)) whole

-- what is kept, with zeros after it
kept_first : (n : ℕ) (bytes : List ℕ) → take (min (length bytes) n) bytes ++ drop (min (length bytes) n) (replicate n 0) ≡ take n (bytes ++ replicate n 0)
kept_first n bytes =
    let F : ℕ → Type 0 = λ k. take k bytes ++ drop k (replicate n 0) ≡ take n (bytes ++ replicate n 0) in
    elim (cases_lt (length bytes) n) [
      | inl short ↦ let e : length bytes ≡ min (length bytes) n = omega arith in subst F e (filled n bytes short)
      | inr fills ↦ let e : n ≡ min (length bytes) n = omega arith in subst F e (cut n bytes fills)
    ]

pub returns : goal.returns
returns g c =
    let kept = c.min-kept.result in
    let n = g.row.N in
    let bytes = c.args.bytes.now in
    let F : ℕ → Type 0 = λ k. take k bytes ++ drop k (replicate n 0) ≡ take n (bytes ++ replicate n 0) in
    let first : c.copy_from_slice.new.self ++ drop kept (replicate n 0) ≡ take n (bytes ++ replicate n 0) =
    ap (λ (l : List ℕ). l ++ drop kept (replicate n 0)) c.copy_from_slice.ensures.after ∙ subst F (sym c.min-kept.ensures) (kept_first n bytes) in
    ap (λ (l : List ℕ). record { first = l; length = length bytes }) first
