use Rattle.std.proofs.Common.{◌≡◌, ℕ, zero, suc, ◌+◌, ◌-◌, ◌*◌, ◌/◌, ◌%◌, ◌<◌, ◌≤◌, inl, inr, arith, sym, ap, subst, ◌∙◌}
use Rattle.std.proofs.Math.Nat.{add-mul-mod_self_right, suc-mul, mul_assoc}
use Rattle.std.proofs.lemmas.Nat.{mod-mul-add, mod_below, div-add-mod'}
use Rattle.std.proofs.lemmas.Bool.{cases_lt}

-- one block of p numbers further
less_block : (q p r start : ℕ) → 0 < q → start ≤ p + r → q * p + r - start ≡ (q - 1) * p + (p + r - start)
less_block zero p r start h k = absurd (omega arith)
less_block (suc q) p r start h k = let e : suc q * p ≡ q * p + p = suc-mul q p in let f : suc q - 1 ≡ q = omega arith in rw f (omega arith)

-- the remainder of a number and what is left
pub mod_is : (n q p r : ℕ) → n ≡ q * p + r → r < p → n % p ≡ r
mod_is n q p r e h = ap (λ k. k % p) e ∙ mod-mul-add q p r h

pub record RunAt (n p start stop : ℕ) : Type 0 where
  pub into : (n - start) % p < stop - start → (start ≤ n % p) × (n % p < stop)
  pub back : start ≤ n % p → n % p < stop → (n - start) % p < stop - start

-- from `start` on, the numbers that lie in a run of neighbours within each period
pub residue_run : (n p start stop : ℕ) → start < stop → stop ≤ p → start ≤ n → RunAt n p start stop
residue_run n p start stop h k l =
    let split : n / p * p + n % p ≡ n = div-add-mod' n p in
    let low : n % p < p = mod_below n p (omega arith) in
    elim (cases_lt (n % p) start) [
      | inl before ↦
          let some : 0 < n / p = elim (cases_lt 0 (n / p)) [
            | inl y ↦ y
            | inr z ↦
                let none : n / p ≡ 0 = omega arith in
                let e : 0 * p + n % p ≡ n = subst (λ q. q * p + n % p ≡ n) none split in absurd (omega arith)
          ] in
          let cut : n - start ≡ (n / p - 1) * p + (p + n % p - start) =
          ap (λ m. m - start) (sym split) ∙ less_block (n / p) p (n % p) start some (omega arith) in
          let r : (n - start) % p ≡ p + n % p - start = mod_is (n - start) (n / p - 1) p (p + n % p - start) cut (omega arith) in
          record { into = λ a. absurd (omega arith); back = λ a b. absurd (omega arith) }
      | inr from ↦
          let cut : n - start ≡ n / p * p + (n % p - start) = omega arith in
          let r : (n - start) % p ≡ n % p - start = mod_is (n - start) (n / p) p (n % p - start) cut (omega arith) in
          record { into = λ a. (omega arith, omega arith); back = λ a b. omega arith }
    ]

-- a period that the step divides
pub residue_again : (d n p s c : ℕ) → p ≡ c * s → (d + n) % s ≡ (d + n % p) % s
residue_again d n p s c e =
    let split : n / p * p + n % p ≡ n = div-add-mod' n p in
    let whole : n / p * p ≡ n / p * c * s = ap (λ k. n / p * k) e ∙ sym (mul_assoc (n / p) c s) in
    let all : d + n ≡ d + n % p + n / p * c * s = omega arith in
    ap (λ k. k % s) all ∙ add-mul-mod_self_right (d + n % p) (n / p * c) s
