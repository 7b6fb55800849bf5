-- Multiples of a number, one after the other.
use Rattle.std.proofs.Common.{◌≡◌, ℕ, ◌+◌, ◌*◌, ◌/◌, ◌%◌, ◌<◌, ◌≤◌, inl, inr, arith}
use Rattle.std.proofs.lemmas.Bool.{cases_lt}
use Rattle.std.proofs.lemmas.Nat.{mod_below, div-add-mod'}
use Rattle.std.proofs.Math.Nat.{mul-le-mul_left, mul_comm}

-- the next multiple of s above s * c
pub next_multiple : (s c k : ℕ) → k % s ≡ 0 → s * c < k → s * (c + 1) ≤ k
next_multiple s c k h l =
    let split : k / s * s + k % s ≡ k = div-add-mod' k s in
    let e : k ≡ s * (k / s) = omega (arith, mul_comm (k / s) s) in
    elim (cases_lt c (k / s)) [
      | inl less ↦ let m : s * (c + 1) ≤ s * (k / s) = mul-le-mul_left s (omega arith) in omega arith
      | inr more ↦ let m : s * (k / s) ≤ s * c = mul-le-mul_left s more in absurd (omega arith)
    ]

pub first_multiple : (s k : ℕ) → k % s ≡ 0 → 0 < k → s * 1 ≤ k
first_multiple s k h l = let z : s * 0 ≡ 0 = omega arith in next_multiple s 0 k h (omega arith)

pub above_quotient : (l s c : ℕ) → 0 < s → l / s + 1 ≤ c → l < s * c
above_quotient l s c h k =
    let split : l / s * s + l % s ≡ l = div-add-mod' l s in
    let low = mod_below l s h in
    let m : s * (l / s + 1) ≤ s * c = mul-le-mul_left s k in
    let e : s * (l / s + 1) ≡ l / s * s + s = omega (arith, mul_comm (l / s) s) in omega arith
