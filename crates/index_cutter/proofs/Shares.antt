-- Division, rounded up.
use Rattle.std.proofs.Common.{◌≡◌, ℕ, suc, ◌+◌, ◌*◌, ◌<◌, ◌≤◌, arith, inl, inr, lt_irrefl}
use Rattle.std.specs.Int.{div_ceil}
use Rattle.std.proofs.lemmas.Grind.{div_ceil_times}
use Rattle.std.proofs.lemmas.Bool.{cases_order}
use Rattle.std.proofs.Math.Nat.{lt_of_mul-lt-mul_right, mul-le-mul_right, suc-mul, mul_comm}

-- it is the least
pub least_ceil : (n d m : ℕ) → 0 < d → n ≤ m * d → div_ceil n d ≤ m
least_ceil n d m some fits =
    let above : div_ceil n d * d < n + d = (div_ceil_times n d some).1 in
    let next : suc m * d ≡ m * d + d = suc-mul m d in
    let below : div_ceil n d * d < suc m * d = omega arith in
    let less : div_ceil n d < suc m = lt_of_mul-lt-mul_right d below in
    omega arith

-- so many chunks of a size that is at least an equal share for each of `shares` leave no more chunks than these
pub few_chunks : (n shares size : ℕ) → 0 < shares → 0 < size → div_ceil n shares ≤ size → div_ceil n size ≤ shares
few_chunks n shares size some_shares some large =
    let covered : n ≤ div_ceil n shares * shares = (div_ceil_times n shares some_shares).0 in
    let more : div_ceil n shares * shares ≤ size * shares = mul-le-mul_right shares large in
    let turned : size * shares ≡ shares * size = mul_comm size shares in
    least_ceil n size shares some (omega arith)

not_below : (k m : ℕ) → m ≤ k → k < m → ⊥
not_below k m above less = elim (lt_irrefl k (omega arith)) [ ]

-- no chunk is empty
pub none_empty : (n size k : ℕ) → 0 < size → k < div_ceil n size → k * size < n
none_empty n size k some less =
    elim (cases_order (k * size) n) [
      | inl same ↦ absurd (not_below k (div_ceil n size) (least_ceil n size k some (omega (arith, same))) less)
      | inr (inl below) ↦ below
      | inr (inr above) ↦ absurd (not_below k (div_ceil n size) (least_ceil n size k some (omega (arith, above))) less)
    ]
