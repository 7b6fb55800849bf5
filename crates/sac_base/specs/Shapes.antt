-- Shapes.
use Rattle.std.specs.Prelude.{ℕ, ◌≤◌, ◌<◌, ◌^◌, List, ℤ, pos, negsuc, length, All}
use Rattle.std.specs.Int.{IsNonNegative}

-- a number from 0 to 2,147,483,647
abbrev pub IsExtent : ℤ → Type 0
IsExtent (pos n) = n < 2 ^ 31
IsExtent (negsuc n) = ⊥

-- numbers that may be the extents of an array
pub record AreExtents (zs : List ℤ) : Type 0 where
  pub rank : length zs ≤ 8
  pub each : All IsExtent zs

-- at most 8 numbers, none of them negative
pub record AreNatural (zs : List ℤ) : Type 0 where
  pub rank : length zs ≤ 8
  pub each : All IsNonNegative zs

-- a shape: at most 8 extents, each below 2 ^ 31
pub record IsShape (ns : List ℕ) : Type 0 where
  pub rank : length ns ≤ 8
  pub each : All (λ n. n < 2 ^ 31) ns
