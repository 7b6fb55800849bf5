-- A tally as callers see it.
use Rattle.std.specs.Prelude.{ℕ}

pub record PhaseTotals : Type 0 where
  -- how many phases were closed, and how many chunks they drew
  pub phases : ℕ
  pub draws : ℕ

abbrev pub totals_of : ℕ → ℕ → PhaseTotals
totals_of p d = record { phases = p; draws = d }
