-- The members of a grid on one axis that all others lie between.
use Rattle.std.specs.Prelude.{◌≡◌, ℕ, ◌+◌, ◌-◌, ◌%◌, nat_lt, true, cond, ℤ, ◌-ℤ◌, ◌≤ℤ◌, unsigned_abs}
use Rattle.sac_base.specs.declared.grid.Grid1.{Grid1}
use Rattle.sac_base.specs.Grids.{has_index}

pub record IsLeast (g : Grid1) (x : ℤ) : Type 0 where
  pub member : has_index g x ≡ true
  pub below : (y : ℤ) → has_index g y ≡ true → x ≤ℤ y

pub record IsGreatest (g : Grid1) (x : ℤ) : Type 0 where
  pub member : has_index g x ≡ true
  pub above : (y : ℤ) → has_index g y ≡ true → y ≤ℤ x

abbrev pub IsSpan : Grid1 → ℤ → ℤ → Type 0
IsSpan g least greatest = IsLeast g least × IsGreatest g greatest

-- how far a number lies behind the end of the grid's run before it: 0 inside of a run
abbrev pub gap_after : Grid1 → ℤ → ℕ
gap_after g x =
    let phase = unsigned_abs (x -ℤ g.lo) % unsigned_abs g.step in
    cond (nat_lt phase (unsigned_abs g.width)) 0 (phase - unsigned_abs g.width + 1)
