-- Cells that are combined some at a time.
use Rattle.std.specs.Prelude.{◌≡◌, ℕ, ◌≤◌, ℤ, List, [], Option, Some, None, fold, Result, Ok, Err}
use Rattle.sac_base.specs.Verdict.{each, present, combined}
use Rattle.sac_base.specs.declared.op.Op.{Op}
use Rattle.sac_base.specs.declared.stop.Stop.{Stop}
use Rattle.wl_core.specs.Machine.{CellValue, combine}
use Rattle.phase_team.specs.Segments.{cells_from, Gathered, HaveWidth}

-- a value that may be missing, combined with others from left to right
abbrev pub combined_on : {A : Type 0} → (A → A → A) → Option A → List A → Option A
combined_on op None xs = combined op xs
combined_on op (Some a) xs = Some (fold op a xs)

-- the first cells, at least one and at most n, were combined with what was there, or the first that did not come to a value stopped all n
abbrev pub GatheredNext : Op → ℕ → (ℕ → CellValue) → ℕ → ℕ → Option (List ℤ) → Option (List ℤ) → Result ℕ Stop → Type 0
GatheredNext op width cell start n before after (Ok k) = (1 ≤ k) × (k ≤ n) × (values : List (Option (List ℤ)))
    × (each (cells_from cell start k) ≡ Ok values) × (after ≡ combined_on (combine op) before (present values)) × HaveWidth width values
GatheredNext op width cell start n before after (Err stop) = Gathered op width (cells_from cell start n) [] (Err stop)
