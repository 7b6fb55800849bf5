-- Words for what the evaluator knows of a with-loop before its first cell.
use Rattle.std.specs.Prelude.{ℕ, ℤ, ◌+ℤ◌, Bool, true, false, List, [], ◌∷◌, map, Option, Some, None}
use Rattle.sac_base.specs.Operators.{of_truth}
use Rattle.sac_base.specs.WithLoops.{Operation, genarray, modarray, fold_by}
use Rattle.sac_base.specs.WithLoops
use Rattle.array_with_loops.specs.declared.plans.Plan.{Plan}
use Rattle.array_with_loops.specs.declared.plans.Evaluated.{Evaluated}
use Rattle.array_with_loops.specs.declared.plans.Evaluated.TheVariants.{Genarray, Modarray, Fold}

-- the first number that is there
abbrev pub first_some : List (Option ℕ) → Option ℕ
first_some [] = None
first_some (None ∷ rest) = first_some rest
first_some (Some n ∷ rest) = Some n

abbrev pub frame_if : Bool → List ℕ → Option (List ℕ)
frame_if true frame = Some frame
frame_if false frame = None

abbrev pub raised_list : Bool → List ℤ → List ℤ
raised_list raise zs = map (λ z. z +ℤ of_truth raise) zs

abbrev pub plan_of : Plan → WithLoops.Plan
plan_of p = record { ranges = p.ranges.items; indices = p.frame; form = p.form; shape = p.shape }

abbrev pub operation_of : Evaluated → Operation
operation_of (Genarray shape default site) = genarray shape default site
operation_of (Modarray array site) = modarray array site
operation_of (Fold op neutral site) = fold_by op neutral site
