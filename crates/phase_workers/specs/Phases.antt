-- Loops that are phases.
use Rattle.std.specs.Prelude.{◌≡◌, false, IsTrue}
use Rattle.array_with_loops.specs.declared.plans.Plan.{Plan}
use Rattle.counted_code.specs.Values.{is_small}
use Rattle.run_loops.specs.declared.cell_loop.LoopResult.{LoopResult}
use Rattle.run_loops.specs.declared.cell_loop.LoopResult.TheVariants.{Filled, Joined, Folded}
use Rattle.sac_base.specs.Verdict.{folds}
use Rattle.sac_base.specs.WithLoops.{fits_form}

-- an array is made that is no small one
abbrev pub MakesLarge : LoopResult → Plan → Type 0
MakesLarge (Folded op neutral) p = ⊥
MakesLarge _ p = is_small p.shape ≡ false

-- the operator folds cells of the plan's form, which the neutral value has as well
abbrev pub Folds : LoopResult → Plan → Type 0
Folds (Folded op neutral) p = IsTrue (folds p.form.base op) × IsTrue (fits_form p.form neutral.now)
Folds _ p = ⊥
