-- What phases answer, as the machine's verdict.
use Rattle.std.proofs.Common.{◌≡◌, ℤ, List, Option, Some, Ok, Err, sym, ap, ◌∙◌, subst, IsTrue}
use Rattle.sac_base.specs.declared.base.Base.{Base}
use Rattle.sac_base.specs.declared.faults.Fault.{Fault}
use Rattle.sac_base.specs.declared.op.Op.{Op}
use Rattle.sac_base.specs.Verdict.{each, present, combined, folds, fold_op}
use Rattle.wl_core.specs.declared.setup.Job.TheVariants.{Write as Store, Fold}
use Rattle.wl_core.specs.Machine.{SetupValue, TakesBase, Cells, Partial, Faulted, both, combine, sequential, verdict_by}
use Rattle.wl_core.proofs.FoldLaws.{foldable, elementwise-foldable}
use Rattle.phase_team.specs.Endings.{IsArray, IsCombined}
use Rattle.phase_team.proofs.Sequences.{from_first}

pub cells_joined : (u : SetupValue) (buffer : List ℤ) → u.job ≡ Store → IsArray u.cells buffer (Ok tt) → sequential u ≡ Cells buffer
cells_joined u buffer job is = (λ j. verdict_by (job j) (is.1 j)) ∙ (λ j. Cells (sym is.2 j))

pub fault_first : (u : SetupValue) (fault : Fault) → each u.cells ≡ Err fault → sequential u ≡ Faulted fault
fault_first u fault is = (λ j. verdict_by u.job (is j))

pub cells_combined : (u : SetupValue) (base : Base) (op : Op) (neutral value : List ℤ) → u.job ≡ Fold base op → TakesBase u.job → IsCombined op u.cells neutral value (Ok tt)
    → (partial : Option (List ℤ)) × (sequential u ≡ Partial partial) × (Some value ≡ both (combine op) (Some neutral) partial)
cells_combined u base op neutral value job takes is =
    let folds_base : IsTrue (folds base op) = subst TakesBase job takes in
    let laws = elementwise-foldable (fold_op op) (foldable base op folds_base) in (
      combined (combine op) (present is.0),
      (λ j. verdict_by (job j) (is.1 j)),
      ap (λ (v : List ℤ). Some v) is.2 ∙ from_first (combine op) laws neutral (present is.0),
    )
