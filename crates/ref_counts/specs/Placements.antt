-- What appended steps do.
use Rattle.std.specs.Prelude.{◌≡◌, ◌+◌, ℕ, List, [], ◌∷◌, ◌++◌, drop, length, Result, IfOk}
use Rattle.sac_base.specs.declared.faults.Caps.{Caps}
use Rattle.sac_base.specs.Arrays.{ArrayValue}
use Rattle.core_ir.specs.declared.tree.Var.{Var}
use Rattle.core_ir.specs.Outcome.{outcome}
use Rattle.core_ir.specs.Terms.{BlockTerm, LetTerm, CoreTerm, Gives, chain}
use Rattle.counted_code.specs.declared.tree.Code.{Code}
use Rattle.counted_code.specs.declared.tree.CodeStep.{CodeStep}
use Rattle.counted_code.specs.Outcome.{whole_run, outcome_of}
use Rattle.counted_code.specs.Terms.{Giving}
use Rattle.counted_code.specs.View.{code_program, steps_before}
use Rattle.counted_laws.specs.Simulation.{LeavesNothing}
use Rattle.counted_laws.specs.placing.Placing.{placing}
use Rattle.ref_counts.specs.declared.held.Owned.{Owned}
use Rattle.ref_rules.specs.declared.listed_uses.list.Entry.{Entry}
use Rattle.ref_rules.specs.listed_uses.Latest.{section}
use Rattle.ref_counts.specs.Listing.{each, listed, listed_right}
use Rattle.ref_counts.specs.Owning.{owned_vars, IsSound}

module _ {E : Type 0} where
  -- the steps before a block's results are appended: the uses from this place on are the results
  abbrev pub ResultsPlaced : ℕ → Owned → List Var → List CodeStep → List CodeStep → Result (Unit {0}) E → Type 0
  ResultsPlaced from owned results before after answer =
      (es : List Entry) → IsSound es owned → drop from es ≡ each results →
      IfOk answer (λ done. steps_before after (Giving results) ≡ steps_before before (placing (owned_vars owned) (Gives results)))

  -- a binding, and the steps before it, are appended: its section stands between these places, and what the rest of the block uses follows
  abbrev pub LetPlaced : List Entry → LetTerm → (from to : ℕ) → Owned → List CodeStep → List CodeStep → Result Owned E → Type 0
  LetPlaced uses binding from to owned before after answer =
      (es later : List Entry) (rest : BlockTerm) → IsSound es owned → drop from es ≡ section (listed_right binding.right) ++ listed rest →
      drop from uses ≡ section (listed_right binding.right) ++ later → to ≡ from + length (section (listed_right binding.right)) →
      IfOk answer (λ stay. IsSound es stay × (
      steps_before after (placing (binding.targets ++ owned_vars stay) rest)
      ≡ steps_before before (placing (owned_vars owned) (chain (binding ∷ []) rest))))

  -- each run of the code has the outcome of the core
  abbrev pub RunsAsTheCore : CoreTerm → Result Code E → Type 0
  RunsAsTheCore core answer =
      (args : List ArrayValue) (caps : Caps) → IfOk answer (λ code. outcome_of (whole_run (code_program code) args caps) ≡ outcome core args caps)

  -- and leaves no buffer
  abbrev pub RunsLeaveNothing : Result Code E → Type 0
  RunsLeaveNothing answer = (args : List ArrayValue) (caps : Caps) → IfOk answer (λ code. LeavesNothing (whole_run (code_program code) args caps))
