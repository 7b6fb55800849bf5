use Rattle.std.proofs.Common.{◌≡◌, ap, ◌∙◌, sym, subst}
use Rattle.std.specs.Prelude.{IfOk, Result, Ok, Err}
use Rattle.core_ir.specs.View.{core_term}
use Rattle.core_ir.specs.Outcome.{outcome}
use Rattle.counted_code.specs.Counts.{IsWellCounted, IsUnmarked}
use Rattle.counted_code.specs.Outcome.{whole_run, outcome_of}
use Rattle.counted_code.specs.Prompt.{IsPrompt}
use Rattle.counted_code.specs.Terms.{CodeProgram, core_of_code}
use Rattle.counted_code.specs.View.{code_program}
use Rattle.counted_laws.specs.Simulation.{LeavesNothing}
use Rattle.counted_laws.proofs.Outcomes.{ends_as_core}
use Rattle.counted_laws.specs.placing.Placing.{placing_core}
use Rattle.counted_laws.proofs.placing.Cores.{same_core_code, no_marks}
use Rattle.counted_laws.proofs.placing.Derived.{well_counted, prompt}
use Rattle.ref_counts.proofs.functions.count_refs.Goals as goal

-- what holds of the placed core holds of the code
carried : {A E : Type 0} (view : A → CodeProgram) (p : CodeProgram) (P : CodeProgram → Type 0) (r : Result A E) → P p → IfOk r (λ a. view a ≡ p) → IfOk r (λ a. P (view a))
carried view p P (Ok a) holds e = subst P (sym e) holds
carried view p P (Err e) holds none = none

pub returns-clause-counted : goal.returns-clause-counted
returns-clause-counted c formed =
    let core = core_term c.args.core in
    carried code_program (placing_core core) IsWellCounted c.place_core.result (well_counted core formed) c.place_core.ensures

pub returns-clause-prompt : goal.returns-clause-prompt
returns-clause-prompt c formed =
    let core = core_term c.args.core in
    carried code_program (placing_core core) IsPrompt c.place_core.result (prompt core formed) c.place_core.ensures

pub returns-clause-unmarked : goal.returns-clause-unmarked
returns-clause-unmarked c =
    let core = core_term c.args.core in
    carried code_program (placing_core core) IsUnmarked c.place_core.result (no_marks core.functions) c.place_core.ensures

pub returns-clause-same : goal.returns-clause-same
returns-clause-same c =
    let core = core_term c.args.core in
    carried code_program (placing_core core) (λ p. core_of_code p ≡ core) c.place_core.result (same_core_code core) c.place_core.ensures

pub returns-clause-outcome : goal.returns-clause-outcome
returns-clause-outcome c formed args caps =
    let core = core_term c.args.core in
    carried code_program (placing_core core) (λ p. outcome_of (whole_run p args caps) ≡ outcome core args caps) c.place_core.result
    ((ends_as_core (placing_core core) (well_counted core formed) (no_marks core.functions) args caps).0 ∙ ap (λ k. outcome k args caps) (same_core_code core)) c.place_core.ensures

pub returns-clause-nothing_left : goal.returns-clause-nothing_left
returns-clause-nothing_left c formed args caps =
    let core = core_term c.args.core in
    carried code_program (placing_core core) (λ p. LeavesNothing (whole_run p args caps)) c.place_core.result
    (ends_as_core (placing_core core) (well_counted core formed) (no_marks core.functions) args caps).1 c.place_core.ensures
