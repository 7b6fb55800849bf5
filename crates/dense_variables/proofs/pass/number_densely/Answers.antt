use Rattle.std.proofs.Common.{◌≡◌, sym, subst, All}
use Rattle.std.proofs.lemmas.Result.{IfOk-weaker}
use Rattle.core_ir.specs.declared.tree.Core.{Core}
use Rattle.core_ir.specs.Outcome.{SameOutside}
use Rattle.core_ir.specs.Terms.{CoreTerm}
use Rattle.core_ir.specs.View.{core_term}
use Rattle.core_ir.specs.WellFormed.{IsWellFormed}
use Rattle.core_facts.specs.calls.Arrays.{SameOutcomeOnArrays}
use Rattle.dense_variables.specs.Dense.{dense_core, IsDense}
use Rattle.dense_variables.proofs.Bodies.{all_dense, dense_outcome, dense_outside, dense_well}
use Rattle.dense_variables.proofs.pass.number_densely.Goals as goal

pub returns-clause-dense : goal.returns-clause-dense
returns-clause-dense c well =
    let old = core_term c.args.core in
    IfOk-weaker c.in_core.result (λ (new : Core). core_term new ≡ dense_core old) (λ (new : Core). All IsDense (core_term new).functions)
    (λ new p. subst (λ (k : CoreTerm). All IsDense k.functions) (sym p) (all_dense old well)) c.in_core.ensures

pub returns-clause-outcome : goal.returns-clause-outcome
returns-clause-outcome c well =
    let old = core_term c.args.core in
    IfOk-weaker c.in_core.result (λ (new : Core). core_term new ≡ dense_core old) (λ (new : Core). SameOutcomeOnArrays old (core_term new))
    (λ new p. subst (SameOutcomeOnArrays old) (sym p) (dense_outcome old well)) c.in_core.ensures

pub returns-clause-outside : goal.returns-clause-outside
returns-clause-outside c =
    let old = core_term c.args.core in
    IfOk-weaker c.in_core.result (λ (new : Core). core_term new ≡ dense_core old) (λ (new : Core). SameOutside old (core_term new))
    (λ new p. subst (SameOutside old) (sym p) (dense_outside old)) c.in_core.ensures

pub returns-clause-well : goal.returns-clause-well
returns-clause-well c well =
    let old = core_term c.args.core in
    IfOk-weaker c.in_core.result (λ (new : Core). core_term new ≡ dense_core old) (λ (new : Core). IsWellFormed (core_term new))
    (λ new p. subst IsWellFormed (sym p) (dense_well old well)) c.in_core.ensures
