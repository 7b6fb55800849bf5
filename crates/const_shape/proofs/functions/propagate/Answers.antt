use Rattle.std.proofs.Common.{◌≡◌, sym, subst, All}
use Rattle.std.proofs.lemmas.Result.{IfOk-weaker}
use Rattle.core_ir.specs.declared.tree.Core.{Core}
use Rattle.core_ir.specs.Outcome.{SameOutside}
use Rattle.core_ir.specs.Terms.{FunTerm, CoreTerm}
use Rattle.core_ir.specs.View.{core_term}
use Rattle.core_ir.specs.WellFormed.{IsWellFormed}
use Rattle.core_facts.specs.Settled.{IsSettled}
use Rattle.core_facts.specs.calls.Arrays.{SameOutcomeOnArrays}
use Rattle.core_facts.specs.constants.Called.{called, params_facts}
use Rattle.const_shape.specs.Cleaned.{cleaned}
use Rattle.const_shape.proofs.Cleaned.{cleaned_well, cleaned_outcome, cleaned_outside, cleaned_settled}
use Rattle.const_shape.proofs.functions.propagate.Goals as goal

pub returns-clause-outcome : goal.returns-clause-outcome
returns-clause-outcome c well =
    let old = core_term c.args.core in
    IfOk-weaker c.clean.result (λ (new : Core). core_term new ≡ cleaned old) (λ (new : Core). SameOutcomeOnArrays old (core_term new))
    (λ new p. subst (SameOutcomeOnArrays old) (sym p) (cleaned_outcome old well)) c.clean.ensures

pub returns-clause-outside : goal.returns-clause-outside
returns-clause-outside c =
    let old = core_term c.args.core in
    IfOk-weaker c.clean.result (λ (new : Core). core_term new ≡ cleaned old) (λ (new : Core). SameOutside old (core_term new))
    (λ new p. subst (SameOutside old) (sym p) (cleaned_outside old)) c.clean.ensures

pub returns-clause-well : goal.returns-clause-well
returns-clause-well c well =
    let old = core_term c.args.core in
    IfOk-weaker c.clean.result (λ (new : Core). core_term new ≡ cleaned old) (λ (new : Core). IsWellFormed (core_term new))
    (λ new p. subst IsWellFormed (sym p) (cleaned_well old well)) c.clean.ensures

abbrev AllSettled : CoreTerm → Type 0
AllSettled core = All (λ (f : FunTerm). IsSettled (called core) f.body (params_facts f)) core.functions

pub returns-clause-settled : goal.returns-clause-settled
returns-clause-settled c =
    let old = core_term c.args.core in
    IfOk-weaker c.clean.result (λ (new : Core). core_term new ≡ cleaned old) (λ (new : Core). AllSettled (core_term new))
    (λ new p. subst AllSettled (sym p) (cleaned_settled old)) c.clean.ensures
