use Rattle.std.proofs.Common.{◌≡◌, sym, subst}
use Rattle.std.proofs.lemmas.Result.{IfOk-weaker}
use Rattle.core_ir.specs.declared.tree.Core.{Core}
use Rattle.core_ir.specs.View.{core_term}
use Rattle.core_ir.specs.WellFormed.{IsWellFormed}
use Rattle.core_facts.specs.calls.Arrays.{SameOutcomeOnArrays}
use Rattle.core_forms.specs.cleaning.Unused.{swept_core}
use Rattle.core_forms.proofs.cleaning.Laws.{swept_well, swept_outcome}
use Rattle.unused_bindings.proofs.functions.remove_unused.Goals as goal

pub returns-clause-outcome : goal.returns-clause-outcome
returns-clause-outcome c well =
    let old = core_term c.args.core in
    IfOk-weaker c.in_core.result (λ (new : Core). core_term new ≡ swept_core old) (λ (new : Core). SameOutcomeOnArrays old (core_term new))
    (λ new p. subst (SameOutcomeOnArrays old) (sym p) (swept_outcome old well)) c.in_core.ensures

pub returns-clause-well : goal.returns-clause-well
returns-clause-well c well =
    let old = core_term c.args.core in
    IfOk-weaker c.in_core.result (λ (new : Core). core_term new ≡ swept_core old) (λ (new : Core). IsWellFormed (core_term new))
    (λ new p. subst IsWellFormed (sym p) (swept_well old well)) c.in_core.ensures
