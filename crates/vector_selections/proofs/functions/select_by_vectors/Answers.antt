use Rattle.std.proofs.Common.{◌≡◌, ℕ, ◌∙◌, sym, subst}
use Rattle.std.proofs.lemmas.Result.{IfOk-weaker}
use Rattle.core_ir.specs.declared.tree.Core.{Core}
use Rattle.core_ir.specs.Outcome.{SameOutside}
use Rattle.core_ir.specs.View.{core_term}
use Rattle.core_ir.specs.WellFormed.{IsWellFormed}
use Rattle.core_facts.specs.calls.Arrays.{SameOutcomeOnArrays}
use Rattle.core_forms.specs.selections.Vectors.{vectored_core}
use Rattle.core_forms.proofs.selections.Laws.{vectored_well, vectored_outcome}
use Rattle.vector_selections.specs.Vectored.{vectors_in_core}
use Rattle.vector_selections.proofs.Unchanged.{both_give, core_stays, outside_stays}
use Rattle.vector_selections.proofs.functions.select_by_vectors.Goals as goal

pub returns-clause-unchanged : goal.returns-clause-unchanged
returns-clause-unchanged c =
    let old = core_term c.args.core in
    both_give c.in_core.result (λ (new : Core × ℕ). core_term new.0 ≡ vectored_core old) (λ (new : Core × ℕ). new.1 ≡ vectors_in_core old) (λ (new : Core × ℕ). new.1 ≡ 0 → core_term new.0 ≡ old)
    (λ new p q none. p ∙ core_stays old (sym q ∙ none)) c.in_core.ensures.term c.in_core.ensures.count

pub returns-clause-outcome : goal.returns-clause-outcome
returns-clause-outcome c well =
    let old = core_term c.args.core in
    IfOk-weaker c.in_core.result (λ (new : Core × ℕ). core_term new.0 ≡ vectored_core old) (λ (new : Core × ℕ). SameOutcomeOnArrays old (core_term new.0))
    (λ new p. subst (SameOutcomeOnArrays old) (sym p) (vectored_outcome old well)) c.in_core.ensures.term

pub returns-clause-outside : goal.returns-clause-outside
returns-clause-outside c =
    let old = core_term c.args.core in
    IfOk-weaker c.in_core.result (λ (new : Core × ℕ). core_term new.0 ≡ vectored_core old) (λ (new : Core × ℕ). SameOutside old (core_term new.0))
    (λ new p. subst (SameOutside old) (sym p) (outside_stays old)) c.in_core.ensures.term

pub returns-clause-well : goal.returns-clause-well
returns-clause-well c well =
    let old = core_term c.args.core in
    IfOk-weaker c.in_core.result (λ (new : Core × ℕ). core_term new.0 ≡ vectored_core old) (λ (new : Core × ℕ). IsWellFormed (core_term new.0))
    (λ new p. subst IsWellFormed (sym p) (vectored_well old well)) c.in_core.ensures.term
