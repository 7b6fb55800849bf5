-- Steps that are appended one after another.
use Rattle.std.proofs.Common.{◌≡◌, List, [], ◌∷◌, ◌++◌, ap, ◌∙◌, sym}
use Rattle.core_ir.specs.declared.tree.Var.{Var}
use Rattle.counted_code.specs.declared.tree.CodeStep.{CodeStep}
use Rattle.counted_code.specs.declared.tree.CodeStep.TheVariants as step
use Rattle.counted_code.specs.Terms.{CodeTerm}
use Rattle.counted_code.specs.View.{steps_before, step_term}
use Rattle.counted_code.proofs.Trees.{steps_append}
use Rattle.counted_laws.specs.placing.Placing.{keeps, releases}

pub one_more : (s next : List CodeStep) (a : CodeStep) → next ≡ s ++ (a ∷ []) → (t : CodeTerm) → steps_before next t ≡ steps_before s (step_term a t)
one_more s next a e t = ap (λ ss. steps_before ss t) e ∙ steps_append s (a ∷ []) t

pub releases_more : (first s next : List CodeStep) (vars here more : List Var) (x : Var) → here ≡ x ∷ more → next ≡ s ++ (step.Release x ∷ []) → ((t : CodeTerm) → steps_before s (releases here t) ≡ steps_before first (releases vars t)) → (t : CodeTerm) → steps_before next (releases more t) ≡ steps_before first (releases vars t)
releases_more first s next vars here more x h e was t = one_more s next (step.Release x) e (releases more t) ∙ ap (λ xs. steps_before s (releases xs t)) (sym h) ∙ was t

pub keeps_more : (first s next : List CodeStep) (vars here more : List Var) (x : Var) → here ≡ x ∷ more → next ≡ s ++ (step.Keep x ∷ []) → ((t : CodeTerm) → steps_before s (keeps here t) ≡ steps_before first (keeps vars t)) → (t : CodeTerm) → steps_before next (keeps more t) ≡ steps_before first (keeps vars t)
keeps_more first s next vars here more x h e was t = one_more s next (step.Keep x) e (keeps more t) ∙ ap (λ xs. steps_before s (keeps xs t)) (sym h) ∙ was t
