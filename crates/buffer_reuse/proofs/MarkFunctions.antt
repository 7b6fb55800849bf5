-- A function with marks.
use Rattle.std.proofs.Common.{◌≡◌, List, [], ◌∷◌, map, Some, None, refl, ap, ◌∙◌}
use Rattle.sac_base.specs.declared.types.ArrayType.{ArrayType}
use Rattle.core_ir.specs.declared.tree.Var.{Var}
use Rattle.core_facts.specs.Facts.{Fact, note_all, no_facts, shape_fact, type_shape}
use Rattle.counted_code.specs.declared.tree.CodeBlock.{CodeBlock}
use Rattle.counted_code.specs.declared.tree.CodeFun.{CodeFun}
use Rattle.counted_code.specs.Terms.{core_of_fun}
use Rattle.counted_code.specs.View.{code_term, code_fun_term}
use Rattle.counted_marks.specs.Bases.{no_bases, note_bases}
use Rattle.counted_marks.specs.Known.{Given, Known, at_start}
use Rattle.counted_marks.specs.Marking.{marking, marking_fun}

type_facts : (ps : List (Var × ArrayType)) → map (λ (p : Var × ArrayType). shape_fact (type_shape p.1.part None)) ps ≡ map (λ (ty : ArrayType). shape_fact (type_shape ty.part None)) (map (λ (p : Var × ArrayType). p.1) ps)
type_facts [] = refl
type_facts (p ∷ ps) = ap (λ (rest : List Fact). shape_fact (type_shape p.1.part None) ∷ rest) (type_facts ps)

-- what is known where it begins
pub begins : (f : CodeFun) (ps : List (Var × ArrayType)) (k0 k : Known) → ps ≡ f.params.items → k0.facts ≡ no_facts → k0.bases ≡ no_bases →
    k.facts ≡ note_all k0.facts (map (λ (p : Var × ArrayType). p.0) ps) (map (λ (p : Var × ArrayType). shape_fact (type_shape p.1.part None)) ps) →
    k.bases ≡ note_bases k0.bases (map (λ (p : Var × ArrayType). p.0) ps) (map (λ (p : Var × ArrayType). Some p.1.base) ps) → k ≡ at_start (core_of_fun (code_fun_term f))
begins f ps k0 k same none nothing facts bases =
    let shapes = facts
    ∙ (λ i. note_all (none i) (map (λ (p : Var × ArrayType). p.0) ps) (type_facts ps i))
    ∙ (λ i. note_all no_facts (map (λ (p : Var × ArrayType). p.0) (same i)) (map (λ (ty : ArrayType). shape_fact (type_shape ty.part None)) (map (λ (p : Var × ArrayType). p.1) (same i)))) in
    let kinds = bases ∙ (λ i. note_bases (nothing i) (map (λ (p : Var × ArrayType). p.0) (same i)) (map (λ (p : Var × ArrayType). Some p.1.base) (same i))) in
    λ i. record { facts = shapes i; bases = kinds i }

module _ (g : Given) where
  pub function_marked : (f : CodeFun) (k : Known) (b : CodeBlock) → k ≡ at_start (core_of_fun (code_fun_term f)) → code_term b ≡ marking g (code_term f.body) k →
      code_fun_term (record f { body = b }) ≡ marking_fun g (code_fun_term f)
  function_marked f k b start marked =
      let body = marked ∙ (λ i. marking g (code_term f.body) (start i)) in
      λ i. record (code_fun_term f) { body = body i }
