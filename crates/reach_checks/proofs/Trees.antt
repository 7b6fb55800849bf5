-- Whether a tree is clear, by the lists that it holds.
use Rattle.std.proofs.Common.{◌≡◌, ℕ, Bool, true, false, ◌&&◌, not, List, [], ◌∷◌, Vec, Global, refl, ap, sym, ◌∙◌}
use Rattle.std.specs.List.{list_all}
use Rattle.std.specs.Prelude.{is_some}
use Rattle.sac_base.specs.declared.site.Site.{Site}
use Rattle.core_ir.specs.declared.tree.Var.{Var}
use Rattle.counted_code.specs.declared.tree.CodeBlock.{CodeBlock}
use Rattle.counted_code.specs.declared.tree.CodeParted.{CodeParted, out-CodeParted}
use Rattle.counted_code.specs.declared.tree.CodeRight.TheVariants as right
use Rattle.counted_code.specs.declared.tree.CodeStep.{CodeStep}
use Rattle.counted_code.specs.declared.tree.CodeStep.TheVariants as step
use Rattle.counted_code.specs.declared.tree.CodeWith.{CodeWith, out-CodeWith}
use Rattle.counted_code.specs.Terms.{CodeTerm, Giving}
use Rattle.counted_code.specs.View.{code_term, code_right_term, code_with_term, code_parted_term, step_term, steps_before}
use Rattle.counted_code.specs.Pieces.{gens_term, parts_term}
use Rattle.counted_code.proofs.Trees.{if_term, loop_term, with_out, parted_out}
use Rattle.reach_checks.specs.Clear.{is_clear, right_is_clear, gens_are_clear, parts_are_clear, step_is_clear}

module _ (clear : ℕ → Bool) where
  step_adds : (s : CodeStep) (rest : CodeTerm) → (is_clear clear) (step_term s rest) ≡ ((step_is_clear clear) s && (is_clear clear) rest)
  step_adds (step.Bind' targets site r) rest = refl
  step_adds (step.Keep x) rest = refl
  step_adds (step.Release x) rest = refl

  steps_add : (ss : List CodeStep) (xs : List Var) → (is_clear clear) (steps_before ss (Giving xs)) ≡ list_all (step_is_clear clear) ss
  steps_add [] xs = refl
  steps_add (s ∷ ss) xs = step_adds s (steps_before ss (Giving xs)) ∙ ap (λ b. (step_is_clear clear) s && b) (steps_add ss xs)

  pub block_adds : (b : CodeBlock) → (is_clear clear) (code_term b) ≡ list_all (step_is_clear clear) b.steps.items
  block_adds b = steps_add b.steps.items b.results.items

  pub if_adds : (c : Var) (a b : CodeBlock) → (right_is_clear clear) (code_right_term (right.If c a b)) ≡ ((is_clear clear) (code_term a) && (is_clear clear) (code_term b))
  if_adds c a b = ap (right_is_clear clear) (if_term c a b)

  pub loop_adds : (first : Bool) (start params : Vec Var Global) (test body : CodeBlock) (s : Site) → (right_is_clear clear) (code_right_term (right.Loop first start params test body s)) ≡ ((is_clear clear) (code_term test) && (is_clear clear) (code_term body))
  loop_adds first start params test body s = ap (right_is_clear clear) (loop_term first start params test body s)

  pub with_adds : (w : CodeWith) → (right_is_clear clear) (code_with_term w) ≡ (gens_are_clear clear) (gens_term (out-CodeWith w).gens.items)
  with_adds w = ap (right_is_clear clear) (with_out w)

  parted_adds : (p : CodeParted) → (right_is_clear clear) (code_parted_term p) ≡ (not (is_some (out-CodeParted p).reuse) && (parts_are_clear clear) (parts_term (out-CodeParted p).parts.items))
  parted_adds p = ap (right_is_clear clear) (parted_out p)

  pub parted_marked : (p : CodeParted) → is_some (out-CodeParted p).reuse ≡ true → false ≡ (right_is_clear clear) (code_parted_term p)
  parted_marked p e = sym (parted_adds p ∙ ap (λ b. not b && (parts_are_clear clear) (parts_term (out-CodeParted p).parts.items)) e)

  pub parted_unmarked : (p : CodeParted) → is_some (out-CodeParted p).reuse ≡ false → (parts_are_clear clear) (parts_term (out-CodeParted p).parts.items) ≡ (right_is_clear clear) (code_parted_term p)
  parted_unmarked p e = sym (parted_adds p ∙ ap (λ b. not b && (parts_are_clear clear) (parts_term (out-CodeParted p).parts.items)) e)

-- ---- two blocks, of which the second is looked at where the first has no mark

pub second_says : (x y a b r : Bool) → x ≡ a → x ≡ true → y ≡ b → r ≡ (a && b) → y ≡ r
second_says x y a b r is t says both = says ∙ sym (both ∙ ap (λ a. a && b) (sym is ∙ t))

pub first_says : (x a b r : Bool) → x ≡ a → x ≡ false → r ≡ (a && b) → x ≡ r
first_says x a b r is f both = f ∙ sym (both ∙ ap (λ a. a && b) (sym is ∙ f))
