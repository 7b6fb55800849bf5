-- Right sides with blocks and calls.
use Rattle.std.proofs.Common.{◌≡◌, ℕ, Bool, List, [], ◌∷◌, Option, refl, sym, subst, inl, inr, Vec, Global}
use Rattle.std.specs.Prelude.{◌⊎◌}
use Rattle.sac_base.specs.declared.base.Base.{Base}
use Rattle.sac_base.specs.declared.grid.Grid1.{Grid1}
use Rattle.sac_base.specs.declared.site.Site.{Site}
use Rattle.core_ir.specs.declared.tree.Var.{Var}
use Rattle.core_ir.specs.declared.tree.CoreOp.{CoreOp}
use Rattle.core_ir.specs.declared.tree.PartedOp.{PartedOp}
use Rattle.core_ir.specs.Terms.{RightTerm}
use Rattle.core_facts.specs.Facts.{Facts}
use Rattle.core_loops.specs.Indices.{IndexFacts, learn_index}
use Rattle.counted_code.specs.declared.tree.CodeBlock.{CodeBlock}
use Rattle.counted_code.specs.declared.tree.CodeRight.{CodeRight}
use Rattle.counted_code.specs.declared.tree.CodeRight.TheVariants as right
use Rattle.counted_code.specs.declared.tree.CodeWith.{CodeWith, CodeWith'}
use Rattle.counted_code.specs.declared.tree.CodeParted.{CodeParted, CodeParted'}
use Rattle.counted_code.specs.Terms.{CodeTerm, CodeRightTerm, CodeGensTerm, CodePartsTerm, IfCode, LoopCode, CallCode, WithCode, PartedCode}
use Rattle.counted_code.specs.View.{code_term, code_right_term, code_with_term, code_parted_term}
use Rattle.counted_code.proofs.Trees.{if_term, loop_term}
use Rattle.reuse_candidates.specs.Plain.{plain_core}

-- as an arm over all of them says it
abbrev pub HasBlocks : CodeRight → Type 0
HasBlocks r =
    ((x : Var) × (a : CodeBlock) × (b : CodeBlock) × (r ≡ right.If x a b))
    ⊎ (((first : Bool) × (start : Vec Var Global) × (params : Vec Var Global) × (test : CodeBlock) × (body : CodeBlock) × (s : Site) × (r ≡ right.Loop first start params test body s))
    ⊎ (((g : ℕ) × (xs : Vec Var Global) × (r ≡ right.Call g xs))
    ⊎ (((w : CodeWith) × (r ≡ right.With w))
    ⊎ ((p : CodeParted) × (r ≡ right.Parted p)))))

-- what holds of terms with blocks and calls
module _ (P : CodeRightTerm → Type 0) (ifs : (x : Var) (a b : CodeTerm) → P (IfCode x a b)) (loops : (first : Bool) (start params : List Var) (a b : CodeTerm) (s : Site) → P (LoopCode first start params a b s))
    (calls : (g : ℕ) (xs : List Var) → P (CallCode g xs)) (withs : (o : CoreOp) (gs : CodeGensTerm) → P (WithCode o gs))
    (parteds : (f : List Grid1) (t : Base) (l : List ℕ) (o : PartedOp) (ps : CodePartsTerm) (reuse : Option Var) → P (PartedCode f t l o ps reuse)) where
  with_holds : (w : CodeWith) → P (code_with_term w)
  with_holds (CodeWith' shape gens op) = withs op _

  parted_holds : (p : CodeParted) → P (code_parted_term p)
  parted_holds (CodeParted' frame base cell op shape parts reuse) = parteds frame base cell op _ reuse

  pub with_blocks : (r : CodeRight) → HasBlocks r → P (code_right_term r)
  with_blocks r (inl (x, a, b, e)) = subst (λ q. P (code_right_term q)) (sym e) (subst P (sym (if_term x a b)) (ifs x (code_term a) (code_term b)))
  with_blocks r (inr (inl (first, start, params, test, body, s, e))) =
      subst (λ q. P (code_right_term q)) (sym e) (subst P (sym (loop_term first start params test body s)) (loops first start.items params.items (code_term test) (code_term body) s))
  with_blocks r (inr (inr (inl (g, xs, e)))) = subst (λ q. P (code_right_term q)) (sym e) (calls g xs.items)
  with_blocks r (inr (inr (inr (inl (w, e))))) = subst (λ q. P (code_right_term q)) (sym e) (with_holds w)
  with_blocks r (inr (inr (inr (inr (p, e))))) = subst (λ q. P (code_right_term q)) (sym e) (parted_holds p)

-- ---- what a binding tells beside the index

-- of a right side with blocks or calls it is nothing, as of one that always faults
pub learns_plain : (n : ℕ) (m : IndexFacts) (xs : List Var) (r : RightTerm) (k : Facts) → learn_index n m xs (plain_core r) k ≡ learn_index n m xs r k
learns_plain n m [] r k = refl
learns_plain n m (x ∷ []) (RightTerm.Plain p) k = refl
learns_plain n m (x ∷ []) (RightTerm.If c a b) k = refl
learns_plain n m (x ∷ []) (RightTerm.Loop first start params test body s) k = refl
learns_plain n m (x ∷ []) (RightTerm.Call g ys) k = refl
learns_plain n m (x ∷ []) (RightTerm.With o gens) k = refl
learns_plain n m (x ∷ []) (RightTerm.Parted f t l o parts) k = refl
learns_plain n m (x ∷ y ∷ xs) r k = refl
