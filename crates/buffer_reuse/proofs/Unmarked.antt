-- Right sides that are no parted loops, and facts of those without blocks.
use Rattle.std.proofs.Common.{◌≡◌, Some, refl, sym, ap, ◌∙◌, subst}
use Rattle.core_ir.specs.declared.tree.Var.{Var}
use Rattle.core_ir.specs.Terms.{RightTerm, Plain}
use Rattle.core_facts.specs.Facts.{Facts}
use Rattle.counted_code.specs.declared.tree.CodeParted.{CodeParted}
use Rattle.counted_code.specs.declared.tree.CodeRight.{CodeRight, CodeRight-F, out-CodeRight, roll-CodeRight, roll-out-CodeRight}
use Rattle.counted_code.specs.declared.tree.CodeRight.TheBlock.{the_data, the_data-1, the_data-2, the_data-3, the_data-4, the_data-5, the_data-6, the_data-7}
use Rattle.counted_code.specs.declared.tree.CodeRight.TheVariants as right
use Rattle.counted_code.specs.declared.tree.CodeWith.{CodeWith, CodeWith'}
use Rattle.counted_code.specs.View.{code_right_term, code_with_term}
use Rattle.counted_marks.specs.Marking.{with_mark}
use Rattle.plain_facts.specs.Rights.{fact_of_right}
use Rattle.reuse_candidates.specs.Plain.{plain_core}

unmarked_with : (v : Var) (w : CodeWith) → code_with_term w ≡ with_mark (Some v) (code_with_term w)
unmarked_with v (CodeWith' shape gens op) = refl

-- only a parted loop takes a mark
pub unmarked : (v : Var) (r : CodeRight) → ((p : CodeParted) → r ≡ right.Parted p → ⊥) → code_right_term r ≡ with_mark (Some v) (code_right_term r)
unfolding roll-CodeRight denote.Hole.Carrier.roll
unmarked v r other = by_layer (out-CodeRight r) refl
  where
    by_layer : (l : CodeRight-F the_data the_data-1 the_data-2 the_data-3 the_data-4 the_data-5 the_data-6 the_data-7) → out-CodeRight r ≡ l → code_right_term r ≡ with_mark (Some v) (code_right_term r)
    by_layer (CodeRight-F.Parted p) e = absurd (other p (sym (roll-out-CodeRight r) ∙ ap roll-CodeRight e ∙ right.rolls-Parted p))
    by_layer (CodeRight-F.With w) e = subst (λ (q : CodeRight). code_right_term q ≡ with_mark (Some v) (code_right_term q)) (sym (ap roll-CodeRight e) ∙ roll-out-CodeRight r) (unmarked_with v w)
    by_layer l e = subst (λ (q : CodeRight). code_right_term q ≡ with_mark (Some v) (code_right_term q)) (sym (ap roll-CodeRight e) ∙ roll-out-CodeRight r) refl

-- of a right side with blocks or calls nothing is known, as of one that always faults
pub plain_same : (r : RightTerm) (k : Facts) → fact_of_right (plain_core r) k ≡ fact_of_right r k
plain_same (Plain p) k = refl
plain_same (RightTerm.If c a b) k = refl
plain_same (RightTerm.Loop first start params test body s) k = refl
plain_same (RightTerm.Call g xs) k = refl
plain_same (RightTerm.With o gens) k = refl
plain_same (RightTerm.Parted f t l o parts) k = refl
