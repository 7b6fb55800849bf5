-- A right side that is none of those with blocks and calls.
use Rattle.std.proofs.Common.{◌≡◌, Bool, ℕ, refl, sym, ap, ◌∙◌, subst, Vec, Global}
use Rattle.sac_base.specs.declared.site.Site.{Site}
use Rattle.core_ir.specs.declared.tree.Var.{Var}
use Rattle.counted_code.specs.declared.tree.CodeBlock.{CodeBlock}
use Rattle.counted_code.specs.declared.tree.CodeParted.{CodeParted}
use Rattle.counted_code.specs.declared.tree.CodeRight.{CodeRight, CodeRight-F, out-CodeRight, roll-CodeRight, roll-out-CodeRight}
use Rattle.counted_code.specs.declared.tree.CodeRight.TheBlock.{the_data, the_data-1, the_data-2, the_data-3, the_data-4, the_data-5, the_data-6, the_data-7}
use Rattle.counted_code.specs.declared.tree.CodeRight.TheVariants as right
use Rattle.counted_code.specs.declared.tree.CodeWith.{CodeWith}
use Rattle.counted_code.specs.View.{code_right_term}
use Rattle.run_plain.specs.Reads.{IsPlain}

pub plain_rest : (r : CodeRight)
    → ((x : Var) (a b : CodeBlock) → r ≡ right.If x a b → ⊥)
    → ((first : Bool) (start params : Vec Var Global) (test body : CodeBlock) (site : Site) → r ≡ right.Loop first start params test body site → ⊥)
    → ((group : ℕ) (args : Vec Var Global) → r ≡ right.Call group args → ⊥)
    → ((w : CodeWith) → r ≡ right.With w → ⊥)
    → ((p : CodeParted) → r ≡ right.Parted p → ⊥)
    → IsPlain (code_right_term r)
unfolding roll-CodeRight denote.Hole.Carrier.roll
plain_rest r not_if not_loop not_call not_with not_parted = by_layer (out-CodeRight r) refl
  where
    by_layer : (l : CodeRight-F the_data the_data-1 the_data-2 the_data-3 the_data-4 the_data-5 the_data-6 the_data-7) → out-CodeRight r ≡ l → IsPlain (code_right_term r)
    by_layer (CodeRight-F.If x a b) s = absurd (not_if x a b (sym (roll-out-CodeRight r) ∙ ap roll-CodeRight s ∙ right.rolls-If x a b))
    by_layer (CodeRight-F.Loop first start params test body site) s = absurd (not_loop first start params test body site (sym (roll-out-CodeRight r) ∙ ap roll-CodeRight s ∙ right.rolls-Loop first start params test body site))
    by_layer (CodeRight-F.Call group args) s = absurd (not_call group args (sym (roll-out-CodeRight r) ∙ ap roll-CodeRight s ∙ right.rolls-Call group args))
    by_layer (CodeRight-F.With w) s = absurd (not_with w (sym (roll-out-CodeRight r) ∙ ap roll-CodeRight s ∙ right.rolls-With w))
    by_layer (CodeRight-F.Parted p) s = absurd (not_parted p (sym (roll-out-CodeRight r) ∙ ap roll-CodeRight s ∙ right.rolls-Parted p))
    by_layer l s = subst (λ (q : CodeRight). IsPlain (code_right_term q)) (sym (ap roll-CodeRight s) ∙ roll-out-CodeRight r) tt
