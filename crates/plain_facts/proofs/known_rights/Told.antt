-- What is told of a right side that was made, or that could not be.
use Rattle.std.proofs.Common.{◌≡◌, ℕ, List, [], ◌∷◌, map, Option, sym, ap, subst, ◌∙◌}
use Rattle.std.specs.Prelude.{Result, Ok, Err, IfOk, OnOk}
use Rattle.sac_base.specs.declared.memory.Memory.{Memory}
use Rattle.core_ir.specs.declared.tree.PartedLoop.{PartedLoop, out-PartedLoop}
use Rattle.core_ir.specs.declared.tree.WithLoop.{WithLoop}
use Rattle.core_ir.specs.Terms.{RightTerm}
use Rattle.core_ir.specs.View.{parted_term, right_term, with_term}
use Rattle.core_ir.proofs.Trees.{parted_out, with_out}
use Rattle.core_facts.specs.Facts.{Fact, Facts, known_shape, parted_shape, right_facts, shape_fact}
use Rattle.fact_table.specs.Table.{fact_of}
use Rattle.plain_facts.specs.known_rights.Anywhere.{IsKnownAnywhere}
use Rattle.plain_facts.specs.declared.known_rights.known.KnownRight.{KnownRight}

-- what holds of a term holds of the right side that stands for it
pub holds_of : (P : RightTerm → Type 0) (new : Result KnownRight Memory) (t : RightTerm) → IfOk new (λ (n : KnownRight). right_term n.right ≡ t) → P t → IfOk new (λ (n : KnownRight). P (right_term n.right))
holds_of P (Ok n) t e p = subst P (sym e) p
holds_of P (Err m) t e p = tt

-- what does not speak of the right side
pub holds_on : {P : Type 0} (new : Result KnownRight Memory) → P → OnOk new P
holds_on (Ok n) p = p
holds_on (Err m) p = tt

pub told_as : (new : Result KnownRight Memory) (fs gs : List Fact) → IfOk new (λ (n : KnownRight). map fact_of n.values.items ≡ fs) → fs ≡ gs → IfOk new (λ (n : KnownRight). map fact_of n.values.items ≡ gs)
told_as (Ok n) fs gs h e = h ∙ e
told_as (Err m) fs gs h e = tt

module _ (called : ℕ → List (Option (List ℕ))) (k : Facts) where
  -- what is known of the term is known of the right side
  pub known_of : (new : Result KnownRight Memory) (t : RightTerm) (fs : List Fact) → IfOk new (λ (n : KnownRight). right_term n.right ≡ t) → IfOk new (λ (n : KnownRight). map fact_of n.values.items ≡ fs) → fs ≡ right_facts called t k
      → IfOk new (λ (n : KnownRight). map fact_of n.values.items ≡ right_facts called (right_term n.right) k)
  known_of (Ok n) t fs e h f = h ∙ f ∙ ap (λ r. right_facts called r k) (sym e)
  known_of (Err m) t fs e h f = tt

  -- what is known anywhere is known where the right side stands
  pub known_here : (new : Result KnownRight Memory) → IfOk new (λ (n : KnownRight). IsKnownAnywhere (right_term n.right) (map fact_of n.values.items)) → IfOk new (λ (n : KnownRight). map fact_of n.values.items ≡ right_facts called (right_term n.right) k)
  known_here (Ok n) h = h called k
  known_here (Err m) h = tt

pub with_known : (new : KnownRight) (w : WithLoop) → right_term new.right ≡ with_term w → map fact_of new.values.items ≡ [] → IsKnownAnywhere (right_term new.right) (map fact_of new.values.items)
with_known new w h q = λ called k. q ∙ ap (λ t. right_facts called t k) (sym (with_out w)) ∙ ap (λ t. right_facts called t k) (sym h)

pub parted_known : (new : Result KnownRight Memory) (w : PartedLoop) (known : Fact) → IfOk new (λ (n : KnownRight). right_term n.right ≡ parted_term w) → IfOk new (λ (n : KnownRight). map fact_of n.values.items ≡ known ∷ [])
    → known ≡ shape_fact (known_shape (parted_shape (out-PartedLoop w).frame (out-PartedLoop w).cell (out-PartedLoop w).op)) → IfOk new (λ (n : KnownRight). IsKnownAnywhere (right_term n.right) (map fact_of n.values.items))
parted_known (Ok n) w known h q e = λ called k. q ∙ ap (λ f. f ∷ []) e ∙ ap (λ t. right_facts called t k) (sym (parted_out w)) ∙ ap (λ t. right_facts called t k) (sym h)
parted_known (Err m) w known h q e = tt
