-- A right side after both steps.
use Rattle.std.proofs.Common.{◌≡◌, List, [], ◌∷◌, refl, sym, ap, ◌∙◌}
use Rattle.core_ir.specs.Terms.{RightTerm, Plain}
use Rattle.core_facts.specs.Facts.{Fact, Facts}
use Rattle.core_forms.proofs.cleaning.Checks.{same_plain_fact}
use Rattle.plain_facts.specs.Rights.{fact_of_right}
use Rattle.const_shape.specs.Settling.{literal_plain, settled_plain, without_check}

both_steps : (r : RightTerm) (k : Facts) → without_check (literal_plain r k) k ≡ settled_plain r k
both_steps (Plain p) k = refl
both_steps (RightTerm.If x a b) k = refl
both_steps (RightTerm.Loop first start params test body s) k = refl
both_steps (RightTerm.Call g xs) k = refl
both_steps (RightTerm.With o gens) k = refl
both_steps (RightTerm.Parted frame base cell o parts) k = refl

as_known : (r : RightTerm) (k : Facts) → fact_of_right (without_check r k) k ≡ fact_of_right r k
as_known (Plain p) k = same_plain_fact p k
as_known (RightTerm.If x a b) k = refl
as_known (RightTerm.Loop first start params test body s) k = refl
as_known (RightTerm.Call g xs) k = refl
as_known (RightTerm.With o gens) k = refl
as_known (RightTerm.Parted frame base cell o parts) k = refl

pub unchecked_is : (r mid new : RightTerm) (k : Facts) → mid ≡ literal_plain r k → new ≡ without_check mid k → new ≡ settled_plain r k
unchecked_is r mid new k p q = q ∙ ap (λ z. without_check z k) p ∙ both_steps r k

pub unchecked_known : (mid new : RightTerm) (k : Facts) (known : List Fact) → new ≡ without_check mid k → known ≡ fact_of_right mid k ∷ [] → known ≡ fact_of_right new k ∷ []
unchecked_known mid new k known q p = p ∙ (λ i. (sym (as_known mid k) ∙ ap (λ z. fact_of_right z k) (sym q)) i ∷ [])
