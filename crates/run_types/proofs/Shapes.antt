-- The shape of extents.
use Rattle.std.proofs.Common.{◌≡◌, ℕ, List, ℤ, pos, map, sym, ap, ◌∙◌, subst, Option, Some, None, Result}
use Rattle.std.specs.Prelude.{unsigned_abs, IfSome, IfOk, ok_or}
use Rattle.sac_base.proofs.Extents.{abs_pos}

pub shape_told : {E : Type 0} (e : E) (o : Option (List ℕ)) (r : Result (List ℕ) E) (ns : List ℤ) (shape : List ℕ) → r ≡ ok_or o e → IfSome o (λ s. map pos s ≡ ns) → map unsigned_abs ns ≡ shape → IfOk r (λ s. s ≡ shape)
shape_told {E} e None r ns shape is natural absolute = subst (λ (r : Result (List ℕ) E). IfOk r (λ s. s ≡ shape)) (sym is) tt
shape_told {E} e (Some s) r ns shape is natural absolute =
    subst (λ (r : Result (List ℕ) E). IfOk r (λ s. s ≡ shape)) (sym is) (sym (abs_pos s) ∙ ap (map unsigned_abs) natural ∙ absolute)
