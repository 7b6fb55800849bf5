-- Lists of types and of other lengths.
use Rattle.std.proofs.Common.{◌≡◌, suc, List, [], ◌∷◌, length, Bool, true, false, refl, ap}
use Rattle.std.specs.Prelude.{◌&&◌}
use Rattle.sac_base.specs.declared.types.ArrayType.{ArrayType}
use Rattle.sac_base.specs.Arrays.{ArrayValue}
use Rattle.sac_base.specs.Types.{all_have, all_below, has, below}

pub have_length : (tys : List ArrayType) (args : List ArrayValue) → (length tys ≡ length args → ⊥) → all_have tys args ≡ false
have_length [] [] h = absurd (h refl)
have_length [] (a ∷ args) h = refl
have_length (ty ∷ tys) [] h = refl
have_length (ty ∷ tys) (a ∷ args) h = by (has ty a) (have_length tys args (λ e. h (ap suc e)))
  where
    by : (b : Bool) → all_have tys args ≡ false → (b && all_have tys args) ≡ false
    by true e = e
    by false e = refl

pub below_length : (as' bs : List ArrayType) → (length as' ≡ length bs → ⊥) → all_below as' bs ≡ false
below_length [] [] h = absurd (h refl)
below_length [] (b ∷ bs) h = refl
below_length (a ∷ as') [] h = refl
below_length (a ∷ as') (b ∷ bs) h = by (below a b) (below_length as' bs (λ e. h (ap suc e)))
  where
    by : (t : Bool) → all_below as' bs ≡ false → (t && all_below as' bs) ≡ false
    by true e = e
    by false e = refl
