-- Arrays that may be arguments.
use Rattle.std.specs.Prelude.{◌≡◌, List, [], ◌∷◌}
use Rattle.sac_base.specs.declared.base.Base.{Base}
use Rattle.sac_base.specs.Arrays.{ArrayValue, IsWellTyped}

-- an array for each parameter, of its base and with elements of that base, so that a truth value is 0 or 1
abbrev pub AreArguments : List Base → List ArrayValue → Type 0
AreArguments [] [] = Unit {0}
AreArguments (base ∷ bases) (a ∷ as') = (a.base ≡ base) × (IsWellTyped a × AreArguments bases as')
AreArguments [] (a ∷ as') = ⊥
AreArguments (base ∷ bases) [] = ⊥
