-- The types of the instances of a group.
use Rattle.std.specs.Prelude.{ℕ, suc, Bool, true, false, ◌&&◌, ◌||◌, List, [], ◌∷◌, map, Option, Some, None, slice_get, if◌then◌else◌}
use Rattle.sac_base.specs.declared.form.Form.{Form}
use Rattle.sac_base.specs.declared.types.ArrayType.{ArrayType}
use Rattle.sac_base.specs.declared.types.Part.TheVariants.{Known}
use Rattle.sac_base.specs.Types.{all_below}
use Rattle.specialise.specs.groups.Specialised.{all_known}
use Rattle.specialise.specs.Plans.{Entry}

abbrev pub types_in : Option Entry → List ArrayType
types_in None = []
types_in (Some e) = e.types

abbrev pub types_at : List Entry → ℕ → List ArrayType
types_at es n = types_in (slice_get es n)

-- the types of arrays of these forms alone
abbrev pub exact : List Form → List ArrayType
exact forms = map (λ (form : Form). record { base = form.base; part = Known form.shape }) forms

-- the same arrays lie in both
abbrev pub are_same : List ArrayType → List ArrayType → Bool
are_same types others = all_below types others && all_below others types

abbrev pub has_same : List (List ArrayType) → List ArrayType → Bool
has_same [] types = false
has_same (others ∷ rest) types = are_same others types || has_same rest types

-- how many lists have known shapes alone
abbrev pub known_count : List (List ArrayType) → ℕ
known_count [] = 0
known_count (types ∷ rest) = if all_known types then suc (known_count rest) else known_count rest

-- the forms of arrays of these shapes, with the bases of types
abbrev pub forms_by : List ArrayType → List (List ℕ) → List Form
forms_by (ty ∷ types) (shape ∷ shapes) = record { base = ty.base; shape = shape } ∷ forms_by types shapes
forms_by _ _ = []
