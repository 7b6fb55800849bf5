-- The instances of a name.
use Rattle.std.specs.Prelude.{ℕ, ◌<◌, List, IsTrue, map, length, slice_index_or, All}
use Rattle.sac_base.specs.declared.form.Form.{Form}
use Rattle.sac_base.specs.declared.types.ArrayType.{ArrayType}
use Rattle.sac_base.specs.Types.{all_have_forms, all_below}
use Rattle.shape_types.specs.declared.choice.Instance.{Instance}

-- the types of the parameters of each instance
abbrev pub types_of : List Instance → List (List ArrayType)
types_of instances = map (λ (instance : Instance). instance.params.items) instances

-- the list of types at the place contains the forms, and it is below every other that does
pub record IsLeastPlace (lists : List (List ArrayType)) (forms : List Form) (place : ℕ) : Type 0 where
  pub there : place < length lists
  pub fits : (d : List ArrayType) → IsTrue (all_have_forms (slice_index_or lists place d) forms)
  pub least : (d : List ArrayType) → All (λ types. IsTrue (all_have_forms types forms) → IsTrue (all_below (slice_index_or lists place d) types)) lists
