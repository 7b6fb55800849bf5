-- Calls that have instances for the known shapes of their arguments.
use Rattle.std.specs.Prelude.{◌≡◌, ℕ, ◌≤◌, ◌⊎◌, true, List, [], ◌∷◌, map, Option, Some, None, slice_get, All}
use Rattle.sac_base.specs.declared.form.Form.{Form}
use Rattle.sac_base.specs.declared.types.ArrayType.{ArrayType}
use Rattle.sac_base.specs.Types.{all_have_forms}
use Rattle.core_ir.specs.Outcome.{param_types, group_at}
use Rattle.core_ir.specs.Terms.{FunTerm, CoreTerm}
use Rattle.core_facts.specs.calls.Nests.{StandsIn}
use Rattle.core_facts.specs.constants.Called.{called, params_facts}
use Rattle.known_calls.specs.Known.{GroupAndShapes, known_in}
use Rattle.specialise.specs.Tables.{known_count}
use Rattle.specialise.specs.Mains.{AreExact}

abbrev pub types_of : Option FunTerm → List ArrayType
types_of None = []
types_of (Some f) = param_types f

-- the types of the parameters of a group's instances
abbrev pub group_types : CoreTerm → ℕ → List (List ArrayType)
group_types core group = map (λ place. types_of (slice_get core.functions place)) (group_at core group)

-- an instance of a group
pub record IsMember (core : CoreTerm) (group : ℕ) (f : FunTerm) : Type 0 where
  pub place : ℕ
  pub stands : StandsIn (group_at core group) place
  pub there : slice_get core.functions place ≡ Some f

-- an instance of the group takes arrays of these forms, and no others
pub record HasOwn (core : CoreTerm) (group : ℕ) (forms : List Form) : Type 0 where
  pub function : FunTerm
  pub is : IsMember core group function
  pub alone : AreExact (param_types function) forms

abbrev pub shapes_in : List Form → List (List ℕ)
shapes_in forms = map (λ (form : Form). form.shape) forms

-- Where an instance of the group takes arrays of these shapes, whatever their bases, one takes them alone, or at least 16 have known shapes for all
-- parameters.
abbrev pub CallServed : CoreTerm → ℕ → List (List ℕ) → Type 0
CallServed core group shapes =
    (forms : List Form) (f : FunTerm) → shapes_in forms ≡ shapes → IsMember core group f → all_have_forms (param_types f) forms ≡ true →
    HasOwn core group forms ⊎ (16 ≤ known_count (group_types core group))

-- each call in each function whose arguments have known shapes, by what is known in it of its parameters and of the results of calls
abbrev pub CallsServed : CoreTerm → Type 0
CallsServed core =
    All (λ (f : FunTerm). All (λ (c : GroupAndShapes). CallServed core c.0 c.1) (known_in (called core) f.body (params_facts f))) core.functions
