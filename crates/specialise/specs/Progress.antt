-- Plans that grow, and what in them is served.
use Rattle.std.specs.Prelude.{◌≡◌, ℕ, ◌⊎◌, Bool, true, false, ◌&&◌, List, [], ◌∷◌, ◌++◌, Option, Some, None, Vec, slice_get, All}
use Rattle.std.specs.declared.alloc.Global.{Global}
use Rattle.sac_base.specs.declared.form.Form.{Form}
use Rattle.sac_base.specs.declared.types.ArrayType.{ArrayType}
use Rattle.sac_base.specs.Types.{has_shape}
use Rattle.core_ir.specs.Outcome.{group_at, param_vars}
use Rattle.core_ir.specs.Terms.{FunTerm, CoreTerm}
use Rattle.core_facts.specs.calls.Nests.{StandsIn}
use Rattle.core_facts.specs.constants.Called.{called}
use Rattle.known_calls.specs.declared.calls.KnownCall.{KnownCall}
use Rattle.known_calls.specs.Known.{GroupAndShapes, known_in, typed_facts}
use Rattle.known_calls.specs.Told.{told}
use Rattle.specialise.specs.Plans.{Entry, Keeps}
use Rattle.specialise.specs.Tables.{types_at, exact, forms_by}
use Rattle.specialise.specs.Serving.{types_within, wants_more, Serves}

-- entries stay where they are, and members of groups do
pub record Grows (es : List Entry) (gs : List (List ℕ)) (more : List Entry) (others : List (List ℕ)) : Type 0 where
  pub kept : Keeps es more
  pub longer : (group : ℕ) (ns : List ℕ) → slice_get gs group ≡ Some ns → (ms : List ℕ) × (slice_get others group ≡ Some (ns ++ ms))

-- types of so many parameters contain arrays of these shapes
abbrev pub fit : List ArrayType → List (List ℕ) → Bool
fit [] [] = true
fit (ty ∷ types) (shape ∷ shapes) = has_shape ty.part shape && fit types shapes
fit [] (shape ∷ shapes) = false
fit (ty ∷ types) [] = false

-- the forms of the arrays of these shapes in the types, if there are any
abbrev pub FormsFound : List ArrayType → List (List ℕ) → Option (Vec Form Global) → Type 0
FormsFound types shapes None = fit types shapes ≡ false
FormsFound types shapes (Some forms) = (fit types shapes ≡ true) × (forms.items ≡ forms_by types shapes)

-- a call was served with the bases of an own instance, if that has arrays of these shapes
abbrev pub ServesPlace : List ℕ → ℕ → List (List ℕ) → ℕ → List Entry → List (List ℕ) → List Entry → List (List ℕ) → Type 0
ServesPlace own group shapes place es gs more others =
    ((fit (types_at es place) shapes ≡ false) × (more ≡ es) × (others ≡ gs))
    ⊎ ((fit (types_at es place) shapes ≡ true) × Serves own group (forms_by (types_at es place) shapes) es gs more others)

-- with the bases of the instance at a place no more is wanted
abbrev pub IsEnough : List Entry → List (List ℕ) → ℕ → List (List ℕ) → ℕ → Type 0
IsEnough es gs group shapes place =
    fit (types_at es place) shapes ≡ true → wants_more (types_within es gs group) (exact (forms_by (types_at es place) shapes)) ≡ false

-- nor with those of any own instance
abbrev pub CallPlanned : CoreTerm → List Entry → List (List ℕ) → GroupAndShapes → Type 0
CallPlanned core es gs c = (place : ℕ) → StandsIn (group_at core c.0) place → IsEnough es gs c.0 c.1 place

-- the same of each call in the function of an entry
abbrev pub EntryPlanned : CoreTerm → List Entry → List (List ℕ) → Entry → Type 0
EntryPlanned core es gs e =
    (f : FunTerm) → slice_get core.functions e.source ≡ Some f →
    All (CallPlanned core es gs) (known_in (called core) f.body (typed_facts (param_vars f) e.types))

-- and of the entry at a number
abbrev pub EntryPlannedAt : CoreTerm → List Entry → ℕ → List Entry → List (List ℕ) → Type 0
EntryPlannedAt core old n es gs = (e : Entry) → slice_get old n ≡ Some e → EntryPlanned core es gs e

-- and of all entries
abbrev pub AllPlanned : CoreTerm → List Entry → List (List ℕ) → Type 0
AllPlanned core es gs = (n : ℕ) (e : Entry) → slice_get es n ≡ Some e → EntryPlanned core es gs e

-- the calls in the function of the entry at a number, if there is one
abbrev pub AreCallsAt : CoreTerm → (ℕ → List (Option (List ℕ))) → List Entry → ℕ → List KnownCall → Type 0
AreCallsAt core shapes es n calls =
    (e : Entry) (f : FunTerm) → slice_get es n ≡ Some e → slice_get core.functions e.source ≡ Some f →
    told calls ≡ known_in shapes f.body (typed_facts (param_vars f) e.types)
