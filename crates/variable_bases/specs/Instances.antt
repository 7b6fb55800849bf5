-- The bases that the instances of a group take and give.
use Rattle.std.specs.Prelude.{◌≡◌, ◌⊎◌, ℕ, List, map, Contains, Some, slice_get}
use Rattle.sac_base.specs.declared.base.Base.{Base}
use Rattle.core_ir.specs.Outcome.{param_types}
use Rattle.core_ir.specs.Terms.{FunTerm, CoreTerm}
use Rattle.core_ir.specs.WellFormed.{GroupBases, bases}
use Rattle.variable_bases.specs.declared.signatures.Signature.{Signature}
use Rattle.variable_bases.specs.declared.signatures.Signatures.{Signatures}

-- one of them takes and gives these
abbrev pub HasSignature : List Signature → List Base → List Base → Type 0
HasSignature signatures takes gives =
    (one : Signature) × (Contains signatures one × (one.takes.items ≡ takes) × (one.gives.items ≡ gives))

-- some instance of the group takes and gives these
abbrev pub Instance : Signatures → ℕ → List Base → List Base → Type 0
Instance signatures group takes gives =
    (instances : List Signature) ×
    ((slice_get (map (λ g. g.items) signatures.groups.items) group ≡ Some instances) × HasSignature instances takes gives)

-- those of all instances of a core
abbrev pub HasInstances : Signatures → CoreTerm → Type 0
HasInstances signatures core =
    (group : ℕ) (takes gives : List Base) → GroupBases core group takes gives → Instance signatures group takes gives

-- and none else
abbrev pub OnlyInstances : Signatures → CoreTerm → Type 0
OnlyInstances signatures core =
    (group : ℕ) (takes gives : List Base) → Instance signatures group takes gives → GroupBases core group takes gives

-- instances of a group that take the same give the same
abbrev pub AreUnique : Signatures → Type 0
AreUnique signatures =
    (group : ℕ) (takes gives others : List Base) → Instance signatures group takes gives → Instance signatures group takes others → gives ≡ others

-- those of the functions at these places
abbrev pub HasPlaces : List FunTerm → List ℕ → List Signature → Type 0
HasPlaces fs places signatures =
    (place : ℕ) (f : FunTerm) → Contains places place → slice_get fs place ≡ Some f →
    HasSignature signatures (bases (param_types f)) (bases f.results)

-- the function at a place takes and gives these
abbrev pub StandsAt : List FunTerm → ℕ → List Base → List Base → Type 0
StandsAt fs place takes gives = (f : FunTerm) × ((slice_get fs place ≡ Some f) × (bases (param_types f) ≡ takes) × (bases f.results ≡ gives))

-- none but those of the functions at these places
abbrev pub OnlyPlaces : List FunTerm → List ℕ → List Signature → Type 0
OnlyPlaces fs places signatures =
    (takes gives : List Base) → HasSignature signatures takes gives → (place : ℕ) × (Contains places place × StandsAt fs place takes gives)

-- and one place more
pub record AddsPlace (fs : List FunTerm) (place : ℕ) (before after : List Signature) : Type 0 where
  pub keeps : (takes gives : List Base) → HasSignature before takes gives → HasSignature after takes gives
  pub has : (f : FunTerm) → slice_get fs place ≡ Some f → HasSignature after (bases (param_types f)) (bases f.results)
  pub only : (takes gives : List Base) → HasSignature after takes gives → HasSignature before takes gives ⊎ StandsAt fs place takes gives
