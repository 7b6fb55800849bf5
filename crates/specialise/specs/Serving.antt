-- What a plan becomes for a call.
use Rattle.std.specs.Prelude.{◌≡◌, ℕ, ◌&&◌, ◌⊎◌, ◌≤◌, not, nat_lt, true, false, Bool}
use Rattle.std.specs.Prelude.{List, [], ◌∷◌, ◌++◌, map, length, Option, Some, None, slice_get, unwrap_or}
use Rattle.sac_base.specs.declared.form.Form.{Form}
use Rattle.sac_base.specs.declared.types.ArrayType.{ArrayType}
use Rattle.sac_base.specs.Types.{all_have_forms, all_below, all_compatible}
use Rattle.core_ir.specs.Outcome.{param_types, group_at}
use Rattle.core_ir.specs.Terms.{FunTerm, CoreTerm}
use Rattle.core_facts.specs.calls.Nests.{StandsIn}
use Rattle.specialise.specs.Plans.{Entry, joined}
use Rattle.specialise.specs.Tables.{types_at, exact, has_same, known_count}

-- the types of a group's instances
abbrev pub types_within : List Entry → List (List ℕ) → ℕ → List (List ArrayType)
types_within es gs group = map (types_at es) (unwrap_or (slice_get gs group) [])

-- no instance is for these types, and less than 16 are for known shapes
abbrev pub wants_more : List (List ArrayType) → List ArrayType → Bool
wants_more lists types = not (has_same lists types) && nat_lt (known_count lists) 16

-- the place is one of these, its types contain the forms, and they are below those of every other one that does
pub record IsSource (es : List Entry) (own : List ℕ) (forms : List Form) (place : ℕ) : Type 0 where
  pub stands : StandsIn own place
  pub fits : all_have_forms (types_at es place) forms ≡ true
  pub least : (other : ℕ) → StandsIn own other → all_have_forms (types_at es other) forms ≡ true → all_below (types_at es place) (types_at es other) ≡ true

-- none of these places has types that contain the forms
abbrev pub NoSource : List Entry → List ℕ → List Form → Type 0
NoSource es own forms = (place : ℕ) → StandsIn own place → all_have_forms (types_at es place) forms ≡ true → ⊥

-- a source, or none where none contains the forms
abbrev pub SourceFound : List Entry → List ℕ → List Form → Option ℕ → Type 0
SourceFound es own forms None = all_compatible (map (types_at es) own) ≡ true → NoSource es own forms
SourceFound es own forms (Some place) = IsSource es own forms place

-- an instance was put into a group
pub record IsServed (own : List ℕ) (group : ℕ) (forms : List Form) (es : List Entry) (gs : List (List ℕ))
    (more : List Entry) (others : List (List ℕ)) : Type 0 where
  pub source : ℕ
  pub is : IsSource es own forms source
  pub wanted : wants_more (types_within es gs group) (exact forms) ≡ true
  pub entries : more ≡ es ++ (record { source = source; types = exact forms } ∷ [])
  pub groups : others ≡ joined gs group (length es)

-- nothing was done, as nothing was wanted
pub record IsLeft (own : List ℕ) (group : ℕ) (forms : List Form) (es : List Entry) (gs : List (List ℕ))
    (more : List Entry) (others : List (List ℕ)) : Type 0 where
  pub reason : (all_compatible (map (types_at es) own) ≡ true → NoSource es own forms) ⊎ (wants_more (types_within es gs group) (exact forms) ≡ false)
  pub entries : more ≡ es
  pub groups : others ≡ gs

abbrev pub Serves : List ℕ → ℕ → List Form → List Entry → List (List ℕ) → List Entry → List (List ℕ) → Type 0
Serves own group forms es gs more others = IsServed own group forms es gs more others ⊎ IsLeft own group forms es gs more others
