-- A core with some of its functions once more, for narrower types of parameters.
use Rattle.std.specs.Prelude.{◌≡◌, ℕ, ◌^◌, ◌<◌, Bool, true, false, List, ◌++◌, map, length, AllPairs, Some, slice_get}
use Rattle.std.specs.List.{list_all}
use Rattle.sac_base.specs.declared.types.ArrayType.{ArrayType}
use Rattle.sac_base.specs.declared.types.Part.{Part}
use Rattle.sac_base.specs.declared.types.Part.TheVariants.{Known}
use Rattle.sac_base.specs.Types.{all_below}
use Rattle.core_ir.specs.Outcome.{param_types, param_vars, group_at}
use Rattle.core_ir.specs.Terms.{FunTerm, CoreTerm}
use Rattle.core_ir.specs.WellFormed.{bases as bases_of}
use Rattle.core_facts.specs.calls.Nests.{StandsIn}

abbrev pub is_known : Part → Bool
is_known (Known shape) = true
is_known _ = false

-- each type has one shape
abbrev pub all_known : List ArrayType → Bool
all_known types = list_all (λ (ty : ArrayType). is_known ty.part) types

-- the same function, with other types of the same bases for its parameters
pub record IsCopy (f g : FunTerm) : Type 0 where
  pub name : f.name ≡ g.name
  pub site : f.site ≡ g.site
  pub vars : param_vars f ≡ param_vars g
  pub bases : bases_of (param_types f) ≡ bases_of (param_types g)
  pub results : f.results ≡ g.results
  pub inlines : f.is_inline ≡ g.is_inline
  pub body : f.body ≡ g.body
  pub ends : f.ends ≡ g.ends

-- The types of a further instance of a group, made of the function at a place: they have one shape each, and they lie in those of that function,
-- which is the least instance that takes arrays of these shapes, and takes others too.
pub record IsNarrowed (core : CoreTerm) (group place : ℕ) (types : List ArrayType) : Type 0 where
  pub function : FunTerm
  pub there : slice_get core.functions place ≡ Some function
  pub stands : StandsIn (group_at core group) place
  pub known : all_known types ≡ true
  pub inside : all_below types (param_types function) ≡ true
  pub narrower : all_below (param_types function) types ≡ false
  pub least : (other : ℕ) (h : FunTerm) → StandsIn (group_at core group) other → slice_get core.functions other ≡ Some h →
      all_below types (param_types h) ≡ true → all_below (param_types function) (param_types h) ≡ true

-- the types of the later place do not lie in those of the earlier one
abbrev pub LaterElsewhere : List FunTerm → ℕ → ℕ → Type 0
LaterElsewhere fs i j =
    (f g : FunTerm) → slice_get fs i ≡ Some f → slice_get fs j ≡ Some g → all_below (param_types g) (param_types f) ≡ false

-- The second core has the functions of the first in their order, copies behind their sources, and each group has further instances behind its own.
pub record IsSpecialised (a b : CoreTerm) : Type 0 where
  -- the place in the first core of what stands at a place of the second
  pub of : ℕ → ℕ
  -- where the function at a place of the first core stands in the second
  pub at : ℕ → ℕ
  -- the further instances of a group
  pub further : ℕ → List ℕ
  pub kept : (place : ℕ) (f : FunTerm) → slice_get a.functions place ≡ Some f → (slice_get b.functions (at place) ≡ Some f) × (of (at place) ≡ place)
  pub source : (place : ℕ) (g : FunTerm) → slice_get b.functions place ≡ Some g → (f : FunTerm) × ((slice_get a.functions (of place) ≡ Some f) × IsCopy f g)
  pub ordered : (i j : ℕ) → i < length b.functions → j < length b.functions → of j < of i → j < i
  pub count : length b.groups ≡ length a.groups
  pub groups : (group : ℕ) (places : List ℕ) → slice_get a.groups group ≡ Some places → slice_get b.groups group ≡ Some (map at places ++ further group)
  pub instances : (group place : ℕ) → StandsIn (further group) place →
      (g : FunTerm) × ((slice_get b.functions place ≡ Some g) × IsNarrowed a group (of place) (param_types g))
  pub apart : (group : ℕ) → AllPairs (LaterElsewhere b.functions) (further group)
  pub main : (g : FunTerm) × ((slice_get b.functions b.main ≡ Some g) × (of b.main ≡ a.main))
  pub few : length b.functions < 2 ^ 32
