-- Which instances the new core has.
use Rattle.std.specs.Prelude.{◌≡◌, ◌≤◌, ℕ, zero, suc, false, List, [], ◌∷◌, ◌++◌, map, zip, length, AllPairs, Option, Some, None, slice_get, option_map}
use Rattle.std.specs.declared.alloc.Global.{Global}
use Rattle.std.specs.Prelude.{Vec}
use Rattle.sac_base.specs.declared.types.ArrayType.{ArrayType}
use Rattle.sac_base.specs.Types.{all_below}
use Rattle.core_ir.specs.Outcome.{param_types, param_vars}
use Rattle.core_ir.specs.Terms.{FunTerm, CoreTerm}
use Rattle.core_ir.specs.WellFormed.{bases as bases_of}
use Rattle.core_facts.specs.calls.Nests.{StandsIn}
use Rattle.specialise.specs.groups.Specialised.{IsNarrowed}
use Rattle.specialise.specs.declared.plan.Item.{Item}

-- a function of the core, by its place, and types for its parameters
pub record Entry : Type 0 where
  pub source : ℕ
  pub types : List ArrayType

abbrev pub entry : Item → Entry
entry i = record { source = i.source; types = i.types.items }

abbrev pub entries : List Item → List Entry
entries items = map entry items

abbrev pub members : List (Vec ℕ Global) → List (List ℕ)
members groups = map (λ (g : Vec ℕ Global). g.items) groups

-- the functions themselves, from a place on
abbrev pub owns : ℕ → List FunTerm → List Entry
owns n [] = []
owns n (f ∷ fs) = record { source = n; types = param_types f } ∷ owns (suc n) fs

-- the groups with one number more in one of them
abbrev pub joined : List (List ℕ) → ℕ → ℕ → List (List ℕ)
joined [] g n = []
joined (ns ∷ gs) zero n = (ns ++ (n ∷ [])) ∷ gs
joined (ns ∷ gs) (suc g) n = ns ∷ joined gs g n

-- a function with other types for its parameters
abbrev pub retyped : FunTerm → List ArrayType → FunTerm
retyped f types = record f { params = zip (param_vars f) types }

abbrev pub made_by : CoreTerm → Option Entry → Option FunTerm
made_by core None = None
made_by core (Some e) = option_map (λ (f : FunTerm). retyped f e.types) (slice_get core.functions e.source)

-- the function that an entry stands for
abbrev pub function_at : CoreTerm → List Entry → ℕ → Option FunTerm
function_at core es n = made_by core (slice_get es n)

-- types of the bases of a function's parameters
pub record IsEntry (core : CoreTerm) (e : Entry) : Type 0 where
  pub function : FunTerm
  pub there : slice_get core.functions e.source ≡ Some function
  pub bases : bases_of (param_types function) ≡ bases_of e.types

-- the types of the later entry do not lie in those of the earlier one
abbrev pub LaterElsewhere : List Entry → ℕ → ℕ → Type 0
LaterElsewhere es i j =
    (d e : Entry) → slice_get es i ≡ Some d → slice_get es j ≡ Some e → all_below e.types d.types ≡ false

-- the members of a group: its own, and further ones
pub record HasFurther (core : CoreTerm) (es : List Entry) (gs : List (List ℕ)) (group : ℕ) (places : List ℕ) : Type 0 where
  pub further : List ℕ
  pub all : slice_get gs group ≡ Some (places ++ further)
  pub narrowed : (n : ℕ) → StandsIn further n → (e : Entry) × ((slice_get es n ≡ Some e) × IsNarrowed core group e.source e.types)
  pub apart : AllPairs (LaterElsewhere es) further
  pub few : length further ≤ 16

-- The entries begin with the core's functions, and the members of each group with its own.
pub record IsPlan (core : CoreTerm) (es : List Entry) (gs : List (List ℕ)) : Type 0 where
  pub own : (place : ℕ) (f : FunTerm) → slice_get core.functions place ≡ Some f → slice_get es place ≡ Some (record { source = place; types = param_types f })
  pub made : (n : ℕ) (e : Entry) → slice_get es n ≡ Some e → IsEntry core e
  pub count : length gs ≡ length core.groups
  pub groups : (group : ℕ) (places : List ℕ) → slice_get core.groups group ≡ Some places → HasFurther core es gs group places

-- entries stay where they are
abbrev pub Keeps : List Entry → List Entry → Type 0
Keeps es more = (n : ℕ) (e : Entry) → slice_get es n ≡ Some e → slice_get more n ≡ Some e
