-- What a table says of the bases of variables.
use Rattle.std.specs.Prelude.{◌≡◌, ◌&&◌, Bool, true, false, ℕ, List, [], ◌∷◌, All, Contains, Option, Some, None, slice_index_or}
use Rattle.sac_base.specs.declared.base.Base.{Base}
use Rattle.sac_base.specs.Arrays.{same_base}
use Rattle.core_ir.specs.declared.tree.Var.{Var}
use Rattle.core_ir.specs.Terms.{FunTerm, CoreTerm}
use Rattle.core_ir.specs.WellFormed.{BlockBases, bases, param_bases}
use Rattle.core_loops.specs.norm_steps.Step.{Within, Follows}
use Rattle.core_loops.specs.norm_steps.Step.{BaseTable as AllBases}
use Rattle.variable_bases.specs.declared.signatures.Signature.{Signature}
use Rattle.variable_bases.specs.declared.signatures.Signatures.{Signatures}
use Rattle.variable_bases.specs.declared.table.BaseTable.{BaseTable}
use Rattle.variable_bases.specs.Instances.{AreUnique, HasInstances, HasSignature, Instance}
use Rattle.variable_bases.specs.Sources.{sources, AllMayEnd}

-- the base of a variable, where the table has one
abbrev pub base_in : BaseTable → Var → Option Base
base_in table x = slice_index_or table.slots.items x.0 None

-- each base that the table has is the variable's
abbrev pub Tells : BaseTable → AllBases → Type 0
Tells table m = (x : Var) (t : Base) → base_in table x ≡ Some t → m x ≡ t

-- the table has a base of the variable
abbrev pub IsTold : BaseTable → Var → Type 0
IsTold table x = (t : Base) × (base_in table x ≡ Some t)

-- What a table tells of a function holds in each table that the bases of its variables follow. They may follow several: a variable that always
-- faults may have any base.
abbrev pub TellsOf : FunTerm → Signatures → BaseTable → Type 0
TellsOf f signatures table =
    (core : CoreTerm) → HasInstances signatures core → (m : AllBases) → Within m (param_bases f) →
    (agreeing : BlockBases core (param_bases f) f.body (bases f.results)) → Follows core m f.body (param_bases f) (bases f.results) agreeing →
    Tells table m

-- where no right side of the function always faults, the table has the bases of all its with-loops
abbrev pub HasSources : FunTerm → Signatures → BaseTable → Type 0
HasSources f signatures table =
    (core : CoreTerm) → HasInstances signatures core → AreUnique signatures → (m : AllBases) → Within m (param_bases f) →
    (agreeing : BlockBases core (param_bases f) f.body (bases f.results)) → Follows core m f.body (param_bases f) (bases f.results) agreeing →
    AllMayEnd f.body → All (IsTold table) (sources f.body)

-- ---- operands

abbrev pub may_be : Option Base → Base → Bool
may_be None t = true
may_be (Some u) t = same_base u t

-- the variables may have these bases: those of which the table has a base have it
abbrev pub may_have : BaseTable → List Var → List Base → Bool
may_have table [] [] = true
may_have table (x ∷ xs) (t ∷ ts) = may_be (base_in table x) t && may_have table xs ts
may_have table _ _ = false

-- one of these, which may take the variables
abbrev pub Fits : List Signature → List Var → BaseTable → Signature → Type 0
Fits signatures args table one = Contains signatures one × (may_have table args one.takes.items ≡ true)

-- none of these may take the variables
abbrev pub NoneTakes : List Signature → List Var → BaseTable → Type 0
NoneTakes signatures args table = (takes given : List Base) → HasSignature signatures takes given → may_have table args takes ≡ true → ⊥

-- each of these that may take the variables gives these bases
abbrev pub AllGive : List Signature → List Var → BaseTable → List Base → Type 0
AllGive signatures args table gives =
    (takes given : List Base) → HasSignature signatures takes given → may_have table args takes ≡ true → given ≡ gives

-- and so does each instance of a group
abbrev pub GroupGives : Signatures → ℕ → List Var → BaseTable → List Base → Type 0
GroupGives signatures group args table gives =
    (takes given : List Base) → Instance signatures group takes given → may_have table args takes ≡ true → given ≡ gives

-- one of these may take the variables and gives other bases
abbrev pub SomeGives : List Signature → List Var → BaseTable → List Base → Type 0
SomeGives signatures args table gives =
    (takes : List Base) × ((given : List Base) × (HasSignature signatures takes given × (may_have table args takes ≡ true) × (given ≡ gives → ⊥)))

-- no instance of a group may take the variables, or two give different bases
abbrev pub NoneGives : Signatures → ℕ → List Var → BaseTable → Type 0
NoneGives signatures group args table =
    (takes gives : List Base) → Instance signatures group takes gives → may_have table args takes ≡ true →
    ((others given : List Base) → Instance signatures group others given → may_have table args others ≡ true → given ≡ gives) → ⊥
