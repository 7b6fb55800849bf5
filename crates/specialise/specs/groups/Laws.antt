-- The statements of the laws.
use Rattle.std.specs.Prelude.{◌≡◌, ℕ, List, Some, slice_get}
use Rattle.sac_base.specs.declared.faults.Caps.{Caps}
use Rattle.sac_base.specs.Arrays.{ArrayValue}
use Rattle.sac_base.specs.Types.{all_have}
use Rattle.core_ir.specs.Outcome.{param_types, outcome}
use Rattle.core_ir.specs.Terms.{FunTerm, CoreTerm}
use Rattle.core_ir.specs.WellFormed.{IsWellFormed}
use Rattle.core_facts.specs.constants.Called.{called}
use Rattle.specialise.specs.groups.Specialised.{IsSpecialised}

-- the outcome stays on arguments that both main functions take, or both do not
abbrev pub SpecialisedCoresKeepOutcomes : Type 0
SpecialisedCoresKeepOutcomes =
    (a b : CoreTerm) → IsWellFormed a → IsSpecialised a b → (args : List ArrayValue) (caps : Caps) →
    ((f g : FunTerm) → slice_get a.functions a.main ≡ Some f → slice_get b.functions b.main ≡ Some g →
    all_have (param_types f) args ≡ all_have (param_types g) args) →
    outcome a args caps ≡ outcome b args caps

abbrev pub SpecialisedCoresAreWellFormed : Type 0
SpecialisedCoresAreWellFormed = (a b : CoreTerm) → IsWellFormed a → IsSpecialised a b → IsWellFormed b

-- the known shapes of the results of a group, in all instances, stay
abbrev pub SpecialisedGroupsGiveTheSameShapes : Type 0
SpecialisedGroupsGiveTheSameShapes =
    (a b : CoreTerm) → IsWellFormed a → IsSpecialised a b → (group : ℕ) → called b group ≡ called a group
