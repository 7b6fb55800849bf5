-- The statements of the laws.
use Rattle.std.specs.Prelude.{◌≡◌, ℕ, List, Ok}
use Rattle.sac_base.specs.declared.base.Base.{Base}
use Rattle.sac_base.specs.Arrays.{ArrayValue}
use Rattle.core_ir.specs.Binders.{bound_in}
use Rattle.core_ir.specs.Terms.{CoreTerm, BlockTerm}
use Rattle.core_ir.specs.Meaning.{Env, CallMeaning, run}
use Rattle.core_ir.specs.WellFormed.{Bases, BlockBases, Distinct, IsWellFormed}
use Rattle.core_facts.specs.calls.Arrays.{CallsKeep}
use Rattle.core_facts.specs.calls.Nests.{CallsBelow}
use Rattle.core_facts.specs.bases.Typed.{HaveBases, Typed, CallsTyped}

-- a block whose bases agree, with variables that are bound once, gives values of these bases where the environment and the calls do
abbrev pub BlocksAreTyped : Type 0
BlocksAreTyped =
    (core : CoreTerm) (calls : CallMeaning) (turns : ℕ) (b : BlockTerm) (g : Bases) (ts : List Base) (e : Env) (vs : List ArrayValue) →
    CallsTyped core calls → BlockBases core g b ts → Distinct (bound_in b) → Typed g e → run calls turns b e ≡ Ok vs → HaveBases ts vs

-- calls of a well-formed core give the bases that the instance found by the bases of the arguments gives, if they give what an instance that takes
-- the arguments declares
abbrev pub CallsAreTyped : Type 0
CallsAreTyped =
    (core : CoreTerm) (calls : CallMeaning) → IsWellFormed core → CallsKeep core calls → CallsTyped core calls

-- in a well-formed core inline functions call inline functions below their own place
abbrev pub CallsGoBelow : Type 0
CallsGoBelow =
    (core : CoreTerm) → IsWellFormed core → CallsBelow core
