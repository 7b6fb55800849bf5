-- The statements of the laws.
use Rattle.std.specs.Prelude.{◌≡◌, ℕ, ◌<◌, true, List, [], ◌∷◌, Some, map, slice_get}
use Rattle.sac_base.specs.declared.site.Site.{Site}
use Rattle.sac_base.specs.Outcomes.{and_then}
use Rattle.core_ir.specs.declared.tree.Var.{Var}
use Rattle.core_ir.specs.Meaning.{Env, CallMeaning, bind_all, run}
use Rattle.core_ir.specs.Outcome.{RunMeaning, SameOutcome, group_at, call_by, run_inline}
use Rattle.core_ir.specs.Terms.{BlockTerm, FunTerm, CoreTerm, Bind, Call}
use Rattle.core_facts.specs.calls.Nests.{CallsBelow}
use Rattle.core_forms.specs.inlining.Inlined.{CanInline, inlined, instance_value}
use Rattle.core_forms.specs.inlining.Step.{InlineSteps}

-- the function's body in the place of a call, and what follows, mean what the function gives for the arguments and what follows it
abbrev pub BodiesMeanTheirFunctions : Type 0
BodiesMeanTheirFunctions =
    (calls : CallMeaning) (turns by : ℕ) (f : FunTerm) (ts xs : List Var) (s : Site) (rest : BlockTerm) (e : Env) → CanInline by f ts xs rest →
    run calls turns (inlined by f ts s xs rest) e ≡ and_then (instance_value turns calls f (map e xs) s) (λ vs. run calls turns rest (bind_all e ts vs))

-- a call of a group whose only instance is inline may be replaced by that instance's body
abbrev pub CallsMayBeInlined : Type 0
CallsMayBeInlined =
    (core : CoreTerm) (turns : ℕ) (outer : RunMeaning) → CallsBelow core
    → (nest by group place : ℕ) (f : FunTerm) (ts xs : List Var) (s : Site) (rest : BlockTerm) (e : Env) →
    group_at core group ≡ place ∷ [] → slice_get core.functions place ≡ Some f → f.is_inline ≡ true → place < nest → CanInline by f ts xs rest →
    run (call_by core outer (run_inline core turns outer nest)) turns (inlined by f ts s xs rest) e ≡
    run (call_by core outer (run_inline core turns outer nest)) turns (Bind ts s (Call group xs) rest) e

-- inlining steps keep the outcome, and inline functions call below their places after them
abbrev pub InlineStepsKeepOutcomes : Type 0
InlineStepsKeepOutcomes = (a b : CoreTerm) → InlineSteps a b → CallsBelow a → SameOutcome a b × CallsBelow b
