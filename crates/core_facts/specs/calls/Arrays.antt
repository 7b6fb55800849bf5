-- Functions that mean the same on arrays of their parameters' types.
use Rattle.std.specs.Prelude.{◌≡◌, ℕ, true, List, [], Some, Ok, slice_get}
use Rattle.sac_base.specs.declared.faults.Caps.{Caps}
use Rattle.sac_base.specs.declared.site.Site.{Site}
use Rattle.sac_base.specs.Arrays.{ArrayValue}
use Rattle.sac_base.specs.Types.{all_have}
use Rattle.core_ir.specs.Terms.{FunTerm, CoreTerm}
use Rattle.core_ir.specs.Meaning.{CallMeaning}
use Rattle.core_ir.specs.Outcome.{RunMeaning, param_types, group_at, body_of, call_by, run_inline, outcome}
use Rattle.core_facts.specs.Facts.{DescribeAll}
use Rattle.core_facts.specs.Full.{FullInside}
use Rattle.core_facts.specs.calls.Nests.{CallsAll, StandsIn, InlineBelow}

-- arrays that have as many cells as their shapes say
abbrev pub AllFull : List ArrayValue → Type 0
AllFull vs = DescribeAll [] vs

-- calls of such arrays give such arrays
abbrev pub CallsKeepFull : CallMeaning → Type 0
CallsKeepFull calls = (g : ℕ) (args vs : List ArrayValue) (s : Site) → AllFull args → calls g args s ≡ Ok vs → AllFull vs

-- some instance of the group takes the arguments and declares the results
abbrev pub InTypes : CoreTerm → ℕ → List ArrayValue → List ArrayValue → Type 0
InTypes core g args vs = (place : ℕ) ×
    ((f : FunTerm) × (StandsIn (group_at core g) place × (slice_get core.functions place ≡ Some f) × (all_have f.results vs ≡ true) ×
    (all_have (param_types f) args ≡ true)))

-- calls give what an instance that takes the arguments declares, and arrays for arrays
abbrev pub CallsKeep : CoreTerm → CallMeaning → Type 0
CallsKeep core calls = (g : ℕ) (args vs : List ArrayValue) (s : Site) → calls g args s ≡ Ok vs → (AllFull args → AllFull vs) × InTypes core g args vs

-- in each function right sides of such arrays give such arrays, where calls do
abbrev pub KeepsArrays : CoreTerm → Type 0
KeepsArrays core = (calls : CallMeaning) (turns place : ℕ)
    (f : FunTerm) → CallsKeepFull calls → slice_get core.functions place ≡ Some f → FullInside calls turns f.body

-- Each function means the same on arrays of its parameters' types, where the calls in it are those of the first core, give arrays of the declared
-- types for arrays, and inline calls may nest as deep as the function's calls need.
abbrev pub SameBodiesOnArrays : CoreTerm → CoreTerm → Type 0
SameBodiesOnArrays a b =
    (turns : ℕ) (outer : RunMeaning) (nest place : ℕ) (f : FunTerm) (args : List ArrayValue)
    (site : Site) → slice_get a.functions place ≡ Some f → CallsAll (InlineBelow a nest) f.body
    → CallsKeep a (call_by a outer (run_inline a turns outer nest)) → AllFull args → all_have (param_types f) args ≡ true
    → body_of turns (call_by a outer (run_inline a turns outer nest))
    (slice_get a.functions place) args site ≡ body_of turns (call_by a outer (run_inline a turns outer nest)) (slice_get b.functions place) args site

-- on all arguments that are arrays, and under all limits
abbrev pub SameOutcomeOnArrays : CoreTerm → CoreTerm → Type 0
SameOutcomeOnArrays a b = (args : List ArrayValue) (caps : Caps) → AllFull args → outcome a args caps ≡ outcome b args caps
