-- The statements of the laws.
use Rattle.std.specs.Prelude.{◌≡◌, ℕ, ◌<◌, true, List, Some, slice_get}
use Rattle.sac_base.specs.Arrays.{ArrayValue}
use Rattle.sac_base.specs.declared.site.Site.{Site}
use Rattle.sac_base.specs.Outcomes.{and_then}
use Rattle.core_ir.specs.declared.tree.Var.{Var}
use Rattle.core_ir.specs.Uses.{AvoidsEach, targets_of}
use Rattle.core_facts.specs.calls.Copies.{copies, CanCopy}
use Rattle.core_ir.specs.Meaning.{Env, CallMeaning, bind_all, run}
use Rattle.core_ir.specs.Outcome.{RunMeaning, SameOutcome, SameOutside, run_inline}
use Rattle.core_ir.specs.Terms.{BlockTerm, LetTerm, FunTerm, CoreTerm, Gives, chain}
use Rattle.core_facts.specs.calls.Arrays.{KeepsArrays, SameBodiesOnArrays, SameOutcomeOnArrays}
use Rattle.core_facts.specs.calls.Nests.{CallsAll, CallsBelow, SameBodiesNested}

-- a block means the same where the calls of the groups in it mean the same
abbrev pub CallsHaveTheirSay : Type 0
CallsHaveTheirSay =
    (calls other : CallMeaning) (turns : ℕ) (b : BlockTerm) → CallsAll (λ g. calls g ≡ other g) b → run calls turns b ≡ run other turns b

-- cores have the same outcome if their functions mean the same where calls are those of the first core and inline calls may nest as deep as they need
abbrev pub InlinedFunctionsKeepOutcomes : Type 0
InlinedFunctionsKeepOutcomes =
    (a b : CoreTerm) → SameOutside a b → CallsBelow a → CallsBelow b → SameBodiesNested a b → SameOutcome a b

-- cores have the same outcome on arrays if their functions mean the same on arrays of their parameters' types, where calls are those of the first
-- core, give arrays of the declared types for arrays, and inline calls may nest as deep as they need
abbrev pub FunctionsOnArraysKeepOutcomes : Type 0
FunctionsOnArraysKeepOutcomes =
    (a b : CoreTerm) → SameOutside a b → CallsBelow a → CallsBelow b → KeepsArrays a → KeepsArrays b → SameBodiesOnArrays a b →
    SameOutcomeOnArrays a b

-- the bindings of a block, followed by copies of its results, are a binding of what the block gives, faults included. What follows uses none of the
-- block's own variables
abbrev pub BlocksMayBeSpliced : Type 0
BlocksMayBeSpliced =
    (calls : CallMeaning) (turns : ℕ) (ls : List LetTerm) (ts zs : List Var) (s : Site) (rest : BlockTerm) (e : Env) → CanCopy ts zs →
    AvoidsEach (targets_of ls) rest →
    run calls turns (chain ls (chain (copies s ts zs) rest)) e ≡ and_then (run calls turns (chain ls (Gives zs)) e)
    (λ ws. run calls turns rest (bind_all e ts ws))

-- an inline function means the same however deep inline calls may nest, if that is deeper than its own place
abbrev pub EnoughIsEnough : Type 0
EnoughIsEnough =
    (core : CoreTerm) (turns : ℕ) (outer : RunMeaning) → CallsBelow core → (m n place : ℕ) (f : FunTerm) → place < m → place < n →
    slice_get core.functions place ≡ Some f → f.is_inline ≡ true → (args : List ArrayValue) (site : Site) →
    run_inline core turns outer m place args site ≡ run_inline core turns outer n place args site
