-- What the evaluator's answers tell.
use Rattle.std.specs.Prelude.{◌≡◌, Bool, List, Option, Some, None, Result, Ok, Err, Vec, ⊤}
use Rattle.std.specs.declared.alloc.Global.{Global}
use Rattle.sac_base.specs.declared.site.Site.{Site}
use Rattle.sac_base.specs.declared.faults.FaultKind.TheVariants.{F3}
use Rattle.sac_base.specs.declared.outcome.Outcome.{Outcome}
use Rattle.sac_base.specs.declared.outcome.Outcome.TheVariants.{Values, Faulted as EndsFaulted}
use Rattle.sac_base.specs.Arrays.{ArrayValue}
use Rattle.sac_base.specs.Outcomes.{Ends}
use Rattle.sac_base.specs.declared.stop.Stop.{Stop}
use Rattle.sac_base.specs.declared.stop.Stop.TheVariants.{Faulted, Memory}

-- an evaluation that stops with a fault tells that this is the meaning; want of memory says nothing
abbrev pub TellsStop : {A : Type 0} → Stop → Ends A → Type 0
TellsStop (Faulted fault) meant = meant ≡ Err fault
TellsStop Memory meant = ⊤

-- the answer is the meaning
abbrev pub Tells : {A : Type 0} → Result A Stop → Ends A → Type 0
Tells (Ok a) meant = meant ≡ Ok a
Tells (Err stop) meant = TellsStop stop meant

-- the same of a list
abbrev pub TellsItems : {A : Type 0} → Result (Vec A Global) Stop → Ends (List A) → Type 0
TellsItems (Ok v) meant = meant ≡ Ok v.items
TellsItems (Err stop) meant = TellsStop stop meant

-- the same of what an answer stands for
abbrev pub TellsAs : {A B : Type 0} → (A → B) → Result A Stop → Ends B → Type 0
TellsAs view (Ok a) meant = meant ≡ Ok (view a)
TellsAs view (Err stop) meant = TellsStop stop meant

-- the state after statements is the meaning
abbrev pub TellsEnv : {A E : Type 0} → Result A Stop → E → Ends E → Type 0
TellsEnv (Ok _) env meant = meant ≡ Ok env
TellsEnv (Err stop) env meant = TellsStop stop meant

-- what a condition says; one that is no scalar is a fault
abbrev pub TellsCondition : Result Bool Stop → Site → Option Bool → Type 0
TellsCondition (Ok b) site said = said ≡ Some b
TellsCondition (Err (Faulted fault)) site said = (said ≡ None) × (fault ≡ record { kind = F3; site = site })
TellsCondition (Err Memory) site said = ⊤

-- the outcome is the meaning of the program
abbrev pub IsOutcome : Outcome → Ends (List ArrayValue) → Type 0
IsOutcome (Values values) meant = meant ≡ Ok values.items
IsOutcome (EndsFaulted fault) meant = meant ≡ Err fault
