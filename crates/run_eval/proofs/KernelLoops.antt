-- Loops that are run as kernels do what they do on the machine.
use Rattle.std.proofs.Common.{◌≡◌, ℕ, List, ◌++◌, map, Option, Some, Result, Ok, Err, Vec, Global, refl, sym, ap, subst, ◌∙◌}
use Rattle.std.proofs.lemmas.List.{map-append}
use Rattle.sac_base.specs.declared.site.Site.{Site}
use Rattle.sac_base.specs.declared.stop.Stop.{Stop}
use Rattle.sac_base.specs.declared.stop.Stop.TheVariants.{Faulted, Memory}
use Rattle.counted_code.specs.Machine.{DoesCalls, Values, right_does}
use Rattle.counted_code.specs.Terms.{CodeRightTerm}
use Rattle.counted_code.specs.Values.{Heap, Value, Ended}
use Rattle.run_kernels.specs.declared.levels.CallLevels.{CallLevels}
use Rattle.run_kernels.specs.Calls.{calls_at}
use Rattle.run_kernels.specs.Loops.{TellsLoop}
use Rattle.run_loops.specs.declared.state.Context.{Context}
use Rattle.run_loops.specs.declared.state.State.{State}
use Rattle.run_loops.specs.Running.{Appends, IsAt, Told, ToldStop, calls_in, right_in}
use Rattle.run_values.specs.declared.value.RunValue.{RunValue}
use Rattle.run_values.specs.Shown.{value_of}

-- what is told of a loop with the calls of a context, told of the context
pub in_context : (levels : CallLevels) (context : Context) (result : Result (Option (Vec RunValue Global)) Stop) (r : CodeRightTerm) (site : Site) (e : Values) (m : Heap)
    → calls_at levels ≡ calls_in context → levels.turns ≡ context.turns → TellsLoop result m (right_does (calls_at levels) levels.turns r site e m) → TellsLoop result m (right_in context r site e m)
in_context levels context result r site e m calls turns told =
    subst (λ (n : ℕ). TellsLoop result m (right_does (calls_in context) n r site e m)) turns
    (subst (λ (d : DoesCalls). TellsLoop result m (right_does d levels.turns r site e m)) calls told)

-- its values are appended
pub found_told : (old new : List RunValue) (found : Vec RunValue Global) (s : State) (m : Heap) (end : Ended (List Value)) → IsAt s m → TellsLoop (Ok (Some found)) m end → new ≡ old ++ found.items
    → Told {A = Unit {0}} (λ x ws. Appends old new ws) (Ok tt) s end
found_told old new found s m end at told is =
    subst (Told {A = Unit {0}} (λ x ws. Appends old new ws) (Ok tt) s) (sym told) (ap (map value_of) is ∙ map-append value_of old found.items, at)

-- its fault is the machine's
pub stop_told : (Agrees : Unit {0} → List Value → Type 0) (stop : Stop) (s : State) (m : Heap) (end : Ended (List Value)) → IsAt s m → TellsLoop (Err stop) m end → Told Agrees (Err stop) s end
stop_told Agrees (Faulted f) s m end at told = subst (ToldStop (Faulted f) s) (sym told) (refl, at.phases)
stop_told Agrees Memory s m end at told = tt
