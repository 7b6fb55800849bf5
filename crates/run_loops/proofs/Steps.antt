-- One step after another, as the machine makes them.
use Rattle.std.proofs.Common.{◌≡◌, ℕ, List, [], ◌∷◌, ◌++◌, map, refl, sym, ap, ◌∙◌, subst, Result, Ok, Err}
use Rattle.std.specs.Prelude.{OnOk}
use Rattle.std.proofs.lemmas.List.{map-append}
use Rattle.sac_base.specs.declared.faults.Fault.{Fault}
use Rattle.core_ir.specs.declared.tree.Var.{Var}
use Rattle.counted_code.specs.declared.tree.CodeStep.{CodeStep}
use Rattle.counted_code.specs.Terms.{CodeTerm, Giving}
use Rattle.counted_code.specs.Values.{Heap, Value, Ended, Done, Failed, Doing, give, go_on}
use Rattle.counted_code.specs.Machine.{first_of}
use Rattle.counted_code.specs.View.{steps_before}
use Rattle.sac_base.specs.declared.stop.Stop.{Stop}
use Rattle.sac_base.specs.declared.stop.Stop.TheVariants.{Faulted, Memory}
use Rattle.run_store.specs.Stands.{Stands}
use Rattle.run_values.specs.declared.frames.Frames.{Frames}
use Rattle.run_values.specs.declared.value.RunValue.{RunValue}
use Rattle.run_values.specs.Scopes.{current}
use Rattle.run_values.specs.Shown.{value_of}
use Rattle.run_loops.specs.declared.state.Context.{Context}
use Rattle.run_loops.specs.declared.state.State.{State}
use Rattle.run_loops.specs.Running.{does_in, IsAt, Told, ToldStop, IsValue, IsFirst, IsOnly, Reaches, ToldSteps, SameScopes}
use Rattle.phase_count.proofs.Tallying.{counts_as}

-- ---- states

-- other variables do not matter
pub moved : (s t : State) (m : Heap) → t.heap ≡ s.heap → t.phases ≡ s.phases → IsAt s m → IsAt t m
moved s t m heap phases at = record { heap = subst (λ h. Stands h m) (sym heap) at.heap; phases = counts_as s.phases t.phases m.phases m.phases phases refl at.phases }

-- ---- ends

-- a value that agrees with the machine's
pub record Given {A B : Type 0} (Agrees : A → B → Type 0) (a : A) (s : State) (end : Ended B) : Type 0 where
  pub value : B
  pub heap : Heap
  pub is : end ≡ Done value heap
  pub agrees : Agrees a value
  pub stands : IsAt s heap

pub given : {A B : Type 0} (Agrees : A → B → Type 0) (a : A) (s : State) (end : Ended B) → Told Agrees (Ok a) s end → Given Agrees a s end
given Agrees a s (Done b k) told = record { value = b; heap = k; is = refl; agrees = told.0; stands = told.1 }
given Agrees a s (Failed f phases) told = absurd told

pub tell : {A B : Type 0} (Agrees : A → B → Type 0) (a : A) (s : State) (end : Ended B) (b : B) (k : Heap) → end ≡ Done b k → Agrees a b → IsAt s k → Told Agrees (Ok a) s end
tell Agrees a s end b k is agrees stands = subst (λ e. Told Agrees (Ok a) s e) (sym is) (agrees, stands)

-- a fault is handed on
pub same_stop : {A B : Type 0} (stop : Stop) (s : State) (first : Ended A) (end : Ended B) → ((f : Fault) (phases : List ℕ) → first ≡ Failed f phases → end ≡ Failed f phases) → ToldStop stop s first → ToldStop stop s end
same_stop (Faulted f) s (Done a k) end same told = absurd told
same_stop (Faulted f) s (Failed g phases) end same told = subst (λ e. ToldStop (Faulted f) s e) (sym (same g phases refl)) told
same_stop Memory s first end same told = tt

pub stop_then : {A B : Type 0} (stop : Stop) (s : State) (first : Ended A) (next : A → Doing B) → ToldStop stop s first → ToldStop stop s (go_on first next)
stop_then stop s first next told = same_stop stop s first (go_on first next) (λ f phases is. ap (λ e. go_on e next) is) told

-- a fault that is raised here
pub raised : {B : Type 0} (stop : Stop) (f : Fault) (s : State) (m : Heap) (end : Ended B) → stop ≡ Faulted f → end ≡ Failed f m.phases → IsAt s m → ToldStop stop s end
raised stop f s m end is fails at = subst (λ z. ToldStop z s end) (sym is) (subst (λ e. ToldStop (Faulted f) s e) (sym fails) (refl, at.phases))

-- the first of the values
pub first_told : (r : Result RunValue Stop) (s : State) (end : Ended (List Value)) → Told IsValue r s (go_on end (λ vs. give (first_of vs))) → Told IsFirst r s end
first_told (Ok v) s (Done ws k) told = told
first_told (Ok v) s (Failed f phases) told = told
first_told (Err (Faulted f)) s (Done ws k) told = told
first_told (Err (Faulted f)) s (Failed g phases) told = told
first_told (Err Memory) s end told = tt

pub only_first : (r : Result RunValue Stop) (s : State) (end : Ended (List Value)) → Told IsOnly r s end → Told IsFirst r s end
only_first (Ok v) s (Done ws k) told = (sym (ap first_of told.0), told.1)
only_first (Ok v) s (Failed f phases) told = told
only_first (Err stop) s end told = told

-- ---- steps

module _ (context : Context) (steps : List CodeStep) (s : State) (m : Heap) where
  pub begin : IsAt s m → Reaches context steps s m steps s
  begin at = record { heap = m; stands = at; goes_on = λ rest. refl }

  module _ (x : CodeStep) (left : List CodeStep) (t u : State) (here : Reaches context steps s m (x ∷ left) t) where
    pub next_step : Reaches context (x ∷ []) t here.heap [] u → Reaches context steps s m left u
    next_step made = record {
      heap = made.heap;
      stands = made.stands;
      goes_on = λ rest. here.goes_on rest ∙ made.goes_on (steps_before left rest);
    }

    pub last_step : (stop : Stop) → ToldSteps context (x ∷ []) t u here.heap (Err stop) → ToldSteps context steps s u m (Err stop)
    last_step (Faulted f) told = record { phases = told.phases; counted = told.counted; always = λ rest. here.goes_on rest ∙ told.always (steps_before left rest) }
    last_step Memory told = tt

  -- the results of a block whose steps are made
  pub results_given : (results : List Var) (t : State) (here : Reaches context steps s m [] t) → does_in context (steps_before steps (Giving results)) (current s.frames) m ≡ Done (map (current t.frames) results) here.heap
  results_given results t here = here.goes_on (Giving results)

  -- a stop in the steps is one of the block
  pub block_stops : (stop : Stop) (results : List Var) (t : State) → ToldSteps context steps s t m (Err stop) → ToldStop stop t (does_in context (steps_before steps (Giving results)) (current s.frames) m)
  block_stops (Faulted f) results t told = subst (λ e. ToldStop (Faulted f) t e) (sym (told.always (Giving results))) (refl, told.counted)
  block_stops Memory results t told = tt

  -- a stop of what a step begins with
  pub steps_stop : {A : Type 0} (stop : Stop) (t : State) (first : Ended A) → ((f : Fault) (phases : List ℕ) → first ≡ Failed f phases → (rest : CodeTerm) → does_in context (steps_before steps rest) (current s.frames) m ≡ Failed f phases) → ToldStop stop t first → ToldSteps context steps s t m (Err stop)
  steps_stop (Faulted f) t (Done a k) fails told = absurd told
  steps_stop (Faulted f) t (Failed g phases) fails told = record { phases = phases; counted = told.1; always = λ rest. fails g phases refl rest ∙ ap (λ f. Failed f phases) (sym told.0) }
  steps_stop Memory t first fails told = tt

-- ---- answers

pub on_ok : {A E X Y : Type 0} (r : Result A E) → (X → Y) → OnOk r X → OnOk r Y
on_ok (Ok a) f x = f x
on_ok (Err e) f x = tt

pub always_on_ok : {A E X : Type 0} (r : Result A E) → X → OnOk r X
always_on_ok (Ok a) x = x
always_on_ok (Err e) x = tt

-- values that are appended to others
pub appended : (old own new : List RunValue) (ws : List Value) → new ≡ old ++ own → map value_of own ≡ ws → map value_of new ≡ map value_of old ++ ws
appended old own new ws e f = ap (map value_of) e ∙ map-append value_of old own ∙ ap (λ us. map value_of old ++ us) f

-- a stop is the answer
pub handed : {A B : Type 0} (Agrees : A → B → Type 0) (r : Result A Stop) (stop : Stop) (s : State) (end : Ended B) → r ≡ Err stop → ToldStop stop s end → Told Agrees r s end
handed Agrees r stop s end is told = subst (λ r. Told Agrees r s end) (sym is) told

pub no_scopes : {A E : Type 0} (X : Type 0) (r : Result A E) (e : E) → r ≡ Err e → OnOk r X
no_scopes X r e is = subst (λ r. OnOk r X) (sym is) tt

-- variables are left alone
pub plain_scopes : {A E : Type 0} (r : Result A E) (f : Frames) → OnOk r (SameScopes f f)
plain_scopes (Ok a) f = (refl, refl)
plain_scopes (Err e) f = tt

-- a right side that leaves variables and phases alone
pub plain_given : (v : RunValue) (s t : State) (m k : Heap) → t.phases ≡ s.phases → IsAt s m → Stands t.heap k → k.phases ≡ m.phases → Told IsOnly (Ok v) t (Done (value_of v ∷ []) k)
plain_given v s t m k phases at stands same = (refl, record { heap = stands; phases = counts_as s.phases t.phases m.phases k.phases phases (sym same) at.phases })

pub plain_failed : (f : Fault) (s t : State) (m : Heap) → t.phases ≡ s.phases → IsAt s m → ToldStop {B = List Value} (Faulted f) t (Failed f m.phases)
plain_failed f s t m phases at = (refl, counts_as s.phases t.phases m.phases m.phases phases refl at.phases)
