-- What is told of a cell, and of what follows a loop.
use Rattle.std.proofs.Common.{◌≡◌, ℕ, zero, suc, [], ◌∷◌, Bool, true, false, refl, sym, ap, Result, Ok, Err, Option, Some, None}
use Rattle.std.specs.Prelude.{option_map, if◌then◌else◌}
use Rattle.sac_base.specs.declared.faults.FaultKind.TheVariants.{F6}
use Rattle.sac_base.specs.declared.form.Form.{Form}
use Rattle.sac_base.specs.WithLoops.{fits_form}
use Rattle.counted_code.specs.Loops.{Source, stored, cell_does, release_rest}
use Rattle.counted_code.specs.Values.{Heap, Value, Small, Ref, Ended, Done, Failed, Doing, give, go_on, then_go, fails, apart, phases_as, read, release, release_count, count_of}
use Rattle.sac_base.specs.declared.stop.Stop.{Stop}
use Rattle.sac_base.specs.declared.stop.Stop.TheVariants.{Faulted, Memory}
use Rattle.run_store.specs.Stands.{Stands}
use Rattle.run_values.specs.declared.value.RunValue.{RunValue}
use Rattle.run_loops.specs.declared.state.State.{State}
use Rattle.run_loops.specs.Running.{IsAt, Told, IsValue, IsOnly, formed}
use Rattle.run_loops.specs.Loops.{unreleased, IsPresent}
use Rattle.phase_count.specs.Tallies.{Counts}

-- ---- releases

count_phases : (b n : ℕ) (h : Heap) → (release_count b n h).phases ≡ h.phases
count_phases b zero h = refl
count_phases b (suc zero) h = refl
count_phases b (suc (suc n)) h = refl

-- a release counts no phase
pub release_phases : (v : Value) (h : Heap) → (release v h).phases ≡ h.phases
release_phases (Small a) h = refl
release_phases (Ref b base shape) h = count_phases b (count_of h b) h

pub rest_phases : (o : Option Value) (h : Heap) → (release_rest o h).phases ≡ h.phases
rest_phases None h = refl
rest_phases (Some v) h = release_phases v h

-- ---- answers

-- the only value
pub only_told : (r : Result RunValue Stop) (s : State) (end : Ended Value) → Told IsValue r s end → Told IsOnly r s (go_on end (λ v. give (v ∷ [])))
only_told (Ok v) s (Done w k) told = (ap (λ w. w ∷ []) (sym told.0), told.1)
only_told (Ok v) s (Failed f phases) told = absurd told
only_told (Err (Faulted f)) s (Done w k) told = absurd told
only_told (Err (Faulted f)) s (Failed g phases) told = told
only_told (Err Memory) s end told = tt

-- a value that agrees in another way
pub agreed : {A B C : Type 0} (R : A → B → Type 0) (Q : C → B → Type 0) (a : A) (c : C) (s : State) (end : Ended B) → ((b : B) → R a b → Q c b) → Told R (Ok a) s end → Told Q (Ok c) s end
agreed R Q a c s (Done b k) next told = (next b told.0, told.1)
agreed R Q a c s (Failed f phases) next told = absurd told

-- what follows a value
pub followed : {A B C D : Type 0} (R : A → B → Type 0) (Q : C → D → Type 0) (a : A) (s : State) (end : Ended B) (next : B → Doing D) (r : Result C Stop) (t : State)
    → ((b : B) (k : Heap) → R a b → IsAt s k → Told Q r t (next b k)) → Told R (Ok a) s end → Told Q r t (go_on end next)
followed R Q a s (Done b k) next r t then' told = then' b k told.0 told.1
followed R Q a s (Failed f phases) next r t then' told = absurd told

-- ---- cells

-- with-loops in a cell are no phases
pub apart_told : {A B : Type 0} (R : A → B → Type 0) (r : Result A Stop) (s t : State) (h : Heap) (end : Ended B)
    → ((k : Heap) → Stands s.heap k → Stands t.heap (record k { phases = h.phases })) → Counts t.phases h.phases → Told R r s end → Told R r t (phases_as h.phases end)
apart_told R (Ok a) s t h (Done b k) stands counted told = (told.0, record { heap = stands k told.1.heap; phases = counted })
apart_told R (Ok a) s t h (Failed f phases) stands counted told = absurd told
apart_told R (Err (Faulted f)) s t h (Done b k) stands counted told = absurd told
apart_told R (Err (Faulted f)) s t h (Failed g phases) stands counted told = (told.0, counted)
apart_told R (Err Memory) s t h end stands counted told = tt

pub present_told : (v : RunValue) (s : State) (form : Form) (o : Source) (m : Heap) → Told IsValue (Ok v) s (then_go (apart o.cell) (formed form o.site) m) → Told IsPresent (Ok (Some v)) s (unreleased form (Some o) m)
present_told v s form o m told = followed IsValue IsPresent v s (then_go (apart o.cell) (formed form o.site) m) (λ v. give (Some v)) (Ok (Some v)) s (λ w k is at. (ap Some is, at)) told

-- a cell is released once it is read
pub cell_is : (form : Form) (o : Option Source) (m : Heap) → cell_does form o m ≡ go_on (unreleased form o m) (λ w h. Done (option_map (read h) w) (release_rest w h))
cell_is form None m = refl
cell_is form (Some s) m = after (apart s.cell m)
  where
    after : (end : Ended Value) → go_on end (stored form s.site) ≡ go_on (go_on (go_on end (formed form s.site)) (λ v. give (Some v))) (λ w h. Done (option_map (read h) w) (release_rest w h))
    after (Failed f phases) = refl
    after (Done v h) = tested (fits_form form (read h v))
      where
        tested : (b : Bool) → (if b then Done (Some (read h v)) (release v h) else fails F6 s.site h) ≡ go_on (go_on (if b then Done v h else fails F6 s.site h) (λ v. give (Some v))) (λ w h. Done (option_map (read h) w) (release_rest w h))
        tested true = refl
        tested false = refl
