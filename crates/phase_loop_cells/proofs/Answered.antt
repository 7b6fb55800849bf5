-- What is told of a cell once its value was written and released.
use Rattle.std.proofs.Common.{◌≡◌, ℕ, zero, suc, Bool, true, false, List, ℤ, Option, Some, None, Result, Ok, Err, refl, sym, subst}
use Rattle.std.specs.Prelude.{if◌then◌else◌, option_map, OnOk}
use Rattle.counted_code.specs.Loops.{Source, stored, cell_does, release_rest}
use Rattle.counted_code.specs.Values.{Heap, Value, Small, Ref, Ended, Done, Failed, give, go_on, fails, apart, count_of, read, release, release_count}
use Rattle.run_store.specs.Stands.{Stands}
use Rattle.run_values.specs.declared.value.RunValue.{RunValue}
use Rattle.run_values.specs.Shown.{value_of}
use Rattle.sac_base.specs.declared.faults.FaultKind.TheVariants.{F6}
use Rattle.sac_base.specs.declared.form.Form.{Form}
use Rattle.sac_base.specs.WithLoops.{fits_form}
use Rattle.sac_base.specs.declared.stop.Stop.{Stop}
use Rattle.sac_base.specs.declared.stop.Stop.TheVariants.{Faulted, Memory}
use Rattle.phase_team.specs.Segments.{value_if}
use Rattle.phase_loop_cells.specs.Cells.{elements_or, IsPut, ToldCell}
use Rattle.run_loops.specs.Loops.{IsPresent, unreleased}
use Rattle.run_loops.specs.Running.{Told, formed}
use Rattle.run_loops.specs.declared.state.State.{State}
use Rattle.phase_count.proofs.Tallying.{counts_as}

count_phases : (b n : ℕ) (h : Heap) → (release_count b n h).phases ≡ h.phases
count_phases b zero h = refl
count_phases b (suc zero) h = refl
count_phases b (suc (suc n)) h = refl

rest_phases : (o : Option Value) (h : Heap) → (release_rest o h).phases ≡ h.phases
rest_phases None h = refl
rest_phases (Some (Small a)) h = refl
rest_phases (Some (Ref b base shape)) h = count_phases b (count_of h b) h

-- a cell is released once it is read
cell_is : (form : Form) (o : Option Source) (m : Heap) → cell_does form o m ≡ go_on (unreleased form o m) (λ w h. Done (option_map (read h) w) (release_rest w h))
cell_is form None m = refl
cell_is form (Some s) m = after (apart s.cell m)
  where
    after : (end : Ended Value) → go_on end (stored form s.site) ≡ go_on (go_on (go_on end (formed form s.site)) (λ v. give (Some v))) (λ w h. Done (option_map (read h) w) (release_rest w h))
    after (Failed f phases) = refl
    after (Done v h) = tested (fits_form form (read h v))
      where
        tested : (b : Bool) → (if b then Done (Some (read h v)) (release v h) else fails F6 s.site h) ≡ go_on (go_on (if b then Done v h else fails F6 s.site h) (λ v. give (Some v))) (λ w h. Done (option_map (read h) w) (release_rest w h))
        tested true = refl
        tested false = refl

pub put_told : (fill : Option (List ℤ)) (into : List ℤ) (written : Bool) (o : Option RunValue) (s t : State) (form : Form) (source : Option Source) (m : Heap) → Told IsPresent (Ok o) s (unreleased form source m) → ((h : Heap) → Stands s.heap h → IsPut fill into written t.heap (option_map value_of o) h) → t.phases ≡ s.phases → ToldCell fill into (Ok written) t (cell_does form source m)
put_told fill into written o s t form source m told put same = subst (λ end. ToldCell fill into (Ok written) t end) (sym (cell_is form source m)) (go (unreleased form source m) told)
  where
    go : (end : Ended (Option Value)) → Told IsPresent (Ok o) s end → ToldCell fill into (Ok written) t (go_on end (λ w h. Done (option_map (read h) w) (release_rest w h)))
    go (Failed f phases) told = absurd told
    go (Done w h) told =
        let p = put h told.1.heap in (
          subst (λ w. elements_or fill (option_map (read h) w) ≡ value_if written into) told.0 p.elements,
          record { heap = subst (λ w. Stands t.heap (release_rest w h)) told.0 p.stands; phases = counts_as _ _ _ _ same (sym (rest_phases w h)) told.1.phases },
        )

stop_told : (fill : Option (List ℤ)) (into : List ℤ) (stop : Stop) (s : State) (form : Form) (source : Option Source) (m : Heap) → Told {A = Option RunValue} IsPresent (Err stop) s (unreleased form source m) → ToldCell fill into (Err stop) s (cell_does form source m)
stop_told fill into stop s form source m told = subst (λ end. ToldCell fill into (Err stop) s end) (sym (cell_is form source m)) (go stop (unreleased form source m) told)
  where
    go : (stop : Stop) (end : Ended (Option Value)) → Told {A = Option RunValue} IsPresent (Err stop) s end → ToldCell fill into (Err stop) s (go_on end (λ w h. Done (option_map (read h) w) (release_rest w h)))
    go (Faulted f) (Done w h) told = absurd told
    go (Faulted f) (Failed g phases) told = told.0
    go Memory end told = tt

-- the same of the evaluator's answer as it is handed on
pub stop_handed : (fill : Option (List ℤ)) (into : List ℤ) (r : Result Bool Stop) (stop : Stop) (s : State) (form : Form) (source : Option Source) (m : Heap) → r ≡ Err stop → Told {A = Option RunValue} IsPresent (Err stop) s (unreleased form source m) → ToldCell fill into r s (cell_does form source m)
stop_handed fill into r stop s form source m is told = subst (λ r. ToldCell fill into r s (cell_does form source m)) (sym is) (stop_told fill into stop s form source m told)

pub no_claim : {A E : Type 0} (X : Type 0) (r : Result A E) (e : E) → r ≡ Err e → OnOk r X
no_claim X r e is = subst (λ r. OnOk r X) (sym is) tt
