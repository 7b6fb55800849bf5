-- Turns of a loop.
use Rattle.std.proofs.Common.{◌≡◌, ℕ, zero, suc, ◌-◌, ◌<◌, List, Bool, true, false, refl, sym, ap, ◌∙◌, subst, arith, Option, Some, None, Ok, Err}
use Rattle.std.specs.Prelude.{if◌then◌else◌}
use Rattle.sac_base.specs.declared.site.Site.{Site}
use Rattle.sac_base.specs.declared.faults.Fault.{Fault}
use Rattle.sac_base.specs.declared.faults.FaultKind.TheVariants.{F3, F9}
use Rattle.sac_base.specs.Parts.{condition}
use Rattle.counted_code.specs.Values.{Heap, Value, Ended, Done, Failed, Doing, give, go_on, then_go, fails, choose_does, read, release}
use Rattle.counted_code.specs.Machine.{repeat_does}
use Rattle.sac_base.specs.declared.stop.Stop.{Stop}
use Rattle.sac_base.specs.declared.stop.Stop.TheVariants.{Faulted, Memory}
use Rattle.run_loops.specs.declared.state.State.{State}
use Rattle.run_loops.specs.Running.{IsAt, IsValue, Told, ToldStop, truth_of, SaysTruth}
use Rattle.run_store.specs.Stands.{Stands}
use Rattle.run_values.specs.declared.value.RunValue.{RunValue}
use Rattle.run_values.specs.Shown.{value_of}
use Rattle.run_loops.proofs.Binding.{release_phases}
use Rattle.run_loops.proofs.Steps.{given, tell, same_stop, stop_then}
use Rattle.phase_count.proofs.Tallying.{counts_as, counts_on}

-- ---- what a condition says

done_value : {A : Type 0} (a b : A) (h k : Heap) → Done a h ≡ Done b k → a ≡ b
done_value a b h k e = cc

done_heap : {A : Type 0} (a b : A) (h k : Heap) → Done a h ≡ Done b k → h ≡ k
done_heap a b h k e = cc

failed_why : {A : Type 0} (f g : Fault) (ps qs : List ℕ) → ◌≡◌ {A = Ended A} (Failed f ps) (Failed g qs) → f ≡ g
failed_why f g ps qs e = cc

failed_phases : {A : Type 0} (f g : Fault) (ps qs : List ℕ) → ◌≡◌ {A = Ended A} (Failed f ps) (Failed g qs) → ps ≡ qs
failed_phases f g ps qs e = cc

not_done : {A : Type 0} {X : Type 0} (f : Fault) (ps : List ℕ) (a : A) (h : Heap) → Failed f ps ≡ Done a h → X
not_done f ps a h e = cc

not_failed : {A : Type 0} {X : Type 0} (f : Fault) (ps : List ℕ) (a : A) (h : Heap) → Done a h ≡ Failed f ps → X
not_failed f ps a h e = cc

module _ (A : Type 0) (site : Site) (more done : Doing A) where
  chosen_by : (o : Option Bool) (h k : Heap) (b : Bool) → choose_does site o (give true) (give false) h ≡ Done b k → choose_does site o more done h ≡ (if b then more k else done k)
  chosen_by None h k b e = not_done (record { kind = F3; site = site }) h.phases b k e
  chosen_by (Some true) h k b e = λ i. if done_value true b h k e i then more (done_heap true b h k e i) else done (done_heap true b h k e i)
  chosen_by (Some false) h k b e = λ i. if done_value false b h k e i then more (done_heap false b h k e i) else done (done_heap false b h k e i)

  chosen_fails : (o : Option Bool) (h : Heap) (f : Fault) (ps : List ℕ) → choose_does site o (give true) (give false) h ≡ Failed f ps → choose_does site o more done h ≡ Failed f ps
  chosen_fails None h f ps e = λ i. Failed (failed_why (record { kind = F3; site = site }) f h.phases ps e i) (failed_phases (record { kind = F3; site = site }) f h.phases ps e i)
  chosen_fails (Some true) h f ps e = not_failed f ps true h e
  chosen_fails (Some false) h f ps e = not_failed f ps false h e

  pub says : (end : Ended Value) (b : Bool) (k : Heap) → go_on end (truth_of site) ≡ Done b k → go_on end (λ c h. choose_does site (condition (read h c)) more done (release c h)) ≡ (if b then more k else done k)
  says (Done c h) b k e = chosen_by (condition (read h c)) (release c h) k b e
  says (Failed f ps) b k e = not_done f ps b k e

  pub says_fault : (end : Ended Value) (f : Fault) (ps : List ℕ) → go_on end (truth_of site) ≡ Failed f ps → go_on end (λ c h. choose_does site (condition (read h c)) more done (release c h)) ≡ Failed f ps
  says_fault (Done c h) f ps e = chosen_fails (condition (read h c)) (release c h) f ps e
  says_fault (Failed g qs) f ps e = λ i. Failed (failed_why g f qs ps e i) (failed_phases g f qs ps e i)

  -- a condition that is read, and not released
  pub condition_goes : (v : Value) (h : Heap) (b : Bool) → SaysTruth (Ok b) site (condition (read h v)) → choose_does site (condition (read h v)) more done h ≡ (if b then more h else done h)
  condition_goes v h true e = ap (λ o. choose_does site o more done h) e
  condition_goes v h false e = ap (λ o. choose_does site o more done h) e

  pub condition_stops : (stop : Stop) (t : State) (v : Value) (h : Heap) → SaysTruth (Err stop) site (condition (read h v)) → IsAt t h → ToldStop stop t (choose_does site (condition (read h v)) more done h)
  condition_stops (Faulted f) t v h e at = subst (λ o. ToldStop (Faulted f) t (choose_does site o more done h)) (sym e.0) (e.1, at.phases)
  condition_stops Memory t v h e at = tt

-- the value of a test, released
pub truth_told : (b : Bool) (site : Site) (v : Value) (h : Heap) → SaysTruth (Ok b) site (condition (read h v)) → truth_of site v h ≡ Done b (release v h)
truth_told true site v h e = ap (λ o. choose_does site o (give true) (give false) (release v h)) e
truth_told false site v h e = ap (λ o. choose_does site o (give true) (give false) (release v h)) e

truth_stops : (stop : Stop) (t : State) (site : Site) (v : Value) (h : Heap) → SaysTruth (Err stop) site (condition (read h v)) → IsAt t h → ToldStop stop t (truth_of site v h)
truth_stops (Faulted f) t site v h e at =
    subst (λ o. ToldStop (Faulted f) t (choose_does site o (give true) (give false) (release v h))) (sym e.0) (e.1, counts_on t.phases h.phases (release v h).phases (sym (release_phases v h)) at.phases)
truth_stops Memory t site v h e at = tt

pub test_ends : (truth : Bool) (site : Site) (v : RunValue) (s t : State) (end : Ended Value) → Told IsValue (Ok v) s end → ((m : Heap) → SaysTruth (Ok truth) site (condition (read m (value_of v)))) → ((m : Heap) → Stands s.heap m → Stands t.heap (release (value_of v) m)) → t.phases ≡ s.phases → Told (λ b c. b ≡ c) (Ok truth) t (go_on end (truth_of site))
test_ends truth site v s t (Done w k) told says frees phases =
    subst (λ w. Told (λ b c. b ≡ c) (Ok truth) t (truth_of site w k)) told.0
    (tell (λ b c. b ≡ c) truth t (truth_of site (value_of v) k) truth (release (value_of v) k) (truth_told truth site (value_of v) k (says k)) refl (record {
      heap = frees k told.1.heap;
      phases = counts_as s.phases t.phases k.phases (release (value_of v) k).phases phases (sym (release_phases (value_of v) k)) told.1.phases;
    }))
test_ends truth site v s t (Failed f ps) told says frees phases = absurd told

pub test_stops : (stop : Stop) (site : Site) (v : RunValue) (s : State) (end : Ended Value) → Told IsValue (Ok v) s end → ((m : Heap) → SaysTruth (Err stop) site (condition (read m (value_of v)))) → ToldStop stop s (go_on end (truth_of site))
test_stops stop site v s (Done w k) told says = subst (λ w. ToldStop stop s (truth_of site w k)) told.0 (truth_stops stop s site (value_of v) k (says k) told.1)
test_stops stop site v s (Failed f ps) told says = absurd told

-- ---- turns

module _ (site test_site : Site) (test : List Value → Doing Value) (body : List Value → Doing (List Value)) where
  pub turn_fails : (left : ℕ) (vs : List Value) (m : Heap) (f : Fault) (ps : List ℕ) → go_on (test vs m) (truth_of test_site) ≡ Failed f ps → repeat_does left site test_site test body vs m ≡ Failed f ps
  turn_fails zero vs m f ps e = says_fault (List Value) test_site (fails F9 site) (give vs) (test vs m) f ps e
  turn_fails (suc left) vs m f ps e = says_fault (List Value) test_site (then_go (body vs) (repeat_does left site test_site test body)) (give vs) (test vs m) f ps e

  pub turn_ends : (left : ℕ) (vs : List Value) (m k : Heap) → go_on (test vs m) (truth_of test_site) ≡ Done false k → repeat_does left site test_site test body vs m ≡ Done vs k
  turn_ends zero vs m k e = says (List Value) test_site (fails F9 site) (give vs) (test vs m) false k e
  turn_ends (suc left) vs m k e = says (List Value) test_site (then_go (body vs) (repeat_does left site test_site test body)) (give vs) (test vs m) false k e

  pub turn_over : (left : ℕ) (vs : List Value) (m k : Heap) → left ≡ 0 → go_on (test vs m) (truth_of test_site) ≡ Done true k → repeat_does left site test_site test body vs m ≡ Failed (record { kind = F9; site = site }) k.phases
  turn_over zero vs m k z e = says (List Value) test_site (fails F9 site) (give vs) (test vs m) true k e
  turn_over (suc left) vs m k z e = absurd (omega arith)

  pub turn_goes : (left : ℕ) (vs : List Value) (m k : Heap) → 0 < left → go_on (test vs m) (truth_of test_site) ≡ Done true k → repeat_does left site test_site test body vs m ≡ go_on (body vs k) (repeat_does (left - 1) site test_site test body)
  turn_goes zero vs m k h e = absurd (omega arith)
  turn_goes (suc left) vs m k h e =
      let same : left ≡ suc left - 1 = omega arith in
      says (List Value) test_site (then_go (body vs) (repeat_does left site test_site test body)) (give vs) (test vs m) true k e
      ∙ ap (λ n. go_on (body vs k) (repeat_does n site test_site test body)) same

-- ---- a loop of turns

-- the loop has come so far that so many turns are left, with these values
pub record Turned (site test_site : Site) (test : List Value → Doing Value) (body : List Value → Doing (List Value)) (most : ℕ) (start : List Value) (m : Heap) (left : ℕ) (vs : List Value) (t : State) : Type 0 where
  pub heap : Heap
  pub stands : IsAt t heap
  pub same : repeat_does most site test_site test body start m ≡ repeat_does left site test_site test body vs heap

-- the test held, and the machine goes on with the body
pub record Tested (body : List Value → Doing (List Value)) (again : List Value → Doing (List Value)) (vs : List Value) (end : Ended (List Value)) (t : State) : Type 0 where
  pub heap : Heap
  pub stands : IsAt t heap
  pub same : end ≡ go_on (body vs heap) again

module _ (site test_site : Site) (test : List Value → Doing Value) (body : List Value → Doing (List Value)) (most : ℕ) (start : List Value) (m : Heap) (left : ℕ) (vs : List Value) (t : State)
    (here : Turned site test_site test body most start m left vs t) where
  pub turned_stops : (stop : Stop) (u : State) → ToldStop stop u (go_on (test vs here.heap) (truth_of test_site)) → ToldStop stop u (repeat_does most site test_site test body start m)
  turned_stops stop u told =
      same_stop stop u (go_on (test vs here.heap) (truth_of test_site)) (repeat_does most site test_site test body start m) (λ f ps is. here.same ∙ turn_fails site test_site test body left vs here.heap f ps is) told

  pub turned_ends : (u : State) → Told (λ b c. b ≡ c) (Ok false) u (go_on (test vs here.heap) (truth_of test_site)) → Told (λ (_ : Unit {0}) ws. vs ≡ ws) (Ok tt) u (repeat_does most site test_site test body start m)
  turned_ends u told =
      let g = given (λ b c. b ≡ c) false u (go_on (test vs here.heap) (truth_of test_site)) told in
      let is = g.is ∙ ap (λ b. Done b g.heap) (sym g.agrees) in
      tell (λ (_ : Unit {0}) ws. vs ≡ ws) tt u (repeat_does most site test_site test body start m) vs g.heap (here.same ∙ turn_ends site test_site test body left vs here.heap g.heap is) refl g.stands

  pub turned_over : (u : State) (stop : Stop) → left ≡ 0 → stop ≡ Faulted (record { kind = F9; site = site }) → Told (λ b c. b ≡ c) (Ok true) u (go_on (test vs here.heap) (truth_of test_site)) → ToldStop stop u (repeat_does most site test_site test body start m)
  turned_over u stop none raised told =
      let g = given (λ b c. b ≡ c) true u (go_on (test vs here.heap) (truth_of test_site)) told in
      let is = g.is ∙ ap (λ b. Done b g.heap) (sym g.agrees) in
      subst (λ z. ToldStop z u (repeat_does most site test_site test body start m)) (sym raised)
      (subst (λ e. ToldStop (Faulted (record { kind = F9; site = site })) u e) (sym (here.same ∙ turn_over site test_site test body left vs here.heap g.heap none is)) (refl, g.stands.phases))

  pub turned_goes : (u : State) → 0 < left → Told (λ b c. b ≡ c) (Ok true) u (go_on (test vs here.heap) (truth_of test_site)) → Tested body (repeat_does (left - 1) site test_site test body) vs (repeat_does most site test_site test body start m) u
  turned_goes u some told =
      let g = given (λ b c. b ≡ c) true u (go_on (test vs here.heap) (truth_of test_site)) told in
      let is = g.is ∙ ap (λ b. Done b g.heap) (sym g.agrees) in
      record { heap = g.heap; stands = g.stands; same = here.same ∙ turn_goes site test_site test body left vs here.heap g.heap some is }

module _ (body : List Value → Doing (List Value)) (again : List Value → Doing (List Value)) (vs : List Value) (end : Ended (List Value)) (t : State) (here : Tested body again vs end t) where
  pub tested_stops : (stop : Stop) (u : State) → ToldStop stop u (body vs here.heap) → ToldStop stop u end
  tested_stops stop u told = subst (λ e. ToldStop stop u e) (sym here.same) (stop_then stop u (body vs here.heap) again told)

pub tested_turned : (site test_site : Site) (test : List Value → Doing Value) (body : List Value → Doing (List Value)) (most : ℕ) (start : List Value) (m : Heap) (left : ℕ) (vs ws : List Value) (t u : State) (here : Tested body (repeat_does left site test_site test body) vs (repeat_does most site test_site test body start m) t) →
    Told (λ (_ : Unit {0}) us. ws ≡ us) (Ok tt) u (body vs here.heap) → Turned site test_site test body most start m left ws u
tested_turned site test_site test body most start m left vs ws t u here told =
    let g = given (λ (_ : Unit {0}) us. ws ≡ us) tt u (body vs here.heap) told in
    let again = repeat_does left site test_site test body in
    record { heap = g.heap; stands = g.stands; same = here.same ∙ ap (λ e. go_on e again) g.is ∙ ap (λ us. again us g.heap) (sym g.agrees) }
