-- Bindings of variables.
use Rattle.std.proofs.Common.{◌≡◌, ℕ, zero, suc, ◌+◌, ◌<◌, ◌≤◌, List, [], ◌∷◌, length, get_or, drop, refl, sym, ap, ◌∙◌, arith, Err}
use Rattle.std.proofs.lemmas.List.{drop_more, drop_all, drop-drop, length-map}
use Rattle.core_ir.specs.declared.tree.Var.{Var}
use Rattle.counted_code.specs.declared.tree.CodeLet.{CodeLet}
use Rattle.counted_code.specs.declared.tree.CodeStep.TheVariants as step
use Rattle.counted_code.specs.Terms.{CodeTerm}
use Rattle.counted_code.specs.Values.{Heap, Value, Done, go_on, keep, release, release_count, Small, Ref, count_of}
use Rattle.counted_code.specs.Machine.{Values, bind_value, bind_values, first_of}
use Rattle.counted_code.specs.View.{code_right_term}
use Rattle.sac_base.specs.declared.stop.Stop.{Stop}
use Rattle.run_store.specs.Stands.{Stands}
use Rattle.run_values.specs.declared.value.RunValue.{RunValue}
use Rattle.run_values.specs.Scopes.{current}
use Rattle.run_values.specs.Shown.{value_of}
use Rattle.run_loops.specs.declared.state.Context.{Context}
use Rattle.run_loops.specs.declared.state.State.{State}
use Rattle.sac_base.specs.declared.types.ArrayType.{ArrayType}
use Rattle.run_loops.specs.Running.{vars_of, does_in, right_in, IsAt, ToldStop, Reaches, ToldSteps}
use Rattle.run_loops.proofs.Steps.{steps_stop}
use Rattle.phase_count.proofs.Tallying.{counts_as}

-- ---- several variables

bind_next : (e : Values) (x : Var) (xs : List Var) (vs : List Value) → bind_values e (x ∷ xs) vs ≡ bind_values (bind_value e x (first_of vs)) xs (drop 1 vs)
bind_next e x xs [] = refl
bind_next e x xs (v ∷ vs) = refl

pub bind_step : (e : Values) (xs : List Var) (vs : List Value) (k : ℕ) (d : Var) → k < length xs → bind_values e (drop k xs) (drop k vs) ≡ bind_values (bind_value e (get_or xs k d) (first_of (drop k vs))) (drop (k + 1) xs) (drop (k + 1) vs)
bind_step e xs vs k d h =
    ap (λ ys. bind_values e ys (drop k vs)) (drop_more xs k d h)
    ∙ bind_next e (get_or xs k d) (drop (k + 1) xs) (drop k vs)
    ∙ ap (λ ws. bind_values (bind_value e (get_or xs k d) (first_of (drop k vs))) (drop (k + 1) xs) ws) (drop-drop 1 k vs)

pub bind_ends : (e : Values) (xs : List Var) (vs : List Value) (k : ℕ) → length xs ≤ k → bind_values e (drop k xs) (drop k vs) ≡ e
bind_ends e xs vs k h = ap (λ ys. bind_values e ys (drop k vs)) (drop_all k xs h)

-- ---- a binding

module _ (context : Context) (b : CodeLet) (s : State) (m : Heap) where
  pub let_goes : (u : State) (ws : List Value) (k : Heap) → right_in context (code_right_term b.right) b.site (current s.frames) m ≡ Done ws k → current u.frames ≡ bind_values (current s.frames) b.targets.items ws → IsAt u k → Reaches context (step.Bind b ∷ []) s m [] u
  let_goes u ws k is inside at = record {
    heap = k;
    stands = at;
    goes_on = λ (rest : CodeTerm). ap (λ e. go_on e (λ vs. does_in context rest (bind_values (current s.frames) b.targets.items vs))) is ∙ ap (λ e. does_in context rest e k) (sym inside);
  }

  pub let_stops : (stop : Stop) (t : State) → ToldStop stop t (right_in context (code_right_term b.right) b.site (current s.frames) m) → ToldSteps context (step.Bind b ∷ []) s t m (Err stop)
  let_stops stop t told =
      steps_stop context (step.Bind b ∷ []) s m stop t (right_in context (code_right_term b.right) b.site (current s.frames) m)
      (λ f phases is rest. ap (λ e. go_on e (λ vs. does_in context rest (bind_values (current s.frames) b.targets.items vs))) is) told

-- one target takes the first value
pub one_target : (e : Values) (xs : List Var) (x : Var) (ws : List Value) (v : Value) → length xs ≡ 1 → x ≡ get_or xs 0 x → v ≡ first_of ws → bind_value e x v ≡ bind_values e xs ws
one_target e [] x ws v one is first = absurd (omega arith)
one_target e (y ∷ []) x ws v one is first = (λ i. bind_value e (is i) (first i)) ∙ sym (bind_next e y [] ws)
one_target e (y ∷ (z ∷ zs)) x ws v one is first = absurd (omega arith)

-- ---- references

keep_phases : (v : Value) (m : Heap) → (keep v m).phases ≡ m.phases
keep_phases (Small a) m = refl
keep_phases (Ref b base shape) m = refl

count_phases : (b n : ℕ) (m : Heap) → (release_count b n m).phases ≡ m.phases
count_phases b zero m = refl
count_phases b (suc zero) m = refl
count_phases b (suc (suc n)) m = refl

pub release_phases : (v : Value) (m : Heap) → (release v m).phases ≡ m.phases
release_phases (Small a) m = refl
release_phases (Ref b base shape) m = count_phases b (count_of m b) m

module _ (context : Context) (x : Var) (v : RunValue) (s t : State) (m : Heap) (is : value_of v ≡ current s.frames x) (frames : t.frames ≡ s.frames) (phases : t.phases ≡ s.phases) (at : IsAt s m) where
  pub keep_goes : Stands t.heap (keep (value_of v) m) → Reaches context (step.Keep x ∷ []) s m [] t
  keep_goes stands = record {
    heap = keep (value_of v) m;
    stands = record { heap = stands; phases = counts_as s.phases t.phases m.phases (keep (value_of v) m).phases phases (sym (keep_phases (value_of v) m)) at.phases };
    goes_on = λ (rest : CodeTerm). λ i. does_in context rest (current (sym frames i)) (keep (sym is i) m);
  }

  pub release_goes : Stands t.heap (release (value_of v) m) → Reaches context (step.Release x ∷ []) s m [] t
  release_goes stands = record {
    heap = release (value_of v) m;
    stands = record { heap = stands; phases = counts_as s.phases t.phases m.phases (release (value_of v) m).phases phases (sym (release_phases (value_of v) m)) at.phases };
    goes_on = λ (rest : CodeTerm). λ i. does_in context rest (current (sym frames i)) (release (sym is i) m);
  }

-- one more variable is bound
pub bind_more : (e f : Values) (xs : List Var) (vs : List Value) (k : ℕ) (d x : Var) (v : Value) → k < length xs → x ≡ get_or xs k d → v ≡ first_of (drop k vs) → f ≡ bind_value e x v → bind_values f (drop (k + 1) xs) (drop (k + 1) vs) ≡ bind_values e (drop k xs) (drop k vs)
bind_more e f xs vs k d x v h is first bound =
    (λ i. bind_values ((bound ∙ (λ j. bind_value e (is j) (first j))) i) (drop (k + 1) xs) (drop (k + 1) vs)) ∙ sym (bind_step e xs vs k d h)

pub var_at : (ps : List (Var × ArrayType)) (k : ℕ) (p : Var × ArrayType) → (get_or ps k p).0 ≡ get_or (vars_of ps) k p.0
var_at [] k p = refl
var_at (q ∷ qs) zero p = refl
var_at (q ∷ qs) (suc k) p = var_at qs k p

pub vars_length : (ps : List (Var × ArrayType)) → length (vars_of ps) ≡ length ps
vars_length ps = length-map ps (λ (p : Var × ArrayType). p.0)
