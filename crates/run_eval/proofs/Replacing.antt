-- A replacement and the releases behind it, made at once.
use Rattle.std.proofs.Common.{◌≡◌, ℕ, ◌+◌, ◌-◌, Bool, true, false, cond, eqb, zero, suc, List, [], ◌∷◌, ◌++◌, length, take, drop, Ok, refl, sym, ap, ◌∙◌, subst, arith}
use Rattle.std.proofs.lemmas.List.{length-drop, take_all}
use Rattle.sac_base.specs.Arrays.{ArrayValue}
use Rattle.sac_base.specs.Outcomes.{at_site}
use Rattle.sac_base.specs.Parts.{replace}
use Rattle.core_ir.specs.declared.tree.Var.{Var}
use Rattle.core_ir.specs.Terms.{PlainTerm}
use Rattle.counted_code.specs.declared.tree.CodeLet.{CodeLet}
use Rattle.counted_code.specs.declared.tree.CodeRight.{CodeRight}
use Rattle.counted_code.specs.declared.tree.CodeRight.TheVariants.{Replace}
use Rattle.counted_code.specs.declared.tree.CodeStep.{CodeStep}
use Rattle.counted_code.specs.declared.tree.CodeStep.TheVariants as step
use Rattle.counted_code.specs.Machine.{Values, bind_value, bind_values, one_value}
use Rattle.counted_code.specs.Terms.{CodeTerm, Binding, Releasing, PlainCode}
use Rattle.counted_code.specs.Values.{Heap, Value, Ended, Done, Small, Ref, take_buffer, give, go_on, then_go, pure_end, is_small, place_as, place_value, read, release}
use Rattle.counted_code.specs.View.{code_right_term, steps_before, step_term}
use Rattle.phase_count.proofs.Tallying.{counts_as}
use Rattle.run_loops.specs.declared.state.Context.{Context}
use Rattle.run_loops.specs.declared.state.State.{State}
use Rattle.run_loops.specs.Running.{does_in, right_in, IsAt, Reaches}
use Rattle.run_loops.proofs.Binding.{release_phases}
use Rattle.run_eval.specs.Updates.{IsSmall, OnlyTarget, ReleasesAt}
use Rattle.run_store.specs.Updates.{IsUpdated}
use Rattle.run_values.specs.declared.value.RunValue.{RunValue}
use Rattle.run_values.specs.Scopes.{current}
use Rattle.run_values.specs.Shown.{value_of}

-- ---- some steps, and then the others

before_append : (first left : List CodeStep) (rest : CodeTerm) → steps_before (first ++ left) rest ≡ steps_before first (steps_before left rest)
before_append [] left rest = refl
before_append (x ∷ first) left rest = ap (step_term x) (before_append first left rest)

pub next_steps :
    (context : Context) (steps : List CodeStep) (s : State) (m : Heap) (ahead first left : List CodeStep) (t u : State)
    → (here : Reaches context steps s m ahead t) → ahead ≡ first ++ left → Reaches context first t here.heap [] u → Reaches context steps s m left u
next_steps context steps s m ahead first left t u here split told = record {
  heap = told.heap;
  stands = told.stands;
  goes_on = λ (rest : CodeTerm). here.goes_on rest
      ∙ ap (λ c. does_in context c (current t.frames) here.heap) (ap (λ d. steps_before d rest) split ∙ before_append first left rest)
      ∙ told.goes_on (steps_before left rest);
}

-- the rest of a slice
pub rest_of : {A : Type 0} (k : ℕ) (xs : List A) → take (length xs - k) (drop k xs) ≡ drop k xs
rest_of k xs = take_all (length xs - k) (drop k xs) (omega (arith, length-drop k xs))

pub rest_length : {A : Type 0} (k : ℕ) (xs : List A) → length (take (length xs - k) (drop k xs)) ≡ length xs - k
rest_length k xs = ap length (rest_of k xs) ∙ length-drop k xs

two_more : (n : ℕ) → n + 2 ≡ suc (suc n)
two_more n = omega arith

-- one step and so many behind it
pub front : {A : Type 0} (n : ℕ) (x : A) (xs steps : List A) → steps ≡ x ∷ xs → take (n + 2) steps ≡ x ∷ take (suc n) xs
front n x xs steps is = ap (take (n + 2)) is ∙ ap (λ k. take k (x ∷ xs)) (two_more n)

-- ---- a replacement and the releases

done_heap : {A : Type 0} (a b : A) (h k : Heap) → Done a h ≡ Done b k → h ≡ k
done_heap a b h k e = cc

placed_phases : (small : Bool) (a : ArrayValue) (m k : Heap) (w : Value) → place_as small a m ≡ Done w k → k.phases ≡ m.phases
placed_phases true a m k w is = sym (ap (λ (h : Heap). h.phases) (done_heap (Small a) w m k is))
placed_phases false a m k w is = sym (ap (λ (h : Heap). h.phases) (done_heap (Ref (length m.buffers) a.base a.shape) w (take_buffer a.cells m) k is))

small_released : (v : Value) (k : Heap) → IsSmall v → release v k ≡ k
small_released (Small a) k small = refl
small_released (Ref place base shape) k small = absurd small

-- releases of what is in no buffer change nothing, and then the array is released
released :
    (context : Context) (e : Values) (y x : Var) (w : Value) (other : eqb y.0 x.0 ≡ false) (steps : List CodeStep) (n : ℕ) → ReleasesAt e y x steps n
    → (k : Heap) (rest : CodeTerm) → does_in context (steps_before (take (suc n) steps) rest) (bind_value e y w) k ≡ does_in context rest (bind_value e y w) (release (e x) k)
released context e y x w other [] n at k rest = absurd at
released context e y x w other (step.Bind' targets site r ∷ steps) n at k rest = absurd at
released context e y x w other (step.Keep z ∷ steps) n at k rest = absurd at
released context e y x w other (step.Release z ∷ steps) zero at k rest =
    ap (λ (v : Var). does_in context rest (bind_value e y w) (release (cond (eqb y.0 v.0) w (e v)) k)) at
    ∙ ap (λ (q : Bool). does_in context rest (bind_value e y w) (release (cond q w (e x)) k)) other
released context e y x w other (step.Release z ∷ steps) (suc n) at k rest =
    ap (λ (q : Bool). does_in context (steps_before (take (suc n) steps) rest) (bind_value e y w) (release (cond q w (e z)) k)) at.0
    ∙ ap (does_in context (steps_before (take (suc n) steps) rest) (bind_value e y w)) (small_released (e z) k at.1)
    ∙ released context e y x w other steps n at.2 k rest

module _ (context : Context) (b : CodeLet) (x i p y : Var) (s t : State) (m : Heap) where
  module _ (array index part v : RunValue) (is_array : value_of array ≡ current s.frames x) (is_index : value_of index ≡ current s.frames i) (is_part : value_of part ≡ current s.frames p) (u : IsUpdated array index part v t.heap m) where
    replaced : right_in context (PlainCode (PlainTerm.Replace x i p)) b.site (current s.frames) m ≡ Done (value_of v ∷ []) u.heap
    replaced =
        (λ j. one_value (then_go (pure_end (at_site b.site (replace (read m (sym is_array j)) (read m (sym is_index j)) (read m (sym is_part j))))) place_value) m)
        ∙ ap (λ r. one_value (then_go (pure_end (at_site b.site r)) place_value) m) u.value
        ∙ ap (λ (end : Ended Value). go_on end (λ w. give (w ∷ []))) u.placed

    pub update_reaches :
        b.right ≡ Replace x i p → OnlyTarget b x y → (steps : List CodeStep) (n : ℕ) → ReleasesAt (current s.frames) y x steps n
        → current t.frames ≡ bind_value (current s.frames) y (value_of v) → t.phases ≡ s.phases → IsAt s m
        → Reaches context (step.Bind b ∷ take (suc n) steps) s m [] t
    update_reaches right only steps n releases bound phases at =
        let e = current s.frames in
        let w = value_of v in
        let k = u.heap in
        let freed = release (value_of array) k in
        let same = release_phases (value_of array) k ∙ placed_phases (is_small u.changed.shape) u.changed m k w u.placed in
        record {
          heap = freed;
          stands = record { heap = u.stands; phases = counts_as s.phases t.phases m.phases freed.phases phases (sym same) at.phases };
          goes_on = λ (rest : CodeTerm).
              let tail = steps_before (take (suc n) steps) rest in
              ap (λ (r : CodeRight). does_in context (Binding b.targets.items b.site (code_right_term r) tail) e m) right
              ∙ ap (λ (end : Ended (List Value)). go_on end (λ vs. does_in context tail (bind_values e b.targets.items vs))) replaced
              ∙ ap (λ (xs : List Var). does_in context tail (bind_values e xs (w ∷ [])) k) only.0
              ∙ released context e y x w only.1 steps n releases k rest
              ∙ ap (λ (z : Value). does_in context rest (bind_value e y w) (release z k)) (sym is_array)
              ∙ ap (λ (f : Values). does_in context rest f freed) (sym bound);
        }
