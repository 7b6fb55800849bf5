-- One step of a call.
use Rattle.std.proofs.Common.{◌≡◌, ℕ, zero, suc, ◌<◌, List, [], ◌∷◌, ◌++◌, length, get_or, map, refl, sym, ap, ◌∙◌, subst, arith, Bool, true, false, Option, Some, None, Ok, Err, add-one}
use Rattle.std.specs.Prelude.{slice_get, if◌then◌else◌}
use Rattle.std.proofs.lemmas.List.{length-map}
use Rattle.std.proofs.lemmas.Option.{slice_get-get_or}
use Rattle.sac_base.specs.declared.site.Site.{Site}
use Rattle.sac_base.specs.declared.faults.FaultKind.TheVariants.{F7, F10}
use Rattle.sac_base.specs.declared.types.ArrayType.{ArrayType}
use Rattle.sac_base.specs.Types.{all_have}
use Rattle.core_ir.specs.Outcome.{chosen}
use Rattle.counted_code.specs.declared.tree.Code.{Code}
use Rattle.counted_code.specs.declared.tree.CodeFun.{CodeFun}
use Rattle.counted_code.specs.Terms.{CodeFunTerm, CodeProgram, core_of_code}
use Rattle.counted_code.specs.Values.{Heap, Value, Ended, Done, Failed, go_on, read}
use Rattle.counted_code.specs.Machine.{DoesCalls}
use Rattle.counted_code.specs.Outcome.{DoesRun, function_does, body_does, run_does, chosen_does, call_does, inline_does, deeper_does, results_do}
use Rattle.counted_code.specs.View.{code_program, code_fun_term}
use Rattle.sac_base.specs.declared.stop.Stop.{Stop}
use Rattle.sac_base.specs.declared.stop.Stop.TheVariants.{Faulted, Memory}
use Rattle.run_loops.specs.declared.state.Context.{Context}
use Rattle.run_loops.specs.declared.state.State.{State}
use Rattle.run_values.specs.declared.value.RunValue.{RunValue}
use Rattle.run_values.specs.Shown.{value_of}
use Rattle.run_loops.specs.Running.{calls_in, IsAt, Appends, Told, ToldStop, Deeper}

abbrev calls_at : CodeProgram → ℕ → ℕ → ℕ → DoesCalls
calls_at code turns left nest = call_does code (deeper_does code turns left) (inline_does code turns (deeper_does code turns left) nest)

abbrev run_at : CodeProgram → ℕ → ℕ → ℕ → DoesRun
run_at code turns left nest place vs site =
    run_does (deeper_does code turns left) (inline_does code turns (deeper_does code turns left) nest) place (slice_get code.functions place) vs site

module _ (code : CodeProgram) (turns place : ℕ) (f : CodeFunTerm) (vs : List Value) (site : Site) (m : Heap) (here : slice_get code.functions place ≡ Some f) where
  runs_inline : (left nest : ℕ) → f.is_inline ≡ true → run_at code turns left (suc nest) place vs site m ≡ function_does turns (calls_at code turns left nest) f vs m
  runs_inline left nest inline =
      let outer = deeper_does code turns left in
      let run = inline_does code turns outer (suc nest) in
      ap (λ o. run_does outer run place o vs site m) here
      ∙ ap (λ b. (if b then run place vs site else outer place vs site) m) inline
      ∙ ap (λ o. body_does turns (calls_at code turns left nest) o vs site m) here

  runs_deeper : (left nest : ℕ) → f.is_inline ≡ false → run_at code turns (suc left) nest place vs site m ≡ function_does turns (calls_at code turns left (length code.functions)) f vs m
  runs_deeper left nest inline =
      let outer = deeper_does code turns (suc left) in
      let run = inline_does code turns outer nest in
      ap (λ o. run_does outer run place o vs site m) here
      ∙ ap (λ b. (if b then run place vs site else outer place vs site) m) inline
      ∙ ap (λ o. body_does turns (calls_at code turns left (length code.functions)) o vs site m) here

  too_nested : (left : ℕ) → f.is_inline ≡ true → run_at code turns left 0 place vs site m ≡ Failed (record { kind = F10; site = site }) m.phases
  too_nested left inline =
      let outer = deeper_does code turns left in
      let run = inline_does code turns outer 0 in
      ap (λ o. run_does outer run place o vs site m) here
      ∙ ap (λ b. (if b then run place vs site else outer place vs site) m) inline

  too_deep : (nest : ℕ) → f.is_inline ≡ false → run_at code turns 0 nest place vs site m ≡ Failed (record { kind = F10; site = site }) m.phases
  too_deep nest inline =
      let outer = deeper_does code turns 0 in
      let run = inline_does code turns outer nest in
      ap (λ o. run_does outer run place o vs site m) here
      ∙ ap (λ b. (if b then run place vs site else outer place vs site) m) inline

-- ---- in a context

module _ (context : Context) (group : ℕ) (vs : List Value) (site : Site) (m : Heap) where
  -- no function is taken
  pub none_chosen : None ≡ chosen (core_of_code (code_program context.code.now)) group (map (read m) vs) → calls_in context group vs site m ≡ Failed (record { kind = F7; site = site }) m.phases
  none_chosen none =
      let code = code_program context.code.now in
      let outer = deeper_does code context.turns context.left in
      ap (λ o. chosen_does code outer (inline_does code context.turns outer context.nest) o vs site m) (sym none)

  module _ (place : ℕ) (f : CodeFunTerm) (chose : Some place ≡ chosen (core_of_code (code_program context.code.now)) group (map (read m) vs)) (here : slice_get (code_program context.code.now).functions place ≡ Some f) where
    taken : calls_in context group vs site m ≡ run_at (code_program context.code.now) context.turns context.left context.nest place vs site m
    taken =
        let code = code_program context.code.now in
        let outer = deeper_does code context.turns context.left in
        ap (λ o. chosen_does code outer (inline_does code context.turns outer context.nest) o vs site m) (sym chose)

    runs : (inline : Bool) → f.is_inline ≡ inline → (inner : Context) → Deeper (Ok inner) context inline site → calls_in context group vs site m ≡ function_does inner.turns (calls_in inner) f vs m
    runs true is inner d =
        let code = code_program context.code.now in
        taken
        ∙ ap (λ n. run_at code context.turns context.left n place vs site m) (d.0 ∙ add-one inner.nest)
        ∙ runs_inline code context.turns place f vs site m here context.left inner.nest is
        ∙ sym (λ i. function_does (d.2 i) (calls_at (code_program (d.3 i)) (d.2 i) (d.1 i) inner.nest) f vs m)
    runs false is inner d =
        let code = code_program context.code.now in
        let count = d.1 ∙ sym (length-map context.code.now.functions.items code_fun_term) in
        taken
        ∙ ap (λ l. run_at code context.turns l context.nest place vs site m) (d.0 ∙ add-one inner.left)
        ∙ runs_deeper code context.turns place f vs site m here inner.left context.nest is
        ∙ sym (λ i. function_does (d.2 i) (calls_at (code_program (d.3 i)) (d.2 i) inner.left (count i)) f vs m)

    pub call_runs : (inner : Context) → Deeper (Ok inner) context f.is_inline site → calls_in context group vs site m ≡ function_does inner.turns (calls_in inner) f vs m
    call_runs inner d = runs f.is_inline refl inner d

    stops : (inline : Bool) → f.is_inline ≡ inline → (stop : Stop) (t : State) → Deeper (Err stop) context inline site → IsAt t m → ToldStop stop t (calls_in context group vs site m)
    stops true is (Faulted g) t d at =
        let whole' = taken ∙ ap (λ n. run_at (code_program context.code.now) context.turns context.left n place vs site m) d.0 ∙ too_nested (code_program context.code.now) context.turns place f vs site m here context.left is in
        subst (λ e. ToldStop (Faulted g) t e) (sym whole') (d.1, at.phases)
    stops false is (Faulted g) t d at =
        let whole' = taken ∙ ap (λ l. run_at (code_program context.code.now) context.turns l context.nest place vs site m) d.0 ∙ too_deep (code_program context.code.now) context.turns place f vs site m here context.nest is in
        subst (λ e. ToldStop (Faulted g) t e) (sym whole') (d.1, at.phases)
    stops inline is Memory t d at = tt

    pub call_stops : (stop : Stop) (t : State) → Deeper (Err stop) context f.is_inline site → IsAt t m → ToldStop stop t (calls_in context group vs site m)
    call_stops stop t d at = stops f.is_inline refl stop t d at

-- the function at a place
get_or-map : {A B : Type 0} (f : A → B) (xs : List A) (i : ℕ) (d : A) → get_or (map f xs) i (f d) ≡ f (get_or xs i d)
get_or-map f [] i d = refl
get_or-map f (x ∷ xs) zero d = refl
get_or-map f (x ∷ xs) (suc i) d = get_or-map f xs i d

pub function_at : (fs : List CodeFun) (i : ℕ) (d : CodeFun) → i < length fs → slice_get (map code_fun_term fs) i ≡ Some (code_fun_term (get_or fs i d))
function_at fs i d h =
    slice_get-get_or (map code_fun_term fs) i (code_fun_term d) (omega (arith, length-map fs code_fun_term)) ∙ ap Some (get_or-map code_fun_term fs i d)

-- what is said of the code is said of the same code
module _ (code same : Code) where
  pub within_same : (place : ℕ) → code ≡ same → place < length code.functions.items → place < length same.functions.items
  within_same place is below = subst (λ (k : Code). place < length k.functions.items) is below

  pub place_same : (place : ℕ) (f : CodeFun) → code ≡ same → f ≡ get_or code.functions.items place f → f ≡ get_or same.functions.items place f
  place_same place f is found = found ∙ ap (λ (k : Code). get_or k.functions.items place f) is

  pub chosen_same : (group : ℕ) (vs : List Value) (m : Heap) → code ≡ same → chosen (core_of_code (code_program code)) group (map (read m) vs) ≡ chosen (core_of_code (code_program same)) group (map (read m) vs)
  chosen_same group vs m is = ap (λ (k : Code). chosen (core_of_code (code_program k)) group (map (read m) vs)) is

-- ---- results of a function

-- the results of a block alone
pub alone : (none own : List RunValue) (t : State) (end : Ended (List Value)) → none ≡ [] → Told (λ (_ : Unit {0}) ws. Appends none own ws) (Ok tt) t end → Told (λ (_ : Unit {0}) ws. map value_of own ≡ ws) (Ok tt) t end
alone none own t (Done ws k) empty told = (told.0 ∙ ap (λ us. map value_of us ++ ws) empty, told.1)
alone none own t (Failed f ps) empty told = absurd told

module _ (types : List ArrayType) (site : Site) (own : List RunValue) (t : State) where
  pub results_fit : (end : Ended (List Value)) → Told (λ (_ : Unit {0}) ws. map value_of own ≡ ws) (Ok tt) t end → ((h : Heap) → true ≡ all_have types (map (read h) (map value_of own))) → Told (λ (_ : Unit {0}) ws. map value_of own ≡ ws) (Ok tt) t (go_on end (results_do types site))
  results_fit (Done ws k) told fits =
      let same = fits k ∙ ap (λ us. all_have types (map (read k) us)) told.0 in
      subst (λ b. Told (λ (_ : Unit {0}) ws. map value_of own ≡ ws) (Ok tt) t (if b then Done ws k else Failed (record { kind = F7; site = site }) k.phases)) same told
  results_fit (Failed f ps) told fits = absurd told

  pub results_unfit : (end : Ended (List Value)) (stop : Stop) → stop ≡ Faulted (record { kind = F7; site = site }) → Told (λ (_ : Unit {0}) ws. map value_of own ≡ ws) (Ok tt) t end → ((h : Heap) → false ≡ all_have types (map (read h) (map value_of own))) → ToldStop stop t (go_on end (results_do types site))
  results_unfit (Done ws k) stop raised told fits =
      let same = fits k ∙ ap (λ us. all_have types (map (read k) us)) told.0 in
      subst (λ z. ToldStop z t (results_do types site ws k)) (sym raised)
      (subst (λ b. ToldStop (Faulted (record { kind = F7; site = site })) t (if b then Done ws k else Failed (record { kind = F7; site = site }) k.phases)) same (refl, told.1.phases))
  results_unfit (Failed f ps) stop raised told fits = absurd told

pub no_place : (o : Option ℕ) → ((k : ℕ) → o ≡ Some k → ⊥) → o ≡ None
no_place None none = refl
no_place (Some k) none = absurd (none k refl)
