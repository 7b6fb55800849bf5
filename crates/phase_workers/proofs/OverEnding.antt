-- What the phase of a loop over an array tells of the machine's loop.
use Rattle.std.proofs.Common.{◌≡◌, ℕ, zero, suc, ◌<◌, Bool, true, false, not, ◌&&◌, ◌||◌, cond, eqb, List, [], ◌∷◌, ◌++◌, filter, length, map, ℤ, Option, Some, None, Result, Ok, Err, refl, ap, ◌∙◌, sym, subst, arith}
use Rattle.std.specs.Prelude.{All, get_or}
use Rattle.std.specs.List.{list_all}
use Rattle.std.proofs.lemmas.Bool.{eqb-true, eqb-false}
use Rattle.buffer_heap.specs.Heaps.{Content, In, Out, HeapValue, IsLive, len_of}
use Rattle.core_ir.specs.declared.tree.Var.{Var}
use Rattle.core_ir.specs.Binders.{is_in}
use Rattle.core_ir.proofs.Variables.{same_number}
use Rattle.core_ir.specs.Meaning.{cells, cell_form, cell_at, extents, joined}
use Rattle.counted_code.specs.declared.tree.CodePart.{CodePart}
use Rattle.counted_code.specs.Counts.{IsWellCounted}
use Rattle.counted_code.specs.Loops.{Job, count_phase, job_does, part_holder}
use Rattle.counted_code.specs.Machine.{Values}
use Rattle.counted_code.specs.Terms.{core_of_parts}
use Rattle.counted_code.specs.Values.{Heap, Value, Small, Ref, count_of, cells_of, is_small}
use Rattle.counted_code.specs.View.{code_program}
use Rattle.phase_kernels.specs.over_checks.Holders.{is_apart, is_elsewhere}
use Rattle.phase_kernels.specs.over_checks.Over.{IsFilled, MayBeOver}
use Rattle.phase_loop_laws.specs.over_phases.Statements.{AreElements, EndsOver, IsApart, PhasesEndOver}
use Rattle.phase_books.specs.Alive.{AreAlive}
use Rattle.phase_books.specs.Homes.{ComputesAll, handed}
use Rattle.phase_books.specs.Over.{settled_over}
use Rattle.counted_code.specs.Pieces.{parts_term}
use Rattle.phase_count.proofs.Tallying.{counts_as}
use Rattle.phase_laws.specs.Spending.{parts_take, total}
use Rattle.phase_loop_cells.specs.Cells.{as_cell, index_at}
use Rattle.phase_loop_cells.specs.Opened.{PartsIn, lent_env, meaning_in, spending_in}
use Rattle.phase_loop_laws.specs.Worked as worked
use Rattle.phase_loop_laws.specs.Worked.{IsResult}
use Rattle.phase_loop_laws.proofs.Places.{costs_in_all}
use Rattle.phase_loop_laws.proofs.Results.{parts_made}
use Rattle.phase_team.specs.Endings.{IsArray}
use Rattle.phase_team.specs.Segments.{cells_from, cost_from}
use Rattle.phase_workers.proofs.Ending.{same_cell}
use Rattle.phase_workers.proofs.Openings.{AreReferred, all_backed, all_shown, cells_same}
use Rattle.phase_workers.proofs.OverHeaps.{over_stands}
use Rattle.run_loops.specs.Jobs.{AreIndicesOf}
use Rattle.run_loops.specs.Running.{IsAt, IsValue, Told, ToldStop, parts_job}
use Rattle.run_loops.specs.declared.state.Context.{Context}
use Rattle.run_loops.specs.declared.state.State.{State}
use Rattle.run_over.specs.Soles.{IsSoleOf, is_only}
use Rattle.run_store.specs.Stands.{HasContent, Stands, StandsFor}
use Rattle.run_store.specs.declared.store.Store.{Store}
use Rattle.run_store.proofs.Changes.{some_there}
use Rattle.run_store.proofs.Opening.{main_stands}
use Rattle.run_values.specs.declared.value.RunValue.{RunValue}
use Rattle.run_values.specs.Shown.{value_of}
use Rattle.sac_base.specs.declared.base.Base.{Base}
use Rattle.sac_base.specs.declared.faults.Fault.{Fault}
use Rattle.sac_base.specs.declared.form.Form.{Form}
use Rattle.sac_base.specs.declared.grid.Grid1.{Grid1}
use Rattle.sac_base.specs.declared.stop.Stop.{Stop}
use Rattle.sac_base.specs.declared.stop.Stop.TheVariants.{Faulted}
use Rattle.sac_base.specs.Arrays.{ArrayValue, size}
use Rattle.sac_base.specs.Grids.{box_indices, has_index, has_vector, members}
use Rattle.sac_base.specs.Outcomes.{Ends}
use Rattle.sac_base.specs.WithLoops.{each}
use Rattle.wl_core.specs.Machine.{CellValue}

-- ---- the members of a grid have as many components as it has axes

vector_long : (grid : List Grid1) (v : List ℤ) → has_vector grid v ≡ true → length v ≡ length grid
vector_long [] [] e = refl
vector_long [] (x ∷ v) e = absurd (cc)
vector_long (g ∷ grid) [] e = absurd (cc)
vector_long (g ∷ grid) (x ∷ v) e = λ i. suc (vector_long grid v (rest (has_index g x) e) i)
  where
    rest : (r : Bool) → (r && has_vector grid v) ≡ true → has_vector grid v ≡ true
    rest true e = e
    rest false e = absurd (cc)

more_long : (n : ℕ) (v : List ℤ) (vs : List (List ℤ)) → length v ≡ n → All (λ (v : List ℤ). length v ≡ n) vs → All (λ (v : List ℤ). length v ≡ n) (v ∷ vs)
more_long n v vs first rest zero d low = first
more_long n v vs first rest (suc k) d low = rest k d (omega (arith, low))

kept_long : (grid : List Grid1) (vs : List (List ℤ)) → All (λ (v : List ℤ). length v ≡ length grid) (filter (has_vector grid) vs)
kept_long grid [] = λ k d low. absurd (omega (arith, low))
kept_long grid (v ∷ vs) = go (kept_long grid vs) (has_vector grid v) refl
  where
    go : All (λ (v : List ℤ). length v ≡ length grid) (filter (has_vector grid) vs) → (r : Bool) → has_vector grid v ≡ r → All (λ (v : List ℤ). length v ≡ length grid) (cond r (v ∷ filter (has_vector grid) vs) (filter (has_vector grid) vs))
    go rest true e = more_long (length grid) v (filter (has_vector grid) vs) (vector_long grid v e) rest
    go rest false e = rest

members_long : (grid : List Grid1) → All (λ (v : List ℤ). length v ≡ length grid) (members grid)
members_long grid = kept_long grid (box_indices (map (λ (axis : Grid1). axis.lo) grid) (map (λ (axis : Grid1). axis.hi) grid))

extents_long : (grid : List Grid1) → length (extents grid) ≡ length grid
extents_long [] = refl
extents_long (axis ∷ grid) = λ i. suc (extents_long grid i)

-- ---- variables that have no reference to the buffer

turned : (b c : ℕ) → eqb c b ≡ false → eqb b c ≡ false
turned b c other = go (eqb b c) refl
  where
    go : (r : Bool) → eqb b c ≡ r → r ≡ false
    go false is = refl
    go true is = elim (eqb-false c b other (sym (eqb-true b c is))) [ ]

apart_value : (b : ℕ) (v : Value) → is_elsewhere b v ≡ true → IsApart b v
apart_value b (Small a) e = tt
apart_value b (Ref c base shape) e = go (eqb c b) refl e
  where
    go : (r : Bool) → eqb c b ≡ r → not r ≡ true → eqb b c ≡ false
    go true same e = absurd (cc)
    go false other e = turned b c other

and_left : (r s : Bool) → (r && s) ≡ true → r ≡ true
and_left true s e = refl
and_left false s e = e

and_right : (r s : Bool) → (r && s) ≡ true → s ≡ true
and_right true s e = e
and_right false s e = absurd (cc)

or_right : (r s : Bool) → r ≡ false → (r || s) ≡ true → s ≡ true
or_right false s not e = e
or_right true s not e = absurd (cc)

here_apart : (b : ℕ) (x y : Var) (e : Values) → is_apart b x e y ≡ true → eqb x.0 y.0 ≡ false → IsApart b (e y)
here_apart b x y e is other = apart_value b (e y) (or_right (eqb y.0 x.0) (is_elsewhere b (e y)) (turned y.0 x.0 other) is)

holds_apart : (b : ℕ) (x y : Var) (xs : List Var) (e : Values) → list_all (is_apart b x e) xs ≡ true → is_in y xs ≡ true → eqb x.0 y.0 ≡ false → IsApart b (e y)
holds_apart b x y [] e all there other = absurd (cc)
holds_apart b x y (z ∷ xs) e all there other =
    go (eqb z.0 y.0) refl there (holds_apart b x y xs e (and_right (is_apart b x e z) (list_all (is_apart b x e) xs) all))
  where
    go : (r : Bool) → eqb z.0 y.0 ≡ r → (r || is_in y xs) ≡ true → (is_in y xs ≡ true → eqb x.0 y.0 ≡ false → IsApart b (e y)) → IsApart b (e y)
    go true same there later =
        here_apart b x y e (subst (λ (v : Var). is_apart b x e v ≡ true) (same_number z y same) (and_left (is_apart b x e z) (list_all (is_apart b x e) xs) all)) other
    go false apart there later = later there other

content_length : (c : Content) (zs : List ℤ) → HasContent c zs → length zs ≡ len_of c
content_length (In cells) zs has = ap length has
content_length (Out len) zs has = has

-- what two references that are the same have
pub same_array : (a b : ℕ) (base old : Base) (s t : List ℕ) → Ref a base s ≡ Ref b old t → (a ≡ b) × (s ≡ t)
same_array a b base old s t e = (cc, cc)

-- ---- the law, of what is known here

module _ (context : Context) (e : Values) (parts : List CodePart) (frame : List (List ℤ)) (form : Form) (shape : List ℕ) (xs : List Var) (w : Value) (h : HeapValue) (law : PhasesEndOver) (counted : IsWellCounted (code_program context.code.now)) (here : PartsIn (code_program context.code.now) (parts_term parts) xs) (alive : AreAlive h e xs) (referred : AreReferred h) (over : MayBeOver context h e parts form shape xs w) (m : Heap) (stands : StandsFor h m) (large : is_small shape ≡ false) (only : is_only m w ≡ true) (rows : AreIndicesOf shape frame) where
  abbrev pub job : Job
  job = parts_job context e parts frame form shape

  abbrev b : ℕ
  b = over.buffer

  abbrev cell_of : List ℕ → List ℤ → Ends (Option ArrayValue)
  cell_of s = cell_at (cell_form form.base s) (cells (meaning_in context) context.turns (core_of_parts (parts_term parts)) (lent_env h e))

  abbrev takes : List ℤ → ℕ
  takes = parts_take (meaning_in context) context.turns (spending_in context) (parts_term parts) (lent_env h e)

  abbrev parts_cell : ℕ → CellValue
  parts_cell place = as_cell None (cell_of form.shape (index_at frame place))

  abbrev parts_taken : ℕ → ℕ
  parts_taken place = takes (index_at frame place)

  abbrev pub spent : ℕ
  spent = cost_from parts_taken 0 (length frame)

  abbrev pub AllThere : Type 0
  AllThere = (place : ℕ) → place < length frame → parts_cell place ≡ Ok None → ⊥

  abbrev pub Computed : List ℤ → Result HeapValue Stop → Type 0
  Computed es end = ComputesAll (cells_from parts_cell 0 (length frame)) h spent es end

  one : count_of m b ≡ 1
  one = eqb-true (count_of m b) 1 (subst (λ (v : Value). is_only m v ≡ true) over.is only)

  full : length (cells_of m b) ≡ size shape
  full =
      let it = some_there h over.place (IsFilled b (size shape)) over.filled in
      subst (λ n. length (cells_of m n) ≡ size shape) it.2.1 (content_length it.0.content (cells_of m it.0.born) (stands.stored over.place it.0 it.1).0.1 ∙ it.2.2)

  rank_is : length rows.frame ≡ length shape
  rank_is = sym (ap length rows.shape_is ∙ extents_long rows.frame)

  rows_long : All (λ (v : List ℤ). length v ≡ length shape) (members rows.frame)
  rows_long k d low = members_long rows.frame k d low ∙ rank_is

  elements : AllThere → AreElements (cell_of []) frame
  elements there p low =
      over.own.elements (get_or frame p []) (subst (All (λ (v : List ℤ). length v ≡ length shape)) (sym rows.indices_are) rows_long p [] low)
      (λ none. there p low (ap (as_cell None) (ap (λ (s : List ℕ). cell_of s (get_or frame p [])) over.scalars ∙ none)))

  result_is : (es : List ℤ) (end : Result (Unit {0}) Stop) → IsArray (cells_from parts_cell 0 (length frame)) es end
      → IsResult (joined form.base shape) form.base shape (each (cell_of []) (members rows.frame)) es end
  result_is es end is =
      subst (λ (r : Ends (List (Option ArrayValue))). IsResult (joined form.base shape) form.base shape r es end) (λ i. each (cell_of (over.scalars i)) (rows.indices_are i))
      (parts_made (cell_of form.shape) frame form.base shape es end
      (subst (λ (f : ℕ → CellValue). IsArray (cells_from f 0 (length frame)) es end) (λ i place. same_cell None (cell_of form.shape (worked.index_at frame place)) i) is))

  spent_is : total takes (members rows.frame) ≡ spent
  spent_is = ap (total takes) (sym rows.indices_are) ∙ sym (costs_in_all takes frame)

  over_ends : (es : List ℤ) (end : Result (Unit {0}) Stop) → AllThere → IsArray (cells_from parts_cell 0 (length frame)) es end → EndsOver job (Ref b over.base shape) b spent m es end
  over_ends es end there is =
      let clear = here.0 in
      subst (λ n. EndsOver job (Ref b over.base shape) b n m es end) spent_is
      (law (code_program context.code.now) counted clear.0 clear.1 context.turns context.left context.nest (parts_term parts) clear.2 clear.3 xs here.1 m e (lent_env h e)
      (all_backed h m stands referred e xs alive) (all_shown h m stands referred e xs alive) over.variable b form.base over.base shape over.alone.0 (over.value ∙ over.is) one
      (λ y there other. holds_apart b over.variable y xs e over.alone.1 there other) rows.frame rows.box rows.shape_is full large
      (over.own.own (members rows.frame) rows_long) (subst (AreElements (cell_of [])) rows.indices_are (elements there))
      job (λ i. record { form = record { base = form.base; shape = over.scalars i }; shape = shape; folds = false; indices = rows.indices_are i; source = part_holder (sym (cells_same context e parts) i); result = joined form.base shape })
      es end (result_is es end is))

  machine_over : job_does (Some w) job m ≡ job_does (Some (Ref b over.base shape)) job m
  machine_over = ap (λ (v : Value). job_does (Some v) job m) over.is

  module _ (s t : State) (is : IsAt s (count_phase true (length frame) m)) (phases : t.phases ≡ s.phases) where
    -- the finished result
    pub over_finished : (es : List ℤ) (home : HeapValue) → Computed es (Ok home) → AllThere → (p : ℕ) → IsLive h p (IsSoleOf b) → t.heap ≡ record { own = settled_over (handed h home) p es; lent = None }
        → (v : RunValue) → value_of v ≡ Ref b form.base shape → Told IsValue (Ok v) t (job_does (Some w) job m)
    over_finished es home computed there p sole heap v value =
        let ends = over_ends es (Ok tt) there computed.0 in
        subst (Told IsValue (Ok v) t) (sym (machine_over ∙ ends.1)) (
          value,
          record {
            heap = subst (λ (k : Store). Stands k ends.0) (sym heap) (main_stands (settled_over (handed h home) p es) ends.0 (over_stands h home m ends.0 b spent (length frame) p es referred stands ends.2 computed.1 sole));
            phases = counts_as s.phases t.phases (m.phases ++ length frame ∷ []) ends.0.phases phases (sym ends.2.phases) is.phases;
          },
        )

    -- the fault of the least position
    pub over_faulted : (es : List ℤ) (f : Fault) → Computed es (Err (Faulted f)) → AllThere → ToldStop (Faulted f) t (job_does (Some w) job m)
    over_faulted es f computed there =
        subst (ToldStop (Faulted f) t) (sym (machine_over ∙ over_ends es (Err (Faulted f)) there computed))
        (refl, counts_as s.phases t.phases (m.phases ++ length frame ∷ []) (m.phases ++ length frame ∷ []) phases refl is.phases)
