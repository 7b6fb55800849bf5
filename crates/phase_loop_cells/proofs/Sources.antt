-- Where a cell comes from, in the evaluator's words and in the machine's, and what it leaves.
use Rattle.std.proofs.Common.{◌≡◌, Bool, true, false, List, [], ◌∷◌, ℤ, Some, refl, subst}
use Rattle.std.specs.Prelude.{if◌then◌else◌, option_map}
use Rattle.buffer_heap.specs.Heaps.{HeapValue}
use Rattle.core_ir.specs.declared.tree.Var.{Var}
use Rattle.core_ir.specs.Meaning.{generators, cells, cell_form, cell_at as part_cell_at}
use Rattle.counted_code.specs.declared.tree.CodeGen.{CodeGen}
use Rattle.counted_code.specs.declared.tree.CodePart.{CodePart}
use Rattle.counted_code.specs.Loops.{cell_does, holder, part_holder}
use Rattle.counted_code.specs.Machine.{Values, code_generators, code_cells}
use Rattle.counted_code.specs.Terms.{CodeProgram, core_of_gens, core_of_parts}
use Rattle.counted_code.specs.Values.{Heap}
use Rattle.counted_code.specs.View.{code_program}
use Rattle.phase_laws.specs.Alone.{Readable, Leaves}
use Rattle.phase_laws.specs.Growing.{EndsGrown}
use Rattle.phase_laws.specs.Numbers.{SourceIsBlind}
use Rattle.phase_laws.specs.Spending.{gens_take, parts_take}
use Rattle.phase_laws.proofs.Blind.{gens_blind, parts_blind, calls_blind}
use Rattle.phase_laws.proofs.Growing.{cell_grows, gens_grow, parts_grow, calls_grow}
use Rattle.phase_laws.proofs.Loops.{readable_in}
use Rattle.phase_loop_laws.proofs.reached_marks.Standing.{clear_gens_alone, clear_parts_alone}
use Rattle.sac_base.specs.declared.form.Form.{Form}
use Rattle.sac_base.specs.Grids.{has_vector}
use Rattle.sac_base.specs.WithLoops.{Range, holds, cell_at as with_cell_at}
use Rattle.run_loops.specs.declared.state.Context.{Context}
use Rattle.counted_code.specs.Pieces.{gens_term, parts_term}
use Rattle.phase_loop_cells.specs.Cells.{source_means, source_takes}
use Rattle.phase_loop_cells.specs.Opened.{IsOpen, GensIn, PartsIn, OpenGens, OpenParts, OpenSource, meaning_in, spending_in, lent_env}
use Rattle.run_loops.specs.declared.cell_loop.CellSource.{CellSource}
use Rattle.run_loops.specs.declared.cell_loop.CellSource.TheVariants.{Generators, Parts}
use Rattle.run_loops.specs.Loops.{held, part_held, gen_source, part_source, source_at, source_in, part_source_in}
use Rattle.run_loops.specs.Running.{calls_in}
use Rattle.phase_loop_cells.proofs.Numbered.{LeavesAs, leaves_as, cell_blind}

-- the heap without phases
abbrev pub quiet : Heap → Heap
quiet k = record k { phases = [] }

-- ---- sources

module _ (context : Context) (e : Values) where
  pub gens_same : (gens : List CodeGen) (k : Heap) (ranges : List Range) (v : List ℤ) → holder (code_generators (calls_in context) context.turns (gens_term gens) e k) ranges v ≡ source_in context e gens ranges v
  gens_same [] k ranges v = refl
  gens_same (g ∷ gs) k [] v = refl
  gens_same (g ∷ gs) k (r ∷ rs) v = go (holds r v) (gens_same gs k rs v)
    where
      go : (here : Bool) → holder (code_generators (calls_in context) context.turns (gens_term gs) e k) rs v ≡ source_in context e gs rs v → (if here then Some (gen_source context e v g) else holder (code_generators (calls_in context) context.turns (gens_term gs) e k) rs v) ≡ option_map (gen_source context e v) (if here then Some g else held gs rs v)
      go true rest = refl
      go false rest = rest

  pub parts_same : (parts : List CodePart) (v : List ℤ) → part_holder (code_cells (calls_in context) context.turns (parts_term parts) e) v ≡ part_source_in context e parts v
  parts_same [] v = refl
  parts_same (p ∷ ps) v = go (has_vector p.grid v) (parts_same ps v)
    where
      go : (here : Bool) → part_holder (code_cells (calls_in context) context.turns (parts_term ps) e) v ≡ part_source_in context e ps v → (if here then Some (part_source context e v p) else part_holder (code_cells (calls_in context) context.turns (parts_term ps) e) v) ≡ option_map (part_source context e v) (if here then Some p else part_held ps v)
      go true rest = refl
      go false rest = rest

-- ---- cells

module _ (CountedIn : List Var → Type 0) (code : CodeProgram) (lends : HeapValue) (e : Values) (k : Heap) (is : IsOpen CountedIn code lends e k) where
  readable_quiet : Readable (record k { taken = is.taken; phases = [] }) e (lent_env lends e) is.holding is.live
  readable_quiet =
      readable_in (record k { taken = is.taken }) (record k { taken = is.taken; phases = [] }) e (lent_env lends e) is.holding is.live is.readable is.readable.owns (λ b le. refl)

module _ (context : Context) (lends : HeapValue) (e : Values) (gens : List CodeGen) (k : Heap) (is : OpenGens context lends e gens k) where
  abbrev gens_code : CodeProgram
  gens_code = code_program context.code.now

  gens_source_blind : (ranges : List Range) (v : List ℤ) → SourceIsBlind (source_in context e gens ranges v)
  gens_source_blind ranges v =
      subst SourceIsBlind (gens_same context e gens k ranges v)
      (gens_blind (calls_in context) context.turns (calls_blind gens_code context.turns context.left context.nest) (gens_term gens) e k ranges v)

  gens_leave_quiet : (form : Form) (ranges : List Range) (v : List ℤ) → Leaves is.holding (gens_take (meaning_in context) context.turns (spending_in context) (gens_term gens) (lent_env lends e) ranges v) (record k { taken = is.taken; phases = [] }) (cell_does form (source_in context e gens ranges v) (record k { taken = is.taken; phases = [] })) (with_cell_at form (generators (meaning_in context) context.turns (core_of_gens (gens_term gens)) (lent_env lends e)) ranges v)
  gens_leave_quiet form ranges v =
      let clear = is.counted_here.0 in
      let heap = record k { taken = is.taken; phases = [] } in
      let readable = readable_quiet (GensIn gens_code (gens_term gens)) gens_code lends e k is in
      subst (λ s. Leaves is.holding (gens_take (meaning_in context) context.turns (spending_in context) (gens_term gens) (lent_env lends e) ranges v) (record k { taken = is.taken; phases = [] }) (cell_does form s (record k { taken = is.taken; phases = [] })) (with_cell_at form (generators (meaning_in context) context.turns (core_of_gens (gens_term gens)) (lent_env lends e)) ranges v)) (gens_same context e gens k ranges v)
      (clear_gens_alone gens_code is.counted clear.0 clear.1 context.turns context.left context.nest (gens_term gens) clear.2 clear.3 is.live is.counted_here.1
      (lent_env lends e) form ranges heap k e is.holding readable v heap readable.owns (λ b le. refl))

  pub gens_alone : (form : Form) (ranges : List Range) (v : List ℤ) → LeavesAs is.holding is.taken (gens_take (meaning_in context) context.turns (spending_in context) (gens_term gens) (lent_env lends e) ranges v) (quiet k) (cell_does form (source_in context e gens ranges v) (quiet k)) (with_cell_at form (generators (meaning_in context) context.turns (core_of_gens (gens_term gens)) (lent_env lends e)) ranges v)
  gens_alone form ranges v =
      leaves_as is.holding is.taken (gens_take (meaning_in context) context.turns (spending_in context) (gens_term gens) (lent_env lends e) ranges v) (quiet k) (cell_does form (source_in context e gens ranges v)) (with_cell_at form (generators (meaning_in context) context.turns (core_of_gens (gens_term gens)) (lent_env lends e)) ranges v)
      (cell_blind form (source_in context e gens ranges v) (gens_source_blind ranges v)) (gens_leave_quiet form ranges v)

  pub gens_grown : (form : Form) (ranges : List Range) (v : List ℤ) → EndsGrown (quiet k) (cell_does form (source_in context e gens ranges v) (quiet k))
  gens_grown form ranges v =
      subst (λ s. EndsGrown (quiet k) (cell_does form s (quiet k))) (gens_same context e gens k ranges v)
      (cell_grows form (holder (code_generators (calls_in context) context.turns (gens_term gens) e k) ranges v) (gens_grow (calls_in context) context.turns (calls_grow gens_code context.turns context.left context.nest) (gens_term gens) e k ranges v) (quiet k))

module _ (context : Context) (lends : HeapValue) (e : Values) (parts : List CodePart) (k : Heap) (is : OpenParts context lends e parts k) where
  abbrev parts_code : CodeProgram
  parts_code = code_program context.code.now

  parts_source_blind : (v : List ℤ) → SourceIsBlind (part_source_in context e parts v)
  parts_source_blind v =
      subst SourceIsBlind (parts_same context e parts v)
      (parts_blind (calls_in context) context.turns (calls_blind parts_code context.turns context.left context.nest) (parts_term parts) e v)

  parts_leave_quiet : (form : Form) (v : List ℤ) → Leaves is.holding (parts_take (meaning_in context) context.turns (spending_in context) (parts_term parts) (lent_env lends e) v) (record k { taken = is.taken; phases = [] }) (cell_does form (part_source_in context e parts v) (record k { taken = is.taken; phases = [] })) (part_cell_at (cell_form form.base form.shape) (cells (meaning_in context) context.turns (core_of_parts (parts_term parts)) (lent_env lends e)) v)
  parts_leave_quiet form v =
      let clear = is.counted_here.0 in
      let heap = record k { taken = is.taken; phases = [] } in
      let readable = readable_quiet (PartsIn parts_code (parts_term parts)) parts_code lends e k is in
      subst (λ s. Leaves is.holding (parts_take (meaning_in context) context.turns (spending_in context) (parts_term parts) (lent_env lends e) v) (record k { taken = is.taken; phases = [] }) (cell_does form s (record k { taken = is.taken; phases = [] })) (part_cell_at (cell_form form.base form.shape) (cells (meaning_in context) context.turns (core_of_parts (parts_term parts)) (lent_env lends e)) v)) (parts_same context e parts v)
      (clear_parts_alone parts_code is.counted clear.0 clear.1 context.turns context.left context.nest (parts_term parts) clear.2 clear.3 is.live is.counted_here.1
      (lent_env lends e) form.base form.shape heap e is.holding readable v heap readable.owns (λ b le. refl))

  pub parts_alone : (form : Form) (v : List ℤ) → LeavesAs is.holding is.taken (parts_take (meaning_in context) context.turns (spending_in context) (parts_term parts) (lent_env lends e) v) (quiet k) (cell_does form (part_source_in context e parts v) (quiet k)) (part_cell_at (cell_form form.base form.shape) (cells (meaning_in context) context.turns (core_of_parts (parts_term parts)) (lent_env lends e)) v)
  parts_alone form v =
      leaves_as is.holding is.taken (parts_take (meaning_in context) context.turns (spending_in context) (parts_term parts) (lent_env lends e) v) (quiet k) (cell_does form (part_source_in context e parts v)) (part_cell_at (cell_form form.base form.shape) (cells (meaning_in context) context.turns (core_of_parts (parts_term parts)) (lent_env lends e)) v)
      (cell_blind form (part_source_in context e parts v) (parts_source_blind v)) (parts_leave_quiet form v)

  pub parts_grown : (form : Form) (v : List ℤ) → EndsGrown (quiet k) (cell_does form (part_source_in context e parts v) (quiet k))
  parts_grown form v =
      subst (λ s. EndsGrown (quiet k) (cell_does form s (quiet k))) (parts_same context e parts v)
      (cell_grows form (part_holder (code_cells (calls_in context) context.turns (parts_term parts) e) v) (parts_grow (calls_in context) context.turns (calls_grow parts_code context.turns context.left context.nest) (parts_term parts) e v) (quiet k))

-- ---- cells of a source

module _ (context : Context) (lends : HeapValue) (e : Values) where
  pub source_alone : (source : CellSource) (k : Heap) (is : OpenSource context lends e source k) (form : Form) (ranges : List Range) (v : List ℤ) → LeavesAs is.holding is.taken (source_takes context lends e source ranges v) (quiet k) (cell_does form (source_at context e source ranges v) (quiet k)) (source_means context lends e source form ranges v)
  source_alone (Generators gens) k is form ranges v = gens_alone context lends e gens.now k is form ranges v
  source_alone (Parts parts) k is form ranges v = parts_alone context lends e parts.now k is form v

  pub source_grown : (source : CellSource) (k : Heap) (is : OpenSource context lends e source k) (form : Form) (ranges : List Range) (v : List ℤ) → EndsGrown (quiet k) (cell_does form (source_at context e source ranges v) (quiet k))
  source_grown (Generators gens) k is form ranges v = gens_grown context lends e gens.now k is form ranges v
  source_grown (Parts parts) k is form ranges v = parts_grown context lends e parts.now k is form v
