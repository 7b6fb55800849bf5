-- Cells may be computed from each heap of the machine that the lending heap stands for, and stand alone there.
use Rattle.std.proofs.Common.{◌≡◌, ℕ, suc, ◌+◌, ◌<◌, ◌≤◌, ◌^◌, Bool, true, false, cond, eqb, List, [], ◌∷◌, map, ℤ, Option, Some, refl, ap, ◌∙◌, sym, subst, arith}
use Rattle.std.proofs.lemmas.Bool.{eqb-true}
use Rattle.buffer_heap.specs.Heaps.{Content, In, Out, Held, HeapValue, at, IsLive, IsNamed, IsIn, content_of}
use Rattle.phase_cells.specs.Idle.{IsAsLent, IsLending}
use Rattle.core_ir.specs.declared.tree.Var.{Var}
use Rattle.counted_code.specs.declared.tree.CodeGen.{CodeGen}
use Rattle.counted_code.specs.declared.tree.CodePart.{CodePart}
use Rattle.counted_code.specs.Counts.{IsWellCounted}
use Rattle.counted_code.specs.Loops.{CodeCells, Source, holder, part_holder}
use Rattle.counted_code.specs.Machine.{Values, code_cells, code_generators}
use Rattle.counted_code.specs.Terms.{CodeProgram}
use Rattle.counted_code.specs.Values.{Heap, Value, Small, Ref, read, count_of, cells_of}
use Rattle.counted_code.specs.View.{code_program}
use Rattle.counted_laws.specs.Simulation.{live, Backed, AllBacked, Shows}
use Rattle.phase_laws.specs.Alone.{Readable}
use Rattle.phase_loop_laws.proofs.reached_marks.Standing.{clear_gens_stand, clear_parts_stand}
use Rattle.run_store.specs.Stands.{HasContent, StandsFor}
use Rattle.sac_base.specs.declared.form.Form.{Form}
use Rattle.sac_base.specs.WithLoops.{Range}
use Rattle.run_loops.specs.declared.cell_loop.CellSource.{CellSource}
use Rattle.run_loops.specs.declared.cell_loop.CellSource.TheVariants.{Generators, Parts}
use Rattle.run_loops.specs.declared.state.Context.{Context}
use Rattle.run_loops.specs.Jobs.{source_of}
use Rattle.run_loops.specs.Running as running
use Rattle.run_loops.specs.Running.{calls_in, generator_in}
use Rattle.counted_code.specs.Pieces.{gens_term, parts_term}
use Rattle.phase_loop_laws.specs.Ordered.{StandsAlone, balanced}
use Rattle.phase_loop_cells.specs.Cells.{source_means, source_takes}
use Rattle.phase_loop_cells.specs.Opened.{OpenSource, SourceIn, named, cells_in, lent_array, lent_env, meaning_in, spending_in}
use Rattle.phase_books.specs.Alive.{IsAlive, AreAlive}
use Rattle.phase_kernels.proofs.Named.{AreSingle, named_there, some_there}
use Rattle.phase_workers.specs.Sources.{IsClear, IsCounted}
use Rattle.phase_workers.proofs.Machines.{machine_of, stands_for_machine}

-- each live buffer of a heap has a reference
abbrev pub AreReferred : HeapValue → Type 0
AreReferred h = (b : ℕ) (x : Held) → at h b ≡ Some x → 1 ≤ x.count

-- ---- values that are alive

first_alive : (h : HeapValue) (e : Values) (x : Var) (xs : List Var) → AreAlive h e (x ∷ xs) → IsAlive h (e x)
first_alive h e x xs alive = alive 0 x (omega arith)

rest_alive : (h : HeapValue) (e : Values) (x : Var) (xs : List Var) → AreAlive h e (x ∷ xs) → AreAlive h e xs
rest_alive h e x xs alive k d low = alive (suc k) d (omega (arith, low))

module _ (h : HeapValue) (m : Heap) (stands : StandsFor h m) where
  in_cells : (born count : ℕ) (c : Content) (zs : List ℤ) → HasContent c zs → IsIn (record { born = born; count = count; content = c }) → zs ≡ cells_in c
  in_cells born count (In cells) zs has is_in = has
  in_cells born count (Out len) zs has is_in = elim is_in [ ]

  shows_buffer : (b : ℕ) → (place : ℕ) × IsLive h place (IsNamed b) → cells_of m b ≡ cells_in (content_of (named h.places b))
  shows_buffer b alive =
      let s = some_there (at h alive.0) (IsNamed b) alive.1 in
      let x = s.0 in
      subst (λ n. cells_of m n ≡ cells_in (content_of (named h.places n))) s.2.1
      (in_cells x.born x.count x.content (cells_of m x.born) (stands.stored alive.0 x s.1).0.1 s.2.0 ∙ ap (λ o. cells_in (content_of o)) (sym (named_there h.places alive.0 x stands.single s.1)))

  shows_value : (v : Value) → IsAlive h v → read m v ≡ lent_array h v
  shows_value (Small a) alive = refl
  shows_value (Ref b base shape) alive = λ i. record { base = base; shape = shape; cells = shows_buffer b alive i }

  module _ (referred : AreReferred h) where
    some_references : (b : ℕ) → (place : ℕ) × IsLive h place (IsNamed b) → 1 ≤ count_of m b
    some_references b alive =
        let s = some_there (at h alive.0) (IsNamed b) alive.1 in
        let x = s.0 in
        subst (λ n. 1 ≤ count_of m n) s.2.1
        (subst (λ n. 1 ≤ n) (sym (stands.stored alive.0 x s.1).0.0) (referred alive.0 x s.1))

    backed_value : (v : Value) → IsAlive h v → Backed (λ b. count_of m b) v
    backed_value (Small a) alive b = omega arith
    backed_value (Ref c base shape) alive b = go (eqb c b) refl
      where
        go : (r : Bool) → eqb c b ≡ r → cond {A = ℕ} r 1 0 ≤ count_of m b
        go true e = subst (λ n. 1 ≤ count_of m n) (eqb-true c b e) (some_references c alive)
        go false e = omega arith

    pub all_backed : (e : Values) (xs : List Var) → AreAlive h e xs → AllBacked (λ b. count_of m b) e xs
    all_backed e [] alive = tt
    all_backed e (x ∷ xs) alive = (backed_value (e x) (first_alive h e x xs alive), all_backed e xs (rest_alive h e x xs alive))

    pub all_shown : (e : Values) (xs : List Var) → AreAlive h e xs → Shows m e (lent_env h e) xs
    all_shown e [] alive = tt
    all_shown e (x ∷ xs) alive = (shows_value (e x) (first_alive h e x xs alive), all_shown e xs (rest_alive h e x xs alive))

    shown_balanced : (e : Values) (xs : List Var) → Shows m e (lent_env h e) xs → Shows (balanced m) e (lent_env h e) xs
    shown_balanced e [] shows = tt
    shown_balanced e (x ∷ xs) shows = (same (e x) ∙ shows.0, shown_balanced e xs shows.1)
      where
        same : (v : Value) → read (balanced m) v ≡ read m v
        same (Small a) = refl
        same (Ref b base shape) = refl

    none_more : (n : ℕ) → n ≡ 0 + n
    none_more n = omega arith

    pub readable_here : (e : Values) (xs : List Var) → AreAlive h e xs → Readable (balanced m) e (lent_env h e) (λ b. count_of m b) xs
    readable_here e xs alive = record {
      owns = ((λ b. none_more (count_of m b)), refl);
      backed = all_backed e xs alive;
      shows = shown_balanced e xs (all_shown e xs alive);
    }

    as_lent : IsAsLent h m
    as_lent b x is = (stands.stored b x is).0.0

-- ---- sources

generators_same : (context : Context) (e : Values) (gs : List CodeGen) (k : Heap) → code_generators (calls_in context) context.turns (gens_term gs) e k ≡ map (generator_in context e k) gs
generators_same context e [] k = refl
generators_same context e (g ∷ gs) k = ap (λ rest. generator_in context e k g ∷ rest) (generators_same context e gs k)

pub cells_same : (context : Context) (e : Values) (ps : List CodePart) → code_cells (calls_in context) context.turns (parts_term ps) e ≡ map (running.cells_in context e) ps
cells_same context e [] = refl
cells_same context e (p ∷ ps) = ap (λ rest. running.cells_in context e p ∷ rest) (cells_same context e ps)

pub source_in : (code : CodeProgram) (source : CellSource) (live : List Var) → IsClear code source → IsCounted code source live → SourceIn code source live
source_in code (Generators gens) live clear counted = (clear, counted)
source_in code (Parts parts) live clear counted = (clear, counted)

module _ (context : Context) (h : HeapValue) (e : Values) (source : CellSource) (xs : List Var) (counted : IsWellCounted (code_program context.code.now)) (here : SourceIn (code_program context.code.now) source xs) (alive : AreAlive h e xs) (referred : AreReferred h) where
  pub open_source : (m : Heap) → StandsFor h m → OpenSource context h e source m
  open_source m stands = record {
    counted = counted;
    live = xs;
    counted_here = here;
    holding = λ b. count_of m b;
    taken = m.given + live m.buffers;
    readable = readable_here h m stands referred e xs alive;
    lent = as_lent h m stands referred;
  }

  pub lending_source : (below : (b : ℕ) (x : Held) → at h b ≡ Some x → x.born < h.births) → AreSingle h.places → (h.taken < 2 ^ 64) × (h.given < 2 ^ 64) × (h.reused < 2 ^ 64) → IsLending (OpenSource context h e source) h
  lending_source below single counters = record {
    before = machine_of h;
    stands = stands_for_machine h below single counters;
    opens_first = open_source (machine_of h) (stands_for_machine h below single counters);
  }

-- the cells stand alone
module _ (context : Context) (h : HeapValue) (e : Values) (xs : List Var) (counted : IsWellCounted (code_program context.code.now)) (alive : AreAlive h e xs) (referred : AreReferred h) (m k : Heap) (stands : StandsFor h m) (form : Form) (ranges : List Range) where
  abbrev Alone : (List ℤ → Option Source) → CellSource → Type 0
  Alone holds source = StandsAlone m form holds (source_means context h e source form ranges) (source_takes context h e source ranges)

  pub alone_source : (source : CellSource) → SourceIn (code_program context.code.now) source xs → Alone (source_of context e k source ranges) source
  alone_source (Generators gens) here =
      let clear = here.0 in
      subst (λ gs. Alone (holder gs ranges) (Generators gens)) (generators_same context e gens.now k)
      (clear_gens_stand (code_program context.code.now) counted clear.0 clear.1 context.turns context.left context.nest (gens_term gens.now) clear.2 clear.3 xs here.1 (lent_env h e) form ranges m k e
      (all_backed h m stands referred e xs alive) (all_shown h m stands referred e xs alive))
  alone_source (Parts parts) here =
      let clear = here.0 in
      subst (λ (ps : List CodeCells). Alone (part_holder ps) (Parts parts)) (cells_same context e parts.now)
      (clear_parts_stand (code_program context.code.now) counted clear.0 clear.1 context.turns context.left context.nest (parts_term parts.now) clear.2 clear.3 xs here.1 (lent_env h e) form.base form.shape m e
      (all_backed h m stands referred e xs alive) (all_shown h m stands referred e xs alive))
