-- With-loops and unmarked parted loops spend on a heap what they spend on arrays, and their cells leave it as it was.
use Rattle.std.proofs.Common.{◌≡◌, ℕ, ◌≤◌, Bool, true, false, List, [], ◌∷◌, ◌++◌, map, ℤ, Some, None, Ok, Err, refl, ◌∙◌, sym, subst, arith}
use Rattle.std.specs.Prelude.{if◌then◌else◌}
use Rattle.std.proofs.lemmas.List.{append-nil}
use Rattle.sac_base.specs.declared.base.Base.{Base}
use Rattle.sac_base.specs.declared.base.Base.TheVariants.{Int}
use Rattle.sac_base.specs.declared.faults.FaultKind.TheVariants.{F6}
use Rattle.sac_base.specs.declared.form.Form.{Form}
use Rattle.sac_base.specs.declared.grid.Grid1.{Grid1}
use Rattle.sac_base.specs.declared.site.Site.{Site}
use Rattle.sac_base.specs.Arrays.{vector}
use Rattle.sac_base.specs.Grids.{has_vector, members}
use Rattle.sac_base.specs.Outcomes.{Ends, and_then, fault}
use Rattle.sac_base.specs.WithLoops.{Bounds, Generator, Operation, Plan, Range, plan, holds}
use Rattle.sac_base.specs.WithLoops as loops
use Rattle.core_ir.specs.declared.tree.CoreOp.{CoreOp}
use Rattle.core_ir.specs.declared.tree.PartedOp.{PartedOp}
use Rattle.core_ir.specs.declared.tree.PartedOp.TheVariants as parted
use Rattle.core_ir.specs.declared.tree.Var.{Var}
use Rattle.core_ir.specs.Binders.{is_in}
use Rattle.core_ir.specs.Meaning.{Env, first, bind, cell_form, cell_at, generator, operation, with_index, run, generators, cells, neutral_fits}
use Rattle.core_ir.specs.Meaning as core
use Rattle.core_ir.specs.Scopes.{AllIn, op_uses, parted_uses}
use Rattle.counted_code.specs.Counts.{Counted, CountedGens, CountedParts}
use Rattle.counted_code.specs.Loops.{Job, CodeGenerator, CodeCells, cell_does, holder, is_fold, with_job, part_holder, parted_folds, parted_shape, job_does}
use Rattle.counted_code.specs.Machine.{Values, first_value, bind_value, with_index_value, does, right_does, code_generators, code_cells}
use Rattle.counted_code.specs.Terms.{CodeTerm, CodeGensTerm, CodePartsTerm, WithCode, PartedCode, NoCodeGens, GenCode, NoCodeParts, PartCode, core_of, core_of_gens, core_of_parts}
use Rattle.counted_code.specs.Values.{Heap, Small, give, go_on, pure_end}
use Rattle.counted_laws.specs.Simulation.{held, Owns, AllBacked, Shows, SameCells}
use Rattle.counted_laws.proofs.Held.{shows_back, all_backed_more, backed_shows}
use Rattle.counted_laws.proofs.Bound.{Ready, turn_ready}
use Rattle.counted_laws.proofs.Loops.{operation_same, all_bounds_same, job_same, index_ready, first_matches, same_length, no_elements, job_of, parted_of}
use Rattle.counted_laws.proofs.Plains.{owns_none}
use Rattle.phase_laws.specs.Alone.{Context, Readable, Spent, Leaves}
use Rattle.phase_laws.specs.Spending.{nothing, after, cells_spend, gens_take, parts_take}
use Rattle.phase_laws.proofs.Cells.{unchanged_self, cell_leaves, job_spends}
use Rattle.phase_laws.proofs.Spent.{first_spends}
use Rattle.phase_laws.proofs.Steps.{Means, BlockSpends, RightSpends, spends_in, right_spends_in}

-- ---- where a body starts

-- at the start of a part's body
part_ready : (k : Heap) (e : Values) (ρ : Env) (holding : ℕ → ℕ) (live : List Var) (x : Var) (index : List ℤ) → Readable k e ρ holding live → is_in x live ≡ false → Ready k (bind_value e x (Small (vector Int index))) (bind ρ x (vector Int index)) holding live (x ∷ [])
part_ready k e ρ holding live x index readable fresh =
    turn_ready k e ρ holding live (x ∷ []) (Small (vector Int index) ∷ []) readable.backed readable.shows refl (refl, tt) (fresh, tt)
    ((λ b. (let o = readable.owns.0 b in omega (arith, o))), readable.owns.1)

-- what can be read in a heap can be read in one that keeps the cells, whatever is held besides
pub readable_on : (h k : Heap) (e : Values) (ρ : Env) (others holding : ℕ → ℕ) (live : List Var) → AllBacked others e live → Shows h e ρ live → ((b : ℕ) → others b ≤ holding b) → Owns k [] holding → SameCells others h k → Readable k e ρ holding live
readable_on h k e ρ others holding live backed shows fewer owns same = record {
  owns = owns;
  backed = all_backed_more e live others holding fewer backed;
  shows = backed_shows others h k e ρ live backed same shows;
}

pub readable_in : (h k : Heap) (e : Values) (ρ : Env) (holding : ℕ → ℕ) (live : List Var) → Readable h e ρ holding live → Owns k [] holding → SameCells holding h k → Readable k e ρ holding live
readable_in h k e ρ holding live readable owns same = readable_on h k e ρ holding holding live readable.backed readable.shows (λ b. omega arith) owns same

module _ (c : Context) where
  -- each body means what it does, and spends what it is to
  abbrev pub GensSpend : CodeGensTerm → Type 0
  GensSpend NoCodeGens = Unit {0}
  GensSpend (GenCode g b rest) = Means c b × BlockSpends c b × GensSpend rest

  abbrev pub PartsSpend : CodePartsTerm → Type 0
  PartsSpend NoCodeParts = Unit {0}
  PartsSpend (PartCode g b rest) = Means c b × BlockSpends c b × PartsSpend rest

  abbrev pub takes_gens : CodeGensTerm → Env → List Range → List ℤ → ℕ
  takes_gens gens ρ rs v = gens_take c.calls c.turns c.call_spends gens ρ rs v

  abbrev pub takes_parts : CodePartsTerm → Env → List ℤ → ℕ
  takes_parts parts ρ v = parts_take c.calls c.turns c.call_spends parts ρ v

  abbrev pub code_gens : CodeGensTerm → Values → Heap → List CodeGenerator
  code_gens gens e h = code_generators c.does_calls c.turns gens e h

  abbrev pub core_gens : CodeGensTerm → Env → List Generator
  core_gens gens ρ = generators c.calls c.turns (core_of_gens gens) ρ

  abbrev pub code_parts : CodePartsTerm → Values → List CodeCells
  code_parts parts e = code_cells c.does_calls c.turns parts e

  abbrev pub core_parts : CodePartsTerm → Env → List core.Cells
  core_parts parts ρ = cells c.calls c.turns (core_of_parts parts) ρ

  -- ---- cells

  -- a body, from where it is ready
  body_leaves : (b : CodeTerm) → Means c b → BlockSpends c b → (live mine : List Var) → Counted c.results_of 1 live mine b → (form : Form) (site : Site) (k : Heap) (e : Values) (ρ : Env) (holding : ℕ → ℕ) → Owns k [] holding → Ready k e ρ holding live mine → Leaves holding (spends_in c b ρ).taken k (cell_does form (Some (record { cell = first_value (does c.does_calls c.turns b e); site = site })) k) (and_then (first (run c.calls c.turns (core_of b) ρ)) (λ a. if loops.fits_form form a then Ok (Some a) else fault F6 site))
  body_leaves b means spent live mine counted form site k e ρ holding owns ready =
      cell_leaves holding k form site (spends_in c b ρ) (first_value (does c.does_calls c.turns b e) k) (first (run c.calls c.turns (core_of b) ρ)) owns
      (first_matches holding k (does c.does_calls c.turns b e k) (run c.calls c.turns (core_of b) ρ) (means 1 live mine counted k e ρ holding ready))
      (first_spends (spends_in c b ρ) k (does c.does_calls c.turns b e k) (spent 1 live mine counted k e ρ holding ready))

  pub gens_leave : (gens : CodeGensTerm) → GensSpend gens → (live : List Var) → CountedGens c.results_of live gens → (h k : Heap) (e : Values) (ρ : Env) (holding : ℕ → ℕ) → Readable k e ρ holding live → (form : Form) (rs : List Range) (v : List ℤ) → Leaves holding (takes_gens gens ρ rs v) k (cell_does form (holder (code_gens gens e h) rs v) k) (loops.cell_at form (core_gens gens ρ) rs v)
  gens_leave NoCodeGens blocks live counted h k e ρ holding readable form rs v = (refl, unchanged_self holding k readable.owns)
  gens_leave (GenCode g b rest) blocks live counted h k e ρ holding readable form [] v = (refl, unchanged_self holding k readable.owns)
  gens_leave (GenCode g b rest) blocks live counted h k e ρ holding readable form (r ∷ rs) v = go (holds r v) (gens_leave rest blocks.2 live counted.3 h k e ρ holding readable form rs v)
    where
      go : (inside : Bool) → Leaves holding (takes_gens rest ρ rs v) k (cell_does form (holder (code_gens rest e h) rs v) k) (loops.cell_at form (core_gens rest ρ) rs v) → Leaves holding (if inside then (spends_in c b (with_index ρ g v)).taken else takes_gens rest ρ rs v) k (cell_does form (if inside then Some (record { cell = first_value (does c.does_calls c.turns b (with_index_value e g v)); site = g.site }) else holder (code_gens rest e h) rs v) k) (loops.held_cell form (if inside then Some (generator g (λ index. first (run c.calls c.turns (core_of b) (with_index ρ g index))) ρ) else loops.holder (core_gens rest ρ) rs v) v)
      go true l =
          body_leaves b blocks.0 blocks.1 live (g.index ∷ g.names) counted.2 form g.site k (with_index_value e g v) (with_index ρ g v) holding readable.owns (index_ready k e ρ holding live g v readable.backed readable.shows counted.1 readable.owns)
      go false l = l

  pub parts_leave : (parts : CodePartsTerm) → PartsSpend parts → (live : List Var) → CountedParts c.results_of live parts → (k : Heap) (e : Values) (ρ : Env) (holding : ℕ → ℕ) → Readable k e ρ holding live → (base : Base) (shape : List ℕ) (v : List ℤ) → Leaves holding (takes_parts parts ρ v) k (cell_does (record { base = base; shape = shape }) (part_holder (code_parts parts e) v) k) (cell_at (cell_form base shape) (core_parts parts ρ) v)
  parts_leave NoCodeParts blocks live counted k e ρ holding readable base shape v = (refl, unchanged_self holding k readable.owns)
  parts_leave (PartCode g b rest) blocks live counted k e ρ holding readable base shape v = go (has_vector g.grid v) (parts_leave rest blocks.2 live counted.2 k e ρ holding readable base shape v)
    where
      go : (inside : Bool) → Leaves holding (takes_parts rest ρ v) k (cell_does (record { base = base; shape = shape }) (part_holder (code_parts rest e) v) k) (cell_at (cell_form base shape) (core_parts rest ρ) v) → Leaves holding (if inside then (spends_in c b (bind ρ g.index (vector Int v))).taken else takes_parts rest ρ v) k (cell_does (record { base = base; shape = shape }) (if inside then Some (record { cell = first_value (does c.does_calls c.turns b (bind_value e g.index (Small (vector Int v)))); site = g.site }) else part_holder (code_parts rest e) v) k) (if inside then and_then (first (run c.calls c.turns (core_of b) (bind ρ g.index (vector Int v)))) (core.held (cell_form base shape) g.site) else cell_at (cell_form base shape) (core_parts rest ρ) v)
      go true l =
          body_leaves b blocks.0 blocks.1 live (g.index ∷ []) counted.1 (record { base = base; shape = shape }) g.site k (bind_value e g.index (Small (vector Int v))) (bind ρ g.index (vector Int v)) holding readable.owns (part_ready k e ρ holding live g.index v readable counted.0)
      go false l = l

  -- ---- loops

  module _ (h : Heap) (e : Values) (ρ : Env) (others : ℕ → ℕ) (live : List Var) (backed : AllBacked others e live) (shows : Shows h e ρ live) where
    with_spends : (op : CoreOp) (gens : CodeGensTerm) (s : Site) → Owns h [] others → AllIn (op_uses op) live → GensSpend gens → CountedGens c.results_of live gens → Spent (right_spends_in c (WithCode op gens) s ρ) h (right_does c.does_calls c.turns (WithCode op gens) s e h)
    with_spends op gens s owns uses blocks counted =
        let O = operation op s ρ in
        let cgs = code_gens gens e h in
        subst (λ (o : Operation). Spent (right_spends_in c (WithCode op gens) s ρ) h (go_on (go_on (pure_end (with_job cgs o) h) (job_does None)) (λ v. give (v ∷ [])))) (sym (operation_same c.results_of c.does_calls c.calls c.turns h e ρ others live backed shows op s uses))
        (subst (λ (bs : List Bounds). Spent (right_spends_in c (WithCode op gens) s ρ) h (go_on (go_on (pure_end (and_then (plan bs O) (λ p. Ok (job_of cgs O p))) h) (job_does None)) (λ v. give (v ∷ [])))) (sym (all_bounds_same c.results_of c.does_calls c.calls c.turns h e ρ others live backed shows gens counted))
        (go (plan (map (λ (g : Generator). g.bounds) (core_gens gens ρ)) O)))
      where
        go : (P : Ends Plan) → Spent (after P (λ p. cells_spend (is_fold (operation op s ρ)) p.shape p.indices (takes_gens gens ρ p.ranges))) h (go_on (go_on (pure_end (and_then P (λ p. Ok (job_of (code_gens gens e h) (operation op s ρ) p))) h) (job_does None)) (λ v. give (v ∷ [])))
        go (Err f) = sym (append-nil h.phases)
        go (Ok p) =
            job_spends (job_of (code_gens gens e h) (operation op s ρ) p) (loops.cell_at p.form (core_gens gens ρ) p.ranges) (takes_gens gens ρ p.ranges) h others owns
            (λ holding fewer v k o same. gens_leave gens blocks live counted h k e ρ holding (readable_on h k e ρ others holding live backed shows fewer o same) p.form p.ranges v)

    parted_spends : (f : List Grid1) (b : Base) (shape : List ℕ) (op : PartedOp) (parts : CodePartsTerm) (s : Site) → Owns h [] others → AllIn (parted_uses op) live → PartsSpend parts → CountedParts c.results_of live parts → Spent (right_spends_in c (PartedCode f b shape op parts None) s ρ) h (right_does c.does_calls c.turns (PartedCode f b shape op parts None) s e h)
    parted_spends f b shape op parts s owns uses blocks counted =
        subst (λ (j : Ends Job). Spent (right_spends_in c (PartedCode f b shape op parts None) s ρ) h (go_on (go_on (pure_end j h) (job_does None)) (λ v. give (v ∷ [])))) (sym (job_same h e ρ live f b shape op (code_parts parts e) s shows uses))
        (go (neutral_fits (cell_form b shape) op ρ))
      where
        go : (fits : Bool) → Spent (if fits then cells_spend (parted_folds op) (parted_shape f shape op) (members f) (takes_parts parts ρ) else nothing) h (go_on (go_on (pure_end (if fits then Ok (parted_of f b shape op (code_parts parts e) ρ) else fault F6 s) h) (job_does None)) (λ v. give (v ∷ [])))
        go true =
            job_spends (parted_of f b shape op (code_parts parts e) ρ) (cell_at (cell_form b shape) (core_parts parts ρ)) (takes_parts parts ρ) h others owns
            (λ holding fewer v k o same. parts_leave parts blocks live counted k e ρ holding (readable_on h k e ρ others holding live backed shows fewer o same) b shape v)
        go false = sym (append-nil h.phases)

  -- ---- as right sides

  pub right_with_spends : (op : CoreOp) (gens : CodeGensTerm) → GensSpend gens → RightSpends c (WithCode op gens)
  right_with_spends op gens blocks n outer mine later counted s h e ρ others ready =
      with_spends h e ρ others (later ++ outer) ready.backed (shows_back h e ρ mine (later ++ outer) ready.shows) op gens s (owns_none h e others mine ready.owns counted.1) counted.2 blocks counted.3

  pub right_parted_spends : (f : List Grid1) (b : Base) (shape : List ℕ) (op : PartedOp) (parts : CodePartsTerm) → PartsSpend parts → RightSpends c (PartedCode f b shape op parts None)
  right_parted_spends f b shape op parts blocks n outer mine later counted s h e ρ others ready =
      let empty = no_elements mine (same_length counted.1) in
      parted_spends h e ρ others (later ++ outer) ready.backed (shows_back h e ρ mine (later ++ outer) ready.shows) f b shape op parts s (owns_none h e others mine ready.owns counted.1) (subst (λ l. AllIn (parted_uses op) (l ++ (later ++ outer))) empty counted.2) blocks (subst (λ l. CountedParts c.results_of (l ++ (later ++ outer)) parts) empty counted.3)
