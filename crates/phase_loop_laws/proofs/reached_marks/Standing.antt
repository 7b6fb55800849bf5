-- Cells that reach no mark stand alone.
use Rattle.std.proofs.Common.{ℕ, Bool, List, map, sym, subst}
use Rattle.sac_base.specs.declared.base.Base.{Base}
use Rattle.sac_base.specs.declared.form.Form.{Form}
use Rattle.sac_base.specs.declared.site.Site.{Site}
use Rattle.sac_base.specs.WithLoops.{Range, cell_at as with_cell_at}
use Rattle.core_ir.specs.declared.tree.Var.{Var}
use Rattle.core_ir.specs.Meaning.{CallMeaning, Env, cells, cell_at, cell_form, generators}
use Rattle.core_ir.specs.Outcome.{run_deeper, run_inline}
use Rattle.core_ir.specs.Terms.{CoreTerm}
use Rattle.core_facts.specs.calls.Nests.{CallsAllGens, CallsAllParts}
use Rattle.counted_code.specs.Counts.{IsWellCounted, IsUnmarked, UnmarkedGens, UnmarkedParts, CountedGens, CountedParts, group_results}
use Rattle.counted_code.specs.Loops.{CodeCells, CodeGenerator, holder, part_holder}
use Rattle.counted_code.specs.Machine.{Values, code_cells, code_generators}
use Rattle.counted_code.specs.Outcome.{deeper_does, inline_does}
use Rattle.counted_code.specs.Terms.{CodeGensTerm, CodePartsTerm, CodeProgram, core_of_code, core_of_gens, core_of_parts}
use Rattle.counted_code.specs.Values.{Doing, Heap, Value, read, count_of}
use Rattle.counted_laws.specs.Simulation.{AllBacked, CallsMatch, Matches, Owns, Shows}
use Rattle.counted_laws.proofs.Functions.{calls_matched, inline_matched, deeper_matched}
use Rattle.counted_laws.specs.mark_removal.Reached.{IsOne, ReachesNone}
use Rattle.counted_laws.specs.mark_removal.Removal.{without_marks}
use Rattle.counted_laws.proofs.mark_removal.Counts.{code_counted}
use Rattle.counted_laws.proofs.mark_removal.Reached.{calls_same, gens_same, parts_same}
use Rattle.counted_laws.proofs.mark_removal.Removed.{code_core, code_unmarked}
use Rattle.phase_laws.specs.Alone.{CallsSpend, Context, Readable, Spent, StandAlone}
use Rattle.phase_laws.specs.Spending.{CallSpending, deeper_spends, gens_take, parts_take}
use Rattle.phase_laws.proofs.Functions.{level_spent, deeper_spent}
use Rattle.phase_laws.proofs.Loops.{gens_leave, parts_leave, readable_in}
use Rattle.phase_laws.proofs.Whole.{gens_spend, parts_spend}
use Rattle.phase_loop_laws.specs.Levels.{does_at, means_at, spends_at}
use Rattle.phase_loop_laws.specs.Ordered.{StandsAlone}
use Rattle.phase_loop_laws.proofs.Standing.{gens_stand, parts_stand}
use Rattle.phase_loop_laws.proofs.reached_marks.Spending.{meaning_same, spending_same}

module _ (code : CodeProgram) (counted : IsWellCounted code) (reached : ℕ → Bool) (clear : ReachesNone code reached) (turns left nest : ℕ) where
  abbrev bare : CodeProgram
  bare = without_marks code

  bare_counted : IsWellCounted bare
  bare_counted = code_counted code counted

  bare_unmarked : IsUnmarked bare
  bare_unmarked = code_unmarked code

  -- ---- calls

  bare_match : CallsMatch (group_results (core_of_code bare)) (does_at bare turns left nest) (means_at bare turns left nest)
  bare_match =
      let outers = deeper_matched bare bare_counted bare_unmarked turns left in
      calls_matched bare bare_counted bare_unmarked turns (deeper_does bare turns left) (inline_does bare turns (deeper_does bare turns left) nest) (run_deeper (core_of_code bare) turns left) (run_inline (core_of_code bare) turns (run_deeper (core_of_code bare) turns left) nest) outers
      (inline_matched bare bare_counted bare_unmarked turns (deeper_does bare turns left) (run_deeper (core_of_code bare) turns left) outers nest)

  bare_spend : CallsSpend (does_at bare turns left nest) (spends_at bare turns left nest)
  bare_spend =
      level_spent bare bare_counted bare_unmarked turns (deeper_does bare turns left) (run_deeper (core_of_code bare) turns left) (deeper_spends bare turns left) (deeper_matched bare bare_counted bare_unmarked turns left) (deeper_spent bare bare_counted bare_unmarked turns left) nest

  pub clear_match : (g : ℕ) → IsOne reached g → (vs : List Value) (s : Site) (h : Heap) (others : ℕ → ℕ) → Owns h vs others
      → Matches (group_results (core_of_code code) g) others h (does_at code turns left nest g vs s h) (means_at code turns left nest g (map (read h) vs) s)
  clear_match g is vs s h others owns =
      subst (λ (k : CoreTerm). Matches (group_results k g) others h (does_at code turns left nest g vs s h) (means_at code turns left nest g (map (read h) vs) s)) (code_core code)
      (subst (λ (d : List Value → Site → Doing (List Value)). Matches (group_results (core_of_code bare) g) others h (d vs s h) (means_at code turns left nest g (map (read h) vs) s)) (sym (calls_same code reached clear turns left nest g is))
      (subst (λ (m : CallMeaning). Matches (group_results (core_of_code bare) g) others h (does_at bare turns left nest g vs s h) (m g (map (read h) vs) s)) (meaning_same code turns left nest)
      (bare_match g vs s h others owns)))

  pub clear_spend : (g : ℕ) → IsOne reached g → (vs : List Value) (s : Site) (h : Heap) (others : ℕ → ℕ) → Owns h vs others
      → Spent (spends_at code turns left nest g (map (read h) vs)) h (does_at code turns left nest g vs s h)
  clear_spend g is vs s h others owns =
      subst (λ (d : List Value → Site → Doing (List Value)). Spent (spends_at code turns left nest g (map (read h) vs)) h (d vs s h)) (sym (calls_same code reached clear turns left nest g is))
      (subst (λ (m : CallSpending). Spent (m g (map (read h) vs)) h (does_at bare turns left nest g vs s h)) (spending_same code turns left nest)
      (bare_spend g vs s h others owns))

  -- ---- cells

  -- what is said of the calls of code without its marks holds of the generators, the meaning and the spending of the code
  pub gens_carried : (gens : CodeGensTerm) → CallsAllGens (IsOne reached) (core_of_gens gens) → (P : (Values → Heap → List CodeGenerator) → CallMeaning → CallSpending → Type 0)
      → P (code_generators (does_at bare turns left nest) turns gens) (means_at bare turns left nest) (spends_at bare turns left nest) → P (code_generators (does_at code turns left nest) turns gens) (means_at code turns left nest) (spends_at code turns left nest)
  gens_carried gens calls P p =
      subst (λ (d : Values → Heap → List CodeGenerator). P d (means_at code turns left nest) (spends_at code turns left nest)) (sym (gens_same code reached clear turns left nest gens calls))
      (subst (λ (m : CallMeaning). P (code_generators (does_at bare turns left nest) turns gens) m (spends_at code turns left nest)) (meaning_same code turns left nest)
      (subst (λ (s : CallSpending). P (code_generators (does_at bare turns left nest) turns gens) (means_at bare turns left nest) s) (spending_same code turns left nest) p))

  -- the same of parts
  pub parts_carried : (parts : CodePartsTerm) → CallsAllParts (IsOne reached) (core_of_parts parts) → (P : (Values → List CodeCells) → CallMeaning → CallSpending → Type 0)
      → P (code_cells (does_at bare turns left nest) turns parts) (means_at bare turns left nest) (spends_at bare turns left nest) → P (code_cells (does_at code turns left nest) turns parts) (means_at code turns left nest) (spends_at code turns left nest)
  parts_carried parts calls P p =
      subst (λ (d : Values → List CodeCells). P d (means_at code turns left nest) (spends_at code turns left nest)) (sym (parts_same code reached clear turns left nest parts calls))
      (subst (λ (m : CallMeaning). P (code_cells (does_at bare turns left nest) turns parts) m (spends_at code turns left nest)) (meaning_same code turns left nest)
      (subst (λ (s : CallSpending). P (code_cells (does_at bare turns left nest) turns parts) (means_at bare turns left nest) s) (spending_same code turns left nest) p))

  -- code without its marks at this level
  abbrev level : Context
  level = record {
    results_of = group_results (core_of_code bare);
    does_calls = does_at bare turns left nest;
    calls = means_at bare turns left nest;
    turns = turns;
    call_spends = spends_at bare turns left nest;
    matching = bare_match;
    spending = bare_spend;
  }

  module _ (gens : CodeGensTerm) (plain : UnmarkedGens gens) (calls : CallsAllGens (IsOne reached) (core_of_gens gens)) (live : List Var) (counts : CountedGens (group_results (core_of_code code)) live gens) (ρ : Env) (form : Form) (ranges : List Range) where
    bare_gens : CountedGens (group_results (core_of_code bare)) live gens
    bare_gens = subst (λ (k : CoreTerm). CountedGens (group_results k) live gens) (sym (code_core code)) counts

    pub clear_gens_alone : (h k : Heap) (e : Values) (holding : ℕ → ℕ) → Readable h e ρ holding live
        → StandAlone holding h form (holder (code_generators (does_at code turns left nest) turns gens e k) ranges) (with_cell_at form (generators (means_at code turns left nest) turns (core_of_gens gens) ρ) ranges) (gens_take (means_at code turns left nest) turns (spends_at code turns left nest) gens ρ ranges)
    clear_gens_alone h k e holding readable =
        gens_carried gens calls (λ d m s. StandAlone holding h form (holder (d e k) ranges) (with_cell_at form (generators m turns (core_of_gens gens) ρ) ranges) (gens_take m turns s gens ρ ranges))
        (λ v l owns same. gens_leave level gens (gens_spend level gens plain) live bare_gens k l e ρ holding (readable_in h l e ρ holding live readable owns same) form ranges v)

    pub clear_gens_stand : (h m : Heap) (e : Values) → AllBacked (λ b. count_of h b) e live → Shows h e ρ live
        → StandsAlone h form (holder (code_generators (does_at code turns left nest) turns gens e m) ranges) (with_cell_at form (generators (means_at code turns left nest) turns (core_of_gens gens) ρ) ranges) (gens_take (means_at code turns left nest) turns (spends_at code turns left nest) gens ρ ranges)
    clear_gens_stand h m e backed shows =
        gens_carried gens calls (λ d c s. StandsAlone h form (holder (d e m) ranges) (with_cell_at form (generators c turns (core_of_gens gens) ρ) ranges) (gens_take c turns s gens ρ ranges))
        (gens_stand bare bare_counted bare_unmarked turns left nest h e ρ live backed shows gens plain bare_gens m form ranges)

  module _ (parts : CodePartsTerm) (plain : UnmarkedParts parts) (calls : CallsAllParts (IsOne reached) (core_of_parts parts)) (live : List Var) (counts : CountedParts (group_results (core_of_code code)) live parts) (ρ : Env) (base : Base) (shape : List ℕ) where
    bare_parts : CountedParts (group_results (core_of_code bare)) live parts
    bare_parts = subst (λ (k : CoreTerm). CountedParts (group_results k) live parts) (sym (code_core code)) counts

    pub clear_parts_alone : (h : Heap) (e : Values) (holding : ℕ → ℕ) → Readable h e ρ holding live
        → StandAlone holding h (record { base = base; shape = shape }) (part_holder (code_cells (does_at code turns left nest) turns parts e)) (cell_at (cell_form base shape) (cells (means_at code turns left nest) turns (core_of_parts parts) ρ)) (parts_take (means_at code turns left nest) turns (spends_at code turns left nest) parts ρ)
    clear_parts_alone h e holding readable =
        parts_carried parts calls (λ d m s. StandAlone holding h (record { base = base; shape = shape }) (part_holder (d e)) (cell_at (cell_form base shape) (cells m turns (core_of_parts parts) ρ)) (parts_take m turns s parts ρ))
        (λ v l owns same. parts_leave level parts (parts_spend level parts plain) live bare_parts l e ρ holding (readable_in h l e ρ holding live readable owns same) base shape v)

    pub clear_parts_stand : (h : Heap) (e : Values) → AllBacked (λ b. count_of h b) e live → Shows h e ρ live
        → StandsAlone h (record { base = base; shape = shape }) (part_holder (code_cells (does_at code turns left nest) turns parts e)) (cell_at (cell_form base shape) (cells (means_at code turns left nest) turns (core_of_parts parts) ρ)) (parts_take (means_at code turns left nest) turns (spends_at code turns left nest) parts ρ)
    clear_parts_stand h e backed shows =
        parts_carried parts calls (λ d c s. StandsAlone h (record { base = base; shape = shape }) (part_holder (d e)) (cell_at (cell_form base shape) (cells c turns (core_of_parts parts) ρ)) (parts_take c turns s parts ρ))
        (parts_stand bare bare_counted bare_unmarked turns left nest h e ρ live backed shows parts plain bare_parts base shape)
