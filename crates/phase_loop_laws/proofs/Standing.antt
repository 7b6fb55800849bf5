-- Loops whose cells stand alone.
use Rattle.std.proofs.Common.{◌≡◌, ℕ, List, [], ◌∷◌, refl, ◌∙◌}
use Rattle.sac_base.specs.declared.base.Base.{Base}
use Rattle.sac_base.specs.declared.form.Form.{Form}
use Rattle.sac_base.specs.WithLoops.{Range, cell_at as with_cell_at}
use Rattle.core_ir.specs.declared.tree.Var.{Var}
use Rattle.core_ir.specs.Meaning.{Env, generators, cells, cell_form, cell_at}
use Rattle.core_ir.specs.Outcome.{run_deeper, run_inline}
use Rattle.counted_code.specs.Counts.{IsWellCounted, IsUnmarked, UnmarkedGens, UnmarkedParts, CountedGens, CountedParts, group_results}
use Rattle.counted_code.specs.Loops.{holder, part_holder}
use Rattle.counted_code.specs.Machine.{Values, code_generators, code_cells}
use Rattle.counted_code.specs.Outcome.{deeper_does, inline_does}
use Rattle.counted_code.specs.Terms.{CodeGensTerm, CodePartsTerm, CodeProgram, core_of_code, core_of_gens, core_of_parts}
use Rattle.counted_code.specs.Values.{Heap, Value, Small, Ref, read, count_of}
use Rattle.counted_laws.specs.Simulation.{AllBacked, Shows}
use Rattle.counted_laws.proofs.Functions.{calls_matched, inline_matched, deeper_matched}
use Rattle.phase_laws.specs.Alone.{Context, Readable}
use Rattle.phase_laws.specs.Spending.{deeper_spends, gens_take, parts_take}
use Rattle.phase_laws.proofs.Blind.{gens_blind, parts_blind, calls_blind}
use Rattle.phase_laws.proofs.Functions.{level_spent, deeper_spent}
use Rattle.phase_laws.proofs.Growing.{gens_grow, parts_grow, calls_grow}
use Rattle.phase_laws.proofs.Loops.{gens_leave, parts_leave, readable_in}
use Rattle.phase_laws.proofs.Whole.{gens_spend, parts_spend}
use Rattle.phase_loop_laws.specs.Levels.{does_at, means_at, spends_at}
use Rattle.phase_loop_laws.specs.Ordered.{balanced, StandsAlone}
use Rattle.phase_loop_laws.proofs.Cells.{owns_itself}

-- ---- heaps

read_balanced : (h : Heap) (v : Value) → read (balanced h) v ≡ read h v
read_balanced h (Small a) = refl
read_balanced h (Ref b base shape) = refl

shows_balanced : (h : Heap) (e : Values) (ρ : Env) (live : List Var) → Shows h e ρ live → Shows (balanced h) e ρ live
shows_balanced h e ρ [] shows = tt
shows_balanced h e ρ (x ∷ xs) shows = (read_balanced h (e x) ∙ shows.0, shows_balanced h e ρ xs shows.1)

readable : (h : Heap) (e : Values) (ρ : Env) (live : List Var) → AllBacked (λ b. count_of h b) e live → Shows h e ρ live → Readable (balanced h) e ρ (λ b. count_of h b) live
readable h e ρ live backed shows = record { owns = owns_itself h; backed = backed; shows = shows_balanced h e ρ live shows }

-- ---- loops of a program

module _ (code : CodeProgram) (counted : IsWellCounted code) (unmarked : IsUnmarked code) (turns left nest : ℕ) where
  abbrev level : Context
  level = record {
    results_of = group_results (core_of_code code);
    does_calls = does_at code turns left nest;
    calls = means_at code turns left nest;
    turns = turns;
    call_spends = spends_at code turns left nest;
    matching = calls_matched code counted unmarked turns (deeper_does code turns left) (inline_does code turns (deeper_does code turns left) nest) (run_deeper (core_of_code code) turns left) (run_inline (core_of_code code) turns (run_deeper (core_of_code code) turns left) nest) (deeper_matched code counted unmarked turns left) (inline_matched code counted unmarked turns (deeper_does code turns left) (run_deeper (core_of_code code) turns left) (deeper_matched code counted unmarked turns left) nest);
    spending = level_spent code counted unmarked turns (deeper_does code turns left) (run_deeper (core_of_code code) turns left) (deeper_spends code turns left) (deeper_matched code counted unmarked turns left) (deeper_spent code counted unmarked turns left) nest;
  }

  module _ (h : Heap) (e : Values) (ρ : Env) (live : List Var) (backed : AllBacked (λ b. count_of h b) e live) (shows : Shows h e ρ live) where
    pub gens_stand : (gens : CodeGensTerm) → UnmarkedGens gens → CountedGens (group_results (core_of_code code)) live gens → (m : Heap) (form : Form) (ranges : List Range) → StandsAlone h form (holder (code_generators (does_at code turns left nest) turns gens e m) ranges) (with_cell_at form (generators (means_at code turns left nest) turns (core_of_gens gens) ρ) ranges) (gens_take (means_at code turns left nest) turns (spends_at code turns left nest) gens ρ ranges)
    gens_stand gens plain counts m form ranges = record {
      alone = λ v k owns same.
          gens_leave level gens (gens_spend level gens plain) live counts m k e ρ (λ b. count_of h b) (readable_in (balanced h) k e ρ (λ b. count_of h b) live (readable h e ρ live backed shows) owns same) form ranges v;
      blind = λ v. gens_blind (does_at code turns left nest) turns (calls_blind code turns left nest) gens e m ranges v;
      grows = λ v. gens_grow (does_at code turns left nest) turns (calls_grow code turns left nest) gens e m ranges v;
    }

    pub parts_stand : (parts : CodePartsTerm) → UnmarkedParts parts → CountedParts (group_results (core_of_code code)) live parts → (base : Base) (shape : List ℕ) → StandsAlone h (record { base = base; shape = shape }) (part_holder (code_cells (does_at code turns left nest) turns parts e)) (cell_at (cell_form base shape) (cells (means_at code turns left nest) turns (core_of_parts parts) ρ)) (parts_take (means_at code turns left nest) turns (spends_at code turns left nest) parts ρ)
    parts_stand parts plain counts base shape = record {
      alone = λ v k owns same.
          parts_leave level parts (parts_spend level parts plain) live counts k e ρ (λ b. count_of h b) (readable_in (balanced h) k e ρ (λ b. count_of h b) live (readable h e ρ live backed shows) owns same) base shape v;
      blind = λ v. parts_blind (does_at code turns left nest) turns (calls_blind code turns left nest) parts e v;
      grows = λ v. parts_grow (does_at code turns left nest) turns (calls_grow code turns left nest) parts e v;
    }
