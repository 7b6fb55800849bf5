-- What the cell of an index is that no generator and no part holds.
use Rattle.std.proofs.Common.{◌≡◌, ℕ, ℤ, Bool, true, false, List, [], ◌∷◌, Option, Some, None, Ok, refl, ap, ◌∙◌}
use Rattle.std.specs.Prelude.{if◌then◌else◌, is_some, option_map}
use Rattle.array_with_loops.specs.declared.plans.Plan.{Plan}
use Rattle.buffer_heap.specs.Heaps.{HeapValue}
use Rattle.core_ir.specs.Meaning.{CallMeaning, Env, bind, cell_at, cell_form, cells, first, generator, generators, held as held_cell_of, run, with_index}
use Rattle.counted_code.specs.declared.tree.CodeGen.{CodeGen}
use Rattle.counted_code.specs.declared.tree.CodePart.{CodePart}
use Rattle.counted_code.specs.Machine.{Values}
use Rattle.counted_code.specs.Terms.{core_of, core_of_gens, core_of_parts}
use Rattle.counted_code.specs.View.{code_term}
use Rattle.counted_code.specs.Pieces.{gen_head, gens_term, parts_term}
use Rattle.phase_laws.specs.Spending.{CallSpending, gens_take, parts_take, spends}
use Rattle.phase_loop_cells.specs.declared.copies.Background.{Background}
use Rattle.phase_loop_cells.specs.Cells.{as_cell, fill_at, index_at, source_cell, source_means, source_taken, source_takes}
use Rattle.phase_loop_cells.specs.Opened.{lent_env, meaning_in, spending_in}
use Rattle.run_loops.specs.declared.cell_loop.CellSource.{CellSource}
use Rattle.run_loops.specs.declared.cell_loop.CellSource.TheVariants.{Generators, Parts}
use Rattle.run_loops.specs.declared.state.Context.{Context}
use Rattle.run_loops.specs.Loops.{gen_body, held, held_body, part_body, part_held}
use Rattle.sac_base.specs.declared.form.Form.{Form}
use Rattle.sac_base.specs.Arrays.{ArrayValue, vector}
use Rattle.sac_base.specs.declared.base.Base.TheVariants.{Int}
use Rattle.sac_base.specs.Grids.{has_vector}
use Rattle.sac_base.specs.Outcomes.{Ends, and_then}
use Rattle.sac_base.specs.WithLoops.{Generator, Range, held_cell, holder, holds}

module _ (calls : CallMeaning) (turns : ℕ) (call_spends : CallSpending) (e : Env) (v : List ℤ) where
  abbrev core_gen : CodeGen → Generator
  core_gen g = generator (gen_head g) (λ index. first (run calls turns (core_of (code_term g.body)) (with_index e (gen_head g) index))) e

  abbrev gens_hold : List CodeGen → List Range → Option Generator
  gens_hold gens ranges = holder (generators calls turns (core_of_gens (gens_term gens)) e) ranges v

  abbrev gens_spend : List CodeGen → List Range → ℕ
  gens_spend gens ranges = gens_take calls turns call_spends (gens_term gens) e ranges v

  gens_free : (gens : List CodeGen) (ranges : List Range) → held gens ranges v ≡ None → (gens_hold gens ranges ≡ None) × (gens_spend gens ranges ≡ 0)
  gens_free [] ranges none = (refl, refl)
  gens_free (g ∷ gens) [] none = (refl, refl)
  gens_free (g ∷ gens) (r ∷ ranges) none = by (holds r v) refl none (gens_free gens ranges)
    where
      by : (b : Bool) → holds r v ≡ b → (if b then Some g else held gens ranges v) ≡ None → (held gens ranges v ≡ None → (gens_hold gens ranges ≡ None) × (gens_spend gens ranges ≡ 0))
          → (gens_hold (g ∷ gens) (r ∷ ranges) ≡ None) × (gens_spend (g ∷ gens) (r ∷ ranges) ≡ 0)
      by true is less rest = absurd (cc)
      by false is less rest =
          let behind = rest less in (
            ap (λ (b : Bool). if b then Some (core_gen g) else gens_hold gens ranges) is ∙ behind.0,
            ap (λ (b : Bool). if b then (spends calls turns call_spends (code_term g.body) (with_index e (gen_head g) v)).taken else gens_spend gens ranges) is ∙ behind.1,
          )

  module _ (form : ArrayValue) where
    abbrev part_cell : CodePart → Ends (Option ArrayValue)
    part_cell p = and_then (first (run calls turns (core_of (code_term p.body)) (bind e p.index (vector Int v)))) (held_cell_of form p.site)

    abbrev parts_cell : List CodePart → Ends (Option ArrayValue)
    parts_cell parts = cell_at form (cells calls turns (core_of_parts (parts_term parts)) e) v

    abbrev parts_spend : List CodePart → ℕ
    parts_spend parts = parts_take calls turns call_spends (parts_term parts) e v

    parts_free : (parts : List CodePart) → part_held parts v ≡ None → (parts_cell parts ≡ Ok None) × (parts_spend parts ≡ 0)
    parts_free [] none = (refl, refl)
    parts_free (p ∷ parts) none = by (has_vector p.grid v) refl none (parts_free parts)
      where
        by : (b : Bool) → has_vector p.grid v ≡ b → (if b then Some p else part_held parts v) ≡ None → (part_held parts v ≡ None → (parts_cell parts ≡ Ok None) × (parts_spend parts ≡ 0))
            → (parts_cell (p ∷ parts) ≡ Ok None) × (parts_spend (p ∷ parts) ≡ 0)
        by true is less rest = absurd (cc)
        by false is less rest =
            let behind = rest less in (
              ap (λ (b : Bool). if b then part_cell p else parts_cell parts) is ∙ behind.0,
              ap (λ (b : Bool). if b then (spends calls turns call_spends (code_term p.body) (bind e p.index (vector Int v))).taken else parts_spend parts) is ∙ behind.1,
            )

no_gen : (o : Option CodeGen) → option_map gen_body o ≡ None → o ≡ None
no_gen None is = refl
no_gen (Some g) is = absurd (cc)

no_part : (o : Option CodePart) → option_map part_body o ≡ None → o ≡ None
no_part None is = refl
no_part (Some p) is = absurd (cc)

module _ (context : Context) (lends : HeapValue) (e : Values) (form : Form) (ranges : List Range) (v : List ℤ) where
  source_free : (source : CellSource) → held_body source ranges v ≡ None → (source_means context lends e source form ranges v ≡ Ok None) × (source_takes context lends e source ranges v ≡ 0)
  source_free (Generators gens) none =
      let free = gens_free (meaning_in context) context.turns (spending_in context) (lent_env lends e) v gens.now ranges (no_gen (held gens.now ranges v) none) in
      (ap (λ (o : Option Generator). held_cell form o v) free.0, free.1)
  source_free (Parts parts) none =
      parts_free (meaning_in context) context.turns (spending_in context) (lent_env lends e) v (cell_form form.base form.shape) parts.now (no_part (part_held parts.now v) none)

-- the cell of a position whose index nothing holds is what stands there, and takes no buffer
module _ (context : Context) (lends : HeapValue) (e : Values) (source : CellSource) (plan : Plan) (background : Option Background) (place : ℕ) (free : held_body source plan.ranges.items (index_at plan.frame place) ≡ None) where
  pub free_cell : (x : List ℤ) → fill_at background place ≡ Some x → source_cell context lends e source plan background place ≡ Ok (Some x)
  free_cell x is =
      ap (as_cell (fill_at background place)) (source_free context lends e plan.form plan.ranges.items (index_at plan.frame place) source free).0 ∙ ap (λ o. Ok o) is

  pub free_takes : source_taken context lends e source plan place ≡ 0
  free_takes = (source_free context lends e plan.form plan.ranges.items (index_at plan.frame place) source free).1

pub no_place : (place : Option ℕ) → is_some place ≡ false → place ≡ None
no_place None is = refl
no_place (Some k) is = absurd (cc)
