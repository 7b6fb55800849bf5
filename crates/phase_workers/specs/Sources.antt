-- Sources of cells that stand alone.
use Rattle.std.specs.Prelude.{◌≡◌, List, None}
use Rattle.core_ir.specs.declared.tree.Var.{Var}
use Rattle.counted_code.specs.Counts.{CountedGens, CountedParts, group_results}
use Rattle.counted_code.specs.Terms.{CodeProgram, core_of_code}
use Rattle.counted_code.specs.View.{code_program}
use Rattle.phase_books.specs.Alive.{AreAlive}
use Rattle.counted_code.specs.Pieces.{gens_term, parts_term}
use Rattle.phase_loop_cells.specs.Opened.{SourceIn}
use Rattle.reach_checks.specs.Loops.{ClearGens, ClearParts}
use Rattle.run_loops.specs.declared.cell_loop.CellSource.{CellSource}
use Rattle.run_loops.specs.declared.cell_loop.CellSource.TheVariants.{Generators, Parts}
use Rattle.run_loops.specs.declared.state.Context.{Context}
use Rattle.run_loops.specs.declared.state.State.{State}
use Rattle.run_values.specs.Scopes.{current}

-- the cells reach no mark
abbrev pub IsClear : CodeProgram → CellSource → Type 0
IsClear code (Generators gens) = ClearGens code (gens_term gens.now)
IsClear code (Parts parts) = ClearParts code (parts_term parts.now)

-- the cells are well counted where these variables alone are there
abbrev pub IsCounted : CodeProgram → CellSource → List Var → Type 0
IsCounted code (Generators gens) live = CountedGens (group_results (core_of_code code)) live (gens_term gens.now)
IsCounted code (Parts parts) live = CountedParts (group_results (core_of_code code)) live (parts_term parts.now)

-- the cells stand alone where these variables are read, each of which can be, and the heap stands behind none
pub record StandsApart (context : Context) (s : State) (source : CellSource) (live : List Var) : Type 0 where
  pub counted : SourceIn (code_program context.code.now) source live
  pub alive : AreAlive s.heap.own (current s.frames) live
  pub alone : s.heap.lent ≡ None
