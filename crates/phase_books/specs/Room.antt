-- Loops whose cells do not nest too deep for a worker's stack.
use Rattle.std.specs.Prelude.{ℕ}
use Rattle.code_nesting.specs.Promised.{AreShallowGens, AreShallowParts}
use Rattle.counted_code.specs.Terms.{CodeProgram}
use Rattle.run_loops.specs.declared.cell_loop.CellSource.{CellSource}
use Rattle.run_loops.specs.declared.cell_loop.CellSource.TheVariants.{Generators, Parts}

-- In no cell of the source more blocks nest than a worker has room for, where calls go so many levels deep.
abbrev pub IsShallowSource : CodeProgram → ℕ → CellSource → Type 0
IsShallowSource code levels (Generators gens) = AreShallowGens code levels gens.now
IsShallowSource code levels (Parts parts) = AreShallowParts code levels parts.now
