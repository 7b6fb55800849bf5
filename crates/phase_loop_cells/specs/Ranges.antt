-- The ranges of a source.
use Rattle.std.specs.Prelude.{◌≤◌, List, [], ◌∷◌, length}
use Rattle.array_with_loops.specs.declared.plans.Plan.{Plan}
use Rattle.counted_code.specs.declared.tree.CodePart.{CodePart}
use Rattle.grid_ranges.specs.Members.{HasMembersOf}
use Rattle.run_loops.specs.declared.cell_loop.CellSource.{CellSource}
use Rattle.run_loops.specs.declared.cell_loop.CellSource.TheVariants.{Generators, Parts}
use Rattle.sac_base.specs.WithLoops.{Range}

-- the ranges have the members of the first parts' grids, one by one
abbrev pub AreRanges : List Range → List CodePart → Type 0
AreRanges [] parts = Unit {0}
AreRanges (r ∷ ranges) [] = ⊥
AreRanges (r ∷ ranges) (p ∷ parts) = HasMembersOf p.grid r × AreRanges ranges parts

-- the ranges of a source: a plan has those of generators, and those of parts are made
abbrev pub ranges_of : CellSource → Plan → List Range → List Range
ranges_of (Generators gens) plan made = plan.ranges.items
ranges_of (Parts parts) plan made = made

abbrev pub AreMade : CellSource → List Range → Type 0
AreMade (Generators gens) made = Unit {0}
AreMade (Parts parts) made = AreRanges made parts.now

-- each part has one
abbrev pub AreAll : CellSource → List Range → Type 0
AreAll (Generators gens) made = Unit {0}
AreAll (Parts parts) made = length parts.now ≤ length made
