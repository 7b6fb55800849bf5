-- With-loops and parted loops in code.
use Rattle.std.specs.Prelude.{◌≡◌, ℕ, List, map}
use Rattle.sac_base.specs.Arrays.{ArrayValue, form_of}
use Rattle.sac_base.specs.declared.faults.Caps.{Caps}
use Rattle.sac_base.specs.declared.form.Form.{Form}
use Rattle.sac_ast.specs.Tree.{ProgramTree}
use Rattle.source_meaning.specs.Calls as source
use Rattle.core_ir.specs.Outcome.{outcome}
use Rattle.core_ir.specs.Terms.{CoreTerm}
use Rattle.core_ir.specs.WellFormed.{IsWellFormed}
use Rattle.counted_code.specs.Terms.{CodeProgram, core_of_code}
use Rattle.counted_marks.specs.Marks.{HasNoneLeft}
use Rattle.with_norm.specs.Normed.{AllNormal}
use Rattle.scalarise.specs.Scalarised.{NoneLeft}
use Rattle.wl_folding.specs.Folded.{HasNoPairs}
use Rattle.sac_build.specs.loop_turns.Steps.{Turns}
use Rattle.sac_build.specs.Arguments.{AreArrays}

-- in a function in which no right side always faults, no with-loop is left that can become a parted loop
abbrev pub HasNormalLoops : CodeProgram → Type 0
HasNormalLoops code = AllNormal (core_of_code code)

-- In no block is a pair of parted loops left that can be folded, but for those whose producer has a bound too far from 0 to be moved or a frame with gaps,
-- and those whose consumer would get more than 64 parts.
abbrev pub HasNoFoldablePair : CodeProgram → Type 0
HasNoFoldablePair code = HasNoPairs (core_of_code code)

-- In no block is a loop left that can be merged with the ones in its cells, but for those that would get grids of more than 8 axes.
abbrev pub HasNoMergeableNest : CodeProgram → Type 0
HasNoMergeableNest code = NoneLeft (core_of_code code)

-- no loop without a mark has an array that it may take over for its result
abbrev pub HasNoReuseCandidate : CodeProgram → Type 0
HasNoReuseCandidate code = HasNoneLeft code

-- The code came by turns, with so many fold steps and merge steps in all, from a core that has the outcome of the program on all arguments that are arrays of
-- these forms.
pub record CameFrom (p : ProgramTree) (forms : List Form) (folded scalarised : ℕ) (code : CodeProgram) : Type 0 where
  pub core : CoreTerm
  pub well : IsWellFormed core
  pub outcome : (args : List ArrayValue) (caps : Caps) → AreArrays args → map form_of args ≡ forms → outcome core args caps ≡ source.outcome p args caps
  pub turns : Turns folded scalarised core (core_of_code code)
