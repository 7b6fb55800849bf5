use Rattle.std.proofs.Common.{◌≡◌, length}
use Rattle.counted_code.specs.View.{code_program}
use Rattle.code_nesting.specs.Needs.{IsBound, IsClosed}
use Rattle.code_nesting.proofs.needs.needs_of.Given as goal

abbrev pub invariant-loop-level : goal.invariant-loop-level
invariant-loop-level l =
    (length l.below.items ≡ length l.code.functions.items) × (length l.here.items ≡ length l.code.functions.items)
    × IsClosed (code_program l.code) l.below.items l.here.items × IsBound (code_program l.code) l._level l.here.items
