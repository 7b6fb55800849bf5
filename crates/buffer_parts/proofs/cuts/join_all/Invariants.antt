use Rattle.std.proofs.Common.{◌≡◌, [], ◌∷◌, ◌++◌}
use Rattle.buffer_parts.specs.Spans.{SideBySide, joined, start_of}
use Rattle.buffer_parts.proofs.cuts.join_all.Given as goal

abbrev pub invariant-loop-front : goal.invariant-loop-front
invariant-loop-front g l = SideBySide g.row.T (start_of l.fn.parts.items) (l.parts.items ++ l.whole ∷ []) × (joined (l.parts.items ++ l.whole ∷ []) ≡ joined l.fn.parts.items)

abbrev pub decreases-loop-front : goal.decreases-loop-front
decreases-loop-front g l = l.parts.len
