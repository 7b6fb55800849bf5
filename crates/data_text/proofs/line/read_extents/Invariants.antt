use Rattle.std.proofs.Common.{◌≡◌, [], Some, length}
use Rattle.data_text.specs.Pieces.{pieces}
use Rattle.data_text.specs.Rows.{keep_extents}
use Rattle.data_text.proofs.line.read_extents.Given as goal

abbrev pub invariant-loop-word : goal.invariant-loop-word
invariant-loop-word l = keep_extents l.row (pieces l.rest) ≡ keep_extents (Some []) (pieces l.fn.text)

abbrev pub decreases-loop-word : goal.decreases-loop-word
decreases-loop-word l = length l.rest
