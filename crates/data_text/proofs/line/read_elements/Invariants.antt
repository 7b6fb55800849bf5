use Rattle.std.proofs.Common.{◌≡◌, length}
use Rattle.data_text.specs.Pieces.{pieces}
use Rattle.data_text.specs.Rows.{keep_elements, keep_colon}
use Rattle.data_text.proofs.line.read_elements.Given as goal

abbrev pub invariant-loop-token : goal.invariant-loop-token
invariant-loop-token l = keep_elements l.base l.row (pieces l.rest) ≡ keep_colon l.base (pieces l.fn.text)

abbrev pub decreases-loop-token : goal.decreases-loop-token
decreases-loop-token l = length l.rest
