use Rattle.std.proofs.Common.{◌∙◌, sym, Some}
use Rattle.counted_marks.specs.Marking.{with_mark}
use Rattle.counted_code.proofs.Trees.{parted_out, parted_roll}
use Rattle.buffer_reuse.proofs.rights.loop_taking.Goals as goal

pub returns : goal.returns
returns c = parted_roll _ ∙ (λ i. with_mark (Some c.args.array) (sym (parted_out c.args.parted) i))
