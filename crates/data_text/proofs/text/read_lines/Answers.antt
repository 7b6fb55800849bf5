use Rattle.data_text.specs.Texts.{data_lines}
use Rattle.data_text.proofs.TextFacts.{lines_read, bases_read}
use Rattle.data_text.proofs.text.read_lines.Goals.{else-loop-base-test, then-loop-base-test+in_default}
use Rattle.data_text.proofs.text.read_lines.Goals as goal

pub returns : goal.returns
returns c = elim c.loop-base-test.branch [
  | else-loop-base-test w ↦ bases_read c.loop-base.arrays.items (data_lines c.loop-base.before c.loop-base.rest.now) c.args.bases.now c.loop-base.base-index _ w.loop-base-test.false c.loop-base.invariant.0
  | then-loop-base-test+in_default w ↦ lines_read c.loop-base.arrays.items (data_lines c.loop-base.before c.loop-base.rest.now) _ _ w.in_default.ensures.lines c.loop-base.invariant.0
]
