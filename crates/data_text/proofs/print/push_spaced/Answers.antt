use Rattle.data_text.specs.Printed.{element_text}
use Rattle.data_text.proofs.AppendFacts.{stops, part_before}
use Rattle.data_text.proofs.print.push_spaced.Goals as goal

pub returns-in_err-push_text : goal.returns-in_err-push_text
returns-in_err-push_text c = stops c.from_residual.result c.from_residual.ensures.0 (part_before (element_text c.args.base c.args.cell) c.in_err-push_text.ensures)
