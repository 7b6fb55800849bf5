use Rattle.std.specs.Prelude.{unsigned_abs}
use Rattle.std.specs.Fmt.{decimal}
use Rattle.data_text.proofs.AppendFacts.{stops, part_before}
use Rattle.data_text.proofs.print.push_further.Goals as goal

pub returns-in_err-push_text : goal.returns-in_err-push_text
returns-in_err-push_text c = stops c.from_residual.result c.from_residual.ensures.0 (part_before (decimal (unsigned_abs c.args.extent)) c.in_err-push_text.ensures)
