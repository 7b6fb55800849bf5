use Rattle.chunk_reports.proofs.Totals.{sum_once, combined_once}
use Rattle.chunk_reports.proofs.law.totals_in_any_order.Goals as goal

pub returns : goal.returns
returns c = record { sums = sum_once; combinations = λ op laws value n chunks each. combined_once op laws value n chunks each }
