use Rattle.sac_print.proofs.Printing.{◌▹◌, by_name}
use Rattle.sac_print.proofs.lists.put_part.Goals as goal

pub returns : goal.returns
returns c = by_name c.if-not-has_brackets.ensures (c.in_ok-put.ensures ▹ c.in_ok-put_inside.ensures ▹ c.put-2.ensures)
