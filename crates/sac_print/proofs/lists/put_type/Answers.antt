use Rattle.sac_print.proofs.Printing.{◌▹◌, by_text}
use Rattle.sac_print.proofs.lists.put_type.Goals as goal

pub returns : goal.returns
returns c = by_text c.base_text.ensures c.in_ok-put.ensures ▹ c.put_part.ensures
