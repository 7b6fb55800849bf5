use Rattle.sac_print.proofs.Printing.{◌▹◌, by_text}
use Rattle.sac_print.proofs.lists.put_param.Goals as goal

pub returns : goal.returns
returns c = c.in_ok-put_type.ensures ▹ by_text c.as_str.ensures.bytes c.put.ensures
