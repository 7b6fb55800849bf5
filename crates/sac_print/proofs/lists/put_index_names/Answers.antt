use Rattle.std.proofs.Common.{ap}
use Rattle.sac_ast.specs.View.{index_view}
use Rattle.sac_ast.specs.declared.Index.{Index}
use Rattle.sac_print.specs.Canonical.{index_texts}
use Rattle.sac_print.proofs.Printing.{◌▹◌, by_name}
use Rattle.sac_print.proofs.Trees.{in_targets}
use Rattle.sac_print.proofs.lists.put_index_names.Goals as goal

pub returns-in_ok-put_targets-in-Parts : goal.returns-in_ok-put_targets-in-Parts
returns-in_ok-put_targets-in-Parts c = by_name (ap (λ (i : Index). index_texts (index_view i)) c.in-Parts.is) (c.in_ok-put-in-Parts.ensures ▹ in_targets c.deref.ensures.value c.in_ok-put_targets-in-Parts.ensures ▹ c.put-in-Parts-2.ensures)
