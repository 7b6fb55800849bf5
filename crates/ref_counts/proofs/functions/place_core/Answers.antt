use Rattle.std.proofs.Common.{map, ◌∙◌}
use Rattle.core_ir.specs.View.{fun_term}
use Rattle.counted_laws.specs.placing.Placing.{placing_fun}
use Rattle.ref_counts.proofs.Whole.{twice}
use Rattle.ref_counts.proofs.functions.place_core.Goals as goal

pub returns : goal.returns
returns c = λ i. record { functions = (c.in_ok-place_functions.ensures ∙ twice fun_term placing_fun c.args.core.functions.items) i; groups = map (λ g. g.items) c.args.core.groups.items; main = c.args.core.main }
