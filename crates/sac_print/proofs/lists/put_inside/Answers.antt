use Rattle.std.proofs.Common.{ap, sym, ◌∙◌, map, ℤ}
use Rattle.std.specs.Fmt.{signed_decimal}
use Rattle.sac_print.specs.Texts.{one, commas}
use Rattle.sac_print.specs.Canonical.{inside_texts}
use Rattle.sac_print.proofs.Printing.{by_name}
use Rattle.sac_print.proofs.Trees.{extents_are}
use Rattle.sac_print.proofs.lists.put_inside.Goals as goal

pub returns-in-Known : goal.returns-in-Known
returns-in-Known c = by_name (ap inside_texts c.in-Known.is ∙ ap commas (sym (ap (map (λ (n : ℤ). one (signed_decimal n))) c.extents.ensures.value ∙ extents_are c.in-Known.shape))) c.put_extents.ensures
