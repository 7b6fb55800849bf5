use Rattle.std.proofs.Common.{◌∙◌, sym, ap}
use Rattle.std.specs.Prelude.{option_copied}
use Rattle.merge_plans.proofs.Parts.{first_none, first_some}
use Rattle.merge_plans.proofs.planning.first_inner.Goals as goal

pub returns-in-Some : goal.returns-in-Some
returns-in-Some c =
    first_some c.args.outer.now c.deref.result.now c.in-Some.part.now _ c.deref.ensures.value (sym c.first.ensures.value ∙ ap option_copied c.in-Some.is) c.inner_frame.ensures

pub returns-in-None : goal.returns-in-None
returns-in-None c = first_none c.args.outer.now c.deref.result.now c.deref.ensures.value (sym c.first.ensures.value ∙ ap option_copied c.in-None.is)
