use Rattle.std.proofs.Common.{sym, ap, ◌∙◌}
use Rattle.std.specs.Prelude.{◌||◌}
use Rattle.core_ir.specs.Binders.{is_in}
use Rattle.phase_checks.proofs.Taken.{in_either}
use Rattle.phase_checks.proofs.bags.stands_in_either.Goals as goal

pub returns-then-stands_in : goal.returns-then-stands_in
returns-then-stands_in c =
    c.if-stands_in.true ∙ sym (in_either c.args.x c.args.first.now c.args.second.now ∙ ap (λ b. b || is_in c.args.x c.args.second.now) (sym c.stands_in.ensures ∙ c.if-stands_in.true))

pub returns-else-stands_in : goal.returns-else-stands_in
returns-else-stands_in c =
    c.stands_in-else-stands_in.ensures ∙ sym (in_either c.args.x c.args.first.now c.args.second.now ∙ ap (λ b. b || is_in c.args.x c.args.second.now) (sym c.stands_in.ensures ∙ c.if-stands_in.false))
