use Rattle.std.proofs.Common.{map, ◌∙◌, sym}
use Rattle.core_ir.specs.View.{let_term}
use Rattle.merge_plans.proofs.InnerLoops.{both_decided, not_both}
use Rattle.merge_plans.proofs.judging.is_unused.Goals as goal

pub returns-then-none_use : goal.returns-then-none_use
returns-then-none_use c =
    both_decided c.args.target (map let_term c.args.before.now) (map let_term c.args.after.now) c.none_use-then-none_use.result (sym c.none_use.ensures ∙ c.if-none_use.true) c.none_use-then-none_use.ensures

pub returns-else-none_use : goal.returns-else-none_use
returns-else-none_use c =
    not_both c.args.target (map let_term c.args.before.now) (map let_term c.args.after.now) c.none_use.result (sym c.none_use.ensures ∙ c.if-none_use.false) c.if-none_use.false
