use Rattle.std.proofs.Common.{sym, ◌∙◌}
use Rattle.core_ir.specs.View.{right_term}
use Rattle.ref_counts.proofs.Forks.{none_given, some_given}
use Rattle.ref_counts.proofs.place.take_given.Goals as goal

pub returns-then-not-may_end : goal.returns-then-not-may_end
returns-then-not-may_end c es =
    none_given es (right_term c.args.right.now) c.args.from c.args.to c.args.live c.args.mine.now.items (sym c.may_end.ensures ∙ c.if-not-may_end.true)

pub returns : goal.returns
returns c es =
    some_given c.take_unused.result es (right_term c.args.right.now) c.args.from c.args.to c.read_from.result c.args.live c.args.mine.now.items c.take_unused.new.out.items
    (sym c.may_end.ensures ∙ c.if-not-may_end.false) c.read_from.ensures (c.take_unused.ensures es)
