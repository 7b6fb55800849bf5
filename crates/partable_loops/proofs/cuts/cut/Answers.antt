use Rattle.std.proofs.Common.{length, ap, inr}
use Rattle.partable_loops.proofs.Labelling.{is_void, named_first, void_count, void_splits}
use Rattle.partable_loops.proofs.cuts.cut.Goals as goal

pub returns-then-not-have_axes-clause-due : goal.returns-then-not-have_axes-clause-due
returns-then-not-have_axes-clause-due c greatest count counted =
    void_count c.args.generators.now c.args.frame.now greatest count
    (is_void c.args.frame.now c.args.generators.now (length c.axes.result.now) (ap length c.axes.ensures.axes) c.requires.ranks c.if-not-have_axes.ensures.1) counted

pub returns-then-not-have_axes-clause-splits : goal.returns-then-not-have_axes-clause-splits
returns-then-not-have_axes-clause-splits c =
    void_splits c.args.frame.now c.new.result.items c.new.ensures.items
    (is_void c.args.frame.now c.args.generators.now (length c.axes.result.now) (ap length c.axes.ensures.axes) c.requires.ranks c.if-not-have_axes.ensures.1)

pub returns-in-Ok-clause-first : goal.returns-in-Ok-clause-first
returns-in-Ok-clause-first c = named_first c.args.generators.now c.in-Ok.parts.parts.items c.in-Ok.ensures.first

pub returns-then-not-have_axes-clause-same : goal.returns-then-not-have_axes-clause-same
returns-then-not-have_axes-clause-same c = inr c.new.ensures.items
