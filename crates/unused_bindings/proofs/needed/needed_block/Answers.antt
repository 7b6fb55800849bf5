use Rattle.std.proofs.Common.{rules, append-nil, ◌∙◌, map}
use Rattle.core_ir.specs.View.{let_term}
use Rattle.core_ir.specs.Terms.{Gives}
use Rattle.removal_rules.specs.Uses.{used_of}
use Rattle.unused_bindings.proofs.Backward.{step_taken, needed_end, used_end}
use Rattle.unused_bindings.proofs.needed.needed_block.Goals as goal

pub loop-last-preserved : goal.loop-last-preserved
loop-last-preserved c =
    let v = c.loop-last.invariant in
    let step = c.in_ok-used-2.ensures in
    let end = Gives c.args.results.items in
    record {
      bindings = step_taken c.loop-last.rest.items c.pop.new.self.items c.in-Some.last (map let_term c.loop-last.kept.items) (map let_term c.add_needed.new.needed.items) (used_of c.loop-last.used) (used_of c.in_ok-used-2.used) end _ c.in-Some.ensures.items v.bindings v.used step;
      used = (step end v.used).1;
    }

pub invariant_of-result : goal.invariant_of-result
invariant_of-result c = record { uses = used_end c.loop-last.kept.items (used_of c.loop-last.used) (record { lets = c.reverse.new.self; results = c.args.results }) c.reverse.ensures.items c.loop-last.invariant.used }

pub returns-clause-block : goal.returns-clause-block
returns-clause-block c = needed_end c.loop-last.rest.items c.args.passed.items c.loop-last.kept.items (record { lets = c.reverse.new.self; results = c.args.results }) (c.in_default.ensures.items ∙ append-nil c.pop.new.self.items ∙ search rules) c.reverse.ensures.items c.loop-last.invariant.bindings
