use Rattle.std.proofs.Common.{◌∙◌, ap}
use Rattle.core_ir.specs.Scopes.{op_uses}
use Rattle.unused_bindings.specs.Passed.{gen_terms}
use Rattle.removal_rules.specs.Uses.{used_of}
use Rattle.unused_bindings.proofs.Loops.{gen_items, gen_uses, with_made, with_uses}
use Rattle.unused_bindings.proofs.Turns.{none_left}
use Rattle.unused_bindings.proofs.right.with_loop.Goals as goal

pub loop-generator-preserved : goal.loop-generator-preserved
loop-generator-preserved c =
    let v = c.loop-generator.invariant in
    let all = c.loop-generator.generator-iterator.rest.items in
    let rest = c.next.new.self.rest.items in
    let x = c.in-Some.generator in
    let done = c.loop-generator.gens.items in
    let new = c.push.new.self.items in
    record {
      items = gen_items rest all x c.in-Some.ensures.steps.0 done new c.in_ok-push.ensures.items _ v.items;
      used = gen_uses rest all x c.in-Some.ensures.steps.0 done new c.in_ok-push.ensures.items (op_uses c.args.op) (used_of c.loop-generator.used) _ v.used c.in_ok-used-2.ensures;
    }

pub invariant_of-result : goal.invariant_of-result
invariant_of-result c = record { uses = with_uses (record { gens = c.loop-generator.gens; op = c.args.op }) (used_of c.loop-generator.used) c.loop-generator.invariant.used }

pub returns-clause-right : goal.returns-clause-right
returns-clause-right c =
    let rest = c.loop-generator.generator-iterator.rest in
    let none = none_left rest.len rest.items c.in-None.ensures.steps.0 rest.ok.0 in
    with_made rest.items c.args.swept.items (record { gens = c.loop-generator.gens; op = c.args.op }) (c.loop-generator.invariant.items ∙ ap gen_terms c.into_iter-generator-iterator.ensures.into_iter_gives.0) none
