use Rattle.std.proofs.Common.{◌∙◌, ap}
use Rattle.core_ir.specs.Scopes.{parted_uses}
use Rattle.unused_bindings.specs.Passed.{part_terms}
use Rattle.removal_rules.specs.Uses.{used_of}
use Rattle.unused_bindings.proofs.Loops.{part_items, part_uses, parted_made, parted_uses_all}
use Rattle.unused_bindings.proofs.Turns.{none_left}
use Rattle.unused_bindings.proofs.right.parted_loop.Goals as goal

pub loop-part-preserved : goal.loop-part-preserved
loop-part-preserved c =
    let v = c.loop-part.invariant in
    let all = c.loop-part.part-iterator.rest.items in
    let rest = c.next.new.self.rest.items in
    let x = c.in-Some.part in
    let done = c.loop-part.parts.items in
    let new = c.push.new.self.items in
    record {
      items = part_items rest all x c.in-Some.ensures.steps.0 done new c.in_ok-push.ensures.items _ v.items;
      used = part_uses rest all x c.in-Some.ensures.steps.0 done new c.in_ok-push.ensures.items (parted_uses c.args.op) (used_of c.loop-part.used) _ v.used c.in_ok-used-2.ensures;
    }

pub invariant_of-result : goal.invariant_of-result
invariant_of-result c = record {
  uses = parted_uses_all (record { frame = c.args.frame; base = c.args.base; cell = c.args.cell; op = c.args.op; parts = c.loop-part.parts }) (used_of c.loop-part.used) c.loop-part.invariant.used;
}

pub returns-clause-right : goal.returns-clause-right
returns-clause-right c =
    let rest = c.loop-part.part-iterator.rest in
    let none = none_left rest.len rest.items c.in-None.ensures.steps.0 rest.ok.0 in
    parted_made rest.items c.args.swept.items (record { frame = c.args.frame; base = c.args.base; cell = c.args.cell; op = c.args.op; parts = c.loop-part.parts })
    (c.loop-part.invariant.items ∙ ap part_terms c.into_iter-part-iterator.ensures.into_iter_gives.0) none
