use Rattle.std.proofs.Common.{ap, ◌∙◌}
use Rattle.core_subst.specs.Names.{variable}
use Rattle.parted_bodies.specs.declared.names.Progress.{Progress}
use Rattle.merged_parts.proofs.Numbered.{begun_lets, begun_next, begun_vars, lets_done, lets_turn, next_next, progress_done, progress_turn, vars_done, vars_turn}
use Rattle.merged_parts.proofs.indices.components_of.Goals as goal

pub loop-place-init : goal.loop-place-init
loop-place-init c = record {
  lets = begun_lets c.args.site c.args.index c.args.axes c.args.progress.now.next c.new-lets.result.items c.new-lets.ensures.items;
  vars = begun_vars c.args.axes c.args.progress.now.next c.new-vars.result.items c.new-vars.ensures.items;
  next = begun_next c.args.progress.now;
}

pub loop-place-preserved : goal.loop-place-preserved
loop-place-preserved c =
    let p = c.loop-place.progress in
    let v = c.loop-place.invariant in
    let one = c.in_ok-constant.ensures.next in
    let two = c.in_ok-component.ensures.next in
    let n2 = next_next p c.take.new.self c.take-in-loop-place.new.self one two in
    let second = c.in_ok-component.ensures.var ∙ ap (λ (q : Progress). variable q.next) one in
    record {
      lets = lets_turn c.args.site c.args.index c.args.axes c.loop-place.place p.next _ c.loop-place.lets.items c.push.new.self.items c.push-in-loop-place.new.self.items c.in_ok-binding.field-0 c.in_ok-binding-2.field-0
          _ c.in_ok-constant.constant c.in_ok-component.component _ c.loop-place-test.true v.lets c.in_ok-push.ensures.items c.in_ok-push-2.ensures.items
          c.in_ok-binding.ensures c.in_ok-binding-2.ensures c.in_ok-number.ensures c.in_ok-constant.ensures.var second n2;
      vars = vars_turn c.args.axes c.loop-place.place p.next _ c.loop-place.vars.items c.push-in-loop-place-2.new.self.items _ c.in_ok-component.component c.loop-place-test.true v.vars c.in_ok-push-3.ensures.items second n2;
      next = progress_turn p c.args.progress.now c.take.new.self c.take-in-loop-place.new.self c.loop-place.place v.next one two;
    }

pub returns-clause-lets : goal.returns-clause-lets
returns-clause-lets c =
    lets_done c.args.site c.args.index c.args.axes c.loop-place.place c.loop-place.progress.next _ _ c.loop-place-test.false c.loop-place.auto.place-end c.loop-place.invariant.lets

pub returns-clause-vars : goal.returns-clause-vars
returns-clause-vars c = vars_done c.args.axes c.loop-place.place _ c.loop-place.vars.items _ c.loop-place-test.false c.loop-place.auto.place-end c.loop-place.invariant.vars

pub returns-clause-next : goal.returns-clause-next
returns-clause-next c = progress_done c.loop-place.progress c.args.progress.now c.args.axes c.loop-place.place c.loop-place-test.false c.loop-place.auto.place-end c.loop-place.invariant.next
