use Rattle.std.proofs.Common.{◌+◌, ◌++◌, ◌∙◌, ap, sym, subst}
use Rattle.std.specs.Prelude.{option_to_list}
use Rattle.fold_walk.proofs.Gathering.{DueGoing, due_first, due_turn, due_stop, due_end, none_left}
use Rattle.fold_walk.proofs.making.all_pieces.Goals.{in-Some+in_ok-due_pieces+in_ok-push, in_default}
use Rattle.fold_walk.proofs.making.all_pieces.Goals as goal

pub loop-part-init : goal.loop-part-init
loop-part-init c =
    subst (λ zs. DueGoing c.args.producer c.args.parts.now c.args.plans.items c.new-all.result.items 0 zs) (sym c.into_iter-plans.ensures.rest)
    (due_first c.args.producer c.args.parts.now c.args.plans.items c.new-all.result.items c.new-all.ensures.items c.requires)

pub loop-part-preserved : goal.loop-part-preserved
loop-part-preserved c =
    let rest = c.next.new.self.rest.items in
    elim c.match-next.branch [
      | in-Some+in_ok-due_pieces+in_ok-push w ↦
          subst (λ (v : _). DueGoing c.args.producer c.args.parts.now c.args.plans.items v.items (c.loop-part.part-index + 1) rest) (sym w.all-is)
          (due_turn c.args.producer c.args.parts.now c.args.plans.items c.loop-part.all.items w.push.new.self.items c.loop-part.part-index c.part-item.result c.loop-part.plans.rest.items rest w.in-Some.plan w.in_ok-due_pieces.field-0
          c.loop-part-test.true c.part-item.is (c.next.ensures.items ∙ ap (λ o. option_to_list o ++ rest) w.in-Some.is) w.in_ok-push.ensures.items w.in_ok-due_pieces.ensures c.loop-part.invariant)
      | in_default w ↦ due_stop c.args.producer c.args.parts.now c.args.plans.items c.loop-part.all.items c.loop-part.part-index c.loop-part.plans.rest.items c.loop-part-test.true
          (none_left c.loop-part.plans.rest.len c.loop-part.plans.rest.items w.in_default.ensures.cases.0 c.loop-part.plans.rest.ok.0) c.loop-part.invariant
    ]

pub returns : goal.returns
returns c = due_end c.args.producer c.args.parts.now c.args.plans.items c.loop-part.all.items c.loop-part.part-index c.loop-part.plans.rest.items c.loop-part-test.false c.loop-part.invariant
