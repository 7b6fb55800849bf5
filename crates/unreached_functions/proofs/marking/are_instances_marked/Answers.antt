use Rattle.std.proofs.Common.{false, All, ap, subst, ◌∙◌, arith}
use Rattle.std.specs.Prelude.{slice_get, unwrap_or}
use Rattle.core_ir.specs.Outcome.{group_at}
use Rattle.core_ir.specs.View.{core_term}
use Rattle.unreached_functions.specs.Closed.{IsMarked}
use Rattle.unreached_functions.proofs.Places.{group_more, groups_all, group_there, groups_count, unmarked}
use Rattle.unreached_functions.proofs.marking.are_instances_marked.Goals as goal
use Rattle.unreached_functions.proofs.marking.are_instances_marked.Goals.{else-is_marked-via-then-is_marked+else-not-are_marked, else-is_marked-via-else-is_marked}

pub loop-k-preserved : goal.loop-k-preserved
loop-k-preserved c =
    let core = c.args.core.now in
    let groups = c.args.marks.now.groups.items in
    let functions = c.args.marks.now.functions.items in
    let k = c.loop-k.k in
    elim c.else-is_marked.branch [
      | else-is_marked-via-then-is_marked+else-not-are_marked w ↦
          group_more (core_term core) groups functions k c.loop-k.invariant
          (λ m. subst (λ ms. All (IsMarked ms) (group_at (core_term core) k)) w.deref-then-is_marked.ensures.value
          (subst (All (IsMarked w.deref-then-is_marked.result.now)) (w.deref-then-is_marked-2.ensures.value ∙ group_there (λ g. g.items) core.groups.items k w.index.result.now (omega (arith, c.loop-k-test.true, c.len-k-end.ensures)) w.index.ensures)
          (w.are_marked.ensures w.if-not-are_marked.false)))
      | else-is_marked-via-else-is_marked w ↦
          group_more (core_term core) groups functions k c.loop-k.invariant
          (λ m. absurd (unmarked groups k c.is_marked.result (c.is_marked.ensures ∙ ap (λ ms. unwrap_or (slice_get ms k) false) c.deref.ensures.value) w.if-is_marked.false m))
    ]

pub returns : goal.returns
returns c all_marked =
    let core = c.args.core.now in
    let count = groups_count (λ g. g.items) core.groups.items in
    groups_all (core_term core) c.args.marks.now.groups.items c.args.marks.now.functions.items c.loop-k.k c.loop-k.invariant (omega (arith, count, c.loop-k-test.false, c.len-k-end.ensures))
