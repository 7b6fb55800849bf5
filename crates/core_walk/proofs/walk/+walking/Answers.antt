use Rattle.std.proofs.Common.{◌-◌, ◌∙◌, [], ◌∷◌, ap, refl, sym, map, length}
use Rattle.std.specs.Prelude.{drop}
use Rattle.fact_table.specs.Table.{fact_of, facts_of}
use Rattle.fact_table.proofs.scoped_table.Marks.{earlier_on, none_gone}
use Rattle.core_ir.specs.declared.tree.CoreGen.{out-CoreGen}
use Rattle.core_ir.specs.declared.tree.CorePart.{out-CorePart}
use Rattle.core_ir.specs.declared.tree.WithLoop.{out-WithLoop, roll-WithLoop}
use Rattle.core_ir.specs.View.{let_term, right_term}
use Rattle.core_ir.proofs.Trees.{with_roll}
use Rattle.core_facts.specs.Facts.{note_all, shape_fact}
use Rattle.plain_facts.proofs.known_rights.Told.{holds_on}
use Rattle.plain_facts.proofs.known_rights.Plain.{IsOther}
use Rattle.core_walk.proofs.Turns.{none_left, pushed}
use Rattle.core_walk.proofs.Ends.{block_end, call_end, choice_end, earlier_end, gen_end, gens_first, gens_on, let_end, lets_first, lets_on, part_end, parted_end, parts_first, parts_on, plain_end, still_on, turns_end, with_end}
use Rattle.core_walk.proofs.walk.+walking.Goals as goal

-- ---- blocks

pub walk_block-loop-binding-init : goal.walk_block-loop-binding-init
walk_block-loop-binding-init g t c =
    let table = c.args.table.now in
    record {
      going = lets_first (g.R.Rewriting.called c.args.pass.now) g.row.R-Progress.Denot (g.R.Rewriting.step c.args.pass.now) (g.R.Rewriting.finish c.args.pass.now)
          (facts_of table) c.args.progress.now c.into_iter-binding-iterator.result.rest.items _ c.new-done.ensures.items;
      earlier = ap (λ n. drop (length table - n) table) c.mark-before.ensures ∙ none_gone table;
    }

pub walk_block-loop-binding-preserved : goal.walk_block-loop-binding-preserved
walk_block-loop-binding-preserved g t c =
    let v = c.loop-binding.invariant in
    let table = c.loop-binding.table in
    let now = c.walk_binding.new.table in
    let start = c.args.table.now in
    let new = c.in_ok-walk_binding.ensures in
    record {
      going = lets_on (g.R.Rewriting.called c.args.pass.now) g.row.R-Progress.Denot (g.R.Rewriting.step c.args.pass.now) (g.R.Rewriting.finish c.args.pass.now)
          (facts_of start) c.args.progress.now _ (facts_of table) (facts_of now) c.loop-binding.progress c.walk_binding.new.progress c.loop-binding.done.items c.walk_binding.new.done.items
          c.loop-binding.binding-iterator.rest.items c.next.new.self.rest.items c.in-Some.binding new.traced.0 v.going c.in-Some.ensures.steps.0 new.traced.1 new.traced.2;
      earlier = ap (λ n. drop (length now - n) now) c.mark-before.ensures
          ∙ earlier_on start table now (ap (λ n. drop (length table - n) table) (sym c.mark-before.ensures) ∙ v.earlier) new.earlier;
    }

pub walk_block-returns-clause-traced : goal.walk_block-returns-clause-traced
walk_block-returns-clause-traced g t c =
    let rest = c.loop-binding.binding-iterator.rest in
    let none = none_left rest.len rest.items c.in-None.ensures.steps.0 rest.ok.0 in
    block_end (g.R.Rewriting.called c.args.pass.now) g.row.R-Progress.Denot (g.R.Rewriting.step c.args.pass.now) (g.R.Rewriting.finish c.args.pass.now)
    (facts_of c.args.table.now) (facts_of c.undo.new.self) c.args.progress.now c.loop-binding.progress c.block.new.progress _ c.loop-binding.done.items rest.items (facts_of c.loop-binding.table) _ c.args.block
    _ c.block.result c.loop-binding.invariant.going none c.into_iter-binding-iterator.ensures.into_iter_gives.0 refl refl
    (c.in_ok-known.ensures ∙ ap (map (facts_of c.loop-binding.table)) c.deref.ensures.value)
    (ap facts_of (c.undo.ensures ∙ c.loop-binding.invariant.earlier)) c.block.ensures.finish

pub walk_block-returns-clause-table : goal.walk_block-returns-clause-table
walk_block-returns-clause-table g t c =
    still_on c.block.result c.block.new.table c.undo.new.self c.args.table.now c.block.ensures.table (c.undo.ensures ∙ c.loop-binding.invariant.earlier)

-- ---- bindings

pub walk_binding-returns-clause-traced : goal.walk_binding-returns-clause-traced
walk_binding-returns-clause-traced g t c =
    let old = c.args.binding in
    let inside = c.in_ok-inside in
    let new = c.in_ok-right in
    let_end (g.R.Rewriting.called c.args.pass.now) g.row.R-Progress.Denot (g.R.Rewriting.step c.args.pass.now) (g.R.Rewriting.finish c.args.pass.now)
    (facts_of c.args.table.now) (facts_of c.walk_right.new.table) (facts_of c.right.new.table) (facts_of c.learn_all.new.facts) c.args.progress.now c.walk_right.new.progress c.right.new.progress
    old.targets.items c.deref.result.now c.deref-2.result.now old.site (right_term old.right) (right_term inside.inside.right) (right_term new.field-0.right) (map fact_of inside.inside.values.items) (map fact_of new.field-0.values.items)
    (map let_term c.args.done.now.items) (map let_term c.right.new.done.items) (map let_term c.push.new.self.items) new.ensures.step.0 c.deref.ensures.value c.deref-2.ensures.value
    (ap facts_of inside.ensures.table) (ap facts_of (new.ensures.table ∙ inside.ensures.table)) inside.ensures.traced new.ensures.step.1 new.ensures.step.2 c.in_ok-learn_all.ensures.noted
    (pushed let_term c.push.new.self.items c.right.new.done.items _ c.in_ok-push.ensures.items)

pub walk_binding-returns-clause-earlier : goal.walk_binding-returns-clause-earlier
walk_binding-returns-clause-earlier g t c =
    earlier_end c.learn_all.new.facts c.right.new.table c.args.table.now (c.in_ok-right.ensures.table ∙ c.in_ok-inside.ensures.table) c.learn_all.ensures.behind

-- ---- generators

pub walk_with-loop-generator-init : goal.walk_with-loop-generator-init
walk_with-loop-generator-init g t c = record {
  going = gens_first (g.R.Rewriting.called c.args.pass.now) g.row.R-Progress.Denot (g.R.Rewriting.step c.args.pass.now) (g.R.Rewriting.finish c.args.pass.now)
      (facts_of c.args.table.now) c.args.progress.now c.into_iter-generator-iterator.result.rest.items _ c.new-done.ensures.items;
  table = refl;
}

pub walk_with-loop-generator-preserved : goal.walk_with-loop-generator-preserved
walk_with-loop-generator-preserved g t c =
    let v = c.loop-generator.invariant in
    let new = c.in_ok-walk_gen.ensures in
    record {
      going = gens_on (g.R.Rewriting.called c.args.pass.now) g.row.R-Progress.Denot (g.R.Rewriting.step c.args.pass.now) (g.R.Rewriting.finish c.args.pass.now)
          (facts_of c.args.table.now) (facts_of c.loop-generator.table) c.args.progress.now _ c.loop-generator.progress c.walk_gen.new.progress c.loop-generator.done.items c.push.new.self.items
          c.loop-generator.generator-iterator.rest.items c.next.new.self.rest.items c.in-Some.generator c.in_ok-walk_gen.field-0 v.going c.in-Some.ensures.steps.0 c.in_ok-push.ensures.items (ap facts_of v.table) new.traced;
      table = new.table ∙ v.table;
    }

pub walk_with-returns-clause-traced : goal.walk_with-returns-clause-traced
walk_with-returns-clause-traced g t c =
    let rest = c.loop-generator.generator-iterator.rest in
    let none = none_left rest.len rest.items c.in-None.ensures.steps.0 rest.ok.0 in
    with_end (g.R.Rewriting.called c.args.pass.now) g.row.R-Progress.Denot (g.R.Rewriting.step c.args.pass.now) (g.R.Rewriting.finish c.args.pass.now)
    (facts_of c.args.table.now) c.args.progress.now c.loop-generator.progress _ rest.items c.loop-generator.done.items c.args.with (roll-WithLoop (record { gens = c.loop-generator.done; op = (out-WithLoop c.args.with).op })) c.of_with.result
    c.of_with.ensures.right c.of_with.ensures.known (with_roll (record { gens = c.loop-generator.done; op = (out-WithLoop c.args.with).op })) c.loop-generator.invariant.going none c.into_iter-generator-iterator.ensures.into_iter_gives.0

pub walk_gen-returns-clause-traced : goal.walk_gen-returns-clause-traced
walk_gen-returns-clause-traced g t c =
    let gen = c.args.generator in
    gen_end (g.R.Rewriting.called c.args.pass.now) g.row.R-Progress.Denot (g.R.Rewriting.step c.args.pass.now) (g.R.Rewriting.finish c.args.pass.now)
    (facts_of c.args.table.now) (facts_of c.forget_index.new.table) c.args.progress.now c.walk_block.new.progress gen c.in_ok-body.body.block _
    (c.in_ok-forget_index.ensures.forgotten ∙ ap (λ xs. note_all (facts_of c.args.table.now) ((out-CoreGen gen).index ∷ xs) []) c.deref.ensures.value) c.in_ok-body.ensures.traced

pub walk_gen-returns-clause-table : goal.walk_gen-returns-clause-table
walk_gen-returns-clause-table g t c =
    c.undo.ensures
    ∙ (λ i. drop (length (c.in_ok-body.ensures.table i) - c.mark-outer.ensures i) (c.in_ok-body.ensures.table i))
    ∙ c.in_ok-forget_index.ensures.behind

-- ---- parts

pub walk_part-returns-clause-traced : goal.walk_part-returns-clause-traced
walk_part-returns-clause-traced g t c =
    part_end (g.R.Rewriting.called c.args.pass.now) g.row.R-Progress.Denot (g.R.Rewriting.step c.args.pass.now) (g.R.Rewriting.finish c.args.pass.now)
    (facts_of c.args.table.now) (facts_of c.learn_index.new.table) c.args.progress.now c.walk_block.new.progress c.args.part c.in_ok-body.body.block _
    c.in_ok-learn_index.ensures.learned c.in_ok-body.ensures.traced

pub walk_part-returns-clause-table : goal.walk_part-returns-clause-table
walk_part-returns-clause-table g t c =
    c.undo.ensures
    ∙ (λ i. drop (length (c.in_ok-body.ensures.table i) - c.mark-outer.ensures i) (c.in_ok-body.ensures.table i))
    ∙ c.in_ok-learn_index.ensures.behind

pub walk_parted-loop-part-init : goal.walk_parted-loop-part-init
walk_parted-loop-part-init g t c = record {
  going = parts_first (g.R.Rewriting.called c.args.pass.now) g.row.R-Progress.Denot (g.R.Rewriting.step c.args.pass.now) (g.R.Rewriting.finish c.args.pass.now)
      (facts_of c.args.table.now) c.args.progress.now c.into_iter-part-iterator.result.rest.items _ c.new-done.ensures.items;
  table = refl;
}

pub walk_parted-loop-part-preserved : goal.walk_parted-loop-part-preserved
walk_parted-loop-part-preserved g t c =
    let v = c.loop-part.invariant in
    let new = c.in_ok-walk_part.ensures in
    record {
      going = parts_on (g.R.Rewriting.called c.args.pass.now) g.row.R-Progress.Denot (g.R.Rewriting.step c.args.pass.now) (g.R.Rewriting.finish c.args.pass.now)
          (facts_of c.args.table.now) (facts_of c.loop-part.table) c.args.progress.now _ c.loop-part.progress c.walk_part.new.progress c.loop-part.done.items c.push.new.self.items
          c.loop-part.part-iterator.rest.items c.next.new.self.rest.items c.in-Some.part c.in_ok-walk_part.field-0 v.going c.in-Some.ensures.steps.0 c.in_ok-push.ensures.items (ap facts_of v.table) new.traced;
      table = new.table ∙ v.table;
    }

pub walk_parted-returns-clause-traced : goal.walk_parted-returns-clause-traced
walk_parted-returns-clause-traced g t c =
    let rest = c.loop-part.part-iterator.rest in
    let none = none_left rest.len rest.items c.in-None.ensures.steps.0 rest.ok.0 in
    parted_end (g.R.Rewriting.called c.args.pass.now) g.row.R-Progress.Denot (g.R.Rewriting.step c.args.pass.now) (g.R.Rewriting.finish c.args.pass.now)
    (facts_of c.args.table.now) c.args.progress.now c.loop-part.progress c.of_parted.result _ rest.items c.loop-part.done c.args.parted
    c.of_parted.ensures.right c.of_parted.ensures.known c.loop-part.invariant.going none c.into_iter-part-iterator.ensures.into_iter_gives.0

-- ---- right sides

pub walk_right-returns-in_ok-no-in-If-clause-traced : goal.walk_right-returns-in_ok-no-in-If-clause-traced
walk_right-returns-in_ok-no-in-If-clause-traced g t c =
    choice_end (g.R.Rewriting.called c.args.pass.now) g.row.R-Progress.Denot (g.R.Rewriting.step c.args.pass.now) (g.R.Rewriting.finish c.args.pass.now)
    (facts_of c.args.table.now) (facts_of c.walk_block.new.table) c.args.progress.now c.walk_block.new.progress c.walk_block-in-If.new.progress
    c.in-If.cond c.in-If.yes c.in-If.no c.in_ok-yes-in-If.yes.block c.in_ok-no-in-If.no.block _ _ c.args.right c.of_if.result c.in-If.is (ap facts_of c.in_ok-yes-in-If.ensures.table)
    c.in_ok-yes-in-If.ensures.traced c.in_ok-no-in-If.ensures.traced c.of_if.ensures.right c.of_if.ensures.known

pub walk_right-returns-in_ok-no-in-If-clause-table : goal.walk_right-returns-in_ok-no-in-If-clause-table
walk_right-returns-in_ok-no-in-If-clause-table g t c = holds_on c.of_if.result (c.in_ok-no-in-If.ensures.table ∙ c.in_ok-yes-in-If.ensures.table)

pub walk_right-returns-in_ok-body-in-Loop-clause-traced : goal.walk_right-returns-in_ok-body-in-Loop-clause-traced
walk_right-returns-in_ok-body-in-Loop-clause-traced g t c =
    turns_end (g.R.Rewriting.called c.args.pass.now) g.row.R-Progress.Denot (g.R.Rewriting.step c.args.pass.now) (g.R.Rewriting.finish c.args.pass.now)
    (facts_of c.args.table.now) (facts_of c.forget.new.table) (facts_of c.walk_block-in-Loop.new.table) c.args.progress.now c.walk_block-in-Loop.new.progress c.walk_block-in-Loop-2.new.progress
    c.in-Loop.first_body c.in-Loop.start c.in-Loop.params c.in-Loop.test_site c.in-Loop.test c.in-Loop.body c.in_ok-test-in-Loop.test.block c.in_ok-body-in-Loop.body.block _ _ c.args.right c.of_loop.result c.in-Loop.is
    (c.in_ok-forget-in-Loop.ensures.forgotten ∙ ap (λ xs. note_all (facts_of c.args.table.now) xs []) c.deref.ensures.value) (ap facts_of c.in_ok-test-in-Loop.ensures.table)
    c.in_ok-test-in-Loop.ensures.traced c.in_ok-body-in-Loop.ensures.traced c.of_loop.ensures.right c.of_loop.ensures.known

pub walk_right-returns-in-Call : goal.walk_right-returns-in-Call
walk_right-returns-in-Call g t c = record {
  traced = call_end (g.R.Rewriting.called c.args.pass.now) g.row.R-Progress.Denot (g.R.Rewriting.step c.args.pass.now) (g.R.Rewriting.finish c.args.pass.now)
      (facts_of c.args.table.now) c.args.progress.now c.in-Call.group c.in-Call.args _ c.args.right c.of_call.result c.in-Call.is c.of_call.ensures.right c.of_call.ensures.known
      (ap (λ shapes. map shape_fact (shapes c.in-Call.group)) c.called.ensures);
  table = holds_on c.of_call.result refl;
}

pub walk_right-returns-in_default : goal.walk_right-returns-in_default
walk_right-returns-in_default g t c =
    let arm = c.in_default in
    let other : IsOther c.args.right = (arm.not-If, arm.not-Loop, arm.not-Call, arm.not-With, arm.not-Parted) in
    record {
      traced = plain_end (g.R.Rewriting.called c.args.pass.now) g.row.R-Progress.Denot (g.R.Rewriting.step c.args.pass.now) (g.R.Rewriting.finish c.args.pass.now)
          (facts_of c.args.table.now) c.args.progress.now c.args.right c.of_plain.result other c.of_plain.ensures.right c.of_plain.ensures.known;
      table = holds_on c.of_plain.result refl;
    }
