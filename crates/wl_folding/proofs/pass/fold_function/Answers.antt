use Rattle.std.proofs.Common.{List, map, refl, ap, subst, ◌∙◌}
use Rattle.sac_base.specs.declared.types.ArrayType.{ArrayType}
use Rattle.core_ir.specs.Outcome.{param_types, param_vars}
use Rattle.core_ir.specs.View.{fun_term, block_term}
use Rattle.core_facts.specs.Facts.{Facts, note_all, shape_fact}
use Rattle.core_facts.specs.constants.Called.{shape_of_type}
use Rattle.fact_table.specs.Notes.{Note}
use Rattle.fact_table.specs.Table.{facts_of}
use Rattle.plain_facts.specs.Called.{shapes_of}
use Rattle.fold_walk.specs.Walking.{BlockWalked}
use Rattle.wl_folding.proofs.pass.fold_function.Goals as goal

pub returns : goal.returns
returns c =
    let f = fun_term c.args.function in
    let known = map (λ (ty : ArrayType). shape_fact (shape_of_type ty)) (param_types f) in
    let facts = c.in_ok-learn_params.ensures.noted ∙ ap (λ (notes : List Note). note_all (facts_of notes) (param_vars f) known) c.new-table.ensures in
    record {
      first = c.in_ok-first.first;
      above = c.in_ok-first.ensures;
      last = c.fold_block.new.folding.progress.next;
      body = block_term c.in_ok-body.body;
      walked = subst (λ (k : Facts). BlockWalked (shapes_of c.args.called.now) c.args.place k (record { next = c.in_ok-first.first; folds = c.args.folds.items })
          (record { next = c.fold_block.new.folding.progress.next; folds = c.fold_block.new.folding.folds.items }) f.body (block_term c.in_ok-body.body)) facts c.in_ok-body.ensures.walked;
      new = refl;
    }
