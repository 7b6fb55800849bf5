use Rattle.std.proofs.Common.{rules, ◌≡◌, ◌-◌, ◌+◌, ◌<◌, ◌≤◌, ◌∙◌, List, drop, length, ap, sym, subst, arith}
use Rattle.std.proofs.lemmas.List.{drop_more}
use Rattle.core_ir.specs.declared.tree.Var.{Var}
use Rattle.core_loops.specs.Indices.{note_others}
use Rattle.index_table.specs.Notes.{Note}
use Rattle.index_table.specs.Table.{indices_of}
use Rattle.fact_table.proofs.scoped_table.Marks.{behind_more}
use Rattle.reuse_candidates.proofs.heads.forget_relations.Goals as goal

pub loop-var-preserved : goal.loop-var-preserved
loop-var-preserved c =
    let xs = c.args.vars.now in
    let i = c.loop-var.var-index in
    let old = c.loop-var.indices in
    let learned = c.in_ok-learn.ensures.learned in
    let longer = c.loop-var.invariant.longer in
    let there : i < length xs = search rules in
    record {
      forgotten =
          ap (λ (ns : List Note). note_others (indices_of ns) (drop (i + 1) xs)) learned
          ∙ ap (λ (ys : List Var). note_others (indices_of old) ys) (sym (drop_more xs i _ there))
          ∙ c.loop-var.invariant.forgotten;
      longer = subst (λ (ns : List Note). length c.args.indices.now ≤ length ns) (sym learned) (omega (arith, longer));
      behind =
          subst (λ (ns : List Note). drop (length ns - length c.args.indices.now) ns ≡ c.args.indices.now) (sym learned)
          (behind_more _ old c.args.indices.now longer c.loop-var.invariant.behind);
    }
