use Rattle.std.proofs.Common.{rules, ◌≡◌, ◌-◌, ◌+◌, ◌<◌, ◌≤◌, ◌∙◌, List, drop, length, ap, sym, subst, arith}
use Rattle.std.proofs.lemmas.List.{drop_more}
use Rattle.core_ir.specs.declared.tree.Var.{Var}
use Rattle.core_loops.specs.Indices.{note_others}
use Rattle.index_table.specs.Notes.{Note}
use Rattle.index_table.specs.Table.{indices_of}
use Rattle.fact_table.proofs.scoped_table.Marks.{behind_more}
use Rattle.index_table.proofs.relations.forget_all.Goals as goal

pub loop-x-preserved : goal.loop-x-preserved
loop-x-preserved c =
    let xs = c.args.xs.now in
    let i = c.loop-x.x-index in
    let old = c.loop-x.indices in
    let start = c.args.indices.now in
    let learned = c.in_ok-learn.ensures.learned in
    let longer = c.loop-x.invariant.longer in
    let there : i < length xs = search rules in
    record {
      forgotten =
          ap (λ (ns : List Note). note_others (indices_of ns) (drop (i + 1) xs)) learned
          ∙ ap (λ (ys : List Var). note_others (indices_of old) ys) (sym (drop_more xs i _ there))
          ∙ c.loop-x.invariant.forgotten;
      longer = subst (λ (ns : List Note). length start ≤ length ns) (sym learned) (omega (arith, longer));
      behind =
          subst (λ (ns : List Note). drop (length ns - length start) ns ≡ start) (sym learned) (behind_more _ old start longer c.loop-x.invariant.behind);
    }
