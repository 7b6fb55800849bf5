use Rattle.std.proofs.Common.{rules, ◌≡◌, ◌-◌, ◌+◌, ◌<◌, ◌≤◌, ◌∙◌, List, Option, drop, length, ap, sym, subst, arith}
use Rattle.std.proofs.lemmas.List.{drop_more}
use Rattle.sac_base.specs.declared.base.Base.{Base}
use Rattle.core_ir.specs.declared.tree.Var.{Var}
use Rattle.counted_marks.specs.Bases.{note_ints}
use Rattle.fact_table.specs.scoped_table.Notes.{Note}
use Rattle.fact_table.proofs.scoped_table.Marks.{behind_more}
use Rattle.reuse_candidates.specs.Tables.{bases_of}
use Rattle.reuse_candidates.proofs.bases.learn_ints.Goals as goal

pub loop-var-preserved : goal.loop-var-preserved
loop-var-preserved c =
    let xs = c.args.vars.now in
    let i = c.loop-var.var-index in
    let old = c.loop-var.table in
    let noted = c.in_ok-note.ensures.noted in
    let longer = c.loop-var.invariant.longer in
    let there : i < length xs = search rules in
    record {
      noted =
          ap (λ (ns : List (Note (Option Base))). note_ints (bases_of ns) (drop (i + 1) xs)) noted
          ∙ ap (λ (ys : List Var). note_ints (bases_of old) ys) (sym (drop_more xs i _ there))
          ∙ c.loop-var.invariant.noted;
      longer = subst (λ (ns : List (Note (Option Base))). length c.args.table.now ≤ length ns) (sym noted) (omega (arith, longer));
      behind =
          subst (λ (ns : List (Note (Option Base))). drop (length ns - length c.args.table.now) ns ≡ c.args.table.now) (sym noted)
          (behind_more _ old c.args.table.now longer c.loop-var.invariant.behind);
    }
