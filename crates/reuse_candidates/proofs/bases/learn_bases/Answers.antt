use Rattle.std.proofs.Common.{rules, ◌≡◌, ◌-◌, ◌+◌, ◌<◌, ◌≤◌, ◌∙◌, List, Option, drop, length, ap, sym, subst, arith}
use Rattle.std.proofs.lemmas.List.{drop_more}
use Rattle.sac_base.specs.declared.base.Base.{Base}
use Rattle.core_ir.specs.declared.tree.Var.{Var}
use Rattle.counted_marks.specs.Bases.{note_bases}
use Rattle.fact_table.specs.scoped_table.Notes.{Note}
use Rattle.fact_table.proofs.scoped_table.Marks.{behind_more}
use Rattle.reuse_candidates.specs.Tables.{bases_of}
use Rattle.reuse_candidates.proofs.bases.learn_bases.Goals as goal

pub loop-k-preserved : goal.loop-k-preserved
loop-k-preserved c =
    let xs = c.args.vars.now in
    let bs = c.args.bases.now in
    let k = c.loop-k.k in
    let old = c.loop-k.table in
    let noted = c.in_ok-note.ensures.noted in
    let longer = c.loop-k.invariant.longer in
    let there : k < length xs = search rules in
    record {
      noted =
          ap (λ (ns : List (Note (Option Base))). note_bases (bases_of ns) (drop (k + 1) xs) (drop (k + 1) bs)) noted
          ∙ c.nth_base.ensures (bases_of old) _ (drop (k + 1) xs)
          ∙ ap (λ (ys : List Var). note_bases (bases_of old) ys (drop k bs)) (sym (drop_more xs k _ there))
          ∙ c.loop-k.invariant.noted;
      longer = subst (λ (ns : List (Note (Option Base))). length c.args.table.now ≤ length ns) (sym noted) (omega (arith, longer));
      behind =
          subst (λ (ns : List (Note (Option Base))). drop (length ns - length c.args.table.now) ns ≡ c.args.table.now) (sym noted)
          (behind_more _ old c.args.table.now longer c.loop-k.invariant.behind);
    }
