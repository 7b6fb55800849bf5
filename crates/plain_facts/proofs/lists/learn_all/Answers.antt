use Rattle.std.proofs.Common.{rules, ◌≡◌, ◌-◌, ◌+◌, ◌<◌, ◌≤◌, ◌∙◌, List, drop, length, map, ap, sym, subst, arith}
use Rattle.std.proofs.lemmas.List.{drop_more}
use Rattle.core_ir.specs.declared.tree.Var.{Var}
use Rattle.core_facts.specs.Facts.{note_all}
use Rattle.fact_table.specs.Notes.{Note}
use Rattle.fact_table.specs.Table.{fact_of, facts_of}
use Rattle.fact_table.proofs.scoped_table.Marks.{behind_more}
use Rattle.plain_facts.proofs.lists.learn_all.Goals as goal

pub loop-x-preserved : goal.loop-x-preserved
loop-x-preserved c =
    let xs = c.args.xs.now in
    let i = c.loop-x.x-index in
    let old = c.loop-x.facts in
    let rest = c.next_known.new.rest.rest.items in
    let learned = c.in_ok-learn.ensures.learned in
    let longer = c.loop-x.invariant.longer in
    let there : i < length xs = search rules in
    record {
      noted =
          ap (λ (ns : List Note). note_all (facts_of ns) (drop (i + 1) xs) (map fact_of rest)) learned
          ∙ c.next_known.ensures (facts_of old) _ (drop (i + 1) xs)
          ∙ ap (λ (ys : List Var). note_all (facts_of old) ys (map fact_of c.loop-x.rest.rest.items)) (sym (drop_more xs i _ there))
          ∙ c.loop-x.invariant.noted;
      longer = subst (λ (ns : List Note). length c.args.facts.now ≤ length ns) (sym learned) (omega (arith, longer));
      behind =
          subst (λ (ns : List Note). drop (length ns - length c.args.facts.now) ns ≡ c.args.facts.now) (sym learned)
          (behind_more _ old c.args.facts.now longer c.loop-x.invariant.behind);
    }
