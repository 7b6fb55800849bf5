use Rattle.std.proofs.Common.{rules, ◌≡◌, ◌+◌, ◌-◌, ◌<◌, ◌≤◌, ℕ, arith}
use Rattle.core_ir.specs.View.{part_term}
use Rattle.fact_table.specs.Table.{facts_of}
use Rattle.plain_facts.specs.Called.{shapes_of}
use Rattle.merge_plans.specs.Inners.{IsInner}
use Rattle.merge_plans.proofs.InnerLoops.{inner_same}
use Rattle.merge_plans.proofs.planning.count_with.Goals as goal

over : (count more c : ℕ) → 64 - count < more → c ≡ more → count + c ≤ 64 → ⊥
over count more c h e k = absurd (omega (arith, h, e, k))

pub returns-in_default-clause-none : goal.returns-in_default-clause-none
returns-in_default-clause-none c = λ n w h.
    let called = shapes_of c.args.called.now in
    let k = facts_of c.args.facts.now in
    let p = part_term c.args.part.now in
    let found : IsInner called k c.args.frame.now c.args.base p c.in-Some.more = search rules in
    over c.args.count c.in-Some.more n c.if-more-count.false (inner_same called k c.args.frame.now c.args.base p n c.in-Some.more w found) h

pub returns-in_default-2-clause-none : goal.returns-in_default-2-clause-none
returns-in_default-2-clause-none c = λ n w h.
    let none : (count : ℕ) → IsInner (shapes_of c.args.called.now) (facts_of c.args.facts.now) c.args.frame.now c.args.base (part_term c.args.part.now) count → ⊥ = search rules in
    none n w
