use Rattle.std.proofs.Common.{rules, ◌≡◌, length, sym, ◌∙◌, arith}
use Rattle.variable_bases.proofs.Told.{literal_told}
use Rattle.variable_bases.proofs.Scopes.{none_more, not_all}
use Rattle.variable_bases.proofs.learn.literal_base.Goals as goal

pub loop-x-init : goal.loop-x-init
loop-x-init c = λ j d low. absurd (omega (arith, low))

pub loop-x-preserved : goal.loop-x-preserved
loop-x-preserved c = none_more c.args.xs.now c.loop-x.x-index (record { 0 = 0 }) c.args.table.now c.loop-x-test.true (sym c.of.ensures ∙ c.in_default.is) c.loop-x.invariant

pub returns-in-Some-clause-some : goal.returns-in-Some-clause-some
returns-in-Some-clause-some c = literal_told c.args.table.now c.args.xs.now c.loop-x.x-index _ c.in-Some.base c.loop-x-test.true (sym c.of.ensures ∙ c.in-Some.is)

pub returns-clause-none : goal.returns-clause-none
returns-clause-none c =
    let some : length c.args.xs.now ≡ 0 → ⊥ = search rules in
    not_all c.args.xs.now c.loop-x.x-index c.args.table.now (record { 0 = 0 }) some c.loop-x-test.false c.loop-x.invariant
