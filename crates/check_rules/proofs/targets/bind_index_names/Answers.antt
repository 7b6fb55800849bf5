use Rattle.std.proofs.Common.{rules, ◌<◌, ◌+◌, ap, ◌∙◌, length, drop}
use Rattle.sac_base.specs.declared.base.Base.TheVariants.{Int}
use Rattle.check_rules.specs.declared.code.CheckCode.TheVariants.{C4}
use Rattle.sac_ast.specs.Bases.{may_be}
use Rattle.check_rules.specs.First.{earlier, unless}
use Rattle.check_rules.specs.Tables.{entered}
use Rattle.check_rules.specs.Walk.{in_index_names}
use Rattle.check_rules.proofs.Lists.{index_step, index_known}
use Rattle.check_rules.proofs.targets.bind_index_names.Goals as goal

pub loop-target-preserved : goal.loop-target-preserved
loop-target-preserved c =
    let ts = c.args.targets.now in
    let k = c.loop-target.target-index in
    let t = c.target-item.result in
    let below : k < length ts = search rules in
    let old = entered c.loop-target.known in
    let new = entered c.bind.new.known in
    let one = c.earlier-first.ensures ∙ (λ i. earlier c.loop-target.first ((c.unless.ensures ∙ (λ j. unless ((c.may_be-fits.ensures ∙ ap (may_be Int) c.base_of.ensures) j) C4 t.site)) i)) in
    record {
      first = ap (λ r. earlier r (in_index_names (drop (k + 1) ts) new).first) one ∙ index_step ts k t below c.target-item.is c.loop-target.first old new c.in_ok-bind.ensures ∙ c.loop-target.invariant.first;
      known = index_known ts k t below c.target-item.is old new c.in_ok-bind.ensures ∙ c.loop-target.invariant.known;
    }
