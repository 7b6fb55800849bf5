use Rattle.std.proofs.Common.{rules, ◌<◌, ◌+◌, ap, ◌∙◌, length, drop}
use Rattle.check_rules.specs.declared.code.CheckCode.TheVariants.{C4}
use Rattle.sac_ast.specs.Bases.{may_match}
use Rattle.check_rules.specs.First.{earlier, unless}
use Rattle.check_rules.specs.Tables.{entered}
use Rattle.check_rules.specs.Walk.{in_targets}
use Rattle.check_rules.proofs.Lists.{target_step, target_known}
use Rattle.check_rules.proofs.targets.bind_targets.Goals as goal

pub loop-k-preserved : goal.loop-k-preserved
loop-k-preserved c =
    let ts = c.args.targets.now in
    let bs = c.args.bases.now in
    let k = c.loop-k.k in
    let t = c.index-targets-k.result in
    let b = c.base_at-base.result in
    let below : k < length ts = search rules in
    let old = entered c.loop-k.known in
    let new = entered c.bind.new.known in
    let one = c.earlier-first.ensures ∙ (λ i. earlier c.loop-k.first ((c.unless.ensures ∙ (λ j. unless ((c.may_match-fits.ensures ∙ ap (λ a. may_match a b) c.base_of.ensures) j) C4 t.site)) i)) in
    record {
      first = ap (λ r. earlier r (in_targets (drop (k + 1) ts) (drop (k + 1) bs) new).first) one ∙ target_step ts k t below c.index-targets-k.is bs b c.base_at-base.ensures old new c.in_ok-bind.ensures c.loop-k.first ∙ c.loop-k.invariant.first;
      known = target_known ts k t below c.index-targets-k.is bs b c.base_at-base.ensures old new c.in_ok-bind.ensures ∙ c.loop-k.invariant.known;
    }
