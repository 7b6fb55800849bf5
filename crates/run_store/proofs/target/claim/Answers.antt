use Rattle.std.proofs.Common.{rules, sym, ◌∙◌}
use Rattle.sac_base.specs.Arrays.{size}
use Rattle.counted_code.specs.Values.{is_small}
use Rattle.run_store.proofs.Targets.{inside_claimed, buffer_claimed}
use Rattle.run_store.proofs.target.claim.Goals as goal

pub returns-then-is_small-clause-claimed : goal.returns-then-is_small-clause-claimed
returns-then-is_small-clause-claimed c m stands =
    inside_claimed c.claim_inside.result c.args.heap.now m (is_small c.args.shape.now) (size c.args.shape.now) (sym c.is_small.ensures ∙ c.if-is_small.true) c.claim_inside.ensures.inside stands

pub returns-else-is_small-clause-claimed : goal.returns-else-is_small-clause-claimed
returns-else-is_small-clause-claimed c m stands =
    buffer_claimed c.claim_buffer.result c.claim_buffer.new.heap m (is_small c.args.shape.now) c.in-Some.len (size c.args.shape.now) (sym c.is_small.ensures ∙ c.if-is_small.false) (search rules) (c.claim_buffer.ensures.claimed m stands)
