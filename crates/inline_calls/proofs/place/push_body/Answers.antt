use Rattle.std.proofs.Common.{refl}
use Rattle.core_ir.specs.declared.tree.Block.{out-Block}
use Rattle.inline_calls.proofs.Steps.{body_pushed, body_results}
use Rattle.inline_calls.proofs.place.push_body.Goals as goal

pub returns-clause-lets : goal.returns-clause-lets
returns-clause-lets c = body_pushed c.args.body c.args.lets.now.items c.append.new.self.items (out-Block c.args.body).lets.items c.in_ok-append.ensures.items refl

pub returns-clause-results : goal.returns-clause-results
returns-clause-results c = body_results c.args.body (out-Block c.args.body).results.items refl
