use Rattle.std.proofs.Common.{◌≡◌, map}
use Rattle.std.proofs.lemmas.Result.{IfOk-weaker}
use Rattle.core_ir.specs.declared.tree.Block.{Block}
use Rattle.core_ir.specs.Binders.{bound_in}
use Rattle.core_ir.specs.View.{block_term}
use Rattle.core_subst.specs.copy.Mapped.{raised, raised_within, mapped, MeansRaised}
use Rattle.core_subst.proofs.copy.Within.{raised_term, raised_means, raised_bound}
use Rattle.core_subst.proofs.copy.raising.copy_raised.Goals as goal

pub returns-clause-term : goal.returns-clause-term
returns-clause-term c =
    let by = c.args.by in
    let old = block_term c.args.block.now in
    IfOk-weaker c.copy_named.result (λ (b : Block). block_term b ≡ mapped (raised_within by) old) (λ (b : Block). block_term b ≡ mapped (raised by) old)
    (λ b p. raised_term by old (block_term b) c.requires p) c.copy_named.ensures

pub returns-clause-law : goal.returns-clause-law
returns-clause-law c =
    let by = c.args.by in
    let old = block_term c.args.block.now in
    IfOk-weaker c.copy_named.result (λ (b : Block). block_term b ≡ mapped (raised_within by) old) (λ (b : Block). MeansRaised by old (block_term b))
    (λ b p. raised_means by old (block_term b) c.requires p) c.copy_named.ensures

pub returns-clause-bound : goal.returns-clause-bound
returns-clause-bound c =
    let by = c.args.by in
    let old = block_term c.args.block.now in
    IfOk-weaker c.copy_named.result (λ (b : Block). block_term b ≡ mapped (raised_within by) old) (λ (b : Block). bound_in (block_term b) ≡ map (raised by) (bound_in old))
    (λ b p. raised_bound by old (block_term b) c.requires p) c.copy_named.ensures
