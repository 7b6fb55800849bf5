use Rattle.std.proofs.Common.{◌≡◌}
use Rattle.std.proofs.lemmas.Result.{IfOk-weaker}
use Rattle.core_ir.specs.declared.tree.Block.{Block}
use Rattle.core_ir.specs.View.{block_term}
use Rattle.core_subst.specs.Substitution.{MeansThrough, substituted, partner, image}
use Rattle.core_subst.proofs.Hiding.{shows_partner, substituted_same}
use Rattle.core_subst.proofs.Law.{substituted_means}
use Rattle.core_subst.proofs.replace.substitute.Goals as goal

pub returns-clause-term : goal.returns-clause-term
returns-clause-term c =
    let ps = c.args.pairs.now in
    let old = block_term c.args.block in
    let f = image c.in_ok-partners.partners c.new-hidden.result.items in
    IfOk-weaker c.in_block.result (λ (b : Block). block_term b ≡ substituted f old) (λ (b : Block). block_term b ≡ substituted (partner ps) old)
    (λ b p. substituted_same f (partner ps) old (block_term b) (shows_partner c.in_ok-partners.partners _ ps c.new-hidden.ensures.items c.in_ok-partners.ensures) p)
    c.in_block.ensures.replaced

pub returns-clause-law : goal.returns-clause-law
returns-clause-law c =
    let ps = c.args.pairs.now in
    let old = block_term c.args.block in
    let f = image c.in_ok-partners.partners c.new-hidden.result.items in
    IfOk-weaker c.in_block.result (λ (b : Block). block_term b ≡ substituted f old) (λ (b : Block). MeansThrough ps old (block_term b))
    (λ b p. substituted_means ps f old (block_term b) c.requires (shows_partner c.in_ok-partners.partners _ ps c.new-hidden.ensures.items c.in_ok-partners.ensures) p)
    c.in_block.ensures.replaced
