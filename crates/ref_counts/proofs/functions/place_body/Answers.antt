use Rattle.std.proofs.Common.{◌≡◌, [], sym, subst, ◌∙◌}
use Rattle.std.specs.Prelude.{IfOk}
use Rattle.core_ir.specs.View.{block_term}
use Rattle.counted_code.specs.View.{code_term}
use Rattle.ref_rules.specs.listed_uses.Latest.{section}
use Rattle.counted_laws.specs.placing.Placing.{placing}
use Rattle.ref_counts.specs.Listing.{listed}
use Rattle.ref_counts.proofs.Collected.{append_nil}
use Rattle.ref_counts.proofs.functions.place_body.Goals as goal

pub returns : goal.returns
returns c =
    let body = block_term c.args.body.now in
    subst (λ xs. IfOk c.place_block.result (λ b. code_term b ≡ placing xs body)) (c.deref.ensures.value ∙ c.in_ok-own.ensures) (c.place_block.ensures [] (c.in_ok-uses.ensures ∙ sym (append_nil (section (listed body)))))
