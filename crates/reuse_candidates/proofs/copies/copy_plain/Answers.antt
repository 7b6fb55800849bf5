use Rattle.std.proofs.Common.{◌≡◌, refl}
use Rattle.sac_base.specs.declared.faults.FaultKind.TheVariants.{F7}
use Rattle.core_ir.specs.Terms.{PlainTerm}
use Rattle.counted_code.specs.Terms.{PlainCode}
use Rattle.reuse_candidates.specs.Plain.{plain_code}
use Rattle.reuse_candidates.proofs.Plains.{with_blocks}
use Rattle.reuse_candidates.proofs.copies.copy_plain.Goals as goal

pub returns-in-If : goal.returns-in-If
returns-in-If c =
    with_blocks (λ t. PlainCode (PlainTerm.Always F7) ≡ plain_code t) (λ x a b. refl) (λ first start params a b s. refl) (λ g xs. refl) (λ o gs. refl) (λ f t l o ps reuse. refl)
    c.args.right.now c.in-If.is
