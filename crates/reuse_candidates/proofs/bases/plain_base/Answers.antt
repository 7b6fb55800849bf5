use Rattle.std.proofs.Common.{◌≡◌, Option, None, refl}
use Rattle.sac_base.specs.declared.base.Base.{Base}
use Rattle.counted_code.specs.declared.tree.CodeRight.{CodeRight}
use Rattle.counted_code.specs.Terms.{core_of_right}
use Rattle.counted_code.specs.View.{code_right_term}
use Rattle.counted_marks.specs.Bases.{BaseFacts}
use Rattle.reuse_candidates.specs.Plain.{base_of_right}
use Rattle.reuse_candidates.specs.Tables.{bases_of}
use Rattle.reuse_candidates.proofs.Plains.{HasBlocks, with_blocks}
use Rattle.reuse_candidates.proofs.bases.plain_base.Goals as goal

none_known : (r : CodeRight) (g : BaseFacts) → HasBlocks r → ◌≡◌ {A = Option Base} None (base_of_right (core_of_right (code_right_term r)) g)
none_known r g blocks =
    with_blocks (λ t. ◌≡◌ {A = Option Base} None (base_of_right (core_of_right t) g)) (λ x a b. refl) (λ first start params a b s. refl) (λ h xs. refl) (λ o gs. refl) (λ f t l o ps reuse. refl) r blocks

pub returns-in-If-4 : goal.returns-in-If-4
returns-in-If-4 c = none_known c.args.right.now (bases_of c.args.table.now) c.in-If.is

pub returns-in-If-5 : goal.returns-in-If-5
returns-in-If-5 c = none_known c.args.right.now (bases_of c.args.table.now) c.in-If.is
