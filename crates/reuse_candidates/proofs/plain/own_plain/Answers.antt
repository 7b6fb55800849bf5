use Rattle.std.proofs.Common.{◌≡◌, false, refl}
use Rattle.core_ir.specs.declared.tree.Var.{Var}
use Rattle.core_loops.specs.Indices.{IndexFacts}
use Rattle.counted_code.specs.declared.tree.CodeRight.{CodeRight}
use Rattle.counted_code.specs.Terms.{core_of_right}
use Rattle.counted_code.specs.View.{code_right_term}
use Rattle.index_table.specs.Table.{indices_of}
use Rattle.reuse_candidates.specs.Plain.{is_own_plain}
use Rattle.reuse_candidates.proofs.Plains.{HasBlocks, with_blocks}
use Rattle.reuse_candidates.proofs.plain.own_plain.Goals as goal

not_plain : (v : Var) (r : CodeRight) (m : IndexFacts) → HasBlocks r → false ≡ is_own_plain v (core_of_right (code_right_term r)) m
not_plain v r m blocks =
    with_blocks (λ t. false ≡ is_own_plain v (core_of_right t) m) (λ x a b. refl) (λ first start params a b s. refl) (λ h xs. refl) (λ o gs. refl) (λ f t l o ps reuse. refl) r blocks

pub returns-in-If-4 : goal.returns-in-If-4
returns-in-If-4 c = not_plain c.args.array c.args.right.now (indices_of c.args.indices.now) c.in-If.is

pub returns-in-If-5 : goal.returns-in-If-5
returns-in-If-5 c = not_plain c.args.array c.args.right.now (indices_of c.args.indices.now) c.in-If.is
