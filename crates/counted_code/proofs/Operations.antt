-- What the operation of a with-loop reads.
use Rattle.std.proofs.Common.{◌≡◌, ap}
use Rattle.core_ir.specs.Scopes.{op_uses, parted_uses, right_uses}
use Rattle.counted_code.specs.declared.tree.CodeWith.{CodeWith, CodeWith', out-CodeWith, outs-CodeWith'}
use Rattle.counted_code.specs.declared.tree.CodeParted.{CodeParted, CodeParted', out-CodeParted, outs-CodeParted'}
use Rattle.counted_code.specs.Terms.{core_of_right}
use Rattle.counted_code.specs.View.{code_with_term, code_parted_term}

pub with_reads : (w : CodeWith) → op_uses (out-CodeWith w).op ≡ right_uses (core_of_right (code_with_term w))
with_reads (CodeWith' shape row op) = ap (λ x. op_uses x.op) (outs-CodeWith' shape row op)

pub parted_reads : (p : CodeParted) → parted_uses (out-CodeParted p).op ≡ right_uses (core_of_right (code_parted_term p))
parted_reads (CodeParted' frame base cell op shape row reuse) = ap (λ x. parted_uses x.op) (outs-CodeParted' frame base cell op shape row reuse)
