-- Functions whose variables are numbered one after another.
use Rattle.std.specs.Prelude.{ℕ}
use Rattle.core_ir.specs.declared.tree.Var.{Var}
use Rattle.core_ir.specs.Binders.{bound_in}
use Rattle.core_ir.specs.Outcome.{param_vars}
use Rattle.core_ir.specs.Terms.{BlockTerm, FunTerm, CoreTerm}
use Rattle.core_subst.specs.Names.{above_all}
use Rattle.core_subst.specs.copy.Mapped.{mapped}
use Rattle.core_forms.specs.cleaning.Bodies.{with_bodies}
use Rattle.core_forms.specs.norm.Copied.{AreFrom}
use Rattle.parted_bodies.specs.Numbering.{numbered}

-- the first number behind those of the parameters
abbrev pub behind_params : FunTerm → ℕ
behind_params f = above_all (param_vars f)

-- the numbers from that on stand for what the body binds, in the order of the binders
abbrev pub number_in : FunTerm → Var → Var
number_in f = numbered (λ x. x) (bound_in f.body) (behind_params f)

abbrev pub dense_body : FunTerm → BlockTerm
dense_body f = mapped (number_in f) f.body

abbrev pub numbered_function : FunTerm → FunTerm
numbered_function f = record f { body = dense_body f }

abbrev pub dense_core : CoreTerm → CoreTerm
dense_core core = with_bodies dense_body core

-- what the body binds has the numbers behind those of the parameters, one after another
abbrev pub IsDense : FunTerm → Type 0
IsDense f = AreFrom (behind_params f) (bound_in f.body)
