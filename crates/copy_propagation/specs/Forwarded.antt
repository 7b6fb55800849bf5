-- A generator, a part and a function alone, in which sources are used in the place of copies.
use Rattle.core_ir.specs.declared.tree.Var.{Var}
use Rattle.core_ir.specs.Terms.{GenTerm, PartTerm, FunTerm}
use Rattle.core_subst.specs.Substitution.{gen_head_with}
use Rattle.core_forms.specs.cleaning.Copies.{forwarded}

abbrev pub forwarded_gen : GenTerm → (Var → Var) → GenTerm
forwarded_gen g f = record { head = gen_head_with f g.head; body = forwarded g.body f }

abbrev pub forwarded_part : PartTerm → (Var → Var) → PartTerm
forwarded_part p f = record p { body = forwarded p.body f }

abbrev pub forwarded_function : FunTerm → FunTerm
forwarded_function f = record f { body = forwarded f.body (λ x. x) }
