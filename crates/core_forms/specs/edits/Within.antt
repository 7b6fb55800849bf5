-- Scopes and bases with more variables, and with others.
use Rattle.std.specs.Prelude.{◌≡◌, true, eqb, List, map, Some}
use Rattle.sac_base.specs.declared.base.Base.{Base}
use Rattle.core_ir.specs.declared.tree.Var.{Var}
use Rattle.core_ir.specs.Binders.{is_in}
use Rattle.core_ir.specs.WellFormed.{Bases, base_of}

-- each variable of the first list is one of the second
abbrev pub AreWithin : List Var → List Var → Type 0
AreWithin scope wider = (y : Var) → is_in y scope ≡ true → is_in y wider ≡ true

-- each variable has in the second the base that it has in the first
abbrev pub BasesWithin : Bases → Bases → Type 0
BasesWithin g wider = (x : Var) (t : Base) → base_of g x ≡ Some t → base_of wider x ≡ Some t

-- no two variables become one
abbrev pub KeepsApart : (Var → Var) → Type 0
KeepsApart f = (x y : Var) → eqb (f x).0 (f y).0 ≡ eqb x.0 y.0

-- the bases of the variables that stand for these
abbrev pub bases_mapped : (Var → Var) → Bases → Bases
bases_mapped f g = map (λ (p : Var × Base). (f p.0, p.1)) g
