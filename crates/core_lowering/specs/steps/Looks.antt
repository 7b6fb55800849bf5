-- Names and their variables, as functions: nothing here knows in what order names were bound.
use Rattle.std.specs.Prelude.{ℕ, suc, List, [], ◌∷◌, map, Option, Some, None, if◌then◌else◌, bytes_eq}
use Rattle.sac_base.specs.declared.name.Name.{Name}
use Rattle.core_ir.specs.declared.tree.Var.{Var}
use Rattle.core_lowering.specs.Lowering.{numbered, or_first}

-- the variable of each name that has one
abbrev pub Look : Type 0
Look = Name → Option Var

abbrev pub unbound : Look
unbound name = None

abbrev pub with_var : Name → Var → Look → Look
with_var x v look name = if bytes_eq name x then Some v else look name

-- names bound to new variables one after another
abbrev pub with_vars : List Name → ℕ → Look → Look
with_vars [] n look = look
with_vars (x ∷ xs) n look = with_vars xs (suc n) (with_var x (numbered n) look)

abbrev pub vars_of : Look → List Name → List Var
vars_of look xs = map (λ x. or_first (look x)) xs
