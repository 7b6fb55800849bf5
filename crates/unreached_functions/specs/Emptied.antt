-- Functions that have lost their bodies.
use Rattle.std.specs.Prelude.{◌≡◌, ℕ, zero, suc, List, [], ◌∷◌, length, Some, slice_get}
use Rattle.sac_base.specs.declared.faults.FaultKind.TheVariants.{F10}
use Rattle.core_ir.specs.declared.tree.Var.{Var}
use Rattle.core_ir.specs.Terms.{BlockTerm, FunTerm, CoreTerm, Gives, Bind, Plain, Always}
use Rattle.core_facts.specs.calls.Replaced.{replaced_at}
use Rattle.core_subst.specs.Names.{variable, above_function}

-- so many variables, from a number on
abbrev pub numbered : ℕ → ℕ → List Var
numbered from zero = []
numbered from (suc n) = variable from ∷ numbered (suc from) n

-- a body that calls nothing, and faults where it is reached
abbrev pub empty_body : FunTerm → BlockTerm
empty_body f =
    let targets = numbered (above_function f) (length f.results) in
    Bind targets f.site (Plain (Always F10)) (Gives targets)

-- the function at a place lost its body
pub record FunctionEmptied (a b : CoreTerm) (place : ℕ) : Type 0 where
  pub function : FunTerm
  pub found : slice_get a.functions place ≡ Some function
  pub changed : b ≡ record a { functions = replaced_at a.functions place (record function { body = empty_body function }) }
