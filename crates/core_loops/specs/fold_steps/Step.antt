-- A fold step of a whole core.
use Rattle.std.specs.Prelude.{◌≡◌, ℕ, zero, suc, List, [], ◌∷◌, Some, slice_get}
use Rattle.sac_base.specs.declared.base.Base.{Base}
use Rattle.core_ir.specs.declared.tree.Var.{Var}
use Rattle.core_ir.specs.Binders.{bound_in}
use Rattle.core_ir.specs.Edits.{Edited}
use Rattle.core_ir.specs.Meaning.{Env, CallMeaning, run}
use Rattle.core_ir.specs.Scopes.{Scoped}
use Rattle.core_ir.specs.Terms.{BlockTerm, FunTerm, CoreTerm}
use Rattle.core_ir.specs.WellFormed.{Bases, BlockBases, Distinct}
use Rattle.core_facts.specs.Facts.{Facts, AreSound}
use Rattle.core_facts.specs.Full.{FullInside}
use Rattle.core_facts.specs.bases.Typed.{Typed}
use Rattle.core_facts.specs.constants.Called.{called, params_facts}
use Rattle.core_loops.specs.Steps.{fact_ways, FoldsHere}
use Rattle.core_facts.specs.calls.Replaced.{replaced_at}

-- blocks that mean the same in each environment with these facts, and with bases and a scope in which the first is well formed
abbrev pub SameAt : CoreTerm → CallMeaning → ℕ → Facts → BlockTerm → BlockTerm → Type 0
SameAt core calls turns k b c =
    (scope : List Var) (g : Bases) (ts : List Base)
    (e : Env) → BlockBases core g b ts → Distinct (bound_in b) → Scoped scope b → FullInside calls turns b → Typed g e → AreSound k e →
    run calls turns b e ≡ run calls turns c e

-- one function is changed at one place, where a producer is folded into a consumer; `above` is one more than the greatest number of a variable of a
-- function
pub record FoldStep (above : FunTerm → ℕ) (a b : CoreTerm) : Type 0 where
  pub place : ℕ
  pub function : FunTerm
  pub body : BlockTerm
  pub found : slice_get a.functions place ≡ Some function
  pub edited : Edited Facts (fact_ways (called a)) (FoldsHere (called a) (above function)) (params_facts function) function.body body
  pub changed : b ≡ record a { functions = replaced_at a.functions place (record function { body = body }) }
