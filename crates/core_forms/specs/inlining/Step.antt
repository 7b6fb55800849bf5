-- A core in which one call is replaced by the body of the function that it calls.
use Rattle.std.specs.Prelude.{◌≡◌, ℕ, true, List, [], ◌∷◌, Some, slice_get}
use Rattle.sac_base.specs.declared.site.Site.{Site}
use Rattle.core_ir.specs.declared.tree.Var.{Var}
use Rattle.core_ir.specs.Edits.{Edited, Ways}
use Rattle.core_ir.specs.Outcome.{group_at}
use Rattle.core_ir.specs.Terms.{BlockTerm, FunTerm, CoreTerm, Bind, Call}
use Rattle.core_facts.specs.calls.Replaced.{replaced_at}
use Rattle.core_forms.specs.inlining.Inlined.{CanInline, inlined}

-- nothing has to be known at the place
abbrev pub Nothing : Type 0
Nothing = Unit {0}

abbrev pub no_ways : Ways Nothing
no_ways = record { learn = λ k xs s r. k; hide = λ k xs. k; enter = λ k h. k }

-- the binding of a call, at the head of a block, becomes the body of the group's only instance
pub record InlinedHere (core : CoreTerm) (k : Nothing) (b c : BlockTerm) : Type 0 where
  pub group : ℕ
  pub place : ℕ
  pub function : FunTerm
  pub by : ℕ
  pub targets : List Var
  pub args : List Var
  pub site : Site
  pub rest : BlockTerm
  pub alone : group_at core group ≡ place ∷ []
  pub found : slice_get core.functions place ≡ Some function
  pub inlines : function.is_inline ≡ true
  pub can : CanInline by function targets args rest
  pub before : b ≡ Bind targets site (Call group args) rest
  pub after : c ≡ inlined by function targets site args rest

-- one call anywhere in one function
pub record InlineStep (a b : CoreTerm) : Type 0 where
  pub place : ℕ
  pub function : FunTerm
  pub body : BlockTerm
  pub found : slice_get a.functions place ≡ Some function
  pub edited : Edited Nothing no_ways (InlinedHere a) tt function.body body
  pub changed : b ≡ record a { functions = replaced_at a.functions place (record function { body = body }) }

-- such steps one after another
pub data InlineSteps : CoreTerm → CoreTerm → Type 0 where
  none : {a : CoreTerm} → InlineSteps a a
  step : {a b c : CoreTerm} → InlineStep a b → InlineSteps b c → InlineSteps a c
