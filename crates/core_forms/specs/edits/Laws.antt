-- The statements of the laws.
use Rattle.std.specs.Prelude.{◌≡◌, List, map}
use Rattle.sac_base.specs.declared.base.Base.{Base}
use Rattle.core_ir.specs.declared.tree.Var.{Var}
use Rattle.core_ir.specs.Binders.{NoneIn, bound_in}
use Rattle.core_ir.specs.Scopes.{Scoped}
use Rattle.core_ir.specs.Terms.{BlockTerm, CoreTerm}
use Rattle.core_ir.specs.WellFormed.{Bases, BlockBases, Distinct, calls_in}
use Rattle.core_subst.specs.copy.Mapped.{mapped}
use Rattle.core_forms.specs.edits.Within.{AreWithin, BasesWithin, KeepsApart, bases_mapped}

-- a block stays scoped where further variables are in scope that it does not bind
abbrev pub ScopesMayWiden : Type 0
ScopesMayWiden = (b : BlockTerm) (scope wider : List Var) → AreWithin scope wider → NoneIn (bound_in b) wider → Scoped scope b → Scoped wider b

-- the bases of a block agree where further variables have bases
abbrev pub BasesMayWiden : Type 0
BasesMayWiden =
    (core : CoreTerm) (b : BlockTerm) (g wider : Bases) (ts : List Base) → BasesWithin g wider → BlockBases core g b ts → BlockBases core wider b ts

-- a block with other variables is scoped below the others
abbrev pub ScopesMayBeMapped : Type 0
ScopesMayBeMapped = (f : Var → Var) → KeepsApart f → (b : BlockTerm) (scope : List Var) → Scoped scope b → Scoped (map f scope) (mapped f b)

-- the bases of a block with other variables agree where these have the bases
abbrev pub BasesMayBeMapped : Type 0
BasesMayBeMapped =
    (core : CoreTerm) (f : Var → Var) → KeepsApart f → (b : BlockTerm) (g : Bases) (ts : List Base) →
    BlockBases core g b ts → BlockBases core (bases_mapped f g) (mapped f b) ts

-- variables that stand once become variables that stand once
abbrev pub NamesMayBeMapped : Type 0
NamesMayBeMapped = (f : Var → Var) → KeepsApart f → (xs : List Var) → Distinct xs → Distinct (map f xs)

-- a block with other variables calls the same groups
abbrev pub CallsStay : Type 0
CallsStay = (f : Var → Var) (b : BlockTerm) → calls_in (mapped f b) ≡ calls_in b
