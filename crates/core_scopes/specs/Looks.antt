-- The scopes of the code, as functions from names to variables.
use Rattle.std.specs.Prelude.{ℕ, List, map, Option, Some, None, String}
use Rattle.std.specs.Global.{Global}
use Rattle.std.specs.Borrow.{Bor}
use Rattle.indexmap.specs.IndexMap.{IndexMap, get_by_text}
use Rattle.sac_base.specs.declared.name.Name.{Name}
use Rattle.core_ir.specs.declared.tree.Var.{Var}
use Rattle.core_lowering.specs.steps.Looks.{Look, unbound}
use Rattle.core_scopes.specs.declared.scope.Scope.{Scope, Scope-F, fold-Scope}

-- the names that texts are
abbrev pub texts : List (Bor (List ℕ)) → List Name
texts ks = map (λ k. k.now) ks

abbrev pub own : {S : Type 0} → IndexMap (String Global) Var S → Look
own vars name = get_by_text vars name

abbrev pub or_else : Option Var → Option Var → Option Var
or_else None other = other
or_else (Some x) other = Some x

-- the inner scope's names hide the outer ones
abbrev pub over : Look → Look → Look
over inner outer name = or_else (inner name) (outer name)

abbrev pub outer_of : Option (Bor Look) → Look
outer_of None = unbound
outer_of (Some look) = look.now

abbrev pub scope_step : Scope-F Look → Look
scope_step s = over (own s.vars) (outer_of s.outer)

abbrev pub look : Scope → Look
look = fold-Scope Look scope_step
