-- Bindings in the place of a call.
use Rattle.std.specs.Prelude.{◌≡◌, ℕ, List}
use Rattle.sac_base.specs.declared.site.Site.{Site}
use Rattle.core_ir.specs.declared.tree.Var.{Var}
use Rattle.core_ir.specs.Terms.{BlockTerm, LetTerm, FunTerm, chain}
use Rattle.core_forms.specs.inlining.Inlined.{inlined}

-- put before any block, they are the function's body in the place of the call, followed by that block
abbrev pub StandFor : ℕ → FunTerm → List Var → Site → List Var → List LetTerm → Type 0
StandFor by f ts s xs lets = (rest : BlockTerm) → chain lets rest ≡ inlined by f ts s xs rest
