-- A core with other bodies.
use Rattle.std.specs.Prelude.{map}
use Rattle.core_ir.specs.Terms.{BlockTerm, FunTerm, CoreTerm}

-- the core in which each function has another body
abbrev pub with_bodies : (FunTerm → BlockTerm) → CoreTerm → CoreTerm
with_bodies change core = record core { functions = map (λ (f : FunTerm). record f { body = change f }) core.functions }
