-- The bases of notes as the table below keeps them.
use Rattle.std.proofs.Common.{◌≡◌, Bool, true, false, cond, eqb, List, [], ◌∷◌, Option, refl}
use Rattle.sac_base.specs.declared.base.Base.{Base}
use Rattle.core_ir.specs.declared.tree.Var.{Var}
use Rattle.fact_table.specs.scoped_table.Notes.{Note, noted}
use Rattle.reuse_candidates.specs.Tables.{base_noted, bases_of}

chosen : (same : Bool) (value rest : Option (Option Base)) (base : Option Base) → base_noted rest ≡ base → base_noted (cond same value rest) ≡ cond same (base_noted value) base
chosen true value rest base e = refl
chosen false value rest base e = e

-- the latest note of a variable is its base
pub found : (ns : List (Note (Option Base))) (x : Var) → base_noted (noted ns x) ≡ bases_of ns x
found [] x = refl
found (n ∷ ns) x = chosen (eqb n.variable.0 x.0) n.value (noted ns x) (bases_of ns x) (found ns x)
