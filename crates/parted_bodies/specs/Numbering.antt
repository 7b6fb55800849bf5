-- Variables that stand for others in a copy.
use Rattle.std.specs.Prelude.{ℕ, suc, cond, eqb, List, [], ◌∷◌, unwrap_or}
use Rattle.std.specs.Ordering.{nat_cmp}
use Rattle.std.specs.BTreeMap.{get}
use Rattle.core_ir.specs.declared.tree.Var.{Var}
use Rattle.core_subst.specs.Names.{variable}
use Rattle.parted_bodies.specs.declared.names.Names.{Names}

-- the variable that stands for another by the map
abbrev pub named_in : Names → Var → Var
named_in names x = unwrap_or (get nat_cmp names.entries x.0) x

-- y stands for x, and for all others what stood before
abbrev pub named : (Var → Var) → Var → Var → Var → Var
named f x y z = cond (eqb x.0 z.0) y (f z)

-- the variables with the numbers from n on stand for these
abbrev pub numbered : (Var → Var) → List Var → ℕ → Var → Var
numbered f [] n = f
numbered f (x ∷ xs) n = numbered (named f x (variable n)) xs (suc n)
