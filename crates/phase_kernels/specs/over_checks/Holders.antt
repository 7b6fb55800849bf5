-- Which variable alone has a reference to a buffer.
use Rattle.std.specs.Prelude.{◌≡◌, ℕ, Bool, true, ◌||◌, not, eqb, List}
use Rattle.std.specs.List.{list_all}
use Rattle.core_ir.specs.declared.tree.Var.{Var}
use Rattle.core_ir.specs.Binders.{is_in}
use Rattle.counted_code.specs.Machine.{Values}
use Rattle.counted_code.specs.Values.{Value, Small, Ref}

-- the value is no reference to this buffer
abbrev pub is_elsewhere : ℕ → Value → Bool
is_elsewhere b (Small a) = true
is_elsewhere b (Ref c base shape) = not (eqb c b)

-- the variable is this one, or has no reference to the buffer
abbrev pub is_apart : ℕ → Var → Values → Var → Bool
is_apart b x e y = eqb y.0 x.0 || is_elsewhere b (e y)

-- the variable is one of these, and no other of them has a reference to the buffer
abbrev pub HoldsAlone : ℕ → Var → List Var → Values → Type 0
HoldsAlone b x xs e = (is_in x xs ≡ true) × (list_all (is_apart b x e) xs ≡ true)
