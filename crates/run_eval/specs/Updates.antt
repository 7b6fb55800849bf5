-- Steps behind a replacement.
use Rattle.std.specs.Prelude.{◌≡◌, ℕ, zero, suc, false, eqb, List, [], ◌∷◌, ⊤}
use Rattle.core_ir.specs.declared.tree.Var.{Var}
use Rattle.counted_code.specs.declared.tree.CodeLet.{CodeLet}
use Rattle.counted_code.specs.declared.tree.CodeStep.{CodeStep}
use Rattle.counted_code.specs.declared.tree.CodeStep.TheVariants as step
use Rattle.counted_code.specs.Machine.{Values}
use Rattle.counted_code.specs.Values.{Value, Small, Ref}

-- a value that holds its array itself
abbrev pub IsSmall : Value → Type 0
IsSmall (Small a) = ⊤
IsSmall (Ref place base shape) = ⊥

-- the binding has one target, which is not x
abbrev pub OnlyTarget : CodeLet → Var → Var → Type 0
OnlyTarget b x y = (b.targets.items ≡ y ∷ []) × (eqb y.0 x.0 ≡ false)

-- the step at a place releases x, and those before it release other variables than y, which hold their arrays themselves
abbrev pub ReleasesAt : Values → Var → Var → List CodeStep → ℕ → Type 0
ReleasesAt e y x [] k = ⊥
ReleasesAt e y x (step.Bind' targets site r ∷ steps) k = ⊥
ReleasesAt e y x (step.Keep z ∷ steps) k = ⊥
ReleasesAt e y x (step.Release z ∷ steps) zero = z ≡ x
ReleasesAt e y x (step.Release z ∷ steps) (suc k) = (eqb y.0 z.0 ≡ false) × IsSmall (e z) × ReleasesAt e y x steps k
