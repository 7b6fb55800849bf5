-- Bases below a number, and tables that have the bases in scope.
use Rattle.std.proofs.Common.{◌≡◌, ℕ, ◌≤◌, false, cond, eqb, List, [], ◌∷◌, ◌++◌, Some, None, refl, ◌∙◌}
use Rattle.std.specs.Prelude.{zip}
use Rattle.sac_base.specs.declared.base.Base.{Base}
use Rattle.sac_base.specs.declared.base.Base.TheVariants.{Int}
use Rattle.core_ir.specs.declared.tree.Var.{Var}
use Rattle.core_ir.specs.Binders.{is_in}
use Rattle.core_ir.specs.WellFormed.{Bases, base_of, ints}
use Rattle.core_ir.proofs.Variables.{or_false}
use Rattle.core_forms.proofs.inlined_bodies.Names.{Fresh}

-- ---- bases below a number

-- no number from the bound on has a base
abbrev pub Low : Bases → ℕ → Type 0
Low g a = (y : Var) → a ≤ y.0 → base_of g y ≡ None

pub zip_keeps : (xs : List Var) (us : List Base) (g : Bases) (y : Var) → is_in y xs ≡ false → base_of (zip xs us ++ g) y ≡ base_of g y
zip_keeps [] us g y h = refl
zip_keeps (x ∷ xs) [] g y h = refl
zip_keeps (x ∷ xs) (u ∷ us) g y h =
    let w = or_false (eqb x.0 y.0) (is_in y xs) h in
    (λ i. cond (w.0 i) (Some u) (base_of (zip xs us ++ g) y)) ∙ zip_keeps xs us g y w.1

ints_keep : (xs : List Var) (g : Bases) (y : Var) → is_in y xs ≡ false → base_of (ints xs ++ g) y ≡ base_of g y
ints_keep [] g y h = refl
ints_keep (x ∷ xs) g y h = let w = or_false (eqb x.0 y.0) (is_in y xs) h in (λ i. cond (w.0 i) (Some Int) (base_of (ints xs ++ g) y)) ∙ ints_keep xs g y w.1

pub low_zip : (xs : List Var) (us : List Base) (g : Bases) (a : ℕ) → Fresh xs a → Low g a → Low (zip xs us ++ g) a
low_zip xs us g a f l y k = zip_keeps xs us g y (f y k) ∙ l y k

pub low_ints : (xs : List Var) (g : Bases) (a : ℕ) → Fresh xs a → Low g a → Low (ints xs ++ g) a
low_ints xs g a f l y k = ints_keep xs g y (f y k) ∙ l y k

-- ---- tables
