-- Facts whose literal values may stand as constants.
use Rattle.std.proofs.Common.{◌≡◌, Bool, true, false, cond, eqb, List, [], ◌∷◌, ◌++◌, map, length, Some, refl, sym, subst, ◌∙◌, arith}
use Rattle.std.specs.Prelude.{zip}
use Rattle.sac_base.specs.declared.base.Base.{Base}
use Rattle.sac_base.specs.Arrays.{ArrayValue, IsArray, IsWellTyped}
use Rattle.core_ir.specs.declared.tree.Var.{Var}
use Rattle.core_ir.specs.WellFormed.{Bases, base_of, ints, Distinct}
use Rattle.core_facts.specs.Facts.{Fact, Facts, unknown, note, note_all}
use Rattle.core_facts.proofs.Literals.{no_value}
use Rattle.core_facts.proofs.bases.Bound.{vars, some_base, swap, firsts, int_vars}

-- the array may be a constant
abbrev pub MayStand : ArrayValue → Type 0
MayStand a = IsArray a × IsWellTyped a

-- the literal value, where there is one, may be a constant of this base
abbrev pub IsFormed : Fact → Base → Type 0
IsFormed f t = (v : ArrayValue) → f.literal ≡ Some v → MayStand v × (v.base ≡ t)

abbrev pub AreFormed : List Fact → List Base → Type 0
AreFormed [] ts = Unit {0}
AreFormed (f ∷ fs) [] = Unit {0}
AreFormed (f ∷ fs) (t ∷ ts) = IsFormed f t × AreFormed fs ts

-- each literal value may be a constant, and has the base of its variable
abbrev pub Formed : Bases → Facts → Type 0
Formed g k = (x : Var) (v : ArrayValue) → (k x).literal ≡ Some v → MayStand v × ((t : Base) → base_of g x ≡ Some t → v.base ≡ t)

pub unknown_formed : (t : Base) → IsFormed unknown t
unknown_formed t v p = absurd (no_value v p)

pub formed_one : (g : Bases) (k : Facts) (x : Var) (t : Base) (f : Fact) → Formed g k → IsFormed f t → Formed ((x, t) ∷ g) (note k x f)
formed_one g k x t f h q = λ y v. go y v (eqb x.0 y.0)
  where
    go : (y : Var) (v : ArrayValue) (b : Bool) → (cond b f (k y)).literal ≡ Some v → MayStand v × ((u : Base) → cond b (Some t) (base_of g y) ≡ Some u → v.base ≡ u)
    go y v true p = let w = q v p in (w.0, λ u m. w.1 ∙ some_base t u m)
    go y v false p = h y v p

-- the same bases in another order
same_formed : (g h : Bases) (k : Facts) → ((y : Var) → base_of g y ≡ base_of h y) → Formed h k → Formed g k
same_formed g h k same f = λ x v p. let w = f x v p in (w.0, λ t m. w.1 t (sym (same x) ∙ m))

pub formed_front : (ps g : Bases) (k : Facts) (fs : List Fact) → Formed g k → Distinct (vars ps) → AreFormed fs (map (λ (p : Var × Base). p.1) ps) → Formed (ps ++ g) (note_all k (vars ps) fs)
formed_front [] g k fs h d a = h
formed_front (p ∷ ps) g k [] h d a =
    same_formed (p ∷ (ps ++ g)) (ps ++ (p ∷ g)) (note_all (note k p.0 unknown) (vars ps) []) (λ y. swap ps g p y d.0)
    (formed_front ps (p ∷ g) (note k p.0 unknown) [] (formed_one g k p.0 p.1 unknown h (unknown_formed p.1)) d.1 tt)
formed_front (p ∷ ps) g k (f ∷ fs) h d a =
    same_formed (p ∷ (ps ++ g)) (ps ++ (p ∷ g)) (note_all (note k p.0 f) (vars ps) fs) (λ y. swap ps g p y d.0)
    (formed_front ps (p ∷ g) (note k p.0 f) fs (formed_one g k p.0 p.1 f h a.0) d.1 a.1)

seconds : (xs : List Var) (ts : List Base) → length xs ≡ length ts → map (λ (p : Var × Base). p.1) (zip xs ts) ≡ ts
seconds [] [] l = refl
seconds [] (t ∷ ts) l = absurd (omega (arith, l))
seconds (x ∷ xs) [] l = absurd (omega (arith, l))
seconds (x ∷ xs) (t ∷ ts) l = λ i. t ∷ seconds xs ts (omega (arith, l)) i

-- the targets of a binding
pub formed_all : (g : Bases) (k : Facts) (xs : List Var) (ts : List Base) (fs : List Fact) → Formed g k → Distinct xs → length xs ≡ length ts → AreFormed fs ts → Formed (zip xs ts ++ g) (note_all k xs fs)
formed_all g k xs ts fs h d l a =
    let same = firsts xs ts l in
    subst (λ ys. Formed (zip xs ts ++ g) (note_all k ys fs)) same
    (formed_front (zip xs ts) g k fs h (subst Distinct (sym same) d) (subst (AreFormed fs) (sym (seconds xs ts l)) a))

-- an index and its components
pub formed_ints : (g : Bases) (k : Facts) (xs : List Var) → Formed g k → Distinct xs → Formed (ints xs ++ g) (note_all k xs [])
formed_ints g k xs h d =
    subst (λ ys. Formed (ints xs ++ g) (note_all k ys [])) (int_vars xs) (formed_front (ints xs) g k [] h (subst Distinct (sym (int_vars xs)) d) tt)
