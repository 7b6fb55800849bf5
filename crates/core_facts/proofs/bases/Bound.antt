-- Environments with more variables of known bases.
use Rattle.std.proofs.Common.{◌≡◌, Bool, true, false, cond, eqb, List, [], ◌∷◌, ◌++◌, map, length, Option, Some, None, refl, sym, ap, subst, ◌∙◌, arith, ℤ}
use Rattle.std.specs.Prelude.{zip}
use Rattle.std.proofs.lemmas.Bool.{eqb-true, eq-eqb}
use Rattle.sac_base.specs.declared.base.Base.{Base}
use Rattle.sac_base.specs.declared.base.Base.TheVariants.{Int}
use Rattle.sac_base.specs.Arrays.{ArrayValue, scalar, vector}
use Rattle.core_ir.specs.declared.tree.Var.{Var}
use Rattle.core_ir.specs.Binders.{is_in}
use Rattle.core_ir.specs.Meaning.{Env, missing, bind, bind_all}
use Rattle.core_ir.specs.WellFormed.{Bases, base_of, HasBases, ints, Distinct}
use Rattle.core_ir.proofs.Variables.{in_neither}
use Rattle.core_facts.specs.bases.Typed.{HaveBases, Typed}

abbrev base_or : Base → Option Base → Base
base_or t None = t
base_or t (Some u) = u

pub some_base : (t u : Base) → ◌≡◌ {A = Option Base} (Some t) (Some u) → t ≡ u
some_base t u p = ap (base_or t) p

pub distinct_left : (xs ys : List Var) → Distinct (xs ++ ys) → Distinct xs
distinct_left [] ys d = tt
distinct_left (x ∷ xs) ys d = ((in_neither x xs ys d.0).0, distinct_left xs ys d.1)

pub distinct_right : (xs ys : List Var) → Distinct (xs ++ ys) → Distinct ys
distinct_right [] ys d = d
distinct_right (x ∷ xs) ys d = distinct_right xs ys d.1

-- ---- one more variable, and several

pub typed_one : (g : Bases) (e : Env) (x : Var) (t : Base) (v : ArrayValue) → Typed g e → v.base ≡ t → Typed ((x, t) ∷ g) (bind e x v)
typed_one g e x t v h q = λ y u m. go y u (eqb x.0 y.0) m
  where
    go : (y : Var) (u : Base) (b : Bool) → cond b (Some t) (base_of g y) ≡ Some u → (cond b v (e y)).base ≡ u
    go y u true m = q ∙ some_base t u m
    go y u false m = h y u m

both : {b : Bool} {A : Type 0} → b ≡ true → b ≡ false → A
both p q = absurd (let z = sym p ∙ q in cc)

abbrev pub vars : Bases → List Var
vars ps = map (λ (p : Var × Base). p.0) ps

pub swap : (ps g : Bases) (p : Var × Base) (y : Var) → is_in p.0 (vars ps) ≡ false → base_of (p ∷ (ps ++ g)) y ≡ base_of (ps ++ (p ∷ g)) y
swap [] g p y n = refl
swap (q ∷ ps) g p y n =
    go (eqb p.0.0 y.0) (eqb q.0.0 y.0) refl refl
    ∙ (λ i. cond (eqb q.0.0 y.0) (Some q.1) (swap ps g p y (Rattle.core_ir.proofs.Variables.or_false (eqb q.0.0 p.0.0) _ n).1 i))
  where
    go : (a b : Bool) → eqb p.0.0 y.0 ≡ a → eqb q.0.0 y.0 ≡ b → cond a (Some p.1) (cond b (Some q.1) (base_of (ps ++ g) y)) ≡ cond b (Some q.1) (cond a (Some p.1) (base_of (ps ++ g) y))
    go true true k l = both {b = eqb q.0.0 p.0.0} (eq-eqb q.0.0 p.0.0 (eqb-true q.0.0 y.0 l ∙ sym (eqb-true p.0.0 y.0 k))) (Rattle.core_ir.proofs.Variables.or_false (eqb q.0.0 p.0.0) _ n).0
    go true false k l = refl
    go false true k l = refl
    go false false k l = refl

-- the values have these bases; what is not there is a number
abbrev pub BoundBases : Bases → List ArrayValue → Type 0
BoundBases [] vs = Unit {0}
BoundBases (p ∷ ps) [] = (Int ≡ p.1) × BoundBases ps []
BoundBases (p ∷ ps) (v ∷ vs) = (v.base ≡ p.1) × BoundBases ps vs

pub bound : (ps g : Bases) (e : Env) (vs : List ArrayValue) → Typed g e → Distinct (vars ps) → BoundBases ps vs → Typed (ps ++ g) (bind_all e (vars ps) vs)
bound [] g e vs h d b = h
bound (p ∷ ps) g e [] h d b = λ y u m. bound ps (p ∷ g) (bind e p.0 missing) [] (typed_one g e p.0 p.1 missing h b.0) d.1 b.1 y u (sym (swap ps g p y d.0) ∙ m)
bound (p ∷ ps) g e (v ∷ vs) h d b = λ y u m. bound ps (p ∷ g) (bind e p.0 v) vs (typed_one g e p.0 p.1 v h b.0) d.1 b.1 y u (sym (swap ps g p y d.0) ∙ m)

pub firsts : (xs : List Var) (ts : List Base) → length xs ≡ length ts → vars (zip xs ts) ≡ xs
firsts [] ts l = refl
firsts (x ∷ xs) [] l = absurd (omega (arith, l))
firsts (x ∷ xs) (t ∷ ts) l = λ i. x ∷ firsts xs ts (omega (arith, l)) i

zipped : (xs : List Var) (ts : List Base) (vs : List ArrayValue) → HaveBases ts vs → BoundBases (zip xs ts) vs
zipped [] ts vs h = tt
zipped (x ∷ xs) [] vs h = tt
zipped (x ∷ xs) (t ∷ ts) [] h = absurd h
zipped (x ∷ xs) (t ∷ ts) (v ∷ vs) h = (h.0, zipped xs ts vs h.1)

pub bound_zip : (g : Bases) (e : Env) (xs : List Var) (ts : List Base) (vs : List ArrayValue) → Typed g e → Distinct xs → length xs ≡ length ts → HaveBases ts vs → Typed (zip xs ts ++ g) (bind_all e xs vs)
bound_zip g e xs ts vs h d l b =
    subst (λ ys. Typed (zip xs ts ++ g) (bind_all e ys vs)) (firsts xs ts l) (bound (zip xs ts) g e vs h (subst Distinct (sym (firsts xs ts l)) d) (zipped xs ts vs b))

pub int_vars : (xs : List Var) → vars (ints xs) ≡ xs
int_vars [] = refl
int_vars (x ∷ xs) = λ i. x ∷ int_vars xs i

scalar_bases : (xs : List Var) (zs : List ℤ) → BoundBases (ints xs) (map (scalar Int) zs)
scalar_bases [] zs = tt
scalar_bases (x ∷ xs) [] = (refl, scalar_bases xs [])
scalar_bases (x ∷ xs) (z ∷ zs) = (refl, scalar_bases xs zs)

-- an index and its components under names
pub bound_index : (g : Bases) (e : Env) (x : Var) (xs : List Var) (index : List ℤ) → Typed g e → Distinct (x ∷ xs) → Typed (ints (x ∷ xs) ++ g) (bind_all e (x ∷ xs) (vector Int index ∷ map (scalar Int) index))
bound_index g e x xs index h d =
    subst (λ ys. Typed (ints (x ∷ xs) ++ g) (bind_all e ys (vector Int index ∷ map (scalar Int) index))) (int_vars (x ∷ xs))
    (bound (ints (x ∷ xs)) g e (vector Int index ∷ map (scalar Int) index) h (subst Distinct (sym (int_vars (x ∷ xs))) d) (refl, scalar_bases xs index))

pub values_typed : (g : Bases) (e : Env) (xs : List Var) (ts : List Base) → Typed g e → HasBases g xs ts → HaveBases ts (map e xs)
values_typed g e [] [] h b = tt
values_typed g e [] (t ∷ ts) h b = absurd b
values_typed g e (x ∷ xs) [] h b = absurd b
values_typed g e (x ∷ xs) (t ∷ ts) h b = (h x t b.0, values_typed g e xs ts h b.1)
