-- Tables that have bases of the variables in scope.
use Rattle.std.proofs.Common.{◌≡◌, ℕ, ◌+◌, ◌<◌, ◌≤◌, ◌≢◌, Bool, true, false, cond, eqb, ◌&&◌, List, [], ◌∷◌, ◌++◌, map, length, get_or, Option, Some, None, All, refl, sym, ap, subst, ◌∙◌, arith}
use Rattle.std.specs.Prelude.{zip}
use Rattle.std.proofs.lemmas.Bool.{eqb-true, eq-eqb}
use Rattle.std.proofs.lemmas.List.{get_or_default, length-map}
use Rattle.std.proofs.lemmas.List.Elements.{All-nil, All-cons, All-head, All-tail, All-weaker}
use Rattle.sac_base.specs.declared.base.Base.{Base}
use Rattle.sac_base.specs.declared.base.Base.TheVariants.{Int, Bool as Truth}
use Rattle.sac_base.specs.declared.types.ArrayType.{ArrayType}
use Rattle.sac_base.specs.Arrays.{same_base}
use Rattle.core_ir.specs.declared.tree.Var.{Var}
use Rattle.core_ir.specs.WellFormed.{Bases, base_of, HasBases, AllHave, LiteralBase, ints}
use Rattle.core_ir.proofs.Variables.{same_number}
use Rattle.core_loops.specs.norm_steps.Step.{BaseTable as AllBases}
use Rattle.variable_bases.specs.declared.table.BaseTable.{BaseTable}
use Rattle.variable_bases.specs.Learned.{HasParams, Noted, Keeps, ScopeTold}
use Rattle.variable_bases.specs.Table.{base_in, Tells, IsTold, may_be, may_have}

-- ---- in scope

pub scope_one : (t : BaseTable) (g : Bases) (x : Var) (u : Base) → ScopeTold t g → IsTold t x → ScopeTold t ((x, u) ∷ g)
scope_one t g x u s h y v p = go (eqb x.0 y.0) refl
  where
    go : (b : Bool) → eqb x.0 y.0 ≡ b → IsTold t y
    go true q = subst (IsTold t) (same_number x y q) h
    go false q = s y v ((λ i. cond (sym q i) (Some u) (base_of g y)) ∙ p)

pub scope_zip : (t : BaseTable) (g : Bases) (xs : List Var) (us : List Base) → ScopeTold t g → All (IsTold t) xs → ScopeTold t (zip xs us ++ g)
scope_zip t g [] [] s h = s
scope_zip t g [] (u ∷ us) s h = s
scope_zip t g (x ∷ xs) [] s h = s
scope_zip t g (x ∷ xs) (u ∷ us) s h = scope_one t (zip xs us ++ g) x u (scope_zip t g xs us s (All-tail (IsTold t) x xs h)) (All-head (IsTold t) x xs h)

pub scope_ints : (t : BaseTable) (g : Bases) (xs : List Var) → ScopeTold t g → All (IsTold t) xs → ScopeTold t (ints xs ++ g)
scope_ints t g [] s h = s
scope_ints t g (x ∷ xs) s h = scope_one t (ints xs ++ g) x Int (scope_ints t g xs s (All-tail (IsTold t) x xs h)) (All-head (IsTold t) x xs h)

pub scope_kept : (t u : BaseTable) (g : Bases) → Keeps t u → ScopeTold t g → ScopeTold u g
scope_kept t u g k s x v p = k x (s x v p)

pub params_told : (ps : List (Var × ArrayType)) (t : BaseTable) → HasParams ps t → ScopeTold t (map (λ (p : Var × ArrayType). (p.0, p.1.base)) ps)
params_told ps t has x v p = (v, has x ∙ p)

pub have_told : (t : BaseTable) (g : Bases) (xs : List Var) (us : List Base) → ScopeTold t g → HasBases g xs us → All (IsTold t) xs
have_told t g [] us s h = All-nil (IsTold t)
have_told t g (x ∷ xs) [] s h = absurd h
have_told t g (x ∷ xs) (u ∷ us) s h = All-cons (IsTold t) x xs (s x u h.0) (have_told t g xs us s h.1)

pub elements_told : (t : BaseTable) (g : Bases) (xs : List Var) (u : Base) → ScopeTold t g → AllHave g xs u → All (IsTold t) xs
elements_told t g [] u s h = All-nil (IsTold t)
elements_told t g (x ∷ xs) u s h = All-cons (IsTold t) x xs (s x u h.0) (elements_told t g xs u s h.1)

-- ---- a table and a later one

pub all_kept : (t u : BaseTable) (xs : List Var) → Keeps t u → All (IsTold t) xs → All (IsTold u) xs
all_kept t u xs k h = All-weaker (IsTold t) (IsTold u) k xs h

pub noted_keeps : (x : Var) (v : Base) (t u : BaseTable) → Noted x v t u → Keeps t u
noted_keeps x v t u note y h = go (eqb x.0 y.0) refl
  where
    go : (b : Bool) → eqb x.0 y.0 ≡ b → IsTold u y
    go true q = (v, note y ∙ (λ i. cond (q i) (Some v) (base_in t y)))
    go false q = (h.0, note y ∙ (λ i. cond (q i) (Some v) (base_in t y)) ∙ h.1)

pub noted_told : (x : Var) (v : Base) (t u : BaseTable) → Noted x v t u → IsTold u x
noted_told x v t u note = (v, note x ∙ (λ i. cond (eq-eqb x.0 x.0 refl i) (Some v) (base_in t x)))

-- ---- the first variables of a list

abbrev pub FrontTold : List Var → ℕ → BaseTable → Type 0
FrontTold xs i t = (j : ℕ) (d : Var) → j < i → IsTold t (get_or xs j d)

pub front_more : (xs : List Var) (i : ℕ) (d : Var) (t u : BaseTable) → i < length xs → Keeps t u → IsTold u (get_or xs i d) → FrontTold xs i t → FrontTold xs (i + 1) u
front_more xs i d t u less keep one front j e low = go (eqb j i) refl
  where
    go : (b : Bool) → eqb j i ≡ b → IsTold u (get_or xs j e)
    go true q = subst (IsTold u) (sym (ap (λ k. get_or xs k e) (eqb-true j i q) ∙ get_or_default xs i e d less)) one
    go false q = keep (get_or xs j e) (front j e (let other : j ≢ i = λ same. absurd (let z : true ≡ false = sym (eq-eqb j i same) ∙ q in cc) in omega (arith, low, other)))

pub front_all : (xs : List Var) (i : ℕ) (t : BaseTable) → length xs ≤ i → FrontTold xs i t → All (IsTold t) xs
front_all xs i t over front j d less = front j d (omega (arith, over, less))

-- ---- operands that all have bases

pub same_lengths : (m : AllBases) (xs : List Var) (us : List Base) → map m xs ≡ us → length xs ≡ length us
same_lengths m xs us e = sym (length-map xs m) ∙ ap length e

and_left : (b c : Bool) → (b && c) ≡ true → b ≡ true
and_left true c h = refl
and_left false c h = absurd (let z : false ≡ true = h in cc)

and_right : (b c : Bool) → (b && c) ≡ true → c ≡ true
and_right true c h = h
and_right false c h = absurd (let z : false ≡ true = h in cc)

same_is : (v u : Base) → same_base v u ≡ true → u ≡ v
same_is Int Int h = refl
same_is Truth Truth h = refl
same_is Int Truth h = absurd (let z : false ≡ true = h in cc)
same_is Truth Int h = absurd (let z : false ≡ true = h in cc)

-- what the variables may have they have
pub exactly : (t : BaseTable) (m : AllBases) (xs : List Var) (us : List Base) → All (IsTold t) xs → Tells t m → may_have t xs us ≡ true → us ≡ map m xs
exactly t m [] [] told tells h = refl
exactly t m [] (u ∷ us) told tells h = absurd (let z : false ≡ true = h in cc)
exactly t m (x ∷ xs) [] told tells h = absurd (let z : false ≡ true = h in cc)
exactly t m (x ∷ xs) (u ∷ us) told tells h =
    let one = All-head (IsTold t) x xs told in
    let may : may_be (Some one.0) u ≡ true = ap (λ o. may_be o u) (sym one.1) ∙ and_left (may_be (base_in t x) u) (may_have t xs us) h in
    let head : u ≡ m x = same_is one.0 u may ∙ sym (tells x one.0 one.1) in
    let rest = exactly t m xs us (All-tail (IsTold t) x xs told) tells (and_right (may_be (base_in t x) u) (may_have t xs us) h) in
    λ i. head i ∷ rest i

-- the elements of a literal
pub literal_all_told : (t : BaseTable) (g : Bases) (xs : List Var) (u : Base) → ScopeTold t g → LiteralBase g xs u → All (IsTold t) xs
literal_all_told t g [] u s h = All-nil (IsTold t)
literal_all_told t g (x ∷ xs) u s h = elements_told t g (x ∷ xs) u s h

-- none of the first variables of a list has a base
abbrev pub NoneTold : List Var → ℕ → BaseTable → Type 0
NoneTold xs i t = (j : ℕ) (d : Var) → j < i → IsTold t (get_or xs j d) → ⊥

not_told : (t : BaseTable) (x : Var) → base_in t x ≡ None → IsTold t x → ⊥
not_told t x none h = let z : ◌≡◌ {A = Option Base} None (Some h.0) = sym none ∙ h.1 in cc

pub none_more : (xs : List Var) (i : ℕ) (e : Var) (t : BaseTable) → i < length xs → base_in t (get_or xs i e) ≡ None → NoneTold xs i t → NoneTold xs (i + 1) t
none_more xs i e t less none so_far j d low = go (eqb j i) refl
  where
    go : (b : Bool) → eqb j i ≡ b → IsTold t (get_or xs j d) → ⊥
    go true q h = not_told t (get_or xs i e) none (subst (IsTold t) (ap (λ k. get_or xs k d) (eqb-true j i q) ∙ get_or_default xs i d e less) h)
    go false q h = so_far j d (let other : j ≢ i = λ same. absurd (let z : true ≡ false = sym (eq-eqb j i same) ∙ q in cc) in omega (arith, low, other)) h

pub not_all : (xs : List Var) (i : ℕ) (t : BaseTable) (d : Var) → (length xs ≡ 0 → ⊥) → length xs ≤ i → NoneTold xs i t → All (IsTold t) xs → ⊥
not_all [] i t d some over none h = some refl
not_all (x ∷ xs) i t d some over none h = none 0 d (omega (arith, over)) (h 0 d (omega arith))
