-- A literal variable has its value in each run, and its right side does not fault.
use Rattle.std.proofs.Common.{◌≡◌, ℕ, Bool, true, false, ◌&&◌, List, [], ◌∷◌, map, Option, Some, None, Result, Ok, Err, refl, sym, ap, ◌∙◌, pos}
use Rattle.std.specs.Prelude.{if◌then◌else◌, unwrap_or}
use Rattle.sac_base.specs.declared.base.Base.TheVariants.{Int}
use Rattle.sac_base.specs.declared.faults.FaultKind.{FaultKind}
use Rattle.sac_base.specs.Arrays.{ArrayValue, vector}
use Rattle.sac_base.specs.Parts.{literal, shape_vector}
use Rattle.core_ir.specs.declared.tree.Var.{Var}
use Rattle.core_ir.specs.Terms.{PlainTerm}
use Rattle.core_ir.specs.Meaning.{Env, missing, plain_value}
use Rattle.core_facts.specs.Facts.{Facts, ShapeIs, ValueIs, AreSound, values, is_some, are_literal, are_scalars, is_small_shape, small, found, when, is_shape, shape_value, plain_literal}
use Rattle.core_facts.proofs.Shapes.{ok_same}

abbrev value_or : ArrayValue → Option ArrayValue → ArrayValue
value_or a None = a
value_or a (Some b) = b

pub some_same : (a b : ArrayValue) → ◌≡◌ {A = Option ArrayValue} (Some a) (Some b) → a ≡ b
some_same a b p = ap (value_or a) p

pub no_value : (v : ArrayValue) → ◌≡◌ {A = Option ArrayValue} None (Some v) → ⊥
no_value v p = cc

pub both_true : (b c : Bool) → (b && c) ≡ true → (b ≡ true) × (c ≡ true)
both_true true c h = (refl, h)
both_true false c h = absurd (cc)

pub whenever : (b : Bool) (m : Option ArrayValue) (v : ArrayValue) → when b m ≡ Some v → (b ≡ true) × (m ≡ Some v)
whenever true m v p = (refl, p)
whenever false m v p = absurd (no_value v p)

small_ok : (r : Result ArrayValue FaultKind) (v : ArrayValue) → small r ≡ Some v → r ≡ Ok v
small_ok (Err kind) v p = absurd (no_value v p)
small_ok (Ok a) v p = go (is_small_shape a.shape) p
  where
    go : (b : Bool) → (if b then Some a else None) ≡ Some v → ◌≡◌ {A = Result ArrayValue FaultKind} (Ok a) (Ok v)
    go true q = λ i. Ok (some_same a v q i)
    go false q = absurd (no_value v q)

found_ok : (r : Result ArrayValue FaultKind) (v : ArrayValue) → found r ≡ Some v → r ≡ Ok v
found_ok (Err kind) v p = absurd (no_value v p)
found_ok (Ok a) v p = λ i. Ok (some_same a v p i)

literal_is : (o : Option ArrayValue) (a : ArrayValue) → ValueIs o a → is_some o ≡ true → a ≡ unwrap_or o missing
literal_is None a h p = absurd (cc)
literal_is (Some v) a h p = h

one_literal : (k : Facts) (e : Env) (x : Var) (rest : Bool) → AreSound k e → (is_some (k x).literal && rest) ≡ true → e x ≡ values k x
one_literal k e x rest h p = literal_is (k x).literal (e x) (h x).literal (both_true (is_some (k x).literal) rest p).0

all_literal : (k : Facts) (e : Env) (xs : List Var) → AreSound k e → are_literal k xs ≡ true → map e xs ≡ map (values k) xs
all_literal k e [] h p = refl
all_literal k e (x ∷ xs) h p = λ i. one_literal k e x (are_literal k xs) h p i ∷ all_literal k e xs h (both_true (is_some (k x).literal) (are_literal k xs) p).1 i

value_known : (o : Option ArrayValue) (a v : ArrayValue) → ValueIs o a → o ≡ Some v → a ≡ v
value_known None a v h p = absurd (no_value v p)
value_known (Some u) a v h p = h ∙ some_same u v p

by_shape : (o : Option (List ℕ)) (a v : ArrayValue) → ShapeIs o a → shape_value o ≡ Some v → shape_vector a ≡ v
by_shape None a v h p = absurd (no_value v p)
by_shape (Some s) a v h p = go (is_shape s) p
  where
    go : (b : Bool) → (if b then Some (vector Int (map (λ n. pos n) s)) else None) ≡ Some v → shape_vector a ≡ v
    go true q = (λ i. vector Int (map (λ n. pos n) (h i))) ∙ some_same _ v q
    go false q = absurd (no_value v q)

pub literal_sound : (p : PlainTerm) (k : Facts) (e : Env) (v : ArrayValue) → AreSound k e → plain_literal p k ≡ Some v → plain_value p e ≡ Ok v
literal_sound (PlainTerm.Const a) k e v h p = λ i. Ok (some_same a v p i)
literal_sound (PlainTerm.Copy x) k e v h p = λ i. Ok (value_known (k x).literal (e x) v (h x).literal p i)
literal_sound (PlainTerm.Unary o x) k e v h p =
    let w = whenever _ (small (plain_value (PlainTerm.Unary o x) (values k))) v p in
    let q = one_literal k e x true h (both_true _ _ w.0).1 in
    (λ i. plain_value (PlainTerm.Unary o x) (λ y. q i)) ∙ small_ok _ v w.1
literal_sound (PlainTerm.Binary o x y) k e v h p =
    let w = whenever _ (small (plain_value (PlainTerm.Binary o x y) (values k))) v p in
    let l = (both_true _ _ w.0).1 in
    let q = one_literal k e x (is_some (k y).literal && true) h l in
    let r = one_literal k e y true h (both_true (is_some (k x).literal) _ l).1 in
    (λ i. Rattle.sac_base.specs.Operators.binary o (q i) (r i)) ∙ small_ok _ v w.1
literal_sound (PlainTerm.Literal xs) k e v h p =
    let w = whenever _ (small (plain_value (PlainTerm.Literal xs) (values k))) v p in
    (λ i. literal (all_literal k e xs h (both_true (are_literal k xs) (are_scalars k xs) w.0).0 i)) ∙ small_ok _ v w.1
literal_sound (PlainTerm.Dim x) k e v h p = absurd (no_value v p)
literal_sound (PlainTerm.ShapeOf x) k e v h p = λ i. Ok (by_shape (k x).shape (e x) v (h x).shape p i)
literal_sound (PlainTerm.Reshape x y) k e v h p = absurd (no_value v p)
literal_sound (PlainTerm.Select x y) k e v h p = absurd (no_value v p)
literal_sound (PlainTerm.Replace x y z) k e v h p = absurd (no_value v p)
literal_sound (PlainTerm.Always kind) k e v h p = absurd (no_value v p)
literal_sound (PlainTerm.Check x ty) k e v h p =
    let w = whenever _ (found (plain_value (PlainTerm.Check x ty) (values k))) v p in
    let q = one_literal k e x true h w.0 in
    (λ i. Rattle.core_ir.specs.Meaning.checked ty (q i)) ∙ found_ok _ v w.1

-- the value of a right side is the literal one, where there is one
pub value_sound : (p : PlainTerm) (k : Facts) (e : Env) (v : ArrayValue) → AreSound k e → plain_value p e ≡ Ok v → ValueIs (plain_literal p k) v
value_sound p k e v h q = go (plain_literal p k) (λ u r. literal_sound p k e u h r)
  where
    go : (o : Option ArrayValue) → ((u : ArrayValue) → o ≡ Some u → plain_value p e ≡ Ok u) → ValueIs o v
    go None r = tt
    go (Some u) r = ok_same v u (sym q ∙ r u refl)
