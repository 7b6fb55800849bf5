-- Shapes of the values of right sides without blocks and calls.
use Rattle.std.proofs.Common.{◌≡◌, ℕ, suc, Bool, true, false, ◌&&◌, List, [], ◌∷◌, map, length, drop, Option, Some, None, Result, Ok, Err, refl, sym, ap, subst, ◌∙◌, arith, ltb, ℤ, pos, negsuc}
use Rattle.std.specs.Prelude.{if◌then◌else◌, nat_le, nat_lt}
use Rattle.std.proofs.lemmas.List.{length-map}
use Rattle.std.proofs.lemmas.Slice.Eq.{bytes_eq-Decides}
use Rattle.sac_base.specs.declared.faults.FaultKind.{FaultKind}
use Rattle.sac_base.specs.declared.faults.FaultKind.TheVariants.{F1, F2, F3, F4, F6, F7, F8}
use Rattle.sac_base.specs.declared.op.Op.{Op}
use Rattle.sac_base.specs.declared.op.ZeroDivisor.{ZeroDivisor}
use Rattle.sac_base.specs.declared.types.ArrayType.{ArrayType}
use Rattle.sac_base.specs.declared.types.Part.{Part as TypePart}
use Rattle.sac_base.specs.declared.types.Part.TheVariants as part
use Rattle.sac_base.specs.Arrays.{ArrayValue, IsFull, size, same_shape, same_base}
use Rattle.sac_base.specs.Operators.{binary, unary, in_shape, with_cells, common_shape}
use Rattle.sac_base.specs.Parts.{check, literal, numbers_of, Part, further, part_at, part_at_index, selected, select, replaced, reshaped, reshape, vector_of, shape_of_numbers, dim, shape_vector}
use Rattle.sac_base.specs.Types.{has, has_shape}
use Rattle.core_ir.specs.declared.tree.Var.{Var}
use Rattle.core_ir.specs.Terms.{PlainTerm}
use Rattle.core_ir.specs.Meaning.{Env, plain_value, checked}
use Rattle.core_facts.specs.Facts.{Facts, ShapeIs, ValueIs, AreSound, both_shapes, one_shape, shared_shape, row_of, row_shape, shape_literal, index_count, rest_of, selected_shape, type_shape, rank_of, is_scalar_of, plain_shape}

abbrev or_else : {A E : Type 0} → A → Result A E → A
or_else a (Ok b) = b
or_else a (Err e) = a

pub ok_same : {A E : Type 0} (a b : A) → ◌≡◌ {A = Result A E} (Ok a) (Ok b) → a ≡ b
ok_same a b p = ap (or_else a) p

pub no_ok : {A E : Type 0} (e : E) (b : A) → ◌≡◌ {A = Result A E} (Err e) (Ok b) → ⊥
no_ok e b p = cc

pub shape_like : (o : Option (List ℕ)) (a b : ArrayValue) → b.shape ≡ a.shape → ShapeIs o a → ShapeIs o b
shape_like None a b p h = tt
shape_like (Some s) a b p h = p ∙ h

with_cells_ok : (o : Op) (s : List ℕ) (r : Result (List ℤ) ZeroDivisor) (v : ArrayValue) → with_cells o s r ≡ Ok v → v.shape ≡ s
with_cells_ok o s (Err z) v p = absurd (no_ok F2 v p)
with_cells_ok o s (Ok cells) v p = sym (ap (λ (a : ArrayValue). a.shape) (ok_same _ v p))

in_shape_ok : (o : Op) (m : Option (List ℕ)) (a b v : ArrayValue) → in_shape o m a b ≡ Ok v → ShapeIs m v
in_shape_ok o None a b v p = absurd (no_ok F3 v p)
in_shape_ok o (Some s) a b v p = with_cells_ok o s _ v p

pub both : (s t : Option (List ℕ)) (o : Op) (a b v : ArrayValue) → binary o a b ≡ Ok v → ShapeIs s a → ShapeIs t b → ShapeIs (both_shapes s t) v
both None t o a b v p h k = tt
both (Some s) None o a b v p h k = tt
both (Some s) (Some t) o a b v p h k = subst (λ m. ShapeIs m v) (λ i. common_shape (h i) (k i)) (in_shape_ok o (common_shape a.shape b.shape) a b v p)

pub one_left : (s t : Option (List ℕ)) (a : ArrayValue) → ShapeIs s a → ShapeIs (one_shape s t) a
one_left None t a h = tt
one_left (Some s) None a h = tt
one_left (Some s) (Some t) a h = go (same_shape s t)
  where
    go : (b : Bool) → ShapeIs (if b then Some s else None) a
    go true = h
    go false = tt

pub one_right : (s t : Option (List ℕ)) (a : ArrayValue) → ShapeIs t a → ShapeIs (one_shape s t) a
one_right None t a h = tt
one_right (Some s) None a h = tt
one_right (Some s) (Some t) a h = go (same_shape s t) refl
  where
    go : (b : Bool) → same_shape s t ≡ b → ShapeIs (if b then Some s else None) a
    go true e = h ∙ sym ((bytes_eq-Decides s t).0 e)
    go false e = tt

shared : (first : Option (List ℕ)) (rest : List (Option (List ℕ))) (a : ArrayValue) → ShapeIs first a → ShapeIs (shared_shape first rest) a
shared first [] a h = h
shared first (s ∷ rest) a h = shared (one_shape first s) rest a (one_left first s a h)

row : (n : ℕ) (m : Option (List ℕ)) (a b : ArrayValue) → ShapeIs m a → b.shape ≡ n ∷ a.shape → ShapeIs (row_of n m) b
row n None a b h p = tt
row n (Some s) a b h p = go (nat_lt n 2147483648 && nat_le (length (n ∷ s)) 8)
  where
    go : (fits : Bool) → ShapeIs (if fits then Some (n ∷ s) else None) b
    go true = p ∙ (λ i. n ∷ h i)
    go false = tt

pub check_ok : (b : Bool) (kind : FaultKind) (next : Result ArrayValue FaultKind) (v : ArrayValue) → check b kind next ≡ Ok v → (b ≡ true) × (next ≡ Ok v)
check_ok true kind next v p = (refl, p)
check_ok false kind next v p = absurd (no_ok kind v p)

literal_ok : (a : ArrayValue) (rest : List ArrayValue) (v : ArrayValue) → literal (a ∷ rest) ≡ Ok v → v.shape ≡ length (a ∷ rest) ∷ a.shape
literal_ok a rest v p =
    let q = (check_ok _ F3 _ v p).1 in
    let r = (check_ok _ F4 _ v q).1 in
    sym (ap (λ (b : ArrayValue). b.shape) (ok_same _ v (check_ok _ F8 _ v r).1))

rows : (k : Facts) (e : Env) (xs : List Var) (v : ArrayValue) → AreSound k e → literal (map e xs) ≡ Ok v → ShapeIs (row_shape (map (λ x. (k x).shape) xs)) v
rows k e [] v h p = sym (ap (λ (b : ArrayValue). b.shape) (ok_same _ v p))
rows k e (x ∷ xs) v h p =
    row _ (shared_shape (k x).shape (map (λ y. (k y).shape) xs)) (e x) v (shared (k x).shape (map (λ y. (k y).shape) xs) (e x) (h x).shape)
    (literal_ok (e x) (map e xs) v p ∙ (λ i. suc ((length-map xs e ∙ sym (length-map xs (λ y. (k y).shape))) i) ∷ (e x).shape))

reshaped_ok : (m : Option (List ℕ)) (a v : ArrayValue) → reshaped m a ≡ Ok v → ShapeIs m v
reshaped_ok None a v p = absurd (no_ok F4 v p)
reshaped_ok (Some s) a v p = sym (ap (λ (b : ArrayValue). b.shape) (ok_same _ v (check_ok _ F3 _ v p).1))

by_literal : (m : Option ArrayValue) (s a v : ArrayValue) → ValueIs m s → reshape s a ≡ Ok v → ShapeIs (shape_literal m) v
by_literal None s a v h p = tt
by_literal (Some l) s a v h p = subst (λ (t : ArrayValue). ShapeIs (shape_of_numbers (vector_of t)) v) h (reshaped_ok (shape_of_numbers (vector_of s)) a v p)

abbrev some_shape : Part → Option Part → Part
some_shape p None = p
some_shape p (Some q) = q

no_some : (p : Part) → ◌≡◌ {A = Option Part} None (Some p) → ⊥
no_some p e = cc

-- a part has the shape that the index leaves
pub part_shape : (ns : List ℕ) (is : List ℤ) (p : Part) → part_at ns is ≡ Some p → p.shape ≡ drop (length is) ns
part_shape ns [] p h = sym (ap (λ q. (some_shape p q).shape) h)
part_shape [] (i ∷ is) p h = absurd (no_some p h)
part_shape (n ∷ ns) (negsuc i ∷ is) p h = absurd (no_some p h)
part_shape (n ∷ ns) (pos i ∷ is) p h = go (ltb i n) (part_at ns is) (λ q e. part_shape ns is q e) h
  where
    go : (b : Bool) (q : Option Part) → ((r : Part) → q ≡ Some r → r.shape ≡ drop (length is) ns) → (if b then further i ns q else None) ≡ Some p → p.shape ≡ drop (length is) ns
    go true (Some q) e m = sym (ap (λ r. (some_shape p r).shape) m) ∙ e q refl
    go true None e m = absurd (no_some p m)
    go false q e m = absurd (no_some p m)

abbrev some_list : Option (List ℤ) → List ℤ
some_list None = []
some_list (Some xs) = xs

abbrev some_number : Option ℕ → ℕ
some_number None = 0
some_number (Some m) = m

-- the number of an index's components
counted : (a : ArrayValue) (s : List ℕ) (n : ℕ) → IsFull a → a.shape ≡ s → index_count s ≡ Some n → (is : List ℤ) → numbers_of a ≡ Some is → length is ≡ n
counted a s n f p c is q = go s p c
  where
    cells_are : (b : Bool) → (if b then Some a.cells else None) ≡ Some is → a.cells ≡ is
    cells_are true m = ap some_list m
    cells_are false m = absurd (let z : ◌≡◌ {A = Option (List ℤ)} None (Some is) = m in cc)

    go : (t : List ℕ) → a.shape ≡ t → index_count t ≡ Some n → length is ≡ n
    go [] m k = ap length (sym (cells_are _ q)) ∙ f ∙ ap size m ∙ ap some_number k
    go (j ∷ []) m k = ap length (sym (cells_are _ q)) ∙ f ∙ ap size m ∙ (omega arith) ∙ ap some_number k
    go (j ∷ l ∷ t) m k = absurd (let z : ◌≡◌ {A = Option ℕ} None (Some n) = k in cc)

selected_ok : (a : ArrayValue) (m : Option Part) (v : ArrayValue) → selected a m ≡ Ok v → (p : Part) × (m ≡ Some p) × (v.shape ≡ p.shape)
selected_ok a None v p = absurd (no_ok F1 v p)
selected_ok a (Some q) v p = (q, refl, sym (ap (λ (b : ArrayValue). b.shape) (ok_same _ v p)))

index_ok : (a : ArrayValue) (m : Option (List ℤ)) (p : Part) → part_at_index a m ≡ Some p → (is : List ℤ) × (m ≡ Some is) × (part_at a.shape is ≡ Some p)
index_ok a None p h = absurd (no_some p h)
index_ok a (Some is) p h = (is, refl, h)

-- what a selection leaves
selects : (s t : Option (List ℕ)) (a b v : ArrayValue) → IsFull b → ShapeIs s a → ShapeIs t b → select a b ≡ Ok v → ShapeIs (selected_shape s t) v
selects None t a b v f h k p = tt
selects (Some s) None a b v f h k p = tt
selects (Some s) (Some t) a b v f h k p = go (index_count t) refl
  where
    go : (n : Option ℕ) → index_count t ≡ n → ShapeIs (rest_of s n) v
    go None e = tt
    go (Some n) e = by (nat_le n (length s))
      where
        by : (c : Bool) → ShapeIs (if c then Some (drop n s) else None) v
        by false = tt
        by true =
            let w = selected_ok a (part_at_index a (numbers_of b)) v p in
            let u = index_ok a (numbers_of b) w.0 w.1 in
            w.2 ∙ part_shape a.shape u.0 w.0 u.2 ∙ (λ i. drop (counted b t n f k e u.0 u.1 i) (h i))

replaced_ok : (a : ArrayValue) (m : Option Part) (b v : ArrayValue) → replaced a m b ≡ Ok v → v.shape ≡ a.shape
replaced_ok a None b v p = absurd (no_ok F1 v p)
replaced_ok a (Some q) b v p = sym (ap (λ (c : ArrayValue). c.shape) (ok_same _ v (check_ok _ F6 _ v p).1))

pub checked_ok : (ty : ArrayType) (a v : ArrayValue) → checked ty a ≡ Ok v → (has ty a ≡ true) × (a ≡ v)
checked_ok ty a v p = go (has ty a) refl p
  where
    go : (b : Bool) → has ty a ≡ b → (if b then Ok a else Err F7) ≡ Ok v → (has ty a ≡ true) × (a ≡ v)
    go true e m = (e, ok_same a v m)
    go false e m = absurd (no_ok F7 v m)

and_right : (b c : Bool) → (b && c) ≡ true → c ≡ true
and_right true c h = h
and_right false c h = absurd (cc)

typed : (p : TypePart) (m : Option (List ℕ)) (a : ArrayValue) → has_shape p a.shape ≡ true → ShapeIs m a → ShapeIs (type_shape p m) a
typed (part.Known s) m a t h = sym ((bytes_eq-Decides s a.shape).0 t)
typed (part.Rank n) None a t h = tt
typed (part.Rank n) (Some s) a t h = go (has_shape (part.Rank n) s)
  where
    go : (b : Bool) → ShapeIs (if b then Some s else None) a
    go true = h
    go false = tt
typed part.Plus None a t h = tt
typed part.Plus (Some s) a t h = go (has_shape part.Plus s)
  where
    go : (b : Bool) → ShapeIs (if b then Some s else None) a
    go true = h
    go false = tt
typed part.Star None a t h = tt
typed part.Star (Some s) a t h = h

scalars : (m : Option (List ℕ)) (a : ArrayValue) → ShapeIs (is_scalar_of m) (dim a)
scalars None a = tt
scalars (Some s) a = refl

ranks : (m : Option (List ℕ)) (a : ArrayValue) → ShapeIs m a → ShapeIs (rank_of m) (shape_vector a)
ranks None a h = tt
ranks (Some s) a h = λ i. (length-map a.shape (λ n. pos n) ∙ ap length h) i ∷ []

-- the value has the shape that is known
pub shape_sound : (p : PlainTerm) (k : Facts) (e : Env) (v : ArrayValue) → AreSound k e → plain_value p e ≡ Ok v → ShapeIs (plain_shape p k) v
shape_sound (PlainTerm.Const a) k e v h p = sym (ap (λ (b : ArrayValue). b.shape) (ok_same _ v p))
shape_sound (PlainTerm.Copy x) k e v h p = subst (ShapeIs (k x).shape) (ok_same _ v p) (h x).shape
shape_sound (PlainTerm.Unary o x) k e v h p = subst (ShapeIs (k x).shape) (ok_same (unary o (e x)) v p) (shape_like (k x).shape (e x) (unary o (e x)) refl (h x).shape)
shape_sound (PlainTerm.Binary o x y) k e v h p = both (k x).shape (k y).shape o (e x) (e y) v p (h x).shape (h y).shape
shape_sound (PlainTerm.Literal xs) k e v h p = rows k e xs v h p
shape_sound (PlainTerm.Dim x) k e v h p = subst (ShapeIs (is_scalar_of (k x).shape)) (ok_same _ v p) (scalars (k x).shape (e x))
shape_sound (PlainTerm.ShapeOf x) k e v h p = subst (ShapeIs (rank_of (k x).shape)) (ok_same _ v p) (ranks (k x).shape (e x) (h x).shape)
shape_sound (PlainTerm.Reshape x y) k e v h p = by_literal (k x).literal (e x) (e y) v (h x).literal p
shape_sound (PlainTerm.Select x y) k e v h p = selects (k x).shape (k y).shape (e x) (e y) v (h y).full (h x).shape (h y).shape p
shape_sound (PlainTerm.Replace x y z) k e v h p = shape_like (k x).shape (e x) v (replaced_ok (e x) _ (e z) v p) (h x).shape
shape_sound (PlainTerm.Always kind) k e v h p = tt
shape_sound (PlainTerm.Check x ty) k e v h p =
    let w = checked_ok ty (e x) v p in
    subst (ShapeIs (type_shape ty.part (k x).shape)) w.1 (typed ty.part (k x).shape (e x) (and_right (same_base ty.base (e x).base) _ w.0) (h x).shape)
