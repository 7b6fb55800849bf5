-- Right sides without blocks and calls give arrays that have as many cells as their shapes say.
use Rattle.std.proofs.Common.{◌≡◌, ℕ, suc, ◌+◌, ◌*◌, ◌<◌, ◌≤◌, ◌⊎◌, inl, inr, Bool, true, false, ◌&&◌, List, [], ◌∷◌, ◌++◌, map, length, drop, take, Option, Some, None, Result, Ok, Err, refl, sym, ap, subst, ◌∙◌, arith, ltb, ℤ, pos, negsuc, All}
use Rattle.std.specs.Prelude.{if◌then◌else◌, ◌==◌}
use Rattle.std.specs.List.{zip, list_all}
use Rattle.std.proofs.lemmas.Bool.Decides.{Decides-eqb, Decides-ltb}
use Rattle.std.proofs.lemmas.List.{length-map, length-take-le, length-drop, length-append, length-replicate}
use Rattle.std.proofs.lemmas.List.Elements.{All-nil, All-cons}
use Rattle.std.proofs.lemmas.Slice.Eq.{bytes_eq-Decides}
use Rattle.std.proofs.lemmas.Slice.Zip.{length-zip}
use Rattle.std.proofs.Math.Nat.{mul-le-mul_right}
use Rattle.sac_base.specs.declared.base.Base.TheVariants.{Int}
use Rattle.sac_base.specs.declared.faults.FaultKind.TheVariants.{F1, F2, F3, F4, F6, F8}
use Rattle.sac_base.specs.declared.op.Op.{Op}
use Rattle.sac_base.specs.declared.op.ZeroDivisor.{ZeroDivisor}
use Rattle.sac_base.specs.Arrays.{ArrayValue, IsFull, size, vector, first_cell, same_shape, same_base, same_form}
use Rattle.sac_base.specs.Operators.{apply_two, binary, unary, in_shape, with_cells, common_shape, combined, all_of, with_first, stretched}
use Rattle.sac_base.specs.Parts.{literal, numbers_of, Part, further, part_at, part_at_index, selected, replaced, reshaped, vector_of, shape_of_numbers, dim, shape_vector, cells_at}
use Rattle.array_ops.proofs.Joining.{length-cells_of_all}
use Rattle.core_ir.specs.declared.tree.Var.{Var}
use Rattle.core_ir.specs.Terms.{PlainTerm}
use Rattle.core_ir.specs.Meaning.{Env, plain_value}
use Rattle.core_facts.specs.Full.{AreFull}
use Rattle.core_facts.proofs.Shapes.{ok_same, no_ok, check_ok, checked_ok}

abbrev list_or : {A : Type 0} → Option (List A) → List A
list_or None = []
list_or (Some xs) = xs

-- ---- results one after another

first_more : {A E : Type 0} (a : A) (r : Result (List A) E) (xs : List A) → with_first a r ≡ Ok xs → (ys : List A) × (r ≡ Ok ys) × (xs ≡ a ∷ ys)
first_more a (Ok ys) xs p = (ys, refl, sym (ok_same (a ∷ ys) xs p))
first_more a (Err e) xs p = absurd (no_ok e xs p)

pub length-all_of : {A E : Type 0} (rs : List (Result A E)) (xs : List A) → all_of rs ≡ Ok xs → length xs ≡ length rs
length-all_of [] xs p = ap length (sym (ok_same [] xs p))
length-all_of (Err e ∷ rs) xs p = absurd (no_ok e xs p)
length-all_of (Ok a ∷ rs) xs p = let w = first_more a (all_of rs) xs p in ap length w.2 ∙ ap suc (length-all_of rs w.0 w.1)

-- ---- operators

-- a shape is that of a scalar or the common one
abbrev FitsIn : List ℕ → List ℕ → Type 0
FitsIn s u = (s ≡ []) ⊎ (s ≡ u)

some_list : (s u : List ℕ) → ◌≡◌ {A = Option (List ℕ)} (Some s) (Some u) → s ≡ u
some_list s u p = ap list_or p

common_fits : (s t u : List ℕ) → common_shape s t ≡ Some u → FitsIn s u × FitsIn t u
common_fits [] t u p = (inl refl, inr (some_list t u p))
common_fits (m ∷ ms) [] u p = (inr (some_list (m ∷ ms) u p), inl refl)
common_fits (m ∷ ms) (n ∷ ns) u p = go (same_shape (m ∷ ms) (n ∷ ns)) refl p
  where
    go : (b : Bool) → same_shape (m ∷ ms) (n ∷ ns) ≡ b → (if b then Some (m ∷ ms) else None) ≡ Some u → FitsIn (m ∷ ms) u × FitsIn (n ∷ ns) u
    go true e q = let k = some_list (m ∷ ms) u q in (inr k, inr (sym ((bytes_eq-Decides (m ∷ ms) (n ∷ ns)).0 e) ∙ k))
    go false e q = absurd (let z : ◌≡◌ {A = Option (List ℕ)} None (Some u) = q in cc)

stretched_length : (u s : List ℕ) (cells : List ℤ) → length cells ≡ size s → FitsIn s u → length (stretched (size u) s cells) ≡ size u
stretched_length u [] cells h f = length-replicate (size u) (first_cell cells)
stretched_length u (m ∷ ms) cells h f = elim f [
  | inl e ↦ absurd (let z : ◌≡◌ {A = List ℕ} (m ∷ ms) [] = e in cc)
  | inr e ↦ h ∙ ap size e
]

with_full : (o : Op) (s : List ℕ) (r : Result (List ℤ) ZeroDivisor) (v : ArrayValue) → ((cells : List ℤ) → r ≡ Ok cells → length cells ≡ size s) → with_cells o s r ≡ Ok v → IsFull v
with_full o s (Err z) v h p = absurd (no_ok F2 v p)
with_full o s (Ok cells) v h p = subst IsFull (ok_same _ v p) (h cells refl)

pub binary_full : (o : Op) (a b v : ArrayValue) → IsFull a → IsFull b → binary o a b ≡ Ok v → IsFull v
binary_full o a b v f g p = go (common_shape a.shape b.shape) refl p
  where
    go : (m : Option (List ℕ)) → common_shape a.shape b.shape ≡ m → in_shape o m a b ≡ Ok v → IsFull v
    go None e q = absurd (no_ok F3 v q)
    go (Some u) e q =
        let w = common_fits a.shape b.shape u e in
        let xs = stretched (size u) a.shape a.cells in
        let ys = stretched (size u) b.shape b.cells in
        let lx : length xs ≡ size u = stretched_length u a.shape a.cells f w.0 in
        let ly : length ys ≡ size u = stretched_length u b.shape b.cells g w.1 in
        with_full o u (combined o xs ys) v
        (λ cells r. length-all_of (map (λ (z : ℤ × ℤ). apply_two o z.0 z.1) (zip xs ys)) cells r ∙ length-map (zip xs ys) (λ (z : ℤ × ℤ). apply_two o z.0 z.1) ∙ length-zip xs ys ∙ omega (arith, lx, ly)) q

-- ---- literals

one_row : (n : ℕ) → n ≡ n * 1
one_row n = omega arith

pub vector_full : (zs : List ℤ) → IsFull (vector Int zs)
vector_full zs = one_row (length zs)

all_full : (e : Env) (xs : List Var) → AreFull e → All IsFull (map e xs)
all_full e [] h = All-nil IsFull
all_full e (x ∷ xs) h = All-cons IsFull (e x) (map e xs) (h x) (all_full e xs h)

literal_full : (vs : List ArrayValue) (v : ArrayValue) → All IsFull vs → literal vs ≡ Ok v → IsFull v
literal_full [] v h p = subst IsFull (ok_same (vector Int []) v p) refl
literal_full (a ∷ rest) v h p =
    let q = check_ok (list_all (same_form a) rest) F3 _ v p in
    let r = (check_ok _ F4 _ v q.1).1 in
    subst IsFull (ok_same _ v (check_ok _ F8 _ v r).1) (length-cells_of_all a rest q.0 h)

-- ---- parts

reshaped_full : (m : Option (List ℕ)) (a v : ArrayValue) → reshaped m a ≡ Ok v → IsFull v
reshaped_full None a v p = absurd (no_ok F4 v p)
reshaped_full (Some s) a v p =
    let q = check_ok (size s == length a.cells) F3 _ v p in
    subst IsFull (ok_same _ v q.1) (sym ((Decides-eqb (size s) (length a.cells)).0 q.0))

abbrev part_or : Part → Option Part → Part
part_or p None = p
part_or p (Some q) = q

no_part : (p : Part) → ◌≡◌ {A = Option Part} None (Some p) → ⊥
no_part p e = cc

-- a part lies within the array
pub part_inside : (ns : List ℕ) (is : List ℤ) (p : Part) → part_at ns is ≡ Some p → p.start + size p.shape ≤ size ns
part_inside ns [] p h = subst (λ (q : Part). q.start + size q.shape ≤ size ns) (ap (part_or p) h) (omega arith)
part_inside [] (i ∷ is) p h = absurd (no_part p h)
part_inside (n ∷ ns) (negsuc i ∷ is) p h = absurd (no_part p h)
part_inside (n ∷ ns) (pos i ∷ is) p h = go (ltb i n) refl (part_at ns is) (λ q e. part_inside ns is q e) h
  where
    go : (b : Bool) → ltb i n ≡ b → (q : Option Part) → ((r : Part) → q ≡ Some r → r.start + size r.shape ≤ size ns) → (if b then further i ns q else None) ≡ Some p → p.start + size p.shape ≤ size (n ∷ ns)
    go true t (Some q) e m =
        let low = e q refl in
        let lt : i < n = (Decides-ltb i n).0 t in
        subst (λ (r : Part). r.start + size r.shape ≤ size (n ∷ ns)) (ap (part_or p) m) (omega (arith, low, mul-le-mul_right {m = suc i} {n = n} (size ns) lt))
    go true t None e m = absurd (no_part p m)
    go false t q e m = absurd (no_part p m)

cut_length : {A : Type 0} (s k : ℕ) (xs : List A) → s + k ≤ length xs → length (take k (drop s xs)) ≡ k
cut_length s k xs h = length-take-le k (drop s xs) (omega (arith, length-drop s xs))

pub cells_full : (a : ArrayValue) (is : List ℤ) (p : Part) → IsFull a → part_at a.shape is ≡ Some p → length (cells_at a p) ≡ size p.shape
cells_full a is p f h = cut_length p.start (size p.shape) a.cells (omega (arith, f, part_inside a.shape is p h))

at_index : (a : ArrayValue) (m : Option (List ℤ)) (p : Part) → part_at_index a m ≡ Some p → (is : List ℤ) × (part_at a.shape is ≡ Some p)
at_index a None p h = absurd (no_part p h)
at_index a (Some is) p h = (is, h)

selected_full : (a : ArrayValue) (i : Option (List ℤ)) (m : Option Part) (v : ArrayValue) → part_at_index a i ≡ m → IsFull a → selected a m ≡ Ok v → IsFull v
selected_full a i None v e f p = absurd (no_ok F1 v p)
selected_full a i (Some q) v e f p = let w = at_index a i q e in subst IsFull (ok_same _ v p) (cells_full a w.0 q f w.1)

and_right : (b c : Bool) → (b && c) ≡ true → c ≡ true
and_right true c h = h
and_right false c h = absurd (cc)

replaced_full : (a : ArrayValue) (i : Option (List ℤ)) (m : Option Part) (b v : ArrayValue) → part_at_index a i ≡ m → IsFull a → IsFull b → replaced a m b ≡ Ok v → IsFull v
replaced_full a i None b v e f g p = absurd (no_ok F1 v p)
replaced_full a i (Some q) b v e f g p =
    let w = at_index a i q e in
    let c = check_ok (same_form b (record { base = a.base; shape = q.shape; cells = [] })) F6 _ v p in
    let same : b.shape ≡ q.shape = (bytes_eq-Decides b.shape q.shape).0 (and_right (same_base b.base a.base) (same_shape b.shape q.shape) c.0) in
    let inside = part_inside a.shape w.0 q w.1 in
    let front : length (take q.start a.cells) ≡ q.start = length-take-le q.start a.cells (omega (arith, f, inside)) in
    let middle : length b.cells ≡ size q.shape = g ∙ ap size same in
    subst IsFull (ok_same _ v c.1)
    (length-append (take q.start a.cells) (b.cells ++ drop (q.start + size q.shape) a.cells) ∙ ap (λ n. length (take q.start a.cells) + n) (length-append b.cells (drop (q.start + size q.shape) a.cells)) ∙ omega (arith, front, middle, f, inside, length-drop (q.start + size q.shape) a.cells))

-- constants are full
abbrev pub ConstFull : PlainTerm → Type 0
ConstFull (PlainTerm.Const a) = IsFull a
ConstFull _ = Unit {0}

pub plain_full : (p : PlainTerm) (e : Env) (v : ArrayValue) → ConstFull p → AreFull e → plain_value p e ≡ Ok v → IsFull v
plain_full (PlainTerm.Const a) e v c h p = subst IsFull (ok_same a v p) c
plain_full (PlainTerm.Copy x) e v c h p = subst IsFull (ok_same (e x) v p) (h x)
plain_full (PlainTerm.Unary o x) e v c h p = subst IsFull (ok_same (unary o (e x)) v p) (length-map (e x).cells (Rattle.sac_base.specs.Operators.apply_one o) ∙ h x)
plain_full (PlainTerm.Binary o x y) e v c h p = binary_full o (e x) (e y) v (h x) (h y) p
plain_full (PlainTerm.Literal xs) e v c h p = literal_full (map e xs) v (all_full e xs h) p
plain_full (PlainTerm.Dim x) e v c h p = subst IsFull (ok_same (dim (e x)) v p) refl
plain_full (PlainTerm.ShapeOf x) e v c h p = subst IsFull (ok_same (shape_vector (e x)) v p) (one_row (length (map (λ n. pos n) (e x).shape)))
plain_full (PlainTerm.Reshape x y) e v c h p = reshaped_full (shape_of_numbers (vector_of (e x))) (e y) v p
plain_full (PlainTerm.Select x y) e v c h p = selected_full (e x) (numbers_of (e y)) (part_at_index (e x) (numbers_of (e y))) v refl (h x) p
plain_full (PlainTerm.Replace x y z) e v c h p = replaced_full (e x) (numbers_of (e y)) (part_at_index (e x) (numbers_of (e y))) (e z) v refl (h x) (h z) p
plain_full (PlainTerm.Always kind) e v c h p = absurd (no_ok kind v p)
plain_full (PlainTerm.Check x ty) e v c h p = let w = checked_ok ty (e x) v p in subst IsFull w.1 (h x)
