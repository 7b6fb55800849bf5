-- Right sides without blocks that are total have a value.
use Rattle.std.proofs.Common.{◌≡◌, ℕ, zero, suc, ◌<◌, Bool, true, false, not, ◌&&◌, ◌||◌, List, [], ◌∷◌, map, length, replicate, Option, Some, None, Result, Ok, Err, refl, sym, ap, ◌∙◌, arith, ℤ, pos, negsuc, ◌+ℤ◌, w32, ltb-true}
use Rattle.std.specs.Prelude.{if◌then◌else◌, nat_lt, nat_le}
use Rattle.std.specs.List.{zip, list_all}
use Rattle.std.specs.Ordering.{int_eq}
use Rattle.std.proofs.lemmas.Int.{int_wrap_fits}
use Rattle.std.proofs.lemmas.List.{length-map}
use Rattle.std.proofs.lemmas.Slice.Eq.{bytes_eq-Decides}
use Rattle.sac_base.specs.declared.base.Base.{Base}
use Rattle.sac_base.specs.declared.base.Base.TheVariants.{Int, Bool as Truth}
use Rattle.sac_base.specs.declared.faults.FaultKind.{FaultKind}
use Rattle.sac_base.specs.declared.faults.FaultKind.TheVariants.{F3, F4, F8}
use Rattle.sac_base.specs.declared.grid.Grid1.{Grid1}
use Rattle.sac_base.specs.declared.op.Op.{Op}
use Rattle.sac_base.specs.declared.op.Op.TheVariants as op
use Rattle.sac_base.specs.Arrays.{ArrayValue, IsFull, MOST, size, vector, same_form, same_shape, same_base}
use Rattle.sac_base.specs.Grids.{has_vector, members}
use Rattle.sac_base.specs.Operators.{wrap, apply_two, all_of, with_first, with_cells, combined, binary, unary, in_shape, common_shape, stretched}
use Rattle.sac_base.specs.Parts.{check, literal, cells_of_all, numbers_of, Part, further, part_at, part_at_index, selected, select, dim, shape_vector}
use Rattle.core_ir.specs.declared.tree.Var.{Var}
use Rattle.core_ir.specs.Terms.{PlainTerm}
use Rattle.core_ir.specs.Meaning.{Env, plain_value}
use Rattle.core_ir.specs.WellFormed.{Bases, AllHave, PlainBases}
use Rattle.core_facts.specs.Facts.{Facts, ShapeIs, ValueIs, AreSound, is_some, one_shape, both_shapes, shared_shape, row_of, row_shape}
use Rattle.core_facts.specs.bases.Typed.{Typed}
use Rattle.generator_sets.specs.Pieces.{moved}
use Rattle.core_loops.specs.Indices.{IndexFact, IndexFacts, Plus, Component, Other, Says, wrapped, offset_of, is_division, no_zero, may_be_row, at_numbers, at_literal, are_extents, at_offset, in_range, total_plain}
use Rattle.core_loops.specs.index_facts.Says.{SaysAll}
use Rattle.core_loops.proofs.index_facts.Members.{and_both, member_has}

abbrev HasValue : Result ArrayValue FaultKind → Type 0
HasValue r = (v : ArrayValue) × (r ≡ Ok v)

not_false : (A : Type 0) → false ≡ true → A
not_false A p = absurd (cc)

there : {A : Type 0} (o : Option A) → is_some o ≡ true → (a : A) × (o ≡ Some a)
there None p = not_false _ p
there (Some a) p = (a, refl)

-- ---- operators

may_divide : (b : Bool) → not b ≡ true → b ≡ false
may_divide true p = absurd (cc)
may_divide false p = refl

apply_total : (o : Op) (a b : ℤ) → (not (is_division o) || not (int_eq b (pos 0))) ≡ true → (z : ℤ) × (apply_two o a b ≡ Ok z)
apply_total op.Add a b h = (_, refl)
apply_total op.Sub a b h = (_, refl)
apply_total op.Mul a b h = (_, refl)
apply_total op.Div a b h = (_, λ i. if may_divide (int_eq b (pos 0)) h i then Err (record {}) else Ok (wrap (Rattle.std.specs.Prelude.int_div a b)))
apply_total op.Rem a b h = (_, λ i. if may_divide (int_eq b (pos 0)) h i then Err (record {}) else Ok (Rattle.std.specs.Prelude.int_rem a b))
apply_total op.Min a b h = (_, refl)
apply_total op.Max a b h = (_, refl)
apply_total op.Neg a b h = (_, refl)
apply_total op.Not a b h = (_, refl)
apply_total op.Eq a b h = (_, refl)
apply_total op.Ne a b h = (_, refl)
apply_total op.Lt a b h = (_, refl)
apply_total op.Le a b h = (_, refl)
apply_total op.Gt a b h = (_, refl)
apply_total op.Ge a b h = (_, refl)
apply_total op.And a b h = (_, refl)
apply_total op.Or a b h = (_, refl)

abbrev fits : Op → ℤ → Bool
fits o z = not (is_division o) || not (int_eq z (pos 0))

all_total : (o : Op) (xs ys : List ℤ) → list_all (fits o) ys ≡ true → (cells : List ℤ) × (combined o xs ys ≡ Ok cells)
all_total o [] ys h = ([], refl)
all_total o (x ∷ xs) [] h = ([], refl)
all_total o (x ∷ xs) (y ∷ ys) h =
    let w = and_both (fits o y) (list_all (fits o) ys) h in
    let z = apply_total o x y w.0 in
    let zs = all_total o xs ys w.1 in
    (z.0 ∷ zs.0, (λ i. all_of (z.1 i ∷ map (λ (p : ℤ × ℤ). apply_two o p.0 p.1) (zip xs ys))) ∙ (λ i. with_first z.0 (zs.1 i)))

cells_fit : (o : Op) (l : Option ArrayValue) (b : ArrayValue) → ValueIs l b → (not (is_division o) || no_zero l) ≡ true → list_all (fits o) b.cells ≡ true
cells_fit o l b h p = go (is_division o) l h p
  where
    always : (cells : List ℤ) → list_all (λ z. true || not (int_eq z (pos 0))) cells ≡ true
    always [] = refl
    always (c ∷ cells) = always cells

    go : (d : Bool) (l : Option ArrayValue) → ValueIs l b → (not d || no_zero l) ≡ true → list_all (λ z. not d || not (int_eq z (pos 0))) b.cells ≡ true
    go false l h p = always b.cells
    go true None h p = not_false _ p
    go true (Some v) h p = (λ i. list_all (λ z. not (int_eq z (pos 0))) (h i).cells) ∙ p

repeated : (p : ℤ → Bool) (n : ℕ) (z : ℤ) → p z ≡ true → list_all p (replicate n z) ≡ true
repeated p zero z h = refl
repeated p (suc n) z h = (λ i. h i && list_all p (replicate n z)) ∙ repeated p n z h

stretched_fit : (p : ℤ → Bool) (n : ℕ) (s : List ℕ) (cells : List ℤ) → length cells ≡ size s → list_all p cells ≡ true → list_all p (stretched n s cells) ≡ true
stretched_fit p n (m ∷ s) cells l h = h
stretched_fit p n [] [] l h = absurd (omega (arith, l))
stretched_fit p n [] (c ∷ cells) l h = repeated p n c (and_both (p c) (list_all p cells) h).0

binary_total : (s t : Option (List ℕ)) (o : Op) (l : Option ArrayValue) (a b : ArrayValue) → ShapeIs s a → ShapeIs t b → ValueIs l b → IsFull b → is_some (both_shapes s t) ≡ true → (not (is_division o) || no_zero l) ≡ true → HasValue (binary o a b)
binary_total None t o l a b h k v f p q = not_false _ p
binary_total (Some s) None o l a b h k v f p q = not_false _ p
binary_total (Some s) (Some t) o l a b h k v f p q =
    let u = there (common_shape s t) p in
    let xs = stretched (size u.0) a.shape a.cells in
    let ys = stretched (size u.0) b.shape b.cells in
    let cells = all_total o xs ys (stretched_fit (fits o) (size u.0) b.shape b.cells f (cells_fit o l b v q)) in
    (_, (λ i. in_shape o ((ap (λ z. common_shape z b.shape) h ∙ ap (common_shape s) k ∙ u.1) i) a b) ∙ (λ i. with_cells o u.0 (cells.1 i)))

-- ---- literals

same_base-refl : (t u w : Base) → u ≡ t → w ≡ t → same_base u w ≡ true
same_base-refl t u w p q = (λ i. same_base (p i) (q i)) ∙ go t
  where
    go : (t : Base) → same_base t t ≡ true
    go Int = refl
    go Truth = refl

abbrev shape_or : Option (List ℕ) → List ℕ
shape_or None = []
shape_or (Some s) = s

one_some : (a b : Option (List ℕ)) (s : List ℕ) → one_shape a b ≡ Some s → (a ≡ Some s) × (b ≡ Some s)
one_some None b s p = absurd (let q : ◌≡◌ {A = Option (List ℕ)} None (Some s) = p in cc)
one_some (Some x) None s p = absurd (let q : ◌≡◌ {A = Option (List ℕ)} None (Some s) = p in cc)
one_some (Some x) (Some y) s p = go (same_shape x y) refl p
  where
    go : (t : Bool) → same_shape x y ≡ t → (if t then Some x else None) ≡ Some s → (◌≡◌ {A = Option (List ℕ)} (Some x) (Some s)) × (◌≡◌ {A = Option (List ℕ)} (Some y) (Some s))
    go true e q = (q, (λ i. Some (sym ((bytes_eq-Decides x y).0 e) i)) ∙ q)
    go false e q = absurd (let z : ◌≡◌ {A = Option (List ℕ)} None (Some s) = q in cc)

known : (o : Option (List ℕ)) (s : List ℕ) (a : ArrayValue) → ShapeIs o a → o ≡ Some s → a.shape ≡ s
known None s a h p = absurd (let q : ◌≡◌ {A = Option (List ℕ)} None (Some s) = p in cc)
known (Some t) s a h p = h ∙ ap shape_or p

same_forms : (g : Bases) (k : Facts) (e : Env) (t : Base) (s : List ℕ) (a : ArrayValue) (first : Option (List ℕ)) (ys : List Var) → AreSound k e → Typed g e → a.base ≡ t → a.shape ≡ s → AllHave g ys t → shared_shape first (map (λ y. (k y).shape) ys) ≡ Some s → (first ≡ Some s) × (list_all (same_form a) (map e ys) ≡ true)
same_forms g k e t s a first [] h ty ab as' all p = (p, refl)
same_forms g k e t s a first (y ∷ ys) h ty ab as' all p =
    let w = same_forms g k e t s a (one_shape first (k y).shape) ys h ty ab as' all.1 p in
    let o = one_some first (k y).shape s w.0 in
    let here : same_form a (e y) ≡ true = (λ i. same_base-refl t a.base (e y).base ab (ty y t all.0) i && same_shape a.shape (e y).shape) ∙ (bytes_eq-Decides a.shape (e y).shape).1 (as' ∙ sym (known (k y).shape s (e y) (h y).shape o.1)) in
    (o.0, (λ i. here i && list_all (same_form a) (map e ys)) ∙ w.1)

row_known : (n : ℕ) (o : Option (List ℕ)) → may_be_row (row_of n o) ≡ true → (s : List ℕ) × (o ≡ Some s) × (nat_le (length (n ∷ s)) 8 ≡ true) × (nat_le (size (n ∷ s)) MOST ≡ true)
row_known n None p = not_false _ p
row_known n (Some s) p = go (nat_lt n 2147483648 && nat_le (length (n ∷ s)) 8) p
  where
    go : (fits : Bool) → may_be_row (if fits then Some (n ∷ s) else None) ≡ true → (shape : List ℕ) × (◌≡◌ {A = Option (List ℕ)} (Some s) (Some shape)) × (nat_le (length (n ∷ shape)) 8 ≡ true) × (nat_le (size (n ∷ shape)) MOST ≡ true)
    go true q = let w = and_both (nat_le (length (n ∷ s)) 8) (nat_le (size (n ∷ s)) MOST) q in (s, refl, w.0, w.1)
    go false q = not_false _ q

literal_total : (g : Bases) (k : Facts) (e : Env) (t : Base) (x : Var) (xs : List Var) → AreSound k e → Typed g e → AllHave g (x ∷ xs) t → may_be_row (row_shape (map (λ y. (k y).shape) (x ∷ xs))) ≡ true → HasValue (literal (map e (x ∷ xs)))
literal_total g k e t x xs h ty all p =
    let n = length (map (λ y. (k y).shape) (x ∷ xs)) in
    let r = row_known n (shared_shape (k x).shape (map (λ y. (k y).shape) xs)) p in
    let s = r.0 in
    let head : (shape : List ℕ) × ((e x).shape ≡ shape) = ((e x).shape, refl) in
    let at : ((k x).shape ≡ Some s) × (list_all (same_form (record { base = (e x).base; shape = s; cells = (e x).cells })) (map e xs) ≡ true) = same_forms g k e t s (record { base = (e x).base; shape = s; cells = (e x).cells }) (k x).shape xs h ty (ty x t all.0) refl all.1 r.1 in
    let shape : (e x).shape ≡ s = known (k x).shape s (e x) (h x).shape at.0 in
    let forms : list_all (same_form (e x)) (map e xs) ≡ true = (λ i. list_all (same_form (record { base = (e x).base; shape = shape i; cells = (e x).cells })) (map e xs)) ∙ at.1 in
    let count : length (map e (x ∷ xs)) ≡ n = length-map (x ∷ xs) e ∙ sym (length-map (x ∷ xs) (λ y. (k y).shape)) in
    let rank : nat_le (length (length (map e (x ∷ xs)) ∷ (e x).shape)) 8 ≡ true = (λ i. nat_le (length (count i ∷ shape i)) 8) ∙ r.2 in
    let room : nat_le (size (length (map e (x ∷ xs)) ∷ (e x).shape)) MOST ≡ true = (λ i. nat_le (size (count i ∷ shape i)) MOST) ∙ r.3 in
    (record { base = (e x).base; shape = length (map e (x ∷ xs)) ∷ (e x).shape; cells = cells_of_all (map e (x ∷ xs)) }, λ i. check (forms i) F3 (check (rank i) F4 (check (room i) F8 (Ok (record { base = (e x).base; shape = length (map e (x ∷ xs)) ∷ (e x).shape; cells = cells_of_all (map e (x ∷ xs)) })))))

-- ---- selections

further_some : (i : ℕ) (ns : List ℕ) (o : Option Part) → is_some (further i ns o) ≡ true → is_some o ≡ true
further_some i ns None p = p
further_some i ns (Some q) p = refl

-- whole numbers in range are of 32 bits
whole : (shape : List ℕ) (own c : List ℤ) → length c ≡ length own → are_extents shape ≡ true → is_some (part_at shape (moved own c)) ≡ true → wrapped own c ≡ moved own c
whole shape [] c l h p = refl
whole shape (v ∷ own) [] l h p = absurd (omega (arith, l))
whole [] (v ∷ own) (d ∷ c) l h p = not_false _ p
whole (n ∷ ns) (v ∷ own) (d ∷ c) l h p = go (v +ℤ d) p (λ q. whole ns own c (omega (arith, l)) (and_both (nat_lt n 2147483648) (are_extents ns) h).1 q)
  where
    go : (z : ℤ) → is_some (part_at (n ∷ ns) (z ∷ moved own c)) ≡ true → (is_some (part_at ns (moved own c)) ≡ true → wrapped own c ≡ moved own c) → wrap z ∷ wrapped own c ≡ z ∷ moved own c
    go (negsuc i) q f = not_false _ q
    go (pos i) q f = by (nat_lt i n) refl q
      where
        by : (t : Bool) → nat_lt i n ≡ t → is_some (if t then further i ns (part_at ns (moved own c)) else None) ≡ true → wrap (pos i) ∷ wrapped own c ≡ pos i ∷ moved own c
        by false e r = not_false _ r
        by true e r =
            let small : i < n = ltb-true i n e in
            let top : n < 2147483648 = ltb-true n 2147483648 (and_both (nat_lt n 2147483648) (are_extents ns) h).0 in
            λ j. int_wrap_fits w32 (pos i) (record { sfits = omega (arith, small, top) }) j ∷ f (further_some i ns (part_at ns (moved own c)) r) j

select_at : (a b : ArrayValue) (s : List ℕ) (is : List ℤ) → a.shape ≡ s → numbers_of b ≡ Some is → is_some (part_at s is) ≡ true → HasValue (select a b)
select_at a b s is h n p =
    let q = there (part_at s is) p in
    (_, (λ i. selected a (part_at_index a (n i))) ∙ (λ i. selected a (part_at (h i) is)) ∙ (λ i. selected a (q.1 i)))

select_total : (grid : List Grid1) (own : List ℤ) (s : Option (List ℕ)) (f : IndexFact) (l : Option ArrayValue) (a b : ArrayValue) → has_vector grid own ≡ true → ShapeIs s a → Says own f b → ValueIs l b → in_range grid s f l ≡ true → HasValue (select a b)
select_total grid own None f l a b inside h says v p = not_false _ p
select_total grid own (Some s) f l a b inside h says v p = go (at_literal s l) refl p
  where
    literal_at : (l : Option ArrayValue) → ValueIs l b → at_literal s l ≡ true → HasValue (select a b)
    literal_at None v q = not_false _ q
    literal_at (Some lv) v q = by (numbers_of lv) refl q
      where
        by : (m : Option (List ℤ)) → numbers_of lv ≡ m → at_numbers s m ≡ true → HasValue (select a b)
        by None n r = not_false _ r
        by (Some is) n r = select_at a b s is h ((λ i. numbers_of (v i)) ∙ n) r

    offset_at : (f : IndexFact) → Says own f b → at_offset grid s (offset_of f) ≡ true → HasValue (select a b)
    offset_at Other sy q = not_false _ q
    offset_at (Component k d) sy q = not_false _ q
    offset_at (Plus c) sy q =
        let w = and_both (are_extents s) (list_all (λ u. is_some (part_at s (moved u c))) (members grid)) q in
        let r = member_has (λ u. is_some (part_at s (moved u c))) grid own w.1 inside in
        select_at a b s (moved own c) h ((λ i. numbers_of (sy.1 i)) ∙ (λ i. Some (whole s own c sy.0 w.0 r i))) r

    go : (t : Bool) → at_literal s l ≡ t → (t || at_offset grid s (offset_of f)) ≡ true → HasValue (select a b)
    go true e q = literal_at l v e
    go false e q = offset_at f says q

-- ---- right sides

pub plain_total : (grid : List Grid1) (own : List ℤ) (p : PlainTerm) (g : Bases) (ts : List Base) (k : Facts) (m : IndexFacts) (e : Env) → has_vector grid own ≡ true → total_plain grid p k m ≡ true → PlainBases g p ts → Typed g e → AreSound k e → SaysAll own m e → HasValue (plain_value p e)
plain_total grid own (PlainTerm.Const a) g ts k m e inside h b ty s says = (a, refl)
plain_total grid own (PlainTerm.Copy x) g ts k m e inside h b ty s says = (e x, refl)
plain_total grid own (PlainTerm.Unary o x) g ts k m e inside h b ty s says = (unary o (e x), refl)
plain_total grid own (PlainTerm.Binary o x y) g ts k m e inside h b ty s says =
    let w = and_both (is_some (both_shapes (k x).shape (k y).shape)) (not (is_division o) || no_zero (k y).literal) h in
    binary_total (k x).shape (k y).shape o (k y).literal (e x) (e y) (s x).shape (s y).shape (s y).literal (s y).full w.0 w.1
plain_total grid own (PlainTerm.Literal []) g ts k m e inside h b ty s says = (vector Int [], refl)
plain_total grid own (PlainTerm.Literal (x ∷ xs)) g ts k m e inside h b ty s says = literal_total g k e b.0 x xs s ty b.1 h
plain_total grid own (PlainTerm.Dim x) g ts k m e inside h b ty s says = (dim (e x), refl)
plain_total grid own (PlainTerm.ShapeOf x) g ts k m e inside h b ty s says = (shape_vector (e x), refl)
plain_total grid own (PlainTerm.Reshape x y) g ts k m e inside h b ty s says = not_false _ h
plain_total grid own (PlainTerm.Select x y) g ts k m e inside h b ty s says = select_total grid own (k x).shape (m y) (k y).literal (e x) (e y) inside (s x).shape (says y) (s y).literal h
plain_total grid own (PlainTerm.Replace x y z) g ts k m e inside h b ty s says = not_false _ h
plain_total grid own (PlainTerm.Always kind) g ts k m e inside h b ty s says = not_false _ h
plain_total grid own (PlainTerm.Check x t) g ts k m e inside h b ty s says = not_false _ h
