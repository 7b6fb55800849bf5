-- With-loops and parted loops give arrays that have as many cells as their shapes say.
use Rattle.std.proofs.Common.{◌≡◌, ℕ, zero, suc, ◌+◌, ◌*◌, ◌<◌, ◌≤◌, Bool, true, false, ◌&&◌, List, [], ◌∷◌, ◌++◌, map, length, drop, take, Option, Some, None, Result, Ok, Err, refl, sym, ap, subst, ◌∙◌, arith, lt-ltb, ℤ, pos, take-append-drop}
use Rattle.std.specs.Prelude.{if◌then◌else◌, flat_map, fold, nat_le}
use Rattle.std.specs.List.{zip}
use Rattle.std.proofs.lemmas.List.{length-append}
use Rattle.std.proofs.lemmas.Slice.Eq.{bytes_eq-Decides}
use Rattle.sac_base.specs.declared.faults.FaultKind.{FaultKind}
use Rattle.sac_base.specs.declared.faults.FaultKind.TheVariants.{F4, F6, F8}
use Rattle.sac_base.specs.declared.form.Form.{Form}
use Rattle.sac_base.specs.declared.op.Op.{Op}
use Rattle.sac_base.specs.declared.site.Site.{Site}
use Rattle.sac_base.specs.Arrays.{ArrayValue, IsFull, size, MOST, form_of, same_shape, same_base}
use Rattle.sac_base.specs.Operators.{binary, all_of, with_first}
use Rattle.sac_base.specs.Outcomes.{Ends, and_then, fault}
use Rattle.sac_base.specs.Parts.{further, part_at, shape_of_numbers, vector_of}
use Rattle.sac_base.specs.WithLoops.{Bounds, Generator, Operation, genarray, modarray, fold_by, Range, Plan, Span, box, shape_spans, numbers_from, range_of, genarray_plan, modarray_plan, fold_plan, plan, index_length, holder, holds, held_cell, fits_form, each, cells_of, cell_or, cell_or_old, cells_of_part, or_first, combined, finish, with_value}
use Rattle.sac_base.specs.WithLoops
use Rattle.sac_base.proofs.RowMajor.{size-append}
use Rattle.array_with_loops.proofs.CellSteps.{length_indices}
use Rattle.core_facts.proofs.Shapes.{ok_same, no_ok}
use Rattle.core_facts.proofs.Sound.{then_ok}
use Rattle.core_loops.proofs.values.Plain.{binary_full, cells_full}

-- ---- cells of indices, one after another

abbrev pub EachIn : (List ℤ → Type 0) → List (List ℤ) → Type 0
EachIn Q [] = Unit {0}
EachIn Q (v ∷ vs) = Q v × EachIn Q vs

-- as many as there are indices, each with the property
abbrev pub AllAt : (List ℤ → Option ArrayValue → Type 0) → List (List ℤ) → List (Option ArrayValue) → Type 0
AllAt P [] [] = Unit {0}
AllAt P (v ∷ vs) (o ∷ os) = P v o × AllAt P vs os
AllAt P _ _ = ⊥

abbrev step : Ends (Option ArrayValue) → Ends (List (Option ArrayValue)) → Ends (List (Option ArrayValue))
step (Ok o) rest = with_first o rest
step (Err k) rest = Err k

first_step : (r : Ends (Option ArrayValue)) (rs : List (Ends (Option ArrayValue))) → all_of (r ∷ rs) ≡ step r (all_of rs)
first_step (Ok o) rs = refl
first_step (Err k) rs = refl

pub each_all : (f : List ℤ → Ends (Option ArrayValue)) (Q : List ℤ → Type 0) (P : List ℤ → Option ArrayValue → Type 0) (vs : List (List ℤ)) (found : List (Option ArrayValue)) → ((v : List ℤ) (o : Option ArrayValue) → Q v → f v ≡ Ok o → P v o) → EachIn Q vs → each f vs ≡ Ok found → AllAt P vs found
each_all f Q P [] found h q p = subst (AllAt P []) (ok_same [] found p) tt
each_all f Q P (v ∷ vs) found h q p = go (f v) (all_of (map f vs)) (λ o. h v o q.0) (λ os m. each_all f Q P vs os h q.1 m) (sym (first_step (f v) (map f vs)) ∙ p)
  where
    go : (r : Ends (Option ArrayValue)) (rest : Ends (List (Option ArrayValue))) → ((o : Option ArrayValue) → r ≡ Ok o → P v o) → ((os : List (Option ArrayValue)) → rest ≡ Ok os → AllAt P vs os) → step r rest ≡ Ok found → AllAt P (v ∷ vs) found
    go (Ok o) (Ok os) a b m = subst (AllAt P (v ∷ vs)) (ok_same (o ∷ os) found m) (a o refl, b os refl)
    go (Ok o) (Err k) a b m = absurd (no_ok k found m)
    go (Err k) rest a b m = absurd (no_ok k found m)

zero_times : (n : ℕ) → 0 ≡ 0 * n
zero_times n = omega arith

-- a list of pieces of one length
pieces_length : (f : List ℤ → Option ArrayValue → List ℤ) (n : ℕ) (vs : List (List ℤ)) (os : List (Option ArrayValue)) → AllAt (λ v o. length (f v o) ≡ n) vs os → length (flat_map (λ (q : List ℤ × Option ArrayValue). f q.0 q.1) (zip vs os)) ≡ length vs * n
pieces_length f n [] [] h = zero_times n
pieces_length f n [] (o ∷ os) h = absurd h
pieces_length f n (v ∷ vs) [] h = absurd h
pieces_length f n (v ∷ vs) (o ∷ os) h = length-append (f v o) _ ∙ omega (arith, h.0, pieces_length f n vs os h.1, more (length vs) n)
  where
    more : (k n : ℕ) → suc k * n ≡ n + k * n
    more k n = omega arith

pub plain_length : (f : Option ArrayValue → List ℤ) (n : ℕ) (vs : List (List ℤ)) (os : List (Option ArrayValue)) → AllAt (λ v o. length (f o) ≡ n) vs os → length (flat_map f os) ≡ length vs * n
plain_length f n [] [] h = zero_times n
plain_length f n [] (o ∷ os) h = absurd h
plain_length f n (v ∷ vs) [] h = absurd h
plain_length f n (v ∷ vs) (o ∷ os) h = length-append (f o) _ ∙ omega (arith, h.0, plain_length f n vs os h.1, more (length vs) n)
  where
    more : (k n : ℕ) → suc k * n ≡ n + k * n
    more k n = omega arith

-- ---- cells of generators

abbrev pub CellsFull : (List ℤ → Ends ArrayValue) → Type 0
CellsFull f = (index : List ℤ) (c : ArrayValue) → f index ≡ Ok c → IsFull c

abbrev pub GensFull : List Generator → Type 0
GensFull [] = Unit {0}
GensFull (g ∷ gs) = CellsFull g.cell × GensFull gs

-- a cell that is there has the form, and is full
abbrev pub Fits : List ℕ → Option ArrayValue → Type 0
Fits shape None = Unit {0}
Fits shape (Some c) = IsFull c × (c.shape ≡ shape)

abbrev HolderFull : Option Generator → Type 0
HolderFull None = Unit {0}
HolderFull (Some g) = CellsFull g.cell

holder_full : (gs : List Generator) (rs : List Range) (v : List ℤ) → GensFull gs → HolderFull (holder gs rs v)
holder_full [] rs v h = tt
holder_full (g ∷ gs) [] v h = tt
holder_full (g ∷ gs) (r ∷ rs) v h = go (holds r v) (holder_full gs rs v h.1)
  where
    go : (b : Bool) → HolderFull (holder gs rs v) → HolderFull (if b then Some g else holder gs rs v)
    go true k = h.0
    go false k = k

pub and_right : (b c : Bool) → (b && c) ≡ true → c ≡ true
and_right true c h = h
and_right false c h = absurd (cc)

held_fits : (form : Form) (g : Option Generator) (v : List ℤ) (o : Option ArrayValue) → HolderFull g → held_cell form g v ≡ Ok o → Fits form.shape o
held_fits form None v o h p = subst (Fits form.shape) (ok_same None o p) tt
held_fits form (Some g) v o h p =
    let t = then_ok (g.cell v) (λ c. if fits_form form c then Ok (Some c) else fault F6 g.bounds.site) o p in
    go t.0 (fits_form form t.0) refl (h v t.0 t.1) t.2
  where
    go : (c : ArrayValue) (b : Bool) → fits_form form c ≡ b → IsFull c → (if b then Ok (Some c) else fault F6 g.bounds.site) ≡ Ok o → Fits form.shape o
    go c true e f m = subst (Fits form.shape) (ok_same (Some c) o m) (f, (bytes_eq-Decides c.shape form.shape).0 (and_right (same_base c.base form.base) (same_shape c.shape form.shape) e))
    go c false e f m = absurd (no_ok (record { kind = F6; site = g.bounds.site }) o m)

-- ---- indices of a shape's front

abbrev HasPart : List ℕ → List ℕ → List ℤ → Type 0
HasPart ns ms v = (start : ℕ) × (part_at (ns ++ ms) v ≡ Some (record { start = start; shape = ms }))

heads : (n : ℕ) (ns ms : List ℕ) (i : ℕ) (vs : List (List ℤ)) → i < n → EachIn (HasPart ns ms) vs → EachIn (HasPart (n ∷ ns) ms) (map (λ v. pos i ∷ v) vs)
heads n ns ms i [] lt h = tt
heads n ns ms i (v ∷ vs) lt h =
    ((i * size (ns ++ ms) + h.0.0, ap (λ b. if b then further i (ns ++ ms) (part_at (ns ++ ms) v) else None) (lt-ltb i n lt) ∙ ap (further i (ns ++ ms)) h.0.1), heads n ns ms i vs lt h.1)

in_both : (Q : List ℤ → Type 0) (xs ys : List (List ℤ)) → EachIn Q xs → EachIn Q ys → EachIn Q (xs ++ ys)
in_both Q [] ys h k = k
in_both Q (x ∷ xs) ys h k = (h.0, in_both Q xs ys h.1 k)

along : (n : ℕ) (ns ms : List ℕ) (vs : List (List ℤ)) (k count : ℕ) → k + count ≤ n → EachIn (HasPart ns ms) vs → EachIn (HasPart (n ∷ ns) ms) (flat_map (λ x. map (λ v. x ∷ v) vs) (numbers_from (pos k) count))
along n ns ms vs k zero lt h = tt
along n ns ms vs k (suc count) lt h =
    in_both (HasPart (n ∷ ns) ms) (map (λ v. pos k ∷ v) vs) _ (heads n ns ms k vs (omega arith) h) (along n ns ms vs (k + 1) count (omega arith) h)

front_parts : (ns ms : List ℕ) → EachIn (HasPart ns ms) (box (shape_spans ns))
front_parts [] ms = ((0, refl), tt)
front_parts (n ∷ ns) ms = along n ns ms (box (shape_spans ns)) 0 n (omega arith) (front_parts ns ms)

anything : (vs : List (List ℤ)) → EachIn (λ v. Unit {0}) vs
anything [] = tt
anything (v ∷ vs) = (tt, anything vs)

-- ---- operations

gen_plan : (gs : List Bounds) (m : Option (List ℕ)) (default : ArrayValue) (s : Site) (p : Plan) → genarray_plan gs m default s ≡ Ok p → (frame : List ℕ) × (p.form.shape ≡ default.shape) × (p.shape ≡ frame ++ default.shape) × (p.indices ≡ box (shape_spans frame))
gen_plan gs None default s p h = absurd (no_ok (record { kind = F4; site = s }) p h)
gen_plan gs (Some frame) default s p h = go (nat_le (length (frame ++ default.shape)) 8) (nat_le (size frame) MOST && nat_le (size (frame ++ default.shape)) MOST) h
  where
    made : List Range → Plan
    made ranges = record { ranges = ranges; indices = box (shape_spans frame); form = form_of default; shape = frame ++ default.shape }

    go : (b c : Bool) → (if b then (if c then and_then (each (range_of (length frame) 8 (Some frame) frame) gs) (λ ranges. Ok (record { ranges = ranges; indices = box (shape_spans frame); form = form_of default; shape = frame ++ default.shape })) else fault F8 s) else fault F4 s) ≡ Ok p
        → (frame : List ℕ) × (p.form.shape ≡ default.shape) × (p.shape ≡ frame ++ default.shape) × (p.indices ≡ box (shape_spans frame))
    go true true q =
        let t = then_ok (each (range_of (length frame) 8 (Some frame) frame) gs) (λ ranges. Ok (record { ranges = ranges; indices = box (shape_spans frame); form = form_of default; shape = frame ++ default.shape })) p q in
        let e = ok_same _ p t.2 in
        (frame, sym (ap (λ (x : Plan). x.form.shape) e), sym (ap (λ (x : Plan). x.shape) e), sym (ap (λ (x : Plan). x.indices) e))
    go true false q = absurd (no_ok (record { kind = F8; site = s }) p q)
    go false c q = absurd (no_ok (record { kind = F4; site = s }) p q)

mod_plan : (gs : List Bounds) (n : ℕ) (array : ArrayValue) (s : Site) (p : Plan) → modarray_plan gs n array s ≡ Ok p → (p.form.shape ≡ drop n array.shape) × (p.shape ≡ array.shape) × (p.indices ≡ box (shape_spans (take n array.shape)))
mod_plan gs n array s p h =
    let t = then_ok (each (range_of n (length array.shape) (Some (take n array.shape)) (take n array.shape)) gs) (λ ranges. if nat_le (size (take n array.shape)) MOST then Ok (record { ranges = ranges; indices = box (shape_spans (take n array.shape)); form = record { base = array.base; shape = drop n array.shape }; shape = array.shape }) else fault F8 s) p h in
    go (nat_le (size (take n array.shape)) MOST) t.0 t.2
  where
    go : (b : Bool) (ranges : List Range) → (if b then Ok (record { ranges = ranges; indices = box (shape_spans (take n array.shape)); form = record { base = array.base; shape = drop n array.shape }; shape = array.shape }) else fault F8 s) ≡ Ok p → (p.form.shape ≡ drop n array.shape) × (p.shape ≡ array.shape) × (p.indices ≡ box (shape_spans (take n array.shape)))
    go true ranges q = let e = ok_same _ p q in (sym (ap (λ (x : Plan). x.form.shape) e), sym (ap (λ (x : Plan). x.shape) e), sym (ap (λ (x : Plan). x.indices) e))
    go false ranges q = absurd (no_ok (record { kind = F8; site = s }) p q)

default_length : (default : ArrayValue) (shape : List ℕ) (o : Option ArrayValue) → IsFull default → shape ≡ default.shape → Fits shape o → length (cell_or default o) ≡ size default.shape
default_length default shape None f e h = f
default_length default shape (Some c) f e h = h.0 ∙ ap size (h.1 ∙ e)

old_length : (array : ArrayValue) (ns ms shape : List ℕ) (v : List ℤ) (o : Option ArrayValue) → IsFull array → array.shape ≡ ns ++ ms → shape ≡ ms → HasPart ns ms v → Fits shape o → length (cell_or_old array v o) ≡ size ms
old_length array ns ms shape v (Some c) f s e q h = h.0 ∙ ap size (h.1 ∙ e)
old_length array ns ms shape v None f s e q h =
    let there : part_at array.shape v ≡ Some (record { start = q.0; shape = ms }) = ap (λ xs. part_at xs v) s ∙ q.1 in
    ap (λ o. length (cells_of_part array o)) there ∙ cells_full array v (record { start = q.0; shape = ms }) f there

abbrev pub OperandsFull : Operation → Type 0
OperandsFull (genarray shape default s) = IsFull default
OperandsFull (modarray array s) = IsFull array
OperandsFull (fold_by op neutral s) = IsFull neutral

or_full : (a : ArrayValue) (r : Result ArrayValue FaultKind) → IsFull a → ((v : ArrayValue) → r ≡ Ok v → IsFull v) → IsFull (or_first a r)
or_full a (Ok b) f h = h b refl
or_full a (Err k) f h = f

abbrev pub FullCell : Option ArrayValue → Type 0
FullCell None = Unit {0}
FullCell (Some c) = IsFull c

combined_full : (op : Op) (a : ArrayValue) (o : Option ArrayValue) → IsFull a → FullCell o → IsFull (combined op a o)
combined_full op a None f h = f
combined_full op a (Some c) f h = or_full a (binary op a c) f (λ v p. binary_full op a c v f h p)

pub folded_full : (op : Op) (a : ArrayValue) (vs : List (List ℤ)) (os : List (Option ArrayValue)) → IsFull a → AllAt (λ v o. FullCell o) vs os → IsFull (fold (combined op) a os)
folded_full op a [] [] f h = f
folded_full op a [] (o ∷ os) f h = absurd h
folded_full op a (v ∷ vs) [] f h = absurd h
folded_full op a (v ∷ vs) (o ∷ os) f h = folded_full op (combined op a o) vs os (combined_full op a o f h.0) h.1

pub just_cell : (shape : List ℕ) (o : Option ArrayValue) → Fits shape o → FullCell o
just_cell shape None h = tt
just_cell shape (Some c) h = h.0

-- what a with-loop gives is full
pub with_loop_full : (gs : List Generator) (op : Operation) (v : ArrayValue) → GensFull gs → OperandsFull op → with_value gs op ≡ Ok v → IsFull v
with_loop_full gs op v h k p =
    let t = then_ok (plan (map (λ (g : Generator). g.bounds) gs) op) (λ q. and_then (cells_of q.form gs q.ranges q.indices) (λ found. Ok (finish op q found))) v p in
    let u = then_ok (cells_of t.0.form gs t.0.ranges t.0.indices) (λ found. Ok (finish op t.0 found)) v t.2 in
    subst IsFull (ok_same (finish op t.0 u.0) v u.2) (go op t.0 u.0 k t.1 u.1)
  where
    cells : (q : Plan) (Q : List ℤ → Type 0) (P : List ℤ → Option ArrayValue → Type 0) (found : List (Option ArrayValue)) → ((w : List ℤ) (o : Option ArrayValue) → Q w → Fits q.form.shape o → P w o) → EachIn Q q.indices → cells_of q.form gs q.ranges q.indices ≡ Ok found → AllAt P q.indices found
    cells q Q P found f e m = each_all (WithLoops.cell_at q.form gs q.ranges) Q P q.indices found (λ w o x n. f w o x (held_fits q.form (holder gs q.ranges w) w o (holder_full gs q.ranges w h) n)) e m

    go : (op : Operation) (q : Plan) (found : List (Option ArrayValue)) → OperandsFull op → plan (map (λ (g : Generator). g.bounds) gs) op ≡ Ok q → cells_of q.form gs q.ranges q.indices ≡ Ok found → IsFull (finish op q found)
    go (genarray shape default s) q found k e m =
        let w = gen_plan (map (λ (g : Generator). g.bounds) gs) (shape_of_numbers (vector_of shape)) default s q e in
        let a = cells q (λ w. Unit {0}) (λ w o. length (cell_or default o) ≡ size default.shape) found (λ x o y f. default_length default q.form.shape o k w.1 f) (anything q.indices) m in
        plain_length (cell_or default) (size default.shape) q.indices found a
        ∙ ap (λ n. n * size default.shape) (ap length w.3 ∙ length_indices w.0) ∙ sym (size-append w.0 default.shape) ∙ ap size (sym w.2)
    go (modarray array s) q found k e m =
        let n = index_length (map (λ (g : Generator). g.bounds) gs) (length array.shape) in
        let w = mod_plan (map (λ (g : Generator). g.bounds) gs) n array s q e in
        let ns = take n array.shape in
        let ms = drop n array.shape in
        let whole : array.shape ≡ ns ++ ms = sym (take-append-drop n array.shape) in
        let a = cells q (HasPart ns ms) (λ w o. length (cell_or_old array w o) ≡ size ms) found (λ x o y f. old_length array ns ms q.form.shape x o k whole w.0 y f) (subst (EachIn (HasPart ns ms)) (sym w.2) (front_parts ns ms)) m in
        pieces_length (cell_or_old array) (size ms) q.indices found a
        ∙ ap (λ j. j * size ms) (ap length w.2 ∙ length_indices ns) ∙ sym (size-append ns ms) ∙ ap size (sym whole ∙ sym w.1)
    go (fold_by o neutral s) q found k e m =
        folded_full o neutral q.indices found k (cells q (λ w. Unit {0}) (λ w o. FullCell o) found (λ x o y f. just_cell q.form.shape o f) (anything q.indices) m)
