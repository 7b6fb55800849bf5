-- With-loops whose generators have the same bounds, and the same cells at vectors of the length that their names have.
use Rattle.std.proofs.Common.{◌≡◌, ℕ, zero, suc, Bool, true, false, ◌&&◌, List, [], ◌∷◌, ◌++◌, map, length, take, replicate, Option, Some, None, Ok, Err, refl, ap, sym, subst, ◌∙◌, arith}
use Rattle.std.specs.Prelude.{ℤ, pos, ◌-ℤ◌, ◌+ℤ◌, if◌then◌else◌, nat_le, ◌==◌, filter, not, int_le}
use Rattle.std.specs.List.{list_all}
use Rattle.std.proofs.lemmas.Bool.{eqb-true}
use Rattle.sac_base.specs.declared.faults.Fault.{Fault}
use Rattle.sac_base.specs.declared.faults.FaultKind.{FaultKind}
use Rattle.sac_base.specs.declared.faults.FaultKind.TheVariants.{F4, F5, F6, F8}
use Rattle.sac_base.specs.declared.site.Site.{Site}
use Rattle.sac_base.specs.Arrays.{ArrayValue, size, MOST}
use Rattle.sac_base.specs.Operators.{all_of, with_first}
use Rattle.sac_base.specs.Outcomes.{Ends, and_then, fault}
use Rattle.sac_base.specs.Parts.{vector_of, shape_of_numbers}
use Rattle.sac_base.specs.declared.form.Form.{Form}
use Rattle.sac_base.specs.WithLoops.{Bounds, Generator, Operation, genarray, modarray, fold_by, Range, axes, holds_at, holds, as_vector, part_or, raised, all_positive, names_fit, lower_of, upper_of, step_of, range_from, within_frame, all_within, range_of, each, Plan, genarray_plan, modarray_plan, fold_plan, plan, index_length, box_size, fold_frame, is_empty_box, fits_form, holder, held_cell, cell_at, cells_of, finish, with_value}

-- the vector has as many components as there are names
abbrev pub FitsNames : Option ℕ → List ℤ → Type 0
FitsNames None v = Unit {0}
FitsNames (Some n) v = length v ≡ n

-- the same bounds, and the same cells
pub record SameGen (g h : Generator) : Type 0 where
  pub bounds : g.bounds ≡ h.bounds
  pub cells : (v : List ℤ) → FitsNames g.bounds.names v → g.cell v ≡ h.cell v

abbrev pub SameGens : List Generator → List Generator → Type 0
SameGens [] [] = Unit {0}
SameGens (g ∷ gs) (h ∷ hs) = SameGen g h × SameGens gs hs
SameGens _ _ = ⊥

same_bounds : (gs hs : List Generator) → SameGens gs hs → map (λ (g : Generator). g.bounds) gs ≡ map (λ (g : Generator). g.bounds) hs
same_bounds [] [] s = refl
same_bounds (g ∷ gs) (h ∷ hs) s = λ i. s.0.bounds i ∷ same_bounds gs hs s.1 i
same_bounds [] (h ∷ hs) s = absurd s
same_bounds (g ∷ gs) [] s = absurd s

-- ---- ranges of checked generators

abbrev FitsRange : Option ℕ → Range → Type 0
FitsRange None r = Unit {0}
FitsRange (Some n) r = length r ≡ n

-- the ranges have as many axes as there are names
abbrev RangesFit : List Bounds → List Range → Type 0
RangesFit [] rs = Unit {0}
RangesFit (g ∷ gs) [] = Unit {0}
RangesFit (g ∷ gs) (r ∷ rs) = FitsRange g.names r × RangesFit gs rs

-- what a first step gives, and that the second goes on from it
record Passed {A B : Type 0} (x : Ends A) (f : A → Ends B) (b : B) : Type 0 where
  value : A
  first : x ≡ Ok value
  second : f value ≡ Ok b

no_fault : {B : Type 0} (x : Ends B) (k : Fault) (b : B) → x ≡ Err k → x ≡ Ok b → ⊥
no_fault x k b p q = cc

abbrev passed : {A B : Type 0} (x : Ends A) (f : A → Ends B) (b : B) → and_then x f ≡ Ok b → Passed x f b
passed (Ok a) f b p = record { value = a; first = refl; second = p }
passed (Err k) f b p = absurd (no_fault (and_then (Err k) f) k b refl p)

abbrev when : {A : Type 0} (c : Bool) (x : Ends A) (k : FaultKind) (site : Site) (a : A) → (if c then x else fault k site) ≡ Ok a → (c ≡ true) × (x ≡ Ok a)
when true x k site a p = (refl, p)
when false x k site a p = absurd (no_fault (fault k site) (record { kind = k; site = site }) a refl p)

vector_length : (n : ℕ) (zs : Option (List ℤ)) (l : List ℤ) → as_vector n zs ≡ Some l → length l ≡ n
vector_length n None l p = absurd (cc)
vector_length n (Some ms) l p = go (length ms == n) refl p
  where
    go : (b : Bool) → (length ms == n) ≡ b → (if b then Some ms else None) ≡ Some l → length l ≡ n
    go true e q = let same : ms ≡ l = cc in ap length (sym same) ∙ eqb-true (length ms) n e
    go false e q = absurd (cc)

map_length : (f : ℤ → ℤ) (zs : List ℤ) → length (map f zs) ≡ length zs
map_length f [] = refl
map_length f (z ∷ zs) = ap suc (map_length f zs)

raised_length : (n : ℕ) (b : Bool) (zs : Option (List ℤ)) (l : List ℤ) → ((m : List ℤ) → zs ≡ Some m → length m ≡ n) → raised b zs ≡ Some l → length l ≡ n
raised_length n false zs l h p = h l p
raised_length n true None l h p = absurd (cc)
raised_length n true (Some ms) l h p =
    let same : map (λ z. z +ℤ pos 1) ms ≡ l = cc in
    ap length (sym same) ∙ map_length (λ z. z +ℤ pos 1) ms ∙ h ms refl

part_length : (n : ℕ) (other : List ℤ) (part : Option ArrayValue) (l : List ℤ) → part_or n other part ≡ Some l → length l ≡ n
part_length n other None l p = vector_length n (Some other) l p
part_length n other (Some a) l p = vector_length n (vector_of a) l p

positive_length : (n : ℕ) (zs : Option (List ℤ)) (l : List ℤ) → ((m : List ℤ) → zs ≡ Some m → length m ≡ n) → all_positive zs ≡ Some l → length l ≡ n
positive_length n None l h p = absurd (cc)
positive_length n (Some ms) l h p = go (list_all (int_le (pos 1)) ms) p
  where
    go : (b : Bool) → (if b then Some ms else None) ≡ Some l → length l ≡ n
    go true q = h l q
    go false q = absurd (cc)

axes_length : (n : ℕ) (l u s w : List ℤ) → length l ≡ n → length u ≡ n → length s ≡ n → length w ≡ n → length (axes l u s w) ≡ n
axes_length n [] u s w p q r t = p
axes_length zero (l ∷ ls) u s w p q r t = absurd (omega arith)
axes_length (suc n) (l ∷ ls) (u ∷ us) (s ∷ ss) (w ∷ ws) p q r t = ap suc (axes_length n ls us ss ws (omega arith) (omega arith) (omega arith) (omega arith))
axes_length (suc n) (l ∷ ls) [] s w p q r t = absurd (omega arith)
axes_length (suc n) (l ∷ ls) (u ∷ us) [] w p q r t = absurd (omega arith)
axes_length (suc n) (l ∷ ls) (u ∷ us) (s ∷ ss) [] p q r t = absurd (omega arith)

abbrev OfLength : ℕ → Option (List ℤ) → Type 0
OfLength n zs = (m : List ℤ) → zs ≡ Some m → length m ≡ n

range_length : (n : ℕ) (l u s w : Option (List ℤ)) (r : Range) → OfLength n l → OfLength n u → OfLength n s → OfLength n w → range_from l u s w ≡ Some r → length r ≡ n
range_length n (Some l) (Some u) (Some s) (Some w) r a b c d p =
    let same : axes l u s w ≡ r = cc in
    ap length (sym same) ∙ axes_length n l u s w (a l refl) (b u refl) (c s refl) (d w refl)
range_length n None u s w r a b c d p = absurd (cc)
range_length n (Some l) None s w r a b c d p = absurd (cc)
range_length n (Some l) (Some u) None w r a b c d p = absurd (cc)
range_length n (Some l) (Some u) (Some s) None r a b c d p = absurd (cc)

within_range : (frame : Option (List ℕ)) (site : Site) (o : Option Range) (r : Range) → within_frame frame site o ≡ Ok r → o ≡ Some r
within_range frame site None r p = absurd (cc)
within_range frame site (Some q) r p =
    let a = (when (all_within frame q) (Ok q) F5 site r p).1 in
    let same : q ≡ r = cc in ap Some same

and_true : (a b : Bool) → (a && b) ≡ true → (a ≡ true) × (b ≡ true)
and_true true b p = (refl, p)
and_true false b p = absurd (cc)

names_length : (n : ℕ) (names : Option ℕ) (r : Range) → names_fit n names ≡ true → length r ≡ n → FitsRange names r
names_length n None r p q = tt
names_length n (Some m) r p q = q ∙ sym (eqb-true m n p)

range_fits : (n most : ℕ) (frame : Option (List ℕ)) (dots : List ℕ) (g : Bounds) (r : Range) → range_of n most frame dots g ≡ Ok r → FitsRange g.names r
range_fits n most frame dots g r p =
    let a = when (nat_le n 8 && nat_le n most && names_fit n g.names) _ F5 g.site r p in
    let l = lower_of n g in
    let u = upper_of n dots g in
    let b = within_range frame g.site (range_from l u (step_of n g.step) (step_of n g.width)) r a.1 in
    names_length n g.names r (and_true (nat_le n 8 && nat_le n most) (names_fit n g.names) a.0).1
    (range_length n l u (step_of n g.step) (step_of n g.width) r
    (λ m q. raised_length n (not g.lower_closed) (part_or n (replicate n (pos 0)) g.lower) m (λ k e. part_length n (replicate n (pos 0)) g.lower k e) q)
    (λ m q. raised_length n g.upper_closed (part_or n (map (λ k. pos k -ℤ pos 1) dots) g.upper) m (λ k e. part_length n (map (λ k. pos k -ℤ pos 1) dots) g.upper k e) q)
    (λ m q. positive_length n (part_or n (replicate n (pos 1)) g.step) m (λ k e. part_length n (replicate n (pos 1)) g.step k e) q)
    (λ m q. positive_length n (part_or n (replicate n (pos 1)) g.width) m (λ k e. part_length n (replicate n (pos 1)) g.width k e) q)
    b)

each_fits : (n most : ℕ) (frame : Option (List ℕ)) (dots : List ℕ) (gs : List Bounds) (rs : List Range) → each (range_of n most frame dots) gs ≡ Ok rs → RangesFit gs rs
each_fits n most frame dots [] rs p = tt
each_fits n most frame dots (g ∷ gs) rs p = go (λ qs q. each_fits n most frame dots gs qs q) (range_of n most frame dots g) refl (each (range_of n most frame dots) gs) refl p
  where
    go : ((qs : List Range) → each (range_of n most frame dots) gs ≡ Ok qs → RangesFit gs qs) → (x : Ends Range) → range_of n most frame dots g ≡ x → (y : Ends (List Range)) → each (range_of n most frame dots) gs ≡ y → all_of (x ∷ map (range_of n most frame dots) gs) ≡ Ok rs → RangesFit (g ∷ gs) rs
    go again (Err k) e y f q = absurd (cc)
    go again (Ok r) e (Err k) f q = absurd (let w : with_first r (all_of (map (range_of n most frame dots) gs)) ≡ Err k = ap (with_first r) f in cc)
    go again (Ok r) e (Ok rest) f q =
        let w : with_first r (all_of (map (range_of n most frame dots) gs)) ≡ Ok (r ∷ rest) = ap (with_first r) f in
        let same : r ∷ rest ≡ rs = cc in
        subst (λ (l : List Range). RangesFit (g ∷ gs) l) same (range_fits n most frame dots g r e, again rest f)

abbrev ranges_of : Ends Plan → List Range
ranges_of (Ok p) = p.ranges
ranges_of (Err k) = []

genarray_fits : (gs : List Bounds) (frame : Option (List ℕ)) (default : ArrayValue) (site : Site) (p : Plan) → genarray_plan gs frame default site ≡ Ok p → RangesFit gs p.ranges
genarray_fits gs None default site p e = absurd (cc)
genarray_fits gs (Some frame) default site p e =
    let a = when (nat_le (length (frame ++ default.shape)) 8) _ F4 site p e in
    let b = when (nat_le (size frame) MOST && nat_le (size (frame ++ default.shape)) MOST) _ F8 site p a.1 in
    let c = passed (each (range_of (length frame) 8 (Some frame) frame) gs) _ p b.1 in
    subst (λ (rs : List Range). RangesFit gs rs) (ap ranges_of c.second) (each_fits (length frame) 8 (Some frame) frame gs c.value c.first)

modarray_fits : (gs : List Bounds) (n : ℕ) (array : ArrayValue) (site : Site) (p : Plan) → modarray_plan gs n array site ≡ Ok p → RangesFit gs p.ranges
modarray_fits gs n array site p e =
    let frame = take n array.shape in
    let c = passed (each (range_of n (length array.shape) (Some frame) frame) gs) _ p e in
    let b = when (nat_le (size frame) MOST) _ F8 site p c.second in
    subst (λ (rs : List Range). RangesFit gs rs) (ap ranges_of b.1) (each_fits n (length array.shape) (Some frame) frame gs c.value c.first)

fold_fits : (gs : List Bounds) (n : ℕ) (neutral : ArrayValue) (site : Site) (p : Plan) → fold_plan gs n neutral site ≡ Ok p → RangesFit gs p.ranges
fold_fits gs n neutral site p e =
    let c = passed (each (range_of n 8 None []) gs) _ p e in
    let b = when (nat_le (box_size (fold_frame (filter (λ r. not (is_empty_box r)) c.value))) MOST) _ F8 site p c.second in
    subst (λ (rs : List Range). RangesFit gs rs) (ap ranges_of b.1) (each_fits n 8 None [] gs c.value c.first)

plan_fits : (gs : List Bounds) (op : Operation) (p : Plan) → plan gs op ≡ Ok p → RangesFit gs p.ranges
plan_fits gs (genarray shape default site) p e = genarray_fits gs (shape_of_numbers (vector_of shape)) default site p e
plan_fits gs (modarray array site) p e = modarray_fits gs (index_length gs (length array.shape)) array site p e
plan_fits gs (fold_by op neutral site) p e = fold_fits gs (index_length gs 0) neutral site p e

-- ---- cells

same_lengths : (r : Range) (v : List ℤ) → holds r v ≡ true → length v ≡ length r
same_lengths [] [] h = refl
same_lengths (a ∷ r) (z ∷ v) h = ap suc (same_lengths r v (and_true (holds_at a z) (holds r v) h).1)
same_lengths [] (z ∷ v) h = absurd (cc)
same_lengths (a ∷ r) [] h = absurd (cc)

fits_along : (names : Option ℕ) (r : Range) (v : List ℤ) → length v ≡ length r → FitsRange names r → FitsNames names v
fits_along None r v p f = tt
fits_along (Some n) r v p f = p ∙ f

cell_same : (form : Form) (gs hs : List Generator) (rs : List Range) (v : List ℤ) → SameGens gs hs → RangesFit (map (λ (g : Generator). g.bounds) gs) rs → cell_at form gs rs v ≡ cell_at form hs rs v
cell_same form [] [] rs v s f = refl
cell_same form (g ∷ gs) (h ∷ hs) [] v s f = refl
cell_same form (g ∷ gs) (h ∷ hs) (r ∷ rs) v s f = go (cell_same form gs hs rs v s.1 f.1) (holds r v) refl
  where
    go : cell_at form gs rs v ≡ cell_at form hs rs v → (b : Bool) → holds r v ≡ b → held_cell form (if b then Some g else holder gs rs v) v ≡ held_cell form (if b then Some h else holder hs rs v) v
    go rest true e =
        let k = s.0.cells v (fits_along g.bounds.names r v (same_lengths r v e) f.0) in
        λ i. and_then (k i) (λ c. if fits_form form c then Ok (Some c) else fault F6 (s.0.bounds i).site)
    go rest false e = rest
cell_same form [] (h ∷ hs) rs v s f = absurd s
cell_same form (g ∷ gs) [] rs v s f = absurd s

each_same : {A B : Type 0} (f g : A → Ends B) (xs : List A) → ((x : A) → f x ≡ g x) → each f xs ≡ each g xs
each_same f g xs h = λ i. all_of (map (λ x. h x i) xs)

-- go on from what a step gives
pub next_same : {A B : Type 0} (x : Ends A) (f g : A → Ends B) → ((a : A) → x ≡ Ok a → f a ≡ g a) → and_then x f ≡ and_then x g
next_same (Ok a) f g h = h a refl
next_same (Err k) f g h = refl

pub with_same : (gs hs : List Generator) (op : Operation) → SameGens gs hs → with_value gs op ≡ with_value hs op
with_same gs hs op s =
    next_same (plan (map (λ (g : Generator). g.bounds) gs) op) _ (λ p. and_then (cells_of p.form hs p.ranges p.indices) (λ found. Ok (finish op p found)))
    (λ p e. λ i. and_then (each_same (cell_at p.form gs p.ranges) (cell_at p.form hs p.ranges) p.indices (λ v. cell_same p.form gs hs p.ranges v s (plan_fits (map (λ (g : Generator). g.bounds) gs) op p e)) i) (λ found. Ok (finish op p found)))
    ∙ (λ i. and_then (plan (same_bounds gs hs s i) op) (λ p. and_then (cells_of p.form hs p.ranges p.indices) (λ found. Ok (finish op p found))))
