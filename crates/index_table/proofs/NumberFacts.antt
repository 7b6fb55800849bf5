-- Literal values as numbers, and rows of components.
use Rattle.std.proofs.Common.{◌≡◌, ℕ, zero, suc, ◌+◌, ◌*◌, ◌<◌, ◌≤◌, Bool, true, false, List, [], ◌∷◌, ◌++◌, length, drop, min, replicate, refl, sym, ap, subst, ◌∙◌, append-nil, append_assoc, arith}
use Rattle.std.proofs.Common.{ℤ, pos, ◌+ℤ◌, ◌-ℤ◌, Option, Some, None}
use Rattle.std.specs.Prelude.{neg_ℤ, if◌then◌else◌, ◌==◌, get_or}
use Rattle.std.proofs.lemmas.List.{drop_more}
use Rattle.std.proofs.lemmas.Int.{ints}
use Rattle.std.proofs.lemmas.Slice.Eq.{bytes_eq-Decides}
use Rattle.sac_base.specs.Arrays.{ArrayValue, IsFull, scalar, first_cell, same_shape}
use Rattle.sac_base.specs.Operators.{wrap}
use Rattle.core_loops.specs.Indices.{IndexFact, Plus, Component, Other, with_signs, wrapped, literal_list, plus_literal, prefixed, components_from, row_fact}
use Rattle.index_table.specs.declared.numbers.Change.{Change}
use Rattle.index_table.specs.declared.numbers.Change.TheVariants.{Added, Taken}
use Rattle.index_table.specs.Numbers.{is_added, step, steps, behind}

-- ---- sums and differences

taken_is : (a b : ℤ) → a -ℤ b ≡ a +ℤ neg_ℤ b
taken_is a b = omega (arith, ints)

pub steps_are : (change : Change) (cs ds : List ℤ) → steps change cs ds ≡ wrapped cs (with_signs (is_added change) ds)
steps_are Added [] ds = refl
steps_are Added (c ∷ cs) [] = refl
steps_are Added (c ∷ cs) (d ∷ ds) = ap (λ zs. wrap (c +ℤ d) ∷ zs) (steps_are Added cs ds)
steps_are Taken [] ds = refl
steps_are Taken (c ∷ cs) [] = refl
steps_are Taken (c ∷ cs) (d ∷ ds) = λ i. wrap (taken_is c d i) ∷ steps_are Taken cs ds i

no_steps : (change : Change) (cs : List ℤ) → steps change cs [] ≡ []
no_steps change [] = refl
no_steps change (c ∷ cs) = refl

pub steps_end : (change : Change) (cs ds : List ℤ) (k : ℕ) → min (length cs) (length ds) ≤ k → steps change (drop k cs) (drop k ds) ≡ []
steps_end change [] ds zero le = refl
steps_end change [] ds (suc k) le = refl
steps_end change (c ∷ cs) [] zero le = refl
steps_end change (c ∷ cs) [] (suc k) le = no_steps change (drop k cs)
steps_end change (c ∷ cs) (d ∷ ds) zero le = absurd (omega (arith, le))
steps_end change (c ∷ cs) (d ∷ ds) (suc k) le = steps_end change cs ds k (omega (arith, le))

-- ---- a literal value as numbers

pub list_of_scalar : (n : ℕ) (l : ArrayValue) (z : ℤ) → l ≡ scalar l.base z → Some (replicate n z) ≡ literal_list n l
list_of_scalar n l z e = ap (literal_list n) (sym e)

same : (s t : List ℕ) → s ≡ t → same_shape s t ≡ true
same s t e = (bytes_eq-Decides s t).1 e

other : (s t : List ℕ) → (s ≡ t → ⊥) → same_shape s t ≡ false
other s t h = go (same_shape s t) refl
  where
    go : (b : Bool) → same_shape s t ≡ b → b ≡ false
    go true e = absurd (h ((bytes_eq-Decides s t).0 e))
    go false e = refl

abbrev chosen : List ℤ → ℕ → Bool → Bool → Option (List ℤ)
chosen cells n first second = if first then Some (replicate n (first_cell cells)) else if second then Some cells else None

pub list_of_vector : (n : ℕ) (l : ArrayValue) → IsFull l → length l.shape ≡ 1 → length l.cells ≡ n → Some l.cells ≡ literal_list n l
list_of_vector n l f one long = go l.shape refl
  where
    go : (s : List ℕ) → l.shape ≡ s → Some l.cells ≡ literal_list n l
    go [] e = absurd (let z = ap length e in omega (arith, one, z))
    go (m ∷ k ∷ s) e = absurd (let z = ap length e in omega (arith, one, z))
    go (m ∷ []) e =
        let cells : length l.cells ≡ m * 1 = subst (λ s. length l.cells ≡ Rattle.sac_base.specs.Arrays.size s) e f in
        let whole : m ≡ n = omega (arith, cells, long) in
        let shape : l.shape ≡ n ∷ [] = e ∙ ap (λ j. j ∷ []) whole in
        let none : l.shape ≡ [] → ⊥ = λ q. let z = ap length q in omega (arith, one, z) in
        λ i. chosen l.cells n (sym (other l.shape [] none) i) (sym (same l.shape (n ∷ []) shape) i)

pub list_of_other : (n : ℕ) (l : ArrayValue) → IsFull l → 1 ≤ length l.shape → (length l.shape ≡ 1 → length l.cells ≡ n → ⊥) → None ≡ literal_list n l
list_of_other n l f some h =
    let none : l.shape ≡ [] → ⊥ = λ q. let z = ap length q in omega (arith, some, z) in
    let many : l.shape ≡ n ∷ [] → ⊥ = λ q.
    let cells : length l.cells ≡ n * 1 = subst (λ s. length l.cells ≡ Rattle.sac_base.specs.Arrays.size s) q f in
    h (ap length q) (omega (arith, cells)) in
    λ i. chosen l.cells n (sym (other l.shape [] none) i) (sym (other l.shape (n ∷ []) many) i)

-- ---- relations

-- a literal that is no number and no vector of so many leaves no relation
pub plus_none : (change : Change) (cs : List ℤ) (l : ArrayValue) → None ≡ literal_list (length cs) l → Other ≡ plus_literal (is_added change) (Plus cs) (Some l)
plus_none change cs l e = λ i. Rattle.core_loops.specs.Indices.plus_list cs (Rattle.core_loops.specs.Indices.signed (is_added change) (e i))

pub plus_some : (change : Change) (cs ds : List ℤ) (l : ArrayValue) → Some ds ≡ literal_list (length cs) l → Plus (steps change cs ds) ≡ plus_literal (is_added change) (Plus cs) (Some l)
plus_some change cs ds l e =
    ap Plus (steps_are change cs ds)
    ∙ (λ i. Rattle.core_loops.specs.Indices.plus_list cs (Rattle.core_loops.specs.Indices.signed (is_added change) (e i)))

first_changed : (change : Change) (d z : ℤ) → wrap (d +ℤ first_cell (with_signs (is_added change) (z ∷ []))) ≡ step change d z
first_changed Added d z = refl
first_changed Taken d z = ap wrap (sym (taken_is d z))

pub component_some : (change : Change) (k : ℕ) (d z : ℤ) (l : ArrayValue) → l ≡ scalar l.base z → Component k (step change d z) ≡ plus_literal (is_added change) (Component k d) (Some l)
component_some change k d z l e =
    ap (Component k) (sym (first_changed change d z)) ∙ ap (λ (a : ArrayValue). plus_literal (is_added change) (Component k d) (Some a)) (sym e)

pub component_none : (change : Change) (k : ℕ) (d : ℤ) (l : ArrayValue) → 1 ≤ length l.shape → Other ≡ plus_literal (is_added change) (Component k d) (Some l)
component_none change k d l some =
    let none : l.shape ≡ [] → ⊥ = λ q. let z = ap length q in omega (arith, some, z) in
    λ i. if sym (other l.shape [] none) i then Component k (wrap (d +ℤ first_cell (with_signs (is_added change) l.cells))) else Other

-- ---- rows

pub behind_prefixed : (ns : List ℤ) (d : ℤ) (o : Option (List ℤ)) → behind ns (prefixed d o) ≡ behind (ns ++ d ∷ []) o
behind_prefixed ns d None = refl
behind_prefixed ns d (Some ds) = ap Some (sym (append_assoc ns (d ∷ []) ds))

-- a component in its place
pub row_turn : (ns : List ℤ) (k j : ℕ) (d : ℤ) (f : IndexFact) (rest : List IndexFact) (whole : Option (List ℤ)) → f ≡ Component j d → (j == k) ≡ true → behind ns (components_from k (f ∷ rest)) ≡ whole
    → behind (ns ++ d ∷ []) (components_from (suc k) rest) ≡ whole
row_turn ns k j d f rest whole p e h =
    sym (behind_prefixed ns d (components_from (suc k) rest))
    ∙ (λ i. behind ns (if sym e i then prefixed d (components_from (suc k) rest) else None))
    ∙ (λ i. behind ns (components_from k (sym p i ∷ rest)))
    ∙ h

-- something else in its place
pub row_ends : (ns : List ℤ) (n k : ℕ) (f : IndexFact) (rest : List IndexFact) (whole : Option (List ℤ)) → components_from k (f ∷ rest) ≡ None → behind ns (components_from k (f ∷ rest)) ≡ whole → Other ≡ row_fact n whole
row_ends ns n k f rest whole e h = ap (row_fact n) (λ i. behind ns (sym e i)) ∙ ap (row_fact n) h

pub row_whole : (ns : List ℤ) (n : ℕ) (whole : Option (List ℤ)) → behind ns (Some []) ≡ whole → (length ns == n) ≡ true → Plus ns ≡ row_fact n whole
row_whole ns n whole h e =
    (λ i. if sym e i then Plus ns else Other) ∙ ap (λ (zs : List ℤ). row_fact n (Some zs)) (sym (append-nil ns)) ∙ ap (row_fact n) h

pub row_short : (ns : List ℤ) (n : ℕ) (whole : Option (List ℤ)) → behind ns (Some []) ≡ whole → (length ns == n) ≡ false → Other ≡ row_fact n whole
row_short ns n whole h e =
    (λ i. if sym e i then Plus ns else Other) ∙ ap (λ (zs : List ℤ). row_fact n (Some zs)) (sym (append-nil ns)) ∙ ap (row_fact n) h

-- a number more is changed
pub steps_turn : (change : Change) (cs ds sums more : List ℤ) (k : ℕ) (z : ℤ) (whole : List ℤ) → k < length cs → k < length ds → more ≡ sums ++ z ∷ [] → z ≡ step change (get_or cs k (pos 0)) (get_or ds k (pos 0))
    → sums ++ steps change (drop k cs) (drop k ds) ≡ whole → more ++ steps change (drop (k + 1) cs) (drop (k + 1) ds) ≡ whole
steps_turn change cs ds sums more k z whole c d m e h =
    ap (λ (zs : List ℤ). zs ++ steps change (drop (k + 1) cs) (drop (k + 1) ds)) m
    ∙ append_assoc sums (z ∷ []) (steps change (drop (k + 1) cs) (drop (k + 1) ds))
    ∙ (λ i. sums ++ (e i ∷ steps change (drop (k + 1) cs) (drop (k + 1) ds)))
    ∙ (λ i. sums ++ steps change (sym (drop_more cs k (pos 0) c) i) (sym (drop_more ds k (pos 0) d) i))
    ∙ h
