-- Parts of a partition, each with what its first generator gives.
use Rattle.std.proofs.Common.{◌≡◌, ℕ, zero, suc, ◌+◌, ◌<◌, ◌≤◌, Bool, true, false, cond, List, [], ◌∷◌, map, length, Option, Some, None, refl, sym, ap, subst, ◌∙◌, ℤ, arith, nat_lt}
use Rattle.std.specs.Prelude.{if◌then◌else◌, not, ◌||◌}
use Rattle.std.proofs.lemmas.List.Sums.{sum_by-cons}
use Rattle.std.specs.List.{list_any, position, position_or_len, slice_get}
use Rattle.std.proofs.lemmas.Bool.Decides.{nat_tests}
use Rattle.sac_base.specs.declared.grid.Grid1.{Grid1}
use Rattle.sac_base.specs.Arrays.{ArrayValue}
use Rattle.sac_base.specs.Grids.{has_vector, times_vector}
use Rattle.sac_base.specs.WithLoops.{Generator, Range, holder}
use Rattle.core_ir.specs.Meaning.{Cells}
use Rattle.core_loops.specs.norm.Norm.{held_by, PartFits, Match, LabelFits, Labelled, NameFirst}

one_more : (n : ℕ) → suc n ≡ 1 + n
one_more n = omega arith

-- the first generator that holds stands where the first grid that has the vector stands
holder_at : (grids : List (List Grid1)) (rs : List Range) (gs : List Generator) (v : List ℤ) → Match grids rs gs → holder gs rs v ≡ slice_get gs (position_or_len (λ g. has_vector g v) grids)
holder_at [] [] [] v h = refl
holder_at [] [] (x ∷ xs) v h = absurd h
holder_at [] (r ∷ rs) gs v h = absurd h
holder_at (g ∷ grids) [] gs v h = absurd h
holder_at (g ∷ grids) (r ∷ rs) [] v h = absurd h
holder_at (g ∷ grids) (r ∷ rs) (x ∷ xs) v h =
    (λ i. if sym (h.0 v) i then Some x else holder xs rs v) ∙ go (has_vector g v) (holder_at grids rs xs v h.1)
  where
    go : (b : Bool) → holder xs rs v ≡ slice_get xs (position_or_len (λ g. has_vector g v) grids)
        → (if b then Some x else holder xs rs v) ≡ slice_get (x ∷ xs) (cond (not b) (1 + position_or_len (λ g. has_vector g v) grids) 0)
    go true e = refl
    go false e = e ∙ next (position_or_len (λ g. has_vector g v) grids)
      where
        next : (n : ℕ) → slice_get xs n ≡ slice_get (x ∷ xs) (1 + n)
        next n = ap (λ m. slice_get (x ∷ xs) m) (one_more n)

same_length : (grids : List (List Grid1)) (rs : List Range) (gs : List Generator) → Match grids rs gs → length grids ≡ length gs
same_length [] [] [] h = refl
same_length [] [] (x ∷ xs) h = absurd h
same_length [] (r ∷ rs) gs h = absurd h
same_length (g ∷ grids) [] gs h = absurd h
same_length (g ∷ grids) (r ∷ rs) [] h = absurd h
same_length (g ∷ grids) (r ∷ rs) (x ∷ xs) h = ap suc (same_length grids rs xs h.1)

beyond : {A : Type 0} (xs : List A) (n : ℕ) → length xs ≤ n → slice_get xs n ≡ None
beyond [] n h = refl
beyond (x ∷ xs) zero h = absurd (omega arith)
beyond (x ∷ xs) (suc n) h = beyond xs n (omega arith)

inside : {A : Type 0} (xs : List A) (n : ℕ) → n < length xs → (x : A) × (slice_get xs n ≡ Some x)
inside [] n h = absurd (omega arith)
inside (x ∷ xs) zero h = (x, refl)
inside (x ∷ xs) (suc n) h = inside xs n (omega arith)

number_or : Option ℕ → ℕ
number_or None = 0
number_or (Some n) = n

abbrev or_zero : Option ℕ → ℕ
or_zero None = 0
or_zero (Some n) = n

-- what the label of a part says of the generator that holds there
label_fits : (form : ArrayValue) (grids : List (List Grid1)) (rs : List Range) (gs : List Generator) (other : List ℤ → Option ArrayValue) (v : List ℤ) (label : Option ℕ) (c : Cells) → Match grids rs gs → label ≡ position (λ g. has_vector g v) grids → LabelFits form gs other v label c → PartFits form v (holder gs rs v) (other v) (Some c)
label_fits form grids rs gs other v label c m e h = go label h (nat_lt place (length grids)) refl e
  where
    place : ℕ
    place = position_or_len (λ g. has_vector g v) grids

    go : (label : Option ℕ) → LabelFits form gs other v label c → (b : Bool) → nat_lt (position_or_len (λ g. has_vector g v) grids) (length grids) ≡ b → label ≡ cond b (Some (position_or_len (λ g. has_vector g v) grids)) None → PartFits form v (holder gs rs v) (other v) (Some c)
    go None h true t q = absurd (let z : ◌≡◌ {A = Option ℕ} None (Some (position_or_len (λ g. has_vector g v) grids)) = q in cc)
    go (Some n) h false t q = absurd (let z : ◌≡◌ {A = Option ℕ} (Some n) None = q in cc)
    go (Some n) h true t q =
        let same : n ≡ position_or_len (λ g. has_vector g v) grids = ap or_zero q in
        let low : position_or_len (λ g. has_vector g v) grids < length grids = grind (arith, nat_tests) in
        let w = inside gs n (omega (arith, low, same, same_length grids rs gs m)) in
        let k = h w.0 w.1 in
        let held : holder gs rs v ≡ Some w.0 = holder_at grids rs gs v m ∙ ap (slice_get gs) (sym same) ∙ w.1 in
        subst (λ o. PartFits form v o (other v) (Some c)) (sym held) (k.1, k.0)
    go None h false t q =
        let high : length grids ≤ position_or_len (λ g. has_vector g v) grids = grind (arith, nat_tests) in
        let none : holder gs rs v ≡ None = holder_at grids rs gs v m ∙ beyond gs (position_or_len (λ g. has_vector g v) grids) (omega (arith, high, same_length grids rs gs m)) in
        subst (λ o. PartFits form v o (other v) (Some c)) (sym none) h

-- where the parts have a vector once, the part that has it is as its label says
pub parts_fit : (form : ArrayValue) (grids : List (List Grid1)) (rs : List Range) (gs : List Generator) (other : List ℤ → Option ArrayValue) (v : List ℤ) (parts : List (List Grid1 × Option ℕ)) (cs : List Cells) → Match grids rs gs → NameFirst grids parts → Labelled form gs other v parts cs
    → times_vector (map (λ (p : List Grid1 × Option ℕ). p.0) parts) v ≡ 1 → PartFits form v (holder gs rs v) (other v) (held_by cs v)
parts_fit form grids rs gs other v [] [] m f l t = absurd (let z : 0 ≡ 1 = t in omega arith)
parts_fit form grids rs gs other v [] (c ∷ cs) m f l t = absurd l
parts_fit form grids rs gs other v (p ∷ ps) [] m f l t = absurd l
parts_fit form grids rs gs other v (p ∷ ps) (c ∷ cs) m f l t =
    subst (λ (g : List Grid1). PartFits form v (holder gs rs v) (other v) (if has_vector g v then Some c else held_by cs v)) (sym l.0)
    (go (has_vector p.0 v) refl (λ s. parts_fit form grids rs gs other v ps cs m f.1 l.2 s) (sym (sum_by-cons (λ (g : List Grid1). cond (has_vector g v) 1 0) p.0 (map (λ (p : List Grid1 × Option ℕ). p.0) ps)) ∙ t))
  where
    go : (b : Bool) → has_vector p.0 v ≡ b → (times_vector (map (λ (p : List Grid1 × Option ℕ). p.0) ps) v ≡ 1 → PartFits form v (holder gs rs v) (other v) (held_by cs v))
        → cond b 1 0 + times_vector (map (λ (p : List Grid1 × Option ℕ). p.0) ps) v ≡ 1 → PartFits form v (holder gs rs v) (other v) (if b then Some c else held_by cs v)
    go true e r s = label_fits form grids rs gs other v p.1 c m (f.0 v e) l.1
    go false e r s = r (omega (arith, s))

-- where no part has a vector and no generator does, and nothing stands there
pub none_fits : (form : ArrayValue) (grids : List (List Grid1)) (rs : List Range) (gs : List Generator) (v : List ℤ) (cs : List Cells) → Match grids rs gs → list_any (λ g. has_vector g v) grids ≡ false → list_any (λ (c : Cells). has_vector c.grid v) cs ≡ false → PartFits form v (holder gs rs v) None (held_by cs v)
none_fits form grids rs gs v cs m none empty =
    subst (λ o. PartFits form v o None (held_by cs v)) (sym (holder_none grids rs gs m none)) (subst (λ o. PartFits form v None None o) (sym (held_none cs empty)) tt)
  where
    left : (b c : Bool) → (b || c) ≡ false → (b ≡ false) × (c ≡ false)
    left false c h = (refl, h)
    left true c h = absurd (cc)

    holder_none : (grids : List (List Grid1)) (rs : List Range) (gs : List Generator) → Match grids rs gs → list_any (λ g. has_vector g v) grids ≡ false → holder gs rs v ≡ None
    holder_none [] [] [] m h = refl
    holder_none [] [] (x ∷ xs) m h = absurd m
    holder_none [] (r ∷ rs) gs m h = absurd m
    holder_none (g ∷ grids) [] gs m h = absurd m
    holder_none (g ∷ grids) (r ∷ rs) [] m h = absurd m
    holder_none (g ∷ grids) (r ∷ rs) (x ∷ xs) m h =
        let w = left (has_vector g v) (list_any (λ g. has_vector g v) grids) h in
        (λ i. if (sym (m.0 v) ∙ w.0) i then Some x else holder xs rs v) ∙ holder_none grids rs xs m.1 w.1

    held_none : (cs : List Cells) → list_any (λ (c : Cells). has_vector c.grid v) cs ≡ false → held_by cs v ≡ None
    held_none [] h = refl
    held_none (c ∷ cs) h =
        let w = left (has_vector c.grid v) (list_any (λ (c : Cells). has_vector c.grid v) cs) h in
        (λ i. if w.0 i then Some c else held_by cs v) ∙ held_none cs w.1
