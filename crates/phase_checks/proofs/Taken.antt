-- Lists of references, taken apart.
use Rattle.std.proofs.Common.{◌≡◌, ℕ, ◌+◌, ◌<◌, Bool, true, false, cond, eqb, true≢false, List, [], ◌∷◌, ◌++◌, length, take, refl, ap, ◌∙◌, sym, subst}
use Rattle.std.specs.Prelude.{◌||◌, slice_index_or}
use Rattle.std.proofs.lemmas.List.{take_more}
use Rattle.core_ir.specs.declared.tree.Var.{Var}
use Rattle.core_ir.specs.Binders.{is_in}
use Rattle.counted_code.specs.Counts.{Reordered, stays, swaps, through}
use Rattle.counted_laws.specs.placing.Placing.{without}
use Rattle.counted_laws.proofs.placing.Lists.{append_assoc, same_var}
use Rattle.counted_laws.proofs.placing.Orders.{same_order, behind, reversed}

-- in one list or the other
pub in_either : (x : Var) (xs ys : List Var) → is_in x (xs ++ ys) ≡ (is_in x xs || is_in x ys)
in_either x [] ys = refl
in_either x (z ∷ zs) ys = go (eqb z.0 x.0) (in_either x zs ys)
  where
    go : (b : Bool) → is_in x (zs ++ ys) ≡ (is_in x zs || is_in x ys) → (b || is_in x (zs ++ ys)) ≡ ((b || is_in x zs) || is_in x ys)
    go true e = refl
    go false e = e

without_order : (y : Var) (xs : List Var) → is_in y xs ≡ true → Reordered xs (y ∷ without y xs)
without_order y [] p = elim (true≢false (sym p)) [ ]
without_order y (z ∷ zs) p = go (eqb z.0 y.0) refl p (without_order y zs)
  where
    go : (b : Bool) → eqb z.0 y.0 ≡ b → (b || is_in y zs) ≡ true → (is_in y zs ≡ true → Reordered zs (y ∷ without y zs)) → Reordered (z ∷ zs) (y ∷ cond b zs (z ∷ without y zs))
    go true e q rest = subst (λ (v : Var). Reordered (z ∷ zs) (v ∷ zs)) (same_var z y e) (same_order (z ∷ zs))
    go false e q rest = through (stays (rest q)) swaps

-- one reference is taken
pub one_taken : (x : Var) (xs rest : List Var) → is_in x xs ≡ true → rest ≡ without x xs → Reordered xs (x ∷ rest)
one_taken x xs rest there e = subst (λ l. Reordered xs (x ∷ l)) (sym e) (without_order x xs there)

-- before the first is taken
pub taken_none : (xs refs : List Var) → Reordered refs (take 0 xs ++ refs)
taken_none xs refs = same_order refs

-- one more is taken
pub taken_more : (whole xs refs next : List Var) (i : ℕ) (d : Var) → i < length xs → Reordered whole (take i xs ++ refs) → is_in (slice_index_or xs i d) refs ≡ true → next ≡ without (slice_index_or xs i d) refs → Reordered whole (take (i + 1) xs ++ next)
taken_more whole xs refs next i d lt o there e =
    let x = slice_index_or xs i d in
    let more = behind (take i xs) (without_order x refs there) in
    let front = append_assoc (take i xs) (x ∷ []) (without x refs) ∙ (λ j. sym (take_more xs i d lt) j ++ sym e j) in
    through o (subst (λ l. Reordered (take i xs ++ refs) l) front more)

-- all are taken, and none is left
pub all_taken : (refs own left : List Var) → Reordered refs (own ++ left) → left ≡ [] → Reordered own refs
all_taken refs own left o e = reversed (subst (λ l. Reordered refs l) ((λ i. own ++ e i) ∙ nothing_more own) o)
  where
    nothing_more : (xs : List Var) → xs ++ [] ≡ xs
    nothing_more [] = refl
    nothing_more (x ∷ xs) = ap (λ l. x ∷ l) (nothing_more xs)
