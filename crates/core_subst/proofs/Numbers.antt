-- Sets of numbers, as lists of variables.
use Rattle.std.proofs.Common.{◌≡◌, ℕ, Bool, true, false, not, cond, ◌||◌, ◌&&◌, eqb, suc, ◌+◌, ◌<◌, length, get_or, drop, List, [], ◌∷◌, map, refl, ap, sym, subst, ◌∙◌, arith}
use Rattle.std.specs.List.{list_any}
use Rattle.std.proofs.Math.Seq.{drop-cons}
use Rattle.std.proofs.lemmas.Bool.Decides.{nat_tests}
use Rattle.std.specs.Ordering.{nat_cmp}
use Rattle.std.specs.BTreeMap.{is_at}
use Rattle.std.specs.List.Sorted.{IsStrictlySortedBy, IsStrictlyIncreasing}
use Rattle.std.proofs.lemmas.Map.Keys.{IsStrictlyIncreasing-from_sorted}
use Rattle.core_ir.specs.declared.tree.Var.{Var}
use Rattle.core_ir.specs.Binders.{is_in}
use Rattle.core_subst.specs.Names.{variable, AreAscending}

numbers_back : (ns : List ℕ) → map (λ (x : Var). x.0) (map variable ns) ≡ ns
numbers_back [] = refl
numbers_back (n ∷ ns) = ap (λ l. n ∷ l) (numbers_back ns)

pub ascending : (ns : List ℕ) (xs : List Var) → xs ≡ map variable ns → IsStrictlySortedBy nat_cmp ns → AreAscending xs
ascending ns xs p h =
    subst (λ (l : List ℕ). IsStrictlyIncreasing l) (sym (ap (map (λ (x : Var). x.0)) p ∙ numbers_back ns)) (IsStrictlyIncreasing-from_sorted ns h)

same_test : (k n : ℕ) → eqb k n ≡ is_at (nat_cmp n) k
same_test k n = grind (arith, nat_tests)

-- a variable is in the list where its number is in the set
pub in_set : (ns : List ℕ) (x : Var) → is_in x (map variable ns) ≡ list_any (is_at (nat_cmp x.0)) ns
in_set [] x = refl
in_set (n ∷ ns) x = λ i. same_test n x.0 i || in_set ns x i

-- the numbers that are inserted, and not removed after it
pub left_over : (x : Var) (used bound : List Var) (a b c : Bool) → a ≡ false → b ≡ (a || is_in x used) → c ≡ (b && not (is_in x bound)) → c ≡ (is_in x used && not (is_in x bound))
left_over x used bound a b c p q r = r ∙ (λ i. (q ∙ (λ j. p j || is_in x used)) i && not (is_in x bound))

-- ---- loops over sets

same_at : (k n : ℕ) → is_at (nat_cmp k) n ≡ eqb k n
same_at k n = grind (arith, nat_tests)

item_first : (xs : List Var) (i n : ℕ) (d : Var) → i < length xs → is_in (variable n) (drop i xs) ≡ (eqb (get_or xs i d).0 n || is_in (variable n) (drop (i + 1) xs))
item_first xs i n d h =
    let next : suc i ≡ i + 1 = omega arith in
    ap (is_in (variable n)) (drop-cons xs i d h) ∙ (λ j. eqb (get_or xs i d).0 n || is_in (variable n) (drop (next j) xs))

inserted_bit : (e old rest : Bool) → (cond e true old || rest) ≡ (old || (e || rest))
inserted_bit true true rest = refl
inserted_bit true false rest = refl
inserted_bit false old rest = refl

removed_bit : (e old rest : Bool) → (cond e false old && not rest) ≡ (old && not (e || rest))
removed_bit true true rest = refl
removed_bit true false rest = refl
removed_bit false old rest = refl

-- one number more is in the set
pub insert_turn : (xs : List Var) (i : ℕ) (d : Var) (old new whole : ℕ → Bool) → i < length xs → ((q : ℕ) → new q ≡ cond (is_at (nat_cmp (get_or xs i d).0) q) true (old q)) → ((n : ℕ) → (old n || is_in (variable n) (drop i xs)) ≡ whole n) → (n : ℕ) → (new n || is_in (variable n) (drop (i + 1) xs)) ≡ whole n
insert_turn xs i d old new whole h u p n =
    let x = (get_or xs i d).0 in
    (λ j. (u n ∙ (λ k. cond (same_at (get_or xs i d).0 n k) true (old n))) j || is_in (variable n) (drop (i + 1) xs))
    ∙ inserted_bit (eqb (get_or xs i d).0 n) (old n) (is_in (variable n) (drop (i + 1) xs))
    ∙ (λ j. old n || sym (item_first xs i n d h) j)
    ∙ p n

-- one number less is in the set
pub remove_turn : (xs : List Var) (i : ℕ) (d : Var) (old new whole : ℕ → Bool) → i < length xs → ((q : ℕ) → new q ≡ cond (is_at (nat_cmp (get_or xs i d).0) q) false (old q)) → ((n : ℕ) → (old n && not (is_in (variable n) (drop i xs))) ≡ whole n) → (n : ℕ) → (new n && not (is_in (variable n) (drop (i + 1) xs))) ≡ whole n
remove_turn xs i d old new whole h u p n =
    (λ j. (u n ∙ (λ k. cond (same_at (get_or xs i d).0 n k) false (old n))) j && not (is_in (variable n) (drop (i + 1) xs)))
    ∙ removed_bit (eqb (get_or xs i d).0 n) (old n) (is_in (variable n) (drop (i + 1) xs))
    ∙ (λ j. old n && not (sym (item_first xs i n d h) j))
    ∙ p n
