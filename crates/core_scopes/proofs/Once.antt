-- Names that are kept once, by the set of those that were met, and their places.
use Rattle.std.proofs.Common.{◌≡◌, ℕ, suc, ◌+◌, ◌<◌, ◌≤◌, List, [], ◌∷◌, ◌++◌, map, length, drop, get_or, Bool, true, false, cond, refl, ap, sym, ◌∙◌, Some, None, Bor, nat_lt, arith, true≢false}
use Rattle.std.specs.Prelude.{◌||◌, if◌then◌else◌, bytes_eq, not, position, unwrap_or}
use Rattle.std.specs.List.{list_any, position_or_len}
use Rattle.std.proofs.lemmas.List.{drop_more}
use Rattle.std.proofs.lemmas.List.Folds.{list_any-append}
use Rattle.std.proofs.lemmas.List.Recursion.{is_position_or_len}
use Rattle.std.proofs.lemmas.List.Sums.{prefix_len-le-length}
use Rattle.std.proofs.lemmas.Bool.Decides.{Decides-ltb}
use Rattle.std.proofs.lemmas.Slice.Eq.{bytes_eq-Decides}
use Rattle.indexmap.specs.IndexSet.{insert_key}
use Rattle.sac_base.specs.declared.name.Name.{Name}
use Rattle.sac_ast.specs.Tree.{FunctionTree}
use Rattle.core_lowering.specs.Lowering.{has_name, once}
use Rattle.core_lowering.specs.Programs.{place_in}
use Rattle.core_scopes.specs.Looks.{texts}

-- ---- names, each once

-- the names in a list
abbrev pub among : List (Bor (List ℕ)) → Name → Bool
among ks name = list_any (λ k. bytes_eq name k.now) ks

-- those that are not among others
abbrev pub once_but : (Name → Bool) → List Name → List Name
once_but met [] = []
once_but met (x ∷ xs) = if met x then once_but met xs else x ∷ once_but (λ y. bytes_eq y x || met y) xs

abbrev pub names_left : List FunctionTree → List Name
names_left fs = map (λ (f : FunctionTree). f.name) fs

once_is : (met : List Name) (xs : List Name) → once met xs ≡ once_but (has_name met) xs
once_is met [] = refl
once_is met (x ∷ xs) = λ i. if has_name met x then once_is met xs i else x ∷ once_is (x ∷ met) xs i

pub once_start : (xs : List Name) → once_but (among []) xs ≡ once [] xs
once_start xs = sym (once_is [] xs)

pub once_kept : (kept : List (Bor (List ℕ))) (x : Bor (List ℕ)) (xs : List Name) (met : Name → Bool) → met x.now ≡ false
    → texts (kept ++ x ∷ []) ++ once_but (λ y. bytes_eq y x.now || met y) xs ≡ texts kept ++ once_but met (x.now ∷ xs)
once_kept [] x xs met h = sym (λ i. if h i then once_but met xs else x.now ∷ once_but (λ y. bytes_eq y x.now || met y) xs)
once_kept (k ∷ kept) x xs met h = ap (λ l. k.now ∷ l) (once_kept kept x xs met h)

or_there : (y x : Name) (met : Name → Bool) → met x ≡ true → (bytes_eq y x || met y) ≡ met y
or_there y x met h = by (bytes_eq y x) refl
  where
    by : (b : Bool) → bytes_eq y x ≡ b → (b || met y) ≡ met y
    by true e = sym (ap met ((bytes_eq-Decides y x).0 e) ∙ h)
    by false e = refl

pub once_left : (x : Name) (xs : List Name) (met : Name → Bool) → met x ≡ true → once_but (λ y. bytes_eq y x || met y) xs ≡ once_but met (x ∷ xs)
once_left x xs met h =
    (λ i. once_but (λ y. or_there y x met h i) xs)
    ∙ sym (λ i. if h i then once_but met xs else x ∷ once_but (λ y. bytes_eq y x || met y) xs)

pub once_next : (ks : List (Bor (List ℕ))) (k : ℕ) (d : Bor (List ℕ)) → k < length ks → texts (drop k ks) ≡ (get_or ks k d).now ∷ texts (drop (k + 1) ks)
once_next ks k d h = ap texts (drop_more ks k d h)

or_none : (b : Bool) → (b || false) ≡ b
or_none true = refl
or_none false = refl

or_turned : (a b : Bool) → (a || b) ≡ (b || a)
or_turned true true = refl
or_turned true false = refl
or_turned false true = refl
or_turned false false = refl

-- a set with one more name
pub inserted : (ks : List (Bor (List ℕ))) (k : Bor (List ℕ)) → among (insert_key (λ (x y : Bor (List ℕ)). bytes_eq x.now y.now) ks k) ≡ (λ y. bytes_eq y k.now || among ks y)
inserted ks k = λ i y. by y (among ks k.now) refl i
  where
    by : (y : Name) (b : Bool) → among ks k.now ≡ b → among (if b then ks else ks ++ k ∷ []) y ≡ (bytes_eq y k.now || among ks y)
    by y true e = sym (or_there y k.now (among ks) e)
    by y false e = list_any-append (λ (j : Bor (List ℕ)). bytes_eq y j.now) ks (k ∷ []) ∙ ap (λ b. among ks y || b) (or_none (bytes_eq y k.now)) ∙ or_turned (among ks y) (bytes_eq y k.now)

pub not_met : (b : Bool) → true ≡ not b → b ≡ false
not_met true e = e
not_met false e = refl

pub was_met : (b : Bool) → false ≡ not b → b ≡ true
was_met true e = refl
was_met false e = e

-- ---- places

place_is : (x : Name) (ks : List (Bor (List ℕ))) → place_in (texts ks) x ≡ position_or_len (λ k. bytes_eq x k.now) ks
place_is x = is_position_or_len (λ ks. place_in (texts ks) x) (λ k. bytes_eq x k.now) refl step
  where
    step : (k : Bor (List ℕ)) (ks : List (Bor (List ℕ))) → place_in (texts (k ∷ ks)) x ≡ cond (bytes_eq x k.now) 0 (1 + place_in (texts ks) x)
    step k ks = let e : suc (place_in (texts ks) x) ≡ 1 + place_in (texts ks) x = omega arith in λ i. cond (bytes_eq x k.now) 0 (e i)

some_is : {A : Type 0} {a b : A} → Some a ≡ Some b → a ≡ b
some_is {A} {a} {b} e = ap (λ o. unwrap_or o a) e

none_not_some : {A : Type 0} {a : A} → None ≡ Some a → ⊥
none_not_some e = true≢false (ap (λ o. elim o as (λ _. Bool) [ None ↦ true | Some x ↦ false ]) e)

found_at : (b : Bool) (n g : ℕ) → Some g ≡ cond b (Some n) None → g ≡ n
found_at true n g e = some_is e
found_at false n g e = absurd (none_not_some (sym e))

missed_at : (b : Bool) (n m : ℕ) → nat_lt n m ≡ b → n ≤ m → None ≡ cond b (Some n) None → m ≡ n
missed_at true n m h le e = absurd (none_not_some e)
missed_at false n m h le e = let no : n < m → ⊥ = λ lt. true≢false (sym ((Decides-ltb n m).1 lt) ∙ h) in omega (arith, le, no)

pub place_found : (ks : List (Bor (List ℕ))) (x : Name) (g : ℕ) → Some g ≡ position (λ k. bytes_eq x k.now) ks → g ≡ place_in (texts ks) x
place_found ks x g e = found_at _ (position_or_len (λ k. bytes_eq x k.now) ks) g e ∙ sym (place_is x ks)

pub place_missed : (ks : List (Bor (List ℕ))) (x : Name) → None ≡ position (λ k. bytes_eq x k.now) ks → length ks ≡ place_in (texts ks) x
place_missed ks x e = missed_at _ (position_or_len (λ k. bytes_eq x k.now) ks) (length ks) refl (prefix_len-le-length (λ k. not (bytes_eq x k.now)) ks) e ∙ sym (place_is x ks)
