-- Sums over numbers and over views, and functions with one value put in.
use Rattle.std.proofs.Common.{◌≡◌, ◌≢◌, ℕ, zero, suc, ◌+◌, ◌<◌, ◌≤◌, Bool, true, false, cond, ltb, eqb, List, [], ◌∷◌, ◌++◌, map, length, sym, refl, ap, arith}
use Rattle.std.proofs.lemmas.Bool.{le-ltb, ne_eqb, eq-eqb}
use Rattle.std.proofs.lemmas.Bool.Decides.{nat_tests}
use mathlib.Core.Option.{some, some-injective, some-ne-none}
use lib.ListN.{get_elem?}
use Rattle.wl_core.specs.Machine.{put, sum_below}
use Rattle.count_table.specs.Views.{times, total}
use Rattle.count_table.specs.Reading.{pair_times}
use Rattle.count_table.proofs.Totals.{total_at}

pub put_same : {X : Type 0} (g : ℕ → X) (k : ℕ) (x : X) → put g k x k ≡ x
put_same g k x = let e : eqb k k ≡ true = eq-eqb k k refl in rw e refl

pub put_other : {X : Type 0} (g : ℕ → X) (k : ℕ) (x : X) (i : ℕ) → i ≢ k → put g k x i ≡ g i
put_other g k x i ne = let e : eqb i k ≡ false = ne_eqb i k ne in rw e refl

pub none_either_way : (b : Bool) → cond {A = ℕ} b 0 0 ≡ 0
none_either_way true = refl
none_either_way false = refl

-- sums over the numbers below m
pub sum-same : (f g : ℕ → ℕ) (m : ℕ) → ((b : ℕ) → b < m → f b ≡ g b) → sum_below f m ≡ sum_below g m
sum-same f g zero h = refl
sum-same f g (suc m) h = let ih = sum-same f g m (λ b lt. h b (omega arith)) in let e = h m (omega arith) in omega arith

pub sum-add : (f g : ℕ → ℕ) (m : ℕ) → sum_below (λ b. f b + g b) m ≡ sum_below f m + sum_below g m
sum-add f g zero = refl
sum-add f g (suc m) = let ih = sum-add f g m in omega arith

pub sum-zero : (m : ℕ) → sum_below (λ b. 0) m ≡ 0
sum-zero zero = refl
sum-zero (suc m) = let ih = sum-zero m in omega arith

pub sum-one : (x m : ℕ) → sum_below (λ b. cond (eqb x b) 1 0) m ≡ cond (ltb x m) 1 0
sum-one x zero = sym (rw (le-ltb x 0 (omega arith)) refl)
sum-one x (suc m) =
    let ih = sum-one x m in
    let s : cond {A = ℕ} (ltb x (suc m)) 1 0 ≡ cond {A = ℕ} (ltb x m) 1 0 + cond {A = ℕ} (eqb x m) 1 0 = grind (arith, nat_tests) in omega arith

-- the elements of a list, counted number by number
pub sum-times : (xs : List ℕ) (m : ℕ) → ((b : ℕ) → 0 < times b xs → b < m) → sum_below (λ b. times b xs) m ≡ length xs
sum-times [] m h = sum-zero m
sum-times (x ∷ xs) m h =
    let here : x < m = h x (let e : eqb x x ≡ true = eq-eqb x x refl in let one : cond {A = ℕ} (eqb x x) 1 0 ≡ 1 = rw e refl in omega arith) in
    let ih = sum-times xs m (λ b has. h b (omega arith)) in
    let a = sum-add (λ b. cond (eqb x b) 1 0) (λ b. times b xs) m in
    let o = sum-one x m in
    let one : cond {A = ℕ} (ltb x m) 1 0 ≡ 1 = grind (arith, nat_tests) in omega arith

-- where g is 0 everywhere, so is f
pub total-none : {V : Type 0} (f g : V → ℕ) (vs : List V) → ((v : V) → g v ≡ 0 → f v ≡ 0) → total g vs ≡ 0 → total f vs ≡ 0
total-none f g [] h z = refl
total-none f g (v ∷ vs) h z = let a = h v (omega arith) in let ih = total-none f g vs h (omega arith) in omega arith

-- where g is 1 at one place alone, f is what it is there
pub total-only : {V : Type 0} (f g : V → ℕ) (vs : List V) (i : ℕ) (v : V) → get_elem? vs i ≡ some v → ((u : V) → g u ≡ 0 → f u ≡ 0) → 1 ≤ g v → total g vs ≤ 1 → total f vs ≡ f v
total-only f g [] i v e h one few = absurd (some-ne-none v (sym e))
total-only f g (u ∷ vs) zero v e h one few =
    let a = ap f (some-injective u v e) in let b = ap g (some-injective u v e) in let z = total-none f g vs h (omega arith) in omega arith
total-only f g (u ∷ vs) (suc i) v e h one few =
    let t = total_at g vs i v e in let z = h u (omega arith) in let ih = total-only f g vs i v e h one (omega arith) in omega arith

pub pair_times-le : (c n : ℕ) (ps : List (ℕ × ℕ)) → pair_times c n ps ≤ times c (map (λ (p : ℕ × ℕ). p.0) ps)
pair_times-le c n [] = omega arith
pair_times-le c n (p ∷ ps) =
    let ih = pair_times-le c n ps in
    elim (eqb p.1 n) as (λ b. cond {A = ℕ} b (cond (eqb p.0 c) 1 0) 0 + pair_times c n ps ≤ cond (eqb p.0 c) 1 0 + times c (map (λ (p : ℕ × ℕ). p.0) ps)) [ true ↦ omega arith | false ↦ omega arith ]

pub pair_times-append : (c n : ℕ) (ps : List (ℕ × ℕ)) (cs : List ℕ) (k : ℕ) → pair_times c n (ps ++ map (λ (x : ℕ). (x, k)) cs) ≡ pair_times c n ps + cond (eqb k n) (times c cs) 0
pair_times-append c n [] [] k = let z = none_either_way (eqb k n) in omega arith
pair_times-append c n [] (x ∷ cs) k =
    let ih = pair_times-append c n [] cs k in
    let s : cond {A = ℕ} (eqb k n) (cond (eqb x c) 1 0) 0 + cond (eqb k n) (times c cs) 0 ≡ cond (eqb k n) (cond (eqb x c) 1 0 + times c cs) 0
    = elim (eqb k n) as (λ b. cond {A = ℕ} b (cond (eqb x c) 1 0) 0 + cond b (times c cs) 0 ≡ cond b (cond (eqb x c) 1 0 + times c cs) 0) [ true ↦ refl | false ↦ refl ] in omega arith
pair_times-append c n (p ∷ ps) cs k = let ih = pair_times-append c n ps cs k in omega arith
