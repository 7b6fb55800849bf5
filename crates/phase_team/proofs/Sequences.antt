-- Cells that follow one another, cut in two.
use Rattle.std.proofs.Common.{◌≡◌, ℕ, zero, suc, ◌+◌, ◌%◌, ◌^◌, List, [], ◌∷◌, ◌++◌, ℤ, length, Option, None, Some, Ok, Err, refl, sym, ap, subst, ◌∙◌, arith}
use Rattle.std.specs.Prelude.{fold, All}
use Rattle.std.proofs.lemmas.List.Elements.{All-append, All-cons, All-nil}
use Rattle.std.proofs.lemmas.List.Sums.{fold-append, fold_push}
use Rattle.std.proofs.Math.Nat.{add-mod-mod, mod-add-mod}
use Rattle.sac_base.specs.declared.faults.Fault.{Fault}
use Rattle.sac_base.specs.Operators.{with_first}
use Rattle.sac_base.specs.Outcomes.{Ends, and_then}
use Rattle.sac_base.specs.Verdict.{each, present, joined, combined}
use Rattle.wl_core.specs.Machine.{both}
use Rattle.wl_core.specs.Combining.{IsFoldable}
use Rattle.wl_core.proofs.Functions.{joined-append}
use Rattle.wl_core.proofs.Combining.{present-append}
use Rattle.phase_team.specs.Segments.{cells_from, cost_from, HaveWidth, Same}

-- ---- positions

module _ (cell : ℕ → Ends (Option (List ℤ))) where
  pub cells-append : (start a b : ℕ) → cells_from cell start (a + b) ≡ cells_from cell start a ++ cells_from cell (start + a) b
  cells-append start zero b =
      let e : 0 + b ≡ b = omega arith in let e' : start + 0 ≡ start = omega arith in rw (e, e') refl
  cells-append start (suc a) b =
      let e : suc a + b ≡ suc (a + b) = omega arith in let e' : start + suc a ≡ suc start + a = omega arith in rw (e, e') (ap (λ l. cell start ∷ l) (cells-append (suc start) a b))

  pub cells_more : (start k : ℕ) → cells_from cell start (k + 1) ≡ cells_from cell start k ++ cell (start + k) ∷ []
  cells_more start k = cells-append start k 1

module _ (cost : ℕ → ℕ) where
  pub cost-append : (start a b : ℕ) → cost_from cost start (a + b) ≡ cost_from cost start a + cost_from cost (start + a) b
  cost-append start zero b =
      let e : 0 + b ≡ b = omega arith in let e' : start + 0 ≡ start = omega arith in let z : 0 + cost_from cost start b ≡ cost_from cost start b = omega arith in rw (e, e') (sym z)
  cost-append start (suc a) b =
      let e : suc a + b ≡ suc (a + b) = omega arith in
      let e' : start + suc a ≡ suc start + a = omega arith in
      let ih = cost-append (suc start) a b in
      ap (cost_from cost start) e ∙ (let k : cost start + cost_from cost (suc start) (a + b) ≡ (cost start + cost_from cost (suc start) a) + cost_from cost (suc start + a) b = omega arith in k) ∙ ap (λ n. (cost start + cost_from cost (suc start) a) + cost_from cost n b) (sym e')

  pub cost_more : (start k : ℕ) → cost_from cost start (k + 1) ≡ cost_from cost start k + cost (start + k)
  cost_more start k =
      let one : cost_from cost (start + k) 1 ≡ cost (start + k) = (let z : cost (start + k) + 0 ≡ cost (start + k) = omega arith in z) in
      cost-append start k 1 ∙ ap (λ n. cost_from cost start k + n) one

-- ---- counts

same_add : (m a b c d : ℕ) → a % m ≡ b % m → c % m ≡ d % m → (a + c) % m ≡ (b + d) % m
same_add m a b c d e f =
    sym (mod-add-mod a m c) ∙ sym (add-mod-mod (a % m) c m) ∙ (λ j. (e j + f j) % m) ∙ add-mod-mod (b % m) d m ∙ mod-add-mod b m d

pub same_sum : (kind a b c d : ℕ) → Same kind a b → Same kind c d → Same kind (a + c) (b + d)
same_sum zero a b c d e f = λ j. e j + f j
same_sum (suc kind) a b c d e f = same_add (2 ^ 64) a b c d e f

pub same_of : (kind a b : ℕ) → a ≡ b → Same kind a b
same_of zero a b e = e
same_of (suc kind) a b e = λ j. e j % 2 ^ 64

pub same_then : (kind a b c : ℕ) → Same kind a b → Same kind b c → Same kind a c
same_then zero a b c e f = e ∙ f
same_then (suc kind) a b c e f = e ∙ f

-- ---- values and faults in order

module _ {A : Type 0} where
  and_then-ok : (r : Ends (List A)) → and_then r (λ ws. Ok ws) ≡ r
  and_then-ok (Ok ws) = refl
  and_then-ok (Err f) = refl

  with_first-both : (a : A) (r s : Ends (List A)) → with_first a (and_then r (λ vs. and_then s (λ ws. Ok (vs ++ ws)))) ≡ and_then (with_first a r) (λ vs. and_then s (λ ws. Ok (vs ++ ws)))
  with_first-both a (Err f) s = refl
  with_first-both a (Ok vs) (Err f) = refl
  with_first-both a (Ok vs) (Ok ws) = refl

  each-append : (xs ys : List (Ends A)) → each (xs ++ ys) ≡ and_then (each xs) (λ vs. and_then (each ys) (λ ws. Ok (vs ++ ws)))
  each-append [] ys = sym (and_then-ok (each ys))
  each-append (Err f ∷ xs) ys = refl
  each-append (Ok a ∷ xs) ys = ap (with_first a) (each-append xs ys) ∙ with_first-both a (each xs) (each ys)

  pub each-both : (xs ys : List (Ends A)) (vs ws : List A) → each xs ≡ Ok vs → each ys ≡ Ok ws → each (xs ++ ys) ≡ Ok (vs ++ ws)
  each-both xs ys vs ws e f = each-append xs ys ∙ (λ j. and_then (e j) (λ us. and_then (f j) (λ ts. Ok (us ++ ts))))

  pub each-front : (xs ys : List (Ends A)) (fault : Fault) → each xs ≡ Err fault → each (xs ++ ys) ≡ Err fault
  each-front xs ys fault e = each-append xs ys ∙ (λ j. and_then (e j) (λ us. and_then (each ys) (λ ts. Ok (us ++ ts))))

  pub each-back : (xs ys : List (Ends A)) (vs : List A) (fault : Fault) → each xs ≡ Ok vs → each ys ≡ Err fault → each (xs ++ ys) ≡ Err fault
  each-back xs ys vs fault e f = each-append xs ys ∙ (λ j. and_then (e j) (λ us. and_then (f j) (λ ts. Ok (us ++ ts))))

-- the elements of values, in two parts
pub joined-both : {A : Type 0} (vs ws : List (Option (List A))) → joined (present (vs ++ ws)) ≡ joined (present vs) ++ joined (present ws)
joined-both vs ws = ap (λ l. joined l) (present-append vs ws) ∙ joined-append (present vs) (present ws)

-- ---- widths

abbrev OfWidth : ℕ → List ℤ → Type 0
OfWidth width x = length x ≡ width

pub widths_none : (width : ℕ) → HaveWidth width []
widths_none width = All-nil (OfWidth width)

pub widths_both : (width : ℕ) (vs ws : List (Option (List ℤ))) → HaveWidth width vs → HaveWidth width ws → HaveWidth width (vs ++ ws)
widths_both width vs ws front back = subst (λ (l : List (List ℤ)). All (OfWidth width) l) (sym (present-append vs ws)) (All-append (OfWidth width) (present vs) (present ws) front back)

pub widths_more : (width : ℕ) (vs : List (Option (List ℤ))) (x : List ℤ) → HaveWidth width vs → length x ≡ width → HaveWidth width (vs ++ Some x ∷ [])
widths_more width vs x all is = widths_both width vs (Some x ∷ []) all (All-cons (OfWidth width) x [] is (All-nil (OfWidth width)))

pub widths_same : (width : ℕ) (vs : List (Option (List ℤ))) → HaveWidth width vs → HaveWidth width (vs ++ None ∷ [])
widths_same width vs all = widths_both width vs (None ∷ []) all (All-nil (OfWidth width))

-- ---- combinations

module _ {A : Type 0} (op : A → A → A) where
  pub both-none : (a : Option A) → both op a None ≡ a
  both-none None = refl
  both-none (Some x) = refl

  pub combined_push : (xs : List A) (x : A) → combined op (xs ++ x ∷ []) ≡ both op (combined op xs) (Some x)
  combined_push [] x = refl
  combined_push (y ∷ ys) x = ap (λ (z : A). Some z) (fold_push op y ys x)

  pub combined_more : (vs : List (Option A)) (v : Option A) → combined op (present (vs ++ v ∷ [])) ≡ both op (combined op (present vs)) v
  combined_more vs (Some x) = ap (combined op) (present-append vs (Some x ∷ [])) ∙ combined_push (present vs) x
  combined_more vs None = ap (combined op) (present-append vs (None ∷ []) ∙ no_more (present vs)) ∙ sym (both-none (combined op (present vs)))
    where
      no_more : (l : List A) → l ++ [] ≡ l
      no_more [] = refl
      no_more (y ∷ l) = λ j. y ∷ no_more l j

  module _ (laws : IsFoldable op) where
    shift : (s y : A) (ys : List A) → fold op (op s y) ys ≡ op s (fold op y ys)
    shift s y [] = refl
    shift s y (z ∷ zs) = ap (λ (x : A). fold op x zs) (laws.assoc s y z) ∙ shift s (op y z) zs

    combined-append : (xs ys : List A) → combined op (xs ++ ys) ≡ both op (combined op xs) (combined op ys)
    combined-append [] ys = refl
    combined-append (x ∷ xs) [] = ap (λ (z : A). Some z) (fold-append op x xs [])
    combined-append (x ∷ xs) (y ∷ ys) = ap (λ (z : A). Some z) (fold-append op x xs (y ∷ ys) ∙ shift (fold op x xs) y ys)

    pub combined-both : (vs ws : List (Option A)) → combined op (present (vs ++ ws)) ≡ both op (combined op (present vs)) (combined op (present ws))
    combined-both vs ws = ap (combined op) (present-append vs ws) ∙ combined-append (present vs) (present ws)

    -- a first value, taken once
    pub from_first : (first : A) (xs : List A) → Some (fold op first xs) ≡ both op (Some first) (combined op xs)
    from_first first xs = combined-append (first ∷ []) xs
