-- Lists of which one is longer differ in each of these tests.
use Rattle.std.proofs.Common.{◌≡◌, ℕ, zero, suc, ◌+◌, ◌<◌, ◌≤◌, List, [], ◌∷◌, length, map, take, drop, get_or, Bool, true, false, ◌&&◌, ◌||◌, not, if◌then◌else◌, Option, Some, None, refl, sym, ap, ◌∙◌, arith, bytes_eq, min, nat_le, ◌⊎◌, inl, inr}
use Rattle.std.specs.Prelude.{filter}
use Rattle.std.specs.List.{list_all}
use Rattle.std.proofs.lemmas.List.{length-map, drop_more, drop_all, length-take-le, get_or-take}
use Rattle.sac_base.specs.declared.base.Base.{Base}
use Rattle.sac_base.specs.declared.name.Name.{Name}
use Rattle.sac_base.specs.declared.types.ArrayType.{ArrayType}
use Rattle.sac_base.specs.Arrays.{same_base}
use Rattle.sac_base.specs.Types.{below, all_below, apart}
use Rattle.sac_ast.specs.declared.Param.{Param}
use Rattle.sac_ast.specs.declared.Function.{Function}
use Rattle.sac_ast.specs.Tree.{FunctionTree}
use Rattle.sac_ast.specs.View.{function, functions}
use Rattle.sac_ast.specs.Bases.{same_bases}
use Rattle.check_rules.specs.Accepted.{is_named, may_stand_together, values_fit, main_name}
use Rattle.check_rules.specs.Groups.{first_place, next_place}
use Rattle.check_rules.specs.Programs.{stands_with, named_stands, inline_main, inline_mains, mains}
use Rattle.check_rules.specs.declared.violation.Violation.{Violation}
use Rattle.check_rules.specs.First.{earlier, unless}
use Rattle.check_rules.proofs.Earliest.{earlier_grouped, earlier_none}
use Rattle.check_rules.specs.declared.code.CheckCode.TheVariants.{C8}
use borrow.Author.Tests.{leb-true, leb-false}

and_none : (a : Bool) → (a && false) ≡ false
and_none true = refl
and_none false = refl

pub unlike_below : (xs ys : List ArrayType) → (length xs ≡ length ys → ⊥) → all_below xs ys ≡ false
unlike_below [] [] h = absurd (h refl)
unlike_below [] (y ∷ ys) h = refl
unlike_below (x ∷ xs) [] h = refl
unlike_below (x ∷ xs) (y ∷ ys) h = ap (λ b. below x y && b) (unlike_below xs ys (λ e. h (ap suc e))) ∙ and_none (below x y)

pub unlike_bases : (xs ys : List Base) → (length xs ≡ length ys → ⊥) → same_bases xs ys ≡ false
unlike_bases [] [] h = absurd (h refl)
unlike_bases [] (y ∷ ys) h = refl
unlike_bases (x ∷ xs) [] h = refl
unlike_bases (x ∷ xs) (y ∷ ys) h = ap (λ b. same_base x y && b) (unlike_bases xs ys (λ e. h (ap suc e))) ∙ and_none (same_base x y)

pub unlike_mapped : {A B : Type 0} (f : A → B) (xs ys : List A) → (length xs ≡ length ys → ⊥) → length (map f xs) ≡ length (map f ys) → ⊥
unlike_mapped f xs ys h e = h (sym (length-map xs f) ∙ e ∙ length-map ys f)

-- ---- the shorter list

shorter : (a b k : ℕ) → min a b ≤ k → (a ≤ k) ⊎ (b ≤ k)
shorter a b k h = by (nat_le a k) refl
  where
    by : (r : Bool) → nat_le a k ≡ r → (a ≤ k) ⊎ (b ≤ k)
    by true e = inl (leb-true a k e)
    by false e = inr (omega (arith, leb-false a k e))

no_more_apart : (xs : List ArrayType) → apart xs [] ≡ false
no_more_apart [] = refl
no_more_apart (x ∷ xs) = refl

pub apart_end : (a b : List Param) (k n : ℕ) → n ≡ min (length a) (length b) → n ≤ k → apart (map (λ (p : Param). p.ty) (drop k a)) (map (λ (p : Param). p.ty) (drop k b)) ≡ false
apart_end a b k n e h = by (shorter (length a) (length b) k (omega arith))
  where
    by : (length a ≤ k) ⊎ (length b ≤ k) → apart (map (λ (p : Param). p.ty) (drop k a)) (map (λ (p : Param). p.ty) (drop k b)) ≡ false
    by (inl f) = ap (λ (ps : List Param). apart (map (λ (p : Param). p.ty) ps) (map (λ (p : Param). p.ty) (drop k b))) (drop_all k a f)
    by (inr f) = ap (λ (ps : List Param). apart (map (λ (p : Param). p.ty) (drop k a)) (map (λ (p : Param). p.ty) ps)) (drop_all k b f) ∙ no_more_apart (map (λ (p : Param). p.ty) (drop k a))

no_more_values : (bs : List (Option Base)) → values_fit bs [] ≡ true
no_more_values [] = refl
no_more_values (b ∷ bs) = refl

pub values_end : (bs : List (Option Base)) (types : List ArrayType) (k n : ℕ) → n ≡ min (length bs) (length types) → n ≤ k → values_fit (drop k bs) (drop k types) ≡ true
values_end bs types k n e h = by (shorter (length bs) (length types) k (omega arith))
  where
    by : (length bs ≤ k) ⊎ (length types ≤ k) → values_fit (drop k bs) (drop k types) ≡ true
    by (inl f) = ap (λ (xs : List (Option Base)). values_fit xs (drop k types)) (drop_all k bs f)
    by (inr f) = ap (values_fit (drop k bs)) (drop_all k types f) ∙ no_more_values (drop k bs)

-- ---- functions of one name

pub stands_next : (f g : FunctionTree) (gs : List FunctionTree) → stands_with f (g ∷ gs) ≡ (named_stands f g && stands_with f gs)
stands_next f g gs = by (bytes_eq g.name f.name)
  where
    by : (b : Bool) → list_all (may_stand_together f) (if b then g ∷ filter (is_named f.name) gs else filter (is_named f.name) gs) ≡ ((not b || may_stand_together f g) && stands_with f gs)
    by true = refl
    by false = refl

pub stands_at : (f : FunctionTree) (fs : List Function) (n k : ℕ) (d : Function) → n ≤ length fs → k < n → stands_with f (functions (drop k (take n fs))) ≡ (named_stands f (function (get_or fs k d)) && stands_with f (functions (drop (k + 1) (take n fs))))
stands_at f fs n k d h below =
    let here : k < length (take n fs) = omega (arith, length-take-le n fs h) in
    ap (λ gs. stands_with f (functions gs)) (drop_more (take n fs) k d here)
    ∙ stands_next f (function (get_or (take n fs) k d)) (functions (drop (k + 1) (take n fs)))
    ∙ ap (λ x. named_stands f (function x) && stands_with f (functions (drop (k + 1) (take n fs)))) (get_or-take n fs k d below)

none_named : (fs : List Function) (name : Name) (n : ℕ) → first_place (is_named name) (functions fs) ≡ None → filter (is_named name) (functions (take n fs)) ≡ []
none_named [] name zero h = refl
none_named [] name (suc n) h = refl
none_named (f ∷ fs) name zero h = refl
none_named (f ∷ fs) name (suc n) h = by (bytes_eq f.name name) (first_place (is_named name) (functions fs)) h (none_named fs name n)
  where
    by : (b : Bool) (r : Option ℕ) → (if b then Some 0 else next_place r) ≡ None → (r ≡ None → filter (is_named name) (functions (take n fs)) ≡ [])
        → (if b then function f ∷ filter (is_named name) (functions (take n fs)) else filter (is_named name) (functions (take n fs))) ≡ []
    by true r e rest = cc
    by false None e rest = rest refl
    by false (Some k) e rest = cc

pub skipped_all : (fs : List Function) (name : Name) (n : ℕ) → n ≤ length fs → first_place (is_named name) (functions fs) ≡ None → filter (is_named name) (functions (drop n (take n fs))) ≡ filter (is_named name) (functions (take n fs))
skipped_all fs name n h e =
    ap (λ gs. filter (is_named name) (functions gs)) (drop_all n (take n fs) (omega (arith, length-take-le n fs h))) ∙ sym (none_named fs name n e)

pub skipped : (fs : List Function) (name : Name) (n k : ℕ) → Some k ≡ first_place (is_named name) (functions fs) → filter (is_named name) (functions (drop k (take n fs))) ≡ filter (is_named name) (functions (take n fs))
skipped [] name n k e = cc
skipped (f ∷ fs) name zero zero e = refl
skipped (f ∷ fs) name zero (suc k) e = refl
skipped (f ∷ fs) name (suc n) zero e = refl
skipped (f ∷ fs) name (suc n) (suc k) e = by (bytes_eq f.name name) (first_place (is_named name) (functions fs)) e (skipped fs name n k)
  where
    by : (b : Bool) (r : Option ℕ) → Some (suc k) ≡ (if b then Some 0 else next_place r) → (Some k ≡ r → filter (is_named name) (functions (drop k (take n fs))) ≡ filter (is_named name) (functions (take n fs)))
        → filter (is_named name) (functions (drop k (take n fs))) ≡ (if b then function f ∷ filter (is_named name) (functions (take n fs)) else filter (is_named name) (functions (take n fs)))
    by true r e rest = cc
    by false None e rest = cc
    by false (Some j) e rest = rest cc

-- ---- mains

pub inline_step : (acc : Option Violation) (g : FunctionTree) (gs : List FunctionTree) → earlier (earlier acc (inline_main g)) (inline_mains (mains gs)) ≡ earlier acc (inline_mains (mains (g ∷ gs)))
inline_step acc g gs = by (bytes_eq g.name main_name)
  where
    by : (b : Bool) → earlier (earlier acc (if b then unless (not g.inline) C8 g.site else None)) (inline_mains (mains gs)) ≡ earlier acc (inline_mains (if b then g ∷ mains gs else mains gs))
    by true = earlier_grouped acc (unless (not g.inline) C8 g.site) (inline_mains (mains gs))
    by false = ap (λ x. earlier x (inline_mains (mains gs))) (earlier_none acc)
