-- Sets of variables that are used.
use Rattle.std.proofs.Common.{◌≡◌, ℕ, Bool, true, false, ◌||◌, ◌≤◌, List, [], ◌++◌, length, drop, refl, sym, ap, ◌∙◌}
use Rattle.std.specs.List.{list_any}
use Rattle.std.specs.Ordering.{nat_cmp}
use Rattle.std.specs.BTreeMap.{is_at}
use Rattle.std.specs.BTreeSet.{BTreeSet, contains, InsertsAll}
use Rattle.std.proofs.lemmas.List.{at_drop_all}
use Rattle.core_ir.specs.declared.tree.Var.{Var}
use Rattle.core_ir.specs.Binders.{is_in}
use Rattle.core_ir.proofs.Variables.{in_more}
use Rattle.core_subst.specs.Names.{variable}
use Rattle.removal_rules.specs.Uses.{used_of, among, either}

or_none : (a : Bool) → (a || false) ≡ a
or_none true = refl
or_none false = refl

or_swapped : (a b : Bool) → (a || b) ≡ (b || a)
or_swapped true true = refl
or_swapped true false = refl
or_swapped false true = refl
or_swapped false false = refl

or_behind : (a b c : Bool) → ((a || b) || c) ≡ (a || (b || c))
or_behind true b c = refl
or_behind false b c = refl

pub swapped : (these those : Var → Bool) → either these those ≡ either those these
swapped these those = λ i x. or_swapped (these x) (those x) i

pub both_lists : (xs ys : List Var) → either (among xs) (among ys) ≡ among (xs ++ ys)
both_lists xs ys = λ i x. sym (in_more x xs ys) i

-- one list after another
pub after_list : (xs ys : List Var) (these : Var → Bool) → either (either these (among xs)) (among ys) ≡ either these (among (xs ++ ys))
after_list xs ys these = λ i x. (or_behind (these x) (is_in x xs) (is_in x ys) ∙ (λ j. these x || sym (in_more x xs ys) j)) i

-- the set of a list, behind one of which this is known
pub lists_of : (xs ys : List Var) (a b c : Var → Bool) → a ≡ among xs → b ≡ among ys → c ≡ either a b → c ≡ among (xs ++ ys)
lists_of xs ys a b c p q r = r ∙ (λ i. either (p i) (q i)) ∙ both_lists xs ys

-- a list that comes last, in front
pub list_in_front : (xs ys : List Var) (a b : Var → Bool) → a ≡ among ys → b ≡ either a (among xs) → b ≡ among (xs ++ ys)
list_in_front xs ys a b p q = q ∙ ap (λ f. either f (among xs)) p ∙ swapped (among ys) (among xs) ∙ both_lists xs ys

-- a list that comes last, in front of two others
pub in_front_of_both : (xs ys zs : List Var) (a b c d : Var → Bool) → a ≡ among ys → b ≡ among zs → c ≡ either a b → d ≡ either c (among xs) → d ≡ among (xs ++ (ys ++ zs))
in_front_of_both xs ys zs a b c d p q r s = list_in_front xs (ys ++ zs) c d (lists_of ys zs a b c p q r) s

-- four lists, one after another
pub after_all : (ws xs ys zs : List Var) (used one two three four : Var → Bool) → one ≡ either used (among ws) → two ≡ either one (among xs) → three ≡ either two (among ys) → four ≡ either three (among zs) → four ≡ either used (among (ws ++ (xs ++ (ys ++ zs))))
after_all ws xs ys zs used one two three four p q r s =
    s ∙ ap (λ f. either f (among zs)) (r ∙ ap (λ f. either f (among ys)) (q ∙ ap (λ f. either f (among xs)) p))
    ∙ after_list ys zs (either (either used (among ws)) (among xs))
    ∙ after_list xs (ys ++ zs) (either used (among ws))
    ∙ after_list ws (xs ++ (ys ++ zs)) used

-- ---- what the calls of the library say

pub from_none : (numbers : BTreeSet ℕ) (xs : List Var) (a : Var → Bool) → numbers.keys ≡ [] → a ≡ either (used_of numbers) (among xs) → a ≡ among xs
from_none numbers xs a e p = p ∙ (λ i x. list_any (is_at (nat_cmp x.0)) (e i) || is_in x xs)

pub appended_first : (more few both : BTreeSet ℕ) → InsertsAll nat_cmp more few.keys both → used_of both ≡ either (used_of more) (used_of few)
appended_first more few both h = λ i x. h.0 x.0 i

pub appended_last : (more few both : BTreeSet ℕ) → InsertsAll nat_cmp more few.keys both → used_of both ≡ either (used_of few) (used_of more)
appended_last more few both h = appended_first more few both h ∙ swapped (used_of more) (used_of few)

-- when all are inserted
pub inserted : (numbers start : BTreeSet ℕ) (xs : List Var) (i : ℕ) → length xs ≤ i → ((n : ℕ) → (contains nat_cmp numbers n || is_in (variable n) (drop i xs)) ≡ (contains nat_cmp start n || is_in (variable n) xs)) → used_of numbers ≡ either (used_of start) (among xs)
inserted numbers start xs i over h =
    λ j x. (sym ((λ k. contains nat_cmp numbers x.0 || at_drop_all (is_in x) xs i over k) ∙ or_none (contains nat_cmp numbers x.0)) ∙ h x.0) j
