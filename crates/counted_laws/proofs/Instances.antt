-- The instance that a call takes has its group's number of results, and as many parameters as there are arguments.
use Rattle.std.proofs.Common.{◌≡◌, ℕ, zero, suc, ◌<◌, Bool, true, false, List, [], ◌∷◌, ◌++◌, length, Option, Some, None, refl, ap, ◌∙◌, sym, subst, arith, slice_index_or, true≢false}
use Rattle.std.specs.Prelude.{◌&&◌, ◌||◌, not, if◌then◌else◌, AllPairs, slice_get, unwrap_or}
use Rattle.std.specs.List.{list_all}
use Rattle.sac_base.specs.declared.types.ArrayType.{ArrayType}
use Rattle.sac_base.specs.Arrays.{ArrayValue}
use Rattle.sac_base.specs.Types.{has, all_have, all_below}
use Rattle.core_ir.specs.Terms.{FunTerm, CoreTerm}
use Rattle.core_ir.specs.Outcome.{Instance, instance_of, instances, is_least, least_among, group_at, chosen, param_types}
use Rattle.core_ir.specs.WellFormed.{PlacesShare, IsWellFormed}
use Rattle.counted_code.specs.Counts.{results_or, results_among, group_results}

-- ---- lists

abbrev is_none : {A : Type 0} → Option A → Bool
is_none None = true
is_none (Some x) = false

pub no_some : {A : Type 0} {x : A} → None ≡ Some x → ⊥
no_some p = true≢false (λ i. is_none (p i))

-- what stands at a place that is there
pub got : {A : Type 0} (xs : List A) (i : ℕ) (x d : A) → slice_get xs i ≡ Some x → (i < length xs) × (slice_index_or xs i d ≡ x)
got [] i x d p = elim (no_some p) [ ]
got (y ∷ ys) zero x d p = (omega arith, ap (λ o. unwrap_or o d) p)
got (y ∷ ys) (suc i) x d p = let r = got ys i x d p in (omega (arith, r.0), r.1)

pub and_left : (a b : Bool) → (a && b) ≡ true → a ≡ true
and_left true b p = refl
and_left false b p = p

pub and_right : (a b : Bool) → (a && b) ≡ true → b ≡ true
and_right true b p = p
and_right false b p = elim (true≢false (sym p)) [ ]

pub have_length : (ts : List ArrayType) (ws : List ArrayValue) → all_have ts ws ≡ true → length ws ≡ length ts
have_length [] [] p = refl
have_length [] (w ∷ ws) p = elim (true≢false (sym p)) [ ]
have_length (t ∷ ts) [] p = elim (true≢false (sym p)) [ ]
have_length (t ∷ ts) (w ∷ ws) p = ap suc (have_length ts ws (and_right (has t w) (all_have ts ws) p))

-- ---- groups

-- all instances of a group have as many results as the first
pub shared_results : (fs : List FunTerm) (places : List ℕ) → AllPairs (PlacesShare fs) places → (j place : ℕ) (f : FunTerm) → j < length places → slice_index_or places j place ≡ place → slice_get fs place ≡ Some f → results_among fs places ≡ length f.results
shared_results fs [] pairs j place f lt at is = elim (nothing lt) [ ]
  where
    nothing : {n : ℕ} → n < 0 → ⊥
    nothing {n} p = omega (arith, p)
shared_results fs (q ∷ qs) pairs zero place f lt at is = ap (λ o. results_or o (results_among fs qs)) (subst (λ p. slice_get fs p ≡ Some f) (sym at) is)
shared_results fs (q ∷ qs) pairs (suc j) place f lt at is =
    go (slice_get fs q) refl (shared_results fs qs (λ i k d a b. pairs (suc i) (suc k) d (omega (arith, a)) (omega (arith, b))) j place f (omega (arith, lt)) at is)
  where
    share : PlacesShare fs q place
    share = subst (PlacesShare fs q) at (pairs 0 (suc j) place (omega arith) lt)

    go : (o : Option FunTerm) → slice_get fs q ≡ o → results_among fs qs ≡ length f.results → results_or o (results_among fs qs) ≡ length f.results
    go None here rest = rest
    go (Some g) here rest = (share g f here is).results

-- an instance that is found is one of the group's functions, and its types contain the arguments
pub record IsFound (fs : List FunTerm) (args : List ArrayValue) (places : List ℕ) (place : ℕ) : Type 0 where
  pub function : FunTerm
  pub index : ℕ
  pub below : index < length places
  pub at : slice_index_or places index place ≡ place
  pub there : slice_get fs place ≡ Some function
  pub fits : all_have (param_types function) args ≡ true

pub found : (fs : List FunTerm) (args : List ArrayValue) (all : List Instance) (places : List ℕ) (place : ℕ) → least_among all args (instances fs places) ≡ Some place → IsFound fs args places place
found fs args all [] place p = elim (no_some p) [ ]
found fs args all (q ∷ qs) place p = go (slice_get fs q) refl p (λ r. found fs args all qs place r)
  where
    later : IsFound fs args qs place → IsFound fs args (q ∷ qs) place
    later r = record { function = r.function; index = suc r.index; below = omega (arith, r.below); at = r.at; there = r.there; fits = r.fits }

    least : (f : FunTerm) (b : Bool) → is_least all args (record { place = q; types = param_types f }) ≡ b → slice_get fs q ≡ Some f → (if b then Some q else least_among all args (instances fs qs)) ≡ Some place → (least_among all args (instances fs qs) ≡ Some place → IsFound fs args qs place) → IsFound fs args (q ∷ qs) place
    least f true e here is rest =
        let same = ap (λ o. unwrap_or o 0) is in
        record {
          function = f;
          index = 0;
          below = omega arith;
          at = same;
          there = subst (λ n. slice_get fs n ≡ Some f) same here;
          fits = and_left (all_have (param_types f) args) (list_all (λ (j : Instance). not (all_have j.types args) || all_below (param_types f) j.types) all) e;
        }
    least f false e here is rest = later (rest is)

    go : (o : Option FunTerm) → slice_get fs q ≡ o → least_among all args (instance_of q o ++ instances fs qs) ≡ Some place → (least_among all args (instances fs qs) ≡ Some place → IsFound fs args qs place) → IsFound fs args (q ∷ qs) place
    go None here is rest = later (rest is)
    go (Some f) here is rest = least f (is_least all args (record { place = q; types = param_types f })) refl here is rest

-- where the core is well formed, an instance that is chosen
pub record IsChosen (core : CoreTerm) (group : ℕ) (args : List ArrayValue) (place : ℕ) : Type 0 where
  pub function : FunTerm
  pub there : slice_get core.functions place ≡ Some function
  pub results : length function.results ≡ group_results core group
  pub params : length args ≡ length (param_types function)

pub is_chosen : (core : CoreTerm) → IsWellFormed core → (group : ℕ) (args : List ArrayValue) (place : ℕ) → chosen core group args ≡ Some place → IsChosen core group args place
is_chosen core formed group args place is = go (slice_get core.groups group) refl (found core.functions args (instances core.functions (group_at core group)) (group_at core group) place is)
  where
    nothing : {n : ℕ} → n < 0 → ⊥
    nothing {n} p = omega (arith, p)

    go : (o : Option (List ℕ)) → slice_get core.groups group ≡ o → IsFound core.functions args (group_at core group) place → IsChosen core group args place
    go None e r = elim (nothing (subst (λ o. r.index < length (unwrap_or o [])) e r.below)) [ ]
    go (Some places) e r =
        let g = got core.groups group places [] e in
        let pairs = subst (AllPairs (PlacesShare core.functions)) (g.1 ∙ sym (ap (λ o. unwrap_or o []) e)) (formed.names group [] g.0) in
        record {
          function = r.function;
          there = r.there;
          results = sym (shared_results core.functions (group_at core group) pairs r.index place r.function r.below r.at r.there);
          params = have_length (param_types r.function) args r.fits;
        }
