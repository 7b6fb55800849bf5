-- What steps with new variables in one function of a core share.
use Rattle.std.proofs.Common.{◌≡◌, ℕ, zero, suc, ◌+◌, ◌<◌, ◌≤◌, List, [], ◌∷◌, ◌++◌, Option, Some, ap, arith}
use Rattle.std.specs.Prelude.{slice_get, unwrap_or}
use Rattle.core_ir.specs.Binders.{bound_in}
use Rattle.core_ir.specs.Outcome.{param_vars}
use Rattle.core_ir.specs.Terms.{BlockTerm, FunTerm, CoreTerm}
use Rattle.core_ir.specs.WellFormed.{Distinct, IsFunction, IsWellFormed}
use Rattle.core_facts.specs.calls.Replaced.{replaced_at}
use Rattle.core_subst.specs.Names.{above_function}
use Rattle.core_forms.proofs.inlined_bodies.Counts.{all_at}
use Rattle.core_forms.proofs.inlined_bodies.Names.{Names, same, both, distinct_right, Fresh, fresh_left, fresh_right, fresh_more, own_vars, own_fresh}

-- ---- the function

-- a function of a core all of whose variables are below a number
pub record IsBelow (low : ℕ) (a : CoreTerm) (f : FunTerm) : Type 0 where
  pub is : IsFunction a f
  pub fresh : Fresh (own_vars f) low
  pub params_fresh : Fresh (param_vars f) low
  pub bound_fresh : Fresh (bound_in f.body) low
  pub body_once : Distinct (bound_in f.body)

pub is_below : (low : ℕ) (a : CoreTerm) (n : ℕ) (f : FunTerm) → IsWellFormed a → slice_get a.functions n ≡ Some f → above_function f ≤ low → IsBelow low a f
is_below low a n f well found below =
    let is = all_at (IsFunction a) a.functions n f well.functions found in
    let fresh = fresh_more (own_vars f) (above_function f) low below (own_fresh f) in
    record {
      is = is;
      fresh = fresh;
      params_fresh = fresh_left (param_vars f) (bound_in f.body) low fresh;
      bound_fresh = fresh_right (param_vars f) (bound_in f.body) low fresh;
      body_once = distinct_right (param_vars f) (bound_in f.body) is.once;
    }

itself : (n : ℕ) → n ≤ n
itself n = omega arith

-- its parameters stay, and its body has these new variables
pub names_of_all : (low high : ℕ) (f : FunTerm) (c : BlockTerm) → low ≤ high → Names (bound_in f.body) (bound_in c) low high → Names (own_vars f) (param_vars f ++ bound_in c) low high
names_of_all low high f c rise names = both (param_vars f) (bound_in f.body) (param_vars f) (bound_in c) low low high (itself low) rise (same (param_vars f) low low) names

-- ---- a measure of bodies, added up over all functions

module _ (measure : BlockTerm → ℕ) (total : List FunTerm → ℕ) (adds : (x : FunTerm) (fs : List FunTerm) → total (x ∷ fs) ≡ measure x.body + total fs) where
  pub total_at : (fs : List FunTerm) (n : ℕ) (f g : FunTerm) → slice_get fs n ≡ Some f → total (replaced_at fs n g) + measure f.body ≡ total fs + measure g.body
  total_at [] n f g e = absurd (let q : ◌≡◌ {A = Option FunTerm} Option.None (Some f) = e in cc)
  total_at (x ∷ fs) zero f g e =
      let own : measure x.body ≡ measure f.body = ap (λ o. measure (unwrap_or o x).body) e in
      let old = adds x fs in
      let new = adds g fs in
      omega (arith, own, old, new)
  total_at (x ∷ fs) (suc n) f g e =
      let rest = total_at fs n f g e in
      let old = adds x fs in
      let new = adds x (replaced_at fs n g) in
      omega (arith, rest, old, new)

-- what has less in one function has less in all, and what has as much has as much
pub falls : (s f t g : ℕ) → s + f ≡ t + g → g < f → s < t
falls s f t g e l = omega (arith, e, l)

pub stays : (s f t g : ℕ) → s + f ≡ t + g → g ≡ f → s ≡ t
stays s f t g e l = omega (arith, e, l)

pub falls_by_one : (s f t g : ℕ) → s + f ≡ t + g → g + 1 ≡ f → s + 1 ≡ t
falls_by_one s f t g e l = omega (arith, e, l)
