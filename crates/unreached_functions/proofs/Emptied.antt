-- Functions that main does not reach may lose their bodies.
use Rattle.std.proofs.Common.{◌≡◌, ℕ, zero, suc, ◌^◌, ◌<◌, ◌||◌, Bool, true, false, cond, eqb, List, [], ◌∷◌, ◌++◌, map, length, set, zip, Option, Some, None, refl, sym, ap, subst, ◌∙◌, append-nil, arith, ◌⊎◌, inl, inr}
use Rattle.std.specs.Prelude.{slice_get, unwrap_or, nat_lt, if◌then◌else◌}
use Rattle.std.proofs.lemmas.Bool.{eqb-true, eq-eqb}
use Rattle.std.proofs.lemmas.List.{length-map}
use Rattle.sac_base.specs.declared.base.Base.{Base}
use Rattle.sac_base.specs.declared.faults.FaultKind.TheVariants.{F10}
use Rattle.sac_base.specs.declared.site.Site.{Site}
use Rattle.sac_base.specs.declared.types.ArrayType.{ArrayType}
use Rattle.core_ir.specs.declared.tree.Var.{Var}
use Rattle.core_ir.specs.Binders.{is_in, bound_in}
use Rattle.core_ir.specs.Outcome.{param_vars, SameOutcome}
use Rattle.core_ir.specs.Scopes.{AllIn}
use Rattle.core_ir.specs.declared.tree.CoreFun.{CoreFun}
use Rattle.core_ir.specs.Terms.{BlockTerm, FunTerm, CoreTerm, Gives, Bind, Plain, Always}
use Rattle.core_ir.specs.View.{fun_term}
use Rattle.core_ir.specs.WellFormed.{Bases, base_of, HasBases, bases, param_bases, Distinct, IsFunction, IsWellFormed}
use Rattle.core_facts.proofs.bases.Backward.{below}
use Rattle.core_facts.specs.calls.Nests.{CallsAll, InlineBelow, CallsBelow}
use Rattle.core_facts.specs.calls.Replaced.{replaced_at}
use Rattle.core_facts.proofs.calls.Agreeing.{weaker}
use Rattle.core_facts.proofs.calls.Replaced.{heads_kept, at_place}
use Rattle.core_subst.specs.Names.{variable, variable_at, above_function}
use Rattle.core_forms.proofs.inlined_bodies.Names.{itself, behind_first, in_left, none_by, distinct_both, distinct_left, fresh_left, fresh_below, own_fresh}
use Rattle.core_forms.proofs.inlined_bodies.Scopes.{other_way}
use Rattle.core_forms.proofs.inlined_bodies.Counts.{all_at}
use Rattle.core_forms.proofs.inlined_bodies.Stepped.{stepped, still_below, well_stepped}
use Rattle.unreached_functions.specs.Closed.{IsMarked, IsClosed}
use Rattle.unreached_functions.specs.Emptied.{numbered, empty_body, FunctionEmptied}
use Rattle.unreached_functions.proofs.Agreeing.{outcomes_reached}

-- ---- numbered variables

differ : (m k : ℕ) → k < m → eqb m k ≡ false
differ m k h = go (eqb m k) refl
  where
    go : (t : Bool) → eqb m k ≡ t → eqb m k ≡ false
    go true e = absurd (let p = eqb-true m k e in omega arith)
    go false e = e

numbered_low : (from n : ℕ) (y : Var) → y.0 < from → is_in y (numbered from n) ≡ false
numbered_low from zero y h = refl
numbered_low from (suc n) y h = λ i. differ from y.0 h i || numbered_low (suc from) n y (omega (arith, h)) i

numbered_distinct : (from n : ℕ) → Distinct (numbered from n)
numbered_distinct from zero = tt
numbered_distinct from (suc n) = (numbered_low (suc from) n (variable from) (omega arith), numbered_distinct (suc from) n)

numbered_count : (from n : ℕ) → length (numbered from n) ≡ n
numbered_count from zero = refl
numbered_count from (suc n) = ap suc (numbered_count (suc from) n)

-- ---- scopes and bases of variables that are bound together

members : (ys scope : List Var) → ((y : Var) → is_in y ys ≡ true → is_in y scope ≡ true) → AllIn ys scope
members [] scope f = tt
members (y ∷ ys) scope f = (f y (itself y ys), members ys scope (λ z h. f z (behind_first z y ys h)))

not_first : (x y : Var) (ys : List Var) → is_in x (y ∷ ys) ≡ false → (eqb y.0 x.0 ≡ false) × (is_in x ys ≡ false)
not_first x y ys h = Rattle.core_ir.proofs.Variables.or_false (eqb y.0 x.0) (is_in x ys) h

behind_bases : (g : Bases) (x : Var) (t : Base) (xs : List Var) (ts : List Base) → is_in x xs ≡ false → HasBases g xs ts → HasBases ((x, t) ∷ g) xs ts
behind_bases g x t [] [] n h = tt
behind_bases g x t (y ∷ ys) (u ∷ us) n h =
    let w = not_first x y ys n in
    ((λ i. cond (other_way y.0 x.0 w.0 i) (Some t) (base_of g y)) ∙ h.0, behind_bases g x t ys us w.1 h.1)
behind_bases g x t [] (u ∷ us) n h = absurd h
behind_bases g x t (y ∷ ys) [] n h = absurd h

zipped_bases : (g : Bases) (xs : List Var) (ts : List Base) → Distinct xs → length xs ≡ length ts → HasBases (zip xs ts ++ g) xs ts
zipped_bases g [] [] d l = tt
zipped_bases g (x ∷ xs) (t ∷ ts) d l = (
  λ i. cond (eq-eqb x.0 x.0 refl i) (Some t) (base_of (zip xs ts ++ g) x),
  behind_bases (zip xs ts ++ g) x t xs ts d.0 (zipped_bases g xs ts d.1 (omega (arith, l))),
)
zipped_bases g [] (t ∷ ts) d l = absurd (omega (arith, l))
zipped_bases g (x ∷ xs) [] d l = absurd (omega (arith, l))

-- ---- the empty body

module _ (core : CoreTerm) (f : FunTerm) (once : Distinct (param_vars f)) where
  targets : List Var
  targets = numbered (above_function f) (length f.results)

  low : (y : Var) → is_in y (param_vars f) ≡ true → y.0 < above_function f
  low y h = fresh_below (param_vars f) (above_function f) y (fresh_left (param_vars f) (bound_in f.body) (above_function f) (own_fresh f)) h

  apart : (y : Var) → is_in y (param_vars f) ≡ true → is_in y (numbered (above_function f) (length f.results)) ≡ false
  apart y h = numbered_low (above_function f) (length f.results) y (low y h)

  other : (y : Var) → is_in y (numbered (above_function f) (length f.results)) ≡ true → is_in y (param_vars f) ≡ false
  other y h = go (is_in y (param_vars f)) refl
    where
      go : (t : Bool) → is_in y (param_vars f) ≡ t → is_in y (param_vars f) ≡ false
      go true e = absurd (let p = sym h ∙ apart y e in cc)
      go false e = e

  count : length (numbered (above_function f) (length f.results)) ≡ length (bases f.results)
  count = numbered_count (above_function f) (length f.results) ∙ sym (length-map f.results (λ (t : ArrayType). t.base))

  distinct : Distinct (numbered (above_function f) (length f.results))
  distinct = numbered_distinct (above_function f) (length f.results)

  pub empty_function : IsFunction core (record f { body = empty_body f })
  empty_function = record {
    once = subst (λ zs. Distinct (param_vars f ++ zs)) (sym (append-nil (numbered (above_function f) (length f.results))))
        (distinct_both (param_vars f) (numbered (above_function f) (length f.results)) once distinct apart);
    scoped = (
      tt,
      none_by (numbered (above_function f) (length f.results)) (param_vars f) other,
      members (numbered (above_function f) (length f.results)) (numbered (above_function f) (length f.results) ++ param_vars f)
          (λ y h. in_left y (numbered (above_function f) (length f.results)) (param_vars f) h),
    );
    agreeing = (bases f.results, (tt, count, zipped_bases (param_bases f) (numbered (above_function f) (length f.results)) (bases f.results) distinct count));
  }

-- ---- whole cores

others : (fs : List FunTerm) (n place : ℕ) (g : FunTerm) → (place ≡ n → ⊥) → slice_get fs place ≡ slice_get (replaced_at fs n g) place
others [] n place g h = refl
others (x ∷ fs) zero zero g h = absurd (h refl)
others (x ∷ fs) zero (suc place) g h = refl
others (x ∷ fs) (suc n) zero g h = refl
others (x ∷ fs) (suc n) (suc place) g h = others fs n place g (λ e. h (ap suc e))

module _ (a : CoreTerm) (n : ℕ) (f : FunTerm) (found : slice_get a.functions n ≡ Some f) where
  below_after : IsWellFormed a → CallsBelow (stepped a n f (empty_body f))
  below_after well place g e t = go (at_place a.functions n place f (record f { body = empty_body f }) found)
    where
      go : (slice_get a.functions place ≡ slice_get (replaced_at a.functions n (record f { body = empty_body f })) place)
          ⊎ ((slice_get a.functions place ≡ Some f) × (slice_get (replaced_at a.functions n (record f { body = empty_body f })) place ≡ Some (record f { body = empty_body f })))
          → CallsAll (InlineBelow (stepped a n f (empty_body f)) place) g.body
      go (inl y) =
          weaker (InlineBelow a place) (InlineBelow (stepped a n f (empty_body f)) place) (λ group h. still_below a n f (empty_body f) found place group h) g.body (below a well place g (y ∙ e) t)
      go (inr y) =
          let own : record f { body = empty_body f } ≡ g = ap (λ o. unwrap_or o g) (sym y.1 ∙ e) in
          subst (λ (o : FunTerm). CallsAll (InlineBelow (stepped a n f (empty_body f)) place) o.body) own (tt, tt)

  well_after : IsWellFormed a → IsWellFormed (stepped a n f (empty_body f))
  well_after well =
      let is = all_at (IsFunction a) a.functions n f well.functions found in
      well_stepped a n f (empty_body f) found well (below_after well)
      (empty_function (stepped a n f (empty_body f)) f (distinct_left (param_vars f) (bound_in f.body) is.once))

  module _ (groups functions : List Bool) (closed : IsClosed a groups functions) (unmarked : IsMarked functions n → ⊥) where
    there : (place : ℕ) → IsMarked functions place → slice_get a.functions place ≡ slice_get (replaced_at a.functions n (record f { body = empty_body f })) place
    there place m = others a.functions n place (record f { body = empty_body f }) (λ e. unmarked (subst (IsMarked functions) e m))

    outcome_after : SameOutcome a (stepped a n f (empty_body f))
    outcome_after = outcomes_reached a (stepped a n f (empty_body f)) groups functions (record { groups = refl; main = refl; heads = heads_kept a.functions n f (empty_body f) found }) closed there

    closed_after : IsClosed (stepped a n f (empty_body f)) groups functions
    closed_after = record { main = closed.main; instances = closed.instances; calls = λ place g m e. closed.calls place g m (there place m ∙ e) }

-- a function that main does not reach may lose its body
pub emptied_same : (a b : CoreTerm) (groups functions : List Bool) (place : ℕ) → FunctionEmptied a b place → IsClosed a groups functions → (IsMarked functions place → ⊥) → SameOutcome a b × IsClosed b groups functions
emptied_same a b groups functions place step closed unmarked =
    subst (λ (x : CoreTerm). SameOutcome a x × IsClosed x groups functions) (sym step.changed)
    (outcome_after a place step.function step.found groups functions closed unmarked, closed_after a place step.function step.found groups functions closed unmarked)

pub emptied_well : (a b : CoreTerm) (place : ℕ) → FunctionEmptied a b place → IsWellFormed a → IsWellFormed b
emptied_well a b place step well = subst IsWellFormed (sym step.changed) (well_after a place step.function step.found well)

-- ---- a turn over the functions

pub record HasLost (start core : CoreTerm) (groups functions : List Bool) : Type 0 where
  pub outcome : IsClosed start groups functions → SameOutcome start core
  pub closed : IsClosed start groups functions → IsClosed core groups functions
  pub well : IsWellFormed start → IsWellFormed core

pub lost_more : (start old new : CoreTerm) (groups functions : List Bool) (place : ℕ) → HasLost start old groups functions → (old ≡ new) ⊎ FunctionEmptied old new place → (IsMarked functions place → ⊥) → HasLost start new groups functions
lost_more start old new groups functions place h (inl e) unmarked = subst (λ (x : CoreTerm). HasLost start x groups functions) e h
lost_more start old new groups functions place h (inr step) unmarked = record {
  outcome = λ c args caps. h.outcome c args caps ∙ (emptied_same old new groups functions place step (h.closed c) unmarked).0 args caps;
  closed = λ c. (emptied_same old new groups functions place step (h.closed c) unmarked).1;
  well = λ w. emptied_well old new place step (h.well w);
}

-- ---- the code's function

set_term : (fs : List CoreFun) (i : ℕ) (g : CoreFun) → map fun_term (set fs i g) ≡ replaced_at (map fun_term fs) i (fun_term g)
set_term [] i g = refl
set_term (f ∷ fs) zero g = refl
set_term (f ∷ fs) (suc i) g = ap (λ gs. fun_term f ∷ gs) (set_term fs i g)

pub emptied_is : (f : FunTerm) (body : BlockTerm) (vars : List Var) (first many : ℕ) (site : Site) → body ≡ Bind vars site (Plain (Always F10)) (Gives vars) → vars ≡ numbered first many → first ≡ above_function f → many ≡ length f.results → site ≡ f.site
    → body ≡ empty_body f
emptied_is f body vars first many site b v p q s =
    let t : vars ≡ numbered (above_function f) (length f.results) = v ∙ (λ i. numbered (p i) (q i)) in
    b ∙ (λ i. Bind (t i) (s i) (Plain (Always F10)) (Gives (t i)))

pub function_emptied : (core : CoreTerm) (fs : List CoreFun) (place : ℕ) (z g : CoreFun) → core.functions ≡ map fun_term fs → slice_get (map fun_term fs) place ≡ Some (fun_term z) → fun_term g ≡ record (fun_term z) { body = empty_body (fun_term z) }
    → FunctionEmptied core (record core { functions = map fun_term (set fs place g) }) place
function_emptied core fs place z g there found same =
    record {
      function = fun_term z;
      found = ap (λ xs. slice_get xs place) there ∙ found;
      changed = λ i. record core { functions = (set_term fs place g ∙ (λ j. replaced_at (sym there j) place (same j))) i };
    }

pub some_exact : (n : ℕ) (x : Var) → variable_at n ≡ Some x → x.0 ≡ n
some_exact n x e = go (nat_lt n (2 ^ 32)) refl
  where
    go : (b : Bool) → nat_lt n (2 ^ 32) ≡ b → x.0 ≡ n
    go true p = ap (λ (o : Option Var). (unwrap_or o x).0) (sym e ∙ (λ i. if p i then Some (variable n) else None))
    go false p = absurd (let r : ◌≡◌ {A = Option Var} None (Some x) = (λ i. if sym p i then Some (variable n) else None) ∙ e in cc)
