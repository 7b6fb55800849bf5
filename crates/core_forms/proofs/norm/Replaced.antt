-- A core in which one function has another body: what holds of it whatever the step is.
use Rattle.std.proofs.Common.{◌≡◌, ℕ, zero, suc, ◌≤◌, true, List, [], ◌∷◌, ◌++◌, map, length, Option, Some, refl, sym, ap, subst, ◌∙◌, ◌⊎◌, inl, inr}
use Rattle.std.specs.Prelude.{cond, eqb, slice_get, unwrap_or}
use Rattle.sac_base.specs.declared.types.ArrayType.{ArrayType}
use Rattle.core_ir.specs.declared.tree.Var.{Var}
use Rattle.core_ir.specs.Binders.{is_in, bound_in}
use Rattle.core_ir.specs.Outcome.{SameHeads, param_vars, group_at}
use Rattle.core_ir.specs.Scopes.{Scoped}
use Rattle.core_ir.specs.Terms.{BlockTerm, FunTerm, CoreTerm}
use Rattle.core_ir.specs.WellFormed.{base_of, param_bases, IsWellFormed}
use Rattle.core_ir.proofs.Variables.{or_false}
use Rattle.core_facts.proofs.bases.Backward.{below}
use Rattle.core_facts.specs.calls.Nests.{CallsAll, InlineBelow, CallsBelow}
use Rattle.core_facts.specs.calls.Replaced.{replaced_at}
use Rattle.core_facts.proofs.calls.Agreeing.{weaker}
use Rattle.core_facts.proofs.calls.Replaced.{at_place}
use Rattle.core_facts.specs.constants.Called.{called, result_shapes, shapes_at, common_shapes}
use Rattle.core_subst.specs.Names.{above, above_all, above_function}
use Rattle.core_forms.proofs.inlined_bodies.Names.{Names, Fresh, fresh_more, not_in}
use Rattle.core_forms.proofs.inlined_bodies.Stepped.{stepped, still_below}
use Rattle.core_forms.proofs.norm.Laws.{is_below, names_below}
use Rattle.core_forms.proofs.norm.Reach.{most, fresh_above, block_above}
use Rattle.core_forms.proofs.norm.Tables.{Low}

-- ---- functions at places

same_shapes : (fs gs : List FunTerm) → ((place : ℕ) → result_shapes (slice_get gs place) ≡ result_shapes (slice_get fs place)) → (places : List ℕ) → shapes_at gs places ≡ shapes_at fs places
same_shapes fs gs r [] = refl
same_shapes fs gs r (p ∷ []) = r p
same_shapes fs gs r (p ∷ q ∷ ps) = λ i. common_shapes (r p i) (same_shapes fs gs r (q ∷ ps) i)

pub found_after : (fs : List FunTerm) (n : ℕ) (f g : FunTerm) → slice_get fs n ≡ Some f → slice_get (replaced_at fs n g) n ≡ Some g
found_after [] n f g e = absurd (let q : ◌≡◌ {A = Option FunTerm} Option.None (Some f) = e in cc)
found_after (x ∷ fs) zero f g e = refl
found_after (x ∷ fs) (suc n) f g e = found_after fs n f g e

pub replaced_same : (fs : List FunTerm) (n : ℕ) (f : FunTerm) → slice_get fs n ≡ Some f → replaced_at fs n f ≡ fs
replaced_same [] n f e = refl
replaced_same (x ∷ fs) zero f e = let own : x ≡ f = ap (λ o. unwrap_or o x) e in λ i. sym own i ∷ fs
replaced_same (x ∷ fs) (suc n) f e = ap (λ gs. x ∷ gs) (replaced_same fs n f e)

pub replaced_twice : (fs : List FunTerm) (n : ℕ) (f g : FunTerm) → replaced_at (replaced_at fs n f) n g ≡ replaced_at fs n g
replaced_twice [] n f g = refl
replaced_twice (x ∷ fs) zero f g = refl
replaced_twice (x ∷ fs) (suc n) f g = ap (λ gs. x ∷ gs) (replaced_twice fs n f g)

-- the function behind those before it
pub at_length : (before fs : List FunTerm) (f : FunTerm) → slice_get (before ++ (f ∷ fs)) (length before) ≡ Some f
at_length [] fs f = refl
at_length (g ∷ before) fs f = at_length before fs f

pub put_at : (before fs : List FunTerm) (f g : FunTerm) → replaced_at (before ++ (f ∷ fs)) (length before) g ≡ before ++ (g ∷ fs)
put_at [] fs f g = refl
put_at (x ∷ before) fs f g = ap (λ gs. x ∷ gs) (put_at before fs f g)

pub same_heads : (fs : List FunTerm) → SameHeads fs fs
same_heads [] = tt
same_heads (f ∷ fs) = (record { site = refl; types = refl; inlines = refl }, same_heads fs)

-- ---- the function

pub low_params : (f : FunTerm) (low : ℕ) → Fresh (param_vars f) low → Low (param_bases f) low
low_params f low fresh = go f.params fresh
  where
    go : (ps : List (Var × ArrayType)) → Fresh (map (λ (p : Var × ArrayType). p.0) ps) low → Low (map (λ (p : Var × ArrayType). (p.0, p.1.base)) ps) low
    go [] h y k = refl
    go (p ∷ ps) h y k =
        let w = or_false (eqb p.0.0 y.0) (is_in y (map (λ (p : Var × ArrayType). p.0) ps)) (h y k) in
        (λ i. cond (w.0 i) (Some p.1.base) (base_of (map (λ (p : Var × ArrayType). (p.0, p.1.base)) ps) y))
        ∙ go ps (λ z l. (or_false (eqb p.0.0 z.0) (is_in z (map (λ (p : Var × ArrayType). p.0) ps)) (h z l)).1) y k

-- with new names below high, all its variables are
pub above_after : (f : FunTerm) (c : BlockTerm) (low high : ℕ) → low ≤ high → Fresh (param_vars f) low → Fresh (bound_in f.body) low → Names (bound_in f.body) (bound_in c) low high → Scoped (param_vars f) c → above_function (record f { body = c }) ≤ high
above_after f c low high rise params_fresh bound_fresh names scoped =
    most (above_all (param_vars f)) (above c) high (fresh_above high (param_vars f) params) (block_above high c (param_vars f) params scoped bound)
  where
    params : Fresh (param_vars f) high
    params = fresh_more (param_vars f) low high rise params_fresh

    bound : Fresh (bound_in c) high
    bound y l = not_in y (bound_in c) (λ h. is_below high y.0 (names_below (bound_in f.body) (bound_in c) low high rise names bound_fresh y h) l)

-- ---- the core

pub same_core : (a b : CoreTerm) → b.groups ≡ a.groups → b.main ≡ a.main → record a { functions = b.functions } ≡ b
same_core a b g m = λ i. record { functions = b.functions; groups = sym g i; main = sym m i }

module _ (a : CoreTerm) (n : ℕ) (f : FunTerm) (c : BlockTerm) (found : slice_get a.functions n ≡ Some f) where
  abbrev own : FunTerm
  own = record f { body = c }

  -- inline functions call groups below their own, where the new body calls no others than the old one
  pub still_backward : IsWellFormed a → ((place : ℕ) → CallsAll (InlineBelow a place) f.body → CallsAll (InlineBelow a place) c) → CallsBelow (stepped a n f c)
  still_backward well no_others place g e w = go (at_place a.functions n place f own found)
    where
      go : (slice_get a.functions place ≡ slice_get (replaced_at a.functions n own) place) ⊎ ((slice_get a.functions place ≡ Some f) × (slice_get (replaced_at a.functions n own) place ≡ Some own)) → CallsAll (InlineBelow (stepped a n f c) place) g.body
      go (inl y) = weaker (InlineBelow a place) (InlineBelow (stepped a n f c) place) (λ group h. still_below a n f c found place group h) g.body (below a well place g (y ∙ e) w)
      go (inr y) =
          let it : own ≡ g = ap (λ o. unwrap_or o g) (sym y.1 ∙ e) in
          let inlines : f.is_inline ≡ true = ap (λ (o : FunTerm). o.is_inline) it ∙ w in
          subst (λ (o : FunTerm). CallsAll (InlineBelow (stepped a n f c) place) o.body) it
          (weaker (InlineBelow a place) (InlineBelow (stepped a n f c) place) (λ group h. still_below a n f c found place group h) c (no_others place (below a well place f y.0 inlines)))

  results_at : (place : ℕ) → result_shapes (slice_get (stepped a n f c).functions place) ≡ result_shapes (slice_get a.functions place)
  results_at place = go (at_place a.functions n place f own found)
    where
      go : (slice_get a.functions place ≡ slice_get (replaced_at a.functions n own) place) ⊎ ((slice_get a.functions place ≡ Some f) × (slice_get (replaced_at a.functions n own) place ≡ Some own)) → result_shapes (slice_get (replaced_at a.functions n own) place) ≡ result_shapes (slice_get a.functions place)
      go (inl y) = ap result_shapes (sym y)
      go (inr y) = ap result_shapes y.1 ∙ sym (ap result_shapes y.0)

  pub same_called : called (stepped a n f c) ≡ called a
  same_called = λ i group. same_shapes a.functions (stepped a n f c).functions results_at (group_at a group) i
