-- Tables of the sizes of functions.
use Rattle.std.proofs.Common.{◌≡◌, ℕ, zero, suc, ◌<◌, ◌≤◌, ◌⊎◌, inl, inr, List, [], ◌∷◌, ◌++◌, map, length, set, get_or, Option, Some, None, refl, sym, ap, subst, ◌∙◌, arith}
use Rattle.std.specs.Prelude.{slice_get, unwrap_or}
use Rattle.core_ir.specs.declared.tree.CoreFun.{CoreFun}
use Rattle.core_ir.specs.Terms.{FunTerm, CoreTerm}
use Rattle.core_ir.specs.View.{fun_term}
use Rattle.core_facts.specs.calls.Replaced.{replaced_at}
use Rattle.core_forms.specs.inlined_bodies.Inlining.{IsInstance}
use Rattle.inline_calls.specs.declared.sizes.Size.{Size}
use Rattle.inline_calls.specs.Measures.{IsSize, AreSizes}
use Rattle.inline_calls.proofs.Passes.{set_term}

module _ (g f : FunTerm) (s t : Size) where
  -- at each place is what was there, or it is the place
  both_there : (fs : List FunTerm) (ss : List Size) (place p : ℕ) → slice_get (replaced_at fs place g) p ≡ Some f → slice_get (set ss place s) p ≡ Some t
      → ((slice_get fs p ≡ Some f) × (slice_get ss p ≡ Some t)) ⊎ ((f ≡ g) × (t ≡ s))
  both_there [] ss place p e d = absurd (let q : ◌≡◌ {A = Option FunTerm} None (Some f) = e in cc)
  both_there (x ∷ fs) [] place p e d = absurd (let q : ◌≡◌ {A = Option Size} None (Some t) = d in cc)
  both_there (x ∷ fs) (y ∷ ss) zero zero e d = inr (sym (ap (λ o. unwrap_or o f) e), sym (ap (λ o. unwrap_or o t) d))
  both_there (x ∷ fs) (y ∷ ss) zero (suc p) e d = inl (e, d)
  both_there (x ∷ fs) (y ∷ ss) (suc n) zero e d = inl (e, d)
  both_there (x ∷ fs) (y ∷ ss) (suc n) (suc p) e d = both_there fs ss n p e d

-- a function and its size are exchanged
pub sizes_set : (core : CoreTerm) (sizes : List Size) (place : ℕ) (g : FunTerm) (s : Size) → AreSizes core sizes → IsSize g s → AreSizes (record core { functions = replaced_at core.functions place g }) (set sizes place s)
sizes_set core sizes place g s all own p f t e d = go (both_there g f s t core.functions sizes place p e d)
  where
    go : ((slice_get core.functions p ≡ Some f) × (slice_get sizes p ≡ Some t)) ⊎ ((f ≡ g) × (t ≡ s)) → IsSize f t
    go (inl h) = all p f t h.0 h.1
    go (inr h) = subst (λ (k : FunTerm). IsSize k t) (sym h.0) (subst (λ (u : Size). IsSize g u) (sym h.1) own)

-- the code's function and its size are exchanged
set_there : (fs : List CoreFun) (i : ℕ) (g x : CoreFun) → i < length fs → get_or (set fs i g) i x ≡ g
set_there [] i g x l = absurd (omega arith)
set_there (f ∷ fs) zero g x l = refl
set_there (f ∷ fs) (suc i) g x l = set_there fs i g x (omega (arith, l))

pub size_kept : (core : CoreTerm) (fs : List CoreFun) (place : ℕ) (g x : CoreFun) (sizes sizes' : List Size) (s : Size) → core.functions ≡ map fun_term fs → place < length fs → x ≡ get_or (set fs place g) place x → IsSize (fun_term x) s → AreSizes core sizes → sizes' ≡ set sizes place s
    → AreSizes (record core { functions = map fun_term (set fs place g) }) sizes'
size_kept core fs place g x sizes sizes' s there l e own all q =
    let same : x ≡ g = e ∙ set_there fs place g x l in
    let mine = subst (λ (f : CoreFun). IsSize (fun_term f) s) same own in
    subst (λ ss. AreSizes (record core { functions = map fun_term (set fs place g) }) ss) (sym q)
    (subst (λ gs. AreSizes (record core { functions = gs }) (set sizes place s)) (sym (set_term fs place g ∙ ap (λ gs. replaced_at gs place (fun_term g)) (sym there)))
    (sizes_set core sizes place (fun_term g) s all mine))

pub set_beyond : (sizes : List Size) (place : ℕ) (s : Size) → length sizes ≤ place → sizes ≡ set sizes place s
set_beyond [] place s l = refl
set_beyond (x ∷ sizes) zero s l = absurd (omega arith)
set_beyond (x ∷ sizes) (suc i) s l = ap (λ ss. x ∷ ss) (set_beyond sizes i s (omega (arith, l)))

-- the size at the only place of a group
pub size_found : (core : CoreTerm) (sizes : List Size) (group place p : ℕ) (ps : List ℕ) (f : FunTerm) (s : Size) → AreSizes core sizes → IsInstance core group place f → slice_get core.groups group ≡ Some ps → slice_get ps 0 ≡ Some p → slice_get sizes p ≡ Some s → IsSize f s
size_found core sizes group place p ps f s all i g first e =
    let alone : ps ≡ place ∷ [] = sym (ap (λ o. unwrap_or o []) g) ∙ i.alone in
    let same : p ≡ place = ap (λ o. unwrap_or o p) (sym first ∙ ap (λ qs. slice_get qs 0) alone) in
    all place f s i.found (subst (λ n. slice_get sizes n ≡ Some s) same e)

-- ---- a size more is pushed

snoc_at : (ss : List Size) (s t : Size) (p : ℕ) → slice_get (ss ++ (s ∷ [])) p ≡ Some t → (slice_get ss p ≡ Some t) ⊎ ((p ≡ length ss) × (t ≡ s))
snoc_at [] s t zero e = inr (refl, sym (ap (λ o. unwrap_or o t) e))
snoc_at [] s t (suc p) e = absurd (let q : ◌≡◌ {A = Option Size} None (Some t) = e in cc)
snoc_at (x ∷ ss) s t zero e = inl e
snoc_at (x ∷ ss) s t (suc p) e = go (snoc_at ss s t p e)
  where
    go : (slice_get ss p ≡ Some t) ⊎ ((p ≡ length ss) × (t ≡ s)) → (slice_get ss p ≡ Some t) ⊎ ((suc p ≡ suc (length ss)) × (t ≡ s))
    go (inl h) = inl h
    go (inr h) = inr (ap suc h.0, h.1)

pub size_pushed : (core : CoreTerm) (sizes sizes' : List Size) (g : FunTerm) (s : Size) → AreSizes core sizes → slice_get core.functions (length sizes) ≡ Some g → IsSize g s → sizes' ≡ sizes ++ (s ∷ []) → AreSizes core sizes'
size_pushed core sizes sizes' g s all e own q p f t found d = go (snoc_at sizes s t p (ap (λ ss. slice_get ss p) (sym q) ∙ d))
  where
    go : (slice_get sizes p ≡ Some t) ⊎ ((p ≡ length sizes) × (t ≡ s)) → IsSize f t
    go (inl h) = all p f t found h
    go (inr h) =
        let same : g ≡ f = ap (λ o. unwrap_or o g) (sym e ∙ ap (slice_get core.functions) (sym h.0) ∙ found) in
        subst (λ (k : FunTerm). IsSize k t) same (subst (λ (u : Size). IsSize g u) (sym h.1) own)
