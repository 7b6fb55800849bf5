-- A core with one function in the place of another.
use Rattle.std.proofs.Common.{◌≡◌, ℕ, zero, suc, List, [], ◌∷◌, Some, refl, ap, ◌⊎◌, inl, inr}
use Rattle.std.specs.Prelude.{slice_get, unwrap_or}
use Rattle.core_ir.specs.Terms.{BlockTerm, FunTerm}
use Rattle.core_ir.specs.Outcome.{param_types, SameHeads}
use Rattle.core_facts.specs.calls.Replaced.{replaced_at}

same_heads : (fs : List FunTerm) → SameHeads fs fs
same_heads [] = tt
same_heads (f ∷ fs) = (record { site = refl; types = refl; inlines = refl }, same_heads fs)

-- another body changes no head
pub heads_kept : (fs : List FunTerm) (n : ℕ) (f : FunTerm) (b : BlockTerm) → slice_get fs n ≡ Some f → SameHeads fs (replaced_at fs n (record f { body = b }))
heads_kept [] n f b e = tt
heads_kept (x ∷ fs) zero f b e =
    let q : x ≡ f = ap (λ o. unwrap_or o x) e in
    (record { site = λ i. (q i).site; types = λ i. param_types (q i); inlines = λ i. (q i).is_inline }, same_heads fs)
heads_kept (x ∷ fs) (suc n) f b e = (record { site = refl; types = refl; inlines = refl }, heads_kept fs n f b e)

-- at each place is what was there, or it is the place
pub at_place : (fs : List FunTerm) (n place : ℕ) (f g : FunTerm) → slice_get fs n ≡ Some f → (slice_get fs place ≡ slice_get (replaced_at fs n g) place) ⊎ ((slice_get fs place ≡ Some f) × (slice_get (replaced_at fs n g) place ≡ Some g))
at_place [] n place f g e = inl refl
at_place (x ∷ fs) zero zero f g e = inr (e, refl)
at_place (x ∷ fs) zero (suc place) f g e = inl refl
at_place (x ∷ fs) (suc n) zero f g e = inl refl
at_place (x ∷ fs) (suc n) (suc place) f g e = at_place fs n place f g e
