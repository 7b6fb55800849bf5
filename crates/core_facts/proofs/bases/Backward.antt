-- In a well-formed core inline functions call inline functions below their own place.
use Rattle.std.proofs.Common.{◌≡◌, ℕ, suc, ◌<◌, true, List, [], ◌∷◌, Option, Some, None, refl, arith, inl, inr}
use Rattle.std.specs.Prelude.{Contains, slice_get, unwrap_or}
use Rattle.std.proofs.lemmas.List.Elements.{Contains-append_left, Contains-append_right}
use Rattle.core_ir.specs.Terms.{BlockTerm, RightTerm, GensTerm, PartsTerm, FunTerm, CoreTerm, Gives, Bind, Plain, NoGens, Gen, NoParts, Part}
use Rattle.core_ir.specs.WellFormed.{calls_in, calls_in_right, calls_in_gens, calls_in_parts, IsWellFormed}
use Rattle.core_facts.specs.calls.Nests.{CallsAll, CallsAllRight, CallsAllGens, CallsAllParts, StandsIn, InlineBelow, CallsBelow}

contains : (ns : List ℕ) (n : ℕ) → StandsIn ns n → Contains ns n
contains [] n s = absurd s
contains (m ∷ ns) n s = elim s [
  | inl e ↦ (0, omega arith, e)
  | inr r ↦ let w = contains ns n r in (suc w.0, omega (arith, w.1), w.2)
]

module _ (P : ℕ → Type 0) where
  mutual
    all_calls : (b : BlockTerm) → ((g : ℕ) → Contains (calls_in b) g → P g) → CallsAll P b
    all_calls (Gives xs) h = tt
    all_calls (Bind xs s r b) h = (all_right r (λ g c. h g (Contains-append_left (calls_in_right r) (calls_in b) g c)), all_calls b (λ g c. h g (Contains-append_right (calls_in_right r) (calls_in b) g c)))

    all_right : (r : RightTerm) → ((g : ℕ) → Contains (calls_in_right r) g → P g) → CallsAllRight P r
    all_right (Plain p) h = tt
    all_right (RightTerm.If x a b) h = (all_calls a (λ g c. h g (Contains-append_left (calls_in a) (calls_in b) g c)), all_calls b (λ g c. h g (Contains-append_right (calls_in a) (calls_in b) g c)))
    all_right (RightTerm.Loop first start params a b s) h = (all_calls a (λ g c. h g (Contains-append_left (calls_in a) (calls_in b) g c)), all_calls b (λ g c. h g (Contains-append_right (calls_in a) (calls_in b) g c)))
    all_right (RightTerm.Call g xs) h = h g (0, omega arith, refl)
    all_right (RightTerm.With o gens) h = all_gens gens h
    all_right (RightTerm.Parted f t c o parts) h = all_parts parts h

    all_gens : (r : GensTerm) → ((g : ℕ) → Contains (calls_in_gens r) g → P g) → CallsAllGens P r
    all_gens NoGens h = tt
    all_gens (Gen k b rest) h = (all_calls b (λ g c. h g (Contains-append_left (calls_in b) (calls_in_gens rest) g c)), all_gens rest (λ g c. h g (Contains-append_right (calls_in b) (calls_in_gens rest) g c)))

    all_parts : (r : PartsTerm) → ((g : ℕ) → Contains (calls_in_parts r) g → P g) → CallsAllParts P r
    all_parts NoParts h = tt
    all_parts (Part k b rest) h = (all_calls b (λ g c. h g (Contains-append_left (calls_in b) (calls_in_parts rest) g c)), all_parts rest (λ g c. h g (Contains-append_right (calls_in b) (calls_in_parts rest) g c)))

pub below : (core : CoreTerm) → IsWellFormed core → CallsBelow core
below core well place f e inlines =
    all_calls (InlineBelow core place) f.body (λ g c j h stands at is. go g c j h (slice_get core.groups g) refl stands at is)
  where
    go : (g : ℕ) → Contains (calls_in f.body) g → (j : ℕ) (h : FunTerm) (o : Option (List ℕ)) → slice_get core.groups g ≡ o → StandsIn (unwrap_or o []) j → slice_get core.functions j ≡ Some h → h.is_inline ≡ true → j < place
    go g c j h None q stands at is = absurd stands
    go g c j h (Some places) q stands at is = well.backward place f e inlines g c places q j h (contains places j stands) at is
