-- Buffers of a heap that lends, by their numbers.
use Rattle.std.proofs.Common.{◌≡◌, ℕ, zero, suc, Bool, true, false, cond, eqb, List, [], ◌∷◌, ℤ, Option, Some, None, refl, ap, sym, ◌∙◌, arith}
use Rattle.std.specs.Prelude.{IsSomeAnd, slice_index_or}
use Rattle.std.proofs.lemmas.Bool.{eqb-true, eq-eqb}
use Rattle.buffer_heap.specs.Heaps.{Held, HeapValue, In, at, IsLive, IsNamed, content_of}
use Rattle.phase_loop_cells.specs.Opened.{named, cells_in}

-- no two buffers have one number
abbrev pub AreSingle : List (Option Held) → Type 0
AreSingle os = (b c : ℕ) (x y : Held) → slice_index_or os b None ≡ Some x → slice_index_or os c None ≡ Some y → x.born ≡ y.born → b ≡ c

no_some : (x : Held) → ◌≡◌ {A = Option Held} None (Some x) → ⊥
no_some x p = cc

some_same : (x y : Held) → ◌≡◌ {A = Option Held} (Some x) (Some y) → x ≡ y
some_same x y e = cc

behind_single : (o : Option Held) (os : List (Option Held)) → AreSingle (o ∷ os) → AreSingle os
behind_single o os single b c x y p q same = let next = single (suc b) (suc c) x y p q same in omega (arith, next)

-- a buffer is found by its number
pub named_there : (os : List (Option Held)) (b : ℕ) (x : Held) → AreSingle os → slice_index_or os b None ≡ Some x → named os x.born ≡ Some x
named_there [] b x single is = elim (no_some x is) [ ]
named_there (None ∷ os) zero x single is = elim (no_some x is) [ ]
named_there (None ∷ os) (suc b) x single is = named_there os b x (behind_single None os single) is
named_there (Some y ∷ os) zero x single is = λ i. cond (eq-eqb y.born x.born (ap (λ (z : Held). z.born) (some_same y x is)) i) (is i) (named os x.born)
named_there (Some y ∷ os) (suc b) x single is = further (eqb y.born x.born) refl (named_there os b x (behind_single (Some y) os single) is)
  where
    further : (r : Bool) → eqb y.born x.born ≡ r → named os x.born ≡ Some x → cond r (Some y) (named os x.born) ≡ Some x
    further true e rest = absurd (let apart = single 0 (suc b) y x refl is (eqb-true y.born x.born e) in omega (arith, apart))
    further false e rest = rest

-- what is there and has a property
pub some_there : (o : Option Held) (M : Held → Type 0) → IsSomeAnd o M → (x : Held) × (o ≡ Some x) × M x
some_there None M alive = elim alive [ ]
some_there (Some x) M alive = (x, refl, alive)

-- the cells of a buffer that is in at a place are found by its number
pub cells_named : (h : HeapValue) (place born : ℕ) (cells : List ℤ) → AreSingle h.places → IsLive h place (IsNamed born) → content_of (at h place) ≡ In cells → cells_in (content_of (named h.places born)) ≡ cells
cells_named h place born cells single live is =
    let s = some_there (at h place) (IsNamed born) live in
    let x = s.0 in
    ap (λ (n : ℕ). cells_in (content_of (named h.places n))) (sym s.2.1)
    ∙ ap (λ o. cells_in (content_of o)) (named_there h.places place x single s.1 ∙ sym s.1)
    ∙ ap cells_in is
