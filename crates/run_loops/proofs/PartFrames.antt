-- Members of grids, and frames whose indices are words.
use Rattle.std.proofs.Common.{◌≡◌, ℕ, zero, suc, ◌+◌, ◌<◌, List, [], ◌∷◌, ◌++◌, length, get_or, take, map, Bool, true, false, refl, sym, ap, ◌∙◌, ℤ, pos, negsuc, ◌-ℤ◌, ◌≤ℤ◌, ◌<ℤ◌, All, FitsSigned, w32, inl, inr, arith, true≢false}
use Rattle.std.specs.Prelude.{◌&&◌}
use Rattle.std.proofs.lemmas.Int.{ints}
use Rattle.std.proofs.lemmas.List.{take_more}
use Rattle.std.proofs.lemmas.List.Elements.{All-nil, All-cons, All-head, All-tail}
use Rattle.sac_base.specs.declared.grid.Grid1.{Grid1}
use Rattle.sac_base.specs.Grids.{has_index, has_vector}
use Rattle.sac_base.specs.WithLoops.{distance}
use Rattle.sac_base.proofs.GridFacts.{has_facts}
use Rattle.core_ir.specs.Meaning.{extents}
use Rattle.run_loops.specs.Loops.{IsWordAxis}

-- ---- words

word_of : (a : Grid1) (x : ℤ) → IsWordAxis a → has_index a x ≡ true → FitsSigned w32 x
word_of a x w e = elim (has_facts a x a.wide) [
  | inl y ↦ fits x y.0 y.1
  | inr n ↦ absurd (true≢false (sym e ∙ n.1))
]
  where
    fits : (x : ℤ) → a.lo ≤ℤ x → x <ℤ a.hi → FitsSigned w32 x
    fits (pos n) least lt = record { sfits = omega (arith, ints, w.most) }
    fits (negsuc n) least lt = record { sfits = omega (arith, ints, w.least) }

pub words_of : (g : List Grid1) (v : List ℤ) → All IsWordAxis g → has_vector g v ≡ true → All (FitsSigned w32) v
words_of [] [] h e = All-nil (FitsSigned w32)
words_of [] (x ∷ v) h e = absurd (true≢false (sym e))
words_of (a ∷ g) [] h e = absurd (true≢false (sym e))
words_of (a ∷ g) (x ∷ v) h e = both (has_index a x) refl (words_of g v (All-tail IsWordAxis a g h)) e
  where
    both : (b : Bool) → has_index a x ≡ b → (has_vector g v ≡ true → All (FitsSigned w32) v) → (b && has_vector g v) ≡ true → All (FitsSigned w32) (x ∷ v)
    both true is rest e = All-cons (FitsSigned w32) x v (word_of a x (All-head IsWordAxis a g h) is) (rest e)
    both false is rest e = absurd (true≢false (sym e))

-- ---- extents

no_distance : (d : ℤ) → d ≤ℤ pos 0 → distance d ≡ 0
no_distance (pos zero) h = refl
no_distance (pos (suc n)) h = absurd (omega (arith, ints))
no_distance (negsuc n) h = refl

pub distance_none : (lo hi : ℤ) → hi ≤ℤ lo → pos (distance (hi -ℤ lo)) ≡ pos 0
distance_none lo hi h = ap pos (no_distance (hi -ℤ lo) (omega (arith, ints)))

distance_is : (d : ℤ) → pos 0 ≤ℤ d → pos (distance d) ≡ d
distance_is (pos n) h = refl
distance_is (negsuc n) h = absurd (omega (arith, ints))

pub distance_some : (lo hi : ℤ) → lo <ℤ hi → pos (distance (hi -ℤ lo)) ≡ (hi -ℤ lo)
distance_some lo hi h = distance_is (hi -ℤ lo) (omega (arith, ints))

pushed : (axes : List Grid1) (a : Grid1) → map pos (extents (axes ++ a ∷ [])) ≡ map pos (extents axes) ++ pos (distance (a.hi -ℤ a.lo)) ∷ []
pushed [] a = refl
pushed (b ∷ axes) a = ap (λ zs. pos (distance (b.hi -ℤ b.lo)) ∷ zs) (pushed axes a)

pub outer_more : (axes : List Grid1) (i : ℕ) (a : Grid1) (old new : List ℤ) (n : ℤ) → i < length axes → a ≡ get_or axes i a → pos (distance (a.hi -ℤ a.lo)) ≡ n → new ≡ old ++ n ∷ [] → old ≡ map pos (extents (take i axes)) → new ≡ map pos (extents (take (i + 1) axes))
outer_more axes i a old new n inside is extent grown before =
    grown
    ∙ (λ j. before j ++ sym extent j ∷ [])
    ∙ sym (pushed (take i axes) a)
    ∙ ap (λ as'. map pos (extents as')) (sym (take_more axes i a inside ∙ ap (λ x. take i axes ++ x ∷ []) (sym is)))

pub same_numbers : (xs ys : List ℕ) → map pos xs ≡ map pos ys → xs ≡ ys
same_numbers [] [] e = refl
same_numbers [] (y ∷ ys) e = cc
same_numbers (x ∷ xs) [] e = cc
same_numbers (x ∷ xs) (y ∷ ys) e =
    let first : x ≡ y = cc in
    let rest : map pos xs ≡ map pos ys = cc in
    λ i. first i ∷ same_numbers xs ys rest i
