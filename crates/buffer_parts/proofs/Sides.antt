-- Parts side by side: the last one is cut in two, and the last two are one.
use Rattle.std.proofs.Common.{◌≡◌, ℕ, zero, suc, ◌+◌, ◌-◌, ◌<◌, ◌≤◌, min, List, [], ◌∷◌, ◌++◌, length, map, refl, sym, ap, subst, ◌∙◌, arith}
use lib.ListN.{length-append}
use mathlib.Core.List.{append_assoc, append-nil}
use denote.RattleType.{RattleType}
use denote.RawPtr.{Ptr}
use Rattle.std.specs.Ptr.{ptr_add}
use Rattle.buffer_parts.specs.Spans.{Span, SideBySide, KeepsPlace, KeepPlaces, joined, lengths, start_of}

module _ (R : RattleType) where
  pub side_front : (p : Ptr) (xs ys : List (Span R.Denot)) → SideBySide R p (xs ++ ys) → SideBySide R p xs
  side_front p [] ys s = tt
  side_front p (x ∷ xs) ys s = (s.0, side_front (ptr_add R (length x.cells) p) xs ys s.1)

  module _ (f : Span R.Denot) where
    pub side_cut : (z b : Span R.Denot) → f.start ≡ z.start → b.start ≡ ptr_add R (length f.cells) z.start
        → (p : Ptr) (xs : List (Span R.Denot)) → SideBySide R p (xs ++ z ∷ []) → SideBySide R p ((xs ++ f ∷ []) ++ b ∷ [])
    side_cut z b e d p [] s = (e ∙ s.0, (d ∙ ap (ptr_add R (length f.cells)) s.0, tt))
    side_cut z b e d p (x ∷ xs) s = (s.0, side_cut z b e d (ptr_add R (length x.cells) p) xs s.1)

    pub side_meets : (z : Span R.Denot) (p : Ptr) (xs : List (Span R.Denot)) → SideBySide R p ((xs ++ f ∷ []) ++ z ∷ []) → z.start ≡ ptr_add R (length f.cells) f.start
    side_meets z p [] s = s.1.0 ∙ ap (ptr_add R (length f.cells)) (sym s.0)
    side_meets z p (x ∷ xs) s = side_meets z (ptr_add R (length x.cells) p) xs s.1

    pub side_merged : (z w : Span R.Denot) → w.start ≡ f.start → (p : Ptr) (xs : List (Span R.Denot)) → SideBySide R p ((xs ++ f ∷ []) ++ z ∷ []) → SideBySide R p (xs ++ w ∷ [])
    side_merged z w e p [] s = (e ∙ s.0, tt)
    side_merged z w e p (x ∷ xs) s = (s.0, side_merged z w e (ptr_add R (length x.cells) p) xs s.1)

module _ {X : Type 0} where
  -- z is f and then b
  module _ (f b z : Span X) where
    pub joined_cut : f.cells ++ b.cells ≡ z.cells → (xs : List (Span X)) → joined ((xs ++ f ∷ []) ++ b ∷ []) ≡ joined (xs ++ z ∷ [])
    joined_cut e [] = sym (append_assoc f.cells b.cells []) ∙ ap (λ (l : List X). l ++ []) e
    joined_cut e (x ∷ xs) = ap (λ (l : List X). x.cells ++ l) (joined_cut e xs)

    pub lengths_cut : (size c d : ℕ) → c < d → length f.cells ≡ min size (length z.cells) → length b.cells ≡ length z.cells - size
        → (xs : List (Span X)) → map (λ (p : Span X). length p.cells) (xs ++ f ∷ []) ++ lengths size (d - (c + 1)) (length b.cells) ≡ map (λ (p : Span X). length p.cells) xs ++ lengths size (d - c) (length z.cells)
    lengths_cut size c d lt ef eb [] =
        let left : d - c ≡ suc (d - (c + 1)) = omega arith in
        (λ i. ef i ∷ lengths size (d - (c + 1)) (eb i)) ∙ sym (ap (λ (k : ℕ). lengths size k (length z.cells)) left)
    lengths_cut size c d lt ef eb (x ∷ xs) = ap (λ (l : List ℕ). length x.cells ∷ l) (lengths_cut size c d lt ef eb xs)

  pub joined_before_empty : (z : Span X) → length z.cells ≤ 0 → (xs : List (Span X)) → joined (xs ++ z ∷ []) ≡ joined xs
  joined_before_empty z none [] = append-nil z.cells ∙ empty z.cells none
    where
      empty : (l : List X) → length l ≤ 0 → l ≡ []
      empty [] h = refl
      empty (y ∷ l) h = absurd (native.Mathlib.Nat.not-suc-le-zero h)
  joined_before_empty z none (x ∷ xs) = ap (λ (l : List X). x.cells ++ l) (joined_before_empty z none xs)

  -- the last two are no longer than all
  pub two_within : (f z : Span X) (xs : List (Span X)) → length f.cells + length z.cells ≤ length (joined ((xs ++ f ∷ []) ++ z ∷ []))
  two_within f z [] = let l = length-append f.cells (z.cells ++ []) in let m = length-append z.cells [] in omega arith
  two_within f z (x ∷ xs) = let l = length-append x.cells (joined ((xs ++ f ∷ []) ++ z ∷ [])) in let m = two_within f z xs in omega arith

-- Parts that keep their places.
module _ (R : RattleType) where
  pub side_kept : (p : Ptr) (xs ys : List (Span R.Denot)) → KeepPlaces xs ys → SideBySide R p xs → SideBySide R p ys
  side_kept p [] [] kept side = tt
  side_kept p [] (y ∷ ys) kept side = absurd kept
  side_kept p (x ∷ xs) [] kept side = absurd kept
  side_kept p (x ∷ xs) (y ∷ ys) kept side =
      (kept.0.0 ∙ side.0, subst (λ (n : ℕ). SideBySide R (ptr_add R n p) ys) (sym kept.0.1) (side_kept (ptr_add R (length x.cells) p) xs ys kept.1 side.1))

  -- the first of some parts starts where they do
  pub starts_at : (p : Ptr) (xs : List (Span R.Denot)) → 0 < length xs → SideBySide R p xs → start_of xs ≡ p
  starts_at p [] none side = absurd (native.Mathlib.Nat.not-suc-le-zero none)
  starts_at p (x ∷ xs) some side = side.0

module _ {X : Type 0} where
  pub as_many : (xs ys : List (Span X)) → KeepPlaces xs ys → length ys ≡ length xs
  as_many [] [] kept = refl
  as_many [] (y ∷ ys) kept = absurd kept
  as_many (x ∷ xs) [] kept = absurd kept
  as_many (x ∷ xs) (y ∷ ys) kept = ap suc (as_many xs ys kept.1)

  pub joined_as_long : (xs ys : List (Span X)) → KeepPlaces xs ys → length (joined ys) ≡ length (joined xs)
  joined_as_long [] [] kept = refl
  joined_as_long [] (y ∷ ys) kept = absurd kept
  joined_as_long (x ∷ xs) [] kept = absurd kept
  joined_as_long (x ∷ xs) (y ∷ ys) kept =
      length-append y.cells (joined ys) ∙ (λ i. kept.0.1 i + joined_as_long xs ys kept.1 i) ∙ sym (length-append x.cells (joined xs))

-- there are as many lengths as are counted
pub lengths_many : (size count n : ℕ) → length (lengths size count n) ≡ count
lengths_many size zero n = refl
lengths_many size (suc count) n = ap suc (lengths_many size count (n - size))

module _ {X : Type 0} where
  pub kept_same : (xs : List (Span X)) → KeepPlaces xs xs
  kept_same [] = tt
  kept_same (x ∷ xs) = ((refl, refl), kept_same xs)

  pub kept_last : (z w : Span X) → KeepsPlace z w → (xs : List (Span X)) → KeepPlaces (xs ++ z ∷ []) (xs ++ w ∷ [])
  kept_last z w kept [] = (kept, tt)
  kept_last z w kept (x ∷ xs) = ((refl, refl), kept_last z w kept xs)
