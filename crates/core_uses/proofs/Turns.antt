-- One turn of a loop that stops at the first element that fails a test.
use Rattle.std.proofs.Common.{◌≡◌, ℕ, ◌+◌, ◌<◌, ◌≤◌, Bool, true, false, ◌&&◌, List, [], ◌∷◌, drop, get_or, length, sym, ap, ◌∙◌}
use Rattle.std.proofs.lemmas.List.{drop_more, at_drop_all}

module _ {X : Type 0} (test : X → Bool) (all : List X → Bool) (one : (y : X) (ys : List X) → all (y ∷ ys) ≡ (test y && all ys)) where
  front : (items : List X) (i : ℕ) (d : X) → i < length items → d ≡ get_or items i d → all (drop i items) ≡ (test d && all (drop (i + 1) items))
  front items i d lt is =
      ap all (drop_more items i d lt) ∙ one (get_or items i d) (drop (i + 1) items) ∙ ap (λ y. test y && all (drop (i + 1) items)) (sym is)

  pub passed : (items : List X) (i : ℕ) (d : X) (whole : Bool) → i < length items → d ≡ get_or items i d → test d ≡ true → all (drop i items) ≡ whole → all (drop (i + 1) items) ≡ whole
  passed items i d whole lt is t h = sym (front items i d lt is ∙ ap (λ b. b && all (drop (i + 1) items)) t) ∙ h

  pub failed : (items : List X) (i : ℕ) (d : X) (whole : Bool) → i < length items → d ≡ get_or items i d → test d ≡ false → all (drop i items) ≡ whole → whole ≡ false
  failed items i d whole lt is t h = sym h ∙ front items i d lt is ∙ ap (λ b. b && all (drop (i + 1) items)) t

  pub ended : (items : List X) (i : ℕ) (whole : Bool) → length items ≤ i → all (drop i items) ≡ whole → whole ≡ all []
  ended items i whole over h = sym h ∙ at_drop_all all items i over
