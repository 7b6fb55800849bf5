-- Turns of the search for pieces that are kept.
use Rattle.std.proofs.Common.{◌≡◌, ℕ, ◌+◌, ◌<◌, ◌≤◌, Bool, true, false, cond, List, [], ◌∷◌, ◌++◌, length, drop, get_or, refl, sym, ap, ◌∙◌, append_assoc, append-nil}
use Rattle.std.specs.Prelude.{filter}
use Rattle.std.proofs.lemmas.List.{drop_all, map-append}
use Rattle.sac_base.specs.declared.grid.Grid1.{Grid1}
use Rattle.fold_pieces.specs.declared.keeping.FoldPiece.{FoldPiece}
use Rattle.fold_pieces.specs.Kept.{grids_in}
use Rattle.fold_pieces.proofs.Searching.{next_is}

-- the piece passes the test
abbrev pub Pushed : (List Grid1 → Bool) → List Grid1 → FoldPiece → Type 0
Pushed k g p = (p.grid ≡ g) × (k g ≡ true)

pub pushed : (k : List Grid1 → Bool) (old new : List FoldPiece) (p : FoldPiece) (g : List Grid1) → new ≡ old ++ p ∷ [] → Pushed k g p → grids_in new ≡ grids_in old ++ filter k (g ∷ [])
pushed k old new p g e h =
    ap grids_in e ∙ map-append (λ (q : FoldPiece). q.grid) old (p ∷ []) ∙ (λ i. grids_in old ++ h.0 i ∷ []) ∙ (λ i. grids_in old ++ cond (sym h.1 i) (g ∷ []) [])

pub unpushed : (k : List Grid1 → Bool) (old : List FoldPiece) (g : List Grid1) → k g ≡ false → grids_in old ≡ grids_in old ++ filter k (g ∷ [])
unpushed k old g h = sym (append-nil (grids_in old)) ∙ (λ i. grids_in old ++ cond (sym h i) (g ∷ []) [])

filter_first : (k : List Grid1 → Bool) (x : List Grid1) (rest : List (List Grid1)) → filter k (x ∷ rest) ≡ filter k (x ∷ []) ++ filter k rest
filter_first k x rest = go (k x)
  where
    go : (b : Bool) → cond b (x ∷ filter k rest) (filter k rest) ≡ cond b (x ∷ []) [] ++ filter k rest
    go true = refl
    go false = refl

pub keep_turn : (k : List Grid1 → Bool) (pieces : List (List Grid1)) (i : ℕ) (x : List Grid1) (old new whole : List (List Grid1)) → i < length pieces → x ≡ get_or pieces i x
    → new ≡ old ++ filter k (x ∷ []) → old ++ filter k (drop i pieces) ≡ whole → new ++ filter k (drop (i + 1) pieces) ≡ whole
keep_turn k pieces i x old new whole low is e h =
    let rest = drop (i + 1) pieces in
    ap (λ l. l ++ filter k rest) e ∙ append_assoc old (filter k (x ∷ [])) (filter k rest) ∙ ap (λ l. old ++ l) (sym (filter_first k x rest))
    ∙ ap (λ l. old ++ filter k l) (sym (next_is pieces i x low is)) ∙ h

pub keep_end : (k : List Grid1 → Bool) (pieces : List (List Grid1)) (i : ℕ) (old whole : List (List Grid1)) → length pieces ≤ i → old ++ filter k (drop i pieces) ≡ whole → old ≡ whole
keep_end k pieces i old whole past h = sym (append-nil old) ∙ ap (λ l. old ++ filter k l) (sym (drop_all i pieces past)) ∙ h
