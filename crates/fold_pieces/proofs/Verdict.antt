-- A cut, and what refutes one.
use Rattle.std.proofs.Common.{◌≡◌, ℕ, ◌≤◌, ◌<◌, Bool, true, false, cond, List, [], ◌∷◌, length, sym, subst, ◌∙◌, arith, ℤ}
use Rattle.std.specs.Prelude.{filter}
use Rattle.std.specs.List.{All}
use Rattle.std.proofs.lemmas.List.Elements.{All-nil, All-cons, All-head, All-tail}
use Rattle.sac_base.specs.declared.grid.Grid1.{Grid1}
use Rattle.sac_base.specs.Grids.{has_vector, SplitsVectors}
use Rattle.core_loops.specs.Loops.{grid_range}
use Rattle.core_loops.specs.Pairs.{all_moved_back, box_range}
use Rattle.generator_sets.specs.Counts.{IsCanonicalCount}
use Rattle.generator_sets.specs.Pieces.{lows, IsUniformVector}
use Rattle.generator_sets.proofs.CountFacts.{some_canonical}
use Rattle.fold_pieces.specs.declared.keeping.FoldPiece.{FoldPiece}
use Rattle.fold_pieces.specs.Kept.{grids_in}
use Rattle.fold_pieces.specs.Pieces.{Hold, HaveFirst, is_kept}
use Rattle.fold_pieces.specs.Cuts.{IsInside, IsCut, HasCut, IsUniformCut}
use Rattle.fold_pieces.proofs.Backward.{same_grid}
use Rattle.fold_pieces.proofs.Evenness.{Even, have_first}
use Rattle.fold_pieces.proofs.Splitting.{kept_split}

module _ (frame grid : List Grid1) (grids : List (List Grid1)) (at : List (List ℤ)) where
  abbrev cutting : List (List Grid1)
  cutting = grid ∷ all_moved_back at grids

  abbrev Uniform : List Grid1 → Type 0
  Uniform p = IsUniformVector cutting p

  even_kept : (ps : List (List Grid1)) → All Uniform ps → All Uniform (filter (is_kept grid grids at) ps)
  even_kept [] even = All-nil Uniform
  even_kept (p ∷ ps) even = go (is_kept grid grids at p) (even_kept ps (All-tail Uniform p ps even))
    where
      go : (b : Bool) → All Uniform (filter (is_kept grid grids at) ps) → All Uniform (cond b (p ∷ filter (is_kept grid grids at) ps) (filter (is_kept grid grids at) ps))
      go true rest = All-cons Uniform p (filter (is_kept grid grids at) ps) (All-head Uniform p ps even) rest
      go false rest = rest

  -- even pieces hold as a whole
  holding : (found : List FoldPiece) → All Uniform (grids_in found) → All (λ (p : FoldPiece). HaveFirst grids (lows p.grid) at p.holders.items) found
      → All (λ (p : FoldPiece). Hold grids at p.grid p.holders.items) found
  holding [] even have = All-nil (λ (p : FoldPiece). Hold grids at p.grid p.holders.items)
  holding (p ∷ found) even have =
      let H = λ (q : FoldPiece). HaveFirst grids (lows q.grid) at q.holders.items in
      let one = All-head Uniform p.grid (grids_in found) even in
      All-cons (λ (q : FoldPiece). Hold grids at q.grid q.holders.items) p found
      (have_first p.grid grids at p.holders.items (All-tail (Even p.grid) grid (all_moved_back at grids) one) (All-head H p found have))
      (holding found (All-tail Uniform p.grid (grids_in found) even) (All-tail H p found have))

  pub cut_is : (box : List Grid1) (ps : List (List Grid1)) (found : List FoldPiece) (count : ℕ) → IsInside frame grid at → grid_range box ≡ box_range grid
      → IsUniformCut cutting box ps → count ≡ length ps → grids_in found ≡ filter (is_kept grid grids at) ps
      → All (λ (p : FoldPiece). HaveFirst grids (lows p.grid) at p.holders.items) found → IsCut frame grid grids at found count
  cut_is box ps found count inside range cut size kept have =
      let counted = some_canonical cutting 0 box in
      let fits = cut.due counted.0 counted.1.0 counted.1.1 in
      let same : counted.1.0 ≡ count = sym (size ∙ cut.count counted.0 counted.1.0 counted.1.1) in
      record {
        inside = inside;
        counted = record {
          frame = box;
          box = range;
          greatest = counted.0;
          counted = subst (IsCanonicalCount cutting 0 box counted.0) same counted.1.1;
          fine = fits.0;
        };
        few = subst (λ n. n ≤ 64) same fits.1;
        split = λ cover. subst (λ gs. SplitsVectors gs (has_vector grid)) (sym kept) (kept_split grid grids at frame box ps cover inside range cut.split cut.uniform);
        held = holding found (subst (All Uniform) (sym kept) (even_kept ps cut.uniform)) have;
      }

  pub refuted : (box : List Grid1) → grid_range box ≡ box_range grid → ((greatest n : ℕ) → IsCanonicalCount cutting 0 box greatest n → greatest ≤ 4096 → n ≤ 64 → ⊥)
      → HasCut frame grid grids at → ⊥
  refuted box range none h =
      let c = h.counted in
      let same : c.frame ≡ box = same_grid c.frame box (c.box ∙ sym range) in
      none c.greatest h.count (subst (λ f. IsCanonicalCount cutting 0 f c.greatest h.count) same c.counted) c.fine h.few

pub over : (greatest count : ℕ) → (greatest ≤ 4096) × (64 < count) → greatest ≤ 4096 → count ≤ 64 → ⊥
over greatest count h fine few = let many = h.1 in omega arith

pub too_fine : (greatest count : ℕ) → 4096 < greatest → greatest ≤ 4096 → count ≤ 64 → ⊥
too_fine greatest count h fine few = omega (arith, h)
