-- Parts of loops, one after another.
use Rattle.std.proofs.Common.{◌≡◌, ◌≤◌, ◌+◌, List, [], ◌∷◌, map, All, length, refl, ap, sym, subst, ◌∙◌, Option, Some, None}
use Rattle.std.specs.Prelude.{slice_get, unwrap_or}
use Rattle.std.proofs.lemmas.List.Elements.{All-cons, All-head, All-map, All-nil, All-tail}
use Rattle.sac_base.specs.declared.grid.Grid1.{Grid1}
use Rattle.core_ir.specs.declared.tree.CorePart.{CorePart, CorePart', CorePart-F, out-CorePart}
use Rattle.core_ir.specs.declared.tree.Right.TheBlock.{the_data, the_data-1, the_data-2, the_data-3, the_data-4, the_data-5, the_data-6}
use Rattle.core_ir.specs.declared.tree.PartedLoop.{PartedLoop, out-PartedLoop}
use Rattle.core_ir.specs.Terms.{PartTerm, parts_of}
use Rattle.core_ir.specs.View.{block_term, part_term, parted_term}
use Rattle.core_ir.specs.WellFormed.{part_grids}
use Rattle.core_ir.proofs.Trees.{parted_out}
use Rattle.merge_plans.specs.Inners.{parts_in}
use Rattle.merge_plans.specs.Mergeable.{FitBehind, MOST_AXES}
use Rattle.merge_plans.specs.Seen.{first_frame, first_in, frame_seen}

abbrev pub Fits : List Grid1 → CorePart → Type 0
Fits grid p = length grid + length (part_term p).head.grid ≤ MOST_AXES

abbrev FitsTerm : List Grid1 → PartTerm → Type 0
FitsTerm grid p = length grid + length p.head.grid ≤ MOST_AXES

abbrev FitsGrid : List Grid1 → List Grid1 → Type 0
FitsGrid grid g = length grid + length g ≤ MOST_AXES

terms_fit : (grid : List Grid1) (ps : List PartTerm) → All (FitsTerm grid) ps → FitBehind grid (parts_of ps)
terms_fit grid [] h = All-nil (FitsGrid grid)
terms_fit grid (p ∷ ps) h =
    All-cons (FitsGrid grid) p.head.grid (part_grids (parts_of ps)) (All-head (FitsTerm grid) p ps h) (terms_fit grid ps (All-tail (FitsTerm grid) p ps h))

grids_fit : (grid : List Grid1) (ps : List CorePart) → FitBehind grid (parts_of (map part_term ps)) → All (Fits grid) ps
grids_fit grid [] h = All-nil (Fits grid)
grids_fit grid (p ∷ ps) h =
    let rest = part_grids (parts_of (map part_term ps)) in
    All-cons (Fits grid) p ps (All-head (FitsGrid grid) (part_term p).head.grid rest h) (grids_fit grid ps (All-tail (FitsGrid grid) (part_term p).head.grid rest h))

pub parts_are : (p : PartedLoop) → parts_in (parted_term p) ≡ parts_of (map part_term (out-PartedLoop p).parts.items)
parts_are p = ap parts_in (parted_out p)

pub all_fit : (grid : List Grid1) (p : PartedLoop) (ps : List CorePart) → ps ≡ (out-PartedLoop p).parts.items → All (Fits grid) ps → FitBehind grid (parts_in (parted_term p))
all_fit grid p ps e h =
    subst (FitBehind grid) (sym (parts_are p)) (subst (λ xs. FitBehind grid (parts_of (map part_term xs))) e (terms_fit grid (map part_term ps) (All-map (FitsTerm grid) part_term ps h)))

pub each_fits : (grid : List Grid1) (p : PartedLoop) (ps : List CorePart) → ps ≡ (out-PartedLoop p).parts.items → FitBehind grid (parts_in (parted_term p)) → All (Fits grid) ps
each_fits grid p ps e h = grids_fit grid ps (subst (λ xs. FitBehind grid (parts_of (map part_term xs))) (sym e) (subst (FitBehind grid) (parts_are p) h))

-- the frame of the first inner loop
pub first_some : (p : PartedLoop) (ps : List CorePart) (q : CorePart) (f : Option (List Grid1)) → ps ≡ (out-PartedLoop p).parts.items → slice_get ps 0 ≡ Some q → f ≡ frame_seen (part_term q) →
    f ≡ first_frame (parted_term p)
first_some p [] q f e h g = absurd (cc)
first_some p (x ∷ ps) q f e h g =
    g ∙ ap (λ t. frame_seen (part_term (unwrap_or t q))) (sym h) ∙ ap (λ xs. first_in (parts_of (map part_term xs))) e ∙ ap first_in (sym (parts_are p))

pub first_none : (p : PartedLoop) (ps : List CorePart) → ps ≡ (out-PartedLoop p).parts.items → slice_get ps 0 ≡ None → None ≡ first_frame (parted_term p)
first_none p [] e h = ap (λ xs. first_in (parts_of (map part_term xs))) e ∙ ap first_in (sym (parts_are p))
first_none p (x ∷ ps) e h = absurd (cc)

abbrev shown_part : CorePart-F the_data the_data-1 the_data-2 the_data-3 the_data-4 the_data-5 the_data-6 → PartTerm
shown_part x = record { head = record { grid = x.grid; index = x.index; site = x.site }; body = block_term x.body }

pub part_out : (p : CorePart) → part_term p ≡ shown_part (out-CorePart p)
unfolding out-CorePart denote.Hole.Carrier.out
part_out (CorePart' a b c d) = refl
