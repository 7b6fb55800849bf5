-- Right sides without blocks that never fault.
use Rattle.std.proofs.Common.{◌≡◌, ℕ, Bool, true, false, ◌&&◌, ◌||◌, not, List, [], ◌∷◌, map, refl, sym, ap, ◌∙◌, Option, Some, None}
use Rattle.sac_base.specs.declared.grid.Grid1.{Grid1}
use Rattle.core_ir.specs.Terms.{PlainTerm, RightTerm, Plain}
use Rattle.core_facts.specs.Facts.{Facts, is_some, rank_of, is_scalar_of}
use Rattle.core_loops.specs.Indices.{IndexFacts}
use Rattle.plain_facts.specs.Rights.{right_shape}
use Rattle.total_cells.specs.Rights.{plain_total, total_shaped}

rank_known : (s : Option (List ℕ)) → is_some (rank_of s) ≡ is_some s
rank_known None = refl
rank_known (Some s) = refl

scalar_known : (s : Option (List ℕ)) → is_some (is_scalar_of s) ≡ is_some s
scalar_known None = refl
scalar_known (Some s) = refl

plain_is : (grid : List Grid1) (p : PlainTerm) (k : Facts) (m : IndexFacts) → total_shaped grid (right_shape (Plain p) k) (Plain p) k m ≡ plain_total grid (Plain p) k m
plain_is grid (PlainTerm.Const a) k m = refl
plain_is grid (PlainTerm.Copy x) k m = refl
plain_is grid (PlainTerm.Unary o x) k m = refl
plain_is grid (PlainTerm.Binary o x y) k m = refl
plain_is grid (PlainTerm.Literal xs) k m = refl
plain_is grid (PlainTerm.Dim x) k m = scalar_known (k x).shape
plain_is grid (PlainTerm.ShapeOf x) k m = rank_known (k x).shape
plain_is grid (PlainTerm.Reshape x y) k m = refl
plain_is grid (PlainTerm.Select x y) k m = refl
plain_is grid (PlainTerm.Replace x y z) k m = refl
plain_is grid (PlainTerm.Always kind) k m = refl
plain_is grid (PlainTerm.Check x ty) k m = refl

pub shaped_is : (grid : List Grid1) (r : RightTerm) (k : Facts) (m : IndexFacts) → total_shaped grid (right_shape r k) r k m ≡ plain_total grid r k m
shaped_is grid (Plain p) k m = plain_is grid p k m
shaped_is grid (RightTerm.If x a b) k m = refl
shaped_is grid (RightTerm.Loop first start params test body s) k m = refl
shaped_is grid (RightTerm.Call g xs) k m = refl
shaped_is grid (RightTerm.With o gens) k m = refl
shaped_is grid (RightTerm.Parted frame base cell o parts) k m = refl
