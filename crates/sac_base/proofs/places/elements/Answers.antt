use Rattle.std.proofs.Common.{◌≡◌, ℕ, ◌+◌, min, ap, ◌∙◌, List, ℤ, pos, arith, map}
use lib.IntN.{nat_abs}
use Rattle.sac_base.specs.Arrays.{size, MOST}
use Rattle.sac_base.proofs.Extents.{abs_pos}
use Rattle.sac_base.proofs.places.elements.Goals as goal

product_is : (n : ℕ) (zs : List ℤ) (ns : List ℕ) → n ≡ min (MOST + 1) (size (map nat_abs zs)) → zs ≡ map pos ns → n ≡ min (MOST + 1) (size ns)
product_is n zs ns e same = e ∙ ap (λ xs. min (MOST + 1) (size (map nat_abs xs))) same ∙ ap (λ xs. min (MOST + 1) (size xs)) (abs_pos ns)

pub capped_product-all-requires : goal.capped_product-all-requires
capped_product-all-requires c = c.extents.ensures.extents.each

pub returns-then-all-le-MOST_ELEMENTS : goal.returns-then-all-le-MOST_ELEMENTS
returns-then-all-le-MOST_ELEMENTS c = let e = product_is _ _ _ c.capped_product-all.ensures c.extents.ensures.value in (omega arith, omega arith)

pub returns-else-all-le-MOST_ELEMENTS : goal.returns-else-all-le-MOST_ELEMENTS
returns-else-all-le-MOST_ELEMENTS c = λ small. let e = product_is _ _ _ c.capped_product-all.ensures c.extents.ensures.value in omega arith
