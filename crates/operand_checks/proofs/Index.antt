-- A literal index in range.
use Rattle.std.proofs.Common.{◌≡◌, ℕ, ◌≤◌, Bool, true, false, ◌&&◌, List, [], ◌∷◌, map, length, refl, sym, ◌∙◌, arith, ℤ, pos, negsuc, Option, Some, None, nat_lt}
use Rattle.std.specs.Prelude.{if◌then◌else◌}
use Rattle.std.proofs.lemmas.Bool.{le-leb}
use Rattle.sac_base.specs.Arrays.{ArrayValue}
use Rattle.sac_base.specs.Parts.{Part, part_at, further}
use Rattle.core_facts.specs.Facts.{is_some}
use Rattle.core_loops.specs.Indices.{at_numbers, at_literal}
use Rattle.operand_checks.specs.Numbers.{are_components}

pub further_some : (i : ℕ) (ns : List ℕ) (p : Option Part) → is_some (further i ns p) ≡ is_some p
further_some i ns None = refl
further_some i ns (Some p) = refl

index_is : (ns : List ℕ) (is : List ℤ) → are_components (map pos ns) is ≡ is_some (part_at ns is)
index_is ns [] = refl
index_is [] (i ∷ is) = refl
index_is (n ∷ ns) (negsuc i ∷ is) = refl
index_is (n ∷ ns) (pos i ∷ is) = (λ j. (le-leb 0 i (omega arith) j && nat_lt i n) && are_components (map pos ns) is) ∙ go (nat_lt i n) (index_is ns is)
  where
    go : (b : Bool) → are_components (map pos ns) is ≡ is_some (part_at ns is) → (b && are_components (map pos ns) is) ≡ is_some (if b then further i ns (part_at ns is) else None)
    go true e = e ∙ sym (further_some i ns (part_at ns is))
    go false e = refl

pub literal_is : (b : Bool) (ns : List ℕ) (l : ArrayValue) (zs is : List ℤ) → zs ≡ map pos ns → is ≡ l.cells → length l.shape ≤ 1 → b ≡ are_components zs is → b ≡ at_literal ns (Some l)
literal_is b ns l zs is p q r e =
    e ∙ (λ i. are_components (p i) (q i)) ∙ index_is ns l.cells ∙ (λ i. at_numbers ns (if sym (le-leb (length l.shape) 1 r) i then Some l.cells else None))
