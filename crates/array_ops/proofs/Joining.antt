-- How many cells the elements of a literal have.
use Rattle.std.proofs.Common.{◌≡◌, ℕ, ◌*◌, ◌+◌, ap, ◌∙◌, sym, refl, List, [], ◌∷◌, length, suc, Bool, true, false, ◌&&◌, All, arith}
use Rattle.std.specs.List.{list_all}
use Rattle.std.proofs.lemmas.List.{length-append}
use Rattle.std.proofs.lemmas.List.Elements.{All-head, All-tail}
use Rattle.std.proofs.lemmas.Slice.Eq.{bytes_eq-Decides}
use Rattle.std.proofs.lemmas.Bool.{false≢true}
use Rattle.sac_base.specs.Arrays.{ArrayValue, size, same_form, same_base, same_shape, IsFull}
use Rattle.sac_base.specs.Parts.{cells_of_all}

and_left : (b c : Bool) → (b && c) ≡ true → b ≡ true
and_left true c h = refl
and_left false c h = h

and_right : (b c : Bool) → (b && c) ≡ true → c ≡ true
and_right true c h = h
and_right false c h = absurd (false≢true h)

add-mul-one : (n k : ℕ) → suc n * k ≡ k + n * k
add-mul-one n k = omega arith

same_size : (a b : ArrayValue) → same_form a b ≡ true → size b.shape ≡ size a.shape
same_size a b h = ap size (sym ((bytes_eq-Decides a.shape b.shape).0 (and_right (same_base a.base b.base) (same_shape a.shape b.shape) h)))

others : (a : ArrayValue) (rest : List ArrayValue) → list_all (same_form a) rest ≡ true → All IsFull rest → length (cells_of_all rest) ≡ length rest * size a.shape
others a [] h f = omega arith
others a (b ∷ rest) h f =
    let here = All-head IsFull b rest f ∙ same_size a b (and_left (same_form a b) (list_all (same_form a) rest) h) in
    let later = others a rest (and_right (same_form a b) (list_all (same_form a) rest) h) (All-tail IsFull b rest f) in
    length-append b.cells (cells_of_all rest) ∙ omega (arith, here, later, add-mul-one (length rest) (size a.shape))

pub length-cells_of_all : (a : ArrayValue) (rest : List ArrayValue) → list_all (same_form a) rest ≡ true → All IsFull (a ∷ rest) → length (cells_of_all (a ∷ rest)) ≡ length (a ∷ rest) * size a.shape
length-cells_of_all a rest h f =
    let later = others a rest h (All-tail IsFull a rest f) in
    length-append a.cells (cells_of_all rest) ∙ omega (arith, All-head IsFull a rest f, later, add-mul-one (length rest) (size a.shape))
