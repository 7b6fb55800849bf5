use Rattle.std.proofs.Common.{◌≡◌, ◌*◌, ap, ◌∙◌, sym, length, w32, List, [], ◌∷◌, drop, true, All, Option, Some, None, ◌++◌, rules}
use Rattle.std.specs.List.{list_all, slice_get}
use Rattle.std.proofs.lemmas.Int.{to_z-of_z}
use Rattle.std.proofs.lemmas.List.{take_rest}
use lib.IntN.{nat_abs}
use Rattle.sac_base.specs.Arrays.{ArrayValue, size, same_form, IsFull}
use Rattle.sac_base.specs.Parts.{cells_of_all}
use Rattle.array_ops.proofs.Joining.{length-cells_of_all}
use Rattle.array_ops.proofs.literals.literal.Goals as goal

abbrev or_else : ArrayValue → Option ArrayValue → ArrayValue
or_else d None = d
or_else d (Some a) = a

-- with the first element as the list has it
counted : (items : List ArrayValue) (first : ArrayValue) → Some first ≡ slice_get items 0 → true ≡ list_all (same_form first) (drop 1 items) → All IsFull items → length (cells_of_all items) ≡ length items * size first.shape
counted [] first e h f = absurd (cc)
counted (a ∷ rest) first e h f =
    let same : first ≡ a = ap (or_else first) e in
    length-cells_of_all a rest (sym (h ∙ ap (λ x. list_all (same_form x) rest) same)) f ∙ ap (λ x. length (a ∷ rest) * size x.shape) (sym same)

pub new-requires-2-clause-full : goal.new-requires-2-clause-full
new-requires-2-clause-full c =
    let items = c.args.items.now in
    let first = c.in-Some.first.now in
    let alike = sym c.if-not-all_have_form.false ∙ c.all_have_form.ensures ∙ ap (list_all (same_form first)) (take_rest items 1) in
    let shape = c.in-Some-joined.ensures.value ∙ ap (λ xs. xs ++ c.shape.result.now) (c.vector-2.ensures ∙ ap (λ z. nat_abs z ∷ []) (to_z-of_z w32 c.in-Ok.length (search rules) ∙ c.in-Ok.ensures.1)) ∙ ap (λ xs. length items ∷ xs) c.shape.ensures in
    ap length c.in_ok-cells.ensures.cells ∙ counted items first c.in-Some.ensures.value alike c.in_ok-cells.ensures.full ∙ sym (ap size shape)
