use Rattle.std.proofs.Common.{◌≡◌, ℕ, ◌+◌, ◌<◌, ap, ◌∙◌, sym, subst, take, length, get_or, List, [], ◌∷◌, ◌++◌, ℤ, All}
use Rattle.std.proofs.lemmas.List.{flat_map_more, take_more}
use Rattle.std.proofs.lemmas.List.Elements.{All-push}
use Rattle.sac_base.specs.Arrays.{ArrayValue, IsFull}
use Rattle.sac_base.specs.Parts.{cells_of_all}
use Rattle.array_ops.proofs.literals.all_cells.Goals as goal

one_more : (items : List ArrayValue) (i : ℕ) (item : ArrayValue) (old new cells : List ℤ) → i < length items → item ≡ get_or items i item → new ≡ old ++ cells → cells ≡ item.cells → IsFull item
    → (old ≡ cells_of_all (take i items)) × All IsFull (take i items) → (new ≡ cells_of_all (take (i + 1) items)) × All IsFull (take (i + 1) items)
one_more items i item old new cells h is added same full so_far =
    let more : take (i + 1) items ≡ take i items ++ item ∷ [] = take_more items i item h ∙ ap (λ x. take i items ++ x ∷ []) (sym is) in
    let joined = flat_map_more (λ (a : ArrayValue). a.cells) [] (take i items) item in (
      added ∙ ap (λ xs. xs ++ cells) so_far.0 ∙ ap (λ xs. cells_of_all (take i items) ++ xs) same ∙ joined ∙ ap cells_of_all (sym more),
      subst (All IsFull) (sym more) (All-push IsFull (take i items) item so_far.1 full),
    )

pub loop-item-preserved : goal.loop-item-preserved
loop-item-preserved c =
    one_more c.args.items.now c.loop-item.item-index c.item-item.result c.loop-item.cells.items c.extend_from_slice.new.self.items c.cells.result.now c.loop-item-test.true c.item-item.is
    c.in_ok-extend_from_slice.ensures.items c.cells.ensures.value c.cells.ensures.array.full c.loop-item.invariant
