use Rattle.std.proofs.Common.{rules, ◌≡◌, ◌++◌, ◌∷◌, [], Some, ap, sym, ◌∙◌}
use Rattle.fold_pieces.specs.Pieces.{vectors}
use Rattle.total_cells.specs.loop_selections.Told.{offset_told}
use Rattle.foldable_pairs.proofs.Selecting.{somes, pushed_known}
use Rattle.foldable_pairs.proofs.offsets.push_known.Goals as goal

pub returns-in_ok-push-in-Some-clause-pushed : goal.returns-in_ok-push-in-Some-clause-pushed
returns-in_ok-push-in-Some-clause-pushed c = λ e.
    let old = c.args.known.now.items in
    let v = c.in_ok-copy-in-Some.copy in
    let same : v.items ≡ c.in-Some.numbers.items = search rules in
    let new : c.push.new.self.items ≡ old ++ v ∷ [] = search rules in
    let told_is : Some c.in-Some.numbers.items ≡ offset_told c.args.offset.now = ap offset_told (sym c.in-Some.is) in
    pushed_known old c.push.new.self.items v c.in-Some.numbers.items new same ∙ (λ i. somes (vectors old) ++ told_is i ∷ [])
