use Rattle.std.proofs.Common.{rules, ◌≡◌, ◌<◌, ◌≤◌, [], ◌∷◌, ◌++◌, ◌∙◌, List, ap, sym, length, append-nil, min, ℤ, pos}
use Rattle.std.specs.Prelude.{get_or}
use Rattle.index_table.specs.Numbers.{step}
use Rattle.index_table.proofs.NumberFacts.{steps_turn, steps_end}
use Rattle.index_table.proofs.numbers.all_changed.Goals as goal

pub loop-k-preserved : goal.loop-k-preserved
loop-k-preserved c =
    let cs = c.args.numbers.now in
    let ds = c.args.by.now in
    let k = c.loop-k.k in
    let in_cs : k < length cs = search rules in
    let in_ds : k < length ds = search rules in
    let item : c.changed.result ≡ step c.args.change (get_or cs k (pos 0)) (get_or ds k (pos 0)) = search rules in
    let sum : c.push.new.self.items ≡ c.loop-k.sums.items ++ c.changed.result ∷ [] = search rules in
    steps_turn c.args.change cs ds c.loop-k.sums.items c.push.new.self.items k c.changed.result _ in_cs in_ds sum item c.loop-k.invariant

pub returns : goal.returns
returns c =
    let over : min (length c.args.numbers.now) (length c.args.by.now) ≤ c.loop-k.k = search rules in
    sym (append-nil c.loop-k.sums.items)
    ∙ ap (λ (zs : List ℤ). c.loop-k.sums.items ++ zs) (sym (steps_end c.args.change c.args.numbers.now c.args.by.now c.loop-k.k over))
    ∙ c.loop-k.invariant
