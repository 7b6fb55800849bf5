use Rattle.std.proofs.Common.{◌↔◌, ◌+◌, ◌*◌, ◌≤◌, IsTrue, subst, arith}
use Rattle.core_ir.specs.Counts.{bindings, capped}
use Rattle.core_ir.specs.View.{block_term}
use Rattle.core_loops.specs.Pairs.{most_bindings}
use Rattle.foldable_pairs.specs.Parts.{terms}
use Rattle.foldable_pairs.proofs.Capping.{room_is}
use Rattle.foldable_pairs.proofs.room.has_nodes.Goals as goal

pub returns : goal.returns
returns c =
    let b = c.is_within.result in
    let s = c.args.selected in
    let own = bindings (block_term c.args.body.now) in
    let most = most_bindings (terms c.args.parts.now) in
    room_is b own most s 4096 (omega arith)
    (subst (λ m. IsTrue b ↔ (capped own + s * m ≤ 4096)) c.most_nodes.ensures
    (subst (λ n. IsTrue b ↔ (n + s * c.most_nodes.result ≤ 4096)) c.nodes.ensures c.is_within.ensures))
