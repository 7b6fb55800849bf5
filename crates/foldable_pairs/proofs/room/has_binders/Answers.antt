use Rattle.std.proofs.Common.{◌↔◌, ◌+◌, ◌*◌, ◌≤◌, IsTrue, subst, arith}
use Rattle.core_ir.specs.Counts.{capped}
use Rattle.core_loops.specs.Loops.{binders}
use Rattle.core_ir.specs.View.{block_term}
use Rattle.core_loops.specs.Pairs.{most_binders}
use Rattle.foldable_pairs.specs.Parts.{terms}
use Rattle.foldable_pairs.proofs.Capping.{room_is}
use Rattle.foldable_pairs.proofs.room.has_binders.Goals as goal

pub returns : goal.returns
returns c =
    let b = c.is_within.result in
    let s = c.args.selected in
    let own = binders (block_term c.args.body.now) in
    let most = most_binders (terms c.args.parts.now) in
    room_is b own most s 65536 (omega arith)
    (subst (λ m. IsTrue b ↔ (capped own + s * m ≤ 65536)) c.most_binders.ensures
    (subst (λ n. IsTrue b ↔ (n + s * c.most_binders.result ≤ 65536)) c.binders.ensures c.is_within.ensures))
