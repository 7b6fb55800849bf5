use Rattle.foldable_pairs.proofs.room.has_room.Goals as goal

pub returns-then-has_nodes : goal.returns-then-has_nodes
returns-then-has_nodes c =
    let nodes = c.has_nodes.ensures.0 c.if-has_nodes.true in
    (λ t. (nodes, c.has_binders.ensures.0 t), λ h. c.has_binders.ensures.1 h.1)
