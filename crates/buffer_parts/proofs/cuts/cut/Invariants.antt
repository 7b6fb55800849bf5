use Rattle.std.proofs.Common.{◌≡◌, ◌*◌, ◌≤◌, [], ◌∷◌, ◌++◌, length, map, ◌-◌}
use Rattle.buffer_parts.specs.Spans.{SideBySide, joined, lengths}
use Rattle.buffer_parts.proofs.cuts.cut.Given as goal

abbrev pub invariant-loop : goal.invariant-loop
invariant-loop g l =
    (l.parts.len ≡ l.counter) × (l.parts.cap ≡ l.fn.parts.cap) × SideBySide g.row.T l.fn.whole.start (l.parts.items ++ l.rest ∷ []) × (joined (l.parts.items ++ l.rest ∷ []) ≡ l.fn.whole.cells)
    × (map (λ p. length p.cells) l.parts.items ++ lengths l.fn.size (l.fn.count - l.counter) (length l.rest.cells) ≡ lengths l.fn.size l.fn.count (length l.fn.whole.cells)) × (length l.rest.cells ≤ (l.fn.count - l.counter) * l.fn.size)
