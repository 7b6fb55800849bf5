-- What a part holds once a `&mut` of its cells has ended.
use Rattle.std.specs.Prelude.{List, length}
use Rattle.std.specs.Borrow.{Fml, RattleType, MutBor, Array, Lends}
use Rattle.std.specs.List.{refill}
use Rattle.buffer_parts.specs.declared.raw.RawPart.{RawPart}
use Rattle.buffer_parts.specs.contracts.raw.RawPart.{the_row}
use Rattle.buffer_parts.specs.contracts.part.Part as part
use Rattle.buffer_parts.specs.Spans.{Span, span_of}

abbrev pub with_items : {X : Type 0} → RawPart X → List X → RawPart X
with_items c xs = record { ptr = c.ptr; items = xs }

-- as many cells as before, those that were written
abbrev pub lends_items : (R : RattleType) → MutBor (RawPart R.Denot) → MutBor (List R.Denot) → Fml
lends_items R c r = Lends (the_row R) (Array R 0) c r (λ ws. with_items c.now (refill (length c.now.items) c.now.items ws))

abbrev pub lends_cells : (R : RattleType) → MutBor (Span R.Denot) → MutBor (List R.Denot) → Fml
lends_cells R c r = Lends (part.the_row R) (Array R 0) c r (λ ws. span_of c.now.start (refill (length c.now.cells) c.now.cells ws))
