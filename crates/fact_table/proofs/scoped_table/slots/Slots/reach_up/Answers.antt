use Rattle.std.proofs.Common.{◌≡◌, ◌+◌, ◌++◌, [], ◌∷◌, length, replicate, None, ap, ◌∙◌, arith}
use Rattle.fact_table.specs.scoped_table.Slots.{entries}
use Rattle.fact_table.proofs.scoped_table.SlotFacts.{last_grown, longer}
use Rattle.fact_table.proofs.scoped_table.slots.Slots.reach_up.Goals as goal

pub loop-self-preserved : goal.loop-self-preserved
loop-self-preserved g c =
    let s = c.loop-self.self in
    let items : c.push_back.new.self.items ≡ s.made.items ++ None ∷ [] = c.in_ok-push_back.ensures.items in
    let more : length c.push_back.new.self.items ≡ length s.made.items + 1 = ap length items ∙ longer s.made.items None in (
      ap (λ ys. entries (replicate s.first None ++ ys)) items ∙ last_grown s.first s.made.items ∙ c.loop-self.invariant.0,
      λ v made. let old = c.loop-self.invariant.1 v made in let q = old.1 in (old.0, omega (arith, q, more)),
      c.loop-self.invariant.2,
    )
