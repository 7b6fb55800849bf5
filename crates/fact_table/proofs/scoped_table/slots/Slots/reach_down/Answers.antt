use Rattle.std.proofs.Common.{rules, ◌≡◌, ◌<◌, ◌-◌, ◌++◌, ◌∷◌, suc, length, replicate, None, ap, ◌∙◌, arith}
use Rattle.fact_table.specs.scoped_table.Slots.{entries}
use Rattle.fact_table.proofs.scoped_table.SlotFacts.{first_grown}
use Rattle.fact_table.proofs.scoped_table.slots.Slots.reach_down.Goals as goal

pub loop-self-preserved : goal.loop-self-preserved
loop-self-preserved g c =
    let s = c.loop-self.self in
    let items : c.push_front.new.self.items ≡ None ∷ s.made.items = c.in_ok-push_front.ensures.items in
    let low : c.args.x.0 < s.first = search rules in
    let more = ap length items in (
      ap (λ ys. entries (replicate (s.first - 1) None ++ ys)) items
          ∙ first_grown (s.first - 1) s.first s.made.items (let e : s.first ≡ suc (s.first - 1) = omega (arith, low) in e)
          ∙ c.loop-self.invariant.0,
      λ v made. let old = c.loop-self.invariant.1 v made in let p = old.0 in let q = old.1 in (omega (arith, p), omega (arith, q, more, low)),
    )
