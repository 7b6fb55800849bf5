use Rattle.std.proofs.Common.{rules, arith, ◌≤ℤ◌, pos, ◌≡◌, inl, inr, sym, nat_lt, ◌∙◌}
use Rattle.std.specs.Prelude.{unsigned_abs, ◌-ℤ◌}
use Rattle.std.proofs.lemmas.Int.{ints}
use Rattle.sac_base.specs.Grids.{has_index}
use Rattle.sac_base.proofs.GridFacts.{has_facts, same_test}
use Rattle.sac_base.proofs.grid.Grid1.has.Goals as goal
use Rattle.sac_base.proofs.grid.Grid1.has.Goals.{then-x-self-via-then-x-self, then-x-self-via-else-x-self+then-self-x}

pub returns-then-x-self : goal.returns-then-x-self
returns-then-x-self c =
    let wide : pos 1 ≤ℤ c.args.self.now.width = search rules in
    elim (has_facts c.args.self.now c.args.x wide) [
      | inl y ↦ elim c.then-x-self.branch [
        | then-x-self-via-then-x-self w ↦ absurd (omega (arith, ints))
        | then-x-self-via-else-x-self+then-self-x w ↦ absurd (omega (arith, ints))
      ]
      | inr n ↦ sym n.1
    ]

pub returns : goal.returns
returns c =
    let wide : pos 1 ≤ℤ c.args.self.now.width = search rules in
    elim (has_facts c.args.self.now c.args.x wide) [
      | inl y ↦
          let one : c.abs_diff.result ≡ unsigned_abs (c.args.x -ℤ c.args.self.now.lo) = search rules in
          let two : c.unsigned_abs.result ≡ unsigned_abs c.args.self.now.step = search rules in
          let three : c.unsigned_abs-2.result ≡ unsigned_abs c.args.self.now.width = search rules in
          same_test one two three ∙ sym y.2
      | inr n ↦ absurd (elim n.0 [ inl a ↦ omega (arith, ints) | inr b ↦ omega (arith, ints) ])
    ]
