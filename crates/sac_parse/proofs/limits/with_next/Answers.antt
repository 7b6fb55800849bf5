use Rattle.std.proofs.Common.{ℕ, ◌≡◌, ◌+◌, ◌∙◌, cond, sym, ap, arith}
use Rattle.sac_parse.proofs.limits.with_next.Goals as goal

pub returns-then-opens_next-clause-next : goal.returns-then-opens_next-clause-next
returns-then-opens_next-clause-next c = λ t r split. ap (λ b. c.args.depth + cond {A = ℕ} b 1 0) (sym c.if-opens_next.true ∙ c.opens_next.ensures t r split)

pub returns-else-opens_next-clause-next : goal.returns-else-opens_next-clause-next
returns-else-opens_next-clause-next c = λ t r split. (let same : c.args.depth ≡ c.args.depth + 0 = omega arith in same) ∙ ap (λ b. c.args.depth + cond {A = ℕ} b 1 0) (sym c.if-opens_next.false ∙ c.opens_next.ensures t r split)
