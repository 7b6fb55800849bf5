use Rattle.std.proofs.Common.{rules, arith, ◌<◌, ◌≤◌, subst, sym}
use Rattle.index_cutter.proofs.Shares.{few_chunks, none_empty}
use Rattle.index_cutter.proofs.cuts.cut.Goals as goal

pub returns-clause-filled : goal.returns-clause-filled
returns-clause-filled c k less = none_empty c.args.positions c.max-size.result k (search rules) (subst (λ n. k < n) c.div_ceil-3.ensures less)

pub returns-clause-most : goal.returns-clause-most
returns-clause-most c = subst (λ n. n ≤ 4096) (sym c.div_ceil-3.ensures) (few_chunks c.args.positions 4096 c.max-size.result (omega arith) (search rules) (search rules))

pub returns-clause-shared : goal.returns-clause-shared
returns-clause-shared c given = subst (λ n. n ≤ c.args.workers) (sym c.div_ceil-3.ensures) (few_chunks c.args.positions c.args.workers c.max-size.result (omega arith) (search rules) (search rules))
