use Rattle.std.proofs.Common.{rules, ◌≡◌, ◌*◌, ◌<◌, ◌≤◌, ◌^◌, length, min, ℕ, sym, ap, ◌∙◌, subst, arith}
use Rattle.index_cutter.proofs.Chunking.{enough_chunks, cut_by}
use Rattle.index_cutter.proofs.lends.lend.Goals as goal
use denote.Param.{copied}

pub lend-requires-clause-callable : goal.lend-requires-clause-callable
lend-requires-clause-callable g c = λ whole same small.
    let R = copied 0 g.row.T in let cuts = c.args.cuts.now in let n : ℕ = length c.args.buffer.now in let t : ℕ = c.min-size.result in
    let long : length whole.cells ≡ n = ap length same in
    let is : t ≡ min (cuts.size * c.args.cell) n = let fits : n < 2 ^ 64 = search rules in let sat = c.saturating_mul.ensures in let least = c.min-size.ensures in omega arith in
    let enough = enough_chunks cuts.positions cuts.size c.args.cell cuts.count n t (omega arith) c.requires.count c.requires.cells is in (
      search rules,
      (
        subst (λ (k : ℕ). k ≤ cuts.count * t) (sym long) enough,
        (
          small,
          (
            (let fits : n < 2 ^ 64 = search rules in omega arith),
            (
              (λ parts cut. c.requires.callable parts (record { whole = whole; cells = same; cut = cut_by R whole (cuts.size * c.args.cell) n t cuts.count is long parts.items cut })),
              (λ parts out cut post. c.requires.returns parts out (record { whole = whole; cells = same; cut = cut_by R whole (cuts.size * c.args.cell) n t cuts.count is long parts.items cut }) post),
            ),
          ),
        ),
      ),
    )

pub returns-clause-ok : goal.returns-clause-ok
returns-clause-ok g c =
    let R = copied 0 g.row.T in let cuts = c.args.cuts.now in let n : ℕ = length c.args.buffer.now in let t : ℕ = c.min-size.result in
    let is : t ≡ min (cuts.size * c.args.cell) n = let fits : n < 2 ^ 64 = search rules in let sat = c.saturating_mul.ensures in let least = c.min-size.ensures in omega arith in
    let told = c.lend.ensures in let whole = told.0 in let given = told.3.1.1 in
    (given.0, given.1, record { whole = whole; cells = told.2; cut = cut_by R whole (cuts.size * c.args.cell) n t cuts.count is (ap length told.2) given.0.items given.2 }, given.3, told.4 ∙ given.4)
