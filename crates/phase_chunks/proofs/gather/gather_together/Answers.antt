use Rattle.std.proofs.Common.{rules, ◌≡◌, ℕ, ◌+◌, ◌*◌, ◌<◌, ◌≤◌, length, map, take, Some, Ok, sym, ap, subst, ◌∙◌, arith}
use Rattle.phase_team.specs.Segments.{row_at, value_if}
use Rattle.phase_team.proofs.Stored.{stretched}
use Rattle.std.proofs.lemmas.List.{take-append-le}
use Rattle.wl_core.specs.Machine.{combine}
use Rattle.phase_chunks.specs.Gathering.{combined_on}
use Rattle.phase_chunks.proofs.Gathering.{come_together, next_cells, single}
use Rattle.phase_chunks.proofs.gather.gather_together.Goals as goal

pub returns-then-together-gt0-clause-ran : goal.returns-then-together-gt0-clause-ran
returns-then-together-gt0-clause-ran g c = λ some.
    let cell = g.C.PhaseCells.cell c.args.work.now.cells.now in
    let start : ℕ = c.args.stretch.start in
    let n : ℕ = c.stretch-together.result in
    let rows = c.stretch-together.new._rows in
    let before = value_if c.args.held c.args.row.now in
    let long : length c.stretch-together.new._rows ≡ c.min-count.result * 1 = search rules in
    let tells = subst (λ (w : ℕ). (j : ℕ) → j < n → cell (start + j) ≡ Ok (Some (row_at w j rows))) (sym c.requires.suits.width_is ∙ c.requires.one) c.stretch-together.ensures.tells in
    let are = stretched cell start n c.min-count.result 1 rows c.stretch-together.ensures.most long tells in
    let short : n ≤ length rows = omega (arith, long, c.stretch-together.ensures.most) in
    let once : n ≡ n * 1 = omega arith in
    next_cells cell start n c.args.stretch.count c.args.op 1 before _ some (omega (arith, c.stretch-together.ensures.most, c.min-count.ensures))
    (come_together cell start n c.args.op before _ c.combine_numbers.new.into are (c.combine_numbers.ensures ∙ ap (λ ns. combined_on (combine c.args.op) before (map single ns)) (take-append-le n rows _ short ∙ ap (λ m. take m rows) once)))
