use Rattle.std.proofs.Common.{rules, ◌≡◌, ℕ, ◌*◌, length, refl, ap, ◌∙◌, arith}
use Rattle.std.specs.Int.{div_ceil}
use Rattle.index_cutter.specs.Cuts.{chunk_size}
use Rattle.wl_core.specs.declared.setup.Job.TheVariants.{Write as Store}
use Rattle.phase_chunks.specs.Seats.{Suits}
use Rattle.phase_chunks.specs.declared.shares.Share.{Share}
use Rattle.phase_draws.proofs.Lent.{from_either, lent_parts, many_parts, tallied_as, untallied}
use Rattle.phase_draws.proofs.arrays.array_phase.Goals as goal

pub lend-requires-clause-callable : goal.lend-requires-clause-callable
lend-requires-clause-callable g c = λ parts chunks.
    let cuts = c.cut-cuts.result in
    let own = c.cut-cuts.ensures in
    let share : Share = record { job = Store; width = c.args.width; positions = c.args.phase.positions; size = cuts.size } in
    let lent = lent_parts share cuts.count c.args.buffer.now chunks.whole.cells parts.items chunks.cells c.requires.room chunks.cut.lengths own.filled own.covers own.most in
    let suits : Suits (g.C.PhaseCells.cell c.args.phase.cells.now) (g.C.PhaseCells.positions c.args.phase.cells.now) (g.C.PhaseCells.width c.args.phase.cells.now) (g.C.PhaseCells.shared c.args.phase.cells.now)
    (length c.args.books.counts.items) share =
    record {
      shared_is = c.requires.shared;
      width_is = c.requires.positions.2;
      size = own.some;
      few = let most = c.requires.positions.0 in let same = c.requires.positions.1 in omega arith;
      within = let same = c.requires.positions.1 in omega arith;
      takes = tt;
      held = λ p lt none. let same = c.requires.positions.1 in absurd (c.requires.held p (omega arith) none);
    } in
    (search rules, (suits, (refl, (lent, (c.team_of-workers.ensures, (c.requires.home, c.requires.counts))))))

pub returns-clause-tally : goal.returns-clause-tally
returns-clause-tally g c =
    let cuts = c.cut-cuts.result in
    let own = c.cut-cuts.ensures in
    let n : ℕ = div_ceil c.args.phase.positions (chunk_size c.args.phase.positions c.args.phase.cutting.workers c.args.phase.cutting.chunk) in
    let before = c.args.books.tally in
    let after = c.lend.new.state.run in
    let many : cuts.count ≡ n = own.count ∙ ap (λ (size : ℕ). div_ceil c.args.phase.positions size) own.size in
    from_either c.lend.result c.lend.ensures.ok c.lend.ensures.err
    (λ told.
    let parts = told.0.items in
    let chunks = told.2 in
    let long : length parts ≡ cuts.count = many_parts (cuts.size * c.args.width) cuts.count (length chunks.whole.cells) parts chunks.cut.lengths in
    tallied_as (length parts) n before after.books.tally after.end (long ∙ many) told.3.1.1.1.1.1.1)
    (λ same. untallied n before after.books.tally after.end (ap (λ lent. lent.run.end) same.1))
