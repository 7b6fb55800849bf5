use Rattle.std.proofs.Common.{◌≡◌, ℕ, ℤ, List, length, Some, Result, IfOk, sym, ap, subst, ◌∙◌, arith, Vec}
use Rattle.std.specs.Global.{Global}
use Rattle.std.proofs.lemmas.List.{length-map}
use Rattle.buffer_parts.specs.Spans.{Span, KeepPlaces, joined}
use Rattle.sac_base.specs.declared.stop.Stop.{Stop}
use Rattle.phase_team.specs.Endings.{IsArray}
use Rattle.phase_team.specs.Segments.{cells_from, Costs}
use Rattle.chunk_reports.specs.Stops.{first_stop_of}
use Rattle.wl_core.specs.declared.setup.Job.{Job}
use Rattle.wl_core.specs.Machine.{CellValue}
use Rattle.phase_chunks.specs.Chunks.{ChunkPart}
use Rattle.phase_draws.specs.Crews.{HaveRoom}
use Rattle.phase_chunks.specs.Answering.{Answers}
use Rattle.phase_draws.specs.Endings.{one_phase, IsEnded, IsTallied}
use Rattle.phase_draws.specs.Reports.{HasRowsFor, PartsFit}
use Rattle.phase_draws.proofs.Buffers.{as_many, buffer_answer, parts_fit, places_back, places_same}
use Rattle.phase_draws.proofs.Neutral.{tallied}
use Rattle.phase_draws.proofs.arrays.run_parts.Goals as goal
use Rattle.phase_draws.proofs.arrays.run_parts.Goals.{in-Ok, in-Err}

pub run_phase-ran-requires-clause-parts : goal.run_phase-ran-requires-clause-parts
run_phase-ran-requires-clause-parts g c = λ κs outlives.
    subst (λ (l : List ChunkPart). PartsFit c.args.share l) (sym c.fill_slots.ensures.slots)
    (parts_fit c.args.share c.requires.job (length c.args.parts.items) c.args.parts.items c.requires.lent.lengths c.requires.lent.filled)

pub run_phase-ran-requires-clause-rooms : goal.run_phase-ran-requires-clause-rooms
run_phase-ran-requires-clause-rooms g c = λ κs outlives.
    let many : length c.fill_slots.new.slots.items ≡ length c.args.parts.items = ap (λ (l : List ChunkPart). length l) c.fill_slots.ensures.slots ∙ length-map c.args.parts.items (λ (p : Span ℤ). Some p) in (
      c.requires.rooms.0,
      c.requires.rooms.1,
      subst (λ (n : ℕ). HaveRoom n c.requires.rooms.0 c.args.begun.rooms) (sym many) c.requires.rooms.2,
      subst (λ (j : Job). HasRowsFor j c.args.share.width c.requires.rooms.0 0) (sym c.requires.job) tt,
    )

pub parts_back-requires-clause-room : goal.parts_back-requires-clause-room
parts_back-requires-clause-room g c =
    let many : length c.fill_slots.new.slots.items ≡ length c.args.parts.items = ap (λ (l : List ChunkPart). length l) c.fill_slots.ensures.slots ∙ length-map c.args.parts.items (λ (p : Span ℤ). Some p) in
    let n : length c.in-Ok.team.reports.items ≡ length c.args.parts.items = as_many c.in-Ok.team.reports.items (length c.fill_slots.new.slots.items) c.in-Ok.ensures.ended.order ∙ many in
    let cap = c.fill_slots.ensures.capacity in
    grind (arith, n, cap, c.in-Ok.team.reports.ok, c.args.parts.ok)

pub returns-clause-places : goal.returns-clause-places
returns-clause-places g c =
    let cell = g.C.PhaseCells.cell c.args.phase.now.cells.now in
    let cost = g.C.PhaseCells.cost c.args.phase.now.cells.now in
    let kept = g.C.PhaseCells.kept c.args.phase.now.cells.now in
    let ps : List (Span ℤ) = c.args.parts.items in
    elim c.match-ran.branch [
      | in-Ok b ↦
          let ended = subst (λ (l : List ChunkPart). IsEnded cell cost c.args.share l (kept c.args.run.books.home) (kept c.run_phase-ran.new.home) c.run_phase-ran.new.rows b.in-Ok.team) c.fill_slots.ensures.slots b.in-Ok.ensures.ended in
          subst (λ (v : Vec (Span ℤ) Global). KeepPlaces ps v.items) (sym b.parts-is)
          (subst (λ (l : List (Span ℤ)). KeepPlaces ps l) (sym b.parts_back.ensures)
          (places_back cell cost c.args.share c.requires.job ps c.requires.lent (kept c.args.run.books.home) (kept c.run_phase-ran.new.home) c.run_phase-ran.new.rows b.in-Ok.team ended))
      | in-Err b ↦ subst (λ (v : Vec (Span ℤ) Global). KeepPlaces ps v.items) (sym b.parts-is)
          (places_same ps b.empty_slots.new.parts.items b.in-Err.field-0.parts.items (b.in-Err.ensures.back ∙ c.fill_slots.ensures.slots) b.empty_slots.ensures)
    ]

pub returns-clause-array : goal.returns-clause-array
returns-clause-array g c =
    let cell = g.C.PhaseCells.cell c.args.phase.now.cells.now in
    let cost = g.C.PhaseCells.cost c.args.phase.now.cells.now in
    let kept = g.C.PhaseCells.kept c.args.phase.now.cells.now in
    let ps : List (Span ℤ) = c.args.parts.items in
    let cells : List CellValue = cells_from cell 0 c.args.share.positions in
    elim c.match-ran.branch [
      | in-Ok b ↦
          let ended = subst (λ (l : List ChunkPart). IsEnded cell cost c.args.share l (kept c.args.run.books.home) (kept c.run_phase-ran.new.home) c.run_phase-ran.new.rows b.in-Ok.team) c.fill_slots.ensures.slots b.in-Ok.ensures.ended in
          let answer = subst (λ (r : Result (Unit {0}) Stop). Answers (first_stop_of b.in-Ok.team.reports.items) b.in-Ok.team.held r) (sym b.end-is) b.answer_of-end.ensures in
          let all = buffer_answer cell cost c.args.share c.requires.job ps c.requires.lent (kept c.args.run.books.home) (kept c.run_phase-ran.new.home) c.run_phase-ran.new.rows b.in-Ok.team ended c.match-ran.end answer in
          subst (λ (v : Vec (Span ℤ) Global). IsArray cells (joined v.items) c.match-ran.end) (sym b.parts-is)
          (subst (λ (l : List (Span ℤ)). IsArray cells (joined l) c.match-ran.end) (sym b.parts_back.ensures) all.0)
      | in-Err b ↦ subst (λ (r : Result (Unit {0}) Stop). IsArray cells (joined c.match-ran.parts.items) r) (sym b.end-is) tt
    ]

pub returns-clause-kept : goal.returns-clause-kept
returns-clause-kept g c =
    let cell = g.C.PhaseCells.cell c.args.phase.now.cells.now in
    let cost = g.C.PhaseCells.cost c.args.phase.now.cells.now in
    let kept = g.C.PhaseCells.kept c.args.phase.now.cells.now in
    let ps : List (Span ℤ) = c.args.parts.items in
    elim c.match-ran.branch [
      | in-Ok b ↦
          let ended = subst (λ (l : List ChunkPart). IsEnded cell cost c.args.share l (kept c.args.run.books.home) (kept c.run_phase-ran.new.home) c.run_phase-ran.new.rows b.in-Ok.team) c.fill_slots.ensures.slots b.in-Ok.ensures.ended in
          let answer = subst (λ (r : Result (Unit {0}) Stop). Answers (first_stop_of b.in-Ok.team.reports.items) b.in-Ok.team.held r) (sym b.end-is) b.answer_of-end.ensures in
          (buffer_answer cell cost c.args.share c.requires.job ps c.requires.lent (kept c.args.run.books.home) (kept c.run_phase-ran.new.home) c.run_phase-ran.new.rows b.in-Ok.team ended c.match-ran.end answer).1
      | in-Err b ↦ subst (λ (r : Result (Unit {0}) Stop). IfOk r (λ done. Costs cost 0 c.args.share.positions (kept c.args.run.books.home) (kept c.run_phase-ran.new.home))) (sym b.end-is) tt
    ]

pub returns-clause-tally : goal.returns-clause-tally
returns-clause-tally g c =
    let many : length c.fill_slots.new.slots.items ≡ length c.args.parts.items = ap (λ (l : List ChunkPart). length l) c.fill_slots.ensures.slots ∙ length-map c.args.parts.items (λ (p : Span ℤ). Some p) in
    elim c.match-ran.branch [
      | in-Ok b ↦ tallied (length c.args.parts.items) c.args.run.books.tally c.run_phase-ran.new.tally c.match-ran.end
          (b.in-Ok.ensures.tally ∙ ap (λ (n : ℕ). one_phase n c.args.run.books.tally) many)
      | in-Err b ↦ subst (λ (r : Result (Unit {0}) Stop). IsTallied (length c.args.parts.items) c.args.run.books.tally c.run_phase-ran.new.tally r) (sym b.end-is) tt
    ]
