use Rattle.std.proofs.Common.{◌≡◌, ◌≤◌, ◌*◌, ℕ, List, None, length, refl, sym, ap, subst, ◌∙◌, vec_len, arith}
use Rattle.std.proofs.lemmas.List.{length-replicate}
use Rattle.std.specs.Int.{div_ceil}
use Rattle.index_cutter.specs.Cuts.{chunk_size}
use Rattle.wl_core.specs.declared.setup.Job.TheVariants.{Fold}
use Rattle.phase_chunks.specs.declared.shares.Share.{Share}
use Rattle.phase_chunks.specs.Chunks.{ChunkPart}
use Rattle.phase_draws.specs.Crews.{HaveRoom}
use Rattle.phase_draws.specs.Endings.{one_phase}
use Rattle.phase_draws.specs.Reports.{PartsFit}
use Rattle.phase_draws.proofs.Neutral.{fold_answer, parts_none, row_there, tallied}
use Rattle.phase_draws.proofs.folds.fold_phase.Goals as goal

pub run_phase-requires-clause-suits : goal.run_phase-requires-clause-suits
run_phase-requires-clause-suits g c = λ κs outlives.
    record {
      shared_is = c.requires.shared;
      width_is = c.requires.width;
      size = c.cut-cuts.ensures.some;
      few = (let most = c.requires.positions.0 in let same = c.requires.positions.1 in omega arith);
      within = (let same = c.requires.positions.1 in omega arith);
      takes = c.requires.op;
      held = λ p lt none. tt;
    }

pub run_phase-requires-clause-parts : goal.run_phase-requires-clause-parts
run_phase-requires-clause-parts g c = λ κs outlives.
    let share : Share = record { job = Fold c.args.base c.args.op; width = length c.args.value.now; positions = c.args.phase.positions; size = c.cut-cuts.result.size } in
    subst (λ (l : List ChunkPart). PartsFit share l) (sym c.in-Ok.ensures.slots) (parts_none share c.args.base c.args.op refl c.cut-cuts.result.count c.cut-cuts.ensures.filled)

pub run_phase-requires-clause-covers : goal.run_phase-requires-clause-covers
run_phase-requires-clause-covers g c = λ κs outlives.
    let many : length c.in-Ok.rooms.begun.slots.items ≡ c.cut-cuts.result.count = ap (λ (l : List ChunkPart). length l) c.in-Ok.ensures.slots ∙ length-replicate c.cut-cuts.result.count None in
    subst (λ (n : ℕ). c.args.phase.positions ≤ n * c.cut-cuts.result.size) (sym many) c.cut-cuts.ensures.covers

pub run_phase-requires-clause-few : goal.run_phase-requires-clause-few
run_phase-requires-clause-few g c = λ κs outlives.
    let many : length c.in-Ok.rooms.begun.slots.items ≡ c.cut-cuts.result.count = ap (λ (l : List ChunkPart). length l) c.in-Ok.ensures.slots ∙ length-replicate c.cut-cuts.result.count None in
    let most = c.cut-cuts.ensures.most in
    omega arith

pub run_phase-requires-clause-rooms : goal.run_phase-requires-clause-rooms
run_phase-requires-clause-rooms g c = λ κs outlives.
    let many : length c.in-Ok.rooms.begun.slots.items ≡ c.cut-cuts.result.count = ap (λ (l : List ChunkPart). length l) c.in-Ok.ensures.slots ∙ length-replicate c.cut-cuts.result.count None in
    let workers : ℕ = c.team_of-workers.result in
    (workers, c.team_of-workers.ensures.1, subst (λ (n : ℕ). HaveRoom n workers c.in-Ok.rooms.begun.rooms) (sym many) c.in-Ok.ensures.rooms, ap (λ l. length l) c.as_mut_slice-rows.ensures.value ∙ c.in-Ok.ensures.rows)

pub with_neutral-requires : goal.with_neutral-requires
with_neutral-requires g c =
    let len = c.run_phase.auto.rows ∙ ap (λ l. length l) c.as_mut_slice-rows.ensures.value ∙ c.in-Ok.ensures.rows in
    row_there c.team_of-workers.result (vec_len c.in-Ok.rooms.begun.rooms.others) (length c.args.value.now) (length c.run_phase.new.rows) c.in-Ok.ensures.rooms.count len

pub returns-in-Ok-run_phase-clause-combined : goal.returns-in-Ok-run_phase-clause-combined
returns-in-Ok-run_phase-clause-combined g c =
    let all = c.args.phase.cells.now in
    let share : Share = record { job = Fold c.args.base c.args.op; width = length c.args.value.now; positions = c.args.phase.positions; size = c.cut-cuts.result.size } in
    let slots : List ChunkPart = c.in-Ok.rooms.begun.slots.items in
    let many : length slots ≡ c.cut-cuts.result.count = ap (λ (l : List ChunkPart). length l) c.in-Ok.ensures.slots ∙ length-replicate c.cut-cuts.result.count None in
    (fold_answer (g.C.PhaseCells.cell all) (g.C.PhaseCells.cost all) share slots c.args.base c.args.op refl c.requires.op c.cut-cuts.result.count many
    c.cut-cuts.ensures.filled c.cut-cuts.ensures.covers (g.C.PhaseCells.kept all c.args.home.now) (g.C.PhaseCells.kept all c.run_phase.new.home) c.run_phase.new.rows
    c.in-Ok-run_phase.end c.in-Ok-run_phase.ensures.ended c.args.value.now c.with_neutral.new.value refl c.with_neutral.result c.with_neutral.ensures).0

pub returns-in-Ok-run_phase-clause-kept : goal.returns-in-Ok-run_phase-clause-kept
returns-in-Ok-run_phase-clause-kept g c =
    let all = c.args.phase.cells.now in
    let share : Share = record { job = Fold c.args.base c.args.op; width = length c.args.value.now; positions = c.args.phase.positions; size = c.cut-cuts.result.size } in
    let slots : List ChunkPart = c.in-Ok.rooms.begun.slots.items in
    let many : length slots ≡ c.cut-cuts.result.count = ap (λ (l : List ChunkPart). length l) c.in-Ok.ensures.slots ∙ length-replicate c.cut-cuts.result.count None in
    (fold_answer (g.C.PhaseCells.cell all) (g.C.PhaseCells.cost all) share slots c.args.base c.args.op refl c.requires.op c.cut-cuts.result.count many
    c.cut-cuts.ensures.filled c.cut-cuts.ensures.covers (g.C.PhaseCells.kept all c.args.home.now) (g.C.PhaseCells.kept all c.run_phase.new.home) c.run_phase.new.rows
    c.in-Ok-run_phase.end c.in-Ok-run_phase.ensures.ended c.args.value.now c.with_neutral.new.value refl c.with_neutral.result c.with_neutral.ensures).1

pub returns-in-Ok-run_phase-clause-tally : goal.returns-in-Ok-run_phase-clause-tally
returns-in-Ok-run_phase-clause-tally g c =
    let cutting = c.args.phase.cutting in
    let own = c.cut-cuts.ensures in
    let n : ℕ = div_ceil c.args.phase.positions (chunk_size c.args.phase.positions cutting.workers cutting.chunk) in
    let slots : List ChunkPart = c.in-Ok.rooms.begun.slots.items in
    let long : length slots ≡ c.cut-cuts.result.count = ap (λ (l : List ChunkPart). length l) c.in-Ok.ensures.slots ∙ length-replicate c.cut-cuts.result.count None in
    let many : c.cut-cuts.result.count ≡ n = own.count ∙ ap (λ (size : ℕ). div_ceil c.args.phase.positions size) own.size in
    tallied n c.args.tally.now c.run_phase.new.tally c.with_neutral.result (c.in-Ok-run_phase.ensures.tally ∙ ap (λ (k : ℕ). one_phase k c.args.tally.now) (long ∙ many))
