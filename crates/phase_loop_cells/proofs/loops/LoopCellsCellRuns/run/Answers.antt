use Rattle.std.proofs.Common.{rules, ◌≡◌, ◌∙◌, ap, sym, subst}
use Rattle.phase_cells.specs.Idle.{IsLeft}
use Rattle.run_values.specs.Scopes.{current}
use Rattle.phase_team.specs.Segments.{IsComputed, Tells}
use Rattle.run_loops.specs.declared.state.State.{State}
use Rattle.phase_loop_cells.specs.Cells.{source_cell, source_taken}
use Rattle.phase_loop_cells.specs.Opened.{OpenSource}
use Rattle.phase_loop_cells.proofs.Afters.{computed_claim}
use Rattle.phase_loop_cells.proofs.Works.{source_tells, source_leaves}
use Rattle.phase_loop_cells.proofs.loops.LoopCellsCellRuns.run.Goals as goal

pub returns-clause-tells : goal.returns-clause-tells
returns-clause-tells c k stands is =
    let a = c.args in
    let self = a.self.now in
    let e = current self.frames.now in
    let s : State = record { frames = c.replace-variables.result; heap = c.replace-buffers.result; phases = c.within_cell.result } in
    let heap : s.heap ≡ a.store.now = search rules in
    let frames : s.frames ≡ a.scratch.now.frames = search rules in
    subst (Tells (source_cell self.context self.heap.now e self.source self.plan.now self.background a.position) c.cell_at-answer.new.into) (sym c.ended.ensures)
    (source_tells self.context self.heap.now e self.source self.plan.now self.background a.position s c.cell_at-answer.new.state c.cell_at-answer.new.into c.cell_at-answer.result a.store.now k is heap (ap current frames ∙ c.requires.ready.0) (c.within_cell.ensures.number, c.within_cell.ensures.draws) stands c.cell_at-answer.ensures.told)

pub returns-clause-left : goal.returns-clause-left
returns-clause-left c k stands is computed =
    let a = c.args in
    let self = a.self.now in
    let e = current self.frames.now in
    let s : State = record { frames = c.replace-variables.result; heap = c.replace-buffers.result; phases = c.within_cell.result } in
    let heap : s.heap ≡ a.store.now = search rules in
    let frames : s.frames ≡ a.scratch.now.frames = search rules in
    subst (IsLeft (OpenSource self.context self.heap.now e self.source) self.heap.now (source_taken self.context self.heap.now e self.source self.plan.now a.position) k) (sym c.into_parts-frames.ensures.heap)
    (source_leaves self.context self.heap.now e self.source self.plan.now self.background a.position s c.cell_at-answer.new.state c.cell_at-answer.new.into c.cell_at-answer.result a.store.now k is heap (ap current frames ∙ c.requires.ready.0) (c.within_cell.ensures.number, c.within_cell.ensures.draws) stands c.cell_at-answer.ensures.told (subst IsComputed c.ended.ensures computed))

pub returns-clause-ready : goal.returns-clause-ready
returns-clause-ready c computed =
    let a = c.args in
    let frames : c.replace-variables.result ≡ a.scratch.now.frames = search rules in (
      ap current c.into_parts-frames.ensures.frames
          ∙ computed_claim (current c.cell_at-answer.new.state.frames ≡ current c.replace-variables.result) c.cell_at-answer.result c.cell_at-answer.ensures.current (subst IsComputed c.ended.ensures computed)
          ∙ ap current frames
          ∙ c.requires.ready.0,
      c.cell_at-answer.ensures.walk,
    )
