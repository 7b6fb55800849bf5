use Rattle.std.proofs.Common.{rules, ◌≡◌, ◌∙◌, Ok, Err, ap, subst, refl}
use Rattle.run_values.specs.Scopes.{current}
use Rattle.phase_loop_cells.specs.Cells.{fill_at, index_at}
use Rattle.run_loops.specs.Loops.{IsPresent, source_at, source_of_body, unreleased}
use Rattle.run_loops.specs.Running.{Told}
use Rattle.phase_loop_cells.proofs.Answered.{put_told, stop_handed}
use Rattle.phase_loop_cells.proofs.Bodies.{source_is}
use Rattle.phase_loop_cells.proofs.loops.cell_at.Goals as goal

pub returns-in_err-value-clause-told : goal.returns-in_err-value-clause-told
returns-in_err-value-clause-told c m at =
    let a = c.args in
    let cells = a.cells.now in
    let p = cells.plan.now in
    let e = current a.state.now.frames in
    let v = index_at p.frame a.position in
    let body = c.in_ok-body.body in
    let here : c.index.result.now ≡ v = c.index.ensures ∙ c.in_ok-body.ensures.index in
    let from = ap (λ x. source_of_body cells.context e x body) here ∙ source_is cells.context e v cells.source p.ranges.items body c.in_ok-body.ensures.body in
    let st = c.body_in_order.new.state in
    let stop = c.in_err-value.field-0.0 in
    let handed : c.from_residual-in_err-value.result ≡ Err stop = search rules in
    stop_handed (fill_at cells.background a.position) a.into.now c.from_residual-in_err-value.result stop st p.form (source_at cells.context e cells.source p.ranges.items v) m handed
    (subst (λ o. Told IsPresent (Err stop) st (unreleased p.form o m)) from (c.in_err-value.ensures.told m at))

pub returns-clause-told : goal.returns-clause-told
returns-clause-told c m at =
    let a = c.args in
    let cells = a.cells.now in
    let p = cells.plan.now in
    let e = current a.state.now.frames in
    let v = index_at p.frame a.position in
    let body = c.in_ok-body.body in
    let here : c.index.result.now ≡ v = c.index.ensures ∙ c.in_ok-body.ensures.index in
    let from = ap (λ x. source_of_body cells.context e x body) here ∙ source_is cells.context e v cells.source p.ranges.items body c.in_ok-body.ensures.body in
    let st = c.body_in_order.new.state in
    let o = c.in_ok-value.value in
    put_told (fill_at cells.background a.position) c.put.new.into c.in_ok-written.written o st (record st { heap = c.put.new.store }) p.form (source_at cells.context e cells.source p.ranges.items v) m
    (subst (λ x. Told IsPresent (Ok o) st (unreleased p.form x m)) from (c.in_ok-value.ensures.told m at)) c.in_ok-written.ensures.told refl
