use Rattle.std.proofs.Common.{rules, ◌≡◌, ◌+◌, ◌<◌, ◌≤◌, ℕ, None, Some, [], ◌∷◌, length, get_or, pos, ap, sym, ◌∙◌, arith}
use Rattle.std.proofs.lemmas.List.{get_or_append_left}
use Rattle.run_loops.specs.Loops.{held_body}
use Rattle.run_values.specs.Scopes.{current}
use Rattle.phase_loop_cells.specs.Cells.{fill_at, index_at}
use Rattle.phase_loop_cells.specs.Walks.{body_of_run}
use Rattle.phase_loop_cells.proofs.Free.{free_cell, free_takes, no_place}
use Rattle.phase_loop_cells.proofs.loops.LoopCells.fill_free.Goals as goal

pub returns-clause-each : goal.returns-clause-each
returns-clause-each c = λ j lt.
    let a = c.args in
    let self = a.self.now in
    let plan = self.plan.now in
    let run = c.run_from-run.result in
    let p : ℕ = a.start + j in
    let none : run.place ≡ None = no_place run.place (sym c.is_some.ensures ∙ c.if-is_some.false) in
    let long : length c.fill_between.new.into ≡ c.min-free.result = search rules in
    let most : c.fill_between.result ≤ c.min-free.result = search rules in
    let from : run.from ≤ a.start = search rules in
    let until : p < run.until = omega (arith, lt, most, c.min-free.ensures) in
    let free : held_body self.source plan.ranges.items (index_at plan.frame p) ≡ None = c.run_from-run.ensures p (omega (arith, from)) until ∙ ap (body_of_run self.source) none in
    let written : get_or c.fill_between.new.into j (pos 0) ≡ get_or _ j (pos 0) = sym (get_or_append_left c.fill_between.new.into _ (pos 0) j (omega (arith, lt, most, long))) in
    free_cell self.context self.heap.now (current self.frames.now) self.source plan self.background p free _
    (ap (λ o. fill_at o p) c.in-Some.is ∙ ap (λ x. Some x) (c.fill_between.ensures.each j lt ∙ ap (λ n. n ∷ []) written))

pub returns-clause-takes : goal.returns-clause-takes
returns-clause-takes c = λ j lt.
    let a = c.args in
    let self = a.self.now in
    let plan = self.plan.now in
    let run = c.run_from-run.result in
    let p : ℕ = a.start + j in
    let none : run.place ≡ None = no_place run.place (sym c.is_some.ensures ∙ c.if-is_some.false) in
    let most : c.fill_between.result ≤ c.min-free.result = search rules in
    let from : run.from ≤ a.start = search rules in
    let until : p < run.until = omega (arith, lt, most, c.min-free.ensures) in
    free_takes self.context self.heap.now (current self.frames.now) self.source plan self.background p
    (c.run_from-run.ensures p (omega (arith, from)) until ∙ ap (body_of_run self.source) none)
