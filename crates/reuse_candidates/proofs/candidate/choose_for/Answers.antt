use Rattle.std.proofs.Common.{rules, ◌≡◌, [], None, map, sym, ◌∙◌}
use Rattle.counted_code.specs.Terms.{Giving}
use Rattle.counted_code.specs.declared.tree.CodeParted.{out-CodeParted}
use Rattle.counted_code.specs.Pieces.{code_part_term, code_parts_of}
use Rattle.counted_code.specs.View.{code_parted_term, steps_before}
use Rattle.counted_marks.specs.Marking.{choice, least, released_next}
use Rattle.reuse_candidates.specs.Calls.{given_by}
use Rattle.reuse_candidates.specs.Scopes.{known_in}
use Rattle.reuse_candidates.proofs.Choices.{least_found, marked_already, no_buffer, taken_for}
use Rattle.reuse_candidates.proofs.OwnTurns.{on_ok}
use Rattle.reuse_candidates.proofs.candidate.choose_for.Goals as goal

pub returns-then-is_some-clause-chosen : goal.returns-then-is_some-clause-chosen
returns-then-is_some-clause-chosen c =
    marked_already (given_by c.args.calls.now) (known_in c.args.scope.now) c.args.targets.now c.args.parted.now (steps_before c.args.later.now (Giving [])) (sym c.is_some.ensures ∙ c.if-is_some.true)

pub returns-in_default-clause-chosen : goal.returns-in_default-clause-chosen
returns-in_default-clause-chosen c =
    let none : c.buffer_shape.result ≡ None = search rules in
    no_buffer (given_by c.args.calls.now) (known_in c.args.scope.now) c.args.targets.now c.args.parted.now (steps_before c.args.later.now (Giving [])) (sym c.is_some.ensures ∙ c.if-is_some.false) (sym none ∙ c.buffer_shape.ensures)

pub returns-clause-chosen : goal.returns-clause-chosen
returns-clause-chosen c =
    let g = given_by c.args.calls.now in
    let k = known_in c.args.scope.now in
    let targets = c.args.targets.now in
    let p = c.args.parted.now in
    let rest = steps_before c.args.later.now (Giving []) in
    let found_by = taken_for g k targets (out-CodeParted p).frame (out-CodeParted p).base (out-CodeParted p).cell (out-CodeParted p).op (code_parts_of (map code_part_term c.deref.result.now)) rest c.in-Some.shape in
    on_ok (λ found. found ≡ least found_by None (released_next rest)) (λ found. found ≡ choice g k targets (code_parted_term p) rest) c.least_taken.result
    (λ found h. least_found g k targets p rest c.in-Some.shape c.deref.result.now found (sym c.is_some.ensures ∙ c.if-is_some.false) (sym c.in-Some.is ∙ c.buffer_shape.ensures) c.deref.ensures.value h)
    c.least_taken.ensures.chosen
