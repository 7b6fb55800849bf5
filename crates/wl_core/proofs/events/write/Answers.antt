use Rattle.std.proofs.Common.{◌≡◌, ℕ, ◌+◌, length, set, Some, None, Ok, Err, refl, sym, ap, ◌∙◌, subst, arith, Vec, Global}
use Rattle.std.specs.Prelude.{slice_get, slice_index}
use Rattle.std.proofs.lemmas.List.{get_or_read, length-map}
use Rattle.wl_core.specs.Reading.{setup_of, state_of, cell_of, Enters}
use Rattle.wl_core.specs.declared.setup.CellResult.{CellResult}
use Rattle.wl_core.specs.Machine.{Works}
use Rattle.wl_core.proofs.States.{facts}
use Rattle.wl_core.proofs.Moves.{writes_value, passes_over, next_position, enter_fits, entered_next, held_cell}
use Rattle.wl_core.proofs.events.write.Goals as goal

pub index-position-requires : goal.index-position-requires
index-position-requires c =
    let u = c.args.setup.now in
    let b = c.args.state.now in
    let w = c.args.worker in
    let works : Works (setup_of u) (state_of (setup_of u) b) w c.in-Some.chunk = c.in-Some.ensures in
    let few = (facts u b c.requires).taken_few in
    let taken = works.0 in
    let n = c.requires.sized.nexts in
    let ok = b.next.ok.0 in omega arith

pub cell-requires : goal.cell-requires
cell-requires c =
    let u = c.args.setup.now in
    let b = c.args.state.now in
    let w = c.args.worker in
    let works : Works (setup_of u) (state_of (setup_of u) b) w c.in-Some.chunk = c.in-Some.ensures in
    let few = (facts u b c.requires).taken_few in
    let taken = works.0 in
    let at : c.index-position.result.now ≡ slice_index b.next.items c.in-Some.chunk = get_or_read b.next.items c.in-Some.chunk c.index-position.result.now (let n = c.requires.sized.nexts in omega arith) c.index-position.ensures 0 in
    let below = (next_position u b c.requires w c.in-Some.chunk works).0 in
    let len = length-map u.cells.items cell_of in omega arith

pub enter-requires : goal.enter-requires
enter-requires c =
    let u = c.args.setup.now in
    let b = c.args.state.now in
    let w = c.args.worker in
    let works : Works (setup_of u) (state_of (setup_of u) b) w c.in-Some.chunk = c.in-Some.ensures in
    let few = (facts u b c.requires).taken_few in
    let taken = works.0 in
    let at : c.index-position.result.now ≡ slice_index b.next.items c.in-Some.chunk = get_or_read b.next.items c.in-Some.chunk c.index-position.result.now (let n = c.requires.sized.nexts in omega arith) c.index-position.ensures 0 in
    let cell : slice_get (setup_of u).cells (slice_index b.next.items c.in-Some.chunk) ≡ Some (Ok (Some c.deref.result.now)) = ap (λ (k : ℕ). slice_get (setup_of u).cells k) (sym at) ∙ c.cell.ensures ∙ ap (λ (x : CellResult). Some (cell_of x)) c.in-Value.is ∙ held_cell c.in-Value.value c.deref.result.now c.deref.ensures.value in
    let below = (next_position u b c.requires w c.in-Some.chunk works).0 in
    enter_fits u.job b (length (setup_of u).cells) u.workers w c.index-position.result.now c.deref.result.now c.requires.sized.rows c.if-worker-setup.false (omega arith) (c.requires.sized.widths (slice_index b.next.items c.in-Some.chunk) c.deref.result.now cell)

pub overflow_add-position : goal.overflow_add-position
overflow_add-position c =
    let u = c.args.setup.now in
    let b = c.args.state.now in
    let w = c.args.worker in
    let works : Works (setup_of u) (state_of (setup_of u) b) w c.in-Some.chunk = c.in-Some.ensures in
    let few = (facts u b c.requires).taken_few in
    let taken = works.0 in
    let at : c.index-position.result.now ≡ slice_index b.next.items c.in-Some.chunk = get_or_read b.next.items c.in-Some.chunk c.index-position.result.now (let n = c.requires.sized.nexts in omega arith) c.index-position.ensures 0 in
    let below = (next_position u b c.requires w c.in-Some.chunk works).0 in
    let most = c.requires.setup.positions in
    record { fits = omega arith }

pub index_mut-requires : goal.index_mut-requires
index_mut-requires c =
    let u = c.args.setup.now in
    let b = c.args.state.now in
    let w = c.args.worker in
    let works : Works (setup_of u) (state_of (setup_of u) b) w c.in-Some.chunk = c.in-Some.ensures in
    let few = (facts u b c.requires).taken_few in
    let taken = works.0 in
    let n = c.requires.sized.nexts in
    let ok = b.next.ok.0 in
    let same = ap (λ (x : Vec ℕ Global). x.len) (entered_next b c.enter.new.state c.index-position.result.now w _ u.job c.enter.ensures) in omega arith

pub overflow_add-position-in-NotHeld : goal.overflow_add-position-in-NotHeld
overflow_add-position-in-NotHeld c =
    let u = c.args.setup.now in
    let b = c.args.state.now in
    let w = c.args.worker in
    let works : Works (setup_of u) (state_of (setup_of u) b) w c.in-Some.chunk = c.in-Some.ensures in
    let few = (facts u b c.requires).taken_few in
    let taken = works.0 in
    let at : c.index-position.result.now ≡ slice_index b.next.items c.in-Some.chunk = get_or_read b.next.items c.in-Some.chunk c.index-position.result.now (let n = c.requires.sized.nexts in omega arith) c.index-position.ensures 0 in
    let below = (next_position u b c.requires w c.in-Some.chunk works).0 in
    let most = c.requires.setup.positions in
    record { fits = omega arith }

pub index_mut-requires-in-NotHeld : goal.index_mut-requires-in-NotHeld
index_mut-requires-in-NotHeld c =
    let u = c.args.setup.now in
    let b = c.args.state.now in
    let w = c.args.worker in
    let works : Works (setup_of u) (state_of (setup_of u) b) w c.in-Some.chunk = c.in-Some.ensures in
    let few = (facts u b c.requires).taken_few in
    let taken = works.0 in
    let n = c.requires.sized.nexts in
    let ok = b.next.ok.0 in omega arith

pub returns-in-Faults : goal.returns-in-Faults
returns-in-Faults c =
    let u = c.args.setup.now in
    let b = c.args.state.now in
    let w = c.args.worker in
    let works : Works (setup_of u) (state_of (setup_of u) b) w c.in-Some.chunk = c.in-Some.ensures in
    let few = (facts u b c.requires).taken_few in
    let taken = works.0 in
    let at : c.index-position.result.now ≡ slice_index b.next.items c.in-Some.chunk = get_or_read b.next.items c.in-Some.chunk c.index-position.result.now (let n = c.requires.sized.nexts in omega arith) c.index-position.ensures 0 in
    let cell : slice_get (setup_of u).cells (slice_index b.next.items c.in-Some.chunk) ≡ Some (Err c.in-Faults.field-0) = ap (λ (k : ℕ). slice_get (setup_of u).cells k) (sym at) ∙ c.cell.ensures ∙ ap (λ (x : CellResult). Some (cell_of x)) c.in-Faults.is in
    (refl, (c.if-worker-setup.false, (c.in-Some.chunk, c.in-Faults.field-0, works, cell)))

pub returns-in-Value : goal.returns-in-Value
returns-in-Value c =
    let u = c.args.setup.now in
    let b = c.args.state.now in
    let w = c.args.worker in
    let works : Works (setup_of u) (state_of (setup_of u) b) w c.in-Some.chunk = c.in-Some.ensures in
    let few = (facts u b c.requires).taken_few in
    let taken = works.0 in
    let at : c.index-position.result.now ≡ slice_index b.next.items c.in-Some.chunk = get_or_read b.next.items c.in-Some.chunk c.index-position.result.now (let n = c.requires.sized.nexts in omega arith) c.index-position.ensures 0 in
    let cell : slice_get (setup_of u).cells (slice_index b.next.items c.in-Some.chunk) ≡ Some (Ok (Some c.deref.result.now)) = ap (λ (k : ℕ). slice_get (setup_of u).cells k) (sym at) ∙ c.cell.ensures ∙ ap (λ (x : CellResult). Some (cell_of x)) c.in-Value.is ∙ held_cell c.in-Value.value c.deref.result.now c.deref.ensures.value in
    let enters : Enters u.job b w (slice_index b.next.items c.in-Some.chunk) c.deref.result.now c.enter.new.state = subst (λ (k : ℕ). Enters u.job b w k c.deref.result.now c.enter.new.state) at c.enter.ensures in
    writes_value u b c.requires w c.in-Some.chunk c.deref.result.now c.enter.new.state _ c.if-worker-setup.false works cell enters (ap (λ (k : ℕ). set c.enter.new.state.next.items c.in-Some.chunk (k + 1)) at)

pub returns-in-NotHeld : goal.returns-in-NotHeld
returns-in-NotHeld c =
    let u = c.args.setup.now in
    let b = c.args.state.now in
    let w = c.args.worker in
    let works : Works (setup_of u) (state_of (setup_of u) b) w c.in-Some.chunk = c.in-Some.ensures in
    let few = (facts u b c.requires).taken_few in
    let taken = works.0 in
    let at : c.index-position.result.now ≡ slice_index b.next.items c.in-Some.chunk = get_or_read b.next.items c.in-Some.chunk c.index-position.result.now (let n = c.requires.sized.nexts in omega arith) c.index-position.ensures 0 in
    let cell : slice_get (setup_of u).cells (slice_index b.next.items c.in-Some.chunk) ≡ Some (Ok None) = ap (λ (k : ℕ). slice_get (setup_of u).cells k) (sym at) ∙ c.cell.ensures ∙ ap (λ (x : CellResult). Some (cell_of x)) c.in-NotHeld.is in
    passes_over u b c.requires w c.in-Some.chunk _ c.if-worker-setup.false works cell (ap (λ (k : ℕ). set b.next.items c.in-Some.chunk (k + 1)) at)
