use Rattle.std.proofs.Common.{◌≡◌, ℕ, Some, Err, refl, sym, ap, ◌∙◌, arith}
use Rattle.std.specs.Prelude.{slice_get, slice_index}
use Rattle.std.proofs.lemmas.List.{get_or_read, length-map}
use Rattle.wl_core.specs.Reading.{setup_of, state_of, cell_of}
use Rattle.wl_core.specs.declared.setup.CellResult.{CellResult}
use Rattle.wl_core.specs.Machine.{CellValue, Works}
use Rattle.wl_core.proofs.States.{facts}
use Rattle.wl_core.proofs.Moves.{stops_chunk, next_position, is_value}
use Rattle.wl_core.proofs.events.stop.Goals as goal

pub index-requires : goal.index-requires
index-requires c =
    let u = c.args.setup.now in
    let b = c.args.state.now in
    let w = c.args.worker in
    let works : Works (setup_of u) (state_of (setup_of u) b) w c.in-Some.chunk = c.in-Some.ensures in
    let few = (facts u b c.requires).taken_few in
    let taken = works.0 in
    let n = c.requires.sized.nexts in
    let ok = b.next.ok.0 in omega arith

pub cell-requires : goal.cell-requires
cell-requires c =
    let u = c.args.setup.now in
    let b = c.args.state.now in
    let w = c.args.worker in
    let works : Works (setup_of u) (state_of (setup_of u) b) w c.in-Some.chunk = c.in-Some.ensures in
    let few = (facts u b c.requires).taken_few in
    let taken = works.0 in
    let at : c.index.result.now ≡ slice_index b.next.items c.in-Some.chunk = get_or_read b.next.items c.in-Some.chunk c.index.result.now (let n = c.requires.sized.nexts in omega arith) c.index.ensures 0 in
    let below = (next_position u b c.requires w c.in-Some.chunk works).0 in
    let len = length-map u.cells.items cell_of in omega arith

pub index_mut-requires : goal.index_mut-requires
index_mut-requires c =
    let u = c.args.setup.now in
    let b = c.args.state.now in
    let w = c.args.worker in
    let works : Works (setup_of u) (state_of (setup_of u) b) w c.in-Some.chunk = c.in-Some.ensures in
    let few = (facts u b c.requires).taken_few in
    let taken = works.0 in
    let n = c.requires.sized.stops in
    let ok = b.stopped.ok.0 in omega arith

pub returns-in-Faults : goal.returns-in-Faults
returns-in-Faults c =
    let u = c.args.setup.now in
    let b = c.args.state.now in
    let w = c.args.worker in
    let works : Works (setup_of u) (state_of (setup_of u) b) w c.in-Some.chunk = c.in-Some.ensures in
    let few = (facts u b c.requires).taken_few in
    let taken = works.0 in
    let at : c.index.result.now ≡ slice_index b.next.items c.in-Some.chunk = get_or_read b.next.items c.in-Some.chunk c.index.result.now (let n = c.requires.sized.nexts in omega arith) c.index.ensures 0 in
    let cell : slice_get (setup_of u).cells (slice_index b.next.items c.in-Some.chunk) ≡ Some (Err c.in-Faults.field-0) = ap (λ (k : ℕ). slice_get (setup_of u).cells k) (sym at) ∙ c.cell.ensures ∙ ap (λ (x : CellResult). Some (cell_of x)) c.in-Faults.is in
    stops_chunk u b c.requires w c.in-Some.chunk c.in-Faults.field-0 _ c.if-worker-setup.false works cell refl

pub returns-in_default-cell : goal.returns-in_default-cell
returns-in_default-cell c =
    let u = c.args.setup.now in
    let b = c.args.state.now in
    let w = c.args.worker in
    let works : Works (setup_of u) (state_of (setup_of u) b) w c.in-Some.chunk = c.in-Some.ensures in
    let few = (facts u b c.requires).taken_few in
    let taken = works.0 in
    let at : c.index.result.now ≡ slice_index b.next.items c.in-Some.chunk = get_or_read b.next.items c.in-Some.chunk c.index.result.now (let n = c.requires.sized.nexts in omega arith) c.index.ensures 0 in
    let value = is_value c.cell.result.now c.in_default-cell.not-Faults in
    (refl, (c.if-worker-setup.false, (c.in-Some.chunk, value.0, works, ap (λ (k : ℕ). slice_get (setup_of u).cells k) (sym at) ∙ c.cell.ensures ∙ ap (λ (x : CellValue). Some x) value.1)))
