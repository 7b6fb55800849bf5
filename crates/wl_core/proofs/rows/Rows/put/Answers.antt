use Rattle.std.proofs.Common.{◌≡◌, ℕ, ◌+◌, ◌*◌, ◌-◌, ◌≤◌, ℤ, List, ap, sym, ◌∙◌, length, arith}
use Rattle.std.proofs.lemmas.List.{with_items_is}
use borrow.Rule.Slice.PartMut.{put_mid}
use Rattle.wl_core.specs.Rows.{RowsValue}
use Rattle.wl_core.proofs.Buffers.{puts_row, length-written, later_row}
use Rattle.wl_core.proofs.rows.Rows.put.Goals as goal

pub returns : goal.returns
returns c =
    let w : ℕ = c.self.inside.width in
    let n : ℕ = c.self.inside.count in
    let at : ℕ = c.args.index * w in
    let k : ℕ = at + w - at in
    let width : w ≡ c.args.self.now.width = ap (λ (r : RowsValue). r.width) c.self.view_is in
    let count : n ≡ c.args.self.now.count = ap (λ (r : RowsValue). r.count) c.self.view_is in
    let k_is : k ≡ w = omega arith in
    let full : length c.self.inside.cells.items ≡ n * w = c.self.invariant in
    let room : at + w ≤ n * w = later_row c.args.index n w (omega (arith, count, c.requires.index)) in
    let long : length c.deref_mut.result.now ≡ c.self.inside.cells.len = c.deref_mut.ensures.len in
    let same : length c.deref_mut.result.now ≡ n * w = ap (λ (l : List ℤ). length l) c.deref_mut.ensures.value ∙ full in
    let part : length c.copy_from_slice.new.self ≡ k = ap (λ (l : List ℤ). length l) c.copy_from_slice.ensures.after ∙ c.requires.width ∙ sym width ∙ sym k_is in
    let after : List ℤ = put_mid at k c.deref_mut.result.now c.copy_from_slice.new.self in
    let written : length after ≡ c.self.inside.cells.len = length-written at k c.self.inside.cells.len c.deref_mut.result.now c.copy_from_slice.new.self long part (omega (arith, k_is, room, long, same)) in
    puts_row c.args.self.now w n c.args.index k c.self.inside.cells.items c.deref_mut.result.now c.copy_from_slice.new.self c.args.value.now _
    c.self.view_is c.deref_mut.ensures.value k_is c.copy_from_slice.ensures.after (with_items_is c.self.inside.cells after written) full c.requires.index c.requires.width
