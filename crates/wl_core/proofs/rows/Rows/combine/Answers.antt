use Rattle.std.proofs.Common.{◌≡◌, ℕ, ◌+◌, ◌*◌, ◌-◌, ◌≤◌, ◌<◌, ℤ, List, take, drop, ap, sym, ◌∙◌, length, arith}
use Rattle.std.proofs.lemmas.List.{with_items_is}
use borrow.Rule.Slice.PartMut.{put_mid}
use Rattle.sac_base.specs.Verdict.{fold_op}
use Rattle.wl_core.specs.Machine.{combine}
use Rattle.wl_core.specs.Rows.{RowsValue, row_of}
use Rattle.wl_core.proofs.Buffers.{puts_row, length-written, later_row, length-combined, length_row}
use Rattle.wl_core.proofs.rows.Rows.combine.Goals as goal

pub returns : goal.returns
returns c =
    let w : ℕ = c.self.inside.width in
    let n : ℕ = c.self.inside.count in
    let at : ℕ = c.args.index * w in
    let k : ℕ = at + w - at in
    let was : RowsValue = record { width = w; count = n; cells = c.self.inside.cells.items } in
    let width : w ≡ c.args.self.now.width = ap (λ (r : RowsValue). r.width) c.self.view_is in
    let count : n ≡ c.args.self.now.count = ap (λ (r : RowsValue). r.count) c.self.view_is in
    let index : c.args.index < n = omega (arith, count, c.requires.index) in
    let k_is : k ≡ w = omega arith in
    let full : length c.self.inside.cells.items ≡ n * w = c.self.invariant in
    let room : at + w ≤ n * w = later_row c.args.index n w index in
    let long : length c.deref_mut.result.now ≡ c.self.inside.cells.len = c.deref_mut.ensures.len in
    let same : length c.deref_mut.result.now ≡ n * w = ap (λ (l : List ℤ). length l) c.deref_mut.ensures.value ∙ full in
    let row : take k (drop at c.deref_mut.result.now) ≡ row_of was c.args.index = (λ j. take (k_is j) (drop at (c.deref_mut.ensures.value j))) in
    let width_row : length (row_of was c.args.index) ≡ w = length_row was c.args.index full index in
    let value : List ℤ = combine c.args.op (row_of c.args.self.now c.args.index) c.args.value.now in
    let part : c.combine_into.new.into ≡ value = c.combine_into.ensures ∙ (λ j. combine c.args.op ((row ∙ ap (λ (r : RowsValue). row_of r c.args.index) c.self.view_is) j) c.args.value.now) in
    let width_value : length value ≡ c.args.self.now.width =
    length-combined (fold_op c.args.op) (row_of c.args.self.now c.args.index) c.args.value.now (c.requires.width ∙ sym width ∙ sym width_row ∙ ap (λ (r : RowsValue). length (row_of r c.args.index)) c.self.view_is)
    ∙ sym (ap (λ (r : RowsValue). length (row_of r c.args.index)) c.self.view_is) ∙ width_row ∙ width in
    let part_len : length c.combine_into.new.into ≡ k = ap (λ (l : List ℤ). length l) part ∙ width_value ∙ sym width ∙ sym k_is in
    let after : List ℤ = put_mid at k c.deref_mut.result.now c.combine_into.new.into in
    let written : length after ≡ c.self.inside.cells.len = length-written at k c.self.inside.cells.len c.deref_mut.result.now c.combine_into.new.into long part_len (omega (arith, k_is, room, long, same)) in
    puts_row c.args.self.now w n c.args.index k c.self.inside.cells.items c.deref_mut.result.now c.combine_into.new.into value _
    c.self.view_is c.deref_mut.ensures.value k_is part (with_items_is c.self.inside.cells after written) full c.requires.index width_value
