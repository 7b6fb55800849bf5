use Rattle.std.proofs.Common.{◌≡◌, ◌+◌, ◌-◌, ◌*◌, ◌++◌, ◌∙◌, ap, sym, arith, refl, ℕ, Bool, true, false, take, drop, Some}
use Rattle.std.specs.Prelude.{IsTrue}
use Rattle.sac_base.specs.Arrays.{ArrayValue}
use Rattle.array_with_loops.specs.Cells.{cell_from}
use Rattle.array_with_loops.proofs.finish.add_cell.Goals as goal

cell_there : (old : Bool) (background : ArrayValue) (n place : ℕ) (cell : ArrayValue) → cell_from old background n place (Some cell) ≡ cell.cells
cell_there true background n place cell = refl
cell_there false background n place cell = refl

pub overflow_mul-start : goal.overflow_mul-start
overflow_mul-start c =
    let old : IsTrue c.args.old = c.if-old.true in
    let h = c.requires old in
    omega (arith, c.cells-stands.ensures.array.most, c.cells-stands.ensures.array.full)

pub overflow_add-end : goal.overflow_add-end
overflow_add-end c =
    let old : IsTrue c.args.old = c.if-old.true in
    let h = c.requires old in
    omega (arith, c.cells-stands.ensures.array.most, c.cells-stands.ensures.array.full)

pub returns-in_ok-extend_from_slice-in-Some : goal.returns-in_ok-extend_from_slice-in-Some
returns-in_ok-extend_from_slice-in-Some c =
    let before = c.args.cells.now.items in
    let bg = c.args.background.now in
    c.in_ok-extend_from_slice-in-Some.ensures.items
    ∙ ap (λ xs. before ++ xs) (c.cells.ensures.value ∙ sym (cell_there c.args.old bg c.args.size c.args.place c.in-Some.cell))
    ∙ ap (λ o. before ++ cell_from c.args.old bg c.args.size c.args.place o) (sym c.in-Some.is)

pub returns-in_ok-extend_from_slice-in-None : goal.returns-in_ok-extend_from_slice-in-None
returns-in_ok-extend_from_slice-in-None c =
    let before = c.args.cells.now.items in
    let bg = c.args.background.now in
    let n = c.args.size in
    let start = c.args.place * n in
    let count : start + n - start ≡ n = omega arith in
    c.in_ok-extend_from_slice-in-None.ensures.items
    ∙ (λ i. before ++ take (count i) (drop start (c.cells-stands.ensures.value i)))
    ∙ (λ i. before ++ cell_from (sym c.if-old.true i) bg n c.args.place (sym c.in-None.is i))

pub returns-in_ok-extend_from_slice-in-None-2 : goal.returns-in_ok-extend_from_slice-in-None-2
returns-in_ok-extend_from_slice-in-None-2 c =
    let before = c.args.cells.now.items in
    let bg = c.args.background.now in
    c.in_ok-extend_from_slice-in-None-2.ensures.items
    ∙ ap (λ xs. before ++ xs) c.cells-stands.ensures.value
    ∙ (λ i. before ++ cell_from (sym c.if-old.false i) bg c.args.size c.args.place (sym c.in-None.is i))
