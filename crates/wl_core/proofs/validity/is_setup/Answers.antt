use Rattle.std.proofs.Common.{◌≡◌, ℕ, ◌<◌, ◌≤◌, List, length, map, get_or, Some, refl, sym, ap, ◌∙◌, subst, ⊎_elim, arith}
use Rattle.std.specs.Prelude.{slice_get}
use Rattle.sac_base.specs.Arrays.{MOST}
use Rattle.std.proofs.lemmas.Bool.{true≢false, cases_lt}
use Rattle.std.proofs.lemmas.List.{length-map}
use Rattle.wl_core.specs.declared.setup.CellResult.{CellResult}
use Rattle.wl_core.specs.Machine.{CellValue, CellFits, CountsFit}
use Rattle.wl_core.specs.Reading.{setup_of, cell_of}
use Rattle.wl_core.proofs.States.{setup_is, cells_fit, cell_is, no_cell, some_same}
use Rattle.wl_core.proofs.validity.is_setup.Goals as goal

pub returns-then-not-cell_fits : goal.returns-then-not-cell_fits
returns-then-not-cell_fits c =
    let items = c.args.setup.now.cells.items in
    let i = c.loop-cell.cell-index in
    let same : c.deref-cell-items.result.now ≡ items = c.deref-cell-items.ensures.value in
    let lt : i < length items = subst (λ (l : List CellResult). i < length l) same c.loop-cell-test.true in
    let read : c.cell-item.result ≡ get_or items i c.cell-item.result = c.cell-item.is ∙ ap (λ (l : List CellResult). get_or l i c.cell-item.result) same in (
      λ t. absurd (true≢false (sym t)),
      λ is. absurd (true≢false (sym (c.cell_fits.ensures.1 (cells_fit (setup_of c.args.setup.now) c.value_width-width.result is (c.value_width-width.ensures is.one_length) i (cell_of c.cell-item.result) (cell_is items i c.cell-item.result lt read))) ∙ c.if-not-cell_fits.true)),
    )

pub loop-cell-preserved : goal.loop-cell-preserved
loop-cell-preserved c p x below at =
    let items = c.args.setup.now.cells.items in
    let i = c.loop-cell.cell-index in
    let same : c.deref-cell-items.result.now ≡ items = c.deref-cell-items.ensures.value in
    let lt : i < length items = subst (λ (l : List CellResult). i < length l) same c.loop-cell-test.true in
    let read : c.cell-item.result ≡ get_or items i c.cell-item.result = c.cell-item.is ∙ ap (λ (l : List CellResult). get_or l i c.cell-item.result) same in
    ⊎_elim (λ (l : p < i). c.loop-cell.invariant p x l at)
    (λ (g : i ≤ p). let e : p ≡ i = omega arith in
    let here : cell_of c.cell-item.result ≡ x = some_same (sym (cell_is items i c.cell-item.result lt read) ∙ ap (λ (k : ℕ). slice_get (map cell_of items) k) (sym e) ∙ at) in
    subst (λ (y : CellValue). CellFits c.args.setup.now.job c.value_width-width.result y) here (c.cell_fits.ensures.0 c.if-not-cell_fits.false))
    (cases_lt p i)

pub returns : goal.returns
returns c =
    let u = c.args.setup.now in
    let i = c.loop-cell.cell-index in
    let items = u.cells.items in
    let same : c.deref-cell-items.result.now ≡ items = c.deref-cell-items.ensures.value in
    let le : length items ≤ i = subst (λ (l : List CellResult). length l ≤ i) same c.loop-cell-test.false in
    let fits : (p : ℕ) (x : CellValue) → slice_get (setup_of u).cells p ≡ Some x → CellFits u.job c.value_width-width.result x =
    (λ p x at. ⊎_elim (λ (l : p < i). c.loop-cell.invariant p x l at) (λ (g : i ≤ p). absurd (no_cell items p x (omega arith) at)) (cases_lt p i)) in
    let counts : CountsFit u.counts.items = subst CountsFit c.deref.ensures.value (c.counts_fit.ensures.0 c.if-not-counts_fit.false) in
    let positions : length (setup_of u).cells ≤ MOST = let l = length-map items cell_of in let n = c.if-positions-gt-MOST_ELEMENTS.false in let e = c.len-positions.ensures in let ok = u.cells.ok.0 in omega arith in
    let size : 1 ≤ u.cuts_size = let z = c.if-setup-eq0.false in omega arith in
    (λ t. setup_is (setup_of u) c.value_width-width.result size positions c.if-setup-gt-MOST_WORKERS.false counts (c.takes_base.ensures.0 c.if-not-takes_base.false) fits, λ is. refl)
