use Rattle.std.proofs.Common.{◌≡◌, ℕ, ◌<◌, Bool, true, false, cond, get_or, length, ℤ, List, Option, Some, None, Vec, Global, sym, ap, ◌∙◌, subst, arith}
use Rattle.std.specs.Prelude.{IfSome}
use Rattle.std.proofs.lemmas.List.{get_or_read}
use Rattle.wl_core.specs.Machine.{combine, both}
use Rattle.wl_core.specs.Rows.{PartialsValue, row_of, partial_of, items_of}
use Rattle.wl_core.proofs.Combining.{gathered, gathered_is, gathered_more, gathered_skips}
use Rattle.wl_core.proofs.partials.Partials.combined.Goals.{then-index+in_ok-whole, else-index}
use Rattle.wl_core.proofs.partials.Partials.combined.Goals as goal

other_width : (o : Option (Vec ℤ Global)) (m n : ℕ) → m ≡ n → IfSome o (λ v. length v.items ≡ m) → IfSome o (λ v. length v.items ≡ n)
other_width o m n e = subst (λ (k : ℕ). IfSome o (λ v. length v.items ≡ k)) e

pub combined_with-requires : goal.combined_with-requires
combined_with-requires c =
    let width : c.self.inside.rows.width ≡ c.args.self.now.rows.width = ap (λ (p : PartialsValue). p.rows.width) c.self.view_is in
    other_width c.loop-worker.whole c.args.self.now.rows.width (length c.row.result.now) (sym width ∙ sym c.row.ensures.width) c.loop-worker.invariant.width

pub loop-worker-preserved : goal.loop-worker-preserved
loop-worker-preserved c =
    let p = c.args.self.now in
    let k = c.loop-worker.worker in
    let by = combine c.args.op in
    let width : c.self.inside.rows.width ≡ p.rows.width = ap (λ (p : PartialsValue). p.rows.width) c.self.view_is in
    let below : k < length c.self.inside.started.items = let l = c.len-worker-end.ensures in let t = c.loop-worker-test.true in let ok = c.self.inside.started.ok.0 in omega arith in
    let read : c.index.result.now ≡ get_or c.self.inside.started.items k false = get_or_read c.self.inside.started.items k c.index.result.now below c.index.ensures false in
    let place : cond (get_or c.self.inside.started.items k false) (Some (row_of c.self.inside.rows k)) None ≡ partial_of p k = ap (λ (q : PartialsValue). partial_of q k) c.self.view_is in
    elim c.if-index.branch [
      | then-index+in_ok-whole w ↦
          (let began : get_or c.self.inside.started.items k false ≡ true = sym read ∙ w.if-index.true in
          let mine : Some w.row.result.now ≡ partial_of p k = ap (λ (l : List ℤ). Some l) w.row.ensures.cells ∙ sym (ap (λ (b : Bool). cond b (Some (row_of c.self.inside.rows k)) None) began) ∙ place in
          let value : items_of w.in_ok-whole.whole ≡ both by (items_of c.loop-worker.whole) (Some w.row.result.now) = w.in_ok-whole.ensures.value in
          record {
            value = ap items_of w.whole-is ∙ value ∙ (λ j. both by (c.loop-worker.invariant.value j) (mine j)) ∙ sym (gathered_more by (partial_of p) k);
            width = subst (λ (o : Option (Vec ℤ Global)). IfSome o (λ v. length v.items ≡ p.rows.width)) (sym w.whole-is) (other_width w.in_ok-whole.whole (length w.row.result.now) p.rows.width (w.row.ensures.width ∙ width) w.in_ok-whole.ensures.width);
          })
      | else-index w ↦
          (let fresh : get_or c.self.inside.started.items k false ≡ false = sym read ∙ w.if-index.false in
          let none : partial_of p k ≡ None = sym place ∙ ap (λ (b : Bool). cond b (Some (row_of c.self.inside.rows k)) None) fresh in
          record {
            value = ap items_of w.whole-is ∙ c.loop-worker.invariant.value ∙ sym (gathered_skips by (partial_of p) k none);
            width = subst (λ (o : Option (Vec ℤ Global)). IfSome o (λ v. length v.items ≡ p.rows.width)) (sym w.whole-is) c.loop-worker.invariant.width;
          })
    ]

pub returns : goal.returns
returns c =
    let p = c.args.self.now in
    let count : c.self.inside.rows.count ≡ p.rows.count = ap (λ (p : PartialsValue). p.rows.count) c.self.view_is in
    let all : c.loop-worker.worker ≡ p.rows.count = let l = c.len-worker-end.ensures in let t = c.loop-worker-test.false in let a = c.loop-worker.auto in let ok = c.self.inside.started.ok.0 in let i = c.self.invariant in omega arith in
    c.loop-worker.invariant.value ∙ ap (gathered (combine c.args.op) (partial_of p)) all ∙ sym (gathered_is (combine c.args.op) (partial_of p) p.rows.count)
