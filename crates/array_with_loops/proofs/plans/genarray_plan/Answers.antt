use Rattle.std.proofs.Common.{◌∙◌, ◌≡◌, ◌*◌, ap, sym, length, ◌++◌, rules, true}
use Rattle.std.specs.Prelude.{is_some}
use Rattle.sac_base.specs.Arrays.{size}
use Rattle.sac_base.specs.declared.form.Form.{Form}
use Rattle.sac_base.proofs.RowMajor.{size-append}
use Rattle.array_with_loops.proofs.CellSteps.{length_indices, some_small}
use Rattle.array_with_loops.proofs.plans.genarray_plan.Goals as goal

pub returns-clause-full : goal.returns-clause-full
returns-clause-full c =
    let d = c.args.default.now in
    let whole = c.in-Some-joined.ensures.value ∙ ap (λ s. c.in-Some.frame ++ s) c.shape.ensures in
    let some : is_some c.elements-else-is_none.result ≡ true = search rules in
    record {
      most = some_small _ _ _ c.elements-else-is_none.ensures some;
      all = ap (λ n. n * size c.form.result.shape) (ap length c.in_ok-indices.ensures ∙ length_indices c.in-Some.frame)
          ∙ ap (λ (f : Form). size c.in-Some.frame * size f.shape) c.form.ensures
          ∙ sym (size-append c.in-Some.frame d.shape) ∙ ap size (sym whole);
      stands = c.cells.ensures.array.full ∙ ap (λ (f : Form). size f.shape) (sym c.form.ensures);
    }
