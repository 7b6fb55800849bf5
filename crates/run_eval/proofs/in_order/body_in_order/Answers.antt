use Rattle.std.proofs.Common.{◌≡◌, rules, Ok, Err, Some, None, ap, sym, refl, subst}
use Rattle.counted_code.specs.Values.{give}
use Rattle.run_values.specs.Scopes.{current}
use Rattle.run_loops.specs.Loops.{IsPresent, body_cell, body_of, body_source, source_of_body, unreleased}
use Rattle.run_loops.specs.Running.{SameScopes, Told, ToldStop}
use Rattle.run_eval.proofs.CellTold.{present_told}
use Rattle.run_loops.proofs.Steps.{handed, no_scopes, stop_then}
use Rattle.run_eval.proofs.in_order.body_in_order.Goals as goal

pub returns-in_err-value-in-Some : goal.returns-in_err-value-in-Some
returns-in_err-value-in-Some c =
    let a = c.args in
    let ctx = a.context.now in
    let s = a.state.now in
    let e = current s.frames in
    let v = a.index.now in
    let form = a.form.now in
    let source : Some (body_source ctx e v (body_of c.in-Some.body)) ≡ source_of_body ctx e v a.body = ap (source_of_body ctx e v) (sym c.in-Some.is) in
    let st = c.run_cell.new.state in
    let stop = c.in_err-value-in-Some.field-0.0 in
    let is : c.from_residual.result ≡ Err stop = search rules in
    record {
      told = λ m at.
          handed IsPresent c.from_residual.result stop st (unreleased form (source_of_body ctx e v a.body) m) is
          (subst (λ o. ToldStop stop st (unreleased form o m)) source
          (stop_then stop st (body_cell ctx (body_of c.in-Some.body) form v e m) (λ w. give (Some w)) (c.in_err-value-in-Some.ensures.told m at)));
      scopes = no_scopes (SameScopes s.frames st.frames) c.from_residual.result stop is;
      lender = c.in_err-value-in-Some.ensures.lender;
    }

pub returns-in_ok-value-in-Some : goal.returns-in_ok-value-in-Some
returns-in_ok-value-in-Some c =
    let a = c.args in
    let ctx = a.context.now in
    let s = a.state.now in
    let e = current s.frames in
    let v = a.index.now in
    let form = a.form.now in
    let source : Some (body_source ctx e v (body_of c.in-Some.body)) ≡ source_of_body ctx e v a.body = ap (source_of_body ctx e v) (sym c.in-Some.is) in
    let st = c.run_cell.new.state in
    let value = c.in_ok-value-in-Some.value in
    record {
      told = λ m at.
          subst (λ o. Told IsPresent (Ok (Some value)) st (unreleased form o m)) source
          (present_told value st form (body_source ctx e v (body_of c.in-Some.body)) m (c.in_ok-value-in-Some.ensures.told m at));
      scopes = c.in_ok-value-in-Some.ensures.scopes;
      lender = c.in_ok-value-in-Some.ensures.lender;
    }

pub returns-in-None : goal.returns-in-None
returns-in-None c =
    let a = c.args in
    let ctx = a.context.now in
    let s = a.state.now in
    let e = current s.frames in
    let v = a.index.now in
    let form = a.form.now in
    let source : None ≡ source_of_body ctx e v a.body = ap (source_of_body ctx e v) (sym c.in-None.is) in
    record {
      told = λ m at. subst (λ o. Told IsPresent (Ok None) s (unreleased form o m)) source (refl, at);
      scopes = (refl, refl);
      lender = refl;
    }
