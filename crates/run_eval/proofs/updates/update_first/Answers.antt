use Rattle.std.proofs.Common.{List, [], ◌∷◌, drop, take, Option, refl, sym, subst}
use Rattle.std.specs.Prelude.{IfSome}
use Rattle.counted_code.specs.declared.tree.CodeStep.{CodeStep}
use Rattle.counted_code.specs.declared.tree.CodeStep.TheVariants.{Bind}
use Rattle.run_eval.specs.Updates.{ReleasesAt}
use Rattle.run_loops.specs.Running.{Reaches}
use Rattle.run_store.specs.Updates.{IsUpdated}
use Rattle.run_values.specs.declared.value.RunValue.{RunValue}
use Rattle.run_values.specs.Scopes.{current}
use Rattle.run_eval.proofs.Replacing.{front, rest_of, update_reaches}
use Rattle.run_eval.proofs.updates.update_first.Goals as goal

pub returns-clause-made : goal.returns-clause-made
returns-clause-made c context m at some =
    let s = c.args.state.now in
    let steps = c.args.steps.now in
    let b = c.in-Some.binding.now in
    let r = c.in-Replace in
    let n = c.in-Some-release_place.releases in
    let heap = c.update_element.new.heap in
    let t = record s { frames = c.bind.new.self; heap = heap } in
    let updated = subst (λ (o : Option RunValue). IfSome o (λ v. IsUpdated c.get-array.result c.get-index.result c.get-part.result v heap m)) c.in-Some-2.is (c.in_ok-value.ensures.told m at.heap) in
    let released = subst (λ (rest : List CodeStep). ReleasesAt (current s.frames) c.in-Some-other_target.target r.array rest n) (rest_of 1 steps) c.in-Some-release_place.ensures.released in
    subst (λ (first : List CodeStep). Reaches context first s m [] t) (sym (front n (Bind b) (drop 1 steps) steps c.in-Some.ensures))
    (update_reaches context b r.array r.index r.part c.in-Some-other_target.target s t m c.get-array.result c.get-index.result c.get-part.result c.in-Some-2.value
    c.get-array.ensures c.get-index.ensures c.get-part.ensures updated r.is c.in-Some-other_target.ensures (drop 1 steps) n released c.in_ok-bind.ensures.current refl at)
