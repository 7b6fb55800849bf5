use Rattle.std.proofs.Common.{◌≡◌, Some, sym, subst, ◌∙◌, rules, FitsSigned, w32}
use Rattle.std.proofs.lemmas.Int.{to_z-of_z}
use Rattle.counted_code.specs.Values.{Small, read}
use Rattle.run_values.specs.Shown.{value_of, base_of, WordOf}
use Rattle.sac_base.specs.Arrays.{scalar}
use Rattle.sac_base.specs.WithLoops.{combined}
use Rattle.run_loops.specs.Loops.{array_of}
use Rattle.run_loops.proofs.folds.sum_with.Goals as goal

pub returns-in-Some : goal.returns-in-Some
returns-in-Some c = λ m stands.
    let v = value_of c.args.value in
    let n : FitsSigned w32 c.in-Word.n = search rules in
    let m' : FitsSigned w32 c.in-Some.m = search rules in
    let word : v ≡ Small (scalar (base_of v) c.in-Some.m) = subst (WordOf v) c.in-Some.is c.in_ok-m-in-Word.ensures in
    c.word_with.ensures (base_of v)
    ∙ (λ i. combined c.args.op (scalar c.in-Word.base (to_z-of_z w32 c.in-Word.n n i)) (Some (scalar (base_of v) (to_z-of_z w32 c.in-Some.m m' i))))
    ∙ (λ i. combined c.args.op (array_of (sym c.in-Word.is i)) (Some (read m (sym word i))))
