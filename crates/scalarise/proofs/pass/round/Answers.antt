use Rattle.std.proofs.Common.{ℕ, List, Option, refl, subst, map}
use Rattle.core_ir.specs.View.{fun_term}
use Rattle.scalarise.specs.Scalarised.{AllMerged}
use Rattle.scalarise.proofs.pass.round.Goals as goal

pub returns : goal.returns
returns c = record {
  groups = refl;
  main = refl;
  functions = subst (λ (calls : ℕ → List (Option (List ℕ))). AllMerged calls 0 (map fun_term c.args.core.functions.items) (map fun_term c.in_ok-functions.functions.items) c.in_ok-functions.merged)
      c.in_ok-called.ensures c.in_ok-functions.ensures;
}
