use Rattle.std.proofs.Common.{ℕ, List, Option, refl, subst, map}
use Rattle.core_ir.specs.View.{fun_term}
use Rattle.with_norm.specs.Normed.{AllNormed}
use Rattle.with_norm.proofs.pass.round.Goals as goal

pub returns : goal.returns
returns c = record {
  signatures = c.in_ok-signatures.signatures;
  has = c.in_ok-signatures.ensures.has;
  only = c.in_ok-signatures.ensures.only;
  groups = refl;
  main = refl;
  functions = subst (λ (calls : ℕ → List (Option (List ℕ))). AllNormed calls c.in_ok-signatures.signatures 0 (map fun_term c.args.core.functions.items) (map fun_term c.in_ok-functions.functions.items) c.in_ok-functions.replaced)
      c.in_ok-called.ensures c.in_ok-functions.ensures;
}
