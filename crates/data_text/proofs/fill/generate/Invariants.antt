use Rattle.std.proofs.Common.{◌≡◌, drop}
use Rattle.data_text.specs.Generated.{generated_all}
use Rattle.data_text.proofs.FillFacts.{made_before}
use Rattle.data_text.proofs.fill.generate.Given as goal

abbrev pub invariant-loop-ty : goal.invariant-loop-ty
invariant-loop-ty l = (made_before l.arrays.items (generated_all (drop l.ty-index l.params) l.parameter l.n) ≡ generated_all l.params 0 l.n) × (l.parameter ≡ l.ty-index)
