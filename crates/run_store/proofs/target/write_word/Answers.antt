use Rattle.std.proofs.Common.{rules, [], ◌∷◌, subst, sym, slice_set, w32, FitsSigned, arith}
use Rattle.std.proofs.lemmas.Int.{to_z-of_z}
use Rattle.run_store.specs.Targets.{IsWritten}
use Rattle.run_store.proofs.Targets.{word_written}
use Rattle.run_store.proofs.target.write_word.Goals as goal

pub returns : goal.returns
returns c =
    let fits : FitsSigned w32 c.args.n = search rules in
    subst (λ z. IsWritten c.args.start (c.args.n ∷ []) c.args.cells.now (slice_set c.args.cells.now c.args.start z)) (sym (to_z-of_z w32 c.args.n fits))
    (word_written c.args.cells.now c.args.start c.args.n (omega arith))
