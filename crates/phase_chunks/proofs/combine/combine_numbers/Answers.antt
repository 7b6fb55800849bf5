use Rattle.std.proofs.Common.{rules, pos, get_or, drop, ap, ◌∙◌, w32, to_z, of_z, FitsSigned}
use Rattle.std.specs.Prelude.{fold}
use Rattle.std.proofs.lemmas.Int.{to_z-of_z}
use Rattle.std.proofs.lemmas.List.{take_rest}
use Rattle.sac_base.specs.Verdict.{fold_op}
use Rattle.phase_chunks.proofs.Gathering.{numbers_behind, numbers_alone}
use Rattle.phase_chunks.proofs.combine.combine_numbers.Goals as goal

pub returns-then-held : goal.returns-then-held
returns-then-held c =
    let into = c.args.into.now in
    let fits : FitsSigned w32 c.fold_numbers.result = search rules in
    let fits_a : FitsSigned w32 (get_or into 0 (pos 0)) = search rules in
    numbers_behind c.args.op c.args.held into c.args.numbers.now _ c.if-held.true c.requires.one
    (to_z-of_z w32 c.fold_numbers.result fits ∙ c.fold_numbers.ensures ∙ ap (λ a. fold (fold_op c.args.op) a c.args.numbers.now) (to_z-of_z w32 (get_or into 0 (pos 0)) fits_a))

pub returns-else-held : goal.returns-else-held
returns-else-held c =
    let ns = c.args.numbers.now in
    let fits : FitsSigned w32 c.fold_numbers-else-held.result = search rules in
    let fits_a : FitsSigned w32 (get_or ns 0 (pos 0)) = search rules in
    numbers_alone c.args.op c.args.held c.args.into.now ns _ c.if-held.false c.requires.one c.requires.some
    (to_z-of_z w32 c.fold_numbers-else-held.result fits ∙ c.fold_numbers-else-held.ensures
    ∙ ap (λ rest. fold (fold_op c.args.op) (to_z w32 (of_z w32 (get_or ns 0 (pos 0)))) rest) (take_rest ns 1)
    ∙ ap (λ a. fold (fold_op c.args.op) a (drop 1 ns)) (to_z-of_z w32 (get_or ns 0 (pos 0)) fits_a))
