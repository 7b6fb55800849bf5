use Rattle.std.proofs.Common.{arith, ◌≡◌, ◌≤◌, ◌∙◌, sym, ap, subst, length, get_or, drop, pos, ℤ, List, ℕ, ◌++◌, to_z, of_z, w32}
use Rattle.std.specs.Prelude.{unsigned_abs}
use Rattle.std.specs.Fmt.{decimal}
use Rattle.std.specs.List.{flat_map}
use Rattle.std.proofs.lemmas.Bool.Decides.{nat_tests}
use Rattle.std.proofs.lemmas.Int.{ints, to_z-of_z}
use Rattle.data_text.specs.Printed.{Part, Appends, further_extent}
use Rattle.data_text.proofs.AppendFacts.{stops, part_before, then_appends, commas_are}
use Rattle.data_text.proofs.print.push_extents.Goals as goal

pub returns-in_err-push_natural : goal.returns-in_err-push_natural
returns-in_err-push_natural c =
    let xs = c.args.extents.now in
    let some : 1 ≤ length xs = grind (arith, nat_tests, c.is_empty.ensures, c.if-is_empty.false) in
    let first : ℤ = get_or xs 0 (pos 0) in
    let whole : to_z w32 (of_z w32 first) ≡ first = grind (arith, ints, to_z-of_z) in
    let value : c.from.result ≡ unsigned_abs first = c.from.ensures ∙ c.unsigned_abs.ensures.value ∙ ap unsigned_abs whole in
    let part = subst (λ (n : ℕ). Part c.args.into.now.items c.push_natural.new.into.items (decimal n)) value c.in_err-push_natural.ensures in
    stops c.from_residual.result c.from_residual.ensures.0
    (subst (λ (t : List ℕ). Part c.args.into.now.items c.push_natural.new.into.items t) (sym (commas_are xs some)) (part_before (flat_map further_extent (drop 1 xs)) part))

pub returns : goal.returns
returns c =
    let xs = c.args.extents.now in
    let some : 1 ≤ length xs = grind (arith, nat_tests, c.is_empty.ensures, c.if-is_empty.false) in
    let first : ℤ = get_or xs 0 (pos 0) in
    let whole : to_z w32 (of_z w32 first) ≡ first = grind (arith, ints, to_z-of_z) in
    let value : c.from.result ≡ unsigned_abs first = c.from.ensures ∙ c.unsigned_abs.ensures.value ∙ ap unsigned_abs whole in
    let more = subst (λ (ys : List ℤ). Appends c.push_natural.new.into.items c.push_rest.new.into.items c.push_rest.result (flat_map further_extent ys)) c.split_at.ensures.back c.push_rest.ensures in
    let before = c.in_ok-push_natural.ensures ∙ ap (λ n. c.args.into.now.items ++ decimal n) value in
    subst (λ (t : List ℕ). Appends c.args.into.now.items c.push_rest.new.into.items c.push_rest.result t) (sym (commas_are xs some))
    (then_appends c.args.into.now.items c.push_natural.new.into.items c.push_rest.new.into.items (decimal (unsigned_abs first)) (flat_map further_extent (drop 1 xs)) c.push_rest.result before more)
