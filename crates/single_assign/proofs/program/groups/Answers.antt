use Rattle.std.proofs.Common.{rules, drop_of_length-le, get_or, ◌≡◌, ◌<◌, ◌+◌, sym, ap, ◌∙◌, length, drop, map, replicate, Vec, Global, ℕ, suc, [], arith}
use Rattle.std.proofs.lemmas.List.{drop_more, length-map, length-replicate}
use Rattle.sac_ast.specs.View.{function, functions}
use Rattle.core_scopes.specs.Looks.{texts}
use Rattle.single_assign.specs.Functions.{with_place}
use Rattle.single_assign.proofs.Groups.{as_many, joined, joined_first, joined_last, joined_next}
use Rattle.single_assign.proofs.program.groups.Goals as goal

pub loop-k-init : goal.loop-k-init
loop-k-init c =
    let fs = functions c.args.functions.now in
    let names = texts c.args.names.now.keys in
    let made = c.in_ok-groups.ensures in
    let count : c.len.result ≡ length names = c.len.ensures.len ∙ sym (length-map c.args.names.now.keys (λ k. k.now)) in (
      sym (length-map c.in_ok-groups.groups.items (λ (g : Vec ℕ Global). g.items)) ∙ ap length made ∙ length-replicate c.len.result [] ∙ c.len.ensures.len,
      ap (joined fs 0 names) (made ∙ ap (λ n. replicate n []) count) ∙ joined_first fs names,
    )

pub loop-k-preserved : goal.loop-k-preserved
loop-k-preserved c =
    let all = c.args.functions.now in
    let k = c.loop-k.k in
    let names = texts c.args.names.now.keys in
    let items = λ (g : Vec ℕ Global). g.items in
    let old = map items c.loop-k.groups.items in
    let new = map items c.add_place.new.groups.items in
    let some = c.index-functions-k.result in
    let item = get_or all k some in
    let rest = functions (drop (k + 1) all) in
    let below : k < length all = search rules in
    let one : k + 1 ≡ suc k = omega arith in
    let as_names : length old ≡ length names =
    length-map c.loop-k.groups.items items ∙ c.loop-k.invariant.0 ∙ sym (length-map c.args.names.now.keys (λ n. n.now)) in
    let put : new ≡ with_place (function item).name k names old =
    c.in_ok-add_place.ensures ∙ (λ i. with_place (c.as_str.ensures.bytes i) (c.in_ok-place.ensures i) names old) in (
      sym (length-map c.add_place.new.groups.items items) ∙ ap length c.in_ok-add_place.ensures ∙ as_many _ _ names old as_names ∙ length-map c.loop-k.groups.items items ∙ c.loop-k.invariant.0,
      ap (joined rest (k + 1) names) put
          ∙ (λ i. joined rest (one i) names (with_place (function item).name k names old))
          ∙ joined_next (function item) rest k names old
          ∙ (λ i. joined (functions (sym (drop_more all k some below) i)) k names old)
          ∙ c.loop-k.invariant.1,
    )

pub returns : goal.returns
returns c =
    let all = c.args.functions.now in
    let k = c.loop-k.k in
    let names = texts c.args.names.now.keys in
    let items = λ (g : Vec ℕ Global). g.items in
    let groups = map items c.loop-k.groups.items in
    let as_names : length groups ≡ length names =
    length-map c.loop-k.groups.items items ∙ c.loop-k.invariant.0 ∙ sym (length-map c.args.names.now.keys (λ n. n.now)) in
    sym (joined_last k names groups as_names)
    ∙ (λ i. joined (functions (sym (drop_of_length-le all c.loop-k-test.false) i)) k names groups)
    ∙ c.loop-k.invariant.1
