use Rattle.std.proofs.Common.{◌≡◌, ℕ, suc, ◌+◌, ◌<◌, ◌≤◌, ℤ, true, false, List, [], ◌∷◌, ◌++◌, ◌∙◌, ap, sym, refl, length, drop, get_or, map, add-one, arith, rules, Option, Some, None, FitsSigned, w32, to_z, of_z}
use Rattle.std.specs.Prelude.{◌==◌, if◌then◌else◌}
use Rattle.std.proofs.lemmas.Bool.Decides.{nat_tests}
use Rattle.std.proofs.lemmas.Int.{to_z-of_z}
use Rattle.std.proofs.lemmas.List.{drop_more, drop_all}
use Rattle.core_ir.specs.declared.tree.Var.{Var}
use Rattle.core_loops.specs.Indices.{IndexFact, Component, Other, components_from, prefixed, row_fact}
use Rattle.index_table.specs.declared.relation.Relation.{Relation}
use Rattle.index_table.specs.declared.relation.Relation.TheVariants as relation
use Rattle.index_table.specs.Numbers.{behind}
use Rattle.index_table.specs.Table.{index_of, indices_of}
use Rattle.index_table.proofs.NumberFacts.{row_turn, row_ends, row_whole, row_short}
use Rattle.index_table.proofs.relations.row.Goals.{in_default-via-in-Component+else-axis-k, in_default-via-in_default}
use Rattle.index_table.proofs.relations.row.Goals as goal

same : (j k : ℕ) → j ≡ k → (j == k) ≡ true
same j k e = grind (arith, nat_tests)

differs : (j k : ℕ) → (j ≡ k → ⊥) → (j == k) ≡ false
differs j k e = grind (arith, nat_tests)

module _ (m : Var → IndexFact) (xs : List Var) (k : ℕ) (ns : List ℤ) (whole : Option (List ℤ)) (inv : behind ns (components_from k (map m (drop k xs))) ≡ whole) where
  here : (d : Var) → k < length xs → behind ns (components_from k (m (get_or xs k d) ∷ map m (drop (k + 1) xs))) ≡ whole
  here d inside = (λ i. behind ns (components_from k (map m (sym (drop_more xs k d inside) i)))) ∙ inv

  ended : length xs ≤ k → behind ns (Some []) ≡ whole
  ended over = (λ i. behind ns (components_from k (map m (sym (drop_all k xs over) i)))) ∙ inv

  -- a component in its place
  turn : (d : Var) (f : IndexFact) (j : ℕ) (z y : ℤ) (more : List ℤ) → k < length xs → f ≡ m (get_or xs k d) → f ≡ Component j z → j ≡ k → y ≡ z → more ≡ ns ++ y ∷ []
      → behind more (components_from (k + 1) (map m (drop (k + 1) xs))) ≡ whole
  turn d f j z y more inside is there place read e =
      (λ i. behind (e i) (components_from (add-one k i) (map m (drop (k + 1) xs))))
      ∙ (λ i. behind (ns ++ read i ∷ []) (components_from (suc k) (map m (drop (k + 1) xs))))
      ∙ row_turn ns k j z (m (get_or xs k d)) (map m (drop (k + 1) xs)) whole (sym is ∙ there) (same j k place) (here d inside)

  -- something else in its place
  stops : (d : Var) (f : IndexFact) (n : ℕ) → k < length xs → f ≡ m (get_or xs k d) → components_from k (f ∷ map m (drop (k + 1) xs)) ≡ None → Other ≡ row_fact n whole
  stops d f n inside is e =
      row_ends ns n k (m (get_or xs k d)) (map m (drop (k + 1) xs)) whole ((λ i. components_from k (sym is i ∷ map m (drop (k + 1) xs))) ∙ e) (here d inside)

displaced : (k j : ℕ) (z : ℤ) (f : IndexFact) (rest : List IndexFact) → f ≡ Component j z → (j ≡ k → ⊥) → components_from k (f ∷ rest) ≡ None
displaced k j z f rest e h =
    (λ i. components_from k (e i ∷ rest)) ∙ (λ i. if differs j k h i then prefixed z (components_from (suc k) rest) else None)

no_component : (k : ℕ) (r : Relation) (rest : List IndexFact) → ((j : ℕ) (z : ℤ) → r ≡ relation.Component j z → ⊥) → components_from k (index_of r ∷ rest) ≡ None
no_component k (relation.Plus ns) rest h = refl
no_component k (relation.Component j z) rest h = absurd (h j z refl)
no_component k relation.Other rest h = refl

pub loop-k-preserved : goal.loop-k-preserved
loop-k-preserved c =
    let z = c.in-Component.plus in
    let fits : FitsSigned w32 z = search rules in
    turn (indices_of c.args.indices.now) c.args.xs.now c.loop-k.k c.loop-k.numbers.items _ c.loop-k.invariant
    _ (index_of c.at.result.now) c.in-Component.axis z (to_z w32 (of_z w32 z)) c.push.new.self.items c.loop-k-test.true c.at.ensures (ap index_of c.in-Component.is) c.if-axis-k.true (to_z-of_z w32 z fits) c.in_ok-push-in-Component.ensures.items

pub returns-in_default : goal.returns-in_default
returns-in_default c = elim c.in_default.branch [
  | in_default-via-in-Component+else-axis-k w ↦
      stops (indices_of c.args.indices.now) c.args.xs.now c.loop-k.k c.loop-k.numbers.items _ c.loop-k.invariant _ (index_of c.at.result.now) c.args.axes c.loop-k-test.true c.at.ensures
      (displaced c.loop-k.k w.in-Component.axis w.in-Component.plus (index_of c.at.result.now) _ (ap index_of w.in-Component.is) w.if-axis-k.false)
  | in_default-via-in_default w ↦
      stops (indices_of c.args.indices.now) c.args.xs.now c.loop-k.k c.loop-k.numbers.items _ c.loop-k.invariant _ (index_of c.at.result.now) c.args.axes c.loop-k-test.true c.at.ensures
      (no_component c.loop-k.k c.at.result.now _ w.in_default.not-Component)
]

pub returns-then-len-axes : goal.returns-then-len-axes
returns-then-len-axes c =
    let ns = c.loop-k.numbers.items in
    let len : length ns ≡ c.args.axes = omega (arith, c.if-len-axes.true, c.len.ensures, c.loop-k.numbers.ok.0) in
    row_whole ns c.args.axes _ (ended (indices_of c.args.indices.now) c.args.xs.now c.loop-k.k ns _ c.loop-k.invariant c.loop-k-test.false) (same (length ns) c.args.axes len)

pub returns-else-len-axes : goal.returns-else-len-axes
returns-else-len-axes c =
    let ns = c.loop-k.numbers.items in
    row_short ns c.args.axes _ (ended (indices_of c.args.indices.now) c.args.xs.now c.loop-k.k ns _ c.loop-k.invariant c.loop-k-test.false)
    (differs (length ns) c.args.axes (λ e. c.if-len-axes.false (omega (arith, e, c.len.ensures, c.loop-k.numbers.ok.0))))
