-- Steps of a rule that asks what is in scope where it is used, and blocks at their place.
use Rattle.std.proofs.Common.{ℕ, ◌<◌, ◌≤◌, List, [], ◌∷◌, ◌++◌, Option, All}
use Rattle.core_ir.specs.declared.tree.Var.{Var}
use Rattle.core_ir.specs.Binders.{bound_in, bound_in_right, bound_in_gens, bound_in_parts}
use Rattle.core_ir.specs.Edits.{Edited, EditedRight, EditedGens, EditedParts, here, later, inside, in_then, in_else, in_test, in_body, in_gens, in_parts, this_gen, later_gen, this_part, later_part}
use Rattle.core_ir.specs.Scopes.{Scoped, ScopedRight, ScopedGens, ScopedParts}
use Rattle.core_ir.specs.Terms.{BlockTerm, RightTerm, GensTerm, PartsTerm}
use Rattle.core_ir.specs.WellFormed.{Distinct}
use Rattle.core_facts.specs.Facts.{Facts}
use Rattle.core_loops.specs.Steps.{fact_ways}
use Rattle.core_forms.proofs.inlined_bodies.Names.{Names, Fresh, fresh_both, fresh_left, fresh_right, fresh_below, fresh_more, distinct_left, distinct_right}
use Rattle.core_forms.specs.norm.Copied.{IsPlaced}
use Rattle.core_forms.proofs.norm.Laws.{names_below, fresh_from, all_by}

-- the old rule makes a step of the new one wherever it is used
module _ (calls : ℕ → List (Option (List ℕ))) (low : ℕ) (Old New : Facts → BlockTerm → BlockTerm → Type 0) (make : (k : Facts) (b c : BlockTerm) → Old k b c → (scope : List Var) → IsPlaced low scope b → New k b c) where
  made : (k : Facts) (b c : BlockTerm) → Old k b c → (scope : List Var) → Scoped scope b → Fresh scope low → Fresh (bound_in b) low → Distinct (bound_in b) → New k b c
  made k b c h scope s f v d =
      make k b c h scope
      (record { scoped = s; once = d; scope_below = all_by low scope (λ y q. fresh_below scope low y f q); bound_below = all_by low (bound_in b) (λ y q. fresh_below (bound_in b) low y v q) })

  mutual
    placed : {k : Facts} {b c : BlockTerm} → Edited Facts (fact_ways calls) Old k b c → (scope : List Var) → Scoped scope b → Fresh scope low → Fresh (bound_in b) low → Distinct (bound_in b) → Edited Facts (fact_ways calls) New k b c
    placed (here {known = k} {b = b} {c = c} h) scope s f v d = here (made k b c h scope s f v d)
    placed (later {xs = xs} {r = r} {b = b} h) scope s f v d =
        let more = bound_in_right r ++ bound_in b in
        later
        (placed h (xs ++ scope) s.2 (fresh_both xs scope low (fresh_left xs more low v) f) (fresh_right (bound_in_right r) (bound_in b) low (fresh_right xs more low v))
        (distinct_right (bound_in_right r) (bound_in b) (distinct_right xs more d)))
    placed (inside {xs = xs} {r = r} {b = b} h) scope s f v d =
        let more = bound_in_right r ++ bound_in b in
        inside (placed_right h scope s.0 f (fresh_left (bound_in_right r) (bound_in b) low (fresh_right xs more low v)) (distinct_left (bound_in_right r) (bound_in b) (distinct_right xs more d)))

    placed_right : {k : Facts} {r q : RightTerm} → EditedRight Facts (fact_ways calls) Old k r q → (scope : List Var) → ScopedRight scope r → Fresh scope low → Fresh (bound_in_right r) low → Distinct (bound_in_right r) → EditedRight Facts (fact_ways calls) New k r q
    placed_right (in_then {a = a} {b = b} h) scope s f v d = in_then (placed h scope s.1 f (fresh_left (bound_in a) (bound_in b) low v) (distinct_left (bound_in a) (bound_in b) d))
    placed_right (in_else {a = a} {b = b} h) scope s f v d = in_else (placed h scope s.2 f (fresh_right (bound_in a) (bound_in b) low v) (distinct_right (bound_in a) (bound_in b) d))
    placed_right (in_test {params = ps} {a = a} {b = b} h) scope s f v d =
        let more = bound_in a ++ bound_in b in
        in_test
        (placed h (ps ++ scope) s.2 (fresh_both ps scope low (fresh_left ps more low v) f) (fresh_left (bound_in a) (bound_in b) low (fresh_right ps more low v)) (distinct_left (bound_in a) (bound_in b) (distinct_right ps more d)))
    placed_right (in_body {params = ps} {a = a} {b = b} h) scope s f v d =
        let more = bound_in a ++ bound_in b in
        in_body
        (placed h (ps ++ scope) s.3 (fresh_both ps scope low (fresh_left ps more low v) f) (fresh_right (bound_in a) (bound_in b) low (fresh_right ps more low v)) (distinct_right (bound_in a) (bound_in b) (distinct_right ps more d)))
    placed_right (in_gens h) scope s f v d = in_gens (placed_gens h scope s.1 f v d)
    placed_right (in_parts h) scope s f v d = in_parts (placed_parts h scope s.1 f v d)

    placed_gens : {k : Facts} {r q : GensTerm} → EditedGens Facts (fact_ways calls) Old k r q → (scope : List Var) → ScopedGens scope r → Fresh scope low → Fresh (bound_in_gens r) low → Distinct (bound_in_gens r) → EditedGens Facts (fact_ways calls) New k r q
    placed_gens (this_gen {h = j} {b = b} {rest = rest} h) scope s f v d =
        let xs = j.index ∷ j.names in
        let more = bound_in b ++ bound_in_gens rest in
        this_gen
        (placed h (xs ++ scope) s.2 (fresh_both xs scope low (fresh_left xs more low v) f) (fresh_left (bound_in b) (bound_in_gens rest) low (fresh_right xs more low v)) (distinct_left (bound_in b) (bound_in_gens rest) (distinct_right xs more d)))
    placed_gens (later_gen {h = j} {b = b} {g = g} h) scope s f v d =
        let xs = j.index ∷ j.names in
        let more = bound_in b ++ bound_in_gens g in
        later_gen (placed_gens h scope s.3 f (fresh_right (bound_in b) (bound_in_gens g) low (fresh_right xs more low v)) (distinct_right (bound_in b) (bound_in_gens g) (distinct_right xs more d)))

    placed_parts : {k : Facts} {r q : PartsTerm} → EditedParts Facts (fact_ways calls) Old k r q → (scope : List Var) → ScopedParts scope r → Fresh scope low → Fresh (bound_in_parts r) low → Distinct (bound_in_parts r) → EditedParts Facts (fact_ways calls) New k r q
    placed_parts (this_part {h = j} {b = b} {rest = rest} h) scope s f v d =
        let xs = j.index ∷ [] in
        let more = bound_in b ++ bound_in_parts rest in
        this_part
        (placed h (xs ++ scope) s.1 (fresh_both xs scope low (fresh_left xs more low v) f) (fresh_left (bound_in b) (bound_in_parts rest) low (fresh_right xs more low v)) (distinct_left (bound_in b) (bound_in_parts rest) (distinct_right xs more d)))
    placed_parts (later_part {h = j} {b = b} {p = p} h) scope s f v d =
        let xs = j.index ∷ [] in
        let more = bound_in b ++ bound_in_parts p in
        later_part (placed_parts h scope s.2 f (fresh_right (bound_in b) (bound_in_parts p) low (fresh_right xs more low v)) (distinct_right (bound_in b) (bound_in_parts p) (distinct_right xs more d)))

  -- a step in a block at its place
  pub step_placed : {k : Facts} {b c : BlockTerm} → Edited Facts (fact_ways calls) Old k b c → (scope : List Var) → IsPlaced low scope b → Edited Facts (fact_ways calls) New k b c
  step_placed {b = b} h scope p = placed h scope p.scoped (fresh_from low scope p.scope_below) (fresh_from low (bound_in b) p.bound_below) p.once

-- where a step made new variables, the block is at its place again
pub still_at_place : (low high : ℕ) (b c : BlockTerm) (scope : List Var) → low ≤ high → Names (bound_in b) (bound_in c) low high → Scoped scope c → IsPlaced low scope b → IsPlaced high scope c
still_at_place low high b c scope rise n s p =
    let f = fresh_from low scope p.scope_below in
    let v = fresh_from low (bound_in b) p.bound_below in
    record {
      scoped = s;
      once = n.once p.once v;
      scope_below = all_by high scope (λ y q. fresh_below scope high y (fresh_more scope low high rise f) q);
      bound_below = all_by high (bound_in c) (names_below (bound_in b) (bound_in c) low high rise n v);
    }

further : (low high : ℕ) (xs : List Var) → low ≤ high → All (λ (x : Var). x.0 < low) xs → All (λ (x : Var). x.0 < high) xs
further low high xs l h = all_by high xs (λ y q. fresh_below xs high y (fresh_more xs low high l (fresh_from low xs h)) q)

-- and so it is below a greater number
pub placed_below : (low high : ℕ) (b : BlockTerm) (scope : List Var) → low ≤ high → IsPlaced low scope b → IsPlaced high scope b
placed_below low high b scope l p = record { scoped = p.scoped; once = p.once; scope_below = further low high scope l p.scope_below; bound_below = further low high (bound_in b) l p.bound_below }
