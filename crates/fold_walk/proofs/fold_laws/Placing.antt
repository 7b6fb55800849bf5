-- A change at a place whose variables are scoped and have agreeing bases.
use Rattle.std.proofs.Common.{ℕ, List, [], ◌∷◌, ◌++◌, Option}
use Rattle.std.specs.Prelude.{zip}
use Rattle.sac_base.specs.declared.base.Base.{Base}
use Rattle.sac_base.specs.declared.base.Base.TheVariants.{Int, Bool as Truth}
use Rattle.core_ir.specs.declared.tree.Var.{Var}
use Rattle.core_ir.specs.Binders.{bound_in, bound_in_right, bound_in_gens, bound_in_parts}
use Rattle.core_ir.specs.Edits.{Edited, EditedRight, EditedGens, EditedParts, here, later, inside, in_then, in_else, in_test, in_body, in_gens, in_parts, this_gen, later_gen, this_part, later_part}
use Rattle.core_ir.specs.Scopes.{Scoped, ScopedRight, ScopedGens, ScopedParts}
use Rattle.core_ir.specs.Terms.{BlockTerm, RightTerm, GensTerm, PartsTerm, CoreTerm}
use Rattle.core_ir.specs.WellFormed.{Bases, BlockBases, RightBases, GensBases, PartsBases, Distinct, ints}
use Rattle.core_facts.specs.Facts.{Facts}
use Rattle.core_forms.proofs.inlined_bodies.Names.{Fresh, fresh_both, fresh_left, fresh_right, fresh_below, distinct_left, distinct_right}
use Rattle.core_loops.specs.Steps.{fact_ways}
use Rattle.core_forms.specs.norm.Copied.{IsPlaced}
use Rattle.core_forms.proofs.norm.Laws.{all_by}

module _ (core : CoreTerm) (calls : ℕ → List (Option (List ℕ))) (low : ℕ) (Rule Other : Facts → BlockTerm → BlockTerm → Type 0)
    (make : (k : Facts) (b c : BlockTerm) → Rule k b c → (scope : List Var) → IsPlaced low scope b → (g : Bases) (ts : List Base) → BlockBases core g b ts → Other k b c) where
  made : (k : Facts) (b c : BlockTerm) → Rule k b c → (scope : List Var) → Scoped scope b → Fresh scope low → Fresh (bound_in b) low → Distinct (bound_in b) → (g : Bases) (ts : List Base) → BlockBases core g b ts → Other k b c
  made k b c h scope s f v d g ts w =
      make k b c h scope
      (record { scoped = s; once = d; scope_below = all_by low scope (λ y q. fresh_below scope low y f q); bound_below = all_by low (bound_in b) (λ y q. fresh_below (bound_in b) low y v q) }) g ts w

  mutual
    pub placed : {k : Facts} {b c : BlockTerm} → Edited Facts (fact_ways calls) Rule k b c → (scope : List Var) → Scoped scope b → Fresh scope low → Fresh (bound_in b) low → Distinct (bound_in b) →
        (g : Bases) (ts : List Base) → BlockBases core g b ts → Edited Facts (fact_ways calls) Other k b c
    placed (here {known = k} {b = b} {c = c} h) scope s f v d g ts w = here (made k b c h scope s f v d g ts w)
    placed (later {xs = xs} {r = r} {b = b} h) scope s f v d g ts w =
        let more = bound_in_right r ++ bound_in b in
        later
        (placed h (xs ++ scope) s.2 (fresh_both xs scope low (fresh_left xs more low v) f) (fresh_right (bound_in_right r) (bound_in b) low (fresh_right xs more low v))
        (distinct_right (bound_in_right r) (bound_in b) (distinct_right xs more d)) (zip xs w.0 ++ g) ts w.1.2)
    placed (inside {xs = xs} {r = r} {b = b} h) scope s f v d g ts w =
        let more = bound_in_right r ++ bound_in b in
        inside
        (placed_right h scope s.0 f (fresh_left (bound_in_right r) (bound_in b) low (fresh_right xs more low v)) (distinct_left (bound_in_right r) (bound_in b) (distinct_right xs more d)) g w.0 w.1.0)

    placed_right : {k : Facts} {r q : RightTerm} → EditedRight Facts (fact_ways calls) Rule k r q → (scope : List Var) → ScopedRight scope r → Fresh scope low → Fresh (bound_in_right r) low → Distinct (bound_in_right r) →
        (g : Bases) (ts : List Base) → RightBases core g r ts → EditedRight Facts (fact_ways calls) Other k r q
    placed_right (in_then {a = a} {b = b} h) scope s f v d g ts w = in_then (placed h scope s.1 f (fresh_left (bound_in a) (bound_in b) low v) (distinct_left (bound_in a) (bound_in b) d) g ts w.1)
    placed_right (in_else {a = a} {b = b} h) scope s f v d g ts w = in_else (placed h scope s.2 f (fresh_right (bound_in a) (bound_in b) low v) (distinct_right (bound_in a) (bound_in b) d) g ts w.2)
    placed_right (in_test {params = ps} {a = a} {b = b} h) scope s f v d g ts w =
        let more = bound_in a ++ bound_in b in
        in_test
        (placed h (ps ++ scope) s.2 (fresh_both ps scope low (fresh_left ps more low v) f) (fresh_left (bound_in a) (bound_in b) low (fresh_right ps more low v)) (distinct_left (bound_in a) (bound_in b) (distinct_right ps more d))
        (zip ps ts ++ g) (Truth ∷ []) w.2)
    placed_right (in_body {params = ps} {a = a} {b = b} h) scope s f v d g ts w =
        let more = bound_in a ++ bound_in b in
        in_body
        (placed h (ps ++ scope) s.3 (fresh_both ps scope low (fresh_left ps more low v) f) (fresh_right (bound_in a) (bound_in b) low (fresh_right ps more low v)) (distinct_right (bound_in a) (bound_in b) (distinct_right ps more d))
        (zip ps ts ++ g) ts w.3)
    placed_right (in_gens h) scope s f v d g ts w = in_gens (placed_gens h scope s.1 f v d g w.0 w.1.1)
    placed_right (in_parts {t = t} h) scope s f v d g ts w = in_parts (placed_parts h scope s.1 f v d g t w.1)

    placed_gens : {k : Facts} {r q : GensTerm} → EditedGens Facts (fact_ways calls) Rule k r q → (scope : List Var) → ScopedGens scope r → Fresh scope low → Fresh (bound_in_gens r) low → Distinct (bound_in_gens r) →
        (g : Bases) (t : Base) → GensBases core g r t → EditedGens Facts (fact_ways calls) Other k r q
    placed_gens (this_gen {h = j} {b = b} {rest = rest} h) scope s f v d g t w =
        let xs = j.index ∷ j.names in
        let more = bound_in b ++ bound_in_gens rest in
        this_gen
        (placed h (xs ++ scope) s.2 (fresh_both xs scope low (fresh_left xs more low v) f) (fresh_left (bound_in b) (bound_in_gens rest) low (fresh_right xs more low v))
        (distinct_left (bound_in b) (bound_in_gens rest) (distinct_right xs more d)) (ints xs ++ g) (t ∷ []) w.4)
    placed_gens (later_gen {h = j} {b = b} {g = gs} h) scope s f v d g t w =
        let xs = j.index ∷ j.names in
        let more = bound_in b ++ bound_in_gens gs in
        later_gen (placed_gens h scope s.3 f (fresh_right (bound_in b) (bound_in_gens gs) low (fresh_right xs more low v)) (distinct_right (bound_in b) (bound_in_gens gs) (distinct_right xs more d)) g t w.5)

    placed_parts : {k : Facts} {r q : PartsTerm} → EditedParts Facts (fact_ways calls) Rule k r q → (scope : List Var) → ScopedParts scope r → Fresh scope low → Fresh (bound_in_parts r) low → Distinct (bound_in_parts r) →
        (g : Bases) (t : Base) → PartsBases core g r t → EditedParts Facts (fact_ways calls) Other k r q
    placed_parts (this_part {h = j} {b = b} {rest = rest} h) scope s f v d g t w =
        let xs = j.index ∷ [] in
        let more = bound_in b ++ bound_in_parts rest in
        this_part
        (placed h (xs ++ scope) s.1 (fresh_both xs scope low (fresh_left xs more low v) f) (fresh_left (bound_in b) (bound_in_parts rest) low (fresh_right xs more low v))
        (distinct_left (bound_in b) (bound_in_parts rest) (distinct_right xs more d)) ((j.index, Int) ∷ g) (t ∷ []) w.0)
    placed_parts (later_part {h = j} {b = b} {p = p} h) scope s f v d g t w =
        let xs = j.index ∷ [] in
        let more = bound_in b ++ bound_in_parts p in
        later_part (placed_parts h scope s.2 f (fresh_right (bound_in b) (bound_in_parts p) low (fresh_right xs more low v)) (distinct_right (bound_in b) (bound_in_parts p) (distinct_right xs more d)) g t w.1)
