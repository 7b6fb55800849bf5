-- A walk over a function folds pairs one after another.
use Rattle.std.proofs.Common.{◌≡◌, ℕ, List, [], ◌∷◌, ◌++◌, map, length, Option, refl, sym, ap, ◌∙◌, append_assoc, append-nil, arith}
use Rattle.std.proofs.lemmas.List.{length-map}
use Rattle.core_ir.specs.declared.tree.Var.{Var}
use Rattle.core_ir.specs.Edits.{Edited, EditedRight, EditedGens, EditedParts, here, later, inside, in_then, in_else, in_test, in_body, in_gens, in_parts, this_gen, later_gen, this_part, later_part}
use Rattle.core_ir.specs.Terms.{BlockTerm, RightTerm, GensTerm, PartsTerm}
use Rattle.core_facts.specs.Facts.{Facts}
use Rattle.core_loops.specs.Steps.{fact_ways}
use Rattle.core_forms.specs.fold.Walks.{Entry, Pair, entries_at}
use Rattle.fold_walk.specs.fold_laws.Made.{FoldMadeOf}
use Rattle.fold_walk.specs.fold_laws.Walks.{PairsFolded}
use Rattle.fold_walk.specs.fold_laws.Walks as laws
use Rattle.fold_walk.specs.declared.state.Fold.{Fold}
use Rattle.fold_walk.specs.Walking.{State, FoldedHere, Walked, stays, goes}
use Rattle.wl_folding.specs.Folded.{entries_of}

-- the entries of the log for pairs of one function
abbrev pub logged : ℕ → List Pair → List Fold
logged place pairs = map (λ (p : Pair). record { function = place; producer = p.producer; consumer = p.consumer }) pairs

pub as_many : (place : ℕ) (pairs : List Pair) → length (logged place pairs) ≡ length pairs
as_many place pairs = length-map pairs (λ (p : Pair). record { function = place; producer = p.producer; consumer = p.consumer })

pub same_entries : (place : ℕ) (pairs : List Pair) → entries_of (logged place pairs) ≡ entries_at place pairs
same_entries place [] = refl
same_entries place (p ∷ pairs) = ap (λ (es : List Entry). (place, p) ∷ es) (same_entries place pairs)

module _ (called : ℕ → List (Option (List ℕ))) (place : ℕ) where
  module _ (p q : State) where
    abbrev Rule : Facts → BlockTerm → BlockTerm → Type 0
    Rule = FoldedHere called place p q

    abbrev Made : Var → Var → Facts → BlockTerm → BlockTerm → Type 0
    Made x y = FoldMadeOf called x y p.next q.next

    abbrev Logged : Var → Var → Type 0
    Logged x y = q.folds ≡ p.folds ++ (record { function = place; producer = x; consumer = y } ∷ [])

    -- the pair of a fold at its place
    mutual
      pub named : {k : Facts} {b c : BlockTerm} → Edited Facts (fact_ways called) Rule k b c → (x : Var) × ((y : Var) × (Logged x y × Edited Facts (fact_ways called) (Made x y) k b c))
      named (here h) = (h.producer, (h.consumer, (h.logged, here h.made)))
      named (later s) = let t = named s in (t.0, (t.1.0, (t.1.1.0, later t.1.1.1)))
      named (inside s) = let t = named_right s in (t.0, (t.1.0, (t.1.1.0, inside t.1.1.1)))

      named_right : {k : Facts} {b c : RightTerm} → EditedRight Facts (fact_ways called) Rule k b c → (x : Var) × ((y : Var) × (Logged x y × EditedRight Facts (fact_ways called) (Made x y) k b c))
      named_right (in_then s) = let t = named s in (t.0, (t.1.0, (t.1.1.0, in_then t.1.1.1)))
      named_right (in_else s) = let t = named s in (t.0, (t.1.0, (t.1.1.0, in_else t.1.1.1)))
      named_right (in_test s) = let t = named s in (t.0, (t.1.0, (t.1.1.0, in_test t.1.1.1)))
      named_right (in_body s) = let t = named s in (t.0, (t.1.0, (t.1.1.0, in_body t.1.1.1)))
      named_right (in_gens s) = let t = named_gens s in (t.0, (t.1.0, (t.1.1.0, in_gens t.1.1.1)))
      named_right (in_parts s) = let t = named_parts s in (t.0, (t.1.0, (t.1.1.0, in_parts t.1.1.1)))

      named_gens : {k : Facts} {b c : GensTerm} → EditedGens Facts (fact_ways called) Rule k b c → (x : Var) × ((y : Var) × (Logged x y × EditedGens Facts (fact_ways called) (Made x y) k b c))
      named_gens (this_gen s) = let t = named s in (t.0, (t.1.0, (t.1.1.0, this_gen t.1.1.1)))
      named_gens (later_gen s) = let t = named_gens s in (t.0, (t.1.0, (t.1.1.0, later_gen t.1.1.1)))

      named_parts : {k : Facts} {b c : PartsTerm} → EditedParts Facts (fact_ways called) Rule k b c → (x : Var) × ((y : Var) × (Logged x y × EditedParts Facts (fact_ways called) (Made x y) k b c))
      named_parts (this_part s) = let t = named s in (t.0, (t.1.0, (t.1.1.0, this_part t.1.1.1)))
      named_parts (later_part s) = let t = named_parts s in (t.0, (t.1.0, (t.1.1.0, later_part t.1.1.1)))

  -- the pairs of a walk
  pub pairs_of : {k : Facts} {p r : State} {b d : BlockTerm} → Walked called place k p r b d → (pairs : List Pair) × ((r.folds ≡ p.folds ++ logged place pairs) × PairsFolded called k pairs p.next r.next b d)
  pairs_of (stays {p = p}) = ([], (sym (append-nil p.folds), laws.stays))
  pairs_of (goes {p = p} {q = q} {r = r} s w) =
      let one = named p q s in
      let rest = pairs_of w in
      let pair : Pair = record { producer = one.0; consumer = one.1.0 } in
      let entry : Fold = record { function = place; producer = one.0; consumer = one.1.0 } in
      let log : r.folds ≡ p.folds ++ (entry ∷ logged place rest.0) =
      rest.1.0 ∙ ap (λ (folds : List Fold). folds ++ logged place rest.0) one.1.1.0 ∙ append_assoc p.folds (entry ∷ []) (logged place rest.0) in
      (pair ∷ rest.0, (log, laws.folds one.1.1.1 rest.1.1))

-- where no pair was folded, all is as it was
pub unchanged : (called : ℕ → List (Option (List ℕ))) (k : Facts) (pairs : List Pair) (low high : ℕ) (b d : BlockTerm) → PairsFolded called k pairs low high b d → pairs ≡ [] → d ≡ b
unchanged called k [] low high b d (laws.stays) e = refl
unchanged called k (p ∷ pairs) low high b d h e = absurd (let n : length (p ∷ pairs) ≡ 0 = ap length e in omega (arith, n))
