-- What the laws say of one place.
use Rattle.std.proofs.Common.{◌≡◌, ℕ, suc, ◌+◌, ◌*◌, ◌<◌, ◌≤◌, List, All, Option, arith}
use Rattle.core_ir.specs.declared.tree.Var.{Var}
use Rattle.core_ir.specs.Binders.{bound_in}
use Rattle.core_ir.specs.Edits.{Ways, Edited, EditedRight, EditedGens, EditedParts, here, later, inside, in_then, in_else, in_test, in_body, in_gens, in_parts, this_gen, later_gen, this_part, later_part}
use Rattle.core_ir.specs.Terms.{BlockTerm, RightTerm, GensTerm, PartsTerm}
use Rattle.core_ir.specs.WellFormed.{Distinct}
use Rattle.core_facts.specs.Facts.{Facts}
use Rattle.core_loops.specs.Loops.{weight, weight_right, weight_gens, weight_parts, parted_in, parted_in_right, parted_in_gens, parted_in_parts}
use Rattle.core_loops.specs.Steps.{fact_ways}
use Rattle.core_forms.proofs.inlined_bodies.Names.{Names, fresh_below, fresh_more}
use Rattle.core_forms.specs.norm.Copied.{IsPlaced}
use Rattle.core_forms.proofs.norm.Laws.{rises, fresh_from, all_by, names_below}
use Rattle.core_forms.proofs.norm.Walking.{by_other, names_kept, scoped_kept}
use Rattle.core_forms.specs.fold.Fresh.{FreshFold, FreshFoldOf}
use Rattle.core_forms.specs.fold.Walks.{Pair, BlockFolds, done, step}
use Rattle.core_forms.proofs.fold.Places.{place_names, place_scoped, place_counts}

-- ---- numbers that fall by one, and numbers that stay

first_less : (a b c : ℕ) → a + 1 ≡ b → (a + c) + 1 ≡ b + c
first_less a b c h = omega (arith, h)

second_less : (a b c : ℕ) → a + 1 ≡ b → (c + a) + 1 ≡ c + b
second_less a b c h = omega (arith, h)

one_less : (a b : ℕ) → a + 1 ≡ b → suc a + 1 ≡ suc b
one_less a b h = omega (arith, h)

module _ (F : Type 0) (ways : Ways F) (Rule : F → BlockTerm → BlockTerm → Type 0) (rule : (k : F) (b c : BlockTerm) → Rule k b c → (parted_in c + 1 ≡ parted_in b) × (weight c ≡ weight b)) where
  mutual
    pub counts : {k : F} {b c : BlockTerm} → Edited F ways Rule k b c → (parted_in c + 1 ≡ parted_in b) × (weight c ≡ weight b)
    counts (here {known = k} {b = b} {c = c} h) = rule k b c h
    counts (later {r = r} {b = b} {c = c} h) = let w = counts h in (second_less (parted_in c) (parted_in b) (parted_in_right r) w.0, λ i. weight_right r + w.1 i)
    counts (inside {r = r} {q = q} {b = b} h) = let w = counts_right h in (first_less (parted_in_right q) (parted_in_right r) (parted_in b) w.0, λ i. w.1 i + weight b)

    counts_right : {k : F} {r q : RightTerm} → EditedRight F ways Rule k r q → (parted_in_right q + 1 ≡ parted_in_right r) × (weight_right q ≡ weight_right r)
    counts_right (in_then {a = a} {b = b} {c = c} h) = let w = counts h in (first_less (parted_in c) (parted_in a) (parted_in b) w.0, λ i. w.1 i + weight b)
    counts_right (in_else {a = a} {b = b} {c = c} h) = let w = counts h in (second_less (parted_in c) (parted_in b) (parted_in a) w.0, λ i. weight a + w.1 i)
    counts_right (in_test {a = a} {b = b} {c = c} h) = let w = counts h in (first_less (parted_in c) (parted_in a) (parted_in b) w.0, λ i. w.1 i + weight b)
    counts_right (in_body {a = a} {b = b} {c = c} h) = let w = counts h in (second_less (parted_in c) (parted_in b) (parted_in a) w.0, λ i. weight a + w.1 i)
    counts_right (in_gens {g = g} {h = k} h) = let w = counts_gens h in (w.0, λ i. 1 + 65 * w.1 i)
    counts_right (in_parts {p = p} {q = q} h) = let w = counts_parts h in (one_less (parted_in_parts q) (parted_in_parts p) w.0, w.1)

    counts_gens : {k : F} {g c : GensTerm} → EditedGens F ways Rule k g c → (parted_in_gens c + 1 ≡ parted_in_gens g) × (weight_gens c ≡ weight_gens g)
    counts_gens (this_gen {b = b} {c = c} {rest = rest} h) = let w = counts h in (first_less (parted_in c) (parted_in b) (parted_in_gens rest) w.0, λ i. w.1 i + weight_gens rest)
    counts_gens (later_gen {b = b} {g = g} {k = k} h) = let w = counts_gens h in (second_less (parted_in_gens k) (parted_in_gens g) (parted_in b) w.0, λ i. weight b + w.1 i)

    counts_parts : {k : F} {p q : PartsTerm} → EditedParts F ways Rule k p q → (parted_in_parts q + 1 ≡ parted_in_parts p) × (weight_parts q ≡ weight_parts p)
    counts_parts (this_part {b = b} {c = c} {rest = rest} h) = let w = counts h in (first_less (parted_in c) (parted_in b) (parted_in_parts rest) w.0, λ i. w.1 i + weight_parts rest)
    counts_parts (later_part {b = b} {p = p} {q = q} h) = let w = counts_parts h in (second_less (parted_in_parts q) (parted_in_parts p) (parted_in b) w.0, λ i. weight b + w.1 i)

-- ---- one place

module _ (calls : ℕ → List (Option (List ℕ))) (low high : ℕ) (k : Facts) (b c : BlockTerm) (h : Edited Facts (fact_ways calls) (FreshFold calls low high) k b c) where
  pub fewer : (parted_in c + 1 ≡ parted_in b) × (weight c ≡ weight b)
  fewer = counts Facts (fact_ways calls) (FreshFold calls low high) (λ k b c r. place_counts calls low high k b c r) h

  pub still_rises : low ≤ high
  still_rises = rises Facts (fact_ways calls) (FreshFold calls low high) low high (λ k b c r. r.rises) h

  pub names_after : Names (bound_in b) (bound_in c) low high
  names_after = names_kept Facts (fact_ways calls) (FreshFold calls low high) low high still_rises (λ k b c r. place_names calls low high k b c r) h

pub still_distinct :
    (calls : ℕ → List (Option (List ℕ))) (low high : ℕ) (k : Facts) (b c : BlockTerm) → Edited Facts (fact_ways calls) (FreshFold calls low high) k b c → Distinct (bound_in b) → All (λ (x : Var). x.0 < low) (bound_in b) →
    Distinct (bound_in c) × All (λ (x : Var). x.0 < high) (bound_in c)
still_distinct calls low high k b c h d a =
    let n = names_after calls low high k b c h in
    let f = fresh_from low (bound_in b) a in
    (n.once d f, all_by high (bound_in c) (names_below (bound_in b) (bound_in c) low high (still_rises calls low high k b c h) n f))

-- ---- a block at its place

-- the pair is forgotten
pub unnamed : (calls : ℕ → List (Option (List ℕ))) (x y : Var) (low high : ℕ) (k : Facts) (b c : BlockTerm) → Edited Facts (fact_ways calls) (FreshFoldOf calls x y low high) k b c → Edited Facts (fact_ways calls) (FreshFold calls low high) k b c
unnamed calls x y low high k b c h = by_other Facts (fact_ways calls) (FreshFoldOf calls x y low high) (FreshFold calls low high) (λ k b c r. r.0) h

place_kept : (calls : ℕ → List (Option (List ℕ))) (low high : ℕ) (k : Facts) (b c : BlockTerm) → Edited Facts (fact_ways calls) (FreshFold calls low high) k b c → (scope : List Var) → IsPlaced low scope b → IsPlaced high scope c
place_kept calls low high k b c h scope p =
    let f = fresh_from low scope p.scope_below in
    let v = fresh_from low (bound_in b) p.bound_below in
    let rise = still_rises calls low high k b c h in
    let n = names_after calls low high k b c h in
    record {
      scoped = scoped_kept Facts (fact_ways calls) (FreshFold calls low high) low (λ k b c r. place_scoped calls low high k b c r) h scope p.scoped f v;
      once = n.once p.once v;
      scope_below = all_by high scope (λ y q. fresh_below scope high y (fresh_more scope low high rise f) q);
      bound_below = all_by high (bound_in c) (names_below (bound_in b) (bound_in c) low high rise n v);
    }

pub still_placed : (calls : ℕ → List (Option (List ℕ))) (k : Facts) (pairs : List Pair) (low high : ℕ) (b c : BlockTerm) → BlockFolds calls k pairs low high b c → (scope : List Var) → IsPlaced low scope b → IsPlaced high scope c
still_placed calls k pairs low high b c walk scope p = go walk p
  where
    further : (low high : ℕ) (xs : List Var) → low ≤ high → All (λ (x : Var). x.0 < low) xs → All (λ (x : Var). x.0 < high) xs
    further low high xs l h = all_by high xs (λ y q. fresh_below xs high y (fresh_more xs low high l (fresh_from low xs h)) q)

    go : {pairs : List Pair} {low high : ℕ} {b c : BlockTerm} → BlockFolds calls k pairs low high b c → IsPlaced low scope b → IsPlaced high scope c
    go (done {low = low} {high = high} {b = b} l) p = record { scoped = p.scoped; once = p.once; scope_below = further low high scope l p.scope_below; bound_below = further low high (bound_in b) l p.bound_below }
    go (step {p = pair} {low = low} {mid = mid} {b = b} {c = c} h rest) p = go rest (place_kept calls low mid k b c (unnamed calls pair.producer pair.consumer low mid k b c h) scope p)
