-- What the laws say of one place.
use Rattle.std.proofs.Common.{◌≡◌, ℕ, ◌<◌, ◌≤◌, true, List, [], ◌∷◌, All, Option, ◌⊎◌, inl, inr, arith}
use Rattle.std.proofs.lemmas.List.Elements.{All-nil, All-cons}
use Rattle.core_ir.specs.declared.tree.Var.{Var}
use Rattle.core_ir.specs.Binders.{is_in, bound_in}
use Rattle.core_ir.specs.Edits.{Ways, Edited, EditedRight, EditedGens, EditedParts, here, later, inside, in_then, in_else, in_test, in_body, in_gens, in_parts, this_gen, later_gen, this_part, later_part}
use Rattle.core_ir.specs.Terms.{BlockTerm, RightTerm, GensTerm, PartsTerm}
use Rattle.core_ir.specs.WellFormed.{Distinct}
use Rattle.core_facts.specs.Facts.{Facts}
use Rattle.core_loops.specs.Loops.{weight}
use Rattle.core_loops.specs.Steps.{fact_ways}
use Rattle.core_loops.specs.norm_steps.Step.{BaseTable}
use Rattle.core_forms.proofs.inlined_bodies.Names.{Names, Fresh, not_in, itself, behind_first}
use Rattle.core_forms.specs.norm.Fresh.{FreshHere}
use Rattle.core_forms.proofs.norm.Places.{place_names, place_weight, all_member}
use Rattle.core_forms.proofs.norm.Walking.{names_kept}
use Rattle.core_forms.proofs.norm.Weights.{falls}

-- a fact of numbers that holds at the place
module _ (F : Type 0) (ways : Ways F) (Rule : F → BlockTerm → BlockTerm → Type 0) (low high : ℕ) (rule : (k : F) (b c : BlockTerm) → Rule k b c → low ≤ high) where
  mutual
    pub rises : {k : F} {b c : BlockTerm} → Edited F ways Rule k b c → low ≤ high
    rises (here {known = k} {b = b} {c = c} h) = rule k b c h
    rises (later h) = rises h
    rises (inside h) = rises_right h

    rises_right : {k : F} {r q : RightTerm} → EditedRight F ways Rule k r q → low ≤ high
    rises_right (in_then h) = rises h
    rises_right (in_else h) = rises h
    rises_right (in_test h) = rises h
    rises_right (in_body h) = rises h
    rises_right (in_gens h) = rises_gens h
    rises_right (in_parts h) = rises_parts h

    rises_gens : {k : F} {g c : GensTerm} → EditedGens F ways Rule k g c → low ≤ high
    rises_gens (this_gen h) = rises h
    rises_gens (later_gen h) = rises_gens h

    rises_parts : {k : F} {p q : PartsTerm} → EditedParts F ways Rule k p q → low ≤ high
    rises_parts (this_part h) = rises h
    rises_parts (later_part h) = rises_parts h

module _ (calls : ℕ → List (Option (List ℕ))) (first low high : ℕ) (m : BaseTable) (k : Facts) (b c : BlockTerm) (h : Edited Facts (fact_ways calls) (FreshHere first low high m) k b c) where
  pub lighter : weight c < weight b
  lighter = falls Facts (fact_ways calls) (FreshHere first low high m) (λ k b c r. place_weight first low high m k b c r) h

  pub still_rises : low ≤ high
  still_rises = rises Facts (fact_ways calls) (FreshHere first low high m) low high (λ k b c r. r.rises) h

  pub names_after : Names (bound_in b) (bound_in c) low high
  names_after = names_kept Facts (fact_ways calls) (FreshHere first low high m) low high still_rises (λ k b c r. place_names first low high m k b c r) h

-- ---- numbers below another

pub is_below : (n y : ℕ) → y < n → n ≤ y → ⊥
is_below n y p q = omega arith

pub fresh_from : (n : ℕ) (xs : List Var) → All (λ (x : Var). x.0 < n) xs → Fresh xs n
fresh_from n xs h y l = not_in y xs (λ m. is_below n y.0 (all_member (λ (x : Var). x.0 < n) xs y h m) l)

pub all_by : (n : ℕ) (xs : List Var) → ((y : Var) → is_in y xs ≡ true → y.0 < n) → All (λ (x : Var). x.0 < n) xs
all_by n [] f = All-nil (λ (x : Var). x.0 < n)
all_by n (x ∷ xs) f = All-cons (λ (x : Var). x.0 < n) x xs (f x (itself x xs)) (all_by n xs (λ y h. f y (behind_first y x xs h)))

below_more : (a b n : ℕ) → a < b → b ≤ n → a < n
below_more a b n p q = omega arith

pub names_below : (xs ys : List Var) (low high : ℕ) → low ≤ high → Names xs ys low high → Fresh xs low → (y : Var) → is_in y ys ≡ true → y.0 < high
names_below xs ys low high rise n f y h = go (n.within y h)
  where
    go : (is_in y xs ≡ true) ⊎ ((low ≤ y.0) × (y.0 < high)) → y.0 < high
    go (inl o) = below_more y.0 low high (Rattle.core_forms.proofs.inlined_bodies.Names.fresh_below xs low y f o) rise
    go (inr o) = o.1

pub still_distinct :
    (calls : ℕ → List (Option (List ℕ))) (first low high : ℕ) (m : BaseTable) (k : Facts) (b c : BlockTerm) → Edited Facts (fact_ways calls) (FreshHere first low high m) k b c →
    Distinct (bound_in b) → All (λ (x : Var). x.0 < low) (bound_in b) → Distinct (bound_in c) × All (λ (x : Var). x.0 < high) (bound_in c)
still_distinct calls first low high m k b c h d a =
    let n = names_after calls first low high m k b c h in
    let f = fresh_from low (bound_in b) a in
    (n.once d f, all_by high (bound_in c) (names_below (bound_in b) (bound_in c) low high (still_rises calls first low high m k b c h) n f))
