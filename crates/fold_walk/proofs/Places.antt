-- The binding at a place behind a producer, by what was learned up to it.
use Rattle.std.proofs.Common.{◌≡◌, ℕ, zero, suc, ◌+◌, ◌-◌, ◌<◌, ◌≤◌, List, [], ◌∷◌, map, length, take, drop, get_or, reverse, true, false, Option, Some, None, refl, sym, ap, subst, ◌∙◌, arith}
use Rattle.std.specs.Prelude.{IfNone, IfSome, is_some, slice_get}
use Rattle.core_ir.specs.declared.tree.Let.{Let}
use Rattle.core_ir.specs.Terms.{LetTerm}
use Rattle.core_ir.specs.View.{let_term}
use Rattle.core_facts.specs.Facts.{Facts, note_all, right_facts}
use Rattle.core_loops.specs.Steps.{facts_after}
use Rattle.foldable_pairs.specs.declared.producer.Producer.{Producer as Source}
use Rattle.fold_walk.specs.Walking.{ConsumerMade, NoConsumer, State, facts_behind}
use Rattle.fold_walk.proofs.Firsts.{get_here, map_drop, some_let}

take_whole : {A : Type 0} (xs : List A) (n : ℕ) → length xs ≤ n → take n xs ≡ xs
take_whole [] zero h = refl
take_whole [] (suc n) h = refl
take_whole (x ∷ xs) zero h = absurd (omega (arith, h))
take_whole (x ∷ xs) (suc n) h = ap (λ ys. x ∷ ys) (take_whole xs n (omega (arith, h)))

drop_length : {A : Type 0} (xs : List A) (n : ℕ) → length (drop n xs) ≤ length xs - n
drop_length [] zero = omega arith
drop_length [] (suc n) = omega arith
drop_length (x ∷ xs) zero = omega arith
drop_length (x ∷ xs) (suc n) = let h = drop_length xs n in omega (arith, h)

pub rest_whole : {A : Type 0} (xs : List A) (n : ℕ) → take (length xs - n) (drop n xs) ≡ drop n xs
rest_whole xs n = take_whole (drop n xs) (length xs - n) (drop_length xs n)

pub user_there : (behind : List Let) (place : ℕ) (u : Let) → place < length behind → u ≡ get_or behind place u → (user : LetTerm) → slice_get (map let_term behind) place ≡ Some user → let_term u ≡ user
user_there behind place u inside is user e = some_let (let_term u) user (ap (λ (v : Let). Some (let_term v)) is ∙ sym (get_here behind place u inside) ∙ e)

-- what holds where nothing was found
pub when_none : {A : Type 0} (o : Option A) (P : Type 0) → is_some o ≡ false → IfNone o P → P
when_none None P e h = h
when_none (Some x) P e h = absurd (let q : true ≡ false = e in cc)

module _ (called : ℕ → List (Option (List ℕ))) (function : ℕ) (k f g : Facts) (l : LetTerm) (behind : List Let) (place : ℕ) (u : Let) (inside : place < length behind) (is : u ≡ get_or behind place u) (first : f ≡ note_all k l.targets (right_facts called l.right k))
    (learned : g ≡ facts_after called (reverse (map let_term (take (length behind - (place + 1)) (drop (place + 1) behind)))) f) (p q : State) (source : Source) where
  facts_are : g ≡ facts_behind called l (map let_term behind) place k
  facts_are =
      learned ∙ (λ i. facts_after called (reverse (map let_term (rest_whole behind (place + 1) i))) (first i))
      ∙ (λ i. facts_after called (reverse (map_drop behind (place + 1) i)) (note_all k l.targets (right_facts called l.right k)))

  user_here : (user : LetTerm) → slice_get (map let_term behind) place ≡ Some user → let_term u ≡ user
  user_here = user_there behind place u inside is

  pub at_made : (found : Option Let) → IfSome found (λ new. ConsumerMade called function g p q source (let_term u) (let_term new)) →
      IfSome found (λ new. (user : LetTerm) → slice_get (map let_term behind) place ≡ Some user → ConsumerMade called function (facts_behind called l (map let_term behind) place k) p q source user (let_term new))
  at_made None h = tt
  at_made (Some new) h = λ user e.
      subst (λ (v : LetTerm). ConsumerMade called function (facts_behind called l (map let_term behind) place k) p q source v (let_term new)) (user_here user e)
      (subst (λ (m : Facts). ConsumerMade called function m p q source (let_term u) (let_term new)) facts_are h)

  pub at_none : (found : Option Let) (next : ℕ) → IfNone found (NoConsumer called function g next source (let_term u)) →
      IfNone found ((user : LetTerm) → slice_get (map let_term behind) place ≡ Some user → NoConsumer called function (facts_behind called l (map let_term behind) place k) next source user)
  at_none None next h = λ user e.
      subst (λ (v : LetTerm). NoConsumer called function (facts_behind called l (map let_term behind) place k) next source v) (user_here user e)
      (subst (λ (m : Facts). NoConsumer called function m next source (let_term u)) facts_are h)
  at_none (Some new) next h = tt
