-- What runs spend one after another.
use Rattle.std.proofs.Common.{◌≡◌, ℕ, zero, suc, ◌+◌, Bool, true, false, List, ◌++◌, map, length, Option, Some, None, Ok, Err, refl, ap, ◌∙◌, sym, subst, arith}
use Rattle.std.proofs.lemmas.List.{append_assoc, append-nil}
use Rattle.sac_base.specs.declared.site.Site.{Site}
use Rattle.sac_base.specs.Arrays.{ArrayValue}
use Rattle.core_ir.specs.Meaning.{Answer}
use Rattle.counted_code.specs.Machine.{first_of}
use Rattle.counted_code.specs.Values.{Heap, Value, Small, Ref, Ended, Done, Failed, Doing, give, go_on, choose_does, read, count_of, keep, release, release_count}
use Rattle.counted_laws.specs.Simulation.{Owns, SameCells, Matches}
use Rattle.phase_laws.specs.Alone.{Spent}
use Rattle.phase_laws.specs.Spending.{Spending, nothing, both, after, choice}

-- ---- nothing is spent

pub spent_nothing : {A : Type 0} (h : Heap) (v : A) → Spent nothing h (Done v h)
spent_nothing h v = (omega arith, refl, sym (append-nil h.phases))

pub both_nothing : (s : Spending) → both s nothing ≡ s
both_nothing s = λ i. record { taken = no_more i; phases = append-nil s.phases i }
  where
    no_more : s.taken + 0 ≡ s.taken
    no_more = omega arith

-- ---- one after the other

pub spent_both : {A B : Type 0} (a b : Spending) (h k : Heap) (v : A) (m : Ended B) → Spent a h (Done v k) → Spent b k m → Spent (both a b) h m
spent_both a b h k v (Done w l) p q =
    (sums p.0 q.0, q.1 ∙ p.1, q.2 ∙ ap (λ xs. xs ++ b.phases) p.2 ∙ append_assoc h.phases a.phases b.phases)
  where
    sums : k.taken ≡ h.taken + a.taken → l.taken ≡ k.taken + b.taken → l.taken ≡ h.taken + (a.taken + b.taken)
    sums x y = omega (arith, x, y)
spent_both a b h k v (Failed f ps) p q = q ∙ ap (λ xs. xs ++ b.phases) p.2 ∙ append_assoc h.phases a.phases b.phases

pub then_spends : (m : ℕ) (more : ℕ → ℕ) (h : Heap) (s : Spending) (r : Ended (List Value)) (a : Answer) (next : List Value → Doing (List Value)) (rest : List ArrayValue → Spending) → Matches m more h r a → Spent s h r → ((vs : List Value) (k : Heap) → length vs ≡ m → Owns k vs more → SameCells more h k → Spent (rest (map (read k) vs)) k (next vs k)) → Spent (both s (after a rest)) h (go_on r next)
then_spends m more h s (Done vs k) (Ok ws) next rest r p go =
    subst (λ us. Spent (both s (rest us)) h (next vs k)) r.1 (spent_both s (rest (map (read k) vs)) h k vs (next vs k) p (go vs k r.0 r.2 r.3))
then_spends m more h s (Failed f q) (Err g) next rest r p go = subst (λ (x : Spending). q ≡ h.phases ++ x.phases) (sym (both_nothing s)) p
then_spends m more h s (Done vs k) (Err g) next rest r p go = elim r [ ]
then_spends m more h s (Failed f q) (Ok ws) next rest r p go = elim r [ ]

-- what the first value of a run spends
pub first_spends : (s : Spending) (h : Heap) (m : Ended (List Value)) → Spent s h m → Spent s h (go_on m (λ vs. give (first_of vs)))
first_spends s h (Done vs k) p = p
first_spends s h (Failed f q) p = p

-- by a condition, one of two
pub chosen_spends : (h : Heap) (s : Site) (d : Option Bool) (a b : Doing (List Value)) (x y : Spending) → Spent x h (a h) → Spent y h (b h) → Spent (choice d x y) h (choose_does s d a b h)
chosen_spends h s None a b x y p q = sym (append-nil h.phases)
chosen_spends h s (Some true) a b x y p q = p
chosen_spends h s (Some false) a b x y p q = q

-- ---- references

-- the two heaps' numbers are the same
abbrev pub SameNumbers : Heap → Heap → Type 0
SameNumbers h k = (k.taken ≡ h.taken) × (k.reused ≡ h.reused) × (k.phases ≡ h.phases)

pub keep_spends : (v : Value) (h : Heap) → SameNumbers h (keep v h)
keep_spends (Small a) h = (refl, refl, refl)
keep_spends (Ref b base shape) h = (refl, refl, refl)

pub release_spends : (v : Value) (h : Heap) → SameNumbers h (release v h)
release_spends (Small a) h = (refl, refl, refl)
release_spends (Ref b base shape) h = go (count_of h b)
  where
    go : (n : ℕ) → SameNumbers h (release_count b n h)
    go zero = (refl, refl, refl)
    go (suc zero) = (refl, refl, refl)
    go (suc (suc n)) = (refl, refl, refl)

pub spent_from : {A : Type 0} (s : Spending) (h k : Heap) (m : Ended A) → SameNumbers h k → Spent s k m → Spent s h m
spent_from s h k (Done v l) p q =
    (q.0 ∙ ap (λ n. n + s.taken) p.0, q.1 ∙ p.1, q.2 ∙ ap (λ xs. xs ++ s.phases) p.2)
spent_from s h k (Failed f ps) p q = q ∙ ap (λ xs. xs ++ s.phases) p.2
