-- A worker's store from one cell to the next.
use Rattle.std.proofs.Common.{◌≡◌, ℕ, zero, suc, ◌+◌, ◌*◌, ◌-◌, ◌≤◌, ◌%◌, ◌^◌, Option, None, Some, refl, ap, ◌∙◌, sym, subst, slice_index_or, replicate, arith}
use Rattle.std.proofs.Math.Nat.{mod-mod, mod-add-mod, add-mod-mod, mul-add-mod_self_right}
use Rattle.buffer_heap.specs.Heaps.{HeapValue}
use Rattle.counted_code.specs.Values.{Heap}
use Rattle.run_store.specs.Lents.{LentValue, Lender, lender_as, holds_at}
use Rattle.run_store.specs.Stands.{StandsFor, Stands, lender_in, lender_of, with_lent}
use Rattle.run_store.specs.declared.store.Store.{Store}
use Rattle.run_store.proofs.Opening.{behind_heap, worker_stands, left_stands}
use Rattle.phase_cells.specs.Idle.{IsAsLent, IsLeft, MayRun, StandsBehind, WentOn, counter, counter_behind, raise}
use Rattle.phase_team.specs.declared.cells.CellEnd.{CellEnd}
use Rattle.phase_team.specs.declared.cells.CellEnd.TheVariants.{Value, NotHeld, Stopped}
use Rattle.phase_team.specs.Segments.{IsComputed, Same}

-- ---- the first cell

pub begun : (lends : HeapValue) (m : Heap) → StandsFor lends m → StandsBehind lends (behind_heap lends) m
begun lends m stands l same none =
    subst (λ h. Stands (record { own = behind_heap h; lent = Some l }) m) same (worker_stands l m none (subst (λ h. StandsFor h m) (sym same) stands))

-- ---- the next one

abbrev IsThere : Option Lender → Type 0
IsThere None = ⊥
IsThere (Some r) = Unit {0}

or_lender : Lender → Option Lender → Lender
or_lender d None = d
or_lender d (Some r) = r

lent_there : (o : Option LentValue) (r : Lender) → lender_in o ≡ Some r → (l : LentValue) × (o ≡ Some l) × (lender_as l ≡ r)
lent_there None r is = elim (subst IsThere (sym is) tt) [ ]
lent_there (Some l) r is = (l, refl, (λ i. or_some (is i)))
  where
    or_some : Option Lender → Lender
    or_some None = r
    or_some (Some q) = q

pub behind_after : (s : Store) (r : Lender) (j : Heap) → lender_of s ≡ Some r → IsAsLent r.heap j → Stands s j → StandsBehind r.heap s.own j
behind_after s r j is lent stands k same none =
    let there = lent_there s.lent r is in
    let l = there.0 in
    let heap : l.heap ≡ r.heap = ap (λ (q : Lender). q.heap) there.2 in
    left_stands s.own l k j (same ∙ sym heap) none (subst (λ h. IsAsLent h j) (sym heap) lent) (subst (λ o. Stands (record { own = s.own; lent = o }) j) there.1 stands)

pub may_after : {S : Type 0} (ready : S → Type 0) (opens : Heap → Type 0) (lends own : HeapValue) (end : CellEnd) (s : S) (before after : Option S) → before ≡ Some s → WentOn end before after
    → (IsComputed end → ready s × (lends.births ≤ own.births) × ((k : Heap) × StandsBehind lends own k × opens k)) → MayRun ready opens lends own after
may_after ready opens lends own Value s before after there went may = subst (MayRun ready opens lends own) (sym (went ∙ there)) (may tt)
may_after ready opens lends own NotHeld s before after there went may = subst (MayRun ready opens lends own) (sym (went ∙ there)) (may tt)
may_after ready opens lends own (Stopped stop) s before after there went may = subst (MayRun ready opens lends own) (sym went) tt

-- ---- counters

-- the counters of both heaps together
both_counted : (s : Store) (r : Lender) (f : HeapValue → ℕ) (n : ℕ) → lender_of s ≡ Some r → with_lent s.lent f n ≡ (f r.heap + n) % 2 ^ 64
both_counted s r f n is =
    let there = lent_there s.lent r is in
    ap (λ o. with_lent o f n) there.1 ∙ ap (λ (q : Lender). (f q.heap + n) % 2 ^ 64) there.2

cancel : (a y z : ℕ) → (a + y) % 2 ^ 64 ≡ (a + z) % 2 ^ 64 → y % 2 ^ 64 ≡ z % 2 ^ 64
cancel a y z e = sym (up y) ∙ sym (add-mod-mod (a * 18446744073709551615) (a + y) (2 ^ 64)) ∙ ap (λ t. (a * 18446744073709551615 + t) % 2 ^ 64) e ∙ add-mod-mod (a * 18446744073709551615) (a + z) (2 ^ 64) ∙ up z
  where
    up : (y : ℕ) → (a * 18446744073709551615 + (a + y)) % 2 ^ 64 ≡ y % 2 ^ 64
    up y = let whole : a * 18446744073709551615 + (a + y) ≡ a * 2 ^ 64 + y = omega arith in ap (λ t. t % 2 ^ 64) whole ∙ mul-add-mod_self_right a (2 ^ 64) y

risen : (a x y n k j : ℕ) → (a + x) % 2 ^ 64 ≡ k % 2 ^ 64 → (a + y) % 2 ^ 64 ≡ j % 2 ^ 64 → j ≡ k + n → y % 2 ^ 64 ≡ (x + n) % 2 ^ 64
risen a x y n k j before after is =
    let moved : (a + x) + n ≡ a + (x + n) = omega arith in
    cancel a y (x + n)
    (after ∙ ap (λ t. t % 2 ^ 64) is ∙ sym (mod-add-mod k (2 ^ 64) n) ∙ ap (λ t. (t + n) % 2 ^ 64) (sym before) ∙ mod-add-mod (a + x) (2 ^ 64) n ∙ ap (λ t. t % 2 ^ 64) moved)

-- what a worker has counted after a cell
pub counted_more : (own : HeapValue) (l : LentValue) (s : Store) (n : ℕ) (opens : Heap → Type 0) (lends : HeapValue) (k : Heap) → lender_of s ≡ Some (lender_as l) → lends.births ≤ own.births → Stands (record { own = own; lent = Some l }) k
    → IsLeft opens lends n k s → (kind : ℕ) → Same kind (counter_behind lends s.own kind) (counter_behind lends own kind + raise n kind)
counted_more own l s n opens lends k is later before left zero =
    let b = before.all.births in
    let a = left.stands.all.births in
    let m = left.buffers in
    omega (arith, b, a, m, later)
counted_more own l s n opens lends k is later before left (suc zero) =
    risen l.heap.taken own.taken s.own.taken n k.taken left.after.taken before.all.taken (sym (both_counted s (lender_as l) (λ h. h.taken) s.own.taken is) ∙ left.stands.all.taken) left.taken
counted_more own l s n opens lends k is later before left (suc (suc zero)) =
    risen l.heap.given own.given s.own.given n k.given left.after.given before.all.given (sym (both_counted s (lender_as l) (λ h. h.given) s.own.given is) ∙ left.stands.all.given) left.given
counted_more own l s n opens lends k is later before left (suc (suc (suc zero))) =
    risen l.heap.reused own.reused s.own.reused 0 k.reused left.after.reused before.all.reused (sym (both_counted s (lender_as l) (λ h. h.reused) s.own.reused is) ∙ left.stands.all.reused) (let same : k.reused + 0 ≡ k.reused = omega arith in left.reused ∙ sym same)
counted_more own l s n opens lends k is later before left (suc (suc (suc (suc kind)))) = refl

-- the own heap has no buffer less than before
pub still_later : (own : HeapValue) (l : LentValue) (s : Store) (n : ℕ) (opens : Heap → Type 0) (lends : HeapValue) (k : Heap) → lends.births ≤ own.births → Stands (record { own = own; lent = Some l }) k → IsLeft opens lends n k s → lends.births ≤ s.own.births
still_later own l s n opens lends k later before left =
    let b = before.all.births in
    let a = left.stands.all.births in
    let m = left.buffers in
    omega (arith, b, a, m, later)

-- nothing is counted before the first cell
pub none_counted : (h : HeapValue) (kind : ℕ) → counter_behind h (behind_heap h) kind ≡ 0
none_counted h zero = omega arith
none_counted h (suc zero) = refl
none_counted h (suc (suc zero)) = refl
none_counted h (suc (suc (suc zero))) = refl
none_counted h (suc (suc (suc (suc kind)))) = refl

-- what was counted is handed on
pub absorbed : (lends h w : HeapValue) (kind : ℕ)
    → Same kind (counter (record h { births = h.births + (w.births - lends.births); taken = (h.taken + w.taken) % 2 ^ 64; given = (h.given + w.given) % 2 ^ 64; reused = (h.reused + w.reused) % 2 ^ 64 }) kind) (counter h kind + counter_behind lends w kind)
absorbed lends h w zero = refl
absorbed lends h w (suc zero) = mod-mod (h.taken + w.taken) (2 ^ 64)
absorbed lends h w (suc (suc zero)) = mod-mod (h.given + w.given) (2 ^ 64)
absorbed lends h w (suc (suc (suc zero))) = mod-mod (h.reused + w.reused) (2 ^ 64)
absorbed lends h w (suc (suc (suc (suc kind)))) = refl

-- ---- a cell

zeros : (n b : ℕ) → ◌≡◌ {A = ℕ} (slice_index_or {A = ℕ} (replicate {A = ℕ} n 0) b 0) 0
zeros zero b = refl
zeros (suc n) zero = refl
zeros (suc n) (suc b) = zeros n b

pub none_holds : (l : LentValue) (n : ℕ) → l.holds ≡ replicate n 0 → (b : ℕ) → holds_at l b ≡ 0
none_holds l n is b = ap (λ ns. slice_index_or ns b 0) is ∙ zeros n b

-- the store that a cell is computed on stands for the machine's heap
pub opened : (lends own : HeapValue) (k : Heap) (s : Store) (l : LentValue) → s.own ≡ own → s.lent ≡ Some l → l.heap ≡ lends → ((b : ℕ) → holds_at l b ≡ 0) → StandsBehind lends own k → Stands s k
opened lends own k s l own_is lent_is same none stands =
    subst (λ h. Stands (record { own = h; lent = s.lent }) k) (sym own_is) (subst (λ o. Stands (record { own = own; lent = o }) k) (sym lent_is) (stands l same none))

-- after a cell that was computed another one may be
pub may_go_on : {S : Type 0} (ready : S → Type 0) (opens : Heap → Type 0) (lends own own' : HeapValue) (k : Heap) (n : ℕ) (s : Store) (l : LentValue) (before end : CellEnd) (x : S) (q o : Option S)
    → lender_of s ≡ Some (lender_as l) → l.heap ≡ lends → lends.births ≤ own.births → Stands (record { own = own; lent = Some l }) k
    → (IsComputed before → ready x) → (IsComputed before → IsLeft opens lends n k s) → (IsComputed end → IsComputed before × (own' ≡ s.own)) → q ≡ Some x → WentOn end q o → MayRun ready opens lends own' o
may_go_on ready opens lends own own' k n s l before end x q o is heap later stands is_ready is_left same there went = may_after ready opens lends own' end x q o there went go
  where
    go : IsComputed end → ready x × (lends.births ≤ own'.births) × ((j : Heap) × StandsBehind lends own' j × opens j)
    go computed =
        let left = is_left (same computed).0 in
        let own_is = (same computed).1 in
        let behind : StandsBehind l.heap s.own left.after = behind_after s (lender_as l) left.after is (subst (λ h. IsAsLent h left.after) (sym heap) left.lent) left.stands in (
          is_ready (same computed).0,
          subst (λ (h : HeapValue). lends.births ≤ h.births) (sym own_is) (still_later own l s n opens lends k later stands left),
          (left.after, subst (λ h. StandsBehind lends h left.after) (sym own_is) (subst (λ h. StandsBehind h s.own left.after) heap behind), left.opens_again),
        )

-- a cell that takes no buffer counts nothing
pub none_raised : (n kind : ℕ) → n ≡ 0 → raise n kind ≡ 0
none_raised n zero none = none
none_raised n (suc zero) none = none
none_raised n (suc (suc zero)) none = none
none_raised n (suc (suc (suc kind))) none = refl
