-- The main heap after it has taken over what workers have counted.
use Rattle.std.proofs.Common.{◌≡◌, ℕ, ◌+◌, ◌<◌, ◌≤◌, ◌%◌, ◌^◌, Some, ap, ◌∙◌, sym, subst, length, arith}
use Rattle.std.proofs.Math.Nat.{mod-add-mod, add-mod-mod}
use Rattle.buffer_heap.specs.Heaps.{Held, HeapValue, at}
use Rattle.counted_code.specs.Values.{Buffer, Heap, buffer_at}
use Rattle.run_store.specs.Stands.{Stored, StandsFor}
use Rattle.phase_loop_laws.specs.Ordered.{Passed}
use Rattle.phase_books.specs.Homes.{IsBehind, handed}
use Rattle.phase_workers.proofs.Openings.{AreReferred}

-- counters modulo 2^64 that are added
pub added : (x y a n b : ℕ) → x ≡ a % 2 ^ 64 → y % 2 ^ 64 ≡ n % 2 ^ 64 → b ≡ a + n → (x + y) % 2 ^ 64 ≡ b % 2 ^ 64
added x y a n b first second sum =
    sym (add-mod-mod x y (2 ^ 64))
    ∙ ap (λ k. (x + k) % 2 ^ 64) second
    ∙ add-mod-mod x n (2 ^ 64)
    ∙ ap (λ k. (k + n) % 2 ^ 64) first
    ∙ mod-add-mod a (2 ^ 64) n
    ∙ ap (λ k. k % 2 ^ 64) (sym sum)

-- it stands for the machine's heap after the cells
pub handed_stands : (h home : HeapValue) (m k : Heap) (n : ℕ) → AreReferred h → StandsFor h m → Passed n m k → IsBehind h n home → StandsFor (handed h home) k
handed_stands h home m k n referred stands passed behind = record {
  stored = λ b x is. (now b x is, low b x is);
  single = stands.single;
  births = behind.births ∙ ap (λ j. j + n) stands.births ∙ sym passed.places;
  taken = added h.taken home.taken m.taken n k.taken stands.taken behind.taken passed.taken;
  given = added h.given home.given m.given n k.given stands.given behind.given passed.given;
  reused = added h.reused home.reused m.reused 0 k.reused stands.reused behind.reused (passed.reused ∙ (let same : m.reused ≡ m.reused + 0 = omega arith in same));
}
  where
    now : (b : ℕ) (x : Held) → at h b ≡ Some x → Stored (buffer_at k x.born) x
    now b x is =
        let old = (stands.stored b x is).0 in
        let some = subst (λ c. 1 ≤ c) (sym old.0) (referred b x is) in
        subst (λ (y : Buffer). Stored y x) (sym (passed.buffers x.born some)) old

    low : (b : ℕ) (x : Held) → at h b ≡ Some x → x.born < length k.buffers
    low b x is = let before = (stands.stored b x is).1 in let more = passed.places in omega (arith, before, more)
