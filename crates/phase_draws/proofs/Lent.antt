-- The parts of a whole buffer, one for each chunk.
use Rattle.std.proofs.Common.{◌≡◌, ℕ, zero, suc, ◌-◌, ◌*◌, ◌<◌, ◌≤◌, ℤ, List, length, map, Result, Ok, Err, refl, sym, ap, subst, ◌∙◌}
use Rattle.std.specs.Prelude.{OnOk, OnErr}
use Rattle.std.proofs.lemmas.List.{length-map}
use Rattle.buffer_parts.specs.Spans.{Span, lengths}
use Rattle.count_table.specs.Tallied.{PhaseTotals}
use Rattle.sac_base.specs.declared.memory.Memory as memory
use Rattle.sac_base.specs.declared.stop.Stop.{Stop}
use Rattle.sac_base.specs.declared.stop.Stop.TheVariants.{Memory}
use Rattle.phase_chunks.specs.declared.shares.Share.{Share}
use Rattle.phase_draws.specs.Endings.{IsTallied}
use Rattle.phase_draws.specs.Reports.{IsLent}

abbrev long : Span ℤ → ℕ
long p = length p.cells

-- so many lengths
long_lengths : (s n m : ℕ) → length (lengths s n m) ≡ n
long_lengths s zero m = refl
long_lengths s (suc n) m = ap (λ (k : ℕ). suc k) (long_lengths s n (m - s))

pub many_parts : (s n m : ℕ) (ps : List (Span ℤ)) → map long ps ≡ lengths s n m → length ps ≡ n
many_parts s n m ps e = sym (length-map ps long) ∙ ap (λ (l : List ℕ). length l) e ∙ long_lengths s n m

-- the parts into which a whole buffer was cut are those of its chunks
pub lent_parts : (share : Share) (n : ℕ) (buffer whole : List ℤ) (ps : List (Span ℤ)) → whole ≡ buffer → length buffer ≡ share.positions * share.width
    → map long ps ≡ lengths (share.size * share.width) n (length whole) → ((k : ℕ) → k < n → k * share.size < share.positions) → share.positions ≤ n * share.size → n ≤ 4096
    → IsLent share (length ps) ps
lent_parts share n buffer whole ps same room cut filled covers few =
    let s : ℕ = share.size * share.width in
    let m : length whole ≡ share.positions * share.width = ap (λ (l : List ℤ). length l) same ∙ room in
    let is : map long ps ≡ lengths s n (share.positions * share.width) = cut ∙ ap (λ (k : ℕ). lengths s n k) m in
    subst (λ (k : ℕ). IsLent share k ps) (sym (many_parts s n (length whole) ps cut)) (record { lengths = is; filled = filled; covers = covers; few = few })

pub tallied_as : (n k : ℕ) (before after : PhaseTotals) (r : Result (Unit {0}) Stop) → n ≡ k → IsTallied n before after r → IsTallied k before after r
tallied_as n k before after r e t = subst (λ (i : ℕ). IsTallied i before after r) e t

-- a phase that found no memory to begin
pub untallied : (n : ℕ) (before after : PhaseTotals) (r : Result (Unit {0}) Stop) → r ≡ Err Memory → IsTallied n before after r
untallied n before after r e = subst (λ (s : Result (Unit {0}) Stop). IsTallied n before after s) (sym e) tt

-- what follows from either end of a call
pub from_either : {X Y A : Type 0} (r : Result (Unit {0}) memory.Memory) → OnOk r X → OnErr r Y → (X → A) → (Y → A) → A
from_either (Ok done) ok err f g = f ok
from_either (Err e) ok err f g = g err
