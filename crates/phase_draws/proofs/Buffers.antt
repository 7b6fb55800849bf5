-- The buffer of a whole phase.
use Rattle.std.proofs.Common.{◌≡◌, ℕ, zero, suc, ◌+◌, ◌-◌, ◌*◌, ◌<◌, ◌≤◌, min, Bool, true, ℤ, List, [], ◌∷◌, ◌++◌, length, map, None, Some, Result, Ok, Err, IfOk, refl, sym, ap, subst, ◌∙◌, inl, inr, arith}
use Rattle.std.specs.Prelude.{slice_get}
use Rattle.std.proofs.lemmas.Bool.{cases_order}
use Rattle.std.proofs.lemmas.List.{length-map}
use Rattle.std.proofs.Math.Nat.{add-mul, mul-le-mul_right, mul_assoc, suc-mul}
use Rattle.buffer_parts.specs.Spans.{Span, KeepsPlace, KeepPlaces, joined, lengths}
use Rattle.sac_base.specs.declared.memory.Memory as memory
use Rattle.sac_base.specs.declared.stop.Stop.{Stop}
use Rattle.sac_base.specs.declared.stop.Stop.TheVariants.{Faulted, Memory}
use Rattle.chunk_reports.specs.Orders.{counting}
use Rattle.chunk_reports.specs.Stops.{first_stop_of, stop_or}
use Rattle.count_table.specs.Opening.{present}
use Rattle.wl_core.specs.declared.setup.Job.{Job}
use Rattle.wl_core.specs.declared.setup.Job.TheVariants.{Write as Store}
use Rattle.wl_core.specs.Machine.{CellValue}
use Rattle.phase_team.specs.Endings.{IsArray}
use Rattle.phase_team.specs.Segments.{cells_from, Costs, Ran}
use Rattle.phase_team.proofs.Merges.{merged, stops-front, stops-back}
use Rattle.phase_team.proofs.Sequences.{widths_none}
use Rattle.phase_chunks.specs.declared.shares.Share.{Share}
use Rattle.phase_chunks.specs.Chunks.{cells_of, count_of, ChunkPart, ChunkReport, IsDone, PartFits}
use Rattle.phase_chunks.specs.declared.ends.TeamEnd.{TeamEnd}
use Rattle.phase_chunks.specs.Answering.{Answers}
use Rattle.phase_draws.specs.Endings.{IsEnded}
use Rattle.phase_draws.specs.Reports.{AllOk, AreDone, Combine, IsLent, PartsFit}
use Rattle.phase_draws.proofs.Chunked.{cells_all, chunk_cells}
use Rattle.phase_draws.proofs.Ended.{ok_all, report_at}

abbrev head : List ℕ → ℕ
head [] = 0
head (x ∷ xs) = x

abbrev tail : List ℕ → List ℕ
tail [] = []
tail (x ∷ xs) = xs

abbrev pub chunk_in : ChunkReport → ℕ
chunk_in r = r.chunk

abbrev pub part_in : ChunkReport → ChunkPart
part_in r = r.part

abbrev as_held : Result (Unit {0}) Stop → Result Bool Stop
as_held (Ok done) = Ok true
as_held (Err stop) = Err stop

-- ---- parts that were cut

min_times : (a b w : ℕ) → min (a * w) (b * w) ≡ min a b * w
min_times a b w =
    elim (cases_order a b) [
      | inl same ↦ (let e : min a b ≡ a = omega (arith, same) in let f : a * w ≡ b * w = ap (λ (n : ℕ). n * w) same in let g : min a b * w ≡ a * w = ap (λ (n : ℕ). n * w) e in omega (arith, f, g))
      | inr (inl below) ↦ (let e : min a b ≡ a = omega (arith, below) in let f : a * w ≤ b * w = mul-le-mul_right w (let l : a ≤ b = omega (arith, below) in l) in let g : min a b * w ≡ a * w = ap (λ (n : ℕ). n * w) e in omega (arith, f, g))
      | inr (inr above) ↦ (let e : min a b ≡ b = omega (arith, above) in let f : b * w ≤ a * w = mul-le-mul_right w (let l : b ≤ a = omega (arith, above) in l) in let g : min a b * w ≡ b * w = ap (λ (n : ℕ). n * w) e in omega (arith, f, g))
    ]

-- the length of a chunk's part
chunk_long : (share : Share) (c : ℕ) → c * share.size < share.positions → min (share.size * share.width) (share.positions * share.width - c * (share.size * share.width)) ≡ count_of share c * share.width
chunk_long share c lt =
    let w : ℕ = share.width in
    let b : ℕ = share.positions - c * share.size in
    let p : share.positions ≡ c * share.size + b = omega arith in
    let pw : share.positions * w ≡ (c * share.size) * w + b * w = ap (λ (n : ℕ). n * w) p ∙ add-mul (c * share.size) b w in
    let turned : (c * share.size) * w ≡ c * (share.size * w) = mul_assoc c share.size w in
    let rest : share.positions * w - c * (share.size * w) ≡ b * w = omega arith in
    ap (λ (n : ℕ). min (share.size * w) n) rest ∙ min_times share.size b w

abbrev long : Span ℤ → ℕ
long p = length p.cells

part_at : (ps : List (Span ℤ)) (s n m : ℕ) → map long ps ≡ lengths s n m → (c : ℕ) (part : ChunkPart) → slice_get (map (λ (p : Span ℤ). Some p) ps) c ≡ Some part
    → (p : Span ℤ) × (part ≡ Some p) × (c < n) × (length p.cells ≡ min s (m - c * s))
part_at [] s n m e c part at = absurd (cc)
part_at (q ∷ ps) s zero m e c part at = absurd (let l = ap length e in omega arith)
part_at (q ∷ ps) s (suc n) m e zero part at =
    let z : m - 0 * s ≡ m = omega arith in
    let first : length q.cells ≡ min s m = ap head e in
    (q, cc, omega arith, first ∙ ap (λ (k : ℕ). min s k) (sym z))
part_at (q ∷ ps) s (suc n) m e (suc c) part at =
    let rest = part_at ps s n (m - s) (ap tail e) c part at in
    let more : suc c * s ≡ c * s + s = suc-mul c s in
    let k : (m - s) - c * s ≡ m - suc c * s = omega arith in
    let lt = rest.2 in
    (rest.0, rest.1, omega arith, rest.3 ∙ ap (λ (i : ℕ). min s i) k)

pub parts_fit : (share : Share) → share.job ≡ Store → (n : ℕ) (ps : List (Span ℤ)) → map long ps ≡ lengths (share.size * share.width) n (share.positions * share.width)
    → ((k : ℕ) → k < n → k * share.size < share.positions) → PartsFit share (map (λ (p : Span ℤ). Some p) ps)
parts_fit share store n ps e filled c part at =
    let there = part_at ps (share.size * share.width) n (share.positions * share.width) e c part at in
    let within = filled c there.2 in
    let fits : PartFits Store (count_of share c * share.width) (Some there.0) = there.3 ∙ chunk_long share c within in
    (within, subst (λ (j : Job). PartFits j (count_of share c * share.width) part) (sym store) (subst (λ (p : ChunkPart). PartFits Store (count_of share c * share.width) p) (sym there.1) fits))

-- ---- parts that came back

stored_of : (width : ℕ) (cells : List CellValue) (part after : ChunkPart) (end : Result Bool Stop) → IsDone Store width cells part after end
    → (p : Span ℤ) × (q : Span ℤ) × (part ≡ Some p) × (after ≡ Some q) × KeepsPlace p q × Ran Store width cells q.cells end
stored_of width cells None after end d = absurd d
stored_of width cells (Some p) None end d = absurd d
stored_of width cells (Some p) (Some q) end d = (p, q, refl, refl, d.0, d.1)

ran_step : (width : ℕ) (xs ys : List CellValue) (q rest : List ℤ) (end : Result Bool Stop) (later : Result (Unit {0}) Stop) → Ran Store width xs q end → Ran Store width ys rest (as_held later)
    → Ran Store width (xs ++ ys) (q ++ rest) (as_held (stop_or end later))
ran_step width xs ys q rest (Ok held) (Ok done) a b = merged width Store tt xs ys q rest q held true true tt refl a b
ran_step width xs ys q rest (Ok held) (Err stop) a b = stops-back width Store xs ys q rest (q ++ rest) held stop a b
ran_step width xs ys q rest (Err stop) later a b = stops-front width Store xs ys q (q ++ rest) stop a

module _ (cell : ℕ → CellValue) (share : Share) (store : share.job ≡ Store) (parts : List ChunkPart) where
  one_of : (r : ChunkReport) (part : ChunkPart) → IsDone share.job share.width (cells_of cell share r.chunk) part r.part r.end
      → (p : Span ℤ) × (q : Span ℤ) × (part ≡ Some p) × (r.part ≡ Some q) × KeepsPlace p q × Ran Store share.width (cells_of cell share r.chunk) q.cells r.end
  one_of r part d = stored_of share.width (cells_of cell share r.chunk) part r.part r.end (subst (λ (j : Job). IsDone j share.width (cells_of cell share r.chunk) part r.part r.end) store d)

  pub array_from : (k c : ℕ) (rs : List ChunkReport) → map chunk_in rs ≡ counting c k → AreDone cell share parts rs
      → Ran Store share.width (chunk_cells cell share c k) (joined (present (map part_in rs))) (as_held (first_stop_of rs))
  array_from zero c [] e all = ([], refl, refl, widths_none share.width)
  array_from zero c (r ∷ rs) e all = absurd (let l = ap length e in omega arith)
  array_from (suc k) c [] e all = absurd (let l = ap length e in omega arith)
  array_from (suc k) c (r ∷ rs) e all =
      let own : r.chunk ≡ c = ap head e in
      let at = report_at cell share parts r all.0 in
      let one = one_of r at.0 at.2 in
      let q : Span ℤ = one.1 in
      let rest : List ℤ = joined (present (map part_in rs)) in
      let step = ran_step share.width (cells_of cell share r.chunk) (chunk_cells cell share (c + 1) k) q.cells rest r.end (first_stop_of rs) one.5 (array_from k (c + 1) rs (ap tail e) all.1) in
      subst (λ (o : ChunkPart). Ran Store share.width (cells_of cell share c ++ chunk_cells cell share (c + 1) k) (joined (present (o ∷ map part_in rs))) (as_held (stop_or r.end (first_stop_of rs)))) (sym one.3)
      (subst (λ (n : ℕ). Ran Store share.width (cells_of cell share n ++ chunk_cells cell share (c + 1) k) (q.cells ++ rest) (as_held (stop_or r.end (first_stop_of rs)))) own step)

  pub kept_from : (k c : ℕ) (rs : List ChunkReport) → map chunk_in rs ≡ counting c k → AreDone cell share parts rs → (ps : List (Span ℤ)) → length ps ≡ k
      → ((j : ℕ) → slice_get parts (c + j) ≡ slice_get (map (λ (p : Span ℤ). Some p) ps) j) → KeepPlaces ps (present (map part_in rs))
  kept_from zero c [] e all [] long at = tt
  kept_from zero c [] e all (p ∷ ps) long at = absurd (omega arith)
  kept_from zero c (r ∷ rs) e all ps long at = absurd (let l = ap length e in omega arith)
  kept_from (suc k) c [] e all ps long at = absurd (let l = ap length e in omega arith)
  kept_from (suc k) c (r ∷ rs) e all [] long at = absurd (omega arith)
  kept_from (suc k) c (r ∷ rs) e all (p ∷ ps) long at =
      let own : r.chunk ≡ c = ap head e in
      let there = report_at cell share parts r all.0 in
      let one = one_of r there.0 there.2 in
      let q : Span ℤ = one.1 in
      let here : c + 0 ≡ r.chunk = omega arith in
      let same : Some (Some p) ≡ Some (Some one.0) = sym (at 0) ∙ ap (slice_get parts) here ∙ there.1 ∙ ap (λ (o : ChunkPart). Some o) one.2 in
      let is : p ≡ one.0 = cc in
      let rest = kept_from k (c + 1) rs (ap tail e) all.1 ps (omega arith) (λ j. ap (slice_get parts) (let s : (c + 1) + j ≡ c + suc j = omega arith in s) ∙ at (suc j)) in
      subst (λ (o : ChunkPart). KeepPlaces (p ∷ ps) (present (o ∷ map part_in rs))) (sym one.3)
      (subst (λ (s : Span ℤ). KeepsPlace s q) (sym is) one.4, rest)

-- what a phase answers of its buffer
pub array_of : (width : ℕ) (cells : List CellValue) (rows : List ℤ) (first : Result (Unit {0}) Stop) → Ran Store width cells rows (as_held first) → IsArray cells rows first
array_of width cells rows (Ok done) r = (r.0, r.1, r.2)
array_of width cells rows (Err (Faulted fault)) r = r
array_of width cells rows (Err Memory) r = tt

-- parts that come back as they were lent
pub kept_same : (ps : List (Span ℤ)) → KeepPlaces ps ps
kept_same [] = tt
kept_same (p ∷ ps) = ((refl, refl), kept_same ps)

present_all : (ps : List (Span ℤ)) → present (map (λ (p : Span ℤ). Some p) ps) ≡ ps
present_all [] = refl
present_all (p ∷ ps) = ap (λ (l : List (Span ℤ)). p ∷ l) (present_all ps)

pub places_same : (ps back : List (Span ℤ)) (slots : List ChunkPart) → slots ≡ map (λ (p : Span ℤ). Some p) ps → back ≡ present slots → KeepPlaces ps back
places_same ps back slots is all = subst (λ (l : List (Span ℤ)). KeepPlaces ps l) (sym (all ∙ ap (λ (l : List ChunkPart). present l) is ∙ present_all ps)) (kept_same ps)

-- ---- a whole phase

module _ (cell : ℕ → CellValue) (cost : ℕ → ℕ → ℕ) (share : Share) (store : share.job ≡ Store) (ps : List (Span ℤ)) (lent : IsLent share (length ps) ps) (k k' : ℕ → ℕ) (rows : List ℤ) (end : TeamEnd)
    (ended : IsEnded cell cost share (map (λ (p : Span ℤ). Some p) ps) k k' rows end) where
  slots : List ChunkPart
  slots = map (λ (p : Span ℤ). Some p) ps

  order : map chunk_in end.reports.items ≡ counting 0 (length ps)
  order = ended.order ∙ ap (counting 0) (length-map ps (λ (p : Span ℤ). Some p))

  pub places_back : KeepPlaces ps (present (map part_in end.reports.items))
  places_back = kept_from cell share store (map (λ (p : Span ℤ). Some p) ps) (length ps) 0 end.reports.items order ended.done ps refl (λ j. ap (slice_get (map (λ (p : Span ℤ). Some p) ps)) (let e : 0 + j ≡ j = omega arith in e))

  ran : Ran Store share.width (cells_from cell 0 share.positions) (joined (present (map part_in end.reports.items))) (as_held (first_stop_of end.reports.items))
  ran =
      subst (λ (l : List CellValue). Ran Store share.width l (joined (present (map part_in end.reports.items))) (as_held (first_stop_of end.reports.items)))
      (sym (cells_all share cell (length ps) lent.filled lent.covers))
      (array_from cell share store (map (λ (p : Span ℤ). Some p) ps) (length ps) 0 end.reports.items order ended.done)

  costs : (held : Bool) → end.held ≡ Ok held → (first : Result (Unit {0}) Stop) → first_stop_of end.reports.items ≡ first → IfOk first (λ done. Costs cost 0 share.positions k k')
  costs held e (Ok done) none =
      let t = subst (λ (r : Result Bool memory.Memory). IfOk r (λ h. AllOk end.reports.items → Costs cost 0 share.positions k k' × Combine share.job cell share end.reports.items h rows)) e ended.told in
      (t (ok_all end.reports.items none)).0
  costs held e (Err stop) none = tt

  answer : (result : Result (Unit {0}) Stop) (held : Result Bool memory.Memory) → end.held ≡ held → Answers (first_stop_of end.reports.items) held result
      → IsArray (cells_from cell 0 share.positions) (joined (present (map part_in end.reports.items))) result × IfOk result (λ done. Costs cost 0 share.positions k k')
  answer result (Ok held) e is = (
    subst (λ (r : Result (Unit {0}) Stop). IsArray (cells_from cell 0 share.positions) (joined (present (map part_in end.reports.items))) r) (sym is)
        (array_of share.width (cells_from cell 0 share.positions) (joined (present (map part_in end.reports.items))) (first_stop_of end.reports.items) ran),
    subst (λ (r : Result (Unit {0}) Stop). IfOk r (λ done. Costs cost 0 share.positions k k')) (sym is) (costs held e (first_stop_of end.reports.items) refl),
  )
  answer result (Err m) e is = (
    subst (λ (r : Result (Unit {0}) Stop). IsArray (cells_from cell 0 share.positions) (joined (present (map part_in end.reports.items))) r) (sym is) tt,
    subst (λ (r : Result (Unit {0}) Stop). IfOk r (λ done. Costs cost 0 share.positions k k')) (sym is) tt,
  )

  pub buffer_answer : (result : Result (Unit {0}) Stop) → Answers (first_stop_of end.reports.items) end.held result
      → IsArray (cells_from cell 0 share.positions) (joined (present (map part_in end.reports.items))) result × IfOk result (λ done. Costs cost 0 share.positions k k')
  buffer_answer result is = answer result end.held refl is

-- as many reports as chunks
long_counting : (c n : ℕ) → length (counting c n) ≡ n
long_counting c zero = refl
long_counting c (suc n) = ap (λ (k : ℕ). suc k) (long_counting (c + 1) n)

pub as_many : (rs : List ChunkReport) (n : ℕ) → map chunk_in rs ≡ counting 0 n → length rs ≡ n
as_many rs n e = sym (length-map rs chunk_in) ∙ ap (λ (l : List ℕ). length l) e ∙ long_counting 0 n
