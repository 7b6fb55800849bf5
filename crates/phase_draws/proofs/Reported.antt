-- One report more.
use Rattle.std.proofs.Common.{◌≡◌, ℕ, ◌+◌, ◌*◌, Bool, true, ℤ, List, [], ◌∷◌, ◌++◌, Option, None, Some, Result, Ok, Err, IfOk, refl, sym, ap, subst, ◌∙◌, arith}
use Rattle.std.specs.Prelude.{IsOk, MatchOption, is_ok, slice_get}
use Rattle.phase_chunks.specs.Chunks.{ChunkPart, ChunkReport, cells_of, count_of, partial_of, IsDone, IsMore, PartFits}
use Rattle.sac_base.specs.Verdict.{each, fold_op}
use Rattle.sac_base.specs.declared.op.Op.{Op}
use Rattle.sac_base.specs.declared.stop.Stop.{Stop}
use Rattle.sac_base.specs.declared.stop.Stop.TheVariants.{Memory}
use Rattle.wl_core.specs.declared.setup.Job.{Job}
use Rattle.wl_core.specs.declared.setup.Job.TheVariants.{Write as Store, Fold}
use Rattle.wl_core.specs.Combining.{IsFoldable}
use Rattle.wl_core.specs.Machine.{CellValue, TakesBase, combine, both}
use Rattle.wl_core.proofs.FoldLaws.{foldable, elementwise-foldable}
use Rattle.phase_chunks.specs.declared.shares.Share.{Share}
use Rattle.phase_draws.specs.Reports.{AllOk, AreCombined, AreDone, Combine, CostOf, IsReport, cost_of, gathered}
use Rattle.phase_team.specs.Segments.{cost_from, Costs, Same}
use Rattle.phase_team.proofs.Sequences.{both-none, same_of, same_sum, same_then}

pub done_push : (cell : ℕ → CellValue) (share : Share) (parts : List ChunkPart) (rs : List ChunkReport) (r : ChunkReport) → AreDone cell share parts rs → IsReport cell share parts r → AreDone cell share parts (rs ++ r ∷ [])
done_push cell share parts [] r all one = (one, tt)
done_push cell share parts (q ∷ rs) r all one = (all.0, done_push cell share parts rs r all.1 one)

pub ok_front : (rs : List ChunkReport) (r : ChunkReport) → AllOk (rs ++ r ∷ []) → AllOk rs
ok_front [] r all = tt
ok_front (q ∷ rs) r all = (all.0, ok_front rs r all.1)

pub ok_last : (rs : List ChunkReport) (r : ChunkReport) → AllOk (rs ++ r ∷ []) → IsOk r.end
ok_last [] r all = all.0
ok_last (q ∷ rs) r all = ok_last rs r all.1

cost_push : (cost : ℕ → ℕ) (share : Share) (rs : List ChunkReport) (r : ChunkReport) → cost_of cost share (rs ++ r ∷ []) ≡ cost_of cost share rs + cost_from cost (r.chunk * share.size) (count_of share r.chunk)
cost_push cost share [] r = let n : ℕ = cost_from cost (r.chunk * share.size) (count_of share r.chunk) in let e : n + 0 ≡ 0 + n = omega arith in e
cost_push cost share (q ∷ rs) r = let ih = cost_push cost share rs r in omega arith

pub costs_push : (cost : ℕ → ℕ → ℕ) (share : Share) (rs : List ChunkReport) (r : ChunkReport) (a b c : ℕ → ℕ) → CostOf cost share rs a b → Costs cost (r.chunk * share.size) (count_of share r.chunk) b c → CostOf cost share (rs ++ r ∷ []) a c
costs_push cost share rs r a b c before next kind =
    let n : ℕ = cost_from (cost kind) (r.chunk * share.size) (count_of share r.chunk) in
    let m : ℕ = cost_of (cost kind) share rs in
    let s : Same kind (b kind + n) ((a kind + m) + n) = same_sum kind (b kind) (a kind + m) n n (before kind) (same_of kind n n refl) in
    let more = cost_push (cost kind) share rs r in
    let e : (a kind + m) + n ≡ a kind + cost_of (cost kind) share (rs ++ r ∷ []) = omega arith in
    same_then kind (c kind) (b kind + n) (a kind + cost_of (cost kind) share (rs ++ r ∷ [])) (next kind)
    (same_then kind (b kind + n) ((a kind + m) + n) (a kind + cost_of (cost kind) share (rs ++ r ∷ [])) s (same_of kind ((a kind + m) + n) (a kind + cost_of (cost kind) share (rs ++ r ∷ [])) e))

module _ {A : Type 0} (op : A → A → A) (laws : IsFoldable op) where
  pub both-assoc : (a b c : Option A) → both op (both op a b) c ≡ both op a (both op b c)
  both-assoc None b c = refl
  both-assoc (Some x) None c = refl
  both-assoc (Some x) (Some y) None = refl
  both-assoc (Some x) (Some y) (Some z) = ap (λ (w : A). Some w) (laws.assoc x y z)

pub gathered_push : (op : Op) → IsFoldable (combine op) → (cell : ℕ → CellValue) (share : Share) (rs : List ChunkReport) (r : ChunkReport)
    → gathered op cell share (rs ++ r ∷ []) ≡ both (combine op) (gathered op cell share rs) (partial_of op (each (cells_of cell share r.chunk)))
gathered_push op laws cell share [] r = both-none (combine op) (partial_of op (each (cells_of cell share r.chunk)))
gathered_push op laws cell share (q ∷ rs) r =
    let first = partial_of op (each (cells_of cell share q.chunk)) in
    ap (λ (o : Option (List ℤ)). both (combine op) first o) (gathered_push op laws cell share rs r)
    ∙ sym (both-assoc (combine op) laws first (gathered op cell share rs) (partial_of op (each (cells_of cell share r.chunk))))

pub combine_push : (job : Job) → TakesBase job → (cell : ℕ → CellValue) (share : Share) (rs : List ChunkReport) (r : ChunkReport) (held more : Bool) (before after : List ℤ)
    → Combine job cell share rs held before → IsMore job share.width (cells_of cell share r.chunk) held before more after → Combine job cell share (rs ++ r ∷ []) more after
combine_push Store takes cell share rs r held more before after sofar next = tt
combine_push (Fold base op) takes cell share rs r held more before after sofar next =
    let laws = elementwise-foldable (fold_op op) (foldable base op takes) in
    next ∙ ap (λ (o : Option (List ℤ)). both (combine op) o (partial_of op (each (cells_of cell share r.chunk)))) sofar ∙ sym (gathered_push op laws cell share rs r)

-- ---- one chunk's report

pub report_is : (cell : ℕ → CellValue) (share : Share) (parts : List ChunkPart) (r : ChunkReport) (chunk : ℕ) (part : ChunkPart) → r.chunk ≡ chunk → slice_get parts chunk ≡ Some part
    → IsDone share.job share.width (cells_of cell share chunk) part r.part r.end → IsReport cell share parts r
report_is cell share parts r chunk part own at done =
    let there : slice_get parts r.chunk ≡ Some part = ap (slice_get parts) own ∙ at in
    subst (λ (o : Option ChunkPart). MatchOption o ⊥ (λ p. IsDone share.job share.width (cells_of cell share r.chunk) p r.part r.end)) (sym there)
    (subst (λ (n : ℕ). IsDone share.job share.width (cells_of cell share n) part r.part r.end) (sym own) done)

-- a part that was handed back as it was
kept_part : (job : Job) (width n : ℕ) (cells : List CellValue) (part : ChunkPart) → PartFits job n part → IsDone job width cells part part (Err Memory)
kept_part Store width n cells None fits = absurd fits
kept_part Store width n cells (Some p) fits = ((refl, refl), tt)
kept_part (Fold base op) width n cells None fits = tt
kept_part (Fold base op) width n cells (Some p) fits = absurd fits

pub handed_report : (cell : ℕ → CellValue) (share : Share) (parts : List ChunkPart) (r : ChunkReport) (chunk n : ℕ) (part : ChunkPart) → r.chunk ≡ chunk → r.part ≡ part → r.end ≡ Err Memory → slice_get parts chunk ≡ Some part
    → PartFits share.job n part → IsReport cell share parts r
handed_report cell share parts r chunk n part own same end at fits =
    report_is cell share parts r chunk part own at
    (subst (λ (p : ChunkPart). IsDone share.job share.width (cells_of cell share chunk) part p r.end) (sym same)
    (subst (λ (e : Result Bool Stop). IsDone share.job share.width (cells_of cell share chunk) part part e) (sym end) (kept_part share.job share.width n (cells_of cell share chunk) part fits)))

-- ---- ends

err_not_ok : (r : Result Bool Stop) → IsOk r → (stop : Stop) → r ≡ Err stop → ⊥
err_not_ok r is stop e = let no : IsOk {T = Bool} {E = Stop} (Err stop) = subst (λ (s : Result Bool Stop). IsOk s) e is in absurd (cc)

of_ok : (r : Result Bool Stop) (P : Type 0) → IsOk r → IfOk r (λ held. P) → P
of_ok (Ok held) P is h = h
of_ok (Err stop) P is h = absurd (err_not_ok (Err stop) is stop refl)

pub is_ok_true : (r : Result Bool Stop) → IsOk r → is_ok r ≡ true
is_ok_true (Ok held) is = refl
is_ok_true (Err stop) is = absurd (err_not_ok (Err stop) is stop refl)

pub not_ok : (r : Result Bool Stop) → r ≡ Err Memory → IsOk r → ⊥
not_ok r e is = err_not_ok r is Memory e

pub costs_if : (cost : ℕ → ℕ → ℕ) (share : Share) (rs : List ChunkReport) (r : ChunkReport) (chunk : ℕ) (a b c : ℕ → ℕ) → r.chunk ≡ chunk → IsOk r.end → CostOf cost share rs a b
    → IfOk r.end (λ held. Costs cost (chunk * share.size) (count_of share chunk) b c) → CostOf cost share (rs ++ r ∷ []) a c
costs_if cost share rs r chunk a b c own is before next =
    costs_push cost share rs r a b c before
    (subst (λ (n : ℕ). Costs cost (n * share.size) (count_of share n) b c) (sym own) (of_ok r.end (Costs cost (chunk * share.size) (count_of share chunk) b c) is next))

pub combined_if : (cell : ℕ → CellValue) (share : Share) → TakesBase share.job → (rs : List ChunkReport) (r : ChunkReport) (chunk : ℕ) (held more : Bool) (before after : List ℤ) → r.chunk ≡ chunk → IsOk r.end
    → AreCombined cell share rs held before → IfOk r.end (λ h. IsMore share.job share.width (cells_of cell share chunk) held before more after) → AreCombined cell share (rs ++ r ∷ []) more after
combined_if cell share base rs r chunk held more before after own is sofar next =
    combine_push share.job base cell share rs r held more before after sofar
    (subst (λ (n : ℕ). IsMore share.job share.width (cells_of cell share n) held before more after) (sym own) (of_ok r.end (IsMore share.job share.width (cells_of cell share chunk) held before more after) is next))

-- ---- the reports of two sides

pub done_both : (cell : ℕ → CellValue) (share : Share) (parts : List ChunkPart) (rs qs : List ChunkReport) → AreDone cell share parts rs → AreDone cell share parts qs → AreDone cell share parts (rs ++ qs)
done_both cell share parts [] qs all others = others
done_both cell share parts (r ∷ rs) qs all others = (all.0, done_both cell share parts rs qs all.1 others)

pub ok_both : (rs qs : List ChunkReport) → AllOk (rs ++ qs) → AllOk rs × AllOk qs
ok_both [] qs all = (tt, all)
ok_both (r ∷ rs) qs all = let rest = ok_both rs qs all.1 in ((all.0, rest.0), rest.1)

cost_both : (cost : ℕ → ℕ) (share : Share) (rs qs : List ChunkReport) → cost_of cost share (rs ++ qs) ≡ cost_of cost share rs + cost_of cost share qs
cost_both cost share [] qs = let n : ℕ = cost_of cost share qs in let e : n ≡ 0 + n = omega arith in e
cost_both cost share (r ∷ rs) qs = let ih = cost_both cost share rs qs in omega arith

-- a context that began with nothing was handed back, behind what others have counted
pub costs_both : (cost : ℕ → ℕ → ℕ) (share : Share) (rs qs : List ChunkReport) (h h' k w w' : ℕ → ℕ) → CostOf cost share rs h h' → CostOf cost share qs w w' → ((kind : ℕ) → w kind ≡ 0)
    → ((kind : ℕ) → Same kind (k kind) (h' kind + w' kind)) → CostOf cost share (rs ++ qs) h k
costs_both cost share rs qs h h' k w w' others mine none back kind =
    let a : ℕ = cost_of (cost kind) share rs in
    let b : ℕ = cost_of (cost kind) share qs in
    let z = none kind in
    let both = cost_both (cost kind) share rs qs in
    let s : Same kind (h' kind + w' kind) ((h kind + a) + (w kind + b)) = same_sum kind (h' kind) (h kind + a) (w' kind) (w kind + b) (others kind) (mine kind) in
    let e : (h kind + a) + (w kind + b) ≡ h kind + cost_of (cost kind) share (rs ++ qs) = omega arith in
    same_then kind (k kind) (h' kind + w' kind) (h kind + cost_of (cost kind) share (rs ++ qs)) (back kind)
    (same_then kind (h' kind + w' kind) ((h kind + a) + (w kind + b)) (h kind + cost_of (cost kind) share (rs ++ qs)) s (same_of kind ((h kind + a) + (w kind + b)) (h kind + cost_of (cost kind) share (rs ++ qs)) e))

pub gathered_both : (op : Op) → IsFoldable (combine op) → (cell : ℕ → CellValue) (share : Share) (rs qs : List ChunkReport) → gathered op cell share (rs ++ qs) ≡ both (combine op) (gathered op cell share rs) (gathered op cell share qs)
gathered_both op laws cell share [] qs = refl
gathered_both op laws cell share (r ∷ rs) qs =
    let first = partial_of op (each (cells_of cell share r.chunk)) in
    ap (λ (o : Option (List ℤ)). both (combine op) first o) (gathered_both op laws cell share rs qs)
    ∙ sym (both-assoc (combine op) laws first (gathered op cell share rs) (gathered op cell share qs))
