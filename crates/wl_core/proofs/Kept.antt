-- Each event keeps the facts.
use Rattle.std.proofs.Common.{◌≡◌, ◌≢◌, ℕ, zero, suc, ◌+◌, ◌-◌, ◌*◌, ◌<◌, ◌≤◌, ◌^◌, ◌/◌, ◌⊎◌, true, false, ℤ, List, [], ◌∷◌, ◌++◌, length, Option, None, Some, Ok, Err, refl, sym, ap, ◌∙◌, subst, ⊎_elim, arith}
use Rattle.std.proofs.lemmas.Bool.{cases_eq, true≢false, cases_lt}
use Rattle.std.proofs.Math.Nat.{mul-le-mul_right, div-mul-le_self}
use Rattle.std.specs.Prelude.{slice_get, slice_index}
use Rattle.sac_base.specs.declared.faults.Fault.{Fault}
use Rattle.wl_core.specs.declared.setup.Job.{Job}
use Rattle.wl_core.specs.declared.setup.Job.TheVariants.{Write as Store, Fold}
use Rattle.wl_core.specs.declared.events.Event.{Event}
use Rattle.wl_core.specs.declared.events.Event.TheVariants.{Draw, Keep, Release, Write, Stop}
use Rattle.wl_core.specs.Machine.{SetupValue, StateValue, IsSetup, combine, Steps, Runs, Reached, Works, opened, put, first, end, chunks, sum_below, listed, both, store, gather}
use Rattle.wl_core.specs.Facts.{Facts, cell_at, value_of, own, stored_by, partial_by}
use Rattle.wl_core.proofs.Functions.{put_same, put_other, sum-same, sum-put, sum-none, one-le}
use Rattle.wl_core.proofs.Written.{stored_more, partials_more}
use Rattle.wl_core.proofs.Combining.{gathered, gathered_is}

-- two chunks have no position in common
apart_lt : (u : SetupValue) (c d p : ℕ) → p < end u c → first u d ≤ p → c < d → ⊥
apart_lt u c d p a b lt = let m : suc c * u.size ≤ d * u.size = mul-le-mul_right u.size lt in let e : suc c * u.size ≡ c * u.size + u.size = omega arith in omega arith

pub apart : (u : SetupValue) (c d p : ℕ) → first u c ≤ p → p < end u c → first u d ≤ p → p < end u d → c ≡ d
apart u c d p a b a' b' = ⊎_elim (λ (lt : c < d). absurd (apart_lt u c d p b a' lt)) (λ (ge : d ≤ c). ⊎_elim (λ (lt : d < c). absurd (apart_lt u d c p b' a lt)) (λ (le : c ≤ d). omega arith) (cases_lt d c)) (cases_lt c d)

-- a chunk has a first position
pub first_below : (u : SetupValue) (m : ℕ) → 1 ≤ u.size → m < chunks u → first u m < length u.cells
first_below u m some lt =
    let x : ℕ = length u.cells + (u.size - 1) in
    let k : suc m * u.size ≤ x / u.size * u.size = mul-le-mul_right u.size lt in
    let d : x / u.size * u.size ≤ x = div-mul-le_self x u.size in
    let e : suc m * u.size ≡ m * u.size + u.size = omega arith in omega arith

module _ (u : SetupValue) (s : StateValue) (is : IsSetup u) (h : Facts u s) where
  drew : (w : ℕ) → w < u.workers → ((c : ℕ) → ¬ Works u s w c) → s.taken < chunks u
      → Facts u (record s { taken = s.taken + 1; owner = put s.owner s.taken w; next = put s.next s.taken (first u s.taken); stopped = put s.stopped s.taken false })
  drew w worker idle left =
      let m = s.taken in
      let t : StateValue = record s { taken = m + 1; owner = put s.owner m w; next = put s.next m (first u m); stopped = put s.stopped m false } in
      let at : (c : ℕ) → (c ≡ m) ⊎ (c ≢ m) = λ c. cases_eq c m in
      let o : (c : ℕ) → c ≢ m → put s.owner m w c ≡ s.owner c = λ c ne. put_other s.owner m w c ne in
      let n : (c : ℕ) → c ≢ m → put s.next m (first u m) c ≡ s.next c = λ c ne. put_other s.next m (first u m) c ne in
      let st : (c : ℕ) → c ≢ m → put s.stopped m false c ≡ s.stopped c = λ c ne. put_other s.stopped m false c ne in
      let old : (v c : ℕ) → c ≢ m → Works u t v c → Works u s v c = (λ v c ne k. (let x = k.0 in omega arith, sym (o c ne) ∙ k.1, (let x = k.2 in let y = n c ne in omega arith), sym (st c ne) ∙ k.3)) in
      record {
        taken_few = omega arith;
        owners = λ c lt. ⊎_elim (λ (e : c ≡ m). let x = put_same s.owner m w c e in omega arith) (λ (ne : c ≢ m). let x = o c ne in let y = h.owners c (omega arith) in omega arith) (at c);
        one_each = λ v c d k l. ⊎_elim
            (λ (e : c ≡ m). ⊎_elim (λ (e' : d ≡ m). e ∙ sym e') (λ (ne : d ≢ m). let v_is : v ≡ w = sym k.1 ∙ put_same s.owner m w c e in absurd (idle d (subst (λ (x : ℕ). Works u s x d) v_is (old v d ne l)))) (at d))
            (λ (ne : c ≢ m). ⊎_elim (λ (e' : d ≡ m). let v_is : v ≡ w = sym l.1 ∙ put_same s.owner m w d e' in absurd (idle c (subst (λ (x : ℕ). Works u s x c) v_is (old v c ne k)))) (λ (ne' : d ≢ m). h.one_each v c d (old v c ne k) (old v d ne' l)) (at d))
            (at c);
        within = λ c lt. ⊎_elim
            (λ (e : c ≡ m). let x = put_same s.next m (first u m) c e in let f = first_below u m is.size left in let fc : first u c ≡ first u m = ap (first u) e in let ec : end u c ≡ end u m = ap (end u) e in (omega arith, omega arith))
            (λ (ne : c ≢ m). let x = n c ne in let y = h.within c (omega arith) in (omega arith, omega arith))
            (at c);
        done = λ c p lt from below. ⊎_elim
            (λ (e : c ≡ m). let x = put_same s.next m (first u m) c e in let fc : first u c ≡ first u m = ap (first u) e in absurd (omega arith))
            (λ (ne : c ≢ m). let x = n c ne in let y = h.done c p (omega arith) from (omega arith) in (y.0 ∙ ap (λ (k : ℕ). k ∷ []) (sym (o c ne)), y.1))
            (at c);
        ahead = λ c p lt from below. ⊎_elim
            (λ (e : c ≡ m). let x = put_same s.next m (first u m) c e in let fc : first u c ≡ first u m = ap (first u) e in h.untaken c p (omega arith) (omega arith) below)
            (λ (ne : c ≢ m). let x = n c ne in h.ahead c p (omega arith) (omega arith) below)
            (at c);
        untaken = λ c p le from below. h.untaken c p (omega arith) from below;
        stored = h.stored;
        partials = h.partials;
        stops = λ c lt stop. ⊎_elim
            (λ (e : c ≡ m). absurd (true≢false (sym stop ∙ put_same s.stopped m false c e)))
            (λ (ne : c ≢ m). let y = h.stops c (omega arith) (sym (st c ne) ∙ stop) in let x = n c ne in ((let z = y.0 in omega arith), (y.1.0, ap (slice_get u.cells) x ∙ y.1.1)))
            (at c);
        counts = h.counts;
        few = h.few;
      }

  -- a position of a taken chunk that is not c's
  other_position : (c d p : ℕ) → c < s.taken → s.next c < end u c → first u d ≤ p → p < end u d → d ≢ c → p ≢ s.next c
  other_position c d p lt works from below ne e = let y = h.within c lt in ne (apart u d c p from below (omega arith) (omega arith))

  wrote : (w c : ℕ) (value : Option (List ℤ)) → Works u s w c → slice_get u.cells (s.next c) ≡ Some (Ok value)
      → Facts u (record s { next = put s.next c (s.next c + 1); written = put s.written (s.next c) (s.written (s.next c) ++ w ∷ []); stored = store u.job s.stored (s.next c) value; partial = gather u.job s.partial w value })
  wrote w c value works cell =
      let q = s.next c in
      let lt = works.0 in
      let more = works.2 in
      let t : StateValue = record s { next = put s.next c (q + 1); written = put s.written q (s.written q ++ w ∷ []); stored = store u.job s.stored q value; partial = gather u.job s.partial w value } in
      let n : (d : ℕ) → d ≢ c → put s.next c (q + 1) d ≡ s.next d = λ d ne. put_other s.next c (q + 1) d ne in
      let nc : (d : ℕ) → d ≡ c → put s.next c (q + 1) d ≡ q + 1 = λ d e. put_same s.next c (q + 1) d e in
      let wr : (p : ℕ) → p ≢ q → put s.written q (s.written q ++ w ∷ []) p ≡ s.written p = λ p ne. put_other s.written q (s.written q ++ w ∷ []) p ne in
      let was : s.written q ≡ [] = h.ahead c q lt (omega arith) more in
      let now : put s.written q (s.written q ++ w ∷ []) q ≡ s.owner c ∷ [] =
      put_same s.written q (s.written q ++ w ∷ []) q refl ∙ ap (λ (l : List ℕ). l ++ w ∷ []) was ∙ ap (λ (k : ℕ). k ∷ []) (sym works.1) in
      let there : cell_at u q ≡ value = ap value_of cell in
      let at : (d : ℕ) → (d ≡ c) ⊎ (d ≢ c) = λ d. cases_eq d c in
      let old : (v d : ℕ) → Works u t v d → Works u s v d = (λ v d k. (k.0, k.1, (⊎_elim (λ (e : d ≡ c). let y = ap (end u) e in let z = ap s.next e in omega arith) (λ (ne : d ≢ c). let y = n d ne in let z = k.2 in omega arith) (at d)), k.3)) in
      record {
        taken_few = h.taken_few;
        owners = h.owners;
        one_each = λ v d e k l. h.one_each v d e (old v d k) (old v e l);
        within = λ d l. let y = h.within d l in ⊎_elim (λ (e : d ≡ c). let z = nc d e in let z' = ap s.next e in let f = ap (end u) e in (omega arith, omega arith)) (λ (ne : d ≢ c). let z = n d ne in (omega arith, omega arith)) (at d);
        done = λ d p l from below. ⊎_elim
            (λ (e : d ≡ c). let z = nc d e in ⊎_elim
            (λ (e' : p ≡ q). (ap (put s.written q (s.written q ++ w ∷ [])) e' ∙ now ∙ ap (λ (k : ℕ). s.owner k ∷ []) (sym e), (value, ap (slice_get u.cells) e' ∙ cell)))
            (λ (ne : p ≢ q). let z' = ap s.next e in let y = h.done d p l from (omega arith) in (wr p ne ∙ y.0, y.1))
            (cases_eq p q))
            (λ (ne : d ≢ c). let z = n d ne in let b = h.within d l in let y = h.done d p l from (omega arith) in (wr p (other_position c d p lt more from (omega arith) ne) ∙ y.0, y.1))
            (at d);
        ahead = λ d p l from below. ⊎_elim
            (λ (e : d ≡ c). let z = nc d e in let z' = ap s.next e in wr p (λ e'. omega arith) ∙ h.ahead d p l (omega arith) below)
            (λ (ne : d ≢ c). let z = n d ne in let b = h.within d l in wr p (other_position c d p lt more (omega arith) below ne) ∙ h.ahead d p l (omega arith) below)
            (at d);
        untaken = λ d p le from below. let ne : d ≢ c = (λ e. omega arith) in wr p (other_position c d p lt more from below ne) ∙ h.untaken d p le from below;
        stored = stored_more u s.written s.stored u.job q w value was there h.stored;
        partials = partials_more u s.written s.partial u.job q w value is.takes (omega arith) was there h.partials;
        stops = λ d l st. let y = h.stops d l st in ⊎_elim
            (λ (e : d ≡ c). absurd (true≢false (sym st ∙ ap s.stopped e ∙ works.3)))
            (λ (ne : d ≢ c). let z = n d ne in ((let y' = y.0 in omega arith), (y.1.0, ap (slice_get u.cells) z ∙ y.1.1)))
            (at d);
        counts = h.counts;
        few = h.few;
      }

  stops_at : (w c : ℕ) (f : Fault) → Works u s w c → slice_get u.cells (s.next c) ≡ Some (Err f) → Facts u (record s { stopped = put s.stopped c true })
  stops_at w c f works cell =
      let at : (d : ℕ) → (d ≡ c) ⊎ (d ≢ c) = λ d. cases_eq d c in
      let st : (d : ℕ) → d ≢ c → put s.stopped c true d ≡ s.stopped d = λ d ne. put_other s.stopped c true d ne in
      let old : (v d : ℕ) → Works u (record s { stopped = put s.stopped c true }) v d → Works u s v d = (λ v d k. (k.0, k.1, k.2, ⊎_elim (λ (e : d ≡ c). absurd (true≢false (sym (put_same s.stopped c true d e) ∙ k.3))) (λ (ne : d ≢ c). sym (st d ne) ∙ k.3) (at d))) in
      record {
        taken_few = h.taken_few;
        owners = h.owners;
        one_each = λ v d e k l. h.one_each v d e (old v d k) (old v e l);
        within = h.within;
        done = h.done;
        ahead = h.ahead;
        untaken = h.untaken;
        stored = h.stored;
        partials = h.partials;
        stops = λ d l stop. ⊎_elim (λ (e : d ≡ c). ((let y = works.2 in let z = ap s.next e in let z' = ap (end u) e in omega arith), (f, ap (λ (k : ℕ). slice_get u.cells (s.next k)) e ∙ cell))) (λ (ne : d ≢ c). h.stops d l (sym (st d ne) ∙ stop)) (at d);
        counts = h.counts;
        few = h.few;
      }

  -- the count of b becomes x, and w holds b y times
  recounted : (w b x y : ℕ) → w < u.workers → b < length u.counts → x + s.holds w b ≡ s.count b + y → sum_below (put (s.holds w) b y) (length u.counts) ≤ 2 ^ 56
      → Facts u (record s { count = put s.count b x; holds = put s.holds w (put (s.holds w) b y) })
  recounted w b x y worker buffer turn room =
      let new : ℕ → ℕ → ℕ = put s.holds w (put (s.holds w) b y) in
      let row : (v : ℕ) → v ≡ w → new v ≡ put (s.holds w) b y = λ v e. put_same s.holds w (put (s.holds w) b y) v e in
      let row' : (v : ℕ) → v ≢ w → new v ≡ s.holds v = λ v ne. put_other s.holds w (put (s.holds w) b y) v ne in
      let here : (v : ℕ) → new v b ≡ put (λ (i : ℕ). s.holds i b) w y v = (λ v. ⊎_elim
      (λ (e : v ≡ w). ap (λ (f : ℕ → ℕ). f b) (row v e) ∙ put_same (s.holds w) b y b refl ∙ sym (put_same (λ (i : ℕ). s.holds i b) w y v e))
      (λ (ne : v ≢ w). ap (λ (f : ℕ → ℕ). f b) (row' v ne) ∙ sym (put_other (λ (i : ℕ). s.holds i b) w y v ne)) (cases_eq v w)) in
      let there : (c v : ℕ) → c ≢ b → new v c ≡ s.holds v c = (λ c v ne. ⊎_elim
      (λ (e : v ≡ w). ap (λ (f : ℕ → ℕ). f c) (row v e) ∙ put_other (s.holds w) b y c ne ∙ ap (λ (i : ℕ). s.holds i c) (sym e))
      (λ (ne' : v ≢ w). ap (λ (f : ℕ → ℕ). f c) (row' v ne')) (cases_eq v w)) in
      record {
        taken_few = h.taken_few;
        owners = h.owners;
        one_each = h.one_each;
        within = h.within;
        done = h.done;
        ahead = h.ahead;
        untaken = h.untaken;
        stored = h.stored;
        partials = h.partials;
        stops = h.stops;
        counts = λ c lt. ⊎_elim
            (λ (e : c ≡ b).
            let a = sum-same (λ (v : ℕ). new v b) (put (λ (i : ℕ). s.holds i b) w y) u.workers (λ v l. here v) in
            let p = sum-put (λ (i : ℕ). s.holds i b) w y u.workers worker in
            let q = put_same s.count b x b refl in
            let k = h.counts b buffer in
            let all : put s.count b x b ≡ slice_index u.counts b + sum_below (λ (v : ℕ). new v b) u.workers = omega arith in
            subst (λ (d : ℕ). put s.count b x d ≡ slice_index u.counts d + sum_below (λ (v : ℕ). new v d) u.workers) (sym e) all)
            (λ (ne : c ≢ b). let a = sum-same (λ (v : ℕ). new v c) (λ (v : ℕ). s.holds v c) u.workers (λ v l. there c v ne) in let q = put_other s.count b x c ne in let k = h.counts c lt in omega arith)
            (cases_eq c b);
        few = λ v lt. ⊎_elim (λ (e : v ≡ w). subst (λ (f : ℕ → ℕ). sum_below f (length u.counts) ≤ 2 ^ 56) (sym (row v e)) room) (λ (ne : v ≢ w). subst (λ (f : ℕ → ℕ). sum_below f (length u.counts) ≤ 2 ^ 56) (sym (row' v ne)) (h.few v lt)) (cases_eq v w);
      }

  -- the count of a buffer has the holds of each worker beyond that of the opening
  pub holds-le : (w b : ℕ) → w < u.workers → b < length u.counts → slice_index u.counts b + s.holds w b ≤ s.count b
  holds-le w b worker buffer = let k = h.counts b buffer in let a = one-le (λ (v : ℕ). s.holds v b) w u.workers worker in omega arith

  pub held_twice : (w b : ℕ) → w < u.workers → b < length u.counts → 0 < s.holds w b → 2 ≤ s.count b
  held_twice w b worker buffer some = let l = holds-le w b worker buffer in let o = is.counts b buffer in let o' = o.0 in omega arith

pub kept : (u : SetupValue) (s t : StateValue) (e : Event) → IsSetup u → Facts u s → Steps u s e t → Facts u t
kept u s t (Draw w) is h k = subst (Facts u) (sym k.3) (drew u s is h w k.0 k.1 k.2)
kept u s t (Keep w b) is h k =
    subst (Facts u) (sym k.3) (recounted u s is h w b (s.count b + 1) (s.holds w b + 1) k.0 k.1 (omega arith) (let p = sum-put (s.holds w) b (s.holds w b + 1) (length u.counts) k.1 in let q = k.2 in omega arith))
kept u s t (Release w b) is h k =
    let l = holds-le u s is h w b k.0 k.1 in
    subst (Facts u) (sym k.3) (recounted u s is h w b (s.count b - 1) (s.holds w b - 1) k.0 k.1 (let q = k.2 in omega arith) (let p = sum-put (s.holds w) b (s.holds w b - 1) (length u.counts) k.1 in let q = k.2 in let f = h.few w k.0 in omega arith))
kept u s t (Write w) is h k = subst (Facts u) (sym k.1.4) (wrote u s is h w k.1.0 k.1.1 k.1.2 k.1.3)
kept u s t (Stop w) is h k = subst (Facts u) (sym k.1.4) (stops_at u s is h w k.1.0 k.1.1 k.1.2 k.1.3)

-- no position was written at the opening
partial_none : (j : Job) (n : ℕ) (f : ℕ → Option (List ℤ)) → ((p : ℕ) → f p ≡ None) → None ≡ partial_by j (listed f n)
partial_none Store n f e = refl
partial_none (Fold base op) n f e = sym (gathered_is (combine op) f n ∙ nothing n)
  where
    nothing : (m : ℕ) → gathered (combine op) f m ≡ None
    nothing zero = refl
    nothing (suc m) = λ j. both (combine op) (nothing m j) (e m j)

stored_none : (j : Job) (value : Option (List ℤ)) → None ≡ stored_by j [] value
stored_none Store value = refl
stored_none (Fold base op) value = refl

pub opens : (u : SetupValue) → Facts u (opened u)
opens u = record {
  taken_few = omega arith;
  owners = λ c lt. absurd (omega arith);
  one_each = λ w c d k l. absurd (let x = k.0 in omega arith);
  within = λ c lt. absurd (omega arith);
  done = λ c p lt from below. absurd (omega arith);
  ahead = λ c p lt from below. refl;
  untaken = λ c p le from below. refl;
  stored = λ p. stored_none u.job (cell_at u p);
  partials = λ w. partial_none u.job (length u.cells) (λ p. own w [] (cell_at u p)) (λ p. refl);
  stops = λ c lt is. absurd (omega arith);
  counts = λ b lt. let z = sum-none (λ w. 0) u.workers (λ i l. refl) in omega arith;
  few = λ w lt. let z = sum-none (λ b. 0) (length u.counts) (λ i l. refl) in omega arith;
}

pub runs_kept : (u : SetupValue) (s t : StateValue) (es : List Event) → IsSetup u → Facts u s → Runs u s es t → Facts u t
runs_kept u s t [] is h r = subst (Facts u) r h
runs_kept u s t (e ∷ es) is h r = runs_kept u r.0 t es is (kept u s r.0 e is h r.1) r.2

pub reached_facts : (u : SetupValue) (s : StateValue) → IsSetup u → Reached u s → Facts u s
reached_facts u s is r = runs_kept u (opened u) s r.0 is (opens u) r.1

runs_more : (u : SetupValue) (s t v : StateValue) (es : List Event) (e : Event) → Runs u s es t → Steps u t e v → Runs u s (es ++ e ∷ []) v
runs_more u s t v [] e r k = (v, subst (λ (x : StateValue). Steps u x e v) (sym r) k, refl)
runs_more u s t v (d ∷ es) e r k = (r.0, r.1, runs_more u r.0 t v es e r.2 k)

-- a step leads from a reached state to a reached state
pub reached_more : (u : SetupValue) (s t : StateValue) (e : Event) → Reached u s → Steps u s e t → Reached u t
reached_more u s t e r k = (r.0 ++ e ∷ [], runs_more u (opened u) s t r.0 e r.1 k)
