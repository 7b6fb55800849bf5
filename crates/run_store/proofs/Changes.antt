-- The heaps still stand for each other after one step of both.
use Rattle.std.proofs.Common.{◌≡◌, ◌≢◌, ℕ, zero, suc, ◌+◌, ◌<◌, ◌%◌, ◌^◌, Bool, true, false, eqb, List, [], ◌∷◌, length, ℤ, Option, Some, None, refl, ap, ◌∙◌, sym, subst, slice_index_or, slice_set, arith, inl, inr, ◌⊎◌}
use Rattle.std.specs.Prelude.{IsSomeAnd}
use Rattle.std.proofs.lemmas.Bool.{eqb-true, eqb-false}
use Rattle.std.proofs.lemmas.List.{length-set, length_push, get_or_push, get_or_append_left, get_or-set_same, get_or-set_other, set-get_or}
use Rattle.std.proofs.Math.Nat.{mod-add-mod}
use Rattle.buffer_heap.specs.Heaps.{Content, In, Out, Held, HeapValue, at, IsLive, IsNamed, IsLifted, len_of, content_of, with_place, with_count, with_content, count_of, lifted, released, released_at}
use Rattle.counted_code.specs.Values as machine
use Rattle.counted_code.specs.Values.{Buffer, no_buffer, Heap, Value, Small, Ref, buffer_at, with_buffer, keep, release, release_count, take_buffer}
use Rattle.run_store.specs.Stands.{HasContent, Stored, StandsFor}

some_same : (x y : Held) → Some x ≡ Some y → x ≡ y
some_same x y p = λ i. or_x (p i)
  where
    or_x : Option Held → Held
    or_x None = x
    or_x (Some z) = z

abbrev IsNothing : Option Held → Type 0
IsNothing None = Unit {0}
IsNothing (Some x) = ⊥

no_some : (x : Held) → None ≡ Some x → ⊥
no_some x p = subst IsNothing p tt

-- what is live, by its place
pub some_there : (h : HeapValue) (b : ℕ) (M : Held → Type 0) → IsLive h b M → (x : Held) × (at h b ≡ Some x) × M x
some_there h b M live = go (at h b) refl live
  where
    go : (o : Option Held) → at h b ≡ o → IsSomeAnd o M → (x : Held) × (at h b ≡ Some x) × M x
    go None e m = elim m [ ]
    go (Some x) e m = (x, e, m)

in_places : (xs : List (Option Held)) (b : ℕ) (x : Held) → slice_index_or xs b None ≡ Some x → b < length xs
in_places [] b x is = elim (no_some x is) [ ]
in_places (o ∷ xs) zero x is = omega arith
in_places (o ∷ xs) (suc b) x is = omega (arith, in_places xs b x is)

at_same : (h : HeapValue) (b : ℕ) (x : Held) (o : Option Held) → at h b ≡ Some x → at (with_place h b o) b ≡ o
at_same h b x o is = get_or-set_same h.places b o None (in_places h.places b x is)

at_other : (h : HeapValue) (b c : ℕ) (o : Option Held) → c ≢ b → at (with_place h b o) c ≡ at h c
at_other h b c o other = get_or-set_other h.places b c o None other

-- the buffer at a place has become another one of its number, or has gone
module _ (h : HeapValue) (m k : Heap) (b : ℕ) (x : Held) (o : Option Held) (new : Buffer) (is : at h b ≡ Some x) (stands : StandsFor h m) where
  born_here : (y : Held) → o ≡ Some y → ((z : Held) → o ≡ Some z → Stored new z × (z.born ≡ x.born)) → y.born ≡ x.born
  born_here y e made = (made y e).1

  -- what stands at a place now had its number there before
  was : ((z : Held) → o ≡ Some z → Stored new z × (z.born ≡ x.born)) → (c : ℕ) (y : Held) → at (with_place h b o) c ≡ Some y → (z : Held) × (at h c ≡ Some z) × (z.born ≡ y.born)
  was made c y there = go (eqb c b) refl
    where
      go : (same : Bool) → eqb c b ≡ same → (z : Held) × (at h c ≡ Some z) × (z.born ≡ y.born)
      go true e =
          let here = subst (λ d. at (with_place h b o) d ≡ Some y) (eqb-true c b e) there in
          let is_new : o ≡ Some y = sym (at_same h b x o is) ∙ here in
          (x, subst (λ d. at h d ≡ Some x) (sym (eqb-true c b e)) is, sym ((made y is_new).1))
      go false e = (y, sym (at_other h b c o (eqb-false c b e)) ∙ there, refl)

  pub changed : ((z : Held) → o ≡ Some z → Stored new z × (z.born ≡ x.born)) → k.buffers ≡ slice_set m.buffers x.born new → (g r t : ℕ) → g ≡ k.given % 2 ^ 64 → r ≡ k.reused % 2 ^ 64 → t ≡ k.taken % 2 ^ 64 → StandsFor (record (with_place h b o) { given = g; reused = r; taken = t }) k
  changed made buffers g r t given reused taken = record {
    stored = now_stored;
    single = λ c d y z p q same. (let u = was made c y p in let v = was made d z q in stands.single c d u.0 v.0 u.1 v.1 (u.2 ∙ same ∙ sym v.2));
    births = stands.births ∙ sym lengths;
    taken = taken;
    given = given;
    reused = reused;
  }
    where
      lengths : length k.buffers ≡ length m.buffers
      lengths = ap length buffers ∙ length-set m.buffers x.born new

      below_all : x.born < length m.buffers
      below_all = (stands.stored b x is).1

      now_stored : (c : ℕ) (y : Held) → at (with_place h b o) c ≡ Some y → Stored (buffer_at k y.born) y × (y.born < length k.buffers)
      now_stored c y there = go (eqb c b) refl
        where
          go : (same : Bool) → eqb c b ≡ same → Stored (buffer_at k y.born) y × (y.born < length k.buffers)
          go true e =
              let is_new : o ≡ Some y = sym (at_same h b x o is) ∙ subst (λ d. at (with_place h b o) d ≡ Some y) (eqb-true c b e) there in
              let made_it = made y is_new in
              let buffer : buffer_at k y.born ≡ new =
              (ap (buffer_at k) made_it.1 ∙ ap (λ bs. slice_index_or bs x.born no_buffer) buffers ∙ get_or-set_same m.buffers x.born new no_buffer below_all) in
              (subst (λ (z : Buffer). Stored z y) (sym buffer) made_it.0, subst (λ n. n < length k.buffers) (sym made_it.1) (subst (λ n. x.born < n) (sym lengths) below_all))
          go false e =
              let before : at h c ≡ Some y = sym (at_other h b c o (eqb-false c b e)) ∙ there in
              let old = stands.stored c y before in
              let apart : y.born ≢ x.born = (λ same. eqb-false c b e (stands.single c b y x before is same)) in
              let buffer : buffer_at k y.born ≡ buffer_at m y.born =
              (ap (λ bs. slice_index_or bs y.born no_buffer) buffers ∙ get_or-set_other m.buffers x.born y.born new no_buffer apart) in
              (subst (λ (z : Buffer). Stored z y) (sym buffer) old.0, subst (λ n. y.born < n) (sym lengths) old.1)

kept_as : (h : HeapValue) (m : Heap) (b : ℕ) (x : Held) (o : Option Held) → at h b ≡ Some x → StandsFor h m → StandsFor (with_place h b (with_count (Some x) (count_of (Some x) + 1))) (machine.with_count m x.born (machine.count_of m x.born + 1))
kept_as h m b x o is stands =
    let old = stands.stored b x is in
    let new : Buffer = record { count = machine.count_of m x.born + 1; cells = machine.cells_of m x.born } in
    changed h m (machine.with_count m x.born (machine.count_of m x.born + 1)) b x (Some (record x { count = x.count + 1 })) new is stands
    (λ z e. (let same = some_same (record x { count = x.count + 1 }) z e in (subst (λ (y : Held). Stored new y) same (ap (λ n. n + 1) old.0.0, old.0.1), sym (ap (λ (y : Held). y.born) same))))
    refl h.given h.reused h.taken stands.given stands.reused stands.taken

-- one reference more
pub kept_stands : (h : HeapValue) (m : Heap) (b n : ℕ) → IsLive h b (IsNamed n) → StandsFor h m → StandsFor (with_place h b (with_count (at h b) (count_of (at h b) + 1))) (machine.with_count m n (machine.count_of m n + 1))
kept_stands h m b n live stands =
    let s = some_there h b (IsNamed n) live in
    subst (λ k. StandsFor (with_place h b (with_count (at h b) (count_of (at h b) + 1))) (machine.with_count m k (machine.count_of m k + 1))) s.2.1
    (subst (λ o. StandsFor (with_place h b (with_count o (count_of o + 1))) (machine.with_count m s.0.born (machine.count_of m s.0.born + 1))) (sym s.1) (kept_as h m b s.0 (at h b) s.1 stands))

less_as : (c : ℕ) (h : HeapValue) (m : Heap) (b : ℕ) (x : Held) → at h b ≡ Some x → x.count ≡ c → StandsFor h m → StandsFor (released_at c h b) (release_count x.born c m)
less_as zero h m b x is size stands = stands
less_as (suc zero) h m b x is size stands =
    changed h m (release_count x.born (suc zero) m) b x None no_buffer is stands (λ z e. elim (no_some z e) [ ]) refl
    ((h.given + 1) % 2 ^ 64) h.reused h.taken (ap (λ g. (g + 1) % 2 ^ 64) stands.given ∙ mod-add-mod m.given (2 ^ 64) 1) stands.reused stands.taken
less_as (suc (suc c)) h m b x is size stands =
    let old = stands.stored b x is in
    let new : Buffer = record { count = suc c; cells = machine.cells_of m x.born } in
    let y : Held = record x { count = suc c } in
    let now : StandsFor (with_place h b (Some y)) (machine.with_count m x.born (suc c)) = changed h m (machine.with_count m x.born (suc c)) b x (Some y) new is stands
    (λ z e. (let same = some_same y z e in (subst (λ (w : Held). Stored new w) same (refl, old.0.1), sym (ap (λ (w : Held). w.born) same))))
    refl h.given h.reused h.taken stands.given stands.reused stands.taken in
    subst (λ o. StandsFor (with_place h b (with_count o (suc c))) (machine.with_count m x.born (suc c))) (sym is) now

-- one reference less
pub released_stands : (h : HeapValue) (m : Heap) (b n : ℕ) → IsLive h b (IsNamed n) → StandsFor h m → StandsFor (released h b) (release_count n (machine.count_of m n) m)
released_stands h m b n live stands =
    let s = some_there h b (IsNamed n) live in
    let old = stands.stored b s.0 s.1 in
    subst (λ k. StandsFor (released h b) (release_count k (machine.count_of m k) m)) s.2.1
    (subst (λ c. StandsFor (released h b) (release_count s.0.born c m)) (sym old.0.0)
    (subst (λ c. StandsFor (released_at c h b) (release_count s.0.born s.0.count m)) (sym (ap count_of s.1)) (less_as s.0.count h m b s.0 s.1 refl stands)))

len_as : (x : Content) (zs : List ℤ) → HasContent x zs → length zs ≡ len_of x
len_as (In cells) zs same = ap length same
len_as (Out len) zs same = same

-- the machine's buffer is as it was
out_as : (h : HeapValue) (m : Heap) (b : ℕ) (x : Held) → at h b ≡ Some x → StandsFor h m → StandsFor (with_place h b (Some (record x { content = Out (len_of x.content) }))) m
out_as h m b x is stands =
    let old = stands.stored b x is in
    let y : Held = record x { content = Out (len_of x.content) } in
    let new : Buffer = buffer_at m x.born in
    changed h m m b x (Some y) new is stands
    (λ z e. (let same = some_same y z e in (subst (λ (w : Held). Stored new w) same (old.0.0, len_as x.content new.cells old.0.1), sym (ap (λ (w : Held). w.born) same))))
    (sym (set-get_or m.buffers x.born no_buffer)) h.given h.reused h.taken stands.given stands.reused stands.taken

-- cells are handed out
pub lifted_stands : (h : HeapValue) (m : Heap) (b : ℕ) (x : Held) → at h b ≡ Some x → StandsFor h m → StandsFor (lifted h b) m
lifted_stands h m b x is stands =
    subst (λ o. StandsFor (with_place h b (with_content o (Out (len_of (content_of o))))) m) (sym is) (out_as h m b x is stands)

back_as : (h : HeapValue) (m : Heap) (b : ℕ) (x : Held) (cells : List ℤ) → at h b ≡ Some x → StandsFor h m → StandsFor (with_place h b (Some (record x { content = In cells }))) (machine.with_cells m x.born cells)
back_as h m b x cells is stands =
    let old = stands.stored b x is in
    let y : Held = record x { content = In cells } in
    let new : Buffer = record { count = machine.count_of m x.born; cells = cells } in
    changed h m (machine.with_cells m x.born cells) b x (Some y) new is stands
    (λ z e. (let same = some_same y z e in (subst (λ (w : Held). Stored new w) same (old.0.0, refl), sym (ap (λ (w : Held). w.born) same))))
    refl h.given h.reused h.taken stands.given stands.reused stands.taken

-- cells are taken back
pub settled_stands : (h : HeapValue) (m : Heap) (b n len : ℕ) (cells : List ℤ) → IsLive h b (IsLifted n len) → StandsFor h m → StandsFor (with_place h b (with_content (at h b) (In cells))) (machine.with_cells m n cells)
settled_stands h m b n len cells live stands =
    let s = some_there h b (IsLifted n len) live in
    subst (λ k. StandsFor (with_place h b (with_content (at h b) (In cells))) (machine.with_cells m k cells)) s.2.1
    (subst (λ o. StandsFor (with_place h b (with_content o (In cells))) (machine.with_cells m s.0.born cells)) (sym s.1) (back_as h m b s.0 cells s.1 stands))

-- a new buffer, at a place that had none
module _ (h k : HeapValue) (m : Heap) (b n : ℕ) (cells : List ℤ) (content : Content) (has : HasContent content cells) (here : at k b ≡ Some (record { born = n; count = 1; content = content })) (others : (c : ℕ) → c ≢ b → at k c ≡ at h c) (number : n ≡ h.births) (stands : StandsFor h m) where
  new_there : Held
  new_there = record { born = n; count = 1; content = content }

  pub number_is : n ≡ length m.buffers
  number_is = number ∙ stands.births

  -- what is at a place: the new buffer, or what was there before
  found : (c : ℕ) (y : Held) → at k c ≡ Some y → ((c ≡ b) × (record { born = n; count = 1; content = content } ≡ y)) ⊎ (at h c ≡ Some y)
  found c y there = go (eqb c b) refl
    where
      go : (same : Bool) → eqb c b ≡ same → ((c ≡ b) × (record { born = n; count = 1; content = content } ≡ y)) ⊎ (at h c ≡ Some y)
      go true e = inl (eqb-true c b e, some_same (record { born = n; count = 1; content = content }) y (sym here ∙ subst (λ d. at k d ≡ Some y) (eqb-true c b e) there))
      go false e = inr (sym (others c (eqb-false c b e)) ∙ there)

  too_old : (c : ℕ) (y z : Held) → at h c ≡ Some y → record { born = n; count = 1; content = content } ≡ z → y.born ≡ z.born → ⊥
  too_old c y z before new same =
      let low = (stands.stored c y before).1 in
      let high = ap (λ (w : Held). w.born) new in
      omega (arith, low, high, same, number_is)

  pub taken_stands : k.births ≡ h.births + 1 → k.taken ≡ (h.taken + 1) % 2 ^ 64 → k.given ≡ h.given → k.reused ≡ h.reused → StandsFor k (take_buffer cells m)
  taken_stands births taken given reused = record {
    stored = now_stored;
    single = one_place;
    births = births ∙ ap (λ j. j + 1) stands.births ∙ sym (length_push m.buffers (record { count = 1; cells = cells }));
    taken = taken ∙ ap (λ t. (t + 1) % 2 ^ 64) stands.taken ∙ mod-add-mod m.taken (2 ^ 64) 1;
    given = given ∙ stands.given;
    reused = reused ∙ stands.reused;
  }
    where
      more : length (take_buffer cells m).buffers ≡ length m.buffers + 1
      more = length_push m.buffers (record { count = 1; cells = cells })

      now_stored : (c : ℕ) (y : Held) → at k c ≡ Some y → Stored (buffer_at (take_buffer cells m) y.born) y × (y.born < length (take_buffer cells m).buffers)
      now_stored c y there = go (found c y there)
        where
          go : ((c ≡ b) × (record { born = n; count = 1; content = content } ≡ y)) ⊎ (at h c ≡ Some y) → Stored (buffer_at (take_buffer cells m) y.born) y × (y.born < length (take_buffer cells m).buffers)
          go (inl new) =
              let buffer : buffer_at (take_buffer cells m) n ≡ record { count = 1; cells = cells } = get_or_push m.buffers (record { count = 1; cells = cells }) no_buffer n (sym number_is) in
              subst (λ (z : Held). Stored (buffer_at (take_buffer cells m) z.born) z × (z.born < length (take_buffer cells m).buffers)) new.1
              (subst (λ (z : Buffer). Stored z (record { born = n; count = 1; content = content })) (sym buffer) (refl, has), omega (arith, more, number_is))
          go (inr before) =
              let old = stands.stored c y before in
              let buffer : buffer_at (take_buffer cells m) y.born ≡ buffer_at m y.born = get_or_append_left m.buffers (record { count = 1; cells = cells } ∷ []) no_buffer y.born old.1 in
              (subst (λ (z : Buffer). Stored z y) (sym buffer) old.0, omega (arith, more, old.1))

      one_place : (c d : ℕ) (y z : Held) → at k c ≡ Some y → at k d ≡ Some z → y.born ≡ z.born → c ≡ d
      one_place c d y z p q same = go (found c y p) (found d z q)
        where
          go : ((c ≡ b) × (record { born = n; count = 1; content = content } ≡ y)) ⊎ (at h c ≡ Some y) → ((d ≡ b) × (record { born = n; count = 1; content = content } ≡ z)) ⊎ (at h d ≡ Some z) → c ≡ d
          go (inl new) (inl also) = new.0 ∙ sym also.0
          go (inl new) (inr before) = elim (too_old d z y before new.1 (sym same)) [ ]
          go (inr before) (inl new) = elim (too_old c y z before new.1 same) [ ]
          go (inr before) (inr also) = stands.single c d y z before also same
