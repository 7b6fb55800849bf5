-- A store in which a buffer is written over.
use Rattle.std.proofs.Common.{◌≡◌, ℕ, zero, suc, ◌+◌, ◌<◌, ◌%◌, ◌^◌, true, List, [], ◌∷◌, ◌++◌, length, ℤ, Option, Some, None, refl, ap, ◌∙◌, sym, subst, slice_index_or, slice_set, arith}
use Rattle.std.specs.Prelude.{◌==◌, IsSomeAnd}
use Rattle.std.proofs.lemmas.Bool.{eqb-true}
use Rattle.std.proofs.lemmas.List.{set-get_or, get_or-set_same}
use Rattle.std.proofs.Math.Nat.{add-mod-mod, mod-add-mod}
use Rattle.buffer_heap.specs.Heaps.{Content, In, Out, Held, HeapValue, at, IsLive, IsIn, IsInAndSole, IsNamed, IsLifted, len_of, with_place, with_content, count_of, content_of, lifted}
use Rattle.counted_code.specs.Loops.{written_at}
use Rattle.counted_code.specs.Values as machine
use Rattle.counted_code.specs.Values.{Heap, no_buffer, with_cells, cells_of}
use Rattle.run_over.specs.Soles.{IsSoleOf}
use Rattle.run_store.specs.Lents.{LentValue}
use Rattle.run_store.specs.Stands.{Stands, with_lent, lent_places, whole}
use Rattle.run_store.specs.declared.store.Store.{Store}
use Rattle.run_store.proofs.Changes.{some_there}
use Rattle.run_store.proofs.Targets.{word_written}
use Rattle.run_store.proofs.Wholes.{own_cells, own_lifted, own_settled}

-- ---- buffers with one reference

pub sole_named : (h : HeapValue) (b n : ℕ) → IsLive h b (IsSoleOf n) → IsLive h b (IsNamed n)
sole_named h b n live = go (at h b) live
  where
    go : (o : Option Held) → IsSomeAnd o (IsSoleOf n) → IsSomeAnd o (IsNamed n)
    go None none = none
    go (Some x) sole = (sole.0, sole.1)

pub sole_in : (h : HeapValue) (b n : ℕ) → IsLive h b (IsSoleOf n) → IsLive h b IsInAndSole
sole_in h b n live = go (at h b) live
  where
    go : (o : Option Held) → IsSomeAnd o (IsSoleOf n) → IsSomeAnd o IsInAndSole
    go None none = none
    go (Some x) sole = (sole.0, sole.2)

pub named_in : (h : HeapValue) (b n : ℕ) → IsLive h b (IsNamed n) → IsLive h b IsIn
named_in h b n live = go (at h b) live
  where
    go : (o : Option Held) → IsSomeAnd o (IsNamed n) → IsSomeAnd o IsIn
    go None none = none
    go (Some x) named = named.0

pub is_live : (h : HeapValue) (b n : ℕ) → IsLive h b (IsNamed n) → IsLive h b (λ x. Unit {0})
is_live h b n live = go (at h b) live
  where
    go : (o : Option Held) → IsSomeAnd o (IsNamed n) → IsSomeAnd o (λ x. Unit {0})
    go None none = none
    go (Some x) named = tt

pub now_sole : (h : HeapValue) (b n : ℕ) → IsLive h b (IsNamed n) → (count_of (at h b) == 1) ≡ true → IsLive h b (IsSoleOf n)
now_sole h b n live one = go (at h b) live (eqb-true (count_of (at h b)) 1 one)
  where
    go : (o : Option Held) → IsSomeAnd o (IsNamed n) → count_of o ≡ 1 → IsSomeAnd o (IsSoleOf n)
    go None none one = none
    go (Some x) named one = (named.0, named.1, one)

abbrev cells_or : Content → List ℤ
cells_or (In cells) = cells
cells_or (Out len) = []

-- what is in are these cells alone
pub same_in : (x : Content) (xs ys : List ℤ) → x ≡ In xs → x ≡ In ys → xs ≡ ys
same_in x xs ys p q = ap cells_or (sym p ∙ q)

-- ---- the machine's buffer

-- the place behind a list
abbrev past : {A : Type 0} → List A → ℕ → ℕ
past [] b = b
past (x ∷ xs) b = suc (past xs b)

behind : (xs ys : List (Option Held)) (b : ℕ) → slice_index_or (xs ++ ys) (past xs b) None ≡ slice_index_or ys b None
behind [] ys b = refl
behind (x ∷ xs) ys b = behind xs ys b

-- a buffer of the own heap has as many references in the machine
pub own_count : (s : Store) (m : Heap) (b n : ℕ) → IsLive s.own b (IsNamed n) → Stands s m → machine.count_of m n ≡ count_of (at s.own b)
own_count s m b n live stands =
    let there = some_there s.own b (IsNamed n) live in
    let here : at (whole s) (past (lent_places s.lent) b) ≡ Some there.0 = behind (lent_places s.lent) s.own.places b ∙ there.1 in
    ap (machine.count_of m) (sym there.2.1) ∙ (stands.all.stored (past (lent_places s.lent) b) there.0 here).0.0 ∙ ap count_of (sym there.1)

-- a buffer that gets the cells that it has
same_cells : (m : Heap) (n : ℕ) (cells : List ℤ) → cells ≡ cells_of m n → with_cells m n cells ≡ m
same_cells m n cells same =
    ap (with_cells m n) same ∙ ap {B = Heap} (λ bs. record m { buffers = bs }) (set-get_or m.buffers n no_buffer)

-- ---- one more buffer was taken over

reused_more : (l : Option LentValue) (n : ℕ) → with_lent l (λ h. h.reused) ((n + 1) % 2 ^ 64) ≡ (with_lent l (λ h. h.reused) n + 1) % 2 ^ 64
reused_more None n = refl
reused_more (Some l) n =
    let next : l.heap.reused + (n + 1) ≡ (l.heap.reused + n) + 1 = omega arith in
    add-mod-mod l.heap.reused (n + 1) (2 ^ 64) ∙ ap (λ k. k % 2 ^ 64) next ∙ sym (mod-add-mod (l.heap.reused + n) (2 ^ 64) 1)

reused_stands : (s : Store) (m : Heap) → Stands s m → Stands (record s { own = record s.own { reused = (s.own.reused + 1) % 2 ^ 64 } }) (record m { reused = m.reused + 1 })
reused_stands s m stands = record {
  all = record {
    stored = stands.all.stored;
    single = stands.all.single;
    births = stands.all.births;
    taken = stands.all.taken;
    given = stands.all.given;
    reused = reused_more s.lent s.own.reused ∙ ap (λ r. (r + 1) % 2 ^ 64) stands.all.reused ∙ mod-add-mod m.reused (2 ^ 64) 1;
  };
}

-- ---- cells that are handed out and taken back

abbrev IsNothing : Option Held → Type 0
IsNothing None = Unit {0}
IsNothing (Some x) = ⊥

within : (xs : List (Option Held)) (b : ℕ) (x : Held) → slice_index_or xs b None ≡ Some x → b < length xs
within [] b x is = absurd (subst IsNothing is tt)
within (o ∷ xs) zero x is = omega arith
within (o ∷ xs) (suc b) x is = omega (arith, within xs b x is)

pub lifted_live : (h : HeapValue) (b n : ℕ) (cells : List ℤ) → IsLive h b (IsSoleOf n) → content_of (at h b) ≡ In cells → IsLive (lifted h b) b (IsLifted n (length cells))
lifted_live h b n cells live content =
    let there = some_there h b (IsSoleOf n) live in
    let x = there.0 in
    let out : Option Held = with_content (at h b) (Out (len_of (content_of (at h b)))) in
    let now : at (lifted h b) b ≡ out = get_or-set_same h.places b out None (within h.places b x there.1) in
    let is : out ≡ Some (record x { content = Out (length cells) }) =
    (ap (λ c. with_content (at h b) (Out (len_of c))) content ∙ ap (λ o. with_content o (Out (length cells))) there.1) in
    subst (λ o. IsSomeAnd o (IsLifted n (length cells))) (sym (now ∙ is)) (refl, there.2.1)

pub out_live : (h : HeapValue) (b n : ℕ) (cells : List ℤ) → IsLive h b (IsSoleOf n) → content_of (at h b) ≡ In cells → (k : HeapValue) → k.places ≡ (lifted h b).places → (len : ℕ) → len ≡ length cells
    → IsLive k b (λ x. x.content ≡ Out len)
out_live h b n cells live content k same len long =
    subst (λ ps. IsSomeAnd (slice_index_or ps b None) (λ (x : Held). x.content ≡ Out len)) (sym same) (go (at (lifted h b) b) (lifted_live h b n cells live content))
  where
    go : (o : Option Held) → IsSomeAnd o (IsLifted n (length cells)) → IsSomeAnd o (λ (x : Held). x.content ≡ Out len)
    go None none = none
    go (Some x) is = is.0 ∙ ap Out (sym long)

-- the heap whose buffer at a place is out, and counts as reused
abbrev pub reused : HeapValue → ℕ → HeapValue
reused h b = record (lifted h b) { reused = (h.reused + 1) % 2 ^ 64 }

module _ (s : Store) (m : Heap) (b n : ℕ) (cells : List ℤ) (live : IsLive s.own b (IsSoleOf n)) (content : content_of (at s.own b) ≡ In cells) (stands : Stands s m) where
  are_cells : cells ≡ cells_of m n
  are_cells = own_cells s m b n cells (sole_named s.own b n live) content stands

  out_stands : Stands (record s { own = lifted s.own b }) m
  out_stands = let there = some_there s.own b (IsSoleOf n) live in own_lifted s m b there.0 there.1 stands

  -- taken over, it has the cells that it had
  pub claimed_stands : Stands (record s { own = with_place (reused s.own b) b (with_content (at (reused s.own b) b) (In cells)) }) (record m { reused = m.reused + 1 })
  claimed_stands =
      let k : Heap = record m { reused = m.reused + 1 } in
      subst (λ l. Stands (record s { own = with_place (reused s.own b) b (with_content (at (reused s.own b) b) (In cells)) }) l) (same_cells k n cells are_cells)
      (own_settled (record s { own = reused s.own b }) k b n (length cells) cells (lifted_live s.own b n cells live content) (reused_stands (record s { own = lifted s.own b }) m out_stands))

  -- written at a place, it has the machine's cells
  pub written_stands : (place : ℕ) (x : ℤ) → place < length cells
      → Stands (record s { own = with_place (lifted s.own b) b (with_content (at (lifted s.own b) b) (In (slice_set cells place x))) }) (with_cells m n (written_at place (x ∷ []) (cells_of m n)))
  written_stands place x inside =
      let new = slice_set cells place x in
      let is : new ≡ written_at place (x ∷ []) (cells_of m n) = (word_written cells place x inside).cells ∙ ap (written_at place (x ∷ [])) are_cells in
      subst (λ zs. Stands (record s { own = with_place (lifted s.own b) b (with_content (at (lifted s.own b) b) (In new)) }) (with_cells m n zs)) is
      (own_settled (record s { own = lifted s.own b }) m b n (length cells) new (lifted_live s.own b n cells live content) out_stands)

  -- the same of the heap that has these cells there
  pub put_stands : (place : ℕ) (x : ℤ) → place < length cells → (k o : HeapValue) (new : List ℤ) → k ≡ lifted s.own b → o ≡ with_place k b (with_content (at k b) (In new)) → new ≡ slice_set cells place x
      → Stands (record s { own = o }) (with_cells m n (written_at place (x ∷ []) (cells_of m n)))
  put_stands place x inside k o new out back is =
      subst (λ (h : HeapValue). Stands (record s { own = h }) (with_cells m n (written_at place (x ∷ []) (cells_of m n))))
      (sym (back ∙ (λ i. with_place (out i) b (with_content (at (out i) b) (In (is i))))))
      (written_stands place x inside)
