-- A raw part and a full row own the same cells: what is asked and what is given by the two calls that make one of the other. Assumes `Logic`.
use Rattle.atomic_table.proofs.Names.{◌≡◌, ℕ, ◌*◌, ◌^◌, ◌<◌, List, [], ◌∷◌, length, sym, subst, ◌∙◌, ap, arith, Val, SProp, ent, sep, Lft, Share, flft, ‵, raw, ◌⊛◌, some, given, later, ◌$◌, ◌∵◌, !, qed, move, drop, split, fsplit, fjoin, use0, use1, use2, pick, learn, await, done, RattleType, Ptr, block_ptr, InBlock, Logic, sem, Ura, Bool, true, replicate, length-replicate, get_or-replicate, ◌⊑◌, mem}
use base.Logic.{ex, guard}
use types.Kit.{now, updating, show, check}
use prog.Memory.{Memory}
use prog.Routine.{Routine}
use contract.Monad.{Fun}
use Rattle.core.specs.Mem.Slots.{slots_items, slots_filled, slots_ptr, slots_len, slots_counts, IsFull}
use Rattle.core.proofs.mem.Param.{El, R, el_x}
use Rattle.core.proofs.slots.Places.{sz}
use Rattle.core.proofs.slots.Opens.{row_val}
use Rattle.atomic_table.specs.Seated.{strip}
use Rattle.atomic_table.proofs.Fields.{strip_of}
use Rattle.atomic_table.proofs.Dealing.{strip_lies}
use Rattle.atomic_table.proofs.Raw.{Row, all as places, Into, at_into, Into-gives, From, at_from, Made, from_goes, from_gives, to_strip, of_strip}
use Rattle.buffer_parts.proofs.Words.{RawData, raw_made}
use Rattle.buffer_parts.specs.contracts.raw.RawPart as raw_part

module _ (E : El) where
  abbrev pub Own : RattleType
  Own = raw_part.the_row (R E)

  abbrev pub part_of : Ptr → List (el_x E) → Own.Denot
  part_of p xs = record { ptr = p; items = xs }

  abbrev pub Lies : Ptr → List (el_x E) → Type 0
  Lies p xs = InBlock p × (length xs * (mem (R E)).size < 2 ^ 63)

  -- the row of n places at p which all hold their values, and these are xs
  abbrev pub IsRow : Ptr → ℕ → List (el_x E) → (Row E).Denot → Type 0
  IsRow p n xs r = (slots_ptr r ≡ p) × (slots_len r ≡ n) × (slots_items r ≡ xs) × IsFull r

module _ (E : El) {M : Type 1} {𝓤 : Ura M} (𝓛 : Logic 𝓤) where
  open 𝓛 use {H, A}

  -- cells behind a pointer are a raw part
  pub makes_part : (p : Ptr) (xs : List (el_x E)) → ent 𝓤 (sem 𝓛 (strip (R E) p xs)) (sem 𝓛 ((Own E).own_val (part_of E p xs) (strip_of p ∷ [])))
  makes_part p xs =
      qed 𝓛 (‵ (strip (R E) p xs) ∷ []) ∵ use0 𝓛 (‵ ((RawData (R E)).own_val (p, tt) (strip_of p ∷ []))) (raw_made (R E) 𝓛 p) $ fjoin ! $ done !

  -- and these cells are all that it owns
  pub cells_of_part : (p : Ptr) (xs : List (el_x E)) (ws : List Val) → ent 𝓤 (sem 𝓛 ((Own E).own_val (part_of E p xs) ws)) (sem 𝓛 (strip (R E) p xs))
  cells_of_part p xs ws = qed 𝓛 (‵ ((Own E).own_val (part_of E p xs) ws) ∷ []) ∵ fsplit ! $ drop ! $ done !

  pub part_lies : (p : Ptr) (xs : List (el_x E)) (ws : List Val) → ent 𝓤 (sem 𝓛 ((Own E).own_val (part_of E p xs) ws)) (guard 𝓤 (Lies E p xs) (sem 𝓛 ((Own E).own_val (part_of E p xs) ws)))
  part_lies p xs ws =
      qed 𝓛 (‵ ((Own E).own_val (part_of E p xs) ws) ∷ []) ∵ fsplit ! $ move ! (1 ∷ []) $ use1 𝓛 (given (Lies E p xs) (‵ (strip (R E) p xs))) (strip_lies 𝓛 (R E) p xs) $
      learn ! (λ lies. move ! (1 ∷ 0 ∷ []) $ fjoin ! $ check ! lies $ done !)

  module _ (at_mem : Memory → SProp 𝓤) (run : Routine → Fun 𝓤) (κ : Lft) (q : Share) (b o : ℕ) where
    -- a full row that was given up is a raw part
    pub row_given_up : (r : (Row E).Denot) → slots_ptr r ≡ block_ptr b o → IsFull r → slots_len r * sz E < 2 ^ 63 → (v : Val)
        → ent 𝓤 ((Into E 𝓛 at_mem run).post (at_into E 𝓛 at_mem run κ q r b o) v)
        (H.⇛ (guard 𝓤 (v ≡ row_val b o (slots_len r)) (sep 𝓤 (sem 𝓛 ((Own E).own_val (part_of E (block_ptr b o) (slots_items r)) (strip_of (block_ptr b o) ∷ []))) (A.lft κ q))))
    row_given_up r at full small v =
        let p : Ptr = block_ptr b o in let n : ℕ = slots_len r in let xs : List (el_x E) = slots_items r in let fs : List Bool = slots_filled r in
        let counted : n ≡ length xs = (slots_counts r).0 in let marked : n ≡ length fs = (slots_counts r).1 in
        let all_full : (k : ℕ) → k < length fs → lib.ListN.get_or fs k mathlib.Core.Bool.false ≡ true = λ k lt. full k (omega arith) (omega arith) in
        let few : length xs * sz E < 2 ^ 63 = subst (λ (k : ℕ). k * sz E < 2 ^ 63) counted small in
        qed 𝓛 (raw ((Into E 𝓛 at_mem run).post (at_into E 𝓛 at_mem run κ q r b o) v) ∷ []) ∵ updating ! $
        use1 𝓛 (later (given (v ≡ row_val b o n) (‵ (places E b o xs fs) ⊛ ‵ (flft κ q)))) (Into-gives E 𝓛 at_mem run κ q r b o v at) $ await ! tt $ learn ! (λ is. split ! $
        use1 𝓛 (‵ (strip (R E) p xs)) (to_strip E 𝓛 b o xs fs (sym marked ∙ counted) all_full few) $
        use1 𝓛 (‵ ((Own E).own_val (part_of E p xs) (strip_of p ∷ []))) (makes_part p xs) $ now ! $ check ! is $ done !)

    -- a raw part and its length are what a row is made of
    pub part_handed_over : (n : ℕ) (xs : List (el_x E)) (ws : List Val) → κ ⊑ E.row.lives → n ≡ length xs → n < 2 ^ 64 → length xs * sz E < 2 ^ 63
        → ent 𝓤 (sep 𝓤 (sem 𝓛 ((Own E).own_val (part_of E (block_ptr b o) xs) ws)) (A.lft κ q)) ((From E 𝓛 at_mem run).pre (at_from E 𝓛 at_mem run κ q b o n xs (replicate (length xs) true)))
    part_handed_over n xs ws lives counted fits few =
        let p : Ptr = block_ptr b o in let fs : List Bool = replicate (length xs) true in let marked : n ≡ length fs = counted ∙ sym (length-replicate (length xs) true) in
        qed 𝓛 (‵ ((Own E).own_val (part_of E p xs) ws) ∷ ‵ (flft κ q) ∷ []) ∵ use1 𝓛 (‵ (strip (R E) p xs)) (cells_of_part p xs ws) $
        use1 𝓛 (‵ (places E b o xs fs)) (of_strip E 𝓛 b o xs) $
        use2 𝓛 (raw ((From E 𝓛 at_mem run).pre (at_from E 𝓛 at_mem run κ q b o n xs fs)))
        (from_goes E 𝓛 at_mem run κ q b o n xs fs lives counted marked fits (subst (λ (k : ℕ). k * sz E < 2 ^ 63) (sym counted) few)) $ done !

    -- and then the row is full
    pub row_had : (n : ℕ) (xs : List (el_x E)) → n ≡ length xs → (v : Val)
        → ent 𝓤 ((From E 𝓛 at_mem run).post (at_from E 𝓛 at_mem run κ q b o n xs (replicate (length xs) true)) v)
        (H.⇛ (ex 𝓤 (λ (r : (Row E).Denot). guard 𝓤 ((v ≡ row_val b o n) × IsRow E (block_ptr b o) n xs r) (sep 𝓤 (sem 𝓛 ((Row E).own_val r (row_val b o n ∷ []))) (A.lft κ q)))))
    row_had n xs counted v =
        let fs : List Bool = replicate (length xs) true in
        let Shown : (Row E).Denot → SProp 𝓤 = λ r. guard 𝓤 ((v ≡ row_val b o n) × IsRow E (block_ptr b o) n xs r) (sep 𝓤 (sem 𝓛 ((Row E).own_val r (row_val b o n ∷ []))) (A.lft κ q)) in
        let all_full : (r : (Row E).Denot) → slots_len r ≡ n → slots_filled r ≡ fs → IsFull r = λ r long same k low high.
        let below : k < length xs = omega arith in
        ap (λ (gs : List Bool). lib.ListN.get_or gs k mathlib.Core.Bool.false) same ∙ get_or-replicate (length xs) k true mathlib.Core.Bool.false below in
        qed 𝓛 (raw ((From E 𝓛 at_mem run).post (at_from E 𝓛 at_mem run κ q b o n xs fs) v) ∷ []) ∵ updating ! $
        use1 𝓛 (later (some (λ (r : (Row E).Denot). given ((v ≡ row_val b o n) × Made E 𝓛 at_mem run κ q b o n xs fs r) (‵ ((Row E).own_val r (row_val b o n ∷ [])) ⊛ ‵ (flft κ q)))))
        (from_gives E 𝓛 at_mem run κ q b o n xs fs v) $ await ! tt $ pick ! (λ r. learn ! (λ is. split ! $ now ! $
        show ! Shown r $ check ! (is.0, (is.1.0, is.1.1, is.1.2, all_full r is.1.1 is.1.3)) $ done !))
