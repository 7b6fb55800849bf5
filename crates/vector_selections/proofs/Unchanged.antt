-- Where no vector is new, nothing changes.
use Rattle.std.proofs.Common.{◌≡◌, ℕ, suc, ◌+◌, ◌-◌, ◌≤◌, List, [], ◌∷◌, map, Option, Some, None, refl, sym, ap, ◌∙◌, arith}
use Rattle.std.specs.List.{sum}
use Rattle.std.proofs.lemmas.List.Sums.{sum_by-cons}
use Rattle.std.specs.Prelude.{Result, Ok, Err, IfOk}
use Rattle.core_ir.specs.Outcome.{SameHeads, SameOutside}
use Rattle.core_ir.specs.Terms.{BlockTerm, RightTerm, GensTerm, PartsTerm, FunTerm, CoreTerm, Gives, Bind, Plain, NoGens, Gen, NoParts, Part}
use Rattle.core_subst.specs.Names.{above_function}
use Rattle.core_facts.specs.Facts.{Facts, note_all, right_facts, in_part}
use Rattle.core_facts.specs.constants.Called.{called as called_in, params_facts}
use Rattle.core_forms.specs.selections.Vectors.{Selection, by_scalar, bind_vector, behind, next, next_right, next_gens, next_parts, vectored, vectored_right, vectored_gens, vectored_parts, vectored_core}
use Rattle.core_forms.proofs.inlined_bodies.Counts.{trans}
use Rattle.vector_selections.specs.Vectored.{vectored_function, vectors_in, vectors_in_core}

pub both_give : {X Y : Type 0} (r : Result X Y) (P Q R : X → Type 0) → ((x : X) → P x → Q x → R x) → IfOk r P → IfOk r Q → IfOk r R
both_give (Ok x) P Q R f p q = f x p q
both_give (Err e) P Q R f p q = tt

-- of two steps up that come back to the first number, each stays there
pub first_stays : (n m t : ℕ) → n ≤ m → m ≤ t → t ≡ n → m ≡ n
first_stays n m t p q e = omega arith

pub second_stays : (n m t : ℕ) → n ≤ m → m ≤ t → t ≡ n → t ≡ m
second_stays n m t p q e = omega arith

above_itself : {A : Type 0} (n m : ℕ) → n ≤ m → suc m ≡ n → A
above_itself n m p e = absurd (omega arith)

itself_le : (n : ℕ) → n ≤ n
itself_le n = omega arith

next_le : (n : ℕ) → n ≤ suc n
next_le n = omega arith

module _ (called : ℕ → List (Option (List ℕ))) where
  -- ---- numbers do not fall

  behind_rises : (o : Option Selection) (n : ℕ) → n ≤ behind o n
  behind_rises None n = itself_le n
  behind_rises (Some x) n = next_le n

  mutual
    rises : (b : BlockTerm) (k : Facts) (n : ℕ) → n ≤ next called b k n
    rises (Gives xs) k n = itself_le n
    rises (Bind xs s r b) k n =
        let m = next_right called r k n in
        let o = by_scalar r k in
        trans n m (next called b (note_all k xs (right_facts called r k)) (behind o m)) (rises_right r k n)
        (trans m (behind o m) (next called b (note_all k xs (right_facts called r k)) (behind o m)) (behind_rises o m) (rises b (note_all k xs (right_facts called r k)) (behind o m)))

    rises_right : (r : RightTerm) (k : Facts) (n : ℕ) → n ≤ next_right called r k n
    rises_right (Plain p) k n = itself_le n
    rises_right (RightTerm.If x a b) k n = let m = next called a k n in trans n m (next called b k m) (rises a k n) (rises b k m)
    rises_right (RightTerm.Loop first start params test body s) k n =
        let k' = note_all k params [] in
        let m = next called test k' n in
        trans n m (next called body k' m) (rises test k' n) (rises body k' m)
    rises_right (RightTerm.Call g xs) k n = itself_le n
    rises_right (RightTerm.With o gens) k n = rises_gens gens k n
    rises_right (RightTerm.Parted frame base cell o parts) k n = rises_parts parts k n

    rises_gens : (gs : GensTerm) (k : Facts) (n : ℕ) → n ≤ next_gens called gs k n
    rises_gens NoGens k n = itself_le n
    rises_gens (Gen h b rest) k n =
        let m = next called b (note_all k (h.index ∷ h.names) []) n in trans n m (next_gens called rest k m) (rises b (note_all k (h.index ∷ h.names) []) n) (rises_gens rest k m)

    rises_parts : (ps : PartsTerm) (k : Facts) (n : ℕ) → n ≤ next_parts called ps k n
    rises_parts NoParts k n = itself_le n
    rises_parts (Part h b rest) k n =
        let m = next called b (in_part k h) n in trans n m (next_parts called rest k m) (rises b (in_part k h) n) (rises_parts rest k m)

  -- ---- where they stay, the terms do

  mutual
    pub block_stays : (b : BlockTerm) (k : Facts) (n : ℕ) → next called b k n ≡ n → vectored called b k n ≡ b
    block_stays (Gives xs) k n e = refl
    block_stays (Bind xs s r b) k n e =
        go (by_scalar r k) e (λ q. right_stays r k n q) (λ q. block_stays b k' m q)
      where
        k' : Facts
        k' = note_all k xs (right_facts called r k)

        m : ℕ
        m = next_right called r k n

        go : (o : Option Selection) → next called b k' (behind o m) ≡ n → (m ≡ n → vectored_right called r k n ≡ r) → (next called b k' m ≡ m → vectored called b k' m ≡ b)
            → bind_vector o m xs s (vectored_right called r k n) (vectored called b k' (behind o m)) ≡ Bind xs s r b
        go (Some x) q right rest =
            let t = next called b k' (suc m) in
            above_itself n m (rises_right r k n) (first_stays n (suc m) t (trans n m (suc m) (rises_right r k n) (behind_rises (Some x) m)) (rises b k' (suc m)) q)
        go None q right rest =
            let t = next called b k' m in
            λ i. Bind xs s (right (first_stays n m t (rises_right r k n) (rises b k' m) q) i) (rest (second_stays n m t (rises_right r k n) (rises b k' m) q) i)

    pub right_stays : (r : RightTerm) (k : Facts) (n : ℕ) → next_right called r k n ≡ n → vectored_right called r k n ≡ r
    right_stays (Plain p) k n e = refl
    right_stays (RightTerm.If x a b) k n e =
        let m = next called a k n in
        let t = next called b k m in
        λ i. RightTerm.If x (block_stays a k n (first_stays n m t (rises a k n) (rises b k m) e) i) (block_stays b k m (second_stays n m t (rises a k n) (rises b k m) e) i)
    right_stays (RightTerm.Loop first start params test body s) k n e =
        let k' = note_all k params [] in
        let m = next called test k' n in
        let t = next called body k' m in
        λ i. RightTerm.Loop first start params (block_stays test k' n (first_stays n m t (rises test k' n) (rises body k' m) e) i) (block_stays body k' m (second_stays n m t (rises test k' n) (rises body k' m) e) i) s
    right_stays (RightTerm.Call g xs) k n e = refl
    right_stays (RightTerm.With o gens) k n e = ap (RightTerm.With o) (gens_stay gens k n e)
    right_stays (RightTerm.Parted frame base cell o parts) k n e = ap (RightTerm.Parted frame base cell o) (parts_stay parts k n e)

    pub gens_stay : (gs : GensTerm) (k : Facts) (n : ℕ) → next_gens called gs k n ≡ n → vectored_gens called gs k n ≡ gs
    gens_stay NoGens k n e = refl
    gens_stay (Gen h b rest) k n e =
        let k' = note_all k (h.index ∷ h.names) [] in
        let m = next called b k' n in
        let t = next_gens called rest k m in
        λ i. Gen h (block_stays b k' n (first_stays n m t (rises b k' n) (rises_gens rest k m) e) i) (gens_stay rest k m (second_stays n m t (rises b k' n) (rises_gens rest k m) e) i)

    pub parts_stay : (ps : PartsTerm) (k : Facts) (n : ℕ) → next_parts called ps k n ≡ n → vectored_parts called ps k n ≡ ps
    parts_stay NoParts k n e = refl
    parts_stay (Part h b rest) k n e =
        let k' = in_part k h in
        let m = next called b k' n in
        let t = next_parts called rest k m in
        λ i. Part h (block_stays b k' n (first_stays n m t (rises b k' n) (rises_parts rest k m) e) i) (parts_stay rest k m (second_stays n m t (rises b k' n) (rises_parts rest k m) e) i)

  -- ---- functions

  none_between : (n m : ℕ) → n ≤ m → m - n ≡ 0 → m ≡ n
  none_between n m p e = omega arith

  pub function_stays : (f : FunTerm) → vectors_in called f ≡ 0 → vectored_function called f ≡ f
  function_stays f e =
      let n = above_function f in
      let k = params_facts f in
      λ i. record f { body = block_stays f.body k n (none_between n (next called f.body k n) (rises f.body k n) e) i }

  left_none : (a b : ℕ) → a + b ≡ 0 → a ≡ 0
  left_none a b e = omega arith

  right_none : (a b : ℕ) → a + b ≡ 0 → b ≡ 0
  right_none a b e = omega arith

  pub functions_stay : (fs : List FunTerm) → sum (map (vectors_in called) fs) ≡ 0 → map (vectored_function called) fs ≡ fs
  functions_stay [] e = refl
  functions_stay (f ∷ fs) e =
      let a = vectors_in called f in
      let b = sum (map (vectors_in called) fs) in
      let both : a + b ≡ 0 = sym (sum_by-cons (λ (m : ℕ). m) a (map (vectors_in called) fs)) ∙ e in
      λ i. function_stays f (left_none a b both) i ∷ functions_stay fs (right_none a b both) i

pub core_stays : (core : CoreTerm) → vectors_in_core core ≡ 0 → vectored_core core ≡ core
core_stays core e = λ i. record core { functions = functions_stay (called_in core) core.functions e i }

-- ---- what is outside bodies

heads_stay : (change : FunTerm → BlockTerm) (fs : List FunTerm) → SameHeads fs (map (λ (f : FunTerm). record f { body = change f }) fs)
heads_stay change [] = tt
heads_stay change (f ∷ fs) = (record { site = refl; types = refl; inlines = refl }, heads_stay change fs)

pub outside_stays : (core : CoreTerm) → SameOutside core (vectored_core core)
outside_stays core = record { groups = refl; main = refl; heads = heads_stay (λ (f : FunTerm). vectored (called_in core) f.body (params_facts f) (above_function f)) core.functions }
