-- Numbers, uses and bound variables of a folded body.
use Rattle.std.proofs.Common.{◌≡◌, ℕ, ◌+◌, ◌<◌, ◌≤◌, false, eqb, List, [], ◌∷◌, ◌++◌, Some, sym, ap, subst, ◌∙◌, inl, inr, arith}
use Rattle.std.specs.Prelude.{slice_get}
use Rattle.sac_base.specs.declared.site.Site.{Site}
use Rattle.core_ir.specs.declared.tree.Var.{Var}
use Rattle.core_ir.specs.Binders.{bound_in, bound_in_right}
use Rattle.core_ir.specs.Terms.{PlainTerm, BlockTerm, RightTerm, PartTerm, LetTerm, Gives, Bind, Plain, chain}
use Rattle.core_ir.specs.Uses.{AvoidsAll, Avoids, AvoidsRight}
use Rattle.core_forms.specs.inlining.Inlined.{bindings, results}
use Rattle.core_forms.proofs.inlined_bodies.Names.{Names, both, same}
use Rattle.core_subst.specs.Names.{variable}
use Rattle.core_subst.specs.copy.Mapped.{mapped}
use Rattle.folded_parts.specs.Folding.{BlockFolded, RightFolded, ends, takes, keeps, stays, branches, turns, copied, copy_binds, last_copy, taken}
use Rattle.dense_variables.proofs.numbered.Numbered.{apart_if}
use Rattle.fold_walk.proofs.fold_laws.Copied.{IsSameOrNew, renumbered, same_or_new}
use Rattle.fold_walk.proofs.fold_laws.Avoiding.{avoids_mapped}
use Rattle.fold_walk.proofs.fold_laws.Chosen.{chosen_is, Single, SingleRight}
use Rattle.fold_walk.proofs.fold_laws.Sources.{Source, own_names, taken_bound}

-- ---- numbers

itself_most : (n : ℕ) → n ≤ n
itself_most n = omega arith

on_most : (a b c : ℕ) → a ≤ b → b ≤ c → a ≤ c
on_most a b c p q = omega (arith, p, q)

pub plus_most : (n k m : ℕ) → n + k ≤ m → n ≤ m
plus_most n k m p = omega (arith, p)

module _ (p : Var) (sources : List PartTerm) (holders : List ℕ) where
  mutual
    pub rises : {i n j m : ℕ} {b d : BlockTerm} → BlockFolded p sources holders i n b d j m → n ≤ m
    rises (ends {n = n}) = itself_most n
    rises (takes {n = n} {m = m} {part = part} e h) = plus_most n (copy_binds part) m (rises h)
    rises (keeps {n = n} {l = l} {m = m} e h g) = on_most n l m (right_rises h) (rises g)

    pub right_rises : {i n j m : ℕ} {r q : RightTerm} → RightFolded p sources holders i n r q j m → n ≤ m
    right_rises (stays {n = n} w) = itself_most n
    right_rises (branches {n = n} {l = l} {m = m} h g) = on_most n l m (rises h) (rises g)
    right_rises (turns {n = n} {l = l} {m = m} h g) = on_most n l m (rises h) (rises g)

-- ---- uses

pub results_avoid : (x : Var) (b : BlockTerm) → Avoids x b → AvoidsAll x (results b)
results_avoid x (Gives us) h = h
results_avoid x (Bind us s r b) h = results_avoid x b h.1

last_avoids : (x : Var) (ts zs : List Var) (s : Site) (d : BlockTerm) → AvoidsAll x zs → Avoids x d → Avoids x (chain (last_copy ts zs s) d)
last_avoids x [] zs s d h k = k
last_avoids x (t ∷ ts) [] s d h k = k
last_avoids x (t ∷ ts) (z ∷ zs) s d h k = ((h.0, tt), k)

chain_avoids : (x : Var) (b : BlockTerm) (ls : List LetTerm) (d : BlockTerm) → Avoids x b → Avoids x (chain ls d) → Avoids x (chain (bindings b ++ ls) d)
chain_avoids x (Gives us) ls d h k = k
chain_avoids x (Bind us s r b) ls d h k = (h.0, chain_avoids x b ls d h.1 k)

below_new : (x n u : ℕ) → x < n → n ≤ u → x ≡ u → ⊥
below_new x n u p q e = omega (arith, p, q, e)

-- what stands for a variable in a copy is none of the old ones that the variable is not
pub still_apart : (index : Var) (body : BlockTerm) (n : ℕ) (x : Var) → x.0 < n → (u : Var) → eqb x.0 u.0 ≡ false → eqb x.0 (renumbered index body n u).0 ≡ false
still_apart index body n x l u h = go (same_or_new index body n u)
  where
    go : IsSameOrNew n u (renumbered index body n u) → eqb x.0 (renumbered index body n u).0 ≡ false
    go (inl e) = (λ i. eqb x.0 (e i).0) ∙ h
    go (inr k) = apart_if x.0 (renumbered index body n u).0 (below_new x.0 n (renumbered index body n u).0 l k)

pub copy_avoids : (x index : Var) (body : BlockTerm) (n : ℕ) → x.0 < n → Avoids x body → Avoids x (mapped (renumbered index body n) body)
copy_avoids x index body n l h = avoids_mapped x (renumbered index body n) (still_apart index body n x l) body h

pub taken_avoids : (x : Var) (part : PartTerm) (index : Var) (xs : List Var) (s : Site) (n : ℕ) (d : BlockTerm) → x.0 < n → eqb x.0 index.0 ≡ false → Avoids x part.body → Avoids x d → Avoids x (chain (taken part index xs s n) d)
taken_avoids x part index xs s n d l e h k =
    let c = copy_avoids x part.head.index part.body n l h in
    ((e, tt), chain_avoids x (copied part n) (last_copy xs (results (copied part n)) s) d c (last_avoids x xs (results (copied part n)) s d (results_avoid x (copied part n) c) k))

below_more : (x n m : ℕ) → x < n → n ≤ m → x < m
below_more x n m p q = omega (arith, p, q)

below_plus : (x n k : ℕ) → x < n → x < n + k
below_plus x n k p = omega (arith, p)

module _ (p : Var) (sources : List PartTerm) (holders : List ℕ) (x : Var) (out : (j : ℕ) (part : PartTerm) → slice_get sources j ≡ Some part → Avoids x part.body) where
  mutual
    -- what neither the body nor the producer's parts use is not used in the folded body
    pub avoids_folded : {i n j m : ℕ} {b d : BlockTerm} → BlockFolded p sources holders i n b d j m → x.0 < n → Avoids x b → Avoids x d
    avoids_folded ends l h = h
    avoids_folded (takes {i = i} {n = n} {xs = xs} {s = s} {r = r} {d = d} {index = index} {part = part} e g) l h =
        let w = chosen_is p sources holders i r index part e in
        let u : AvoidsAll x (w.array ∷ index ∷ []) = subst (AvoidsRight x) w.selects h.0 in
        taken_avoids x part index xs s n d l u.1.0 (out w.number part w.there) (avoids_folded g (below_plus x.0 n (copy_binds part) l) h.1)
    avoids_folded (keeps {n = n} {l = m} e f g) l h = (avoids_right f l h.0, avoids_folded g (below_more x.0 n m l (right_rises p sources holders f)) h.1)

    avoids_right : {i n j m : ℕ} {r q : RightTerm} → RightFolded p sources holders i n r q j m → x.0 < n → AvoidsRight x r → AvoidsRight x q
    avoids_right (stays w) l h = h
    avoids_right (branches {n = n} {l = m} f g) l h = (h.0, avoids_folded f l h.1, avoids_folded g (below_more x.0 n m l (rises p sources holders f)) h.2)
    avoids_right (turns {n = n} {l = m} f g) l h = (h.0, avoids_folded f l h.1, avoids_folded g (below_more x.0 n m l (rises p sources holders f)) h.2)

-- ---- bound variables

less_low : (low n k : ℕ) → low ≤ n → low ≤ n + k
less_low low n k h = omega (arith, h)

plus_up : (n k : ℕ) → n ≤ n + k
plus_up n k = omega arith

module _ (p : Var) (sources : List PartTerm) (holders : List ℕ) (around : List Var) (known : (j : ℕ) (part : PartTerm) → slice_get sources j ≡ Some part → Source around part) where
  selected_one : (xs : List Var) (r : RightTerm) (x index : Var) → r ≡ Plain (PlainTerm.Select x index) → SingleRight xs r → (t : Var) × (xs ≡ t ∷ [])
  selected_one xs r x index e h = subst (SingleRight xs) e h

  taken_names :
      (part : PartTerm) (source : Source around part) (index : Var) (xs : List Var) (s : Site) (r : RightTerm) (b d : BlockTerm) (n m : ℕ) → (t : Var) × (xs ≡ t ∷ []) → bound_in_right r ≡ [] → n + copy_binds part ≤ m →
      Names (bound_in b) (bound_in d) (n + copy_binds part) m → Names (bound_in (Bind xs s r b)) (bound_in (chain (taken part index xs s n) d)) n m
  taken_names part source index xs s r b d n m one none l h =
      let t = one.0 in
      let mid = n + copy_binds part in
      let rest : Names ((t ∷ []) ++ bound_in b) ((t ∷ []) ++ bound_in d) mid m = both (t ∷ []) (bound_in b) (t ∷ []) (bound_in d) mid mid m (itself_most mid) l (same (t ∷ []) mid mid) h in
      let all : Names ((t ∷ []) ++ bound_in b) ((variable n ∷ bound_in (copied part n)) ++ ((t ∷ []) ++ bound_in d)) n m =
      both [] ((t ∷ []) ++ bound_in b) (variable n ∷ bound_in (copied part n)) ((t ∷ []) ++ bound_in d) n mid m (plus_up n (copy_binds part)) l (own_names around part source n) rest in
      let new : bound_in (chain (taken part index xs s n) d) ≡ (variable n ∷ bound_in (copied part n)) ++ ((t ∷ []) ++ bound_in d) =
      (λ i. bound_in (chain (taken part index (one.1 i) s n) d)) ∙ taken_bound around part source n index t s d in
      let old : bound_in (Bind xs s r b) ≡ (t ∷ []) ++ bound_in b = λ i. one.1 i ++ (none i ++ bound_in b) in
      subst (λ (ys : List Var). Names ys (bound_in (chain (taken part index xs s n) d)) n m) (sym old)
      (subst (λ (ys : List Var). Names ((t ∷ []) ++ bound_in b) ys n m) (sym new) all)

  mutual
    -- each variable is bound once, the old ones and new ones
    pub names_folded : {i n j m : ℕ} {b d : BlockTerm} → BlockFolded p sources holders i n b d j m → Single b → Names (bound_in b) (bound_in d) n m
    names_folded (ends {n = n}) s = same [] n n
    names_folded (takes {i = i} {n = n} {m = m} {xs = xs} {s = st} {r = r} {b = b} {d = d} {index = index} {part = part} e g) s =
        let w = chosen_is p sources holders i r index part e in
        taken_names part (known w.number part w.there) index xs st r b d n m (selected_one xs r w.array index w.selects s.0) (ap bound_in_right w.selects) (rises p sources holders g) (names_folded g s.1)
    names_folded (keeps {n = n} {l = l} {m = m} {xs = xs} {r = r} {q = q} {b = b} {d = d} e f g) s =
        let a = right_rises p sources holders f in
        let c = rises p sources holders g in
        both xs (bound_in_right r ++ bound_in b) xs (bound_in_right q ++ bound_in d) n n m (itself_most n) (on_most n l m a c) (same xs n n)
        (both (bound_in_right r) (bound_in b) (bound_in_right q) (bound_in d) n l m a c (names_right xs f s.0) (names_folded g s.1))

    names_right : (xs : List Var) {i n j m : ℕ} {r q : RightTerm} → RightFolded p sources holders i n r q j m → SingleRight xs r → Names (bound_in_right r) (bound_in_right q) n m
    names_right xs (stays {n = n} {r = r} w) s = same (bound_in_right r) n n
    names_right xs (branches {n = n} {l = l} {m = m} {a = a} {b = b} {c = c} {d = d} f g) s =
        both (bound_in a) (bound_in b) (bound_in c) (bound_in d) n l m (rises p sources holders f) (rises p sources holders g) (names_folded f s.0) (names_folded g s.1)
    names_right xs (turns {n = n} {l = l} {m = m} {params = params} {a = a} {b = b} {c = c} {d = d} f g) s =
        let u = rises p sources holders f in
        let v = rises p sources holders g in
        both params (bound_in a ++ bound_in b) params (bound_in c ++ bound_in d) n n m (itself_most n) (on_most n l m u v) (same params n n)
        (both (bound_in a) (bound_in b) (bound_in c) (bound_in d) n l m u v (names_folded f s.0) (names_folded g s.1))
