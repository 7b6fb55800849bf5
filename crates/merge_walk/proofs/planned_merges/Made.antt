-- The variables that made parts bind are numbered one after another.
use Rattle.std.proofs.Common.{◌≡◌, ℕ, zero, suc, ◌+◌, List, [], ◌∷◌, ◌++◌, map, length, take, drop, refl, sym, ap, subst, ◌∙◌, arith, append-nil, append_assoc}
use Rattle.std.proofs.lemmas.List.{take-append-drop}
use Rattle.sac_base.specs.declared.grid.Grid1.{Grid1}
use Rattle.sac_base.specs.declared.site.Site.{Site}
use Rattle.core_ir.specs.declared.tree.Var.{Var}
use Rattle.core_ir.specs.Binders.{bound_in, bound_in_parts}
use Rattle.core_ir.specs.Terms.{PlainTerm, BlockTerm, PartsTerm, LetTerm, PartTerm, PartHead, Plain, NoParts, Part, chain, parts_of}
use Rattle.core_ir.specs.Uses.{targets_of}
use Rattle.core_ir.specs.WellFormed.{Distinct}
use Rattle.core_subst.specs.copy.Mapped.{mapped}
use Rattle.core_subst.proofs.copy.Renaming.{bound_mapped}
use Rattle.core_subst.specs.Names.{variable}
use Rattle.core_forms.specs.merge.Built.{AllParts, picks}
use Rattle.core_forms.proofs.merge.Straight.{chain_append}
use Rattle.core_forms.specs.norm.Copied.{AreFrom}
use Rattle.parted_bodies.specs.Making.{binds_of}
use Rattle.merged_parts.specs.Merging.{every_other, merged_at, merged_inner, merged_names, part_list}
use Rattle.merge_walk.proofs.planned_merges.Numbering.{from, from_both}

abbrev row_let : Site → Var → List Var → LetTerm
row_let s x xs = record { targets = x ∷ []; site = s; right = Plain (PlainTerm.Literal xs) }

-- ---- components

picks_bound : (s : Site) (u : Var) (j : ℕ) (xs cs : List Var) (b : BlockTerm) → bound_in (chain (picks s u j xs cs) b) ≡ targets_of (picks s u j xs cs) ++ bound_in b
picks_bound s u j [] cs b = refl
picks_bound s u j (x ∷ xs) [] b = refl
picks_bound s u j (x ∷ xs) (c ∷ cs) b = ap (λ l. c ∷ x ∷ l) (picks_bound s u (suc j) xs cs b)

pub picks_from : (s : Site) (u : Var) (j k n : ℕ) → AreFrom n (targets_of (picks s u j (every_other k (suc n)) (every_other k n)))
picks_from s u j zero n = tt
picks_from s u j (suc k) n = (refl, (refl, picks_from s u (suc j) k (suc (suc n))))

pub picks_count : (s : Site) (u : Var) (j k n : ℕ) → length (targets_of (picks s u j (every_other k (suc n)) (every_other k n))) ≡ k + k
picks_count s u j zero n = refl
picks_count s u j (suc k) n = let rest = picks_count s u (suc j) k (suc (suc n)) in omega (arith, rest)

-- ---- one part

module _ (grid : List Grid1) (outer : Var) (lets : List LetTerm) where
  abbrev pub OneEach : PartHead → BlockTerm → Type 0
  OneEach h c = Distinct (outer ∷ h.index ∷ bound_in (chain lets c))

  module _ (g : PartTerm) (n : ℕ) where
    abbrev pub axes_of : ℕ
    axes_of = length grid + length g.head.grid

    abbrev pub number_of : ℕ
    number_of = suc n + (axes_of + axes_of)

    abbrev pub names_of : Var → Var
    names_of = merged_names outer g.head.index (chain lets g.body) number_of

    abbrev pub own_picks : List LetTerm
    own_picks = picks g.head.site (variable n) 0 (every_other axes_of (suc (suc n))) (every_other axes_of (suc n))

    -- the index and its components
    pub front_from : AreFrom n (variable n ∷ targets_of own_picks)
    front_from = (refl, picks_from g.head.site (variable n) 0 axes_of (suc n))

    pub front_count : n + length (variable n ∷ targets_of own_picks) ≡ number_of
    front_count = let c = picks_count g.head.site (variable n) 0 axes_of (suc n) in omega (arith, c)

    at_bound : (merged_at grid outer lets g n).head.index ∷ bound_in (merged_at grid outer lets g n).body ≡ (variable n ∷ targets_of own_picks) ++ map names_of (outer ∷ g.head.index ∷ bound_in (chain lets g.body))
    at_bound =
        let xs = every_other axes_of (suc (suc n)) in
        let b = mapped names_of (chain lets g.body) in
        let rows = row_let g.head.site (names_of outer) (take (length grid) xs) ∷ row_let g.head.site (names_of g.head.index) (drop (length grid) xs) ∷ [] in
        ap (λ l. variable n ∷ l)
        ((λ i. bound_in (chain (picks g.head.site (variable n) 0 (take-append-drop (length grid) xs i) (every_other axes_of (suc n)) ++ rows) b))
        ∙ ap bound_in (chain_append own_picks rows b)
        ∙ picks_bound g.head.site (variable n) 0 xs (every_other axes_of (suc n)) (chain rows b)
        ∙ ap (λ l. targets_of own_picks ++ (names_of outer ∷ names_of g.head.index ∷ l)) (bound_mapped names_of (chain lets g.body)))

    at_from : OneEach g.head g.body → AreFrom n ((merged_at grid outer lets g n).head.index ∷ bound_in (merged_at grid outer lets g n).body)
    at_from d =
        subst (AreFrom n) (sym at_bound)
        (from_both n (variable n ∷ targets_of own_picks) (map names_of (outer ∷ g.head.index ∷ bound_in (chain lets g.body))) front_from
        (subst (λ m. AreFrom m (map names_of (outer ∷ g.head.index ∷ bound_in (chain lets g.body)))) (sym front_count) (from (λ x. x) (outer ∷ g.head.index ∷ bound_in (chain lets g.body)) number_of d)))

  -- ---- the parts for one inner loop

  pub inner_from : (inner : PartsTerm) (n : ℕ) → AllParts OneEach inner → AreFrom n (bound_in_parts (parts_of (merged_inner grid outer lets (part_list inner) n)))
  inner_from NoParts n h = tt
  inner_from (Part g c rest) n h =
      let p : PartTerm = record { head = g; body = c } in
      let first = merged_at grid outer lets p n in
      let own = first.head.index ∷ bound_in first.body in
      let none : binds_of (first ∷ []) ≡ length own = ap (λ l. suc (length l)) (append-nil (bound_in first.body)) in
      from_both n own (bound_in_parts (parts_of (merged_inner grid outer lets (part_list rest) (n + binds_of (first ∷ []))))) (at_from p n h.0)
      (subst (λ m. AreFrom m (bound_in_parts (parts_of (merged_inner grid outer lets (part_list rest) (n + binds_of (first ∷ [])))))) (ap (λ m. n + m) none) (inner_from rest (n + binds_of (first ∷ [])) h.1))

-- ---- parts behind parts

pub bound_parts : (xs ys : List PartTerm) → bound_in_parts (parts_of (xs ++ ys)) ≡ bound_in_parts (parts_of xs) ++ bound_in_parts (parts_of ys)
bound_parts [] ys = refl
bound_parts (x ∷ xs) ys = ap (λ l. x.head.index ∷ l) (ap (λ l. bound_in x.body ++ l) (bound_parts xs ys) ∙ sym (append_assoc (bound_in x.body) (bound_in_parts (parts_of xs)) (bound_in_parts (parts_of ys))))
