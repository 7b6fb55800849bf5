-- What holds of the parts of a producer.
use Rattle.std.proofs.Common.{◌≡◌, ℕ, ◌+◌, true, ◌&&◌, List, [], ◌∷◌, ◌++◌, length, Option, refl, subst, inl, inr, arith}
use Rattle.sac_base.specs.declared.base.Base.{Base}
use Rattle.sac_base.specs.declared.base.Base.TheVariants.{Int}
use Rattle.sac_base.specs.declared.grid.Grid1.{Grid1}
use Rattle.core_ir.specs.declared.tree.Var.{Var}
use Rattle.core_ir.specs.Binders.{bound_in, bound_in_parts}
use Rattle.core_ir.specs.Scopes.{Scoped, ScopedParts}
use Rattle.core_ir.specs.Terms.{BlockTerm, RightTerm, PartsTerm, PartHead, CoreTerm, Gives, Bind, Plain, NoParts, Part}
use Rattle.core_ir.specs.WellFormed.{Bases, BlockBases, PartsBases, Distinct}
use Rattle.core_facts.specs.calls.Nests.{CallsAll, CallsAllParts}
use Rattle.core_facts.specs.Facts.{Facts, note_all, right_facts, in_part}
use Rattle.core_loops.proofs.index_facts.Members.{and_both}
use Rattle.core_forms.proofs.inlined_bodies.Names.{distinct_left, distinct_right}
use Rattle.core_loops.specs.Indices.{IndexFacts, learn_index, own_index, is_scalar_shape, total_block, total_right}
use Rattle.core_loops.specs.Loops.{weight, weight_right, weight_parts, parted_in, parted_in_right, parted_in_parts}
use Rattle.core_loops.specs.Pairs.{TotalParts}
use Rattle.core_forms.specs.fold.Copied.{HasPart}

pub part_scoped : (parts : PartsTerm) (h : PartHead) (b : BlockTerm) (scope : List Var) → HasPart parts h b → ScopedParts scope parts → Scoped (h.index ∷ scope) b
part_scoped NoParts h b scope i s = absurd i
part_scoped (Part g c rest) h b scope (inl y) s = subst (λ d. Scoped (h.index ∷ scope) d) y.1 (subst (λ (j : PartHead). Scoped (j.index ∷ scope) c) y.0 s.1)
part_scoped (Part g c rest) h b scope (inr n) s = part_scoped rest h b scope n s.2

pub part_bases : (core : CoreTerm) (parts : PartsTerm) (h : PartHead) (b : BlockTerm) (g : Bases) (t : Base) → HasPart parts h b → PartsBases core g parts t → BlockBases core ((h.index, Int) ∷ g) b (t ∷ [])
part_bases core NoParts h b g t i s = absurd i
part_bases core (Part j c rest) h b g t (inl y) s =
    subst (λ d. BlockBases core ((h.index, Int) ∷ g) d (t ∷ [])) y.1 (subst (λ (k : PartHead). BlockBases core ((k.index, Int) ∷ g) c (t ∷ [])) y.0 s.0)
part_bases core (Part j c rest) h b g t (inr n) s = part_bases core rest h b g t n s.1

pub part_distinct : (parts : PartsTerm) (h : PartHead) (b : BlockTerm) → HasPart parts h b → Distinct (bound_in_parts parts) → Distinct (bound_in b)
part_distinct NoParts h b i d = absurd i
part_distinct (Part j c rest) h b (inl y) d =
    subst (λ (x : BlockTerm). Distinct (bound_in x)) y.1 (distinct_left (bound_in c) (bound_in_parts rest) (distinct_right (j.index ∷ []) (bound_in c ++ bound_in_parts rest) d))
part_distinct (Part j c rest) h b (inr n) d =
    part_distinct rest h b n (distinct_right (bound_in c) (bound_in_parts rest) (distinct_right (j.index ∷ []) (bound_in c ++ bound_in_parts rest) d))

pub part_calls : (P : ℕ → Type 0) (parts : PartsTerm) (h : PartHead) (b : BlockTerm) → HasPart parts h b → CallsAllParts P parts → CallsAll P b
part_calls P NoParts h b i a = absurd i
part_calls P (Part j c rest) h b (inl y) a = subst (CallsAll P) y.1 a.0
part_calls P (Part j c rest) h b (inr n) a = part_calls P rest h b n a.1

-- ---- total bodies have no loops

-- no with-loop and no parted loop
abbrev pub IsLight : BlockTerm → Type 0
IsLight b = (weight b ≡ 0) × (parted_in b ≡ 0)

sum : (a b : ℕ) → a ≡ 0 → b ≡ 0 → a + b ≡ 0
sum a b p q = omega (arith, p, q)

module _ (called : ℕ → List (Option (List ℕ))) (grid : List Grid1) where
  mutual
    total_light : (b : BlockTerm) (k : Facts) (m : IndexFacts) → total_block called grid b k m ≡ true → IsLight b
    total_light (Gives xs) k m h = (refl, refl)
    total_light (Bind xs s r b) k m h =
        let t = and_both (total_right called grid r k m) (total_block called grid b (note_all k xs (right_facts called r k)) (learn_index (length grid) m xs r k)) h in
        let u = right_light r k m t.0 in
        let v = total_light b (note_all k xs (right_facts called r k)) (learn_index (length grid) m xs r k) t.1 in
        (sum (weight_right r) (weight b) u.0 v.0, sum (parted_in_right r) (parted_in b) u.1 v.1)

    right_light : (r : RightTerm) (k : Facts) (m : IndexFacts) → total_right called grid r k m ≡ true → (weight_right r ≡ 0) × (parted_in_right r ≡ 0)
    right_light (Plain p) k m h = (refl, refl)
    right_light (RightTerm.If x a b) k m h =
        let t = and_both (is_scalar_shape (k x).shape && total_block called grid a k m) (total_block called grid b k m) h in
        let u = total_light a k m (and_both (is_scalar_shape (k x).shape) (total_block called grid a k m) t.0).1 in
        let v = total_light b k m t.1 in
        (sum (weight a) (weight b) u.0 v.0, sum (parted_in a) (parted_in b) u.1 v.1)
    right_light (RightTerm.Loop first start params test body s) k m h = absurd (cc)
    right_light (RightTerm.Call g xs) k m h = absurd (cc)
    right_light (RightTerm.With o g) k m h = absurd (cc)
    right_light (RightTerm.Parted f t c o p) k m h = absurd (cc)

module _ (called : ℕ → List (Option (List ℕ))) (k : Facts) where
  pub part_light : (parts : PartsTerm) (h : PartHead) (b : BlockTerm) → HasPart parts h b → TotalParts called k parts → IsLight b
  part_light NoParts h b i t = absurd i
  part_light (Part j c rest) h b (inl y) t = subst IsLight y.1 (total_light called j.grid c (in_part k j) (own_index (length j.grid) j.index) t.0)
  part_light (Part j c rest) h b (inr n) t = part_light rest h b n t.2

  pub parts_light : (parts : PartsTerm) → TotalParts called k parts → (weight_parts parts ≡ 0) × (parted_in_parts parts ≡ 0)
  parts_light NoParts t = (refl, refl)
  parts_light (Part j c rest) t =
      let u = total_light called j.grid c (in_part k j) (own_index (length j.grid) j.index) t.0 in
      let v = parts_light rest t.2 in
      (sum (weight c) (weight_parts rest) u.0 v.0, sum (parted_in c) (parted_in_parts rest) u.1 v.1)
