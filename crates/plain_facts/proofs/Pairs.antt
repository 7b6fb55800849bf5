-- Two lists place by place: behind the end of one of them there is nothing more.
use Rattle.std.proofs.Common.{◌≡◌, ◌≤◌, ℕ, zero, suc, List, [], ◌∷◌, drop, length, map, Option, refl, min, arith}
use Rattle.core_facts.specs.Facts.{Fact, common_facts}
use Rattle.core_facts.specs.constants.Called.{common_shapes}
use Rattle.fact_table.specs.declared.known.Known.{Known}
use Rattle.fact_table.specs.Table.{fact_of}

no_shapes : (as' : List (Option (List ℕ))) → common_shapes as' [] ≡ []
no_shapes [] = refl
no_shapes (a ∷ as') = refl

pub shapes_end : (as' bs : List (Option (List ℕ))) (k : ℕ) → min (length as') (length bs) ≤ k → common_shapes (drop k as') (drop k bs) ≡ []
shapes_end [] bs zero le = refl
shapes_end [] bs (suc k) le = refl
shapes_end (a ∷ as') [] zero le = refl
shapes_end (a ∷ as') [] (suc k) le = no_shapes (drop k as')
shapes_end (a ∷ as') (b ∷ bs) zero le = absurd (omega (arith, le))
shapes_end (a ∷ as') (b ∷ bs) (suc k) le = shapes_end as' bs k (omega (arith, le))

no_facts_common : (fs : List Fact) → common_facts fs [] ≡ []
no_facts_common [] = refl
no_facts_common (f ∷ fs) = refl

pub facts_end : (as' bs : List Known) (k : ℕ) → min (length as') (length bs) ≤ k → common_facts (map fact_of (drop k as')) (map fact_of (drop k bs)) ≡ []
facts_end [] bs zero le = refl
facts_end [] bs (suc k) le = refl
facts_end (a ∷ as') [] zero le = refl
facts_end (a ∷ as') [] (suc k) le = no_facts_common (map fact_of (drop k as'))
facts_end (a ∷ as') (b ∷ bs) zero le = absurd (omega (arith, le))
facts_end (a ∷ as') (b ∷ bs) (suc k) le = facts_end as' bs k (omega (arith, le))
