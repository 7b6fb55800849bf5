-- The numbers of a piece name the parts that hold what is selected.
use Rattle.std.proofs.Common.{◌≡◌, ℕ, zero, suc, List, [], ◌∷◌, map, drop, Option, Some, None, refl, sym, ap, subst, ◌∙◌, ℤ, inl, inr}
use Rattle.std.specs.Prelude.{slice_get, unwrap_or, get_or}
use Rattle.sac_base.specs.declared.grid.Grid1.{Grid1}
use Rattle.core_ir.specs.Terms.{PartTerm, parts_of}
use Rattle.core_loops.specs.Indices.{IndexFact, Plus, Component, Other, offset_of}
use Rattle.core_loops.specs.Pairs.{grids_of}
use Rattle.core_loops.specs.Steps.{HeldIn}
use Rattle.fold_pieces.specs.Pieces.{HasFirst, HaveFirst}
use Rattle.generator_sets.specs.Pieces.{moved}

-- one number for each offset, of the first grid that has the vector so moved
abbrev pub HeldBy : List (List Grid1) → List ℤ → List (Option (List ℤ)) → List ℕ → Type 0
HeldBy grids v [] js = Unit {0}
HeldBy grids v (Some c ∷ os) (j ∷ js) = HasFirst grids (moved v c) j × HeldBy grids v os js
HeldBy grids v (Some c ∷ os) [] = ⊥
HeldBy grids v (None ∷ os) js = ⊥

pub held_by : (grids : List (List Grid1)) (v : List ℤ) (at : List (List ℤ)) (js : List ℕ) → HaveFirst grids v at js → HeldBy grids v (map (λ (c : List ℤ). Some c) at) js
held_by grids v [] js h = tt
held_by grids v (c ∷ at) [] h = absurd h
held_by grids v (c ∷ at) (j ∷ js) h = (h.0, held_by grids v at js h.1)

-- the first of them
pub record IsFirst (grids : List (List Grid1)) (v : List ℤ) (o : Option (List ℤ)) (os : List (Option (List ℤ))) (js : List ℕ) : Type 0 where
  pub offset : List ℤ
  pub some : o ≡ Some offset
  pub number : ℕ
  pub others : List ℕ
  pub whole : js ≡ number ∷ others
  pub has : HasFirst grids (moved v offset) number
  pub rest : HeldBy grids v os others

pub held_first : (grids : List (List Grid1)) (v : List ℤ) (o : Option (List ℤ)) (os : List (Option (List ℤ))) (js : List ℕ) → HeldBy grids v (o ∷ os) js → IsFirst grids v o os js
held_first grids v None os js h = absurd h
held_first grids v (Some c) os [] h = absurd h
held_first grids v (Some c) os (j ∷ js) h = record { offset = c; some = refl; number = j; others = js; whole = refl; has = h.0; rest = h.1 }

some_same : (a b : List ℤ) → ◌≡◌ {A = Option (List ℤ)} (Some a) (Some b) → a ≡ b
some_same a b e = ap (λ (o : Option (List ℤ)). unwrap_or o a) e

head_same : (i j : ℕ) (is js : List ℕ) → i ∷ is ≡ j ∷ js → i ≡ j
head_same i j is js e = ap (λ (l : List ℕ). get_or l 0 i) e

tail_same : (i j : ℕ) (is js : List ℕ) → i ∷ is ≡ j ∷ js → is ≡ js
tail_same i j is js e = ap (λ (l : List ℕ). drop 1 l) e

-- for all members of a grid it is the same
pub first_same :
    (grids : List (List Grid1)) (v w : List ℤ) (o : Option (List ℤ)) (os : List (Option (List ℤ))) (js : List ℕ) → (f : IsFirst grids v o os js) → HeldBy grids w (o ∷ os) js →
    HasFirst grids (moved w f.offset) f.number × HeldBy grids w os f.others
first_same grids v w o os js f h =
    let g = held_first grids w o os js h in
    let offset = some_same g.offset f.offset (sym g.some ∙ f.some) in
    let whole = sym g.whole ∙ f.whole in (
      subst (λ j. HasFirst grids (moved w f.offset) j) (head_same g.number f.number g.others f.others whole) (subst (λ c. HasFirst grids (moved w c) g.number) offset g.has),
      subst (λ ks. HeldBy grids w os ks) (tail_same g.number f.number g.others f.others whole) g.rest,
    )

no_number : (j : ℕ) (js : List ℕ) {P : Type 0} → [] ≡ j ∷ js → P
no_number j js e = absurd (cc)

pub at_drop : (xs : List ℕ) (i j : ℕ) (js : List ℕ) → drop i xs ≡ j ∷ js → (slice_get xs i ≡ Some j) × (drop (suc i) xs ≡ js)
at_drop [] zero j js e = no_number j js e
at_drop [] (suc i) j js e = no_number j js e
at_drop (x ∷ xs) zero j js e = (ap Some (head_same x j xs js e), tail_same x j xs js e)
at_drop (x ∷ xs) (suc i) j js e = at_drop xs i j js e

pub offset_is : (f : IndexFact) (c : List ℤ) → offset_of f ≡ Some c → f ≡ Plus c
offset_is (Plus d) c e = ap Plus (some_same d c e)
offset_is (Component k d) c e = absurd (let q : ◌≡◌ {A = Option (List ℤ)} None (Some c) = e in cc)
offset_is Other c e = absurd (let q : ◌≡◌ {A = Option (List ℤ)} None (Some c) = e in cc)

-- the part with the number of the first grid
holder_held : (parts : List PartTerm) (v : List ℤ) (j : ℕ) → HasFirst (grids_of (parts_of parts)) v j → (part : PartTerm) × ((slice_get parts j ≡ Some part) × HeldIn (parts_of parts) v part.head part.body)
holder_held [] v j h = absurd h
holder_held (q ∷ qs) v zero h = (q, (refl, inl (h, refl, refl)))
holder_held (q ∷ qs) v (suc j) h = let rest = holder_held qs v j h.1 in (rest.0, (rest.1.0, inr (h.0, rest.1.1)))

-- the part whose number it is holds it
pub number_holds :
    (sources : List PartTerm) (v : List ℤ) (j : ℕ) (part : PartTerm) → slice_get sources j ≡ Some part → HasFirst (grids_of (parts_of sources)) v j → HeldIn (parts_of sources) v part.head part.body
number_holds sources v j part e h =
    let w = holder_held sources v j h in
    let own : w.0 ≡ part = ap (λ (o : Option PartTerm). unwrap_or o w.0) (sym w.1.0 ∙ e) in
    subst (λ (q : PartTerm). HeldIn (parts_of sources) v q.head q.body) own w.1.1

-- there is one
pub number_names : (sources : List PartTerm) (v : List ℤ) (j : ℕ) → HasFirst (grids_of (parts_of sources)) v j → (part : PartTerm) × (slice_get sources j ≡ Some part)
number_names sources v j h = let w = holder_held sources v j h in (w.0, w.1.0)
