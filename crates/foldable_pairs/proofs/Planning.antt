-- The plan of one part, and of one part more.
use Rattle.std.proofs.Common.{◌≡◌, ◌↔◌, IsTrue, ℕ, zero, suc, ◌+◌, ◌<◌, ◌≤◌, Bool, true, false, ◌||◌, nat_lt, List, [], ◌∷◌, ◌++◌, map, length, get_or, drop, refl, sym, ap, subst, ◌∙◌, arith, ℤ, Option, Some, append_assoc, append-nil}
use Rattle.std.proofs.lemmas.Bool.Decides.{nat_tests}
use Rattle.std.proofs.lemmas.List.{drop_more, drop_all}
use Rattle.core_ir.specs.declared.tree.CorePart.{CorePart}
use Rattle.core_ir.specs.View.{part_term}
use Rattle.sac_base.specs.declared.grid.Grid1.{Grid1}
use Rattle.core_ir.specs.Terms.{PartTerm, parts_of}
use Rattle.core_facts.specs.Facts.{Facts}
use Rattle.core_loops.specs.Pairs.{Producer, PartFolds, PartsFold, all_moved_back, grids_of}
use Rattle.generator_sets.specs.Counts.{IsCanonicalCount}
use Rattle.generator_sets.proofs.CountFacts.{one_canonical}
use Rattle.fold_pieces.specs.Cuts.{IsCut, HasCut}
use Rattle.fold_pieces.proofs.Backward.{same_grid}
use Rattle.foldable_pairs.specs.declared.plan.PartPlan.{PartPlan}
use Rattle.foldable_pairs.specs.declared.plan.Planned.{Planned}
use Rattle.foldable_pairs.specs.declared.plan.Plans.{Plans}
use Rattle.foldable_pairs.specs.Building.{Added, Building, CanTake, HasRoom}
use Rattle.foldable_pairs.specs.Parts.{terms}
use Rattle.foldable_pairs.specs.Pairs.{PartPlanned, PartsPlanned}
use Rattle.foldable_pairs.specs.Selected.{OnlySelects}
use Rattle.foldable_pairs.proofs.Selecting.{somes}

somes_same : (a b : List (List ℤ)) → somes a ≡ somes b → a ≡ b
somes_same [] [] e = refl
somes_same [] (d ∷ ds) e = absurd (cc)
somes_same (c ∷ cs) [] e = absurd (cc)
somes_same (c ∷ cs) (d ∷ ds) e =
    let first : c ≡ d = ap (λ (l : List (Option (List ℤ))). Rattle.std.specs.Prelude.unwrap_or (get_or l 0 (Some c)) c) e in
    let rest = somes_same cs ds (ap (drop 1) e) in
    λ i. first i ∷ rest i

module _ (called : ℕ → List (Option (List ℕ))) (k : Facts) (p : Producer) (part : PartTerm) where
  abbrev Folds : ℕ → ℕ → Type 0
  Folds s c = PartFolds called k p part.head part.body s c

  -- how often a part selects, and into how many pieces it is cut
  pub one_fold : (s c t d : ℕ) → Folds s c → Folds t d → (s ≡ t) × (c ≡ d)
  one_fold s c t d f g =
      let at : f.at ≡ g.at = somes_same f.at g.at (f.offsets ∙ sym g.offsets) in
      let frame : g.frame ≡ f.frame = same_grid g.frame f.frame (g.box ∙ sym f.box) in
      let moved = λ (at : List (List ℤ)). part.head.grid ∷ all_moved_back at (grids_of p.parts) in
      let counted = subst (λ a. IsCanonicalCount (moved a) 0 f.frame g.greatest d) (sym at) (subst (λ h. IsCanonicalCount (moved g.at) 0 h g.greatest d) frame g.counted) in
      let same = one_canonical (moved f.at) 0 f.frame g.greatest d counted f.greatest c f.counted in
      (sym f.number ∙ ap length at ∙ g.number, same.1)

  only_of : (s c : ℕ) (f : Folds s c) → OnlySelects called k p.var part f.at
  only_of s c f = record { only = f.only; offsets = f.offsets; flat = f.flat }

  pub no_offsets : ((at : List (List ℤ)) → OnlySelects called k p.var part at → ⊥) → (s c : ℕ) → Folds s c → ⊥
  no_offsets none s c f = none f.at (only_of s c f)

  module _ (at : List (List ℤ)) (only : OnlySelects called k p.var part at) where
    at_is : (s c : ℕ) (f : Folds s c) → f.at ≡ at
    at_is s c f = somes_same f.at at (f.offsets ∙ sym only.offsets)

    pub no_room : (n : ℕ) (b : Bool) → length at ≡ n → (IsTrue b ↔ HasRoom part.body n p.parts) → b ≡ false → (s c : ℕ) → Folds s c → ⊥
    no_room n b long room none s c f =
        let same : s ≡ n = sym f.number ∙ ap length (at_is s c f) ∙ long in
        let e : true ≡ false = sym (room.1 (subst (λ m. HasRoom part.body m p.parts) same (f.nodes, f.room))) ∙ none in
        absurd (cc)

    pub no_cut : (HasCut p.frame part.head.grid (grids_of p.parts) at → ⊥) → (s c : ℕ) → c ≤ 64 → Folds s c → ⊥
    no_cut none s c few f =
        none (subst (HasCut p.frame part.head.grid (grids_of p.parts)) (at_is s c f)
        (record { inside = f.inside; count = c; counted = record { frame = f.frame; box = f.box; greatest = f.greatest; counted = f.counted; fine = f.fine }; few = few }))

    pub planned : (plan : PartPlan) (n c : ℕ) → length at ≡ n → HasRoom part.body n p.parts → IsCut p.frame part.head.grid (grids_of p.parts) at plan.pieces.items c
        → PartPlanned called k p part plan n c
    planned plan n c long room cut = record {
      folds = record {
        only = only.only;
        at = at;
        offsets = only.offsets;
        inside = cut.inside;
        number = long;
        flat = only.flat;
        nodes = room.0;
        room = room.1;
        frame = cut.counted.frame;
        box = cut.counted.box;
        greatest = cut.counted.greatest;
        counted = cut.counted.counted;
        fine = cut.counted.fine;
      };
      split = cut.split;
      held = cut.held;
    }

-- ---- grids

next_is : (xs : List CorePart) (i : ℕ) (x : CorePart) → i < length xs → x ≡ get_or xs i x → drop i xs ≡ x ∷ drop (i + 1) xs
next_is xs i x low is = drop_more xs i x low ∙ ap (λ y. y ∷ drop (i + 1) xs) (sym is)

pub grids_turn : (parts : List CorePart) (i : ℕ) (x : CorePart) (old new whole : List (List Grid1)) → i < length parts → x ≡ get_or parts i x → new ≡ old ++ (part_term x).head.grid ∷ []
    → old ++ grids_of (terms (drop i parts)) ≡ whole → new ++ grids_of (terms (drop (i + 1) parts)) ≡ whole
grids_turn parts i x old new whole low is e h =
    let rest = grids_of (terms (drop (i + 1) parts)) in
    ap (λ l. l ++ rest) e ∙ append_assoc old ((part_term x).head.grid ∷ []) rest ∙ ap (λ l. old ++ grids_of (terms l)) (sym (next_is parts i x low is)) ∙ h

pub grids_end : (parts : List CorePart) (i : ℕ) (old whole : List (List Grid1)) → length parts ≤ i → old ++ grids_of (terms (drop i parts)) ≡ whole → old ≡ whole
grids_end parts i old whole past h = sym (append-nil old) ∙ ap (λ l. old ++ grids_of (terms l)) (sym (drop_all i parts past)) ∙ h

-- the parts from a place on, as terms
pub rest_is : (parts : List CorePart) (i : ℕ) (x : CorePart) → i < length parts → x ≡ get_or parts i x → map part_term (drop i parts) ≡ part_term x ∷ map part_term (drop (i + 1) parts)
rest_is parts i x low is = ap (map part_term) (next_is parts i x low is)

pub rest_none : (parts : List CorePart) (i : ℕ) → length parts ≤ i → map part_term (drop i parts) ≡ []
rest_none parts i past = ap (map part_term) (drop_all i parts past)

-- ---- one part more

some_more : (b : Bool) (s n : ℕ) → (IsTrue b ↔ (0 < s)) → IsTrue (b || nat_lt 0 n) ↔ (0 < s + n)
some_more true s n h = (λ t. let some = h.0 refl in omega (arith, some), λ l. refl)
some_more false s zero h = (λ t. absurd (let e : ◌≡◌ {A = Bool} false true = t in cc), λ l. h.1 (omega (arith, l)))
some_more false s (suc n) h = (λ t. omega arith, λ l. let e : nat_lt 0 (suc n) ≡ true = first_of (grind (arith, nat_tests)) in e)

module _ (called : ℕ → List (Option (List ℕ))) (k : Facts) (p : Producer) (whole rest : List PartTerm) (part : PartTerm) (old : Plans) (so_far : Building called k p whole (part ∷ rest) old) where
  pub build : (planned : Planned) (new : Plans) → PartPlanned called k p part planned.plan planned.plan.selected planned.count → Added old planned new
      → Building called k p whole rest new
  build planned new is added =
      let n = planned.plan.selected in
      let m = planned.count in record {
        selected = so_far.selected + n;
        used = subst (λ b. IsTrue b ↔ (0 < so_far.selected + n)) (sym added.used) (some_more old.is_used so_far.selected n so_far.used);
        on = λ more s c h.
            let one = so_far.on (planned.plan ∷ more) (n + s) (m + c) (n, (m, (s, (c, (is, h, refl, refl))))) in
            let e : so_far.selected + (n + s) ≡ (so_far.selected + n) + s = omega arith in
            let f : old.count + (m + c) ≡ new.count + c = let d = added.count in omega (arith, d) in
            let g : old.parts.items ++ (planned.plan ∷ more) ≡ new.parts.items ++ more =
            sym (append_assoc old.parts.items (planned.plan ∷ []) more) ∙ ap (λ l. l ++ more) (sym added.parts) in
            subst (λ l. PartsPlanned called k p whole l ((so_far.selected + n) + s) (new.count + c)) g
            (subst (λ x. PartsPlanned called k p whole (old.parts.items ++ (planned.plan ∷ more)) x (new.count + c)) e
            (subst (λ y. PartsPlanned called k p whole (old.parts.items ++ (planned.plan ∷ more)) (so_far.selected + (n + s)) y) f one));
        back = λ s c h.
            let w = so_far.back s c h in
            let v = w.1.1.0 in
            let u = v.1.1.1.1 in
            let same = one_fold called k p part v.0 v.1.0 n m u.0 is.folds in
            let first = same.0 in
            let second = same.1 in
            let e = u.2 in
            let f = u.3 in
            let g = w.1.1.1 in
            let j = w.1.1.2 in
            let d = added.count in
            (v.1.1.0, (v.1.1.1.0, (u.1, omega (arith, first, e, g), omega (arith, second, f, j, d))));
      }

  -- the part itself can't take, or not into so few pieces
  pub no_part : ((s c : ℕ) → c ≤ 64 → PartFolds called k p part.head part.body s c → ⊥) → CanTake called k p whole → ⊥
  no_part none h =
      let w = so_far.back h.0 h.1.0 h.1.1.0 in
      let v = w.1.1.0 in
      let u = v.1.1.1.1 in
      let f = u.3 in
      let j = w.1.1.2 in
      let few = h.1.1.1 in
      none v.0 v.1.0 (omega (arith, f, j, few)) u.0

  pub too_many : (plan : PartPlan) (n m : ℕ) → PartPlanned called k p part plan n m → 64 < old.count + m → CanTake called k p whole → ⊥
  too_many plan n m is many h =
      let w = so_far.back h.0 h.1.0 h.1.1.0 in
      let v = w.1.1.0 in
      let u = v.1.1.1.1 in
      let same = one_fold called k p part v.0 v.1.0 n m u.0 is.folds in
      let second = same.1 in
      let f = u.3 in
      let j = w.1.1.2 in
      let few = h.1.1.1 in
      absurd (omega (arith, second, f, j, few, many))

-- ---- no part, and all parts

pub build_none : (called : ℕ → List (Option (List ℕ))) (k : Facts) (p : Producer) (whole : List PartTerm) (plans : Plans) → plans.parts.items ≡ [] → plans.count ≡ 0 → plans.is_used ≡ false
    → Building called k p whole whole plans
build_none called k p whole plans parts count used = record {
  selected = 0;
  used = (λ t. absurd (let e : false ≡ true = sym used ∙ t in cc), λ l. absurd (omega (arith, l)));
  on = λ more s c h.
      let e : s ≡ 0 + s = omega arith in
      let f : c ≡ plans.count + c = omega (arith, count) in
      subst (λ l. PartsPlanned called k p whole l (0 + s) (plans.count + c)) (λ i. sym parts i ++ more)
      (subst (λ x. PartsPlanned called k p whole more x (plans.count + c)) e (subst (λ y. PartsPlanned called k p whole more s y) f h));
  back = λ s c h. (s, (c, (h, omega arith, omega (arith, count))));
}

pub built : (called : ℕ → List (Option (List ℕ))) (k : Facts) (p : Producer) (whole : List PartTerm) (plans : Plans) → (b : Building called k p whole [] plans)
    → PartsPlanned called k p whole plans.parts.items b.selected plans.count
built called k p whole plans b =
    let e : b.selected + 0 ≡ b.selected = omega arith in
    let f : plans.count + 0 ≡ plans.count = omega arith in
    subst (λ l. PartsPlanned called k p whole l b.selected plans.count) (append-nil plans.parts.items)
    (subst (λ x. PartsPlanned called k p whole (plans.parts.items ++ []) x plans.count) e
    (subst (λ y. PartsPlanned called k p whole (plans.parts.items ++ []) (b.selected + 0) y) f (b.on [] 0 0 (refl, refl))))

-- where no part selects, nothing is selected
pub unused : (called : ℕ → List (Option (List ℕ))) (k : Facts) (p : Producer) (whole : List PartTerm) (plans : Plans) → Building called k p whole [] plans → plans.is_used ≡ false
    → (s c : ℕ) → PartsFold called k p (parts_of whole) s c → 0 < s → ⊥
unused called k p whole plans b none s c h some =
    let w = b.back s c h in
    let zero_rest = w.1.1.0.0 in
    let g = w.1.1.1 in
    let more : 0 < b.selected = omega (arith, zero_rest, g, some) in
    let e : true ≡ false = sym (b.used.1 more) ∙ none in
    absurd (cc)
