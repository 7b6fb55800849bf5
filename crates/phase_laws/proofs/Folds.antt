-- Cells may be combined chunk by chunk.
use Rattle.std.proofs.Common.{◌≡◌, ℕ, suc, Bool, List, [], ◌∷◌, ◌++◌, map, length, ℤ, Option, Some, None, Ok, refl, ap, ◌∙◌, sym, subst, arith}
use Rattle.std.specs.Prelude.{IsTrue, fold, if◌then◌else◌}
use Rattle.std.specs.List.{zip}
use Rattle.std.proofs.lemmas.Slice.Eq.{bytes_eq-Decides}
use Rattle.sac_base.specs.declared.base.Base.{Base}
use Rattle.sac_base.specs.declared.base.Base.TheVariants.{Int, Bool as Truth}
use Rattle.sac_base.specs.declared.op.Op.{Op}
use Rattle.sac_base.specs.declared.op.Op.TheVariants.{Add, Mul, Min, Max, And, Or}
use Rattle.sac_base.specs.Arrays.{ArrayValue, size}
use Rattle.sac_base.specs.Operators.{apply_two, result_base, with_first, all_of, common_shape, stretched, with_cells, in_shape, binary}
use Rattle.sac_base.specs.Operators as operators
use Rattle.sac_base.specs.Verdict.{elementwise, folds, fold_op}
use Rattle.sac_base.specs.WithLoops.{combined, or_first}
use Rattle.wl_core.proofs.FoldLaws.{foldable, elementwise-foldable}
use Rattle.wl_core.proofs.Buffers.{length-combined}
use Rattle.phase_laws.specs.Folds.{IsOf, AllOf, partial, merged}

-- ---- two arrays of one base and shape

-- the operations of folds divide by nothing, and their results have the operands' base
total : (base : Base) (op : Op) → IsTrue (folds base op) → (x y : ℤ) → apply_two op x y ≡ Ok (fold_op op x y)
total Int Add h x y = refl
total Int Mul h x y = refl
total Int Min h x y = refl
total Int Max h x y = refl
total Truth And h x y = refl
total Truth Or h x y = refl
total _ _ h x y = cc

keeps_base : (base : Base) (op : Op) → IsTrue (folds base op) → result_base op ≡ base
keeps_base Int Add h = refl
keeps_base Int Mul h = refl
keeps_base Int Min h = refl
keeps_base Int Max h = refl
keeps_base Truth And h = refl
keeps_base Truth Or h = refl
keeps_base _ _ h = cc

all_pairs : (op : Op) → ((x y : ℤ) → apply_two op x y ≡ Ok (fold_op op x y)) → (xs ys : List ℤ) → operators.combined op xs ys ≡ Ok (elementwise (fold_op op) xs ys)
all_pairs op t [] ys = refl
all_pairs op t (x ∷ xs) [] = refl
all_pairs op t (x ∷ xs) (y ∷ ys) =
    (λ i. all_of (t x y i ∷ map (λ (p : ℤ × ℤ). apply_two op p.0 p.1) (zip xs ys))) ∙ ap (with_first (fold_op op x y)) (all_pairs op t xs ys)

one_shape : (shape : List ℕ) → common_shape shape shape ≡ Some shape
one_shape [] = refl
one_shape (n ∷ ns) = ap (λ (t : Bool). if t then Some (n ∷ ns) else None) ((bytes_eq-Decides (n ∷ ns) (n ∷ ns)).1 refl)

none_not_one : (n : ℕ) → n ≡ 0 → n ≡ 1 → ⊥
none_not_one n p q = omega (arith, p, q)

more_than_one : (n : ℕ) → suc (suc n) ≡ 1 → ⊥
more_than_one n p = omega (arith, p)

-- an operand of the result's shape is not stretched
as_it_is : (shape : List ℕ) (xs : List ℤ) → length xs ≡ size shape → stretched (size shape) shape xs ≡ xs
as_it_is (n ∷ ns) xs full = refl
as_it_is [] (x ∷ []) full = refl
as_it_is [] [] full = elim (none_not_one (length {A = ℤ} []) refl full) [ ]
as_it_is [] (x ∷ (y ∷ xs)) full = elim (more_than_one (length xs) full) [ ]

module _ (base : Base) (op : Op) (allowed : IsTrue (folds base op)) (shape : List ℕ) where
  abbrev pub pair : List ℤ → List ℤ → ArrayValue
  pair xs ys = record { base = base; shape = shape; cells = elementwise (fold_op op) xs ys }

  pub whole_of : (a : ArrayValue) → IsOf base shape a → a ≡ record { base = base; shape = shape; cells = a.cells }
  whole_of a is = λ i. record { base = is.base_is i; shape = is.shape_is i; cells = a.cells }

  pub size_of : (a : ArrayValue) → IsOf base shape a → length a.cells ≡ size shape
  size_of a is = is.full ∙ ap size is.shape_is

  pair_as : (xs ys : List ℤ) → length xs ≡ size shape → length ys ≡ size shape → binary op (record { base = base; shape = shape; cells = xs }) (record { base = base; shape = shape; cells = ys }) ≡ Ok (pair xs ys)
  pair_as xs ys p q =
      (λ i. in_shape op (one_shape shape i) (record { base = base; shape = shape; cells = xs }) (record { base = base; shape = shape; cells = ys }))
      ∙ (λ i. with_cells op shape (operators.combined op (as_it_is shape xs p i) (as_it_is shape ys q i)))
      ∙ ap (with_cells op shape) (all_pairs op (total base op allowed) xs ys)
      ∙ (λ i. Ok (record { base = keeps_base base op allowed i; shape = shape; cells = elementwise (fold_op op) xs ys }))

  pub combined_as : (a b : ArrayValue) → IsOf base shape a → IsOf base shape b → combined op a (Some b) ≡ pair a.cells b.cells
  combined_as a b p q =
      (λ i. or_first a (binary op (whole_of a p i) (whole_of b q i))) ∙ ap (or_first a) (pair_as a.cells b.cells (size_of a p) (size_of b q))

  pair_of : (a b : ArrayValue) → IsOf base shape a → IsOf base shape b → IsOf base shape (pair a.cells b.cells)
  pair_of a b p q = record {
    base_is = refl;
    shape_is = refl;
    full = length-combined (fold_op op) a.cells b.cells (size_of b q ∙ sym (size_of a p)) ∙ size_of a p;
  }

  combined_of : (a b : ArrayValue) → IsOf base shape a → IsOf base shape b → IsOf base shape (combined op a (Some b))
  combined_of a b p q = subst (IsOf base shape) (sym (combined_as a b p q)) (pair_of a b p q)

  combined_assoc : (a b c : ArrayValue) → IsOf base shape a → IsOf base shape b → IsOf base shape c → combined op (combined op a (Some b)) (Some c) ≡ combined op a (Some (combined op b (Some c)))
  combined_assoc a b c p q r =
      ap (λ x. combined op x (Some c)) (combined_as a b p q)
      ∙ combined_as (pair a.cells b.cells) c (pair_of a b p q) r
      ∙ (λ i. record { base = base; shape = shape; cells = (elementwise-foldable (fold_op op) (foldable base op allowed)).assoc a.cells b.cells c.cells i })
      ∙ sym (combined_as a (pair b.cells c.cells) p (pair_of b c q r))
      ∙ ap (λ x. combined op a (Some x)) (sym (combined_as b c q r))

  -- ---- lists of cells

  fold_of : (a : ArrayValue) (cells : List (Option ArrayValue)) → IsOf base shape a → AllOf base shape cells → IsOf base shape (fold (combined op) a cells)
  fold_of a [] p all = p
  fold_of a (None ∷ rest) p all = fold_of a rest p all
  fold_of a (Some b ∷ rest) p all = fold_of (combined op a (Some b)) rest (combined_of a b p all.0) all.1

  fold_after : (a b : ArrayValue) (cells : List (Option ArrayValue)) → IsOf base shape a → IsOf base shape b → AllOf base shape cells → fold (combined op) (combined op a (Some b)) cells ≡ combined op a (Some (fold (combined op) b cells))
  fold_after a b [] p q all = refl
  fold_after a b (None ∷ rest) p q all = fold_after a b rest p q all
  fold_after a b (Some c ∷ rest) p q all =
      ap (λ x. fold (combined op) x rest) (combined_assoc a b c p q all.0) ∙ fold_after a (combined op b (Some c)) rest p (combined_of b c q all.0) all.1

  -- a fold combines its neutral value with the partial value of all cells
  pub fold_by_part : (a : ArrayValue) (cells : List (Option ArrayValue)) → IsOf base shape a → AllOf base shape cells → fold (combined op) a cells ≡ combined op a (partial op cells)
  fold_by_part a [] p all = refl
  fold_by_part a (None ∷ rest) p all = fold_by_part a rest p all
  fold_by_part a (Some b ∷ rest) p all = fold_after a b rest p all.0 all.1

  fold_append : (a : ArrayValue) (xs ys : List (Option ArrayValue)) → fold (combined op) a (xs ++ ys) ≡ fold (combined op) (fold (combined op) a xs) ys
  fold_append a [] ys = refl
  fold_append a (x ∷ xs) ys = fold_append (combined op a x) xs ys

  pub part_append : (xs ys : List (Option ArrayValue)) → AllOf base shape xs → AllOf base shape ys → partial op (xs ++ ys) ≡ merged op (partial op xs) (partial op ys)
  part_append [] ys all more = refl
  part_append (None ∷ xs) ys all more = part_append xs ys all more
  part_append (Some a ∷ xs) ys all more =
      ap Some (fold_append a xs ys ∙ fold_by_part (fold (combined op) a xs) ys (fold_of a xs all.0 all.1) more)
