-- Bases of the values of right sides without blocks and calls, and of loops.
use Rattle.std.proofs.Common.{◌≡◌, ℕ, true, List, [], ◌∷◌, map, Option, Some, None, Result, Ok, Err, refl, sym, ap, subst, ◌∙◌, ℤ}
use Rattle.std.specs.Prelude.{fold}
use Rattle.sac_base.specs.declared.base.Base.{Base}
use Rattle.sac_base.specs.declared.base.Base.TheVariants.{Int, Bool as Truth}
use Rattle.sac_base.specs.declared.faults.FaultKind.{FaultKind}
use Rattle.sac_base.specs.declared.faults.FaultKind.TheVariants.{F1, F2, F3, F4, F6, F8}
use Rattle.sac_base.specs.declared.op.Op.{Op}
use Rattle.sac_base.specs.declared.op.Op.TheVariants as op
use Rattle.sac_base.specs.declared.op.ZeroDivisor.{ZeroDivisor}
use Rattle.sac_base.specs.Arrays.{ArrayValue, vector}
use Rattle.sac_base.specs.Operators.{binary, unary, result_base, in_shape, with_cells, common_shape}
use Rattle.sac_base.specs.Parts.{literal, Part, selected, replaced, reshaped, dim, shape_vector}
use Rattle.sac_base.specs.Verdict.{folds}
use Rattle.sac_base.specs.WithLoops.{combined, or_first}
use Rattle.core_ir.specs.Terms.{PlainTerm}
use Rattle.core_ir.specs.Meaning.{Env, plain_value}
use Rattle.core_ir.specs.WellFormed.{Bases, PlainBases, UnaryBase, BinaryBase}
use Rattle.core_facts.proofs.Shapes.{ok_same, no_ok, check_ok, checked_ok}
use Rattle.core_facts.specs.bases.Typed.{HaveBases, Typed}

-- ---- operators

pub unary_result : (o : Op) (u t : Base) → UnaryBase o u t → result_base o ≡ t
unary_result op.Add u t h = absurd h
unary_result op.Sub u t h = absurd h
unary_result op.Mul u t h = absurd h
unary_result op.Div u t h = absurd h
unary_result op.Rem u t h = absurd h
unary_result op.Min u t h = absurd h
unary_result op.Max u t h = absurd h
unary_result op.Neg u t h = sym h.1
unary_result op.Not u t h = sym h.1
unary_result op.Eq u t h = absurd h
unary_result op.Ne u t h = absurd h
unary_result op.Lt u t h = absurd h
unary_result op.Le u t h = absurd h
unary_result op.Gt u t h = absurd h
unary_result op.Ge u t h = absurd h
unary_result op.And u t h = absurd h
unary_result op.Or u t h = absurd h

pub binary_result : (o : Op) (u t : Base) → BinaryBase o u t → result_base o ≡ t
binary_result op.Add u t h = sym h.1
binary_result op.Sub u t h = sym h.1
binary_result op.Mul u t h = sym h.1
binary_result op.Div u t h = sym h.1
binary_result op.Rem u t h = sym h.1
binary_result op.Min u t h = sym h.1
binary_result op.Max u t h = sym h.1
binary_result op.Neg u t h = absurd h
binary_result op.Not u t h = absurd h
binary_result op.Eq u t h = sym h
binary_result op.Ne u t h = sym h
binary_result op.Lt u t h = sym h.1
binary_result op.Le u t h = sym h.1
binary_result op.Gt u t h = sym h.1
binary_result op.Ge u t h = sym h.1
binary_result op.And u t h = sym h.1
binary_result op.Or u t h = sym h.1

pub folds_result : (t : Base) (o : Op) → folds t o ≡ true → result_base o ≡ t
folds_result Int op.Add h = refl
folds_result Int op.Sub h = absurd (cc)
folds_result Int op.Mul h = refl
folds_result Int op.Div h = absurd (cc)
folds_result Int op.Rem h = absurd (cc)
folds_result Int op.Min h = refl
folds_result Int op.Max h = refl
folds_result Int op.Neg h = absurd (cc)
folds_result Int op.Not h = absurd (cc)
folds_result Int op.Eq h = absurd (cc)
folds_result Int op.Ne h = absurd (cc)
folds_result Int op.Lt h = absurd (cc)
folds_result Int op.Le h = absurd (cc)
folds_result Int op.Gt h = absurd (cc)
folds_result Int op.Ge h = absurd (cc)
folds_result Int op.And h = absurd (cc)
folds_result Int op.Or h = absurd (cc)
folds_result Truth op.Add h = absurd (cc)
folds_result Truth op.Sub h = absurd (cc)
folds_result Truth op.Mul h = absurd (cc)
folds_result Truth op.Div h = absurd (cc)
folds_result Truth op.Rem h = absurd (cc)
folds_result Truth op.Min h = absurd (cc)
folds_result Truth op.Max h = absurd (cc)
folds_result Truth op.Neg h = absurd (cc)
folds_result Truth op.Not h = absurd (cc)
folds_result Truth op.Eq h = absurd (cc)
folds_result Truth op.Ne h = absurd (cc)
folds_result Truth op.Lt h = absurd (cc)
folds_result Truth op.Le h = absurd (cc)
folds_result Truth op.Gt h = absurd (cc)
folds_result Truth op.Ge h = absurd (cc)
folds_result Truth op.And h = refl
folds_result Truth op.Or h = refl

with_base : (o : Op) (s : List ℕ) (r : Result (List ℤ) ZeroDivisor) (v : ArrayValue) → with_cells o s r ≡ Ok v → v.base ≡ result_base o
with_base o s (Err z) v p = absurd (no_ok F2 v p)
with_base o s (Ok cells) v p = sym (ap (λ (a : ArrayValue). a.base) (ok_same _ v p))

pub binary_base : (o : Op) (a b v : ArrayValue) → binary o a b ≡ Ok v → v.base ≡ result_base o
binary_base o a b v p = go (common_shape a.shape b.shape) p
  where
    go : (m : Option (List ℕ)) → in_shape o m a b ≡ Ok v → v.base ≡ result_base o
    go None q = absurd (no_ok F3 v q)
    go (Some s) q = with_base o s _ v q

-- ---- other right sides

base_is : (a v : ArrayValue) → ◌≡◌ {A = Result ArrayValue FaultKind} (Ok a) (Ok v) → v.base ≡ a.base
base_is a v p = sym (ap (λ (b : ArrayValue). b.base) (ok_same a v p))

literal_base : (a : ArrayValue) (rest : List ArrayValue) (v : ArrayValue) → literal (a ∷ rest) ≡ Ok v → v.base ≡ a.base
literal_base a rest v p =
    let q = (check_ok _ F3 _ v p).1 in
    let r = (check_ok _ F4 _ v q).1 in
    base_is _ v (check_ok _ F8 _ v r).1

selected_base : (a : ArrayValue) (m : Option Part) (v : ArrayValue) → selected a m ≡ Ok v → v.base ≡ a.base
selected_base a None v p = absurd (no_ok F1 v p)
selected_base a (Some q) v p = base_is _ v p

replaced_base : (a : ArrayValue) (m : Option Part) (b v : ArrayValue) → replaced a m b ≡ Ok v → v.base ≡ a.base
replaced_base a None b v p = absurd (no_ok F1 v p)
replaced_base a (Some q) b v p = base_is _ v (check_ok _ F6 _ v p).1

reshaped_base : (m : Option (List ℕ)) (a v : ArrayValue) → reshaped m a ≡ Ok v → v.base ≡ a.base
reshaped_base None a v p = absurd (no_ok F4 v p)
reshaped_base (Some s) a v p = base_is _ v (check_ok _ F3 _ v p).1

-- the values that have these bases are one of this base
pub one_base : (ts : List Base) (t : Base) (v : ArrayValue) → ts ≡ t ∷ [] → v.base ≡ t → HaveBases ts (v ∷ [])
one_base ts t v e h = subst (λ us. HaveBases us (v ∷ [])) (sym e) (h, tt)

pub plain_typed : (p : PlainTerm) (g : Bases) (e : Env) (v : ArrayValue) (ts : List Base) → PlainBases g p ts → Typed g e → plain_value p e ≡ Ok v → HaveBases ts (v ∷ [])
plain_typed (PlainTerm.Const a) g e v ts b h p = one_base ts a.base v b.2 (base_is a v p)
plain_typed (PlainTerm.Copy x) g e v ts b h p = one_base ts b.0 v b.2 (base_is (e x) v p ∙ h x b.0 b.1)
plain_typed (PlainTerm.Unary o x) g e v ts b h p = one_base ts b.1.0 v b.1.3 (base_is (unary o (e x)) v p ∙ unary_result o b.0 b.1.0 b.1.2)
plain_typed (PlainTerm.Binary o x y) g e v ts b h p = one_base ts b.1.0 v b.1.4 (binary_base o (e x) (e y) v p ∙ binary_result o b.0 b.1.0 b.1.3)
plain_typed (PlainTerm.Literal []) g e v ts b h p = one_base ts b.0 v b.2 (base_is (vector Int []) v p ∙ sym b.1)
plain_typed (PlainTerm.Literal (x ∷ xs)) g e v ts b h p = one_base ts b.0 v b.2 (literal_base (e x) (map e xs) v p ∙ h x b.0 b.1.0)
plain_typed (PlainTerm.Dim x) g e v ts b h p = one_base ts Int v b.2 (base_is (dim (e x)) v p)
plain_typed (PlainTerm.ShapeOf x) g e v ts b h p = one_base ts Int v b.2 (base_is (shape_vector (e x)) v p)
plain_typed (PlainTerm.Reshape x y) g e v ts b h p = one_base ts b.0 v b.3 (reshaped_base _ (e y) v p ∙ h y b.0 b.2)
plain_typed (PlainTerm.Select x y) g e v ts b h p = one_base ts b.0 v b.3 (selected_base (e x) _ v p ∙ h x b.0 b.1)
plain_typed (PlainTerm.Replace x y z) g e v ts b h p = one_base ts b.0 v b.4 (replaced_base (e x) _ (e z) v p ∙ h x b.0 b.1)
plain_typed (PlainTerm.Always kind) g e v ts b h p = absurd (no_ok kind v p)
plain_typed (PlainTerm.Check x ty) g e v ts b h p = one_base ts ty.base v b.1 (ap (λ (a : ArrayValue). a.base) (sym (checked_ok ty (e x) v p).1) ∙ h x ty.base b.0)

-- ---- folds

or_base : (t : Base) (a : ArrayValue) (r : Result ArrayValue FaultKind) → a.base ≡ t → ((v : ArrayValue) → r ≡ Ok v → v.base ≡ t) → (or_first a r).base ≡ t
or_base t a (Ok b) h k = k b refl
or_base t a (Err kind) h k = h

combined_base : (t : Base) (o : Op) (a : ArrayValue) (c : Option ArrayValue) → result_base o ≡ t → a.base ≡ t → (combined o a c).base ≡ t
combined_base t o a None r h = h
combined_base t o a (Some c) r h = or_base t a (binary o a c) h (λ v p. binary_base o a c v p ∙ r)

pub folded_base : (t : Base) (o : Op) (a : ArrayValue) (cs : List (Option ArrayValue)) → result_base o ≡ t → a.base ≡ t → (fold (combined o) a cs).base ≡ t
folded_base t o a [] r h = h
folded_base t o a (c ∷ cs) r h = folded_base t o (combined o a c) cs r (combined_base t o a c r h)
