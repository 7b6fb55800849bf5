-- Which right sides are left, where other variants were ruled out.
use Rattle.std.proofs.Common.{◌≡◌, ℕ, Bool, refl, sym, ap, ◌∙◌, subst, Vec, Global}
use Rattle.sac_base.specs.declared.array.Array.{Array}
use Rattle.sac_base.specs.declared.faults.FaultKind.{FaultKind}
use Rattle.sac_base.specs.declared.op.Op.{Op}
use Rattle.sac_base.specs.declared.site.Site.{Site}
use Rattle.sac_base.specs.declared.types.ArrayType.{ArrayType}
use Rattle.core_ir.specs.declared.tree.Var.{Var}
use Rattle.counted_code.specs.declared.tree.CodeBlock.{CodeBlock}
use Rattle.counted_code.specs.declared.tree.CodeParted.{CodeParted, CodeParted'}
use Rattle.counted_code.specs.declared.tree.CodeRight.{CodeRight, CodeRight-F, out-CodeRight, roll-CodeRight, roll-out-CodeRight}
use Rattle.counted_code.specs.declared.tree.CodeRight.TheBlock.{the_data, the_data-1, the_data-2, the_data-3, the_data-4, the_data-5, the_data-6, the_data-7}
use Rattle.counted_code.specs.declared.tree.CodeRight.TheVariants as right
use Rattle.counted_code.specs.declared.tree.CodeWith.{CodeWith, CodeWith'}
use Rattle.counted_code.specs.View.{code_right_term, code_with_term, code_parted_term}
use Rattle.phase_checks.specs.Walks.{IsNested, IsValue, OnlyReads}

-- the right side of a layer
rolled : (r : CodeRight) {l q : _} → out-CodeRight r ≡ l → roll-CodeRight l ≡ q → r ≡ q
rolled r e is = sym (roll-out-CodeRight r) ∙ ap roll-CodeRight e ∙ is

with_value : (w : CodeWith) → IsValue (code_with_term w)
with_value (CodeWith' shape gens op) = tt

parted_value : (p : CodeParted) → IsValue (code_parted_term p)
parted_value (CodeParted' frame base cell op shape parts reuse) = tt

-- no conditional, loop, call or fault
pub is_value : (r : CodeRight) → ((c : Var) (a b : CodeBlock) → r ≡ right.If c a b → ⊥) → ((first : Bool) (start params : Vec Var Global) (test body : CodeBlock) (s : Site) → r ≡ right.Loop first start params test body s → ⊥) → ((g : ℕ) (args : Vec Var Global) → r ≡ right.Call g args → ⊥) → ((k : FaultKind) → r ≡ right.Always k → ⊥) → IsValue (code_right_term r)
unfolding roll-CodeRight denote.Hole.Carrier.roll
is_value r not_If not_Loop not_Call not_Always = by_layer (out-CodeRight r) refl
  where
    by_layer : (l : CodeRight-F the_data the_data-1 the_data-2 the_data-3 the_data-4 the_data-5 the_data-6 the_data-7) → out-CodeRight r ≡ l → IsValue (code_right_term r)
    by_layer (CodeRight-F.If c a b) e = absurd (not_If c a b (rolled r e (right.rolls-If c a b)))
    by_layer (CodeRight-F.Loop first start params test body s) e = absurd (not_Loop first start params test body s (rolled r e (right.rolls-Loop first start params test body s)))
    by_layer (CodeRight-F.Call g args) e = absurd (not_Call g args (rolled r e (right.rolls-Call g args)))
    by_layer (CodeRight-F.Always k) e = absurd (not_Always k (rolled r e (right.rolls-Always k)))
    by_layer (CodeRight-F.With w) e = subst (λ (q : CodeRight). IsValue (code_right_term q)) (sym (rolled r e (right.rolls-With w))) (with_value w)
    by_layer (CodeRight-F.Parted p) e = subst (λ (q : CodeRight). IsValue (code_right_term q)) (sym (rolled r e (right.rolls-Parted p))) (parted_value p)
    by_layer (CodeRight-F.Const a) e = subst (λ (q : CodeRight). IsValue (code_right_term q)) (sym (rolled r e (right.rolls-Const a))) tt
    by_layer (CodeRight-F.Copy x) e = subst (λ (q : CodeRight). IsValue (code_right_term q)) (sym (rolled r e (right.rolls-Copy x))) tt
    by_layer (CodeRight-F.Unary o x) e = subst (λ (q : CodeRight). IsValue (code_right_term q)) (sym (rolled r e (right.rolls-Unary o x))) tt
    by_layer (CodeRight-F.Binary o x y) e = subst (λ (q : CodeRight). IsValue (code_right_term q)) (sym (rolled r e (right.rolls-Binary o x y))) tt
    by_layer (CodeRight-F.Literal xs) e = subst (λ (q : CodeRight). IsValue (code_right_term q)) (sym (rolled r e (right.rolls-Literal xs))) tt
    by_layer (CodeRight-F.Dim x) e = subst (λ (q : CodeRight). IsValue (code_right_term q)) (sym (rolled r e (right.rolls-Dim x))) tt
    by_layer (CodeRight-F.ShapeOf x) e = subst (λ (q : CodeRight). IsValue (code_right_term q)) (sym (rolled r e (right.rolls-ShapeOf x))) tt
    by_layer (CodeRight-F.Reshape x y) e = subst (λ (q : CodeRight). IsValue (code_right_term q)) (sym (rolled r e (right.rolls-Reshape x y))) tt
    by_layer (CodeRight-F.Select x y) e = subst (λ (q : CodeRight). IsValue (code_right_term q)) (sym (rolled r e (right.rolls-Select x y))) tt
    by_layer (CodeRight-F.Replace x y z) e = subst (λ (q : CodeRight). IsValue (code_right_term q)) (sym (rolled r e (right.rolls-Replace x y z))) tt
    by_layer (CodeRight-F.Check x t) e = subst (λ (q : CodeRight). IsValue (code_right_term q)) (sym (rolled r e (right.rolls-Check x t))) tt

with_nested : (w : CodeWith) → IsNested (code_with_term w) → ⊥
with_nested (CodeWith' shape gens op) nested = nested

parted_nested : (p : CodeParted) → IsNested (code_parted_term p) → ⊥
parted_nested (CodeParted' frame base cell op shape parts reuse) nested = nested

-- no conditional or loop
pub not_nested : (r : CodeRight) → ((c : Var) (a b : CodeBlock) → r ≡ right.If c a b → ⊥) → ((first : Bool) (start params : Vec Var Global) (test body : CodeBlock) (s : Site) → r ≡ right.Loop first start params test body s → ⊥) → (IsNested (code_right_term r) → ⊥)
unfolding roll-CodeRight denote.Hole.Carrier.roll
not_nested r not_If not_Loop = by_layer (out-CodeRight r) refl
  where
    by_layer : (l : CodeRight-F the_data the_data-1 the_data-2 the_data-3 the_data-4 the_data-5 the_data-6 the_data-7) → out-CodeRight r ≡ l → (IsNested (code_right_term r) → ⊥)
    by_layer (CodeRight-F.If c a b) e = absurd (not_If c a b (rolled r e (right.rolls-If c a b)))
    by_layer (CodeRight-F.Loop first start params test body s) e = absurd (not_Loop first start params test body s (rolled r e (right.rolls-Loop first start params test body s)))
    by_layer (CodeRight-F.With w) e = subst (λ (q : CodeRight). (IsNested (code_right_term q) → ⊥)) (sym (rolled r e (right.rolls-With w))) (with_nested w)
    by_layer (CodeRight-F.Parted p) e = subst (λ (q : CodeRight). (IsNested (code_right_term q) → ⊥)) (sym (rolled r e (right.rolls-Parted p))) (parted_nested p)
    by_layer (CodeRight-F.Const a) e = subst (λ (q : CodeRight). (IsNested (code_right_term q) → ⊥)) (sym (rolled r e (right.rolls-Const a))) (λ nested. nested)
    by_layer (CodeRight-F.Copy x) e = subst (λ (q : CodeRight). (IsNested (code_right_term q) → ⊥)) (sym (rolled r e (right.rolls-Copy x))) (λ nested. nested)
    by_layer (CodeRight-F.Unary o x) e = subst (λ (q : CodeRight). (IsNested (code_right_term q) → ⊥)) (sym (rolled r e (right.rolls-Unary o x))) (λ nested. nested)
    by_layer (CodeRight-F.Binary o x y) e = subst (λ (q : CodeRight). (IsNested (code_right_term q) → ⊥)) (sym (rolled r e (right.rolls-Binary o x y))) (λ nested. nested)
    by_layer (CodeRight-F.Literal xs) e = subst (λ (q : CodeRight). (IsNested (code_right_term q) → ⊥)) (sym (rolled r e (right.rolls-Literal xs))) (λ nested. nested)
    by_layer (CodeRight-F.Dim x) e = subst (λ (q : CodeRight). (IsNested (code_right_term q) → ⊥)) (sym (rolled r e (right.rolls-Dim x))) (λ nested. nested)
    by_layer (CodeRight-F.ShapeOf x) e = subst (λ (q : CodeRight). (IsNested (code_right_term q) → ⊥)) (sym (rolled r e (right.rolls-ShapeOf x))) (λ nested. nested)
    by_layer (CodeRight-F.Reshape x y) e = subst (λ (q : CodeRight). (IsNested (code_right_term q) → ⊥)) (sym (rolled r e (right.rolls-Reshape x y))) (λ nested. nested)
    by_layer (CodeRight-F.Select x y) e = subst (λ (q : CodeRight). (IsNested (code_right_term q) → ⊥)) (sym (rolled r e (right.rolls-Select x y))) (λ nested. nested)
    by_layer (CodeRight-F.Replace x y z) e = subst (λ (q : CodeRight). (IsNested (code_right_term q) → ⊥)) (sym (rolled r e (right.rolls-Replace x y z))) (λ nested. nested)
    by_layer (CodeRight-F.Call g args) e = subst (λ (q : CodeRight). (IsNested (code_right_term q) → ⊥)) (sym (rolled r e (right.rolls-Call g args))) (λ nested. nested)
    by_layer (CodeRight-F.Always k) e = subst (λ (q : CodeRight). (IsNested (code_right_term q) → ⊥)) (sym (rolled r e (right.rolls-Always k))) (λ nested. nested)
    by_layer (CodeRight-F.Check x t) e = subst (λ (q : CodeRight). (IsNested (code_right_term q) → ⊥)) (sym (rolled r e (right.rolls-Check x t))) (λ nested. nested)

-- no copy, check or loop over cells
pub only_reads : (r : CodeRight) → ((x : Var) → r ≡ right.Copy x → ⊥) → ((x : Var) (t : ArrayType) → r ≡ right.Check x t → ⊥) → ((w : CodeWith) → r ≡ right.With w → ⊥) → ((p : CodeParted) → r ≡ right.Parted p → ⊥) → (IsValue (code_right_term r) → OnlyReads (code_right_term r))
unfolding roll-CodeRight denote.Hole.Carrier.roll
only_reads r not_Copy not_Check not_With not_Parted = by_layer (out-CodeRight r) refl
  where
    by_layer : (l : CodeRight-F the_data the_data-1 the_data-2 the_data-3 the_data-4 the_data-5 the_data-6 the_data-7) → out-CodeRight r ≡ l → (IsValue (code_right_term r) → OnlyReads (code_right_term r))
    by_layer (CodeRight-F.Copy x) e = absurd (not_Copy x (rolled r e (right.rolls-Copy x)))
    by_layer (CodeRight-F.Check x t) e = absurd (not_Check x t (rolled r e (right.rolls-Check x t)))
    by_layer (CodeRight-F.With w) e = absurd (not_With w (rolled r e (right.rolls-With w)))
    by_layer (CodeRight-F.Parted p) e = absurd (not_Parted p (rolled r e (right.rolls-Parted p)))
    by_layer (CodeRight-F.If c a b) e = subst (λ (q : CodeRight). (IsValue (code_right_term q) → OnlyReads (code_right_term q))) (sym (rolled r e (right.rolls-If c a b))) (λ v. v)
    by_layer (CodeRight-F.Loop first start params test body s) e = subst (λ (q : CodeRight). (IsValue (code_right_term q) → OnlyReads (code_right_term q))) (sym (rolled r e (right.rolls-Loop first start params test body s))) (λ v. v)
    by_layer (CodeRight-F.Call g args) e = subst (λ (q : CodeRight). (IsValue (code_right_term q) → OnlyReads (code_right_term q))) (sym (rolled r e (right.rolls-Call g args))) (λ v. v)
    by_layer (CodeRight-F.Always k) e = subst (λ (q : CodeRight). (IsValue (code_right_term q) → OnlyReads (code_right_term q))) (sym (rolled r e (right.rolls-Always k))) (λ v. v)
    by_layer (CodeRight-F.Const a) e = subst (λ (q : CodeRight). (IsValue (code_right_term q) → OnlyReads (code_right_term q))) (sym (rolled r e (right.rolls-Const a))) (λ v. tt)
    by_layer (CodeRight-F.Unary o x) e = subst (λ (q : CodeRight). (IsValue (code_right_term q) → OnlyReads (code_right_term q))) (sym (rolled r e (right.rolls-Unary o x))) (λ v. tt)
    by_layer (CodeRight-F.Binary o x y) e = subst (λ (q : CodeRight). (IsValue (code_right_term q) → OnlyReads (code_right_term q))) (sym (rolled r e (right.rolls-Binary o x y))) (λ v. tt)
    by_layer (CodeRight-F.Literal xs) e = subst (λ (q : CodeRight). (IsValue (code_right_term q) → OnlyReads (code_right_term q))) (sym (rolled r e (right.rolls-Literal xs))) (λ v. tt)
    by_layer (CodeRight-F.Dim x) e = subst (λ (q : CodeRight). (IsValue (code_right_term q) → OnlyReads (code_right_term q))) (sym (rolled r e (right.rolls-Dim x))) (λ v. tt)
    by_layer (CodeRight-F.ShapeOf x) e = subst (λ (q : CodeRight). (IsValue (code_right_term q) → OnlyReads (code_right_term q))) (sym (rolled r e (right.rolls-ShapeOf x))) (λ v. tt)
    by_layer (CodeRight-F.Reshape x y) e = subst (λ (q : CodeRight). (IsValue (code_right_term q) → OnlyReads (code_right_term q))) (sym (rolled r e (right.rolls-Reshape x y))) (λ v. tt)
    by_layer (CodeRight-F.Select x y) e = subst (λ (q : CodeRight). (IsValue (code_right_term q) → OnlyReads (code_right_term q))) (sym (rolled r e (right.rolls-Select x y))) (λ v. tt)
    by_layer (CodeRight-F.Replace x y z) e = subst (λ (q : CodeRight). (IsValue (code_right_term q) → OnlyReads (code_right_term q))) (sym (rolled r e (right.rolls-Replace x y z))) (λ v. tt)

with_reads : (w : CodeWith) → OnlyReads (code_with_term w) → ⊥
with_reads (CodeWith' shape gens op) reads = reads

parted_reads : (p : CodeParted) → OnlyReads (code_parted_term p) → ⊥
parted_reads (CodeParted' frame base cell op shape parts reuse) reads = reads

-- none that only reads
pub no_read : (r : CodeRight) → ((a : Array) → r ≡ right.Const a → ⊥) → ((o : Op) (x : Var) → r ≡ right.Unary o x → ⊥) → ((o : Op) (x y : Var) → r ≡ right.Binary o x y → ⊥) → ((xs : Vec Var Global) → r ≡ right.Literal xs → ⊥) → ((x : Var) → r ≡ right.Dim x → ⊥) → ((x : Var) → r ≡ right.ShapeOf x → ⊥) → ((x y : Var) → r ≡ right.Reshape x y → ⊥) → ((x y : Var) → r ≡ right.Select x y → ⊥) → ((x y z : Var) → r ≡ right.Replace x y z → ⊥) → (OnlyReads (code_right_term r) → ⊥)
unfolding roll-CodeRight denote.Hole.Carrier.roll
no_read r not_Const not_Unary not_Binary not_Literal not_Dim not_ShapeOf not_Reshape not_Select not_Replace = by_layer (out-CodeRight r) refl
  where
    by_layer : (l : CodeRight-F the_data the_data-1 the_data-2 the_data-3 the_data-4 the_data-5 the_data-6 the_data-7) → out-CodeRight r ≡ l → (OnlyReads (code_right_term r) → ⊥)
    by_layer (CodeRight-F.Const a) e = absurd (not_Const a (rolled r e (right.rolls-Const a)))
    by_layer (CodeRight-F.Unary o x) e = absurd (not_Unary o x (rolled r e (right.rolls-Unary o x)))
    by_layer (CodeRight-F.Binary o x y) e = absurd (not_Binary o x y (rolled r e (right.rolls-Binary o x y)))
    by_layer (CodeRight-F.Literal xs) e = absurd (not_Literal xs (rolled r e (right.rolls-Literal xs)))
    by_layer (CodeRight-F.Dim x) e = absurd (not_Dim x (rolled r e (right.rolls-Dim x)))
    by_layer (CodeRight-F.ShapeOf x) e = absurd (not_ShapeOf x (rolled r e (right.rolls-ShapeOf x)))
    by_layer (CodeRight-F.Reshape x y) e = absurd (not_Reshape x y (rolled r e (right.rolls-Reshape x y)))
    by_layer (CodeRight-F.Select x y) e = absurd (not_Select x y (rolled r e (right.rolls-Select x y)))
    by_layer (CodeRight-F.Replace x y z) e = absurd (not_Replace x y z (rolled r e (right.rolls-Replace x y z)))
    by_layer (CodeRight-F.With w) e = subst (λ (q : CodeRight). (OnlyReads (code_right_term q) → ⊥)) (sym (rolled r e (right.rolls-With w))) (with_reads w)
    by_layer (CodeRight-F.Parted p) e = subst (λ (q : CodeRight). (OnlyReads (code_right_term q) → ⊥)) (sym (rolled r e (right.rolls-Parted p))) (parted_reads p)
    by_layer (CodeRight-F.Copy x) e = subst (λ (q : CodeRight). (OnlyReads (code_right_term q) → ⊥)) (sym (rolled r e (right.rolls-Copy x))) (λ reads. reads)
    by_layer (CodeRight-F.If c a b) e = subst (λ (q : CodeRight). (OnlyReads (code_right_term q) → ⊥)) (sym (rolled r e (right.rolls-If c a b))) (λ reads. reads)
    by_layer (CodeRight-F.Loop first start params test body s) e = subst (λ (q : CodeRight). (OnlyReads (code_right_term q) → ⊥)) (sym (rolled r e (right.rolls-Loop first start params test body s))) (λ reads. reads)
    by_layer (CodeRight-F.Call g args) e = subst (λ (q : CodeRight). (OnlyReads (code_right_term q) → ⊥)) (sym (rolled r e (right.rolls-Call g args))) (λ reads. reads)
    by_layer (CodeRight-F.Always k) e = subst (λ (q : CodeRight). (OnlyReads (code_right_term q) → ⊥)) (sym (rolled r e (right.rolls-Always k))) (λ reads. reads)
    by_layer (CodeRight-F.Check x t) e = subst (λ (q : CodeRight). (OnlyReads (code_right_term q) → ⊥)) (sym (rolled r e (right.rolls-Check x t))) (λ reads. reads)
