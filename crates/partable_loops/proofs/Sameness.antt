-- Facts determine the bounds of generators and the operation, and a plan is what an evaluation gives.
use Rattle.std.proofs.Common.{◌≡◌, List, [], ◌∷◌, refl, sym, ap, ◌∙◌, Option, Some, None}
use Rattle.std.specs.Prelude.{unwrap_or}
use Rattle.sac_base.specs.declared.base.Base.{Base}
use Rattle.sac_base.specs.declared.site.Site.{Site}
use Rattle.sac_base.specs.Arrays.{ArrayValue}
use Rattle.sac_base.specs.WithLoops.{Bounds, Operation}
use Rattle.sac_base.specs.WithLoops
use Rattle.core_ir.specs.declared.tree.Var.{Var}
use Rattle.core_ir.specs.declared.tree.CoreOp.{CoreOp}
use Rattle.core_ir.specs.declared.tree.CoreOp.TheVariants as making
use Rattle.core_ir.specs.Meaning.{cell_form}
use Rattle.core_ir.specs.Terms.{GensTerm, GenHead, NoGens, Gen}
use Rattle.core_facts.specs.Facts.{Facts}
use Rattle.core_loops.specs.Loops.{AllLiteral, KnownOperation, LiteralBounds, LiteralPart}

-- what is the same of one known value
known_same : {A : Type 0} (o : Option A) (v w : A) → o ≡ Some v → o ≡ Some w → v ≡ w
known_same o v w h j = ap (λ m. unwrap_or m v) (sym h ∙ j)

part_same : (k : Facts) (o : Option Var) (m n : Option ArrayValue) → LiteralPart k o m → LiteralPart k o n → m ≡ n
part_same k None None None h j = refl
part_same k None None (Some w) h j = absurd j
part_same k None (Some v) n h j = absurd h
part_same k (Some x) None n h j = absurd h
part_same k (Some x) (Some v) None h j = absurd j
part_same k (Some x) (Some v) (Some w) h j = sym h ∙ j

bounds_same : (k : Facts) (g : GenHead) (b c : Bounds) → LiteralBounds k g b → LiteralBounds k g c → b ≡ c
bounds_same k g b c h j = λ i. record {
  lower = part_same k g.lower b.lower c.lower h.lower j.lower i;
  lower_closed = (h.closed.0 ∙ sym j.closed.0) i;
  names = (h.names ∙ sym j.names) i;
  upper = part_same k g.upper b.upper c.upper h.upper j.upper i;
  upper_closed = (h.closed.1 ∙ sym j.closed.1) i;
  step = part_same k g.step b.step c.step h.step j.step i;
  width = part_same k g.width b.width c.width h.width j.width i;
  site = (h.site ∙ sym j.site) i;
}

pub all_same : (k : Facts) (gens : GensTerm) (bs cs : List Bounds) → AllLiteral k gens bs → AllLiteral k gens cs → bs ≡ cs
all_same k NoGens [] [] h j = refl
all_same k NoGens [] (c ∷ cs) h j = absurd j
all_same k NoGens (b ∷ bs) cs h j = absurd h
all_same k (Gen g body rest) [] cs h j = absurd h
all_same k (Gen g body rest) (b ∷ bs) [] h j = absurd j
all_same k (Gen g body rest) (b ∷ bs) (c ∷ cs) h j = λ i. bounds_same k g b c h.0 j.0 i ∷ all_same k rest bs cs h.1 j.1 i

pub operation_same : (k : Facts) (s : Site) (base : Base) (op : CoreOp) (o p : Operation) → KnownOperation k s base op o → KnownOperation k s base op p → o ≡ p
operation_same k s base (making.Genarray x y) o p h j =
    let value = known_same (k x).literal h.0 j.0 h.1.1.0 j.1.1.0 in
    let shape = known_same (k y).shape h.1.0 j.1.0 h.1.1.1 j.1.1.1 in
    h.1.1.2 ∙ (λ i. WithLoops.genarray (value i) (cell_form base (shape i)) s) ∙ sym j.1.1.2
operation_same k s base (making.Modarray x) o p h j =
    h.1.1 ∙ ap (λ shape. WithLoops.modarray (cell_form base shape) s) (known_same (k x).shape h.0 j.0 h.1.0 j.1.0) ∙ sym j.1.1
operation_same k s base (making.Fold f x) o p h j =
    h.1.1 ∙ ap (λ shape. WithLoops.fold_by f (cell_form base shape) s) (known_same (k x).shape h.0 j.0 h.1.0 j.1.0) ∙ sym j.1.1
