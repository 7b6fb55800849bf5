-- Right sides without blocks and calls.
use Rattle.std.proofs.Common.{◌≡◌, ℕ, Bool, List, [], ◌∷◌, Option, refl, sym, ap, ◌∙◌}
use Rattle.std.specs.Prelude.{Vec}
use Rattle.std.specs.declared.alloc.Global.{Global}
use Rattle.sac_base.specs.declared.site.Site.{Site}
use Rattle.core_ir.specs.declared.tree.Var.{Var}
use Rattle.core_ir.specs.declared.tree.Block.{Block}
use Rattle.core_ir.specs.declared.tree.PartedLoop.{PartedLoop}
use Rattle.core_ir.specs.declared.tree.Right.{Right}
use Rattle.core_ir.specs.declared.tree.Right.TheVariants as right
use Rattle.core_ir.specs.declared.tree.WithLoop.{WithLoop}
use Rattle.core_ir.specs.Terms.{PlainTerm, RightTerm, Plain}
use Rattle.core_ir.specs.View.{right_term}
use Rattle.core_facts.specs.Facts.{Facts, right_facts}
use Rattle.plain_facts.specs.Rights.{fact_of_right}

-- a right side that is none of those with blocks, and no call
abbrev pub IsOther : Right → Type 0
IsOther r = ((x : Var) (a b : Block) → r ≡ right.If x a b → ⊥)
    × ((head : Bool) (start params : Vec Var Global) (test body : Block) (site : Site) → r ≡ right.Loop head start params test body site → ⊥)
    × ((group : ℕ) (args : Vec Var Global) → r ≡ right.Call group args → ⊥)
    × ((w : WithLoop) → r ≡ right.With w → ⊥)
    × ((p : PartedLoop) → r ≡ right.Parted p → ⊥)

pub other_plain : (r : Right) → IsOther r → (p : PlainTerm) × (right_term r ≡ Plain p)
other_plain (right.If x a b) o = absurd (o.0 x a b refl)
other_plain (right.Loop head start params test body site) o = absurd (o.1 head start params test body site refl)
other_plain (right.Call group args) o = absurd (o.2 group args refl)
other_plain (right.With w) o = absurd (o.3 w refl)
other_plain (right.Parted p) o = absurd (o.4 p refl)
other_plain (right.Const a) o = (PlainTerm.Const a, refl)
other_plain (right.Copy x) o = (PlainTerm.Copy x, refl)
other_plain (right.Unary op x) o = (PlainTerm.Unary op x, refl)
other_plain (right.Binary op x y) o = (PlainTerm.Binary op x y, refl)
other_plain (right.Literal xs) o = (PlainTerm.Literal xs.items, refl)
other_plain (right.Dim x) o = (PlainTerm.Dim x, refl)
other_plain (right.ShapeOf x) o = (PlainTerm.ShapeOf x, refl)
other_plain (right.Reshape x y) o = (PlainTerm.Reshape x y, refl)
other_plain (right.Select x y) o = (PlainTerm.Select x y, refl)
other_plain (right.Replace x y z) o = (PlainTerm.Replace x y z, refl)
other_plain (right.Always k) o = (PlainTerm.Always k, refl)
other_plain (right.Check x t) o = (PlainTerm.Check x t, refl)

pub plain_known : (called : ℕ → List (Option (List ℕ))) (k : Facts) (r : RightTerm) (p : PlainTerm) → r ≡ Plain p → fact_of_right r k ∷ [] ≡ right_facts called r k
plain_known called k r p e = ap (λ t. fact_of_right t k ∷ []) e ∙ ap (λ t. right_facts called t k) (sym e)

pub other_facts : (called : ℕ → List (Option (List ℕ))) (k : Facts) (r : Right) → IsOther r → fact_of_right (right_term r) k ∷ [] ≡ right_facts called (right_term r) k
other_facts called k r o = let w = other_plain r o in plain_known called k (right_term r) w.0 w.1
