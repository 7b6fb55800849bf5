-- Marks that stand in the place of releases.
use Rattle.std.specs.Prelude.{◌≡◌, ℕ, Bool, true, false, cond, eqb, List, [], ◌∷◌, Option, Some, None}
use Rattle.sac_base.specs.declared.base.Base.{Base}
use Rattle.sac_base.specs.declared.grid.Grid1.{Grid1}
use Rattle.sac_base.specs.declared.site.Site.{Site}
use Rattle.core_ir.specs.declared.tree.Var.{Var}
use Rattle.core_ir.specs.declared.tree.CoreOp.{CoreOp}
use Rattle.core_ir.specs.declared.tree.PartedOp.{PartedOp}
use Rattle.core_ir.specs.Binders.{is_in}
use Rattle.core_ir.specs.Terms.{PlainTerm, GenHead, PartHead}
use Rattle.counted_code.specs.Terms.{CodeTerm, CodeRightTerm, CodeGensTerm, CodePartsTerm, CodeFunTerm, CodeProgram, Giving, Binding, Keeping}
use Rattle.counted_code.specs.Terms.{Releasing, PlainCode, IfCode, LoopCode, CallCode, WithCode, PartedCode, NoCodeGens, GenCode, NoCodeParts}
use Rattle.counted_code.specs.Terms.{PartCode}

-- before the next binding v is released, and it is not kept before
abbrev pub releases_next : Var → CodeTerm → Bool
releases_next v (Releasing x b) = cond (eqb v.0 x.0) true (releases_next v b)
releases_next v (Keeping x b) = cond (eqb v.0 x.0) false (releases_next v b)
releases_next v _ = false

-- without that release
abbrev pub without_release : Var → CodeTerm → CodeTerm
without_release v (Releasing x b) = cond (eqb v.0 x.0) b (Releasing x (without_release v b))
without_release v (Keeping x b) = Keeping x (without_release v b)
without_release v t = t

-- The second is the first, but for parted loops that are marked with a variable that was there before them, and that is released before the next binding:
-- that release is left out.
mutual
  pub data Marked : CodeTerm → CodeTerm → Type 0 where
    giving : {xs : List Var} → Marked (Giving xs) (Giving xs)
    binding : {xs : List Var} {s : Site} {r q : CodeRightTerm} {b c : CodeTerm} → MarkedRight r q → Marked b c → Marked (Binding xs s r b) (Binding xs s q c)
    taking : {xs : List Var} {s : Site} {f : List Grid1} {t : Base} {l : List ℕ} {o : PartedOp} {ps qs : CodePartsTerm} {v : Var} {b c : CodeTerm} →
        is_in v xs ≡ false → releases_next v b ≡ true → MarkedParts ps qs → Marked b c →
        Marked (Binding xs s (PartedCode f t l o ps None) b) (Binding xs s (PartedCode f t l o qs (Some v)) (without_release v c))
    keeping : {x : Var} {b c : CodeTerm} → Marked b c → Marked (Keeping x b) (Keeping x c)
    releasing : {x : Var} {b c : CodeTerm} → Marked b c → Marked (Releasing x b) (Releasing x c)

  pub data MarkedRight : CodeRightTerm → CodeRightTerm → Type 0 where
    plain : {p : PlainTerm} → MarkedRight (PlainCode p) (PlainCode p)
    branches : {x : Var} {a b c d : CodeTerm} → Marked a c → Marked b d → MarkedRight (IfCode x a b) (IfCode x c d)
    turns : {first : Bool} {start params : List Var} {a b c d : CodeTerm} {s : Site} → Marked a c → Marked b d →
        MarkedRight (LoopCode first start params a b s) (LoopCode first start params c d s)
    call : {g : ℕ} {xs : List Var} → MarkedRight (CallCode g xs) (CallCode g xs)
    cells : {o : CoreOp} {gs hs : CodeGensTerm} → MarkedGens gs hs → MarkedRight (WithCode o gs) (WithCode o hs)
    parts : {f : List Grid1} {t : Base} {l : List ℕ} {o : PartedOp} {ps qs : CodePartsTerm} {reuse : Option Var} → MarkedParts ps qs →
        MarkedRight (PartedCode f t l o ps reuse) (PartedCode f t l o qs reuse)

  pub data MarkedGens : CodeGensTerm → CodeGensTerm → Type 0 where
    no_gens : MarkedGens NoCodeGens NoCodeGens
    gen : {h : GenHead} {b c : CodeTerm} {gs hs : CodeGensTerm} → Marked b c → MarkedGens gs hs → MarkedGens (GenCode h b gs) (GenCode h c hs)

  pub data MarkedParts : CodePartsTerm → CodePartsTerm → Type 0 where
    no_parts : MarkedParts NoCodeParts NoCodeParts
    part : {h : PartHead} {b c : CodeTerm} {ps qs : CodePartsTerm} → Marked b c → MarkedParts ps qs → MarkedParts (PartCode h b ps) (PartCode h c qs)

pub record MarkedFunction (f g : CodeFunTerm) : Type 0 where
  pub same : g ≡ record f { body = g.body }
  pub body : Marked f.body g.body

abbrev pub MarkedFunctions : List CodeFunTerm → List CodeFunTerm → Type 0
MarkedFunctions [] [] = Unit {0}
MarkedFunctions (f ∷ fs) (g ∷ gs) = MarkedFunction f g × MarkedFunctions fs gs
MarkedFunctions _ _ = ⊥

pub record MarkedCode (a b : CodeProgram) : Type 0 where
  pub functions : MarkedFunctions a.functions b.functions
  pub groups : b.groups ≡ a.groups
  pub main : b.main ≡ a.main
