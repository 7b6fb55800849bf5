-- What a table tells of the operands of right sides.
use Rattle.std.proofs.Common.{◌≡◌, ℕ, zero, suc, ◌<◌, Bool, true, false, ◌&&◌, List, [], ◌∷◌, map, length, get_or, All, Option, Some, None, refl, sym, ap, ◌∙◌, arith}
use Rattle.sac_base.specs.declared.base.Base.{Base}
use Rattle.sac_base.specs.declared.base.Base.TheVariants.{Int, Bool as Truth}
use Rattle.sac_base.specs.Arrays.{same_base}
use Rattle.core_ir.specs.declared.tree.Var.{Var}
use Rattle.std.specs.Prelude.{IfSome, IfNone}
use Rattle.core_ir.specs.Terms.{PlainTerm, Plain}
use Rattle.core_ir.specs.WellFormed.{Bases, HasBase, AllHave, LiteralBase}
use Rattle.variable_bases.specs.Learned.{TellsLiteral, TellsNothing, TellsRight}
use Rattle.core_loops.specs.norm_steps.Step.{Within}
use Rattle.core_loops.specs.norm_steps.Step.{BaseTable as AllBases}
use Rattle.variable_bases.specs.declared.table.BaseTable.{BaseTable}
use Rattle.variable_bases.specs.Table.{base_in, Tells, IsTold, may_be, may_have}
use Rattle.variable_bases.proofs.Scopes.{literal_all_told}

same : (t : Base) → same_base t t ≡ true
same Int = refl
same Truth = refl

may_one : (t : BaseTable) (m : AllBases) (x : Var) (u : Base) → Tells t m → m x ≡ u → may_be (base_in t x) u ≡ true
may_one t m x u tells is = go (base_in t x) refl
  where
    go : (o : Option Base) → base_in t x ≡ o → may_be o u ≡ true
    go None e = refl
    go (Some v) e = ap (λ w. same_base v w) (sym is ∙ tells x v e) ∙ same v

pub may : (t : BaseTable) (m : AllBases) (xs : List Var) (us : List Base) → Tells t m → map m xs ≡ us → may_have t xs us ≡ true
may t m xs us tells is = ap (λ ws. may_have t xs ws) (sym is) ∙ go xs
  where
    go : (ys : List Var) → may_have t ys (map m ys) ≡ true
    go [] = refl
    go (y ∷ ys) = ap (λ b. b && may_have t ys (map m ys)) (may_one t m y (m y) tells refl) ∙ go ys

-- a variable in scope has the base that the table has of it
pub told : (t : BaseTable) (m : AllBases) (g : Bases) (x : Var) (u v : Base) → Within m g → Tells t m → HasBase g x u → base_in t x ≡ Some v → u ≡ v
told t m g x u v w tells h e = w x u h ∙ tells x v e

-- ---- the lengths of operands

pub other_lengths : (t : BaseTable) (xs : List Var) (us : List Base) → (length xs ≡ length us → ⊥) → false ≡ may_have t xs us
other_lengths t [] [] n = absurd (n refl)
other_lengths t [] (u ∷ us) n = refl
other_lengths t (x ∷ xs) [] n = refl
other_lengths t (x ∷ xs) (u ∷ us) n = go (may_be (base_in t x) u) (other_lengths t xs us (λ e. n (ap suc e)))
  where
    go : (b : Bool) → false ≡ may_have t xs us → false ≡ (b && may_have t xs us)
    go false h = refl
    go true h = h

-- ---- literals

have_at : (g : Bases) (xs : List Var) (u : Base) (k : ℕ) (d : Var) → AllHave g xs u → k < length xs → HasBase g (get_or xs k d) u
have_at g [] u k d h less = absurd (omega (arith, less))
have_at g (x ∷ xs) u zero d h less = h.0
have_at g (x ∷ xs) u (suc k) d h less = have_at g xs u k d h.1 (omega (arith, less))

literal_has : (g : Bases) (xs : List Var) (u : Base) → LiteralBase g xs u → 0 < length xs → AllHave g xs u
literal_has g [] u h less = absurd (omega (arith, less))
literal_has g (x ∷ xs) u h less = h

pub literal_told : (t : BaseTable) (xs : List Var) (k : ℕ) (d : Var) (v : Base) → k < length xs → base_in t (get_or xs k d) ≡ Some v → TellsLiteral t xs v
literal_told t xs k d v less has m g u h w tells = told t m g (get_or xs k d) u v w tells (have_at g xs u k d (literal_has g xs u h (omega (arith, less))) less) has

pub literal_right : (t : BaseTable) (xs : List Var) (o : Option Base) → IfSome o (λ b. TellsLiteral t xs b) → IfSome o (λ b. TellsRight t (Plain (PlainTerm.Literal xs)) b)
literal_right t xs None h = tt
literal_right t xs (Some v) h = λ core m g ts d w tells. d.2 ∙ (λ i. h m g d.0 d.1 w tells i ∷ [])

pub literal_nothing : (t : BaseTable) (xs : List Var) (o : Option Base) → IfNone o (All (IsTold t) xs → ⊥) → IfNone o (TellsNothing t (Plain (PlainTerm.Literal xs)))
literal_nothing t xs None h = λ core g ts d scope may. h (literal_all_told t g xs d.0 scope d.1)
literal_nothing t xs (Some v) h = tt
