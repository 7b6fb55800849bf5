-- One place of a block, somewhere inside, is changed by a rule, and all else is as it was.
use Rattle.std.specs.Prelude.{ℕ, Bool, List, ◌∷◌}
use Rattle.sac_base.specs.declared.base.Base.{Base}
use Rattle.sac_base.specs.declared.grid.Grid1.{Grid1}
use Rattle.sac_base.specs.declared.site.Site.{Site}
use Rattle.core_ir.specs.declared.tree.Var.{Var}
use Rattle.core_ir.specs.declared.tree.CoreOp.{CoreOp}
use Rattle.core_ir.specs.declared.tree.PartedOp.{PartedOp}
use Rattle.core_ir.specs.Terms.{BlockTerm, RightTerm, GensTerm, PartsTerm, GenHead, PartHead, Bind, Gen, Part}

-- how what is known changes on the way to a place
pub record Ways (Facts : Type 0) : Type 0 where
  -- after a binding
  pub learn : Facts → List Var → Site → RightTerm → Facts
  -- below variables of any value
  pub hide : Facts → List Var → Facts
  -- in the body of a part
  pub enter : Facts → PartHead → Facts

module _ (Facts : Type 0) (ways : Ways Facts) (Rule : Facts → BlockTerm → BlockTerm → Type 0) where
  mutual
    pub data Edited : Facts → BlockTerm → BlockTerm → Type 0 where
      here : {known : Facts} {b c : BlockTerm} → Rule known b c → Edited known b c
      later : {known : Facts} {xs : List Var} {s : Site} {r : RightTerm} {b c : BlockTerm} →
          Edited (ways.learn known xs s r) b c → Edited known (Bind xs s r b) (Bind xs s r c)
      inside : {known : Facts} {xs : List Var} {s : Site} {r q : RightTerm} {b : BlockTerm} →
          EditedRight known r q → Edited known (Bind xs s r b) (Bind xs s q b)

    pub data EditedRight : Facts → RightTerm → RightTerm → Type 0 where
      in_then : {known : Facts} {x : Var} {a b c : BlockTerm} → Edited known a c → EditedRight known (RightTerm.If x a b) (RightTerm.If x c b)
      in_else : {known : Facts} {x : Var} {a b c : BlockTerm} → Edited known b c → EditedRight known (RightTerm.If x a b) (RightTerm.If x a c)
      in_test : {known : Facts} {first : Bool} {start params : List Var} {a b c : BlockTerm} {s : Site} →
          Edited (ways.hide known params) a c →
          EditedRight known (RightTerm.Loop first start params a b s) (RightTerm.Loop first start params c b s)
      in_body : {known : Facts} {first : Bool} {start params : List Var} {a b c : BlockTerm} {s : Site} →
          Edited (ways.hide known params) b c →
          EditedRight known (RightTerm.Loop first start params a b s) (RightTerm.Loop first start params a c s)
      in_gens : {known : Facts} {op : CoreOp} {g h : GensTerm} → EditedGens known g h → EditedRight known (RightTerm.With op g) (RightTerm.With op h)
      in_parts : {known : Facts} {f : List Grid1} {t : Base} {cell : List ℕ} {op : PartedOp} {p q : PartsTerm} →
          EditedParts known p q → EditedRight known (RightTerm.Parted f t cell op p) (RightTerm.Parted f t cell op q)

    pub data EditedGens : Facts → GensTerm → GensTerm → Type 0 where
      this_gen : {known : Facts} {h : GenHead} {b c : BlockTerm} {rest : GensTerm} →
          Edited (ways.hide known (h.index ∷ h.names)) b c → EditedGens known (Gen h b rest) (Gen h c rest)
      later_gen : {known : Facts} {h : GenHead} {b : BlockTerm} {g k : GensTerm} → EditedGens known g k → EditedGens known (Gen h b g) (Gen h b k)

    pub data EditedParts : Facts → PartsTerm → PartsTerm → Type 0 where
      this_part : {known : Facts} {h : PartHead} {b c : BlockTerm} {rest : PartsTerm} →
          Edited (ways.enter known h) b c → EditedParts known (Part h b rest) (Part h c rest)
      later_part : {known : Facts} {h : PartHead} {b : BlockTerm} {p q : PartsTerm} → EditedParts known p q → EditedParts known (Part h b p) (Part h b q)
