-- What a walk did with a block: with the blocks in each binding first, then with the binding, and with the whole block at its end.
use Rattle.std.specs.Prelude.{◌≡◌, ℕ, Bool, List, [], ◌∷◌, ◌++◌, map, Option}
use Rattle.sac_base.specs.declared.base.Base.{Base}
use Rattle.sac_base.specs.declared.grid.Grid1.{Grid1}
use Rattle.sac_base.specs.declared.site.Site.{Site}
use Rattle.core_ir.specs.declared.tree.Var.{Var}
use Rattle.core_ir.specs.declared.tree.CoreOp.{CoreOp}
use Rattle.core_ir.specs.declared.tree.PartedOp.{PartedOp}
use Rattle.core_ir.specs.Terms.{PlainTerm, BlockTerm, RightTerm, LetTerm, GenTerm, PartTerm, GenHead, PartHead}
use Rattle.core_ir.specs.Terms.{Gives, Plain, With, Parted, chain, gens_of, parts_of}
use Rattle.core_facts.specs.Facts.{Fact, Facts, common_facts, note_all, right_facts, in_part}

-- A step makes of a right side that stands for variables, with what is known of its values, bindings before it and another right side.
-- At its end a block is finished, with what is known of its results.
module _ (called : ℕ → List (Option (List ℕ))) (P : Type 0)
    (Step : Facts → P → P → List Var → Site → RightTerm → List Fact → List LetTerm → RightTerm → List Fact → Type 0)
    (Finish : Facts → P → P → BlockTerm → List Fact → BlockTerm → List Fact → Type 0) where
  mutual
    pub data BlockTraced : Facts → P → P → BlockTerm → BlockTerm → List Fact → Type 0 where
      finished : {k j : Facts} {p q r : P} {ls ns : List LetTerm} {c : BlockTerm} {vs : List Fact} (rs : List Var) →
          LetsTraced k j p q ls ns → Finish k q r (chain ns (Gives rs)) (map j rs) c vs → BlockTraced k p r (chain ls (Gives rs)) c vs

    -- bindings, with what is known before and behind them
    pub data LetsTraced : Facts → Facts → P → P → List LetTerm → List LetTerm → Type 0 where
      no_lets : {k : Facts} {p : P} → LetsTraced k k p p [] []
      more_lets : {k j h : Facts} {p q r : P} {l : LetTerm} {ls ms ns : List LetTerm} →
          LetTraced k j p q l ms → LetsTraced j h q r ls ns → LetsTraced k h p r (l ∷ ls) (ms ++ ns)

    pub data LetTraced : Facts → Facts → P → P → LetTerm → List LetTerm → Type 0 where
      bound : {k : Facts} {p q u : P} {xs : List Var} {s : Site} {r m t : RightTerm} {vs ws : List Fact} {ms : List LetTerm} →
          RightTraced k p q r m vs → Step k q u xs s m vs ms t ws →
          LetTraced k (note_all k xs ws) p u (record { targets = xs; site = s; right = r }) (ms ++ (record { targets = xs; site = s; right = t } ∷ []))

    -- the blocks in a right side
    pub data RightTraced : Facts → P → P → RightTerm → RightTerm → List Fact → Type 0 where
      plain : {k : Facts} {p : P} {x : PlainTerm} → RightTraced k p p (Plain x) (Plain x) (right_facts called (Plain x) k)
      call : {k : Facts} {p : P} {g : ℕ} {xs : List Var} →
          RightTraced k p p (RightTerm.Call g xs) (RightTerm.Call g xs) (right_facts called (RightTerm.Call g xs) k)
      choice : {k : Facts} {p q r : P} {x : Var} {a b c d : BlockTerm} {vs ws : List Fact} →
          BlockTraced k p q a c vs → BlockTraced k q r b d ws → RightTraced k p r (RightTerm.If x a b) (RightTerm.If x c d) (common_facts vs ws)
      turns : {k : Facts} {p q r : P} {first : Bool} {start params : List Var} {s : Site} {a b c d : BlockTerm} {vs ws : List Fact} →
          BlockTraced (note_all k params []) p q a c vs → BlockTraced (note_all k params []) q r b d ws →
          RightTraced k p r (RightTerm.Loop first start params a b s) (RightTerm.Loop first start params c d s) []
      within_gens : {k : Facts} {p q : P} {op : CoreOp} {gs hs : List GenTerm} →
          GensTraced k p q gs hs → RightTraced k p q (With op (gens_of gs)) (With op (gens_of hs)) []
      within_parts : {k : Facts} {p q : P} {frame : List Grid1} {base : Base} {cell : List ℕ} {op : PartedOp} {gs hs : List PartTerm} →
          PartsTraced k p q gs hs →
          RightTraced k p q (Parted frame base cell op (parts_of gs)) (Parted frame base cell op (parts_of hs))
          (right_facts called (Parted frame base cell op (parts_of hs)) k)

    pub data GensTraced : Facts → P → P → List GenTerm → List GenTerm → Type 0 where
      no_gens : {k : Facts} {p : P} → GensTraced k p p [] []
      more_gens : {k : Facts} {p q r : P} {g h : GenTerm} {gs hs : List GenTerm} →
          GenTraced k p q g h → GensTraced k q r gs hs → GensTraced k p r (g ∷ gs) (h ∷ hs)

    pub data GenTraced : Facts → P → P → GenTerm → GenTerm → Type 0 where
      gen_body : {k : Facts} {p q : P} {h : GenHead} {b c : BlockTerm} {vs : List Fact} →
          BlockTraced (note_all k (h.index ∷ h.names) []) p q b c vs → GenTraced k p q (record { head = h; body = b }) (record { head = h; body = c })

    pub data PartsTraced : Facts → P → P → List PartTerm → List PartTerm → Type 0 where
      no_parts : {k : Facts} {p : P} → PartsTraced k p p [] []
      more_parts : {k : Facts} {p q r : P} {g h : PartTerm} {gs hs : List PartTerm} →
          PartTraced k p q g h → PartsTraced k q r gs hs → PartsTraced k p r (g ∷ gs) (h ∷ hs)

    pub data PartTraced : Facts → P → P → PartTerm → PartTerm → Type 0 where
      part_body : {k : Facts} {p q : P} {h : PartHead} {b c : BlockTerm} {vs : List Fact} →
          BlockTraced (in_part k h) p q b c vs → PartTraced k p q (record { head = h; body = b }) (record { head = h; body = c })

-- a right side and a block that stay
abbrev pub Unchanged : {P : Type 0} → P → P → RightTerm → List Fact → List LetTerm → RightTerm → List Fact → Type 0
Unchanged p q r vs ms t ws = (q ≡ p) × (ms ≡ []) × (t ≡ r) × (ws ≡ vs)

abbrev pub Finished : {P : Type 0} → Facts → P → P → BlockTerm → List Fact → BlockTerm → List Fact → Type 0
Finished k p q b vs c ws = (q ≡ p) × (c ≡ b) × (ws ≡ vs)
