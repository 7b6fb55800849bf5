-- Blocks in which calls of inline functions are replaced by the bodies of the functions, as long as there is room.
use Rattle.std.specs.Prelude.{◌≡◌, ℕ, ◌+◌, ◌-◌, ◌^◌, ◌<◌, ◌≤◌, ◌⊎◌, Bool, true, List, [], ◌∷◌, length, Some, slice_get}
use Rattle.sac_base.specs.declared.base.Base.{Base}
use Rattle.sac_base.specs.declared.grid.Grid1.{Grid1}
use Rattle.sac_base.specs.declared.site.Site.{Site}
use Rattle.core_ir.specs.declared.tree.Var.{Var}
use Rattle.core_ir.specs.declared.tree.CoreOp.{CoreOp}
use Rattle.core_ir.specs.declared.tree.PartedOp.{PartedOp}
use Rattle.core_ir.specs.Counts.{bindings}
use Rattle.core_ir.specs.Outcome.{group_at}
use Rattle.core_ir.specs.Terms.{PlainTerm, BlockTerm, RightTerm, GensTerm, PartsTerm, GenHead, PartHead, FunTerm, CoreTerm, Gives, Bind, Plain}
use Rattle.core_ir.specs.Terms.{NoGens, Gen, NoParts, Part}
use Rattle.core_subst.specs.Names.{above_function}
use Rattle.core_forms.specs.inlining.Inlined.{inlined}
use Rattle.core_forms.specs.declared.inlined_bodies.growth.Growth.{Growth}

-- a function is the only instance of a group, and inline
pub record IsInstance (core : CoreTerm) (group place : ℕ) (f : FunTerm) : Type 0 where
  pub alone : group_at core group ≡ place ∷ []
  pub found : slice_get core.functions place ≡ Some f
  pub inlines : f.is_inline ≡ true

-- the most bindings that a body is given
abbrev pub MOST_BINDINGS : ℕ
MOST_BINDINGS = 65536

-- the bindings that stand in the place of a call of the function
abbrev pub weight : FunTerm → ℕ
weight f = bindings f.body + (length f.params + length f.results)

-- the greatest number of a variable of the function
abbrev pub greatest : FunTerm → ℕ
greatest f = above_function f - 1

-- the body of the function has room: its bindings, and its variables above the others
pub record Fits (s : Growth) (f : FunTerm) : Type 0 where
  pub few : s.count + weight f ≤ MOST_BINDINGS
  pub low : (s.above - 1) + greatest f < 2 ^ 32 - 1

-- it has none
abbrev pub TooGreat : Growth → FunTerm → Type 0
TooGreat s f = (MOST_BINDINGS < s.count + weight f) ⊎ (2 ^ 32 - 1 ≤ (s.above - 1) + greatest f)

abbrev pub grown : Growth → FunTerm → Growth
grown s f = record { count = s.count + weight f; above = s.above + above_function f }

-- the only instance of the group has no room, if there is one that is inline
abbrev pub IsLeft : CoreTerm → Growth → ℕ → Type 0
IsLeft core s group = (place : ℕ) (f : FunTerm) → IsInstance core group place f → TooGreat s f

-- The second term is the first with calls inlined, where the growth before is the one and the growth after the other. A call that may be inlined
-- and is not has no room. May is a condition on the number by which variables are raised, the function that a call takes, the call's targets and
-- arguments, and what follows.
module _ (core : CoreTerm) (May : ℕ → FunTerm → List Var → List Var → BlockTerm → Type 0) where
  mutual
    pub data BlockInlined : Growth → BlockTerm → BlockTerm → Growth → Type 0 where
      ends : {s : Growth} {xs : List Var} → BlockInlined s (Gives xs) (Gives xs) s
      placed : {s t : Growth} {group place : ℕ} {f : FunTerm} {ts xs : List Var} {site : Site} {rest new : BlockTerm} →
          IsInstance core group place f → Fits s f → May s.above f ts xs rest → BlockInlined (grown s f) rest new t →
          BlockInlined s (Bind ts site (RightTerm.Call group xs) rest) (inlined s.above f ts site xs new) t
      kept : {s m t : Growth} {xs : List Var} {site : Site} {r q : RightTerm} {rest new : BlockTerm} →
          RightInlined s r q m → BlockInlined m rest new t → BlockInlined s (Bind xs site r rest) (Bind xs site q new) t

    pub data RightInlined : Growth → RightTerm → RightTerm → Growth → Type 0 where
      plain : {s : Growth} {p : PlainTerm} → RightInlined s (Plain p) (Plain p) s
      left : {s : Growth} {group : ℕ} {xs : List Var} → IsLeft core s group → RightInlined s (RightTerm.Call group xs) (RightTerm.Call group xs) s
      branches : {s m t : Growth} {x : Var} {a b c d : BlockTerm} →
          BlockInlined s a c m → BlockInlined m b d t → RightInlined s (RightTerm.If x a b) (RightTerm.If x c d) t
      turns : {s m t : Growth} {first : Bool} {start params : List Var} {a b c d : BlockTerm} {u : Site} →
          BlockInlined s a c m → BlockInlined m b d t →
          RightInlined s (RightTerm.Loop first start params a b u) (RightTerm.Loop first start params c d u) t
      generated : {s t : Growth} {op : CoreOp} {g h : GensTerm} → GensInlined s g h t → RightInlined s (RightTerm.With op g) (RightTerm.With op h) t
      divided : {s t : Growth} {frame : List Grid1} {base : Base} {cell : List ℕ} {op : PartedOp} {p q : PartsTerm} →
          PartsInlined s p q t → RightInlined s (RightTerm.Parted frame base cell op p) (RightTerm.Parted frame base cell op q) t

    pub data GensInlined : Growth → GensTerm → GensTerm → Growth → Type 0 where
      no_gens : {s : Growth} → GensInlined s NoGens NoGens s
      a_gen : {s m t : Growth} {h : GenHead} {b c : BlockTerm} {g k : GensTerm} →
          BlockInlined s b c m → GensInlined m g k t → GensInlined s (Gen h b g) (Gen h c k) t

    pub data PartsInlined : Growth → PartsTerm → PartsTerm → Growth → Type 0 where
      no_parts : {s : Growth} → PartsInlined s NoParts NoParts s
      a_part : {s m t : Growth} {h : PartHead} {b c : BlockTerm} {p q : PartsTerm} →
          BlockInlined s b c m → PartsInlined m p q t → PartsInlined s (Part h b p) (Part h c q) t
