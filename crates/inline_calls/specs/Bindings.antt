-- One binding with calls inlined.
use Rattle.std.specs.Prelude.{◌≡◌, ◌++◌, ℕ, List, map}
use Rattle.sac_base.specs.declared.site.Site.{Site}
use Rattle.core_ir.specs.declared.tree.Let.{Let}
use Rattle.core_ir.specs.declared.tree.Var.{Var}
use Rattle.core_ir.specs.Terms.{BlockTerm, RightTerm, LetTerm, GenTerm, PartTerm, CoreTerm, Bind, chain}
use Rattle.core_ir.specs.View.{let_term}
use Rattle.core_forms.specs.declared.inlined_bodies.growth.Growth.{Growth}
use Rattle.core_forms.specs.inlined_bodies.Inlining.{IsLeft, BlockInlined, RightInlined}
use Rattle.core_forms.specs.inlined_bodies.Functions.{Anywhere}
use Rattle.inline_calls.specs.declared.call.Inlined.{Inlined}

-- put before any block with calls inlined, the bindings are the binding and that block with calls inlined
abbrev pub LetInlined : CoreTerm → Growth → LetTerm → List LetTerm → Growth → Type 0
LetInlined core s l ks t =
    (rest new : BlockTerm) (u : Growth) → BlockInlined core Anywhere t rest new u →
    BlockInlined core Anywhere s (Bind l.targets l.site l.right rest) (chain ks new) u

-- the same of a call
abbrev pub CallInlined : CoreTerm → Growth → List Var → Site → ℕ → List Var → List LetTerm → Growth → Type 0
CallInlined core s ts site group xs ks t = LetInlined core s (record { targets = ts; site = site; right = RightTerm.Call group xs }) ks t

-- what an attempt to inline a call gives
abbrev pub GivesCall : CoreTerm → Growth → List Var → Site → ℕ → List Var → Inlined → Type 0
GivesCall core s ts site group xs i = CallInlined core s ts site group xs (map let_term i.lets.items) i.growth

-- a call of a function that has no room, or no call
abbrev pub MayStay : CoreTerm → Growth → RightTerm → Type 0
MayStay core s (RightTerm.Call group xs) = IsLeft core s group
MayStay core s r = Unit {0}

-- a generator with calls in its body inlined, and a part
pub record GenInlined (core : CoreTerm) (s : Growth) (g h : GenTerm) (t : Growth) : Type 0 where
  pub head : g.head ≡ h.head
  pub body : BlockInlined core Anywhere s g.body h.body t

pub record PartInlined (core : CoreTerm) (s : Growth) (p q : PartTerm) (t : Growth) : Type 0 where
  pub head : p.head ≡ q.head
  pub body : BlockInlined core Anywhere s p.body q.body t

-- such bindings were put behind others
abbrev pub Pushed : CoreTerm → Growth → LetTerm → List Let → List Let → Growth → Type 0
Pushed core s l old new t = (ks : List LetTerm) × ((map let_term new ≡ map let_term old ++ ks) × LetInlined core s l ks t)

-- a right side with calls inlined, if it is no call for which there is room
abbrev pub RightWalked : CoreTerm → Growth → RightTerm → RightTerm → Growth → Type 0
RightWalked core s r q t = MayStay core s r → RightInlined core Anywhere s r q t
