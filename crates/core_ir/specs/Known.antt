-- What is known at a place of a block: what the bindings and parts on the way to it say of the environment.
use Rattle.std.specs.Prelude.{◌≡◌, ℕ, true, List, [], ◌∷◌, ◌++◌, ℤ, map, Ok}
use Rattle.sac_base.specs.declared.base.Base.TheVariants.{Int}
use Rattle.sac_base.specs.declared.grid.Grid1.{Grid1}
use Rattle.sac_base.specs.declared.site.Site.{Site}
use Rattle.sac_base.specs.Arrays.{vector}
use Rattle.sac_base.specs.Grids.{has_vector}
use Rattle.core_ir.specs.declared.tree.Var.{Var}
use Rattle.core_ir.specs.Terms.{BlockTerm, RightTerm, LetTerm, Plain, With, Parted}
use Rattle.core_ir.specs.Meaning.{Env, CallMeaning, run, right_value}
use Rattle.core_ir.specs.Binders.{is_in}
use Rattle.core_ir.specs.Scopes.{AllIn, Scoped, ScopedRight}
use Rattle.core_ir.specs.Edits.{Ways}

-- a binding that was passed, and the variables that were in scope there
pub record Passed : Type 0 where
  pub own : List Var
  pub binding : LetTerm

-- a part that was entered: the variable of its index, and its grid
pub record Entered : Type 0 where
  pub index : Var
  pub grid : List Grid1

pub record Known : Type 0 where
  pub scope : List Var
  pub passed : List Passed
  pub entered : List Entered

-- only a binding of one variable to one value is kept
abbrev pub learn_passed : Known → List Var → Site → RightTerm → List Passed
learn_passed k (x ∷ []) s (Plain p) = record { own = k.scope; binding = record { targets = x ∷ []; site = s; right = Plain p } } ∷ k.passed
learn_passed k (x ∷ []) s (With o g) = record { own = k.scope; binding = record { targets = x ∷ []; site = s; right = With o g } } ∷ k.passed
learn_passed k (x ∷ []) s (Parted f b c o p) = record { own = k.scope; binding = record { targets = x ∷ []; site = s; right = Parted f b c o p } } ∷ k.passed
learn_passed k _ s _ = k.passed

-- how it grows on the way
abbrev pub ways : Ways Known
ways = record {
  learn = λ k xs s r. record { scope = xs ++ k.scope; passed = learn_passed k xs s r; entered = k.entered };
  hide = λ k xs. record k { scope = xs ++ k.scope };
  enter = λ k h. record { scope = h.index ∷ k.scope; passed = k.passed; entered = record { index = h.index; grid = h.grid } ∷ k.entered };
}

-- the variable of an index has a member of the grid
abbrev pub HoldEntered : List Var → List Entered → Env → Type 0
HoldEntered scope [] e = Unit {0}
HoldEntered scope (p ∷ ps) e =
    (is_in p.index scope ≡ true) × ((v : List ℤ) × ((e p.index ≡ vector Int v) × (has_vector p.grid v ≡ true))) × HoldEntered scope ps e

module _ (calls : CallMeaning) (turns : ℕ) where
  -- each binding that was passed is an equation
  abbrev pub HoldPassed : List Var → List Passed → Env → Type 0
  HoldPassed scope [] e = Unit {0}
  HoldPassed scope (p ∷ ps) e =
      ScopedRight p.own p.binding.right × AllIn p.own scope × AllIn p.binding.targets scope
      × (right_value calls turns p.binding.right p.binding.site e ≡ Ok (map e p.binding.targets)) × HoldPassed scope ps e

  -- the environment is as the bindings and parts say
  abbrev pub Holds : Known → Env → Type 0
  Holds k e = HoldPassed k.scope k.passed e × HoldEntered k.scope k.entered e

  -- blocks that mean the same in each environment that is as known
  abbrev pub SameWhere : Known → BlockTerm → BlockTerm → Type 0
  SameWhere k b c = Scoped k.scope b → (e : Env) → Holds k e → run calls turns b e ≡ run calls turns c e
