-- The one binding that uses a variable, and places of bindings that may use one.
use Rattle.std.specs.Prelude.{◌≡◌, ℕ, Bool, true, false, nat_eq, List, ◌∷◌, ◌++◌, length, Option, Some, None, slice_get}
use Rattle.std.specs.HashMap.{get, HashMap}
use Rattle.core_ir.specs.declared.tree.Var.{Var}
use Rattle.core_ir.specs.Terms.{LetTerm}
use Rattle.core_ir.specs.Uses.{AvoidsAll, AvoidsRight}
use Rattle.core_loops.specs.Pairs.{AvoidsLets}
use Rattle.binding_users.specs.declared.users.Place.{Place}
use Rattle.binding_users.specs.declared.users.Place.TheVariants as noted
use Rattle.binding_users.specs.declared.users.Users.{Users}

-- the binding at this place uses the variable, and no other one does, nor do the results
pub record IsSoleUser (x : Var) (lets : List LetTerm) (results : List Var) (place : ℕ) : Type 0 where
  pub before : List LetTerm
  pub user : LetTerm
  pub after : List LetTerm
  pub whole : lets ≡ before ++ (user ∷ after)
  pub at : length before ≡ place
  pub used : AvoidsRight x user.right → ⊥
  pub others : AvoidsLets x before × AvoidsLets x after
  pub unreturned : AvoidsAll x results

-- the binding at this place uses the variable
pub record UsesAt (x : Var) (lets : List LetTerm) (place : ℕ) : Type 0 where
  pub user : LetTerm
  pub at : slice_get lets place ≡ Some user
  pub used : AvoidsRight x user.right → ⊥

-- the binding at a place may use the variable of which this is noted
abbrev pub may_use : Option Place → ℕ → Bool
may_use None place = false
may_use (Some (noted.One one)) place = nat_eq one place
may_use (Some (noted.Several one other)) place = true

-- the bindings at all other places avoid the variable
abbrev pub OthersAvoid : Var → List LetTerm → ℕ → Type 0
OthersAvoid x lets place = (q : ℕ) (l : LetTerm) → slice_get lets q ≡ Some l → (place ≡ q → ⊥) → AvoidsRight x l.right

module _ {S : Type 0} where
  -- by what is noted each binding that uses a variable may use it
  abbrev pub Covers : HashMap ℕ Place S → List LetTerm → Type 0
  Covers m lets = (x : Var) (place : ℕ) (l : LetTerm) → slice_get lets place ≡ Some l → may_use (get nat_eq m x.0) place ≡ false → AvoidsRight x l.right

  -- what may be a use stays one
  abbrev pub Grows : HashMap ℕ Place S → HashMap ℕ Place S → Type 0
  Grows m n = (x : Var) (place : ℕ) → may_use (get nat_eq n x.0) place ≡ false → may_use (get nat_eq m x.0) place ≡ false

-- once uses are noted, those of these bindings are
abbrev pub AreUsers : Users → List LetTerm → Type 0
AreUsers users lets = users.are_noted ≡ true → Covers users.places lets
