-- A right side and a function alone, in which each literal variable is bound by a constant, and each other check that cannot fail is a copy.
use Rattle.std.specs.Prelude.{◌≡◌, ℕ, Bool, true, false, List, [], Option}
use Rattle.sac_base.specs.declared.site.Site.{Site}
use Rattle.core_ir.specs.declared.tree.Var.{Var}
use Rattle.core_ir.specs.Terms.{RightTerm, LetTerm, FunTerm, Plain}
use Rattle.core_facts.specs.Facts.{Fact, Facts, plain_literal, right_facts}
use Rattle.core_facts.specs.Settled.{constant_or}
use Rattle.core_forms.specs.cleaning.Checks.{unchecked_plain, simplified}
use Rattle.core_facts.specs.constants.Called.{params_facts}

-- the constant in the place of a literal right side without blocks and calls; any other stays
abbrev pub literal_plain : RightTerm → Facts → RightTerm
literal_plain (Plain p) k = Plain (constant_or (plain_literal p k) p)
literal_plain r k = r

-- a copy in the place of a check that cannot fail
abbrev pub without_check : RightTerm → Facts → RightTerm
without_check (Plain p) k = Plain (unchecked_plain p k)
without_check r k = r

-- a right side without blocks and calls; any other stays
abbrev pub settled_plain : RightTerm → Facts → RightTerm
settled_plain (Plain p) k = Plain (unchecked_plain (constant_or (plain_literal p k) p) k)
settled_plain r k = r

abbrev pub is_plain : RightTerm → Bool
is_plain (Plain p) = true
is_plain r = false

module _ (called : ℕ → List (Option (List ℕ))) where
  -- what the walk does with a right side
  pub record SettleStep (k : Facts) (p q : Unit {0}) (xs : List Var) (s : Site) (r : RightTerm) (vs : List Fact) (ms : List LetTerm) (t : RightTerm)
      (ws : List Fact) : Type 0 where
    pub none : ms ≡ []
    pub settled : t ≡ settled_plain r k
    pub known : vs ≡ right_facts called r k → ws ≡ right_facts called t k

  abbrev pub settled_by : FunTerm → FunTerm
  settled_by f = record f { body = simplified called f.body (params_facts f) }
