-- The first parted loop of a block, and the bindings around it.
use Rattle.std.specs.Prelude.{Bool, true, false, if◌then◌else◌, List, [], ◌∷◌, map, option_map, Option, Some, None}
use Rattle.sac_base.specs.declared.site.Site.{Site}
use Rattle.core_ir.specs.declared.tree.Var.{Var}
use Rattle.core_ir.specs.Terms.{BlockTerm, RightTerm, LetTerm, Gives, Bind}
use Rattle.core_ir.specs.View.{let_term, parted_term}
use Rattle.merge_plans.specs.declared.finding.Nest.{Nest}

pub record Opened : Type 0 where
  pub before : List LetTerm
  pub targets : List Var
  pub site : Site
  pub right : RightTerm
  pub after : List LetTerm
  pub results : List Var

-- the bindings of a block, and its results
abbrev pub lets_of : BlockTerm → List LetTerm
lets_of (Gives xs) = []
lets_of (Bind xs s r b) = record { targets = xs; site = s; right = r } ∷ lets_of b

abbrev pub results_of : BlockTerm → List Var
results_of (Gives xs) = xs
results_of (Bind xs s r b) = results_of b

abbrev pub is_parted : RightTerm → Bool
is_parted (RightTerm.Parted frame base cell op parts) = true
is_parted _ = false

-- with one binding more before it
abbrev pub behind : LetTerm → Opened → Opened
behind l o = record o { before = l ∷ o.before }

-- the first binding of a parted loop, with all before it and after it
abbrev pub opened : BlockTerm → Option Opened
opened (Gives xs) = None
opened (Bind xs s r b) =
    if is_parted r then Some (record { before = []; targets = xs; site = s; right = r; after = lets_of b; results = results_of b })
    else option_map (behind (record { targets = xs; site = s; right = r })) (opened b)

-- what the code finds
abbrev pub nest_term : Nest → Opened
nest_term n = record {
  before = map let_term n.before.now;
  targets = n.targets.now;
  site = n.site;
  right = parted_term n.inner.now;
  after = map let_term n.after.now;
  results = n.results.now;
}
