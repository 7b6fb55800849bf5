-- The body of a merged part, built of a copy.
use Rattle.std.specs.Prelude.{ℕ, suc, List, [], ◌∷◌, ◌++◌, pos}
use Rattle.sac_base.specs.declared.base.Base.TheVariants.{Int}
use Rattle.sac_base.specs.declared.site.Site.{Site}
use Rattle.sac_base.specs.Arrays.{scalar}
use Rattle.core_ir.specs.declared.tree.Var.{Var}
use Rattle.core_ir.specs.Terms.{PlainTerm, BlockTerm, PartsTerm, LetTerm, PartHead, Plain, NoParts, Part, chain}
use Rattle.core_subst.specs.copy.Mapped.{mapped}

-- the components of u from the j-th on, each by a constant and a selection
abbrev pub picks : Site → Var → ℕ → List Var → List Var → List LetTerm
picks s u j (x ∷ xs) (c ∷ cs) =
    record { targets = c ∷ []; site = s; right = Plain (PlainTerm.Const (scalar Int (pos j))) } ∷
    record { targets = x ∷ []; site = s; right = Plain (PlainTerm.Select u c) } ∷ picks s u (suc j) xs cs
picks s u j _ _ = []

-- the two old indices, made of the new one
abbrev pub index_lets : Site → Var → List Var → List Var → List Var → Var → Var → List LetTerm
index_lets s u front back cs i l =
    picks s u 0 (front ++ back) cs ++
    (record { targets = i ∷ []; site = s; right = Plain (PlainTerm.Literal front) } ∷
    record { targets = l ∷ []; site = s; right = Plain (PlainTerm.Literal back) } ∷ [])

-- a copy of the outer bindings and of an inner part's body, with f x for each variable x, behind bindings that make the two old indices
abbrev pub merged_body : Site → Var → List Var → List Var → List Var → (Var → Var) → Var → Var → List LetTerm → BlockTerm → BlockTerm
merged_body s u front back cs f outer inner lets c =
    chain (index_lets s u front back cs (f outer) (f inner)) (mapped f (chain lets c))

-- each part is so
abbrev pub AllParts : (PartHead → BlockTerm → Type 0) → PartsTerm → Type 0
AllParts P NoParts = Unit {0}
AllParts P (Part h b rest) = P h b × AllParts P rest
