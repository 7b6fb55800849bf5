-- What a table of the bindings of names holds.
use Rattle.std.specs.Prelude.{◌≡◌, ℕ, List, Option, find, option_map, bytes_eq}
use Rattle.indexmap.specs.IndexMap.{IndexMap}
use Rattle.sac_base.specs.declared.base.Base.{Base}
use Rattle.sac_base.specs.declared.name.Name.{Name}
use Rattle.sac_ast.specs.declared.Known.{Known}
use Rattle.sac_ast.specs.Bases.{Bases}
use Rattle.check_rules.specs.Tables.{entered}
use denote.Ref.{Bor}

-- the base of a name's first binding, where there is one
abbrev pub first_binding : Bases → Name → Option (Option Base)
first_binding known name = option_map (λ (k : Known). k.base) (find (λ (k : Known). bytes_eq k.name name) known)

-- each name has its first binding there
abbrev pub HasFirst : {S : Type 0} → Bases → IndexMap (Bor (List ℕ)) (Option Base) S → Type 0
HasFirst known bases = (name : Name) → entered bases name ≡ first_binding known name
