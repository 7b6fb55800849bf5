-- What tables by names hold.
use Rattle.std.specs.Prelude.{ℕ, ◌≡◌, List, ◌&&◌, ◌||◌, Option, Some, bytes_eq, slice_get}
use Rattle.std.specs.List.{list_any}
use Rattle.indexmap.specs.IndexSet.{IndexSet, contains_by}
use Rattle.indexmap.specs.IndexMap.{IndexMap, get_by}
use Rattle.sac_base.specs.declared.base.Base.{Base}
use Rattle.sac_base.specs.declared.name.Name.{Name}
use Rattle.check_rules.specs.Accepted.{Names, Known}
use denote.Ref.{Bor}

-- the names in a list
abbrev pub among : List (Bor (List ℕ)) → Names
among texts name = list_any (λ k. bytes_eq name k.now) texts

-- the names of a set, and those that are in both of two others
abbrev pub with_common : Names → Names → Names → Names
with_common first second names name = names name || (first name && second name)

module _ {S : Type 0} where
  -- the names in a set
  abbrev pub has : IndexSet (Bor (List ℕ)) S → Names
  has names name = contains_by (λ k. bytes_eq name k.now) names

  -- what names are bound to
  abbrev pub entered : IndexMap (Bor (List ℕ)) (Option Base) S → Known
  entered known name = get_by (λ k. bytes_eq name k.now) known

  -- the place of a name
  abbrev pub place_of : IndexMap (Bor (List ℕ)) ℕ S → Name → Option ℕ
  place_of places name = get_by (λ k. bytes_eq name k.now) places

  -- each name of the list has its place there
  abbrev pub IsPlaced : List (Bor (List ℕ)) → IndexMap (Bor (List ℕ)) ℕ S → Type 0
  IsPlaced trail places = (k : ℕ) (text : Bor (List ℕ)) → slice_get trail k ≡ Some text → place_of places text.now ≡ Some k
