-- The instances of a name among the functions of a program.
use Rattle.std.specs.Prelude.{◌≡◌, ℕ, suc, List, [], ◌∷◌, Bool, true, false, ◌&&◌, if◌then◌else◌, Option, Some, None, nat_lt, bytes_eq}
use Rattle.indexmap.specs.IndexMap.{IndexMap}
use Rattle.sac_base.specs.declared.base.Base.{Base}
use Rattle.sac_base.specs.declared.name.Name.{Name}
use Rattle.sac_base.specs.Arrays.{same_base}
use Rattle.sac_ast.specs.declared.Function.{Function}
use Rattle.sac_ast.specs.Tree.{FunctionTree}
use Rattle.sac_ast.specs.View.{functions}
use Rattle.sac_ast.specs.Bases.{counts_beside, bases_of_params}
use Rattle.check_rules.specs.Accepted.{is_named}
use Rattle.check_rules.specs.Tables.{place_of}
use denote.Ref.{Bor}

abbrev pub next_place : Option ℕ → Option ℕ
next_place None = None
next_place (Some k) = Some (suc k)

abbrev pub or_here : Option ℕ → Bool → Option ℕ
or_here (Some k) here = Some (suc k)
or_here None true = Some 0
or_here None false = None

-- the first place at which a test holds
abbrev pub first_place : {A : Type 0} → (A → Bool) → List A → Option ℕ
first_place test [] = None
first_place test (x ∷ xs) = if test x then Some 0 else next_place (first_place test xs)

-- the last place at which a test holds
abbrev pub last_place : {A : Type 0} → (A → Bool) → List A → Option ℕ
last_place test [] = None
last_place test (x ∷ xs) = or_here (last_place test xs) (test x)

abbrev pub is_below : Option ℕ → ℕ → Bool
is_below None n = true
is_below (Some k) n = nat_lt k n

-- the places of names, with one more: the first, or the last, of a name counts
abbrev pub kept_first : Option ℕ → ℕ → Option ℕ
kept_first None k = Some k
kept_first (Some j) k = Some j

abbrev pub with_first : Name → ℕ → (Name → Option ℕ) → Name → Option ℕ
with_first name k places other = if bytes_eq name other then kept_first (places other) k else places other

abbrev pub with_last : Name → ℕ → (Name → Option ℕ) → Name → Option ℕ
with_last name k places other = if bytes_eq name other then Some k else places other

-- each name has the place of its first instance in one table, and that of its last in the other
abbrev pub IsFirst : {S : Type 0} → List Function → IndexMap (Bor (List ℕ)) ℕ S → Type 0
IsFirst fs places = (name : Name) → place_of places name ≡ first_place (is_named name) (functions fs)

abbrev pub IsLast : {S : Type 0} → List Function → IndexMap (Bor (List ℕ)) ℕ S → Type 0
IsLast fs places = (name : Name) → place_of places name ≡ last_place (is_named name) (functions fs)

abbrev pub is_known : Base → Option Base → Bool
is_known wanted None = false
is_known wanted (Some b) = same_base wanted b

-- the same bases, place by place
abbrev pub has_each : List Base → List (Option Base) → Bool
has_each [] [] = true
has_each (a ∷ wanted) (b ∷ bs) = is_known a b && has_each wanted bs
has_each [] (b ∷ bs) = false
has_each (a ∷ wanted) [] = false

-- a function of the name that counts beside the first of its name, with parameters of these bases
abbrev pub takes_beside : Option FunctionTree → Name → List (Option Base) → FunctionTree → Bool
takes_beside first name bs f = bytes_eq f.name name && counts_beside first f && has_each (bases_of_params f) bs
