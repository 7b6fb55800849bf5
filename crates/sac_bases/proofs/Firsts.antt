-- The first binding of a name.
use Rattle.std.proofs.Common.{◌≡◌, List, [], ◌∷◌, ◌++◌, Bool, true, false, Option, Some, None, refl, sym, ap, ◌∙◌, bytes_eq, if◌then◌else◌}
use Rattle.std.specs.Prelude.{find, option_map}
use Rattle.sac_base.specs.declared.base.Base.{Base}
use Rattle.sac_base.specs.declared.name.Name.{Name}
use Rattle.sac_ast.specs.declared.Known.{Known}
use Rattle.sac_ast.specs.Bases.{Bases, base_bound, base_of_name}
use Rattle.check_rules.specs.Accepted.{bind, bound_first, base_first}
use Rattle.check_rules.proofs.Places.{text_turned}
use Rattle.sac_bases.specs.Tables.{first_binding}

abbrev named : Name → Known → Bool
named name k = bytes_eq k.name name

-- one more binding of a name counts where there is none before
pub first_behind : (known : Bases) (name : Name) (b : Option Base) (other : Name)
    → bind name b (first_binding known) other ≡ first_binding (known ++ record { name = name; base = b } ∷ []) other
first_behind [] name b other = ap (λ c. if c then Some b else None) (text_turned other name) ∙ by (bytes_eq name other)
  where
    by : (c : Bool) → (if c then Some b else None) ≡ option_map (λ (k : Known). k.base) (if c then Some (record { name = name; base = b }) else None)
    by true = refl
    by false = refl
first_behind (k ∷ known) name b other = by (named other k) (bytes_eq other name) (first_behind known name b other)
  where
    by : (here c : Bool) → (if c then bound_first (first_binding known other) b else first_binding known other) ≡ first_binding (known ++ record { name = name; base = b } ∷ []) other
        → (if c then bound_first (option_map (λ (k : Known). k.base) (if here then Some k else find (named other) known)) b
        else option_map (λ (k : Known). k.base) (if here then Some k else find (named other) known))
        ≡ option_map (λ (k : Known). k.base) (if here then Some k else find (named other) (known ++ record { name = name; base = b } ∷ []))
    by true true h = refl
    by true false h = refl
    by false c h = h

pub first_is : (known : Bases) (name : Name) → base_first (first_binding known name) ≡ base_of_name known name
first_is known name = by (find (named name) known)
  where
    by : (r : Option Known) → base_first (option_map (λ (k : Known). k.base) r) ≡ base_bound r
    by None = refl
    by (Some k) = refl

-- a table with one more name holds one more binding
pub first_kept : (known after : Bases) (name copy : Name) (b : Option Base) (before now : Name → Option (Option Base))
    → now ≡ bind name b before → ((x : Name) → before x ≡ first_binding known x)
    → copy ≡ name → after ≡ known ++ record { name = copy; base = b } ∷ [] → (x : Name) → now x ≡ first_binding after x
first_kept known after name copy b before now put held same more x =
    ap (λ f. f x) put
    ∙ ap (λ f. bind name b f x) (λ i y. held y i)
    ∙ first_behind known name b x
    ∙ ap (λ n. first_binding (known ++ record { name = n; base = b } ∷ []) x) (sym same)
    ∙ ap (λ bindings. first_binding bindings x) (sym more)

pub items_grow : (known room after : Bases) (k : Known) (done : Bool) → done ≡ true → room ≡ known
    → after ≡ (if done then room ++ k ∷ [] else room) → after ≡ known ++ k ∷ []
items_grow known room after k done h e f = f ∙ ap (λ b. if b then room ++ k ∷ [] else room) h ∙ ap (λ bindings. bindings ++ k ∷ []) e
