-- The new core that a plan tells.
use Rattle.std.specs.Prelude.{◌≡◌, ℕ, suc, ◌<◌, List, [], ◌∷◌, map, length, Contains, Some, slice_get, All}
use Rattle.std.specs.List.Sorted.{IsNonDecreasingBy}
use Rattle.core_ir.specs.Terms.{FunTerm, CoreTerm}
use Rattle.specialise.specs.declared.order.Key.{Key}
use Rattle.specialise.specs.Plans.{Entry, function_at}

abbrev pub numbers : List Key → List ℕ
numbers keys = map (λ (k : Key). k.number) keys

-- a key of each entry, numbered from a number on
abbrev pub keys_from : ℕ → List Entry → List Key
keys_from n [] = []
keys_from n (e ∷ es) = record { source = e.source; number = n } ∷ keys_from (suc n) es

-- a number of each entry, with its source
pub record AreKeys (es : List Entry) (keys : List Key) : Type 0 where
  pub told : All (λ (k : Key). (e : Entry) × ((slice_get es k.number ≡ Some e) × (k.source ≡ e.source))) keys
  pub count : length keys ≡ length es
  pub all : (n : ℕ) → n < length es → (k : Key) × (Contains keys k × (k.number ≡ n))

abbrev pub Sorted : List Key → Type 0
Sorted keys = IsNonDecreasingBy (λ (k : Key). k.source) keys

-- each number in the list stands where the places say
abbrev pub IsInverse : List ℕ → List ℕ → Type 0
IsInverse order places =
    (i n : ℕ) → slice_get order i ≡ Some n → n < length order → (place : ℕ) × ((slice_get places n ≡ Some place) × (slice_get order place ≡ Some n))

-- the functions of the entries in an order by their sources, and groups and main by their places there
pub record IsBuilt (core : CoreTerm) (es : List Entry) (gs : List (List ℕ)) (main : ℕ) (new : CoreTerm) : Type 0 where
  pub keys : List Key
  pub places : List ℕ
  pub are : AreKeys es keys
  pub sorted : Sorted keys
  pub inverse : IsInverse (numbers keys) places
  pub functions : map (λ f. Some f) new.functions ≡ map (function_at core es) (numbers keys)
  pub groups : map (map (λ n. Some n)) new.groups ≡ map (map (slice_get places)) gs
  pub main_is : Some new.main ≡ slice_get places main
