-- Values at a place.
use Rattle.std.proofs.Common.{◌≡◌, ℕ, List, map, drop, sym, ap, ◌∙◌, subst, ℤ, Option, Some}
use Rattle.std.specs.Borrow.{Bor}
use Rattle.std.specs.Slice.{IsItemAt}
use Rattle.std.proofs.lemmas.List.{drop_more, drop-map}
use Rattle.sac_base.specs.declared.base.Base.TheVariants.{Int}
use Rattle.sac_base.specs.Arrays.{scalar}
use Rattle.counted_code.specs.Machine.{first_of}
use Rattle.counted_code.specs.Values.{Value, Small}
use Rattle.run_values.specs.declared.value.RunValue.{RunValue}
use Rattle.run_values.specs.Shown.{value_of}

module _ {A : Type 0} (f : A → Value) (xs : List A) (k : ℕ) (o : Option (Bor A)) (found : IsItemAt xs k o) where
  there : (r : Bor A) → o ≡ Some r → f r.now ≡ first_of (drop k (map f xs))
  there r is =
      let item = subst (IsItemAt xs k) is found in
      ap f item.1 ∙ sym (ap first_of (drop-map f k xs ∙ ap (map f) (drop_more xs k r.now item.3.0)))

pub value_there : (vs : List RunValue) (k : ℕ) (o : Option (Bor RunValue)) → IsItemAt vs k o → (r : Bor RunValue) → o ≡ Some r → value_of r.now ≡ first_of (drop k (map value_of vs))
value_there vs k o found r is = there value_of vs k o found r is

pub component_there : (zs : List ℤ) (k : ℕ) (o : Option (Bor ℤ)) → IsItemAt zs k o → (r : Bor ℤ) → o ≡ Some r → Small (scalar Int r.now) ≡ first_of (drop k (map (λ z. Small (scalar Int z)) zs))
component_there zs k o found r is = there (λ z. Small (scalar Int z)) zs k o found r is
