-- Lists of types and of values, element by element.
use Rattle.std.proofs.Common.{◌≡◌, ℕ, suc, ◌+◌, ◌<◌, List, [], ◌∷◌, length, drop, get_or, map, Bool, true, false, refl, sym, ap, ◌∙◌}
use Rattle.std.specs.Prelude.{◌&&◌}
use Rattle.std.proofs.lemmas.List.{length-map, drop_more}
use Rattle.sac_base.specs.declared.types.ArrayType.{ArrayType}
use Rattle.sac_base.specs.Arrays.{ArrayValue}
use Rattle.sac_base.specs.Types.{all_have, all_below, has, below}
use Rattle.counted_code.specs.Values.{Heap, read}
use Rattle.run_values.specs.declared.value.RunValue.{RunValue}
use Rattle.run_values.specs.Shown.{value_of}
use Rattle.run_types.specs.Reading.{arrays_in}

and_false : (b c : Bool) → c ≡ false → (b && c) ≡ false
and_false true c e = e
and_false false c e = refl

have_length : (tys : List ArrayType) (args : List ArrayValue) → (length tys ≡ length args → ⊥) → all_have tys args ≡ false
have_length [] [] h = absurd (h refl)
have_length [] (a ∷ args) h = refl
have_length (ty ∷ tys) [] h = refl
have_length (ty ∷ tys) (a ∷ args) h = and_false (has ty a) (all_have tys args) (have_length tys args (λ e. h (ap suc e)))

-- types that are not as many as values
pub none_have : (h : Heap) (tys : List ArrayType) (vs : List RunValue) → (length tys ≡ length vs → ⊥) → false ≡ all_have tys (arrays_in h vs)
none_have h tys vs other = sym (have_length tys (arrays_in h vs) (λ e. other (e ∙ length-map (map value_of vs) (read h) ∙ length-map vs value_of)))

pub below_length : (as' bs : List ArrayType) → (length as' ≡ length bs → ⊥) → all_below as' bs ≡ false
below_length [] [] h = absurd (h refl)
below_length [] (b ∷ bs) h = refl
below_length (a ∷ as') [] h = refl
below_length (a ∷ as') (b ∷ bs) h = and_false (below a b) (all_below as' bs) (below_length as' bs (λ e. h (ap suc e)))

-- what is left of a list, by its first element
pub left_from : {X : Type 0} (xs : List X) (k : ℕ) (x : X) → k < length xs → x ≡ get_or xs k x → drop k xs ≡ x ∷ drop (k + 1) xs
left_from xs k x h is = drop_more xs k x h ∙ ap (λ y. y ∷ drop (k + 1) xs) (sym is)

-- types and arrays by their first ones
module _ (tys more : List ArrayType) (args others : List ArrayValue) (ty : ArrayType) (a : ArrayValue) (by_type : tys ≡ ty ∷ more) (by_value : args ≡ a ∷ others) where
  split : all_have tys args ≡ (has ty a && all_have more others)
  split = λ i. all_have (by_type i) (by_value i)

  pub have_stops : false ≡ has ty a → false ≡ all_have tys args
  have_stops e = sym (split ∙ ap (λ b. b && all_have more others) (sym e))

  pub have_next : true ≡ has ty a → all_have more others ≡ all_have tys args
  have_next e = sym (split ∙ ap (λ b. b && all_have more others) (sym e))

pub have_end : (tys : List ArrayType) (args : List ArrayValue) → tys ≡ [] → args ≡ [] → true ≡ all_have tys args
have_end tys args no_type no_value = λ i. all_have (sym no_type i) (sym no_value i)
