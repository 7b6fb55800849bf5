-- What words stand for.
use Rattle.std.specs.Prelude.{ℕ, ◌+◌, ◌*◌, ◌-◌, ◌^◌, Bool, true, false, not, ◌&&◌, ◌==◌, if◌then◌else◌, nat_lt, List, [], ◌∷◌, Option, Some, None}
use Rattle.std.specs.Prelude.{option_map, length, codes, bytes_eq, ℤ, pos, negsuc, neg_ℤ}
use Rattle.std.specs.Str.{all_ascii_digits}
use Rattle.sac_base.specs.declared.base.Base.{Base}
use Rattle.sac_base.specs.declared.base.Base.TheVariants.{Int, Bool as Truth}

-- the number that digits stand for in base ten, after the number so far
abbrev pub value_after : ℕ → List ℕ → ℕ
value_after n [] = n
value_after n (c ∷ cs) = value_after (10 * n + (c - 48)) cs

abbrev pub is_numeral : List ℕ → Bool
is_numeral ds = not (length ds == 0) && all_ascii_digits ds

-- the number that one or more digits stand for
abbrev pub numeral : List ℕ → Option ℕ
numeral ds = if is_numeral ds then Some (value_after 0 ds) else None

-- the same with an optional minus sign, as a whole number
abbrev pub signed_numeral : List ℕ → Option ℤ
signed_numeral [] = None
signed_numeral (b ∷ bs) = if b == 45 then option_map (λ n. neg_ℤ (pos n)) (numeral bs) else option_map pos (numeral (b ∷ bs))

abbrev pub truth_text : Bool → List ℕ
truth_text true = codes "true"
truth_text false = codes "false"

abbrev pub truth_value : List ℕ → Option ℤ
truth_value w = if bytes_eq w (truth_text true) then Some (pos 1) else (if bytes_eq w (truth_text false) then Some (pos 0) else None)

-- the element that a word stands for
abbrev pub element : Base → List ℕ → Option ℤ
element Int w = signed_numeral w
element Truth w = truth_value w

abbrev pub base_text : Base → List ℕ
base_text Int = codes "int"
base_text Truth = codes "bool"

abbrev pub base_named : List ℕ → Option Base
base_named w = if bytes_eq w (base_text Int) then Some Int else (if bytes_eq w (base_text Truth) then Some Truth else None)

-- the number is from -2,147,483,648 to 2,147,483,647
abbrev pub in_range : ℤ → Bool
in_range (pos n) = nat_lt n (2 ^ 31)
in_range (negsuc n) = nat_lt n (2 ^ 31)
