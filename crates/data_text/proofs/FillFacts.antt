-- Generated shapes and cells.
use Rattle.std.proofs.Common.{◌≡◌, ℕ, zero, suc, ◌≤◌, List, ◌∷◌, ◌++◌, take, refl, ap, ◌∙◌, Some, Result, Ok, Err, ℤ, pos, negsuc, arith}
use Rattle.std.specs.Prelude.{replicate, option_map, unsigned_abs, ◌≤ℤ◌}
use Rattle.std.proofs.lemmas.Int.{ints}
use Rattle.std.proofs.lemmas.List.{take-replicate}
use Rattle.sac_base.specs.Arrays.{ArrayValue}
use Rattle.sac_base.specs.Parts.{naturals, short, shape_of_numbers}
use Rattle.data_text.specs.Texts.{Refusal}

naturals_copies : (r m : ℕ) → naturals (replicate r (pos m)) ≡ Some (replicate r m)
naturals_copies zero m = refl
naturals_copies (suc r) m = ap (option_map (λ others. m ∷ others)) (naturals_copies r m)

-- equal extents give a shape of their number
pub copies_shape : (r : ℕ) (z : ℤ) → r ≤ 8 → pos 0 ≤ℤ z → shape_of_numbers (Some (take r (replicate 8 z))) ≡ short (Some (replicate r (unsigned_abs z)))
copies_shape r (pos m) few natural = ap (λ zs. shape_of_numbers (Some zs)) (take-replicate r 8 (pos m) few) ∙ ap short (naturals_copies r m)
copies_shape r (negsuc m) few natural = absurd (omega (arith, ints))

-- arrays that were made, before the rest
abbrev pub made_before : List ArrayValue → Result (List ArrayValue) Refusal → Result (List ArrayValue) Refusal
made_before front (Ok rest) = Ok (front ++ rest)
made_before front (Err refusal) = Err refusal
