-- Literals of words.
use Rattle.std.proofs.Common.{◌≡◌, ◌≤◌, ◌*◌, ℤ, Bool, true, List, [], ◌∷◌, length, map, Result, Ok, refl, ap, ◌∙◌, arith, le-leb, ◌&&◌, nat_le}
use Rattle.std.specs.List.{list_all}
use Rattle.std.proofs.lemmas.List.{length-map}
use Rattle.sac_base.specs.declared.base.Base.{Base}
use Rattle.sac_base.specs.declared.base.Base.TheVariants as base
use Rattle.sac_base.specs.declared.faults.FaultKind.{FaultKind}
use Rattle.sac_base.specs.declared.faults.FaultKind.TheVariants.{F3, F4, F8}
use Rattle.sac_base.specs.Arrays.{ArrayValue, MOST, scalar, vector, same_form}
use Rattle.sac_base.specs.Parts.{check, cells_of_all, literal}

same_words : (b : Base) (n k : ℤ) → same_form (scalar b n) (scalar b k) ≡ true
same_words base.Int n k = refl
same_words base.Bool n k = refl

all_same : (b : Base) (n : ℤ) (ks : List ℤ) → list_all (same_form (scalar b n)) (map (scalar b) ks) ≡ true
all_same b n [] = refl
all_same b n (k ∷ ks) = ap (λ t. t && list_all (same_form (scalar b n)) (map (scalar b) ks)) (same_words b n k) ∙ all_same b n ks

all_cells : (b : Base) (ks : List ℤ) → cells_of_all (map (scalar b) ks) ≡ ks
all_cells b [] = refl
all_cells b (k ∷ ks) = ap (λ rest. k ∷ rest) (all_cells b ks)

passed : {A : Type 0} (t : Bool) (kind : FaultKind) (next : Result A FaultKind) → t ≡ true → check t kind next ≡ next
passed t kind next is = ap (λ u. check u kind next) is

-- words of one base give the vector of them
pub literal_words : (b : Base) (n : ℤ) (ks : List ℤ) → length (n ∷ ks) ≤ 8 → literal (map (scalar b) (n ∷ ks)) ≡ Ok (vector b (n ∷ ks))
literal_words b n ks few =
    let size = length-map ks (scalar b) in
    let whole : Result ArrayValue FaultKind = Ok (record { base = b; shape = length (map (scalar b) (n ∷ ks)) ∷ []; cells = cells_of_all (map (scalar b) (n ∷ ks)) }) in
    let small : nat_le (length (map (scalar b) (n ∷ ks)) * 1) MOST ≡ true = le-leb (length (map (scalar b) (n ∷ ks)) * 1) MOST (omega (arith, size, few)) in
    passed (list_all (same_form (scalar b n)) (map (scalar b) ks)) F3 (check true F4 (check (nat_le (length (map (scalar b) (n ∷ ks)) * 1) MOST) F8 whole)) (all_same b n ks)
    ∙ passed (nat_le (length (map (scalar b) (n ∷ ks)) * 1) MOST) F8 whole small
    ∙ (λ i. Ok (record { base = b; shape = length-map (n ∷ ks) (scalar b) i ∷ []; cells = all_cells b (n ∷ ks) i }))
