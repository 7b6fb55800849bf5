-- The indices of a frame have as many components as the frame has axes.
use Rattle.std.proofs.Common.{◌≡◌, Bool, true, false, cond, ℤ, List, [], ◌∷◌, length, filter, All, inl, inr, refl, sym, map, arith}
use Rattle.std.proofs.lemmas.Bool.{cases_eq}
use Rattle.std.proofs.lemmas.List.Elements.{All-cons}
use Rattle.sac_base.specs.declared.grid.Grid1.{Grid1}
use Rattle.sac_base.specs.Grids.{box_indices, has_vector, members}
use Rattle.sac_base.proofs.GridFacts.{no_member}

member_long : (g : List Grid1) (v : List ℤ) → has_vector g v ≡ true → length v ≡ length g
member_long g v is =
    elim (cases_eq (length g) (length v)) [
      | inl same ↦ sym same
      | inr other ↦ absurd (let differs = no_member g v other in cc)
    ]

-- what is kept has what the test tells
all_kept : {A : Type 0} (p : A → Bool) (P : A → Type 0) → ((x : A) → p x ≡ true → P x) → (xs : List A) → All P (filter p xs)
all_kept p P tells [] = λ k d lt. absurd (omega (arith, lt))
all_kept p P tells (x ∷ xs) = by (p x) refl (all_kept p P tells xs)
  where
    by : (b : Bool) → p x ≡ b → All P (filter p xs) → All P (cond b (x ∷ filter p xs) (filter p xs))
    by true e rest = All-cons P x (filter p xs) (tells x e) rest
    by false e rest = rest

pub members_long : (frame : List Grid1) → All (λ index. length index ≡ length frame) (members frame)
members_long frame = all_kept (has_vector frame) (λ index. length index ≡ length frame) (member_long frame) (box_indices (map (λ axis. axis.lo) frame) (map (λ axis. axis.hi) frame))
