-- Notes under a map: a table whose notes are shown as others.
use Rattle.std.proofs.Common.{◌≡◌, ℕ, zero, suc, ◌-◌, Bool, true, false, cond, eqb, List, [], ◌∷◌, map, length, Option, None, refl, sym, ap, ◌∙◌}
use Rattle.std.specs.Prelude.{drop}
use Rattle.core_ir.specs.declared.tree.Var.{Var}
use Rattle.fact_table.specs.scoped_table.Notes.{Note, noted}

-- `of` is what a note says of its variable, and `all` what notes say of variables, the latest first
module _ {V F : Type 0} (of : Option V → F) (all : List (Note V) → Var → F) (ends : (x : Var) → of None ≡ all [] x) (begins : (n : Note V) (ns : List (Note V)) (x : Var) → all (n ∷ ns) x ≡ cond (eqb n.variable.0 x.0) (of n.value) (all ns x)) where
  chosen : (same : Bool) (value rest : Option V) (said : F) → of rest ≡ said → of (cond same value rest) ≡ cond same (of value) said
  chosen true value rest said e = refl
  chosen false value rest said e = e

  -- the latest note of a variable says what is said of it
  pub found : (ns : List (Note V)) (x : Var) → of (noted ns x) ≡ all ns x
  found [] x = ends x
  found (n ∷ ns) x = chosen (eqb n.variable.0 x.0) n.value (noted ns x) (all ns x) (found ns x) ∙ sym (begins n ns x)

module _ {A B : Type 0} (f : A → B) where
  count : (ns : List A) → length ns ≡ length (map f ns)
  count [] = refl
  count (n ∷ ns) = ap suc (count ns)

  dropped : (k : ℕ) (ns : List A) → map f (drop k ns) ≡ drop k (map f ns)
  dropped zero ns = refl
  dropped (suc k) [] = refl
  dropped (suc k) (n ∷ ns) = dropped k ns

  -- all behind a mark goes from both
  pub undone : (mark : ℕ) (old : List A) → map f (drop (length old - mark) old) ≡ drop (length (map f old) - mark) (map f old)
  undone mark old = dropped (length old - mark) old ∙ ap (λ n. drop (n - mark) (map f old)) (count old)
