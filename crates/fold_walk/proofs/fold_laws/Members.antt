-- Pieces without members do not count.
use Rattle.std.proofs.Common.{◌≡◌, ℕ, ◌+◌, ◌%◌, ◌<◌, Bool, true, false, ◌&&◌, cond, nat_lt, List, [], ◌∷◌, map, refl, sym, ap, ◌∙◌, inl, inr, arith, ℤ, pos}
use Rattle.std.specs.Prelude.{filter, unsigned_abs, ◌-ℤ◌, ◌≤ℤ◌, ◌<ℤ◌}
use Rattle.std.proofs.lemmas.Bool.Decides.{nat_tests}
use Rattle.std.proofs.lemmas.Int.{ints}
use Rattle.std.proofs.Math.Nat.{zero-mod}
use Rattle.sac_base.specs.declared.grid.Grid1.{Grid1}
use Rattle.sac_base.specs.Grids.{has_index, has_vector, times_vector, SplitsVectors}
use Rattle.sac_base.proofs.GridFacts.{has_facts}
use Rattle.grid_sets.proofs.Keeping.{count_cons}
use Rattle.core_forms.proofs.inlined_bodies.Names.{clash}
use Rattle.fold_pieces.specs.declared.keeping.FoldPiece.{FoldPiece}
use Rattle.fold_pieces.specs.Kept.{grids_in}
use Rattle.generator_sets.specs.Pieces.{lows}
use Rattle.fold_walk.specs.fold_laws.Made.{has_members, numbered_grid}

above_zero : (z : ℤ) → pos 1 ≤ℤ z → 0 < unsigned_abs z
above_zero z h = omega (arith, ints)

no_gap : (z : ℤ) → unsigned_abs (z -ℤ z) ≡ 0
no_gap z = omega (arith, ints)

lower : (a x b : ℤ) → a ≤ℤ x → x <ℤ b → a <ℤ b
lower a x b p q = omega (arith, ints, p, q)

not_below : (a b : ℤ) → a <ℤ b → a <ℤ a → ⊥
not_below a b h k = omega (arith, ints, k)

not_beyond : (a b : ℤ) → a <ℤ b → b ≤ℤ a → ⊥
not_beyond a b h k = omega (arith, ints, h, k)

is_less : (n : ℕ) → 0 < n → nat_lt 0 n ≡ true
is_less n h = grind (arith, nat_tests)

-- where an axis has a member its first number is one
first_index : (g : Grid1) (x : ℤ) → has_index g x ≡ true → has_index g g.lo ≡ true
first_index g x h = elim (has_facts g x g.wide) [
  | inr n ↦ clash (has_index g x) h n.1
  | inl y ↦
      let room = lower g.lo x g.hi y.0 y.1 in
      elim (has_facts g g.lo g.wide) [
        | inl z ↦ z.2 ∙ (λ i. nat_lt (no_gap g.lo i % unsigned_abs g.step) (unsigned_abs g.width)) ∙ (λ i. nat_lt (zero-mod (unsigned_abs g.step) i) (unsigned_abs g.width)) ∙ is_less (unsigned_abs g.width) (above_zero g.width g.wide)
        | inr n ↦ absurd (elim n.0 [
          | inl k ↦ not_below g.lo g.hi room k
          | inr k ↦ not_beyond g.lo g.hi room k
        ])
      ]
]

both : (a b : Bool) → (a && b) ≡ true → (a ≡ true) × (b ≡ true)
both true b h = (refl, h)
both false b h = clash false h refl

pub first_vector : (g : List Grid1) (v : List ℤ) → has_vector g v ≡ true → has_vector g (lows g) ≡ true
first_vector [] [] h = refl
first_vector [] (x ∷ v) h = clash false h refl
first_vector (a ∷ g) [] h = clash false h refl
first_vector (a ∷ g) (x ∷ v) h =
    let w = both (has_index a x) (has_vector g v) h in
    λ i. first_index a x w.0 i && first_vector g v w.1 i

no_members : (p : FoldPiece) (v : List ℤ) → has_members p ≡ false → has_vector p.grid v ≡ false
no_members p v e = go (has_vector p.grid v) refl
  where
    go : (b : Bool) → has_vector p.grid v ≡ b → has_vector p.grid v ≡ false
    go true h = clash (has_members p) (first_vector p.grid v h) e
    go false h = h

abbrev pub kept : List FoldPiece → List FoldPiece
kept pieces = filter has_members pieces

pub times_cons : (g : List Grid1) (gs : List (List Grid1)) (v : List ℤ) → times_vector (g ∷ gs) v ≡ cond (has_vector g v) 1 0 + times_vector gs v
times_cons g gs v = count_cons (λ q. has_vector q v) g gs

zero_more : (n : ℕ) → 0 + n ≡ n
zero_more n = omega arith

kept_times : (ps : List FoldPiece) (v : List ℤ) → times_vector (grids_in (kept ps)) v ≡ times_vector (grids_in ps) v
kept_times [] v = refl
kept_times (p ∷ ps) v = go (has_members p) refl (kept_times ps v)
  where
    go : (b : Bool) → has_members p ≡ b → times_vector (grids_in (kept ps)) v ≡ times_vector (grids_in ps) v → times_vector (grids_in (cond (has_members p) (p ∷ kept ps) (kept ps))) v ≡ times_vector (grids_in (p ∷ ps)) v
    go true e rec =
        (λ i. times_vector (grids_in (cond (e i) (p ∷ kept ps) (kept ps))) v)
        ∙ times_cons p.grid (grids_in (kept ps)) v ∙ ap (λ n. cond (has_vector p.grid v) 1 0 + n) rec ∙ sym (times_cons p.grid (grids_in ps) v)
    go false e rec =
        (λ i. times_vector (grids_in (cond (e i) (p ∷ kept ps) (kept ps))) v)
        ∙ rec ∙ sym (times_cons p.grid (grids_in ps) v ∙ (λ i. cond (no_members p v e i) 1 0 + times_vector (grids_in ps) v) ∙ zero_more (times_vector (grids_in ps) v))

pub kept_splits : (ps : List FoldPiece) (set : List ℤ → Bool) → SplitsVectors (grids_in ps) set → SplitsVectors (grids_in (kept ps)) set
kept_splits ps set h v = kept_times ps v ∙ h v

-- the grids of the pieces
pub grids_of_numbered : (ps : List FoldPiece) → map (λ (g : List Grid1 × List ℕ). g.0) (map numbered_grid ps) ≡ grids_in ps
grids_of_numbered [] = refl
grids_of_numbered (p ∷ ps) = ap (λ gs. p.grid ∷ gs) (grids_of_numbered ps)

more_zero : (n : ℕ) → n + 0 ≡ n
more_zero n = omega arith

pub one_splits : (g : List Grid1) → SplitsVectors (g ∷ []) (has_vector g)
one_splits g v = times_cons g [] v ∙ more_zero (cond (has_vector g v) 1 0)
