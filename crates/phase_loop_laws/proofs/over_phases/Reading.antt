-- Variables in a heap where another array stands in the buffer of one of them.
use Rattle.std.proofs.Common.{◌≡◌, ℕ, ◌<◌, ◌≤◌, Bool, true, false, cond, eqb, List, [], ◌∷◌, length, take, ℤ, refl, ap, ◌∙◌, sym, subst}
use Rattle.std.specs.Prelude.{◌||◌}
use Rattle.std.proofs.lemmas.Bool.{eq-eqb}
use Rattle.sac_base.specs.declared.base.Base.{Base}
use Rattle.sac_base.specs.declared.base.Base.TheVariants.{Int}
use Rattle.sac_base.specs.Arrays.{ArrayValue, IsFull, size, vector}
use Rattle.sac_base.specs.Parts.{select}
use Rattle.sac_base.specs.Places.{vector_at}
use Rattle.core_ir.specs.declared.tree.Var.{Var}
use Rattle.core_ir.specs.Binders.{is_in}
use Rattle.core_ir.specs.Meaning.{Env, bind}
use Rattle.core_ir.proofs.Variables.{same_number, or_right}
use Rattle.counted_code.specs.Machine.{Values}
use Rattle.counted_code.specs.Values.{Heap, Value, Small, Ref, read, count_of, cells_of}
use Rattle.counted_laws.specs.Simulation.{AllBacked, Backed, Shows}
use Rattle.phase_loop_laws.proofs.mark_laws.Places.{own_element}
use Rattle.phase_loop_laws.specs.over_phases.Own.{SameButAt}
use Rattle.phase_loop_laws.specs.over_phases.Statements.{IsApart}
use Rattle.phase_loop_laws.proofs.over_phases.Writing.{Before}

-- ---- lists of variables

or_left : (s t : Bool) → s ≡ true → (s || t) ≡ true
or_left true t e = refl
or_left false t e = absurd (cc)

itself : (x : Var) (xs : List Var) → is_in x (x ∷ xs) ≡ true
itself x xs = or_left (eqb x.0 x.0) (is_in x xs) (eq-eqb x.0 x.0 refl)

later : (x y : Var) (xs : List Var) → is_in y xs ≡ true → is_in y (x ∷ xs) ≡ true
later x y xs is = or_right (eqb x.0 y.0) (is_in y xs) is

pub shown : (h : Heap) (e : Values) (ρ : Env) (xs : List Var) (v : Var) → Shows h e ρ xs → is_in v xs ≡ true → read h (e v) ≡ ρ v
shown h e ρ [] v shows is = absurd (cc)
shown h e ρ (x ∷ xs) v shows is = go (eqb x.0 v.0) refl is (shown h e ρ xs v shows.1)
  where
    go : (same : Bool) → eqb x.0 v.0 ≡ same → (same || is_in v xs) ≡ true → (is_in v xs ≡ true → read h (e v) ≡ ρ v) → read h (e v) ≡ ρ v
    go true same is behind = let one = same_number x v same in sym (λ i. read h (e (one i))) ∙ shows.0 ∙ ap ρ one
    go false same is behind = behind is

one_of : (b n : ℕ) → cond (eqb b b) 1 0 ≤ n → 1 ≤ n
one_of b n le = subst (λ t. cond t 1 0 ≤ n) (eq-eqb b b refl) le

-- ---- the heaps

module _ (m : Heap) (e : Values) (ρ : Env) (v : Var) (b : ℕ) (sole : count_of m b ≡ 1) (old : Base) (shape : List ℕ) (is : e v ≡ Ref b old shape) where
  -- the array that stands in the buffer now
  abbrev pub now : Heap → ArrayValue
  now k = record { base = old; shape = shape; cells = cells_of k b }

  abbrev pub env_at : Heap → Env
  env_at k = bind ρ v (now k)

  module _ (p : ℕ) (k : Heap) (before : Before b m sole p k) where
    pub backed_at : (live : List Var) → AllBacked (λ c. count_of m c) e live → AllBacked (λ c. count_of k c) e live
    backed_at live backed = subst (λ (counts : ℕ → ℕ). AllBacked counts e live) (λ i c. sym (before.counts c) i) backed

    reads_apart : (u : Value) → IsApart b u → Backed (λ c. count_of m c) u → read k u ≡ read m u
    reads_apart (Small a) apart backed = refl
    reads_apart (Ref c base ns) apart backed =
        λ i. record { base = base; shape = ns; cells = (before.buffers c apart (one_of c (count_of m c) (backed c)) i).cells }

    pub shows_at : (xs : List Var) → ((y : Var) → is_in y xs ≡ true → eqb v.0 y.0 ≡ false → IsApart b (e y)) → AllBacked (λ c. count_of m c) e xs → Shows m e ρ xs → Shows k e (env_at k) xs
    shows_at [] apart backed shows = tt
    shows_at (x ∷ xs) apart backed shows =
        (go (eqb v.0 x.0) refl, shows_at xs (λ y member. apart y (later x y xs member)) backed.1 shows.1)
      where
        go : (same : Bool) → eqb v.0 x.0 ≡ same → read k (e x) ≡ cond {A = ArrayValue} same (now k) (ρ x)
        go true same = (λ i. read k (e (sym (same_number v x same) i))) ∙ ap (read k) is
        go false same = reads_apart (e x) (apart x (itself x xs) same) backed.0 ∙ shows.0

    -- what a cell at the place reads of the array is what it read before
    module _ (live : List Var) (inside : is_in v live ≡ true) (shows : Shows m e ρ live) (long : length (cells_of m b) ≡ size shape) (w : List ℤ) (lt : p < size shape) (at : w ≡ vector_at shape p) where
      array_now : env_at k v ≡ now k
      array_now = ap (λ t. cond {A = ArrayValue} t (now k) (ρ v)) (eq-eqb v.0 v.0 refl)

      array_then : ρ v ≡ now m
      array_then = sym (shown m e ρ live v shows inside) ∙ ap (read m) is

      pub same_but : SameButAt v w ρ (env_at k)
      same_but = record {
        others = λ y apart. ap (λ t. cond {A = ArrayValue} t (now k) (ρ y)) apart;
        element = ap (λ a. select a (vector Int w)) array_now ∙ own_element old shape p w (cells_of k b) (cells_of m b) lt at (ap (take 1) before.left) ∙ sym (ap (λ a. select a (vector Int w)) array_then);
        base = ap (λ (a : ArrayValue). a.base) array_now ∙ sym (ap (λ (a : ArrayValue). a.base) array_then);
        shape = ap (λ (a : ArrayValue). a.shape) array_now ∙ sym (ap (λ (a : ArrayValue). a.shape) array_then);
        full = subst IsFull (sym array_now) (before.long ∙ long);
      }
