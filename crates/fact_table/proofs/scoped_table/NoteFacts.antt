-- Notes, as slots and a trail hold them.
use Rattle.std.proofs.Common.{◌≡◌, ℕ, suc, ◌-◌, ◌<◌, ◌≤◌, Bool, true, false, cond, eqb, List, [], ◌∷◌, ◌++◌, length, reverse, Option, refl, ap, ◌∙◌, sym, subst, arith}
use Rattle.std.specs.Prelude.{drop}
use Rattle.std.proofs.lemmas.Bool.{eqb-true, eq-eqb}
use Rattle.std.proofs.lemmas.List.{reverse-append, length-reverse}
use Rattle.core_ir.specs.declared.tree.Var.{Var}
use Rattle.fact_table.specs.declared.scoped_table.table.Hidden.{Hidden}
use Rattle.fact_table.specs.scoped_table.Notes.{Note, noted}
use Rattle.fact_table.specs.scoped_table.Slots.{with_entry, notes, Rests}

same_var : (x y : Var) → x.0 ≡ y.0 → x ≡ y
same_var x y p = λ i. record { 0 = p i }

none_below : (n : ℕ) → n < 0 → ⊥
none_below n less = omega (arith, less)

module _ {T : Type 0} where
  -- the latest note of a variable is what stands in its slot
  noted_in : (made : Var → Type 0) (k : Var → Option T) (rest : List (Hidden T)) → Rests made k rest → (x : Var) → k x ≡ noted (notes k rest) x
  noted_in made k [] r x = r x
  noted_in made k (h ∷ rest) r x = go (noted_in made (with_entry k h.variable h.entry) rest r.1 x) (eqb h.variable.0 x.0) refl
    where
      go : with_entry k h.variable h.entry x ≡ noted (notes (with_entry k h.variable h.entry) rest) x → (same : Bool) → eqb h.variable.0 x.0 ≡ same
          → k x ≡ cond same (k h.variable) (noted (notes (with_entry k h.variable h.entry) rest) x)
      go behind true e = ap k (same_var x h.variable (sym (eqb-true h.variable.0 x.0 e)))
      go behind false e = ap (λ t. cond t h.entry (k x)) (sym e) ∙ behind

  pub found : (made : Var → Type 0) (k : Var → Option T) (us : List (Hidden T)) (v : List (Note T)) → Rests made k (reverse us) → notes k (reverse us) ≡ v → (x : Var) → k x ≡ noted v x
  found made k us v r view x = noted_in made k (reverse us) r x ∙ ap (λ (ns : List (Note T)). noted ns x) view

  -- as many notes as the trail is long
  as_many : (k : Var → Option T) (rest : List (Hidden T)) → length rest ≡ length (notes k rest)
  as_many k [] = refl
  as_many k (h ∷ rest) = ap suc (as_many (with_entry k h.variable h.entry) rest)

  pub counted : (k : Var → Option T) (us : List (Hidden T)) (v : List (Note T)) → notes k (reverse us) ≡ v → length us ≡ length v
  counted k us v view = sym (length-reverse us) ∙ as_many k (reverse us) ∙ ap length view

  -- more slots
  pub further : (made more : Var → Type 0) (k : Var → Option T) (rest : List (Hidden T)) → ((x : Var) → made x → more x) → Rests made k rest → Rests more k rest
  further made more k [] keeps r = r
  further made more k (h ∷ rest) keeps r = (keeps h.variable r.0, further made more (with_entry k h.variable h.entry) rest keeps r.1)

  latest : (us ts : List (Hidden T)) (h : Hidden T) → us ≡ ts ++ h ∷ [] → reverse us ≡ h ∷ reverse ts
  latest us ts h is = ap reverse is ∙ reverse-append ts (h ∷ [])

  -- ---- one note more

  restored : (k : Var → Option T) (x : Var) (o : Option T) → with_entry (with_entry k x o) x (k x) ≡ k
  restored k x o = λ j y. go y (eqb x.0 y.0) refl j
    where
      go : (y : Var) (same : Bool) → eqb x.0 y.0 ≡ same → cond same (k x) (cond same o (k y)) ≡ k y
      go y true e = ap k (same_var x y (eqb-true x.0 y.0 e))
      go y false e = refl

  -- a slot gets an entry, and what stood there is hidden
  module _ (k reached now : Var → Option T) (x : Var) (o hidden : Option T) (same : reached ≡ k) (put : now ≡ with_entry reached x o) (hid : hidden ≡ reached x) where
    -- and back again
    pub back : (again : Var → Option T) → again ≡ with_entry now x hidden → again ≡ k
    back again e = e ∙ (λ i. with_entry (put i) x (hid i)) ∙ restored reached x o ∙ same

    seen : now x ≡ o
    seen = ap (λ (g : Var → Option T). g x) put ∙ ap (λ t. cond t o (reached x)) (eq-eqb x.0 x.0 refl)

    pub learned : (us ts : List (Hidden T)) (v : List (Note T)) → us ≡ ts ++ record { variable = x; entry = hidden } ∷ [] → notes k (reverse ts) ≡ v → notes now (reverse us) ≡ record { variable = x; value = o } ∷ v
    learned us ts v is view =
        ap (notes now) (latest us ts (record { variable = x; entry = hidden }) is)
        ∙ (λ i. record { variable = x; value = seen i } ∷ notes (back (with_entry now x hidden) refl i) (reverse ts))
        ∙ ap (λ (ns : List (Note T)). record { variable = x; value = o } ∷ ns) view

    pub rests_learned : (made more : Var → Type 0) (us ts : List (Hidden T)) → us ≡ ts ++ record { variable = x; entry = hidden } ∷ [] → ((y : Var) → made y → more y) → more x
        → Rests made k (reverse ts) → Rests more now (reverse us)
    rests_learned made more us ts is keeps there r =
        subst (Rests more now) (sym (latest us ts (record { variable = x; entry = hidden }) is))
        (there, subst (λ (g : Var → Option T). Rests more g (reverse ts)) (sym (back (with_entry now x hidden) refl)) (further made more k (reverse ts) keeps r))

  -- the slots are as before, but perhaps more
  pub rests_kept : (made more : Var → Type 0) (k again : Var → Option T) (us ts : List (Hidden T)) → again ≡ k → us ≡ ts → ((y : Var) → made y → more y)
      → Rests made k (reverse ts) → Rests more again (reverse us)
  rests_kept made more k again us ts e is keeps r =
      subst (λ (g : Var → Option T). Rests more g (reverse us)) (sym e) (subst (λ (rs : List (Hidden T)). Rests more k (reverse rs)) (sym is) (further made more k (reverse ts) keeps r))

  -- the last note goes
  pub rests_undone : (made more : Var → Type 0) (k again : Var → Option T) (us ts : List (Hidden T)) (h : Hidden T) → us ≡ ts ++ h ∷ [] → again ≡ with_entry k h.variable h.entry
      → ((y : Var) → made y → more y) → Rests made k (reverse us) → Rests more again (reverse ts)
  rests_undone made more k again us ts h is put keeps r =
      subst (λ (g : Var → Option T). Rests more g (reverse ts)) (sym put)
      (further made more (with_entry k h.variable h.entry) (reverse ts) keeps (subst (λ (rs : List (Hidden T)). Rests made k rs) (latest us ts h is) r).1)

  pub last_is_made : (made : Var → Type 0) (k : Var → Option T) (us ts : List (Hidden T)) (h : Hidden T) → us ≡ ts ++ h ∷ [] → Rests made k (reverse us) → made h.variable
  last_is_made made k us ts h is r = (subst (λ (rs : List (Hidden T)). Rests made k rs) (latest us ts h is) r).0

  pub kept : (k again : Var → Option T) (us ts : List (Hidden T)) (v : List (Note T)) → again ≡ k → us ≡ ts → notes k (reverse ts) ≡ v → notes again (reverse us) ≡ v
  kept k again us ts v e is view = (λ i. notes (e i) (reverse (is i))) ∙ view

  -- ---- all notes behind a mark go

  pub one_gone : (xs : List (Note T)) (m : ℕ) → m < length xs → drop (length (drop 1 xs) - m) (drop 1 xs) ≡ drop (length xs - m) xs
  one_gone [] m less = elim (none_below m less) [ ]
  one_gone (x ∷ xs) m less =
      let e : suc (length xs - m) ≡ suc (length xs) - m = omega (arith, less) in
      ap (λ n. drop n (x ∷ xs)) e
