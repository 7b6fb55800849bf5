-- Which form the cells of loops have.
use Rattle.std.proofs.Common.{◌≡◌, ℕ, Bool, true, false, List, [], ◌∷◌, length, map, ℤ, Option, Some, None, Ok, Err, refl, ap, ◌∙◌, sym, subst}
use Rattle.std.specs.Prelude.{if◌then◌else◌, ◌&&◌}
use Rattle.std.proofs.lemmas.List.Elements.{All-head, All-tail}
use Rattle.std.proofs.lemmas.Slice.Eq.{bytes_eq-Decides}
use Rattle.sac_base.specs.declared.base.Base.{Base}
use Rattle.sac_base.specs.declared.base.Base.TheVariants.{Int, Bool as Truth}
use Rattle.sac_base.specs.declared.faults.FaultKind.TheVariants.{F6}
use Rattle.sac_base.specs.declared.form.Form.{Form}
use Rattle.sac_base.specs.declared.site.Site.{Site}
use Rattle.sac_base.specs.Arrays.{ArrayValue, size, same_base, same_shape}
use Rattle.sac_base.specs.Operators.{all_of, with_first}
use Rattle.sac_base.specs.Outcomes.{Ends, and_then, fault}
use Rattle.sac_base.specs.Verdict.{present}
use Rattle.sac_base.specs.WithLoops.{Generator, Range, each, holder, held_cell, cell_at as with_cell_at}
use Rattle.core_ir.specs.Meaning.{Cells, cell_form, cell_at, held}
use Rattle.sac_base.specs.Grids.{has_vector}
use Rattle.phase_laws.specs.Folds.{AllOf}
use Rattle.phase_team.specs.Segments.{HaveWidth}
use Rattle.phase_loop_laws.specs.Worked.{unfilled, HaveForm}
use Rattle.phase_loop_laws.proofs.Places.{elements_at}

-- ---- what is checked

abbrev Has : Base → List ℕ → ArrayValue → Type 0
Has base shape a = (a.base ≡ base) × (a.shape ≡ shape)

both_true : (s t : Bool) → (s && t) ≡ true → (s ≡ true) × (t ≡ true)
both_true true t both = (refl, both)
both_true false t both = absurd (cc)

one_base : (b c : Base) → same_base b c ≡ true → b ≡ c
one_base Int Int e = refl
one_base Truth Truth e = refl
one_base Int Truth e = absurd (cc)
one_base Truth Int e = absurd (cc)

fits_as : (base : Base) (shape : List ℕ) (a : ArrayValue) → same_base a.base base && same_shape a.shape shape ≡ true → Has base shape a
fits_as base shape a fits =
    let both = both_true (same_base a.base base) (same_shape a.shape shape) fits in
    (one_base a.base base both.0, (bytes_eq-Decides a.shape shape).0 both.1)

same_value : {A : Type 0} (a b : A) → ◌≡◌ {A = Ends A} (Ok a) (Ok b) → a ≡ b
same_value a b e = cc

same_cell : (a c : ArrayValue) → ◌≡◌ {A = Ends (Option ArrayValue)} (Ok (Some a)) (Ok (Some c)) → a ≡ c
same_cell a c e = cc

-- a cell that was checked has the form
checked_as : (base : Base) (shape : List ℕ) (site : Site) (r : Ends ArrayValue) (c : ArrayValue) → and_then r (λ a. if same_base a.base base && same_shape a.shape shape then Ok (Some a) else fault F6 site) ≡ Ok (Some c) → Has base shape c
checked_as base shape site (Err f) c e = absurd (cc)
checked_as base shape site (Ok a) c e =
    let passed = go (same_base a.base base && same_shape a.shape shape) e in
    subst (Has base shape) passed.1 (fits_as base shape a passed.0)
  where
    go : (fits : Bool) → (if fits then Ok (Some a) else fault F6 site) ≡ Ok (Some c) → (fits ≡ true) × (a ≡ c)
    go true e = (refl, same_cell a c e)
    go false e = absurd (cc)

pub with_forms : (form : Form) (gs : List Generator) (ranges : List Range) → HaveForm form.base form.shape (with_cell_at form gs ranges)
with_forms form gs ranges v c e = go (holder gs ranges v) e
  where
    go : (h : Option Generator) → held_cell form h v ≡ Ok (Some c) → Has form.base form.shape c
    go None e = absurd (cc)
    go (Some g) e = checked_as form.base form.shape g.bounds.site (g.cell v) c e

pub part_forms : (base : Base) (shape : List ℕ) (ps : List Cells) → HaveForm base shape (cell_at (cell_form base shape) ps)
part_forms base shape [] v c e = absurd (cc)
part_forms base shape (p ∷ ps) v c e = go (part_forms base shape ps v c) (has_vector p.grid v) e
  where
    go : (cell_at (cell_form base shape) ps v ≡ Ok (Some c) → Has base shape c) → (b : Bool) → (if b then and_then (p.cell v) (held (cell_form base shape) p.site) else cell_at (cell_form base shape) ps v) ≡ Ok (Some c) → Has base shape c
    go later true e = checked_as base shape p.site (p.cell v) c e
    go later false e = later e

-- ---- whole arrays

pub record Split {A : Type 0} (x : A) (r : Ends (List A)) (cs : List A) : Type 0 where
  pub rest : List A
  pub later : r ≡ Ok rest
  pub whole : cs ≡ x ∷ rest

split : {A : Type 0} (x : A) (r : Ends (List A)) (cs : List A) → with_first x r ≡ Ok cs → Split x r cs
split x (Ok ds) cs e = record { rest = ds; later = refl; whole = cc }
split x (Err f) cs e = absurd (cc)

module _ (base : Base) (shape : List ℕ) (cell : List ℤ → Ends (Option ArrayValue)) (forms : HaveForm base shape cell) where
  -- cells whose elements are as many as the shape says are whole
  abbrev AreWhole : List (Option ArrayValue) → Type 0
  AreWhole cs = HaveWidth (size shape) (elements_at unfilled cs) → AllOf base shape cs

  abbrev Full : List ℤ → Type 0
  Full x = length x ≡ size shape

  one_more : (v : List ℤ) (c : Option ArrayValue) (ds : List (Option ArrayValue)) → cell v ≡ Ok c → AreWhole ds → AreWhole (c ∷ ds)
  one_more v None ds is rest all = rest all
  one_more v (Some a) ds is rest all =
      let has = forms v a is in
      let full = All-head Full a.cells (present (elements_at unfilled ds)) all in
      (record { base_is = has.0; shape_is = has.1; full = full ∙ sym (ap size has.1) }, rest (All-tail Full a.cells (present (elements_at unfilled ds)) all))

  pub whole_cells : (vs : List (List ℤ)) (cs : List (Option ArrayValue)) → each cell vs ≡ Ok cs → AreWhole cs
  whole_cells [] cs e = subst AreWhole (same_value [] cs e) (λ all. tt)
  whole_cells (v ∷ vs) cs e = go (whole_cells vs) (cell v) refl e
    where
      go : ((ds : List (Option ArrayValue)) → each cell vs ≡ Ok ds → AreWhole ds) → (c : Ends (Option ArrayValue)) → cell v ≡ c → all_of (c ∷ map cell vs) ≡ Ok cs → AreWhole cs
      go later (Err f) is e = absurd (cc)
      go later (Ok c) is e =
          let s = split c (each cell vs) cs e in
          subst AreWhole (sym s.whole) (one_more v c s.rest is (later s.rest s.later))
