-- Parted loops in which each position has a cell.
use Rattle.std.proofs.Common.{◌≡◌, ℕ, zero, suc, ◌+◌, ◌<◌, ◌≤◌, Bool, true, false, eqb, List, [], ◌∷◌, length, ℤ, Option, Some, None, Result, Ok, Err, refl, ap, ◌∙◌, sym, subst, arith}
use Rattle.std.specs.Prelude.{is_some, if◌then◌else◌, option_map}
use Rattle.std.proofs.lemmas.Bool.{eqb-true, eqb-false}
use Rattle.array_with_loops.specs.declared.plans.Plan.{Plan}
use Rattle.buffer_heap.specs.Heaps.{HeapValue}
use Rattle.core_ir.specs.Meaning.{CallMeaning, Env, bind, first, run, generator, generators, cells, cell_form, cell_at, held, with_index}
use Rattle.counted_code.specs.declared.tree.CodeGen.{CodeGen}
use Rattle.counted_code.specs.declared.tree.CodePart.{CodePart}
use Rattle.counted_code.specs.Machine.{Values}
use Rattle.counted_code.specs.Terms.{core_of, core_of_gens, core_of_parts}
use Rattle.counted_code.specs.View.{code_term}
use Rattle.phase_books.specs.Homes.{ComputesAll, left_in}
use Rattle.counted_code.specs.Pieces.{gen_head, gens_term, parts_term}
use Rattle.phase_loop_cells.specs.Cells.{as_cell, index_at, source_cell, source_means, stands_at}
use Rattle.phase_loop_cells.specs.Opened.{lent_env, meaning_in}
use Rattle.phase_loop_cells.specs.declared.copies.Background.{Background}
use Rattle.phase_team.specs.Segments.{cells_from}
use Rattle.run_loops.specs.declared.cell_loop.CellSource.{CellSource}
use Rattle.run_loops.specs.declared.cell_loop.CellSource.TheVariants.{Generators, Parts}
use Rattle.run_loops.specs.declared.state.Context.{Context}
use Rattle.run_loops.specs.Loops as loops
use Rattle.run_loops.specs.Loops.{held_body, part_held}
use Rattle.sac_base.specs.declared.base.Base.TheVariants.{Int}
use Rattle.sac_base.specs.declared.form.Form.{Form}
use Rattle.sac_base.specs.declared.site.Site.{Site}
use Rattle.sac_base.specs.declared.faults.FaultKind.TheVariants.{F6}
use Rattle.sac_base.specs.declared.stop.Stop.{Stop}
use Rattle.sac_base.specs.declared.stop.Stop.TheVariants.{Faulted, Memory}
use Rattle.sac_base.specs.Arrays.{ArrayValue, same_form, vector}
use Rattle.sac_base.specs.Grids.{has_vector}
use Rattle.sac_base.specs.Operators.{all_of, with_first}
use Rattle.sac_base.specs.Outcomes.{Ends, and_then, fault}
use Rattle.sac_base.specs.WithLoops.{Generator, Range, fits_form, held_cell, holder, holds}
use Rattle.wl_core.specs.Machine.{CellValue}
use Rattle.phase_workers.specs.Covered.{AreCovered, EndsIf, IfEnded, IsWhole, must_be_there, no_cell}

-- ---- cells that are there

some_not_none : {A E : Type 0} (a : A) → ◌≡◌ {A = Result (Option A) E} (Ok (Some a)) (Ok None) → ⊥
some_not_none a e = cc

err_not_ok : {A E : Type 0} (f : E) (a : A) → ◌≡◌ {A = Result A E} (Err f) (Ok a) → ⊥
err_not_ok f a e = cc

held_there : (form : ArrayValue) (site : Site) (r : Ends ArrayValue) → and_then r (held form site) ≡ Ok None → ⊥
held_there form site (Err f) e = err_not_ok f None e
held_there form site (Ok a) e = go (same_form a form) e
  where
    go : (fits : Bool) → (if fits then Ok (Some a) else fault F6 site) ≡ Ok None → ⊥
    go true e = some_not_none a e
    go false e = err_not_ok (record { kind = F6; site = site }) None e

-- a part that holds the index has a cell there
module _ (calls : CallMeaning) (turns : ℕ) (ρ : Env) (form : ArrayValue) (v : List ℤ) where
  abbrev rest_at : List CodePart → Ends (Option ArrayValue)
  rest_at ps = cell_at form (cells calls turns (core_of_parts (parts_term ps)) ρ) v

  one_there : (inside : Bool) (r : Ends ArrayValue) (p : CodePart) (ps : List CodePart) → (is_some (part_held ps v) ≡ true → rest_at ps ≡ Ok None → ⊥) → is_some (if inside then Some p else part_held ps v) ≡ true → (if inside then and_then r (held form p.site) else rest_at ps) ≡ Ok None → ⊥
  one_there true r p ps later some e = held_there form p.site r e
  one_there false r p ps later some e = later some e

  pub part_there : (parts : List CodePart) → is_some (part_held parts v) ≡ true → rest_at parts ≡ Ok None → ⊥
  part_there [] some e = absurd (cc)
  part_there (p ∷ ps) some e =
      one_there (has_vector p.grid v) (first (run calls turns (core_of (code_term p.body)) (bind ρ p.index (vector Int v)))) p ps (part_there ps) some e

-- and so has a generator
module _ (calls : CallMeaning) (turns : ℕ) (ρ : Env) (form : Form) (v : List ℤ) where
  abbrev core_gen : CodeGen → Generator
  core_gen g = generator (gen_head g) (λ index. first (run calls turns (core_of (code_term g.body)) (with_index ρ (gen_head g) index))) ρ

  abbrev holder_in : List CodeGen → List Range → Option Generator
  holder_in gens ranges = holder (generators calls turns (core_of_gens (gens_term gens)) ρ) ranges v

  holder_there : (g : Generator) → held_cell form (Some g) v ≡ Ok None → ⊥
  holder_there g e = go (g.cell v) e
    where
      fits : (a : ArrayValue) (b : Bool) → (if b then Ok (Some a) else fault F6 g.bounds.site) ≡ Ok None → ⊥
      fits a true e = some_not_none a e
      fits a false e = err_not_ok (record { kind = F6; site = g.bounds.site }) None e

      go : (r : Ends ArrayValue) → and_then r (λ c. if fits_form form c then Ok (Some c) else fault F6 g.bounds.site) ≡ Ok None → ⊥
      go (Err f) e = err_not_ok f None e
      go (Ok a) e = fits a (fits_form form a) e

  one_gen_there : (inside : Bool) (g : CodeGen) (h : Generator) (rest : Option CodeGen) (others : Option Generator) → (is_some rest ≡ true → held_cell form others v ≡ Ok None → ⊥) → is_some (if inside then Some g else rest) ≡ true
      → held_cell form (if inside then Some h else others) v ≡ Ok None → ⊥
  one_gen_there true g h rest others later some e = holder_there h e
  one_gen_there false g h rest others later some e = later some e

  pub gen_there : (gens : List CodeGen) (ranges : List Range) → is_some (loops.held gens ranges v) ≡ true → held_cell form (holder_in gens ranges) v ≡ Ok None → ⊥
  gen_there [] ranges some e = absurd (cc)
  gen_there (g ∷ gens) [] some e = absurd (cc)
  gen_there (g ∷ gens) (r ∷ ranges) some e =
      one_gen_there (holds r v) g (core_gen g) (loops.held gens ranges v) (holder_in gens ranges) (gen_there gens ranges) some e

-- ---- cells that must be there

-- a cell that is there stays
pub some_there : (r : CellValue) (es : List ℤ) → r ≡ Ok (Some es) → must_be_there r ≡ Ok (Some es)
some_there r es is = ap must_be_there is

pub never_none : (r : CellValue) → must_be_there r ≡ Ok None → ⊥
never_none (Ok None) e = err_not_ok no_cell None e
never_none (Ok (Some es)) e = some_not_none es e
never_none (Err f) e = err_not_ok f None e

there_same : (r : CellValue) → (r ≡ Ok None → ⊥) → must_be_there r ≡ r
there_same (Ok None) there = elim (there refl) [ ]
there_same (Ok (Some es)) there = refl
there_same (Err f) there = refl

as_there : (r : Ends (Option ArrayValue)) → (r ≡ Ok None → ⊥) → as_cell None r ≡ Ok None → ⊥
as_there (Ok None) there e = there refl
as_there (Ok (Some a)) there e = some_not_none a.cells e
as_there (Err f) there e = err_not_ok f None e

filled_there : (elements : List ℤ) (r : Ends (Option ArrayValue)) → as_cell (Some elements) r ≡ Ok None → ⊥
filled_there elements (Ok None) e = some_not_none elements e
filled_there elements (Ok (Some a)) e = some_not_none a.cells e
filled_there elements (Err f) e = err_not_ok f None e

module _ (cell : ℕ → CellValue) where
  abbrev musts : ℕ → CellValue
  musts p = must_be_there (cell p)

  one_more : (r : CellValue) (xs ys : List CellValue) → ((vs : List (Option (List ℤ))) → all_of xs ≡ Ok vs → all_of ys ≡ Ok vs) → (vs : List (Option (List ℤ))) → all_of (must_be_there r ∷ xs) ≡ Ok vs → all_of (r ∷ ys) ≡ Ok vs
  one_more (Err f) xs ys later vs e = elim (err_not_ok f vs e) [ ]
  one_more (Ok None) xs ys later vs e = elim (err_not_ok no_cell vs e) [ ]
  one_more (Ok (Some x)) xs ys later vs e = go (all_of xs) refl e
    where
      go : (r : Ends (List (Option (List ℤ)))) → all_of xs ≡ r → with_first (Some x) r ≡ Ok vs → with_first (Some x) (all_of ys) ≡ Ok vs
      go (Ok ws) is e = ap (with_first (Some x)) (later ws is) ∙ e
      go (Err f) is e = elim (err_not_ok f vs e) [ ]

  -- where all that must be there is, there is all
  values_there : (start n : ℕ) (vs : List (Option (List ℤ))) → all_of (cells_from musts start n) ≡ Ok vs → all_of (cells_from cell start n) ≡ Ok vs
  values_there start zero vs e = e
  values_there start (suc n) vs e = one_more (cell start) (cells_from musts (suc start) n) (cells_from cell (suc start) n) (values_there (suc start) n) vs e

  same_from : (start n : ℕ) → ((p : ℕ) → p < start + n → musts p ≡ cell p) → cells_from musts start n ≡ cells_from cell start n
  same_from start zero same = refl
  same_from start (suc n) same =
      λ i. same start (omega arith) i ∷ same_from (suc start) n (λ p low. same p (omega (arith, low))) i

  -- what is believed of such cells
  pub all_believed : (lends : HeapValue) (n k : ℕ) (Known : Type 0) → (Known → (p : ℕ) → p < n → cell p ≡ Ok None → ⊥) → (es : List ℤ) (end r : Result HeapValue Stop) → ComputesAll (cells_from musts 0 n) lends k es end → EndsIf Known end r → ComputesAll (cells_from cell 0 n) lends k es r
  all_believed lends n k Known there es end (Ok home) computes is =
      let c = subst (ComputesAll (cells_from musts 0 n) lends k es) is computes in
      ((c.0.0, values_there 0 n c.0.0 c.0.1, c.0.2), c.1)
  all_believed lends n k Known there es end (Err Memory) computes is = tt
  all_believed lends n k Known there es end (Err (Faulted f)) computes is =
      let c = subst (ComputesAll (cells_from musts 0 n) lends k es) is.0 computes in
      subst (λ cs. all_of cs ≡ Err f) (same_from 0 n (λ p low. there_same (cell p) (there is.1 p (omega (arith, low))))) c

  -- ---- and so each place has a cell

  first_there : (r : CellValue) (xs : List CellValue) (vs : List (Option (List ℤ))) → all_of (must_be_there r ∷ xs) ≡ Ok vs → r ≡ Ok None → ⊥
  first_there (Ok None) xs vs e none = err_not_ok no_cell vs e
  first_there (Ok (Some x)) xs vs e none = some_not_none x none
  first_there (Err f) xs vs e none = err_not_ok f None none

  rest_there : (r : CellValue) (xs : List CellValue) (vs : List (Option (List ℤ))) → all_of (must_be_there r ∷ xs) ≡ Ok vs → (ws : List (Option (List ℤ))) × (all_of xs ≡ Ok ws)
  rest_there (Err f) xs vs e = elim (err_not_ok f vs e) [ ]
  rest_there (Ok None) xs vs e = elim (err_not_ok no_cell vs e) [ ]
  rest_there (Ok (Some x)) xs vs e = go (all_of xs) refl e
    where
      go : (r : Ends (List (Option (List ℤ)))) → all_of xs ≡ r → with_first (Some x) r ≡ Ok vs → (ws : List (Option (List ℤ))) × (all_of xs ≡ Ok ws)
      go (Ok ws) is e = (ws, is)
      go (Err f) is e = elim (err_not_ok f vs e) [ ]

  not_none : (start n : ℕ) (vs : List (Option (List ℤ))) → all_of (cells_from musts start n) ≡ Ok vs → (p : ℕ) → start ≤ p → p < start + n → cell p ≡ Ok None → ⊥
  not_none start zero vs e p from low none = absurd (omega (arith, from, low))
  not_none start (suc n) vs e p from low none =
      let rest = rest_there (cell start) (cells_from musts (suc start) n) vs e in
      go (not_none (suc start) n rest.0 rest.1 p) (eqb start p) refl
    where
      go : (suc start ≤ p → p < suc start + n → cell p ≡ Ok None → ⊥) → (r : Bool) → eqb start p ≡ r → ⊥
      go later true same = first_there (cell start) (cells_from musts (suc start) n) vs e (ap cell (eqb-true start p same) ∙ none)
      go later false other = let apart = eqb-false start p other in later (omega (arith, from, apart)) (omega (arith, low)) none

  pub all_there : (lends home : HeapValue) (n k : ℕ) (Known : Type 0) → (Known → (p : ℕ) → p < n → cell p ≡ Ok None → ⊥) → (es : List ℤ) (end r : Result (Unit {0}) Stop) → ComputesAll (cells_from musts 0 n) lends k es (left_in home end) → EndsIf Known end r
      → IfEnded r ((p : ℕ) → p < n → cell p ≡ Ok None → ⊥)
  all_there lends home n k Known there es end (Ok done) computes is =
      let c = subst (λ (x : Result (Unit {0}) Stop). ComputesAll (cells_from musts 0 n) lends k es (left_in home x)) is computes in
      λ p low. not_none 0 n c.0.0 c.0.1 p (omega arith) (omega (arith, low))
  all_there lends home n k Known there es end (Err Memory) computes is = tt
  all_there lends home n k Known there es end (Err (Faulted f)) computes is = there is.1

-- ---- the cells of a source

mapped_some : {A B : Type 0} (f : A → B) (o : Option A) → is_some (option_map f o) ≡ true → is_some o ≡ true
mapped_some f None e = e
mapped_some f (Some a) e = refl

module _ (context : Context) (h : HeapValue) (e : Values) (form : Form) (ranges : List Range) (v : List ℤ) where
  means_there : (source : CellSource) → is_some (held_body source ranges v) ≡ true → source_means context h e source form ranges v ≡ Ok None → ⊥
  means_there (Generators gens) some =
      gen_there (meaning_in context) context.turns (lent_env h e) form v gens.now ranges (mapped_some loops.gen_body (loops.held gens.now ranges v) some)
  means_there (Parts parts) some =
      part_there (meaning_in context) context.turns (lent_env h e) (cell_form form.base form.shape) v parts.now (mapped_some loops.part_body (part_held parts.now v) some)

pub source_there : (context : Context) (h : HeapValue) (e : Values) (source : CellSource) (p : Plan) (b : Option Background) → IsWhole b source p.ranges.items p.frame → (place : ℕ) → place < length p.frame → source_cell context h e source p b place ≡ Ok None → ⊥
source_there context h e source p None whole place low =
    as_there (source_means context h e source p.form p.ranges.items (index_at p.frame place)) (means_there context h e p.form p.ranges.items (index_at p.frame place) source (whole place low))
source_there context h e source p (Some b) whole place low =
    filled_there (stands_at b.old b.cells.now b.size place) (source_means context h e source p.form p.ranges.items (index_at p.frame place))
