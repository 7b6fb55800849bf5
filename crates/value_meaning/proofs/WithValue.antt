-- The meaning of a with-loop from what the evaluator has computed.
use Rattle.std.proofs.Common.{◌≡◌, suc, List, [], ◌∷◌, ◌++◌, length, map, Bool, true, false, refl, sym, ap, ◌∙◌, arith, ℤ, Ok, Err, Some}
use Rattle.std.specs.Prelude.{if◌then◌else◌}
use Rattle.sac_base.specs.declared.faults.Fault.{Fault}
use Rattle.sac_base.specs.declared.faults.FaultKind.TheVariants.{F6}
use Rattle.sac_base.specs.declared.form.Form.{Form}
use Rattle.sac_base.specs.declared.site.Site.{Site}
use Rattle.sac_base.specs.Operators.{all_of, with_first}
use Rattle.sac_base.specs.Outcomes.{Ends, Env, and_then, fault}
use Rattle.sac_base.specs.WithLoops.{Bounds, Range, Plan, Operation, box, shape_spans, each, plan, range_of, genarray_plan, modarray_plan, finish, genarray, modarray, fold_by, combined, cells_of, with_value, index_length}
use Rattle.sac_base.specs.WithLoops
use Rattle.sac_ast.specs.declared.Generator.{Generator}
use Rattle.sac_ast.specs.Tree.{Gens, OperationTree}
use Rattle.sac_ast.specs.Tree
use Rattle.sac_ast.specs.View.{index_view}
use Rattle.sac_ast.specs.View
use Rattle.sac_ast.proofs.Views.{generator_is}
use Rattle.value_meaning.specs.declared.evaluate.Context.{Context}
use Rattle.value_meaning.specs.Evaluation.{meaning_in, cell_in}
use Rattle.source_meaning.specs.Meaning.{name_count}
use Rattle.value_meaning.specs.WithSource.{generator_in, bound_in, maybe_in, bounds_in, generators_in, operation_in, generator_of, cells_in}
use Rattle.array_with_loops.proofs.EachSteps.{each_length}

-- ---- the generators, from their bounds

abbrev with_cell : Context → Env → Generator → Bounds → WithLoops.Generator
with_cell context env g b = record { bounds = b; cell = λ v. cell_in context g v env }

abbrev with_cells : Context → Env → List Generator → List Bounds → List WithLoops.Generator
with_cells context env (g ∷ gs) (b ∷ bs) = with_cell context env g b ∷ with_cells context env gs bs
with_cells context env _ _ = []

four : {A B C D R S : Type 0} (a : Ends A) (b : Ends B) (c : Ends C) (d : Ends D) (make : A → B → C → D → R) (next : R → S)
    → and_then a (λ p. and_then b (λ q. and_then c (λ r. and_then d (λ s. Ok (next (make p q r s))))))
    ≡ and_then (and_then a (λ p. and_then b (λ q. and_then c (λ r. and_then d (λ s. Ok (make p q r s)))))) (λ m. Ok (next m))
four (Err f) b c d make next = refl
four (Ok p) (Err f) c d make next = refl
four (Ok p) (Ok q) (Err f) d make next = refl
four (Ok p) (Ok q) (Ok r) (Err f) make next = refl
four (Ok p) (Ok q) (Ok r) (Ok s) make next = refl

generator_from : (context : Context) (env : Env) (g : Generator) → generator_in context (View.generator g) env ≡ and_then (bounds_in context env g) (λ b. Ok (with_cell context env g b))
generator_from context env g =
    ap (λ tree. generator_in context tree env) (generator_is g)
    ∙ four (bound_in context (View.bound g.lower) env) (bound_in context (View.bound g.upper) env) (maybe_in context (View.maybe g.step) env) (maybe_in context (View.maybe g.width) env)
    (λ l u s w. record { lower = l; lower_closed = g.lower_closed; names = name_count (index_view g.index); upper = u; upper_closed = g.upper_closed; step = s; width = w; site = g.site })
    (with_cell context env g)

cons_from : (context : Context) (env : Env) (g : Generator) (gs : List Generator) (m : Ends Bounds) (rest : Ends (List Bounds)) (all : Ends (List WithLoops.Generator))
    → all ≡ and_then rest (λ bs. Ok (with_cells context env gs bs))
    → and_then (and_then m (λ b. Ok (with_cell context env g b))) (λ a. and_then all (λ rest. Ok (a ∷ rest))) ≡ and_then (all_of (m ∷ [])) (λ one. and_then rest (λ bs. Ok (with_cells context env (g ∷ gs) (one ++ bs))))
cons_from context env g gs (Err f) rest all e = refl
cons_from context env g gs (Ok b) (Err f) all e = ap (λ all. and_then all (λ rest. Ok (with_cell context env g b ∷ rest))) e
cons_from context env g gs (Ok b) (Ok bs) all e = ap (λ all. and_then all (λ rest. Ok (with_cell context env g b ∷ rest))) e

each_cons : {A : Type 0} (m : Ends A) (rest : Ends (List A)) (next : List A → Ends (List WithLoops.Generator)) → and_then (all_of (m ∷ [])) (λ one. and_then rest (λ bs. next (one ++ bs))) ≡ and_then (and_then m (λ b. with_first b rest)) next
each_cons (Err f) rest next = refl
each_cons (Ok b) (Err f) next = refl
each_cons (Ok b) (Ok bs) next = refl

head_of : {A : Type 0} (m : Ends A) (ms : List (Ends A)) → and_then m (λ b. with_first b (all_of ms)) ≡ all_of (m ∷ ms)
head_of (Err f) ms = refl
head_of (Ok b) ms = refl

pub generators_from : (context : Context) (env : Env) (gs : List Generator) → generators_in context (View.generators gs) env ≡ and_then (each (bounds_in context env) gs) (λ bs. Ok (with_cells context env gs bs))
generators_from context env [] = refl
generators_from context env (g ∷ gs) =
    ap (λ m. and_then m (λ a. and_then (generators_in context (View.generators gs) env) (λ rest. Ok (a ∷ rest)))) (generator_from context env g)
    ∙ cons_from context env g gs (bounds_in context env g) (each (bounds_in context env) gs) (generators_in context (View.generators gs) env) (generators_from context env gs)
    ∙ each_cons (bounds_in context env g) (each (bounds_in context env) gs) (λ bs. Ok (with_cells context env (g ∷ gs) bs))
    ∙ ap (λ m. and_then m (λ bs. Ok (with_cells context env (g ∷ gs) bs))) (head_of (bounds_in context env g) (map (bounds_in context env) gs))

bounds_of : (context : Context) (env : Env) (gs : List Generator) (bs : List Bounds) → length bs ≡ length gs → map (λ (g : WithLoops.Generator). g.bounds) (with_cells context env gs bs) ≡ bs
bounds_of context env [] [] e = refl
bounds_of context env [] (b ∷ bs) e = absurd (omega arith)
bounds_of context env (g ∷ gs) [] e = absurd (omega arith)
bounds_of context env (g ∷ gs) (b ∷ bs) e = ap (λ xs. b ∷ xs) (bounds_of context env gs bs (omega arith))

-- ---- the cells do not hang on the bounds

four_field : {A B C D R S : Type 0} (a : Ends A) (b : Ends B) (c : Ends C) (d : Ends D) (make : A → B → C → D → R) (field : R → S) (s : S) (x : R)
    → ((p : A) (q : B) (r : C) (t : D) → field (make p q r t) ≡ s)
    → and_then a (λ p. and_then b (λ q. and_then c (λ r. and_then d (λ t. Ok (make p q r t))))) ≡ Ok x → field x ≡ s
four_field (Err f) b c d make field s x same e = cc
four_field (Ok p) (Err f) c d make field s x same e = cc
four_field (Ok p) (Ok q) (Err f) d make field s x same e = cc
four_field (Ok p) (Ok q) (Ok r) (Err f) make field s x same e = cc
four_field (Ok p) (Ok q) (Ok r) (Ok t) make field s x same e = let is : make p q r t ≡ x = cc in ap field (sym is) ∙ same p q r t

bounds_site : (context : Context) (env : Env) (g : Generator) (b : Bounds) → bounds_in context env g ≡ Ok b → b.site ≡ g.site
bounds_site context env g b e =
    four_field (bound_in context (View.bound g.lower) env) (bound_in context (View.bound g.upper) env) (maybe_in context (View.maybe g.step) env) (maybe_in context (View.maybe g.width) env)
    (λ l u s w. record { lower = l; lower_closed = g.lower_closed; names = name_count (index_view g.index); upper = u; upper_closed = g.upper_closed; step = s; width = w; site = g.site })
    (λ (b : Bounds). b.site) g.site b (λ l u s w. refl) e

with_first_inv : {A : Type 0} (a b : A) (m : Ends (List A)) (bs : List A) → with_first a m ≡ Ok (b ∷ bs) → (a ≡ b) × (m ≡ Ok bs)
with_first_inv a b (Err f) bs e = cc
with_first_inv a b (Ok cs) bs e = let one : a ≡ b = cc in let more : cs ≡ bs = cc in (one, ap (λ xs. Ok xs) more)

all_of_inv : {A : Type 0} (m : Ends A) (ms : List (Ends A)) (b : A) (bs : List A) → all_of (m ∷ ms) ≡ Ok (b ∷ bs) → (m ≡ Ok b) × (all_of ms ≡ Ok bs)
all_of_inv (Err f) ms b bs e = cc
all_of_inv (Ok a) ms b bs e = let inner = with_first_inv a b (all_of ms) bs e in (ap (λ x. Ok x) inner.0, inner.1)

-- generators with the same sites and cells
abbrev SameCells : List WithLoops.Generator → List WithLoops.Generator → Type 0
SameCells [] [] = Unit {0}
SameCells (g ∷ gs) (h ∷ hs) = (g.bounds.site ≡ h.bounds.site) × (g.cell ≡ h.cell) × SameCells gs hs
SameCells _ _ = ⊥

same_cells : (context : Context) (env : Env) (gs : List Generator) (bs : List Bounds) → each (bounds_in context env) gs ≡ Ok bs → SameCells (with_cells context env gs bs) (map (generator_of context env) gs)
same_cells context env [] [] e = tt
same_cells context env [] (b ∷ bs) e = tt
same_cells context env (g ∷ gs) [] e = absurd (nat_absurd (each_length (bounds_in context env) (g ∷ gs) [] e))
  where
    nat_absurd : 0 ≡ suc (length gs) → ⊥
    nat_absurd h = omega arith
same_cells context env (g ∷ gs) (b ∷ bs) e =
    let parts = all_of_inv (bounds_in context env g) (map (bounds_in context env) gs) b bs e in
    (bounds_site context env g b parts.0, refl, same_cells context env gs bs parts.1)

cell_same : (form : Form) (gs hs : List WithLoops.Generator) (rs : List Range) (v : List ℤ) → SameCells gs hs → WithLoops.cell_at form gs rs v ≡ WithLoops.cell_at form hs rs v
cell_same form [] [] rs v s = refl
cell_same form [] (h ∷ hs) rs v s = absurd s
cell_same form (g ∷ gs) [] rs v s = absurd s
cell_same form (g ∷ gs) (h ∷ hs) [] v s = refl
cell_same form (g ∷ gs) (h ∷ hs) (r ∷ rs) v s = by (WithLoops.holds r v) (cell_same form gs hs rs v s.2)
  where
    by : (b : Bool) → WithLoops.cell_at form gs rs v ≡ WithLoops.cell_at form hs rs v → WithLoops.held_cell form (if b then Some g else WithLoops.holder gs rs v) v ≡ WithLoops.held_cell form (if b then Some h else WithLoops.holder hs rs v) v
    by true e = λ i. and_then (s.1 i v) (λ c. if WithLoops.fits_form form c then Ok (Some c) else fault F6 (s.0 i))
    by false e = e

cells_same : (context : Context) (env : Env) (gs : List Generator) (bs : List Bounds) (form : Form) (rs : List Range) (vs : List (List ℤ)) → each (bounds_in context env) gs ≡ Ok bs → cells_of form (with_cells context env gs bs) rs vs ≡ cells_in context gs rs vs form env
cells_same context env gs bs form rs vs e = λ i. each (λ v. cell_same form (with_cells context env gs bs) (map (generator_of context env) gs) rs v (same_cells context env gs bs e) i) vs

-- ---- the whole

module _ (context : Context) (env : Env) (gs : List Generator) (op : OperationTree) (site : Site) (bs : List Bounds) (by : Operation) (p : Plan) where
  pub whole : each (bounds_in context env) gs ≡ Ok bs → operation_in context op (View.generators gs) env ≡ Ok by → plan bs by ≡ Ok p
      → meaning_in context (Tree.with_loop (View.generators gs) op site) env ≡ and_then (cells_in context gs p.ranges p.indices p.form env) (λ found. Ok (finish by p found))
  whole eb eo ep =
      let count = each_length (bounds_in context env) gs bs eb in
      let all = with_cells context env gs bs in
      ap (λ m. and_then m (λ all. and_then (operation_in context op (View.generators gs) env) (λ by. with_value all by))) (generators_from context env gs ∙ ap (λ m. and_then m (λ bs. Ok (with_cells context env gs bs))) eb)
      ∙ ap (λ m. and_then m (λ by. with_value all by)) eo
      ∙ ap (λ xs. and_then (plan xs by) (λ p. and_then (cells_of p.form all p.ranges p.indices) (λ found. Ok (finish by p found)))) (bounds_of context env gs bs count)
      ∙ ap (λ m. and_then m (λ p. and_then (cells_of p.form all p.ranges p.indices) (λ found. Ok (finish by p found)))) ep
      ∙ ap (λ m. and_then m (λ found. Ok (finish by p found))) (cells_same context env gs bs p.form p.ranges p.indices eb)

module _ (context : Context) (env : Env) (gs : List Generator) (op : OperationTree) (site : Site) (bs : List Bounds) (by : Operation) where
  pub whole_fault : (f : Fault) → each (bounds_in context env) gs ≡ Ok bs → operation_in context op (View.generators gs) env ≡ Ok by → plan bs by ≡ Err f
      → meaning_in context (Tree.with_loop (View.generators gs) op site) env ≡ Err f
  whole_fault f eb eo ep =
      let count = each_length (bounds_in context env) gs bs eb in
      let all = with_cells context env gs bs in
      ap (λ m. and_then m (λ all. and_then (operation_in context op (View.generators gs) env) (λ by. with_value all by))) (generators_from context env gs ∙ ap (λ m. and_then m (λ bs. Ok (with_cells context env gs bs))) eb)
      ∙ ap (λ m. and_then m (λ by. with_value all by)) eo
      ∙ ap (λ xs. and_then (plan xs by) (λ p. and_then (cells_of p.form all p.ranges p.indices) (λ found. Ok (finish by p found)))) (bounds_of context env gs bs count)
      ∙ ap (λ m. and_then m (λ p. and_then (cells_of p.form all p.ranges p.indices) (λ found. Ok (finish by p found)))) ep

module _ (context : Context) (env : Env) (gs : List Generator) (op : OperationTree) (site : Site) where
  pub bounds_fault : (f : Fault) → each (bounds_in context env) gs ≡ Err f → meaning_in context (Tree.with_loop (View.generators gs) op site) env ≡ Err f
  bounds_fault f eb =
      ap (λ m. and_then m (λ all. and_then (operation_in context op (View.generators gs) env) (λ by. with_value all by))) (generators_from context env gs ∙ ap (λ m. and_then m (λ bs. Ok (with_cells context env gs bs))) eb)

  pub operation_fault : (bs : List Bounds) (f : Fault) → each (bounds_in context env) gs ≡ Ok bs → operation_in context op (View.generators gs) env ≡ Err f → meaning_in context (Tree.with_loop (View.generators gs) op site) env ≡ Err f
  operation_fault bs f eb eo =
      ap (λ m. and_then m (λ all. and_then (operation_in context op (View.generators gs) env) (λ by. with_value all by))) (generators_from context env gs ∙ ap (λ m. and_then m (λ bs. Ok (with_cells context env gs bs))) eb)
      ∙ ap (λ m. and_then m (λ by. with_value (with_cells context env gs bs) by)) eo
