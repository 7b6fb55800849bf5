-- Cells of parts that have kernels: each is one element, or a fault.
use Rattle.std.proofs.Common.{◌≡◌, ℕ, zero, suc, ◌-◌, ◌≤◌, ℤ, pos, Bool, true, false, ◌&&◌, nat_eq, nat_le, List, [], ◌∷◌, ◌++◌, length, map, replicate, Option, Some, None, Ok, Err, length-append, refl, sym, subst, ◌∙◌, arith}
use Rattle.std.specs.Prelude.{if◌then◌else◌, IfSome}
use Rattle.std.specs.List.{list_all}
use Rattle.std.proofs.lemmas.Bool.{eqb-true, leb-true}
use Rattle.std.proofs.lemmas.List.{get_or_append_left, length-replicate}
use Rattle.sac_base.specs.declared.faults.FaultKind.TheVariants.{F6}
use Rattle.sac_base.specs.declared.form.Form.{Form}
use Rattle.sac_base.specs.declared.site.Site.{Site}
use Rattle.sac_base.specs.Arrays.{ArrayValue, same_form}
use Rattle.sac_base.specs.Grids.{has_vector}
use Rattle.sac_base.specs.Outcomes.{Ends, and_then, fault}
use Rattle.core_ir.specs.declared.tree.Var.{Var}
use Rattle.core_ir.specs.Meaning.{Answer, Env, cell_at, cell_form, cells, first, held, run}
use Rattle.counted_code.specs.declared.tree.CodePart.{CodePart}
use Rattle.counted_code.specs.Terms.{core_of, core_of_parts}
use Rattle.counted_code.specs.View.{code_term}
use Rattle.kernel_tree.specs.declared.tree.Held.{Held}
use Rattle.kernel_tree.specs.declared.tree.Held.TheVariants.{Word, Number, Short, Numbers, Whole}
use Rattle.kernel_tree.specs.Terms.{gives}
use Rattle.kernel_tree.specs.View.{kernel_term}
use Rattle.kernel_code.specs.Calls.{Calls}
use Rattle.kernel_code.specs.Relations.{Known, array_of, found}
use Rattle.kernel_rows.specs.declared.kernels.CellKernel.{CellKernel}
use Rattle.kernel_rows.specs.Kernels.{AreCellKernels, Body, HasCellForm, HasIndex, HoldsCell, IsCellKernel, body_env}
use Rattle.own_kernels.specs.Kernels.{holds_alone, is_kernel_for, is_own_kernel, kernels_own, own_in, part_body, parts_own}
use Rattle.own_kernels.specs.Steps.{is_own}
use Rattle.phase_loop_laws.specs.over_phases.Statements.{IsElement}
use Rattle.counted_code.specs.Pieces.{parts_term}

-- ---- both of two tests

and_left : (a b : Bool) → (a && b) ≡ true → a ≡ true
and_left true b e = refl
and_left false b e = e

and_right : (a b : Bool) → (a && b) ≡ true → b ≡ true
and_right true b e = e
and_right false b e = absurd (cc)

both : (a b : Bool) → a ≡ true → b ≡ true → (a && b) ≡ true
both true b e f = f
both false b e f = e

-- ---- kernels for indices of so many components

kernel_for : (rank buffer : ℕ) (o : Option CellKernel) → is_own_kernel rank buffer o ≡ true → is_kernel_for rank o ≡ true
kernel_for rank buffer None own = absurd (cc)
kernel_for rank buffer (Some k) own = and_left (nat_eq k.rank rank) (is_own k.rank buffer (kernel_term k.block)) own

kernels_for : (rank buffer : ℕ) (ks : List (Option CellKernel)) → kernels_own ks rank buffer ≡ true → list_all (is_kernel_for rank) ks ≡ true
kernels_for rank buffer [] own = refl
kernels_for rank buffer (o ∷ ks) own =
    both (is_kernel_for rank o) (list_all (is_kernel_for rank) ks) (kernel_for rank buffer o (and_left (is_own_kernel rank buffer o) (kernels_own ks rank buffer) own))
    (kernels_for rank buffer ks (and_right (is_own_kernel rank buffer o) (kernels_own ks rank buffer) own))

-- ---- one part

-- registers that begin with an index
registers_of : (index : List ℤ) → length index ≤ 8 → (r : List ℤ) × (length r ≡ 256) × HasIndex r index
registers_of index few =
    let zeros = replicate (256 - length index) (pos 0) in
    let long : length (index ++ zeros) ≡ 256 = (let a = length-append index zeros in let z = length-replicate (256 - length index) (pos 0) in omega (arith, a, z, few)) in
    (index ++ zeros, long, λ k lt. get_or_append_left index zeros (pos 0) k lt)

-- a scalar has one element
one_element : (form : Form) (h : Held) (r : List ℤ) (bs : List ArrayValue) → HasCellForm form h → length (array_of r bs h).cells ≡ 1
one_element form (Word base k) r bs has = refl
one_element form (Number base n) r bs has = refl
one_element form (Short base ks n) r bs has = absurd has
one_element form (Numbers base zs n) r bs has = absurd has
one_element form (Whole base rank b) r bs has = absurd has

-- so the cell of an answer that a kernel holds is one element
answer_element : (shape : ArrayValue) (site : Site) (form : Form) (h : Held) (bs : List ArrayValue) (answer : Answer) (ends : Ends (List ℤ)) → HasCellForm form h → HoldsCell bs h answer ends
    → IsElement (and_then (first answer) (held shape site))
answer_element shape site form h bs (Ok ws) (Ok r) has holds =
    subst (λ (vs : List ArrayValue). IsElement (and_then (first (Ok vs)) (held shape site))) (sym holds) (go (same_form (array_of r bs h) shape))
  where
    go : (fits : Bool) → IsElement (if fits then Ok (Some (array_of r bs h)) else fault F6 site)
    go true = one_element form h r bs has
    go false = tt
answer_element shape site form h bs (Ok ws) (Err g) has holds = absurd holds
answer_element shape site form h bs (Err f) (Ok r) has holds = absurd holds
answer_element shape site form h bs (Err f) (Err g) has holds = tt

some_body : (b c : Body) → ◌≡◌ {A = Option Body} (Some b) (Some c) → c ≡ b
some_body b c e = sym (cc)

module _ (calls : Calls) (turns : ℕ) (bs : List ArrayValue) (e : Env) (index : List ℤ) (few : length index ≤ 8) (rank : ℕ) (long : length index ≡ rank) (form : Form) (shape : ArrayValue) where
  -- the cell that a body has at the index
  abbrev body_cell : Site → Body → Ends (Option ArrayValue)
  body_cell site b = and_then (first (run (calls.means turns) turns (core_of (code_term b.block)) (body_env e b index))) (held shape site)

  body_element : (site : Site) (b : Body) (o : Option CellKernel) → is_kernel_for rank o ≡ true → IfSome o (λ k. (c : Body) × (◌≡◌ {A = Option Body} (Some b) (Some c)) × IsCellKernel calls bs e form c k) → IsElement (body_cell site b)
  body_element site b None own is = absurd (cc)
  body_element site b (Some k) own is =
      let ranked : k.rank ≡ rank = eqb-true k.rank rank own in
      let r = registers_of index few in
      let this : IsCellKernel calls bs e form b k = subst (λ (c : Body). IsCellKernel calls bs e form c k) (some_body b is.0 is.1) is.2 in
      answer_element shape site form k.result bs (run (calls.means turns) turns (core_of (code_term b.block)) (body_env e b index)) (gives turns bs (kernel_term k.block) r.0) this.fits (this.cell turns r.0 index r.1 (long ∙ sym ranked) r.2)

  -- ---- all parts

  abbrev loop_cell : List CodePart → Ends (Option ArrayValue)
  loop_cell parts = cell_at shape (cells (calls.means turns) turns (core_of_parts (parts_term parts)) e) index

  parts_element : (parts : List CodePart) (kernels : List (Option CellKernel)) → length kernels ≡ length parts → list_all (is_kernel_for rank) kernels ≡ true → AreCellKernels calls bs e form (map part_body parts) kernels
      → (loop_cell parts ≡ Ok None → ⊥) → IsElement (loop_cell parts)
  parts_element [] kernels many own are there = elim (there refl) [ ]
  parts_element (p ∷ parts) [] many own are there = absurd (omega (arith, many))
  parts_element (p ∷ parts) (o ∷ kernels) many own are there =
      go (parts_element parts kernels (omega (arith, many)) (and_right (is_kernel_for rank o) (list_all (is_kernel_for rank) kernels) own) (λ k. are (suc k))) (has_vector p.grid index) there
    where
      go : ((loop_cell parts ≡ Ok None → ⊥) → IsElement (loop_cell parts)) → (inside : Bool) → ((if inside then body_cell p.site (part_body p) else loop_cell parts) ≡ Ok None → ⊥) → IsElement (if inside then body_cell p.site (part_body p) else loop_cell parts)
      go rest true there = body_element p.site (part_body p) o (and_left (is_kernel_for rank o) (list_all (is_kernel_for rank) kernels) own) (are 0)
      go rest false there = rest there

-- ---- all kernels

own_elements : (calls : Calls) (turns : ℕ) (parts : List CodePart) (form : Form) (known : Known) (kernels : List (Option CellKernel)) (bs : List ArrayValue) (e : Env) → AreCellKernels calls bs e form (map part_body parts) kernels
    → (x : Var) (rank : ℕ) (o : Option Held) → length kernels ≡ length parts → rank ≤ 8 → own_in kernels known x rank o ≡ true → (shape : ArrayValue) (index : List ℤ) → length index ≡ rank
    → (cell_at shape (cells (calls.means turns) turns (core_of_parts (parts_term parts)) e) index ≡ Ok None → ⊥) → IsElement (cell_at shape (cells (calls.means turns) turns (core_of_parts (parts_term parts)) e) index)
own_elements calls turns parts form known kernels bs e are x rank (Some (Whole base r b)) many few own shape index long there =
    parts_element calls turns bs e index (omega (arith, long, few)) rank long form shape parts kernels many (kernels_for rank b kernels (and_right (holds_alone known x b) (kernels_own kernels rank b) own)) are there
own_elements calls turns parts form known kernels bs e are x rank None many few own shape index long there =
    parts_element calls turns bs e index (omega (arith, long, few)) rank long form shape parts kernels many own are there
own_elements calls turns parts form known kernels bs e are x rank o many few own shape index long there = absurd (cc)

pub elements_own : (calls : Calls) (turns : ℕ) (parts : List CodePart) (form : Form) (known : Known) (kernels : List (Option CellKernel)) (bs : List ArrayValue) (e : Env) → AreCellKernels calls bs e form (map part_body parts) kernels
    → (x : Var) (rank : ℕ) → parts_own kernels (length parts) known x rank ≡ true → (shape : ArrayValue) (index : List ℤ) → length index ≡ rank
    → (cell_at shape (cells (calls.means turns) turns (core_of_parts (parts_term parts)) e) index ≡ Ok None → ⊥) → IsElement (cell_at shape (cells (calls.means turns) turns (core_of_parts (parts_term parts)) e) index)
elements_own calls turns parts form known kernels bs e are x rank own shape index long there =
    let counts = nat_eq (length kernels) (length parts) && nat_le rank 8 in
    let place = own_in kernels known x rank (found x known) in
    let counted = and_left counts place own in
    own_elements calls turns parts form known kernels bs e are x rank (found x known)
    (eqb-true (length kernels) (length parts) (and_left (nat_eq (length kernels) (length parts)) (nat_le rank 8) counted)) (leb-true rank 8 (and_right (nat_eq (length kernels) (length parts)) (nat_le rank 8) counted))
    (and_right counts place own) shape index long there
