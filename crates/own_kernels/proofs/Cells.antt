-- Cells by kernels that read their own element alone.
use Rattle.std.proofs.Common.{◌≡◌, ℕ, suc, ◌-◌, ◌≤◌, ℤ, pos, Bool, true, false, ◌&&◌, nat_eq, nat_le, List, [], ◌∷◌, ◌++◌, length, map, get_or, replicate, Option, Some, None, Ok, Err, length-append, refl, sym, ap, subst, ◌∙◌, arith}
use Rattle.std.specs.Prelude.{if◌then◌else◌, slice_set, IfSome, All}
use Rattle.std.specs.List.{list_all}
use Rattle.std.proofs.lemmas.Bool.{eqb-true, leb-true}
use Rattle.std.proofs.lemmas.List.{get_or_append_left, length-replicate}
use Rattle.sac_base.specs.declared.base.Base.{Base}
use Rattle.sac_base.specs.declared.form.Form.{Form}
use Rattle.sac_base.specs.Arrays.{ArrayValue}
use Rattle.sac_base.specs.Grids.{has_vector}
use Rattle.sac_base.specs.Outcomes.{Ends, and_then}
use Rattle.core_ir.specs.declared.tree.Var.{Var}
use Rattle.core_ir.specs.Meaning.{Answer, Env, cell_at, cell_form, cells, first, held, run}
use Rattle.counted_code.specs.declared.tree.CodePart.{CodePart}
use Rattle.counted_code.specs.Terms.{core_of, core_of_parts}
use Rattle.counted_code.specs.View.{code_term}
use Rattle.kernel_tree.specs.declared.tree.Held.{Held}
use Rattle.kernel_tree.specs.declared.tree.Held.TheVariants.{Word, Number, Short, Numbers, Whole}
use Rattle.kernel_tree.specs.Terms.{gives}
use Rattle.kernel_tree.specs.View.{kernel_term}
use Rattle.kernel_code.specs.Calls.{Calls}
use Rattle.kernel_code.specs.Relations.{Known, array_of, found}
use Rattle.kernel_rows.specs.declared.kernels.CellKernel.{CellKernel}
use Rattle.kernel_code.specs.Relations.{IsScope}
use Rattle.kernel_rows.specs.Kernels.{AreCellKernels, Body, HasCellForm, HasIndex, HoldsCell, IsCellKernel, body_env}
use Rattle.counted_code.specs.Pieces.{parts_term}
use Rattle.phase_laws.specs.Spending.{parts_take, spends}
use Rattle.own_kernels.specs.Kernels.{ArePartKernels, holds_alone, is_kernel_for, is_own_kernel, kernels_own, own_in, part_body, parts_own}
use Rattle.phase_loop_laws.specs.over_phases.Own.{PartsReadOwn, SameButAt}
use Rattle.own_kernels.specs.Statements.{SameAt}
use Rattle.own_kernels.specs.Steps.{is_own}
use Rattle.own_kernels.proofs.Bools.{and_left, and_right}
use Rattle.own_kernels.proofs.Gives.{gives_same}
use Rattle.own_kernels.proofs.Scopes.{same_at, scope_set, scope_unknown}

-- ---- one kernel

-- registers that begin with an index
registers_of : (index : List ℤ) → length index ≤ 8 → (r : List ℤ) × (length r ≡ 256) × HasIndex r index
registers_of index few =
    let zeros = replicate (256 - length index) (pos 0) in
    let long : length (index ++ zeros) ≡ 256 = (let a = length-append index zeros in let z = length-replicate (256 - length index) (pos 0) in omega (arith, a, z, few)) in
    (index ++ zeros, long, λ k lt. get_or_append_left index zeros (pos 0) k lt)

-- a scalar is held alike, whatever buffers there are
held_same : (form : Form) (h : Held) (r : List ℤ) (bs cs : List ArrayValue) → HasCellForm form h → array_of r cs h ≡ array_of r bs h
held_same form (Word base k) r bs cs has = refl
held_same form (Number base n) r bs cs has = refl
held_same form (Short base ks n) r bs cs has = absurd has
held_same form (Numbers base zs n) r bs cs has = absurd has
held_same form (Whole base rank b) r bs cs has = absurd has

some_body : (b c : Body) → ◌≡◌ {A = Option Body} (Some b) (Some c) → c ≡ b
some_body b c e = sym (cc)

-- so bodies whose kernels end alike have the same answer
answers_same : (form : Form) (h : Held) (bs cs : List ArrayValue) (m n : Answer) (ends : Ends (List ℤ)) → HasCellForm form h → HoldsCell cs h m ends → HoldsCell bs h n ends → m ≡ n
answers_same form h bs cs (Ok us) (Ok ws) (Ok r) has one other = ap (λ (x : List ArrayValue). Ok x) (one ∙ ap (λ (a : ArrayValue). a ∷ []) (held_same form h r bs cs has) ∙ sym other)
answers_same form h bs cs (Ok us) (Err g) (Ok r) has one other = absurd other
answers_same form h bs cs (Err g) n (Ok r) has one other = absurd one
answers_same form h bs cs (Err g) (Err k) (Err f) has one other = ap (λ x. Err x) (one ∙ sym other)
answers_same form h bs cs (Err g) (Ok ws) (Err f) has one other = absurd other
answers_same form h bs cs (Ok us) n (Err f) has one other = absurd one

-- the kernel is for indices of so many components, and gives the same of both lists of buffers
abbrev GivesTheSame : (turns rank : ℕ) → (index : List ℤ) → (bs cs : List ArrayValue) → CellKernel → Type 0
GivesTheSame turns rank index bs cs k = (k.rank ≡ rank) × ((r : List ℤ) → HasIndex r index → gives turns cs (kernel_term k.block) r ≡ gives turns bs (kernel_term k.block) r)

module _ (calls : Calls) (turns : ℕ) (bs cs : List ArrayValue) (e f : Env) (index : List ℤ) (few : length index ≤ 8) (rank : ℕ) (long : length index ≡ rank) (form : Form) where
  -- what the body's block comes to, and takes
  abbrev body_runs : Env → Body → Answer
  body_runs ρ b = run (calls.means turns) turns (core_of (code_term b.block)) (body_env ρ b index)

  abbrev body_takes : Env → Body → ℕ
  body_takes ρ b = (spends (calls.means turns) turns (calls.spends turns) (code_term b.block) (body_env ρ b index)).taken

  body_same : (b : Body) (k : CellKernel) → GivesTheSame turns rank index bs cs k → IsCellKernel calls bs e form b k → IsCellKernel calls cs f form b k → (body_runs f b ≡ body_runs e b) × (body_takes f b ≡ body_takes e b)
  body_same b k alike old new =
      let wanted : length index ≡ k.rank = long ∙ sym alike.0 in
      let r = registers_of index few in (
        answers_same form k.result bs cs (body_runs f b) (body_runs e b) (gives turns bs (kernel_term k.block) r.0) old.fits
            (subst (HoldsCell cs k.result (body_runs f b)) (alike.1 r.0 r.2) (new.cell turns r.0 index r.1 wanted r.2)) (old.cell turns r.0 index r.1 wanted r.2),
        new.takes turns r.0 index r.1 wanted r.2 ∙ sym (old.takes turns r.0 index r.1 wanted r.2),
      )

  module _ (passes : Option CellKernel → Bool) (some : passes None ≡ true → ⊥) (alike : (k : CellKernel) → passes (Some k) ≡ true → GivesTheSame turns rank index bs cs k) where
    -- the kernel of a body that is there
    kernel_same : (b : Body) (o : Option CellKernel) → passes o ≡ true → IfSome o (λ k. (c : Body) × (◌≡◌ {A = Option Body} (Some b) (Some c)) × IsCellKernel calls bs e form c k)
        → IfSome o (λ k. (c : Body) × (◌≡◌ {A = Option Body} (Some b) (Some c)) × IsCellKernel calls cs f form c k) → (body_runs f b ≡ body_runs e b) × (body_takes f b ≡ body_takes e b)
    kernel_same b None pass old new = absurd (some pass)
    kernel_same b (Some k) pass old new =
        let was : old.0 ≡ b = some_body b old.0 old.1 in
        let is : new.0 ≡ b = some_body b new.0 new.1 in
        body_same b k (alike k pass) (subst (λ (c : Body). IsCellKernel calls bs e form c k) was old.2) (subst (λ (c : Body). IsCellKernel calls cs f form c k) is new.2)

    module _ (shape : ArrayValue) where
      abbrev loop_cell : Env → List CodePart → Ends (Option ArrayValue)
      loop_cell ρ parts = cell_at shape (cells (calls.means turns) turns (core_of_parts (parts_term parts)) ρ) index

      abbrev loop_takes : Env → List CodePart → ℕ
      loop_takes ρ parts = parts_take (calls.means turns) turns (calls.spends turns) (parts_term parts) ρ index

      -- the parts one by one
      pub parts_same : (parts : List CodePart) (kernels : List (Option CellKernel)) → length kernels ≡ length parts → list_all passes kernels ≡ true
          → AreCellKernels calls bs e form (map part_body parts) kernels → AreCellKernels calls cs f form (map part_body parts) kernels
          → (loop_cell f parts ≡ loop_cell e parts) × (loop_takes f parts ≡ loop_takes e parts)
      parts_same [] kernels many all old new = (refl, refl)
      parts_same (p ∷ parts) [] many all old new = absurd (omega (arith, many))
      parts_same (p ∷ parts) (o ∷ kernels) many all old new =
          let here = kernel_same (part_body p) o (and_left (passes o) (list_all passes kernels) all) (old 0) (new 0) in
          let rest = parts_same parts kernels (omega (arith, many)) (and_right (passes o) (list_all passes kernels) all) (λ k. old (suc k)) (λ k. new (suc k)) in (
            (λ i. if has_vector p.grid index then and_then (first (here.0 i)) (held shape p.site) else rest.0 i),
            (λ i. if has_vector p.grid index then here.1 i else rest.1 i),
          )

-- ---- all kernels

own_gives : (turns rank buffer : ℕ) (index : List ℤ) (bs cs : List ArrayValue) → length index ≡ rank → SameAt buffer index bs cs → (k : CellKernel) → is_own_kernel rank buffer (Some k) ≡ true → GivesTheSame turns rank index bs cs k
own_gives turns rank buffer index bs cs long same k own =
    let reads = is_own k.rank buffer (kernel_term k.block) in
    let ranked : k.rank ≡ rank = eqb-true k.rank rank (and_left (nat_eq k.rank rank) reads own) in
    (ranked, λ r has. gives_same turns k.rank buffer (kernel_term k.block) index r bs cs (and_right (nat_eq k.rank rank) reads own) (long ∙ sym ranked) has same)

none_fails : false ≡ true → ⊥
none_fails e = cc

own_parts : (calls : Calls) (turns : ℕ) (parts : List CodePart) (form : Form) (known : Known) (kernels : List (Option CellKernel)) → ArePartKernels calls known form parts kernels
    → (v : Var) (rank : ℕ) (o : Option Held) → found v known ≡ o → length kernels ≡ length parts → rank ≤ 8 → own_in kernels known v rank o ≡ true
    → (bs : List ArrayValue) (e : Env) → IsScope bs e known → (shape : ArrayValue) (index : List ℤ) → length index ≡ rank → (f : Env) → SameButAt v index e f
    → (cell_at shape (cells (calls.means turns) turns (core_of_parts (parts_term parts)) f) index ≡ cell_at shape (cells (calls.means turns) turns (core_of_parts (parts_term parts)) e) index)
    × (parts_take (calls.means turns) turns (calls.spends turns) (parts_term parts) f index ≡ parts_take (calls.means turns) turns (calls.spends turns) (parts_term parts) e index)
own_parts calls turns parts form known kernels are v rank (Some (Whole base r b)) there many few own bs e scope shape index long f same =
    let alone = and_left (holds_alone known v b) (kernels_own kernels rank b) own in
    let cs = slice_set bs b (f v) in
    parts_same calls turns bs cs e f index (omega (arith, long, few)) rank long form (is_own_kernel rank b) none_fails
    (own_gives turns rank b index bs cs long (same_at bs e f known v index base r b scope there same)) shape parts kernels many
    (and_right (holds_alone known v b) (kernels_own kernels rank b) own) (are bs e scope) (are cs f (scope_set bs e f known v index base r b scope there same alone))
own_parts calls turns parts form known kernels are v rank None unknown many few own bs e scope shape index long f same =
    parts_same calls turns bs bs e f index (omega (arith, long, few)) rank long form (is_kernel_for rank) none_fails (λ k ranked. (eqb-true k.rank rank ranked, λ r has. refl)) shape parts kernels many
    own (are bs e scope) (are bs f (scope_unknown bs e f known v index scope unknown same))
own_parts calls turns parts form known kernels are v rank o there many few own bs e scope shape index long f same = absurd (cc)

pub cells_read_own : (calls : Calls) (turns : ℕ) (parts : List CodePart) (form : Form) (known : Known) (kernels : List (Option CellKernel)) → ArePartKernels calls known form parts kernels
    → (v : Var) (rank : ℕ) → parts_own kernels (length parts) known v rank ≡ true → (bs : List ArrayValue) (e : Env) → IsScope bs e known
    → (indices : List (List ℤ)) → All (λ index. length index ≡ rank) indices → (base : Base) → PartsReadOwn (calls.means turns) turns (calls.spends turns) (parts_term parts) base v indices e
cells_read_own calls turns parts form known kernels are v rank own bs e scope indices all base p f lt same =
    let counts = nat_eq (length kernels) (length parts) && nat_le rank 8 in
    let place = own_in kernels known v rank (found v known) in
    let counted = and_left counts place own in
    own_parts calls turns parts form known kernels are v rank (found v known) refl
    (eqb-true (length kernels) (length parts) (and_left (nat_eq (length kernels) (length parts)) (nat_le rank 8) counted)) (leb-true rank 8 (and_right (nat_eq (length kernels) (length parts)) (nat_le rank 8) counted))
    (and_right counts place own) bs e scope (cell_form base []) (get_or indices p []) (all p [] lt) f same
