-- What holds at the place where a with-loop becomes a parted loop with new variables.
use Rattle.std.proofs.Common.{◌≡◌, ℕ, ◌+◌, ◌*◌, ◌<◌, ◌≤◌, Bool, true, false, ◌||◌, eqb, List, [], ◌∷◌, ◌++◌, length, All, Some, refl, sym, subst, ◌∙◌, inr, arith}
use Rattle.std.specs.Prelude.{zip}
use Rattle.std.proofs.lemmas.List.Elements.{All-head, All-tail}
use Rattle.sac_base.specs.declared.base.Base.{Base}
use Rattle.sac_base.specs.declared.grid.Grid1.{Grid1}
use Rattle.sac_base.specs.declared.site.Site.{Site}
use Rattle.core_ir.specs.declared.tree.Var.{Var}
use Rattle.core_ir.specs.declared.tree.CoreOp.{CoreOp}
use Rattle.core_ir.specs.declared.tree.CoreOp.TheVariants as making
use Rattle.core_ir.specs.declared.tree.PartedOp.{PartedOp}
use Rattle.core_ir.specs.declared.tree.PartedOp.TheVariants as parted
use Rattle.core_ir.specs.Binders.{is_in, bound_in, bound_in_right, bound_in_gens, bound_in_parts}
use Rattle.core_ir.specs.Scopes.{AllIn, Scoped, ScopedRight, op_uses, parted_uses}
use Rattle.core_ir.specs.Terms.{BlockTerm, RightTerm, GensTerm, PartsTerm, CoreTerm, Bind, With}
use Rattle.core_ir.specs.WellFormed.{Bases, base_of, OperationBase, PartedBase, PartedFits, part_grids, GroupBases, BlockBases, RightBases, Distinct}
use Rattle.core_ir.proofs.Variables.{same_number}
use Rattle.core_facts.specs.calls.Nests.{CallsAll, CallsAllRight}
use Rattle.core_facts.specs.Facts.{Facts}
use Rattle.core_loops.specs.Loops.{weight, weight_right, weight_gens}
use Rattle.core_loops.specs.norm_steps.Step.{BaseTable, Within, Follows, WithParted}
use Rattle.core_forms.proofs.inlined_bodies.Names.{Names, same, both, distinct_left, distinct_right, Fresh, fresh_left}
use Rattle.core_forms.proofs.inlined_bodies.Names as names
use Rattle.core_forms.specs.norm.Alike.{LabelledAlike}
use Rattle.core_forms.specs.norm.Fresh.{FreshHere, FrameFits, IsBetween, base_var, count_parts, labels_of, parts_of}
use Rattle.core_forms.proofs.norm.Below.{olds, OldBases, moved, all_new_right}
use Rattle.core_forms.proofs.norm.Calls.{parts_calls}
use Rattle.core_forms.proofs.norm.Made.{MadeParts, made_genarray, made_modarray, made_fold}
use Rattle.core_forms.proofs.norm.Scopes.{parts_scoped}
use Rattle.core_forms.proofs.norm.Tables.{Low}
use Rattle.core_forms.proofs.norm.Typing.{parts_bases}
use Rattle.core_forms.proofs.norm.Weights.{parted_weight}

-- ---- what all operations share

abbrev op_of : CoreOp → PartedOp
op_of (making.Genarray x y) = parted.Genarray
op_of (making.Modarray x) = parted.Modarray x
op_of (making.Fold o x) = parted.Fold o x

pub record Placed (m : BaseTable) (op : CoreOp) (gens : GensTerm) (right : RightTerm) : Type 0 where
  pub frame : List Grid1
  pub base : Base
  pub cell : List ℕ
  pub parts : PartsTerm
  pub made : right ≡ RightTerm.Parted frame base cell (op_of op) parts
  pub own : MadeParts (length frame) (base_var op) gens parts
  pub table : base ≡ m (base_var op)

placed :
    (m : BaseTable) (k : Facts) (above : ℕ) (s : Site) (op : CoreOp) (gens : GensTerm) (right : RightTerm) (h : WithParted m k above s op gens right) →
    LabelledAlike gens (labels_of m k above s op gens right h) (parts_of right) → Placed m op gens right
placed m k above s (making.Genarray x y) gens right h a = record {
  frame = h.0.partable.frame;
  base = h.0.partable.base;
  cell = h.0.cell;
  parts = h.0.parts;
  made = h.0.made;
  own = made_genarray y (length h.0.partable.frame) gens h.0.labels h.0.parts h.0.labelled (subst (λ (r : RightTerm). LabelledAlike gens h.0.labels (parts_of r)) h.0.made a);
  table = h.1;
}
placed m k above s (making.Modarray x) gens right h a = record {
  frame = h.0.partable.frame;
  base = h.0.partable.base;
  cell = h.0.cell;
  parts = h.0.parts;
  made = h.0.made;
  own = made_modarray x (length h.0.partable.frame) gens h.0.labels h.0.parts h.0.labelled (subst (λ (r : RightTerm). LabelledAlike gens h.0.labels (parts_of r)) h.0.made a);
  table = h.1;
}
placed m k above s (making.Fold o x) gens right h a = record {
  frame = h.0.partable.frame;
  base = h.0.partable.base;
  cell = h.0.cell;
  parts = h.0.parts;
  made = h.0.made;
  own = made_fold x (length h.0.partable.frame) gens h.0.labels h.0.parts h.0.labelled (subst (λ (r : RightTerm). LabelledAlike gens h.0.labels (parts_of r)) h.0.made a);
  table = h.1;
}

few_axes : (op : CoreOp) (frame : List Grid1) (cell : List ℕ) (grids : List (List Grid1)) → PartedFits (op_of op) frame cell grids → length frame ≤ 8
few_axes (making.Genarray x y) frame cell grids h = h.0.rank
few_axes (making.Modarray x) frame cell grids h = h.0.rank
few_axes (making.Fold o x) frame cell grids h = h.0.rank

uses_kept : (op : CoreOp) (scope : List Var) → AllIn (op_uses op) scope → AllIn (parted_uses (op_of op)) scope
uses_kept (making.Genarray x y) scope h = tt
uses_kept (making.Modarray x) scope h = h
uses_kept (making.Fold o x) scope h = h

var_in : (op : CoreOp) (scope : List Var) → AllIn (op_uses op) scope → is_in (base_var op) scope ≡ true
var_in (making.Genarray x y) scope h = h.1.0
var_in (making.Modarray x) scope h = h.0
var_in (making.Fold o x) scope h = h.0

var_base : (op : CoreOp) (g : Bases) (t : Base) → OperationBase g op t → base_of g (base_var op) ≡ Some t
var_base (making.Genarray x y) g t h = h.1
var_base (making.Modarray x) g t h = h
var_base (making.Fold o x) g t h = h.0

parted_base : (op : CoreOp) (g : Bases) (t : Base) → OperationBase g op t → PartedBase g (op_of op) t
parted_base (making.Genarray x y) g t h = tt
parted_base (making.Modarray x) g t h = h
parted_base (making.Fold o x) g t h = h

pub all_member : (P : Var → Type 0) (xs : List Var) (y : Var) → All P xs → is_in y xs ≡ true → P y
all_member P [] y h m = names.clash false m refl
all_member P (x ∷ xs) y h m = go (eqb x.0 y.0) refl m (λ n. all_member P xs y (All-tail P x xs h) n)
  where
    go : (b : Bool) → eqb x.0 y.0 ≡ b → (b || is_in y xs) ≡ true → (is_in y xs ≡ true → P y) → P y
    go true e n rec = subst P (same_number x y e) (All-head P x xs h)
    go false e n rec = rec n

not_below : (low n y : ℕ) → low ≤ y → n ≤ low → n ≤ y
not_below low n y p q = omega arith

-- ---- at the place

module _ (first low high : ℕ) (m : BaseTable) (k : Facts) (b c : BlockTerm) (fresh : FreshHere first low high m k b c) where
  abbrev here : Rattle.core_loops.specs.norm_steps.Step.NormHere low m k b c
  here = fresh.step

  abbrev old_right : RightTerm
  old_right = With here.op here.gens

  at : Placed m here.op here.gens here.right
  at = placed m k low here.site here.op here.gens here.right here.parted fresh.alike

  in_parts : (y : Var) → is_in y (bound_in_parts at.parts) ≡ true → (low ≤ y.0) × (y.0 < high)
  in_parts y h = all_member (IsBetween low high) (bound_in_right here.right) y fresh.between ((λ i. is_in y (bound_in_right (at.made i))) ∙ h)

  parts_once : Distinct (bound_in_parts at.parts)
  parts_once = subst (λ (r : RightTerm). Distinct (bound_in_right r)) at.made fresh.once

  fits : PartedFits (op_of here.op) at.frame at.cell (part_grids at.parts)
  fits = subst FrameFits at.made fresh.fits

  pub place_names : Names (bound_in b) (bound_in c) low high
  place_names =
      subst (λ (x : BlockTerm). Names (bound_in x) (bound_in c) low high) (sym here.before)
      (subst (λ (x : BlockTerm). Names (bound_in (Bind here.targets here.site old_right here.rest)) (bound_in x) low high) (sym here.after)
      (both here.targets (bound_in_gens here.gens ++ bound_in here.rest) here.targets (bound_in_right here.right ++ bound_in here.rest) low low high (omega arith) fresh.rises (same here.targets low low)
      (both (bound_in_gens here.gens) (bound_in here.rest) (bound_in_right here.right) (bound_in here.rest) low high high fresh.rises (omega arith)
      (record { within = λ y h. inr (all_member (IsBetween low high) (bound_in_right here.right) y fresh.between h); once = λ d f. fresh.once })
      (same (bound_in here.rest) high high))))

  pub place_scoped : (scope : List Var) → Scoped scope b → Fresh scope low → Fresh (bound_in b) low → Scoped scope c
  place_scoped scope s f d =
      let old : Scoped scope (Bind here.targets here.site old_right here.rest) = subst (Scoped scope) here.before s in
      subst (Scoped scope) (sym here.after) (
        subst (ScopedRight scope) (sym at.made) (
          uses_kept here.op scope old.0.0,
          parts_scoped (length at.frame) (base_var here.op) here.gens at.parts scope at.own (var_in here.op scope old.0.0) old.0.1 parts_once (λ y h. f y (in_parts y h).0),
        ),
        old.1,
        old.2,
      )

  pub place_calls : (P : ℕ → Type 0) → CallsAll P b → CallsAll P c
  place_calls P h =
      let old : CallsAll P (Bind here.targets here.site old_right here.rest) = subst (CallsAll P) here.before h in
      subst (CallsAll P) (sym here.after)
      (subst (CallsAllRight P) (sym at.made) (parts_calls P (length at.frame) (base_var here.op) here.gens at.parts at.own old.0), old.1)

  pub place_weight : weight c < weight b
  place_weight =
      let lighter : weight_right here.right < 1 + 65 * weight_gens here.gens =
      subst (λ (r : RightTerm). weight_right r < 1 + 65 * weight_gens here.gens) (sym at.made)
      (parted_weight (length at.frame) (base_var here.op) here.gens at.parts at.own (subst (λ (r : RightTerm). count_parts (parts_of r) ≤ 64) at.made fresh.few)) in
      subst (λ (x : BlockTerm). weight c < weight x) (sym here.before) (subst (λ (x : BlockTerm). weight x < (1 + 65 * weight_gens here.gens) + weight here.rest) (sym here.after) (more (weight_right here.right) (1 + 65 * weight_gens here.gens) (weight here.rest) lighter))
    where
      more : (p q r : ℕ) → p < q → p + r < q + r
      more p q r h = omega arith

  module _ (core next : CoreTerm) (into : (group : ℕ) (us ts : List Base) → GroupBases core group us ts → GroupBases next group us ts) (below : first ≤ low) where
    right_based : (g : Bases) (us : List Base) → Within m g → Low g low → Distinct (bound_in_gens here.gens) → RightBases core g old_right us → RightBases next g here.right us
    right_based g us w l o d =
        let v = base_var here.op in
        let has : base_of g v ≡ Some d.0 = var_base here.op g d.0 d.1.0 in
        let same_base : d.0 ≡ at.base = w v d.0 has ∙ sym at.table in
        subst (λ (r : RightTerm). RightBases next g r us) (sym at.made)
        (subst (λ (t : Base). RightBases next g (RightTerm.Parted at.frame t at.cell (op_of here.op) at.parts) us) same_base (
          parted_base here.op g d.0 d.1.0,
          parts_bases core next into (length at.frame) v here.gens at.parts g d.0 (few_axes here.op at.frame at.cell (part_grids at.parts) fits) at.own has d.1.1 o parts_once (λ y h. l y (in_parts y h).0),
          fits,
          d.1.2,
        ))

    all_new : (y : Var) → is_in y (bound_in_right here.right) ≡ true → first ≤ y.0
    all_new y h = not_below low first y.0 (all_member (IsBetween low high) (bound_in_right here.right) y fresh.between h).0 below

    new_based :
        (g : Bases) (ts : List Base) → (d : BlockBases core g (Bind here.targets here.site old_right here.rest) ts) → Within m g → Follows core m (Bind here.targets here.site old_right here.rest) g ts d → Low g low →
        Distinct (bound_in (Bind here.targets here.site old_right here.rest)) → (e : BlockBases next g (Bind here.targets here.site here.right here.rest) ts) × OldBases next first m (Bind here.targets here.site here.right here.rest) g ts e
    new_based g ts d w f l o =
        let r = right_based g d.0 w l (distinct_left (bound_in_gens here.gens) (bound_in here.rest) (distinct_right here.targets (bound_in_gens here.gens ++ bound_in here.rest) o)) d.1.0 in
        let rest = moved first m core next into here.rest (zip here.targets d.0 ++ g) ts d.1.2 f.2 in
        ((d.0, (r, d.1.1, rest.0)), (olds first m here.targets d.0 f.0, all_new_right first m next here.right g d.0 r all_new, rest.1))

    pub place_bases :
        (g : Bases) (ts : List Base) → (d : BlockBases core g b ts) → Within m g → Follows core m b g ts d → Low g low → Fresh (bound_in b) low → Distinct (bound_in b) →
        (e : BlockBases next g c ts) × OldBases next first m c g ts e
    place_bases g ts =
        subst (λ (x : BlockTerm). (d : BlockBases core g x ts) → Within m g → Follows core m x g ts d → Low g low → Fresh (bound_in x) low → Distinct (bound_in x) → (e : BlockBases next g c ts) × OldBases next first m c g ts e) (sym here.before)
        (λ d w f l v o. subst (λ (x : BlockTerm). (e : BlockBases next g x ts) × OldBases next first m x g ts e) (sym here.after) (new_based g ts d w f l o))
