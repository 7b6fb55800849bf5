-- What makes the first parted loop of a part its inner loop.
use Rattle.std.proofs.Common.{◌≡◌, ◌≤◌, ℕ, suc, Bool, true, false, List, [], ◌∷◌, ◌++◌, length, map, Option, Some, None, refl, ap, sym, subst, ◌∙◌, true≢false, get_or}
use Rattle.std.proofs.lemmas.List.{length-map}
use Rattle.std.specs.Prelude.{IsTrue, option_map}
use Rattle.sac_base.specs.declared.base.Base.{Base}
use Rattle.sac_base.specs.declared.grid.Grid1.{Grid1}
use Rattle.core_ir.specs.declared.tree.Var.{Var}
use Rattle.core_ir.specs.declared.tree.PartedLoop.{PartedLoop, out-PartedLoop}
use Rattle.core_ir.specs.declared.tree.PartedOp.TheVariants as parted
use Rattle.core_ir.specs.View.{part_term, parted_term}
use Rattle.core_ir.specs.Terms.{RightTerm, LetTerm, PartTerm, PartsTerm, Parted, parts_of}
use Rattle.core_facts.specs.Facts.{Facts, in_part}
use Rattle.core_loops.specs.Indices.{own_index}
use Rattle.core_loops.specs.Loops.{binders, FEW}
use Rattle.core_loops.specs.Pairs.{AvoidsLets, count_parts}
use Rattle.merge_plans.specs.scalarisable.Around.{are_total, none_uses}
use Rattle.merge_plans.proofs.scalarisable.Decided.{totals_decided, uses_decided}
use Rattle.merge_plans.specs.Inners.{HasInner, IsInner, parts_in}
use Rattle.merge_plans.specs.Mergeable.{FitBehind}
use Rattle.merge_plans.specs.declared.finding.Nest.{Nest}
use Rattle.merge_plans.specs.Openings.{Opened, nest_term, opened}
use Rattle.merge_plans.proofs.Parts.{parts_are}
use Rattle.merge_plans.proofs.Opens.{nest_opens, same_opened, whole}

-- ---- without facts

same_var : (x y : Var) (xs : List Var) → xs ≡ x ∷ [] → xs ≡ y ∷ [] → x ≡ y
same_var x y xs e f = ap (λ zs. get_or zs 0 x) (sym e ∙ f)

module _ (grid frame : List Grid1) (base : Base) (o : Opened) (z : Var) (t : o.targets ≡ z ∷ []) where
  pub inner_if :
      (b : Bool) → o.results ≡ z ∷ [] → o.right ≡ Parted frame base [] parted.Genarray (parts_in o.right) → FitBehind grid (parts_in o.right) →
      (IsTrue b → AvoidsLets z o.before × AvoidsLets z o.after) × (AvoidsLets z o.before × AvoidsLets z o.after → IsTrue b) →
      (IsTrue b → HasInner grid frame base o) × (HasInner grid frame base o → IsTrue b)
  inner_if b r form fits apart = (
    λ h. record { target = z; targets = t; results = r; form = form; fits = fits; before = (apart.0 h).0; after = (apart.0 h).1 },
    λ h. apart.1 (subst (λ x. AvoidsLets x o.before × AvoidsLets x o.after) (same_var h.target z o.targets h.targets t) (h.before, h.after)),
  )

pub both_decided :
    (z : Var) (ls ms : List LetTerm) (b : Bool) → none_uses z ls ≡ true → b ≡ none_uses z ms → (IsTrue b → AvoidsLets z ls × AvoidsLets z ms) × (AvoidsLets z ls × AvoidsLets z ms → IsTrue b)
both_decided z ls ms b h e = (λ t. ((uses_decided z ls).0 h, (uses_decided z ms).0 (sym e ∙ t)), λ w. e ∙ (uses_decided z ms).1 w.1)

pub not_both : (z : Var) (ls ms : List LetTerm) (b : Bool) → none_uses z ls ≡ false → b ≡ false → (IsTrue b → AvoidsLets z ls × AvoidsLets z ms) × (AvoidsLets z ls × AvoidsLets z ms → IsTrue b)
not_both z ls ms b h e = (λ t. absurd (true≢false (sym t ∙ e)), λ w. absurd (true≢false (sym ((uses_decided z ls).1 w.0) ∙ h)))

-- ---- with facts

avoids_left : (z : Var) (ls ms : List LetTerm) → AvoidsLets z (ls ++ ms) → AvoidsLets z ls
avoids_left z [] ms h = tt
avoids_left z (l ∷ ls) ms h = (h.0, avoids_left z ls ms h.1)

avoids_right : (z : Var) (ls ms : List LetTerm) → AvoidsLets z (ls ++ ms) → AvoidsLets z ms
avoids_right z [] ms h = h
avoids_right z (l ∷ ls) ms h = avoids_right z ls ms h.1

avoids_both : (z : Var) (ls ms : List LetTerm) → AvoidsLets z ls → AvoidsLets z ms → AvoidsLets z (ls ++ ms)
avoids_both z [] ms h k = k
avoids_both z (l ∷ ls) ms h k = (h.0, avoids_both z ls ms h.1 k)

module _ (called : ℕ → List (Option (List ℕ))) (k : Facts) (frame : List Grid1) (base : Base) (p : PartTerm) where
  abbrev nest_is : (count : ℕ) → IsInner called k frame base p count → Opened
  nest_is count w =
      record { before = w.nest.before; targets = w.nest.z ∷ []; site = w.nest.site; right = Parted frame base [] parted.Genarray w.inner; after = w.nest.after; results = w.nest.z ∷ [] }

  opens_inner : (count : ℕ) → (w : IsInner called k frame base p count) → opened p.body ≡ Some (nest_is count w)
  opens_inner count w = nest_opens called (in_part k p.head) p.head.grid (own_index (length p.head.grid) p.head.index) frame base p.body w.inner w.nest

  pub inner_same : (c d : ℕ) → IsInner called k frame base p c → IsInner called k frame base p d → c ≡ d
  inner_same c d v w =
      v.number ∙ ap (λ (o : Opened). count_parts (parts_in o.right)) (same_opened (nest_is c v) (nest_is d w) (sym (opens_inner c v) ∙ opens_inner d w)) ∙ sym w.number

  pub none_opened : opened p.body ≡ None → (count : ℕ) → IsInner called k frame base p count → ⊥
  none_opened e count w = let f : None ≡ Some (nest_is count w) = sym e ∙ opens_inner count w in absurd (cc)

  module _ (o : Opened) (e : opened p.body ≡ Some o) where
    same : (count : ℕ) → (w : IsInner called k frame base p count) → o ≡ nest_is count w
    same count w = same_opened o (nest_is count w) (sym e ∙ opens_inner count w)

    pub has_inner : (count : ℕ) → IsInner called k frame base p count → HasInner p.head.grid frame base o
    has_inner count w =
        subst (HasInner p.head.grid frame base) (sym (same count w)) (record {
          target = w.nest.z;
          targets = refl;
          results = refl;
          form = refl;
          fits = w.fits;
          before = avoids_left w.nest.z w.nest.before w.nest.after w.nest.unused;
          after = avoids_right w.nest.z w.nest.before w.nest.after w.nest.unused;
        })

    pub is_passed : (count : ℕ) → IsInner called k frame base p count → are_total called p.head.grid k p.head.index o.before o.after ≡ true
    is_passed count w =
        let right = Parted frame base [] parted.Genarray w.inner in
        let after = avoids_right w.nest.z w.nest.before w.nest.after w.nest.unused in
        (λ i. are_total called p.head.grid k p.head.index (same count w i).before (same count w i).after)
        ∙ sym (totals_decided called k p.head w.nest.before w.nest.after w.nest.z w.nest.site right (w.nest.z ∷ []) after) ∙ w.nest.total

    pub inner_is : HasInner p.head.grid frame base o → binders p.body ≤ FEW → are_total called p.head.grid k p.head.index o.before o.after ≡ true
        → IsInner called k frame base p (count_parts (parts_in o.right))
    inner_is h room total =
        let inner = parts_in o.right in
        let right = Parted frame base [] parted.Genarray inner in
        record {
          inner = inner;
          nest = record {
            before = o.before;
            after = o.after;
            z = h.target;
            site = o.site;
            whole = whole p.body o e
                ∙ (λ i. Rattle.core_ir.specs.Terms.chain o.before (Rattle.core_ir.specs.Terms.Bind (h.targets i) o.site (h.form i)
                (Rattle.core_ir.specs.Terms.chain o.after (Rattle.core_ir.specs.Terms.Gives (h.results i)))));
            unused = avoids_both h.target o.before o.after h.before h.after;
            total = totals_decided called k p.head o.before o.after h.target o.site right (h.target ∷ []) h.after ∙ total;
          };
          number = refl;
          room = room;
          fits = h.fits;
        }

-- what is found is what is opened
pub found_is : (n : Option Nest) (t : Option Opened) (x : Nest) → option_map nest_term n ≡ t → n ≡ Some x → t ≡ Some (nest_term x)
found_is n t x e f = sym e ∙ ap (option_map nest_term) f

pub none_is : (n : Option Nest) (t : Option Opened) → option_map nest_term n ≡ t → n ≡ None → t ≡ None
none_is n t e f = sym e ∙ ap (option_map nest_term) f

pub count_is : (ps : List PartTerm) → count_parts (parts_of ps) ≡ length ps
count_is [] = refl
count_is (p ∷ ps) = ap suc (count_is ps)

pub parts_counted : (p : PartedLoop) (n : ℕ) → n ≡ length (out-PartedLoop p).parts.items → n ≡ count_parts (parts_in (parted_term p))
parts_counted p n e = e ∙ sym (length-map (out-PartedLoop p).parts.items part_term) ∙ sym (count_is (map part_term (out-PartedLoop p).parts.items)) ∙ ap count_parts (sym (parts_are p))
