-- The least of the arrays that a loop may take over, among those that fit.
use Rattle.std.proofs.Common.{◌≡◌, ◌≤◌, ℕ, Bool, true, false, ◌&&◌, cond, if◌then◌else◌, List, [], ◌∷◌, length, map, drop, Option, Some, None, refl, sym, ap, ◌∙◌, subst}
use Rattle.std.specs.Prelude.{eqb, unwrap_or}
use Rattle.sac_base.specs.declared.base.Base.{Base}
use Rattle.sac_base.specs.declared.grid.Grid1.{Grid1}
use Rattle.core_ir.specs.declared.tree.Var.{Var}
use Rattle.core_ir.specs.declared.tree.PartedOp.{PartedOp}
use Rattle.core_ir.specs.Meaning.{extents}
use Rattle.core_uses.specs.Tests.{none_is}
use Rattle.std.specs.Option.{is_some}
use Rattle.counted_code.specs.declared.tree.CodeLet.{CodeLet}
use Rattle.counted_code.specs.declared.tree.CodePart.{CodePart}
use Rattle.counted_code.specs.declared.tree.CodeParted.{CodeParted, out-CodeParted}
use Rattle.counted_code.specs.declared.tree.CodeRight.{CodeRight, CodeRight-F, out-CodeRight, roll-CodeRight, roll-out-CodeRight}
use Rattle.counted_code.specs.declared.tree.CodeRight.TheBlock.{the_data, the_data-1, the_data-2, the_data-3, the_data-4, the_data-5, the_data-6, the_data-7}
use Rattle.counted_code.specs.declared.tree.CodeRight.TheVariants as right
use Rattle.counted_code.specs.declared.tree.CodeWith.{CodeWith, CodeWith'}
use Rattle.counted_code.specs.declared.tree.CodeStep.{CodeStep}
use Rattle.counted_code.specs.declared.tree.CodeStep.TheVariants as step
use Rattle.counted_code.specs.Terms.{CodeTerm, CodeRightTerm, CodePartsTerm, Giving, PlainCode, IfCode, LoopCode, CallCode, WithCode, PartedCode}
use Rattle.counted_code.specs.View.{code_parted_term, code_right_term, code_with_term, steps_before, step_term}
use Rattle.counted_marks.specs.Known.{Given, Known}
use Rattle.counted_marks.specs.Marks.{own_parts}
use Rattle.counted_marks.specs.Marking.{choice, is_base, is_candidate, is_known_shape, least, lesser, makes_buffer, may_reuse, released_next}
use Rattle.counted_laws.specs.mark_places.Places.{releases_next}
use Rattle.reuse_candidates.specs.Chosen.{buffer_of, has_form}
use Rattle.counted_code.specs.Pieces.{code_part_term, code_parts_of}
use Rattle.reuse_candidates.proofs.Pairs.{drop_over}
use Rattle.counted_code.proofs.Trees.{parted_out}

-- ---- tests, in another order

ands : (n r m b s o : Bool) → m ≡ true → (((b && s) && (n && r)) && o) ≡ (n && (r && (m && (b && (s && o)))))
ands n r m b s o e = same n r b s o ∙ (λ i. n && (r && (sym e i && (b && (s && o)))))
  where
    same : (n r b s o : Bool) → (((b && s) && (n && r)) && o) ≡ (n && (r && (b && (s && o))))
    same true true true true o = refl
    same true true true false o = refl
    same true true false s o = refl
    same true false true true o = refl
    same true false true false o = refl
    same true false false s o = refl
    same false r true true o = refl
    same false r true false o = refl
    same false r false s o = refl

none_made : (n r m : Bool) (rest : Bool) → m ≡ false → (n && (r && (m && rest))) ≡ false
none_made n r m rest e = (λ i. n && (r && (e i && rest))) ∙ same n r
  where
    same : (n r : Bool) → (n && (r && false)) ≡ false
    same true true = refl
    same true false = refl
    same false r = refl

-- ---- the least

least_none : (p : Var → Bool) (found : Option Var) (xs : List Var) → ((v : Var) → p v ≡ false) → least p found xs ≡ found
least_none p found [] none = refl
least_none p found (x ∷ xs) none = (λ i. least p (if none x i then lesser x found else found) xs) ∙ least_none p found xs none

-- ---- the loop

from_test : (m : Bool) (shape whole : List ℕ) → Some shape ≡ (if m then Some whole else None) → (m ≡ true) × (shape ≡ whole)
from_test true shape whole e = (refl, ap (λ (o : Option (List ℕ)). unwrap_or o []) e)
from_test false shape whole e = absurd (let q : ◌≡◌ {A = Option (List ℕ)} (Some shape) None = e in cc)

from_none : (m : Bool) (whole : List ℕ) → None ≡ (if m then Some whole else None) → m ≡ false
from_none true whole e = absurd (let q : ◌≡◌ {A = Option (List ℕ)} None (Some whole) = e in cc)
from_none false whole e = refl

module _ (g : Given) (k : Known) (targets : List Var) (f : List Grid1) (b : Base) (l : List ℕ) (o : PartedOp) (ps : CodePartsTerm) (rest : CodeTerm) where
  abbrev pub taken_for : List ℕ → Var → Bool
  taken_for shape v = (has_form k b shape v && (none_is v targets && releases_next v rest)) && own_parts g.shapes v ps k.facts

  candidates : makes_buffer f l o ≡ true → (v : Var) → taken_for (extents f) v ≡ is_candidate g k targets f b l o ps rest v
  candidates m v = ands (none_is v targets) (releases_next v rest) (makes_buffer f l o) (is_base b (k.bases v)) (is_known_shape (extents f) (k.facts v).shape) (own_parts g.shapes v ps k.facts) m

  -- the least of those that fit and are used at the own index alone
  pub chosen : (shape : List ℕ) (found : Option Var) → Some shape ≡ buffer_of f l o → found ≡ least (taken_for shape) None (released_next rest) → found ≡ choice g k targets (PartedCode f b l o ps None) rest
  chosen shape found e h =
      let made = from_test (makes_buffer f l o) shape (extents f) e in
      h
      ∙ (λ i. least (taken_for (made.1 i)) None (released_next rest))
      ∙ (λ i. least (λ v. candidates made.0 v i) None (released_next rest))

  pub none_chosen : None ≡ buffer_of f l o → None ≡ choice g k targets (PartedCode f b l o ps None) rest
  none_chosen e =
      sym (least_none (is_candidate g k targets f b l o ps rest) None (released_next rest)
      (λ v. none_made (none_is v targets) (releases_next v rest) (makes_buffer f l o) _ (from_none (makes_buffer f l o) (extents f) e)))

-- ---- the loop as it stands in memory

unmarked : (reuse : Option Var) → is_some reuse ≡ false → reuse ≡ None
unmarked None e = refl
unmarked (Some v) e = absurd (let q : ◌≡◌ {A = Bool} true false = e in cc)

module _ (g : Given) (k : Known) (targets : List Var) (p : CodeParted) (rest : CodeTerm) where
  without_mark : is_some (out-CodeParted p).reuse ≡ false →
      choice g k targets (PartedCode (out-CodeParted p).frame (out-CodeParted p).base (out-CodeParted p).cell (out-CodeParted p).op (code_parts_of (map code_part_term (out-CodeParted p).parts.items)) None) rest ≡ choice g k targets (code_parted_term p) rest
  without_mark e =
      (λ i. choice g k targets (PartedCode (out-CodeParted p).frame (out-CodeParted p).base (out-CodeParted p).cell (out-CodeParted p).op (code_parts_of (map code_part_term (out-CodeParted p).parts.items)) (sym (unmarked (out-CodeParted p).reuse e) i)) rest)
      ∙ (λ i. choice g k targets (sym (parted_out p) i) rest)

  pub marked_already : is_some (out-CodeParted p).reuse ≡ true → None ≡ choice g k targets (code_parted_term p) rest
  marked_already e =
      by_mark (out-CodeParted p).reuse e ∙ (λ i. choice g k targets (sym (parted_out p) i) rest)
    where
      by_mark : (reuse : Option Var) → is_some reuse ≡ true →
          None ≡ choice g k targets (PartedCode (out-CodeParted p).frame (out-CodeParted p).base (out-CodeParted p).cell (out-CodeParted p).op (code_parts_of (map code_part_term (out-CodeParted p).parts.items)) reuse) rest
      by_mark None e = absurd (let q : ◌≡◌ {A = Bool} false true = e in cc)
      by_mark (Some v) e = refl

  pub no_buffer : is_some (out-CodeParted p).reuse ≡ false → None ≡ buffer_of (out-CodeParted p).frame (out-CodeParted p).cell (out-CodeParted p).op → None ≡ choice g k targets (code_parted_term p) rest
  no_buffer e h = none_chosen g k targets (out-CodeParted p).frame (out-CodeParted p).base (out-CodeParted p).cell (out-CodeParted p).op (code_parts_of (map code_part_term (out-CodeParted p).parts.items)) rest h ∙ without_mark e

  pub least_found : (shape : List ℕ) (parts : List CodePart) (found : Option Var) → is_some (out-CodeParted p).reuse ≡ false → Some shape ≡ buffer_of (out-CodeParted p).frame (out-CodeParted p).cell (out-CodeParted p).op → parts ≡ (out-CodeParted p).parts.items →
      found ≡ least (taken_for g k targets (out-CodeParted p).frame (out-CodeParted p).base (out-CodeParted p).cell (out-CodeParted p).op (code_parts_of (map code_part_term parts)) rest shape) None (released_next rest) → found ≡ choice g k targets (code_parted_term p) rest
  least_found shape parts found e h same is =
      chosen g k targets (out-CodeParted p).frame (out-CodeParted p).base (out-CodeParted p).cell (out-CodeParted p).op (code_parts_of (map code_part_term (out-CodeParted p).parts.items)) rest shape found h
      (is ∙ (λ j. least (taken_for g k targets (out-CodeParted p).frame (out-CodeParted p).base (out-CodeParted p).cell (out-CodeParted p).op (code_parts_of (map code_part_term (same j))) rest shape) None (released_next rest)))
      ∙ without_mark e

-- no other right side takes over an array
no_choice_with : (g : Given) (k : Known) (targets : List Var) (rest : CodeTerm) (w : CodeWith) → None ≡ choice g k targets (code_with_term w) rest
no_choice_with g k targets rest (CodeWith' shape gens op) = refl

pub no_choice : (g : Given) (k : Known) (targets : List Var) (rest : CodeTerm) (r : CodeRight) → ((p : CodeParted) → r ≡ right.Parted p → ⊥) → None ≡ choice g k targets (code_right_term r) rest
unfolding roll-CodeRight denote.Hole.Carrier.roll
no_choice g k targets rest r other = by_layer (out-CodeRight r) refl
  where
    by_layer : (l : CodeRight-F the_data the_data-1 the_data-2 the_data-3 the_data-4 the_data-5 the_data-6 the_data-7) → out-CodeRight r ≡ l → None ≡ choice g k targets (code_right_term r) rest
    by_layer (CodeRight-F.Parted p) e = absurd (other p (sym (roll-out-CodeRight r) ∙ ap roll-CodeRight e ∙ right.rolls-Parted p))
    by_layer (CodeRight-F.With w) e = subst (λ (q : CodeRight). None ≡ choice g k targets (code_right_term q) rest) (sym (ap roll-CodeRight e) ∙ roll-out-CodeRight r) (no_choice_with g k targets rest w)
    by_layer l e = subst (λ (q : CodeRight). None ≡ choice g k targets (code_right_term q) rest) (sym (ap roll-CodeRight e) ∙ roll-out-CodeRight r) refl

-- ---- steps up to the next binding

-- one step of the search for the least, whose outcome is `whole`
module _ (holds : Var → Bool) (found whole : Option Var) (x : CodeStep) (before rest : List CodeStep) (split : before ≡ x ∷ rest) (so_far : least holds found (released_next (steps_before before (Giving []))) ≡ whole) where
  here : (y : CodeStep) → x ≡ y → least holds found (released_next (step_term y (steps_before rest (Giving [])))) ≡ whole
  here y is = (λ i. least holds found (released_next (step_term (sym is i) (steps_before rest (Giving []))))) ∙ (λ i. least holds found (released_next (steps_before (sym split i) (Giving [])))) ∙ so_far

  pub at_binding : (b : CodeLet) → x ≡ step.Bind b → found ≡ whole
  at_binding b is = here (step.Bind b) is

  pub past_keep : (v : Var) → x ≡ step.Keep v → least holds found (released_next (steps_before rest (Giving []))) ≡ whole
  past_keep v is = here (step.Keep v) is

  pub past_release : (v : Var) (found' : Option Var) → x ≡ step.Release v → found' ≡ (if holds v then lesser v found else found) → least holds found' (released_next (steps_before rest (Giving []))) ≡ whole
  past_release v found' is e = (λ i. least holds (e i) (released_next (steps_before rest (Giving [])))) ∙ here (step.Release v) is

pub no_more : (holds : Var → Bool) (found whole : Option Var) (ss : List CodeStep) (i : ℕ) → length ss ≤ i → least holds found (released_next (steps_before (drop i ss) (Giving []))) ≡ whole → found ≡ whole
no_more holds found whole ss i over h = (λ j. least holds found (released_next (steps_before (sym (drop_over ss i over) j) (Giving [])))) ∙ h

module _ (xs ys : List Var) where
  released_same : (ss : List CodeStep) → released_next (steps_before ss (Giving xs)) ≡ released_next (steps_before ss (Giving ys))
  released_same [] = refl
  released_same (step.Bind' targets site r ∷ ss) = refl
  released_same (step.Keep x ∷ ss) = released_same ss
  released_same (step.Release x ∷ ss) = ap (λ zs. x ∷ zs) (released_same ss)

  releases_same : (v : Var) (ss : List CodeStep) → releases_next v (steps_before ss (Giving xs)) ≡ releases_next v (steps_before ss (Giving ys))
  releases_same v [] = refl
  releases_same v (step.Bind' targets site r ∷ ss) = refl
  releases_same v (step.Keep x ∷ ss) = ap (cond (eqb v.0 x.0) false) (releases_same v ss)
  releases_same v (step.Release x ∷ ss) = ap (cond (eqb v.0 x.0) true) (releases_same v ss)

  -- a block's results change nothing
  pub choice_same : (g : Given) (k : Known) (targets : List Var) (r : CodeRightTerm) (ss : List CodeStep) → choice g k targets r (steps_before ss (Giving xs)) ≡ choice g k targets r (steps_before ss (Giving ys))
  choice_same g k targets (PlainCode p) ss = refl
  choice_same g k targets (IfCode x a b) ss = refl
  choice_same g k targets (LoopCode first start params a b s) ss = refl
  choice_same g k targets (CallCode h zs) ss = refl
  choice_same g k targets (WithCode o gs) ss = refl
  choice_same g k targets (PartedCode f b l o ps (Some v)) ss = refl
  choice_same g k targets (PartedCode f b l o ps None) ss =
      λ i. least (λ v. none_is v targets && (releases_same v ss i && may_reuse g k f b l o ps v)) None (released_same ss i)
