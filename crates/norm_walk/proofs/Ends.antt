-- The with-loop itself, when the bodies of its generators have been walked through.
use Rattle.std.proofs.Common.{◌≡◌, ℕ, suc, ◌+◌, List, map, Option, inl, inr, subst, ◌∙◌}
use Rattle.std.specs.Prelude.{Result, Ok, Err, IfOk, OnOk}
use Rattle.sac_base.specs.declared.base.Base.{Base}
use Rattle.sac_base.specs.declared.memory.Memory.{Memory}
use Rattle.sac_base.specs.declared.site.Site.{Site}
use Rattle.core_ir.specs.declared.tree.Var.{Var}
use Rattle.core_ir.specs.declared.tree.CoreGen.{CoreGen}
use Rattle.core_ir.specs.declared.tree.CoreOp.{CoreOp}
use Rattle.core_ir.specs.declared.tree.PartedOp.{PartedOp}
use Rattle.core_ir.specs.declared.tree.PartedLoop.{PartedLoop-F, roll-PartedLoop}
use Rattle.core_ir.specs.declared.tree.Right.TheBlock.{the_data, the_data-1, the_data-2, the_data-3, the_data-4, the_data-5, the_data-6}
use Rattle.core_ir.specs.Terms.{GensTerm, GenTerm, PartTerm, With, Parted, gens_of, parts_of}
use Rattle.core_ir.specs.View.{gen_term, part_term, right_term, parted_term}
use Rattle.core_ir.proofs.Trees.{parted_roll}
use Rattle.core_facts.specs.Facts.{Facts}
use Rattle.partable_loops.specs.Planned.{IsPlannable}
use Rattle.partable_loops.specs.declared.planning.PartPlan.{PartPlan}
use Rattle.parted_bodies.specs.declared.names.Progress.{Progress}
use Rattle.parted_bodies.specs.Making.{binds_of, made_parts, parted_op}
use Rattle.plain_facts.specs.declared.known_rights.known.KnownRight.{KnownRight}
use Rattle.norm_walk.specs.Replacing.{IsLeft, IsPlanned, ReplacedOrLeft}

module _ (bases : Var → Option Base) (first : ℕ) where
  pub left_refused : (k : Facts) (above : ℕ) (op : CoreOp) (gens : GensTerm) → ((s : Site) → IsPlannable k above s op gens → ⊥) → (s : Site) → IsLeft bases first above k s op gens
  left_refused k above op gens refused s b known old plan = refused s plan

  pub unchanged_end : (k : Facts) (p : Progress) (s : Site) (op : CoreOp) (gens : List GenTerm) (new : Result KnownRight Memory) →
      IfOk new (λ (n : KnownRight). right_term n.right ≡ With op (gens_of gens)) → ((s : Site) → IsLeft bases first p.next k s op (gens_of gens)) →
      IfOk new (λ (n : KnownRight). ReplacedOrLeft bases first p p k s op gens (right_term n.right))
  unchanged_end k p s op gens (Ok n) e left = inr ((λ i. p), e, left s)
  unchanged_end k p s op gens (Err m) e left = tt

  replaced_end : (k : Facts) (p q : Progress) (s : Site) (op : CoreOp) (gens : List GenTerm) (base : Base) (plan : PartPlan) (new : Result KnownRight Memory) →
      IsPlanned bases first k p.next op (gens_of gens) base plan →
      IfOk new (λ (n : KnownRight). right_term n.right ≡ Parted plan.frame base plan.cell (parted_op op) (parts_of (made_parts op s gens plan.parts.items p.next))) →
      OnOk new (q ≡ record { next = p.next + binds_of (made_parts op s gens plan.parts.items p.next); replaced = suc p.replaced }) →
      IfOk new (λ (n : KnownRight). ReplacedOrLeft bases first p q k s op gens (right_term n.right))
  replaced_end k p q s op gens base plan (Ok n) w made after = inl (record { plan = plan; fits = w.fits s; base = base; known = w.known; old = w.old; made = made; after = after })
  replaced_end k p q s op gens base plan (Err m) w made after = tt

  -- the same of generators that were lent out twice
  pub replaced_lent : (k : Facts) (p q : Progress) (s : Site) (op : CoreOp) (gens once twice : List CoreGen) (base : Base) (plan : PartPlan) (new : Result KnownRight Memory) → once ≡ gens → twice ≡ gens →
      IsPlanned bases first k p.next op (gens_of (map gen_term once)) base plan →
      IfOk new (λ (n : KnownRight). right_term n.right ≡ Parted plan.frame base plan.cell (parted_op op) (parts_of (made_parts op s (map gen_term twice) plan.parts.items p.next))) →
      OnOk new (q ≡ record { next = p.next + binds_of (made_parts op s (map gen_term twice) plan.parts.items p.next); replaced = suc p.replaced }) →
      IfOk new (λ (n : KnownRight). ReplacedOrLeft bases first p q k s op (map gen_term gens) (right_term n.right))
  replaced_lent k p q s op gens once twice base plan new e f w made after =
      let seen = subst (λ (gs : List CoreGen). IsPlanned bases first k p.next op (gens_of (map gen_term gs)) base plan) e w in
      let right = subst (λ (gs : List CoreGen). IfOk new (λ (n : KnownRight). right_term n.right ≡ Parted plan.frame base plan.cell (parted_op op) (parts_of (made_parts op s (map gen_term gs) plan.parts.items p.next)))) f made in
      let next = subst (λ (gs : List CoreGen). OnOk new (q ≡ record { next = p.next + binds_of (made_parts op s (map gen_term gs) plan.parts.items p.next); replaced = suc p.replaced })) f after in
      replaced_end k p q s op (map gen_term gens) base plan new seen right next

pub parted_made : (new : Result KnownRight Memory) (x : PartedLoop-F the_data the_data-1 the_data-2 the_data-3 the_data-4 the_data-5 the_data-6) (parts : List PartTerm) (op : PartedOp) → IfOk new (λ (n : KnownRight). right_term n.right ≡ parted_term (roll-PartedLoop x)) → map part_term x.parts.items ≡ parts → x.op ≡ op → IfOk new (λ (n : KnownRight). right_term n.right ≡ Parted x.frame x.base x.cell op (parts_of parts))
parted_made (Ok n) x parts op h e o = h ∙ parted_roll x ∙ (λ i. Parted x.frame x.base x.cell (o i) (parts_of (e i)))
parted_made (Err m) x parts op h e o = tt
