-- What holds at the place where a pair is folded and the new parts bind new variables.
use Rattle.std.proofs.Common.{◌≡◌, ℕ, suc, ◌+◌, ◌≤◌, List, [], ◌∷◌, ◌++◌, Option, sym, ap, subst, ◌∙◌, arith}
use Rattle.std.specs.Prelude.{zip}
use Rattle.sac_base.specs.declared.base.Base.{Base}
use Rattle.core_ir.specs.declared.tree.Var.{Var}
use Rattle.core_ir.specs.Binders.{bound_in, bound_in_right, bound_in_parts}
use Rattle.core_ir.specs.Scopes.{Scoped}
use Rattle.core_ir.specs.Terms.{BlockTerm, RightTerm, PartsTerm, LetTerm, CoreTerm, Bind, Parted, chain}
use Rattle.core_ir.specs.Uses.{Avoids}
use Rattle.core_ir.specs.WellFormed.{Bases, part_grids, GroupBases, BlockBases, Distinct}
use Rattle.core_facts.specs.calls.Nests.{CallsAll}
use Rattle.core_forms.specs.edits.Within.{AreWithin, BasesWithin}
use Rattle.core_facts.specs.Facts.{Facts}
use Rattle.core_facts.proofs.bases.Moved.{moved}
use Rattle.core_loops.specs.Loops.{weight, weight_parts, parted_in, parted_in_parts}
use Rattle.core_loops.specs.Pairs.{Producer}
use Rattle.core_loops.specs.norm_steps.Step.{BaseTable, Within, Follows}
use Rattle.core_loops.proofs.norm_steps.Places.{within_zip}
use Rattle.core_forms.proofs.inlined_bodies.Names.{Names, same, both, distinct_left, distinct_right, Fresh, fresh_left, fresh_right, fresh_both, behind_first}
use Rattle.core_forms.proofs.norm.Below.{OldBases, all_new}
use Rattle.core_forms.proofs.norm.Scopes.{in_right}
use Rattle.core_forms.proofs.norm.Tables.{Low, low_zip}
use Rattle.core_loops.proofs.fold_steps.Step.{avoids_chain}
use Rattle.core_forms.specs.fold.Fresh.{FreshFold}
use Rattle.core_forms.proofs.fold.Lists.{new_away, new_names, gone_names, table_zip}
use Rattle.core_forms.proofs.fold.Chains.{chain_names, chain_weight, chain_parted, chain_calls}
use Rattle.core_forms.proofs.fold.Producers.{part_light, parts_light}
use Rattle.core_forms.proofs.fold.Counting.{parts_counts, parts_calls}
use Rattle.core_forms.proofs.fold.Grids.{same_times, still_fits}
use Rattle.core_forms.proofs.fold.Scopes.{parts_scoped, narrow_scoped, before_binding}
use Rattle.core_forms.proofs.fold.Typing.{parts_bases}
use Rattle.core_forms.proofs.fold.Narrow.{narrow_bases}
use Rattle.core_forms.proofs.fold.Narrow as narrow

-- ---- what stands behind bindings

-- a scoped block stands for another behind bindings
chain_kept :
    (low : ℕ) (around : List Var) (ls : List LetTerm) (x y : BlockTerm) (scope : List Var) → AreWithin around scope → Scoped scope (chain ls x) → Fresh scope low → Fresh (bound_in (chain ls x)) low →
    ((s : List Var) → AreWithin around s → Scoped s x → Fresh s low → Fresh (bound_in x) low → Scoped s y) → Scoped scope (chain ls y)
chain_kept low around [] x y scope i s f v last = last scope i s f v
chain_kept low around (l ∷ ls) x y scope i s f v last =
    let more = bound_in_right l.right ++ bound_in (chain ls x) in (
      s.0,
      s.1,
      chain_kept low around ls x y (l.targets ++ scope) (λ z h. in_right z l.targets scope (i z h)) s.2 (fresh_both l.targets scope low (fresh_left l.targets more low v) f)
          (fresh_right (bound_in_right l.right) (bound_in (chain ls x)) low (fresh_right l.targets more low v)) last,
    )

module _ (core : CoreTerm) (table : BaseTable) (low : ℕ) (around : Bases) (known : Within table around) where
  -- and so does one whose bases agree
  chain_typed :
      (ls : List LetTerm) (x y : BlockTerm) (g : Bases) (ts : List Base) → (d : BlockBases core g (chain ls x) ts) → Within table g → Follows core table (chain ls x) g ts d → Low g low → Fresh (bound_in (chain ls x)) low →
      BasesWithin around g →
      ((h : Bases) → (e : BlockBases core h x ts) → Within table h → Follows core table x h ts e → Low h low → Fresh (bound_in x) low → BasesWithin around h → BlockBases core h y ts) → BlockBases core g (chain ls y) ts
  chain_typed [] x y g ts d w f l v k last = last g d w f l v k
  chain_typed (m ∷ ls) x y g ts d w f l v k last =
      let more = bound_in_right m.right ++ bound_in (chain ls x) in (
        d.0,
        (
          d.1.0,
          d.1.1,
          chain_typed ls x y (zip m.targets d.0 ++ g) ts d.1.2 (within_zip table g m.targets d.0 w f.0) f.2 (low_zip m.targets d.0 g low (fresh_left m.targets more low v) l)
              (fresh_right (bound_in_right m.right) (bound_in (chain ls x)) low (fresh_right m.targets more low v)) (table_zip table m.targets d.0 around g known f.0 k) last,
        ),
      )

less_one : (b c r n o k rest : ℕ) → b ≡ suc r + (k + (suc o + rest)) → c ≡ k + (suc n + rest) → r ≡ 0 → n ≡ o → c + 1 ≡ b
less_one b c r n o k rest p q u v = omega (arith, p, q, u, v)

no_less : (b c r n o k rest : ℕ) → b ≡ r + (k + (o + rest)) → c ≡ k + (n + rest) → r ≡ 0 → n ≡ o → c ≡ b
no_less b c r n o k rest p q u v = omega (arith, p, q, u, v)

itself_most : (n : ℕ) → n ≤ n
itself_most n = omega arith

-- ---- at the place

module _ (called : ℕ → List (Option (List ℕ))) (low high : ℕ) (k : Facts) (b c : BlockTerm) (fresh : FreshFold called low high k b c) where
  abbrev at : Rattle.core_loops.specs.Steps.FoldsHere called low k b c
  at = fresh.step

  abbrev p : Producer
  p = at.producer

  abbrev made : RightTerm
  made = Parted p.frame p.base [] p.op p.parts

  abbrev consumed : PartsTerm → BlockTerm
  consumed parts = Bind (at.consumer ∷ []) at.site (Parted at.frame at.base [] at.op parts) at.rest

  abbrev tail : PartsTerm → BlockTerm
  tail parts = chain at.between (consumed parts)

  pub place_names : Names (bound_in b) (bound_in c) low high
  place_names =
      let own = at.consumer ∷ [] in
      let new = new_names low high (bound_in_parts at.old) (bound_in_parts at.new) fresh.once fresh.between in
      let inner : Names (bound_in (consumed at.old)) (bound_in (consumed at.new)) low high =
      both own (bound_in_parts at.old ++ bound_in at.rest) own (bound_in_parts at.new ++ bound_in at.rest) low low high (itself_most low) fresh.rises (same own low low)
      (both (bound_in_parts at.old) (bound_in at.rest) (bound_in_parts at.new) (bound_in at.rest) low high high fresh.rises (itself_most high) new (same (bound_in at.rest) high high)) in
      subst (λ (x : BlockTerm). Names (bound_in x) (bound_in c) low high) (sym at.before)
      (subst (λ (x : BlockTerm). Names (bound_in (Bind (p.var ∷ []) p.site made (tail at.old))) (bound_in x) low high) (sym at.after)
      (both (p.var ∷ []) (bound_in_parts p.parts ++ bound_in (tail at.old)) [] (bound_in (tail at.new)) low low high (itself_most low) fresh.rises (gone_names (p.var ∷ []) low)
      (both (bound_in_parts p.parts) (bound_in (tail at.old)) [] (bound_in (tail at.new)) low low high (itself_most low) fresh.rises (gone_names (bound_in_parts p.parts) low)
      (chain_names low high at.between (consumed at.old) (consumed at.new) fresh.rises inner))))

  -- nothing uses the producer any more
  unused : Avoids p.var (tail at.new)
  unused = avoids_chain p.var at.between (consumed at.new) at.foldable.before ((at.foldable.operation, at.gone), at.foldable.after)

  pub place_scoped : (scope : List Var) → Scoped scope b → Fresh scope low → Fresh (bound_in b) low → Scoped scope c
  place_scoped scope s f v =
      let old : Scoped scope (Bind (p.var ∷ []) p.site made (tail at.old)) = subst (Scoped scope) at.before s in
      let bound : Fresh ((p.var ∷ []) ++ (bound_in_parts p.parts ++ bound_in (tail at.old))) low = subst (λ (x : BlockTerm). Fresh (bound_in x) low) at.before v in
      let rest = fresh_right (bound_in_parts p.parts) (bound_in (tail at.old)) low (fresh_right (p.var ∷ []) (bound_in_parts p.parts ++ bound_in (tail at.old)) low bound) in
      let inner = fresh_both (p.var ∷ []) scope low (fresh_left (p.var ∷ []) (bound_in_parts p.parts ++ bound_in (tail at.old)) low bound) f in
      let wide : Scoped (p.var ∷ scope) (tail at.new) =
      chain_kept low scope at.between (consumed at.old) (consumed at.new) (p.var ∷ scope) (λ y h. behind_first y p.var scope h) old.2 inner rest
      (λ z i q g w. (
        (
          q.0.0,
          parts_scoped called at.later p low high scope z old.0.1 i g at.old at.new at.parts fresh.copies q.0.1
              (fresh_left (bound_in_parts at.old) (bound_in at.rest) low (fresh_right (at.consumer ∷ []) (bound_in_parts at.old ++ bound_in at.rest) low w)) fresh.once
              (new_away low high (bound_in_parts at.new) z fresh.between g),
        ),
        q.1,
        q.2,
      )) in
      subst (Scoped scope) (sym at.after) (narrow_scoped p.var (tail at.new) (p.var ∷ scope) scope (before_binding p.var scope old.1.0) unused wide)

  pub place_calls : (P : ℕ → Type 0) → CallsAll P b → CallsAll P c
  place_calls P h =
      let old : CallsAll P (Bind (p.var ∷ []) p.site made (tail at.old)) = subst (CallsAll P) at.before h in
      subst (CallsAll P) (sym at.after)
      (chain_calls P at.between (consumed at.old) (consumed at.new) old.1 (λ q. (parts_calls called at.later p low high P old.0 at.old at.new at.parts fresh.copies q.0, q.1)))

  pub place_counts : (parted_in c + 1 ≡ parted_in b) × (weight c ≡ weight b)
  place_counts =
      let l = parts_light called k p.parts at.foldable.total in
      let n = parts_counts called at.later p low high (λ h d i. part_light called k p.parts h d i at.foldable.total) at.old at.new at.parts fresh.copies in
      let front = chain at.between (Rattle.core_ir.specs.Terms.Gives []) in (
        less_one (parted_in b) (parted_in c) (parted_in_parts p.parts) (parted_in_parts at.new) (parted_in_parts at.old) (parted_in front) (parted_in at.rest)
            (ap parted_in at.before ∙ (λ i. suc (parted_in_parts p.parts) + chain_parted at.between [] (consumed at.old) i)) (ap parted_in at.after ∙ chain_parted at.between [] (consumed at.new)) l.1 n.1,
        no_less (weight b) (weight c) (weight_parts p.parts) (weight_parts at.new) (weight_parts at.old) (weight front) (weight at.rest)
            (ap weight at.before ∙ (λ i. weight_parts p.parts + chain_weight at.between [] (consumed at.old) i)) (ap weight at.after ∙ chain_weight at.between [] (consumed at.new)) l.0 n.0,
      )

  module _ (table : BaseTable) (core next : CoreTerm) (into : (group : ℕ) (us ts : List Base) → GroupBases core group us ts → GroupBases next group us ts) where
    new_based :
        (g : Bases) (ts : List Base) → (d : BlockBases core g (Bind (p.var ∷ []) p.site made (tail at.old)) ts) → Within table g → Follows core table (Bind (p.var ∷ []) p.site made (tail at.old)) g ts d → Low g low →
        Fresh (bound_in (Bind (p.var ∷ []) p.site made (tail at.old))) low → Distinct (bound_in (Bind (p.var ∷ []) p.site made (tail at.old))) → BlockBases core g (tail at.new) ts
    new_based g ts d w f l v o =
        let own = p.var ∷ [] in
        let more = bound_in_parts p.parts ++ bound_in (tail at.old) in
        let us = d.0 in
        -- the producer's base
        let given : us ≡ p.base ∷ [] = d.1.0.3 in
        let base : p.base ≡ table p.var = ap (head_of p.base) (sym given ∙ f.0) in
        let e : BlockBases core ((p.var, p.base) ∷ g) (tail at.old) ts = subst (λ (vs : List Base). BlockBases core (zip own vs ++ g) (tail at.old) ts) given d.1.2 in
        let distinct = distinct_left (bound_in_parts p.parts) (bound_in (tail at.old)) (distinct_right own more o) in
        let fresh_tail = fresh_right (bound_in_parts p.parts) (bound_in (tail at.old)) low (fresh_right own more low v) in
        let keeps : BasesWithin g (zip own us ++ g) = table_zip table own us g g w f.0 (λ y t h. h) in
        let wide : BlockBases core (zip own us ++ g) (tail at.new) ts =
        chain_typed core table low g w at.between (consumed at.old) (consumed at.new) (zip own us ++ g) ts d.1.2 (within_zip table g own us w f.0) f.2 (low_zip own us g low (fresh_left own more low v) l) fresh_tail keeps
        (λ h q wh fh lh vh kh. (
          q.0,
          (
            (
              q.1.0.0,
              parts_bases core table called p low high g w base d.1.0.1 distinct at.later h wh lh kh at.old at.new at.parts fresh.copies at.base q.1.0.1 fh.1
                  (fresh_left (bound_in_parts at.old) (bound_in at.rest) low (fresh_right (at.consumer ∷ []) (bound_in_parts at.old ++ bound_in at.rest) low vh)) fresh.once,
              still_fits at.op at.frame [] (part_grids at.old) (part_grids at.new) (same_times called at.later p low high at.old at.new at.parts fresh.copies) q.1.0.2,
              q.1.0.3,
            ),
            q.1.1,
            q.1.2,
          ),
        )) in
        narrow_bases core p.var (tail at.new) ((p.var, p.base) ∷ g) g ts (narrow.before_binding p.var p.base g) unused (subst (λ (vs : List Base). BlockBases core (zip own vs ++ g) (tail at.new) ts) given wide)
      where
        head_of : Base → List Base → Base
        head_of t [] = t
        head_of t (u ∷ us) = u

    pub place_bases :
        (g : Bases) (ts : List Base) → (d : BlockBases core g b ts) → Within table g → Follows core table b g ts d → Low g low → Fresh (bound_in b) low → Distinct (bound_in b) →
        (e : BlockBases next g c ts) × OldBases next 0 table c g ts e
    place_bases g ts d w f l v o =
        let old : BlockBases core g (tail at.new) ts =
        subst (λ (x : BlockTerm). (d : BlockBases core g x ts) → Within table g → Follows core table x g ts d → Low g low → Fresh (bound_in x) low → Distinct (bound_in x) → BlockBases core g (tail at.new) ts) (sym at.before)
        (λ d w f l v o. new_based g ts d w f l v o) d w f l v o in
        let e : BlockBases next g c ts = subst (λ (x : BlockTerm). BlockBases next g x ts) (sym at.after) (moved core next into (tail at.new) g ts old) in
        (e, all_new 0 table next c g ts e (λ y h. none y.0))
      where
        none : (n : ℕ) → 0 ≤ n
        none n = omega arith
