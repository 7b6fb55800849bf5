-- One turn of the loops over swept generators and parts, and their ends.
use Rattle.std.proofs.Common.{◌≡◌, Bool, List, [], ◌∷◌, ◌++◌, map, refl, sym, ap, ◌∙◌, append_assoc, append-nil}
use Rattle.std.specs.Prelude.{option_to_list}
use Rattle.core_ir.specs.declared.tree.Var.{Var}
use Rattle.core_ir.specs.declared.tree.CoreGen.{CoreGen, CoreGen', CoreGen-F, out-CoreGen, roll-CoreGen, out-roll-CoreGen}
use Rattle.core_ir.specs.declared.tree.CorePart.{CorePart}
use Rattle.core_ir.specs.declared.tree.WithLoop.{WithLoop-F, roll-WithLoop}
use Rattle.core_ir.specs.declared.tree.PartedLoop.{PartedLoop-F, roll-PartedLoop}
use Rattle.core_ir.specs.declared.tree.Right.TheBlock.{the_data, the_data-1, the_data-2, the_data-3, the_data-4, the_data-5, the_data-6}
use Rattle.core_ir.specs.Scopes.{op_uses, parted_uses, head_uses}
use Rattle.core_ir.specs.Terms.{RightTerm, GenTerm, PartTerm, gens_of, parts_of}
use Rattle.core_ir.specs.View.{block_term, gen_term, part_term, with_term, parted_term}
use Rattle.core_ir.proofs.Trees.{with_roll, parted_roll}
use Rattle.core_subst.specs.Names.{used_in, used_in_right, used_in_gens, used_in_parts}
use Rattle.unused_bindings.specs.declared.swept.SweptGen.{SweptGen}
use Rattle.unused_bindings.specs.declared.swept.SweptPart.{SweptPart}
use Rattle.unused_bindings.specs.Passed.{gen_terms, part_terms}
use Rattle.removal_rules.specs.Uses.{used_of, among, either, used_in_gen}
use Rattle.removal_rules.proofs.Sets.{lists_of, list_in_front}
use Rattle.unused_bindings.proofs.Turns.{map_snoc}

gens_snoc : (gs : List GenTerm) (g : GenTerm) → used_in_gens (gens_of (gs ++ (g ∷ []))) ≡ used_in_gens (gens_of gs) ++ used_in_gen g
gens_snoc [] g = ap (λ xs. head_uses g.head ++ xs) (append-nil (used_in g.body))
gens_snoc (h ∷ gs) g =
    let us = used_in_gens (gens_of gs) in
    (λ i. head_uses h.head ++ (used_in h.body ++ gens_snoc gs g i))
    ∙ (λ i. head_uses h.head ++ sym (append_assoc (used_in h.body) us (used_in_gen g)) i)
    ∙ sym (append_assoc (head_uses h.head) (used_in h.body ++ us) (used_in_gen g))

parts_snoc : (ps : List PartTerm) (p : PartTerm) → used_in_parts (parts_of (ps ++ (p ∷ []))) ≡ used_in_parts (parts_of ps) ++ used_in p.body
parts_snoc [] p = append-nil (used_in p.body)
parts_snoc (q ∷ ps) p =
    (λ i. used_in q.body ++ parts_snoc ps p i) ∙ sym (append_assoc (used_in q.body) (used_in_parts (parts_of ps)) (used_in p.body))

-- before the first turn
pub none_yet : (xs ys : List Var) (used : Var → Bool) → used ≡ among xs → ys ≡ [] → used ≡ among (xs ++ ys)
none_yet xs ys used u e = u ∙ (λ i. among (sym (append-nil xs) i)) ∙ (λ i. among (xs ++ sym e i))

-- a generator more
module _ (rest all : List SweptGen) (x : SweptGen) (first : all ≡ x ∷ rest) (done done' : List CoreGen) (onto : done' ≡ done ++ (x.generator ∷ [])) where
  pub gen_items : (whole : List GenTerm) → map gen_term done ++ gen_terms all ≡ whole → map gen_term done' ++ gen_terms rest ≡ whole
  gen_items whole p =
      (λ i. map gen_term (onto i) ++ gen_terms rest)
      ∙ ap (λ z. z ++ gen_terms rest) (map_snoc gen_term done x.generator)
      ∙ append_assoc (map gen_term done) (gen_term x.generator ∷ []) (gen_terms rest)
      ∙ (λ i. map gen_term done ++ gen_terms (sym first i))
      ∙ p

  pub gen_uses : (xs : List Var) (used used' : Var → Bool) → used ≡ among (xs ++ used_in_gens (gens_of (map gen_term done))) → used' ≡ either used (used_of x.used) → used' ≡ among (xs ++ used_in_gens (gens_of (map gen_term done')))
  gen_uses xs used used' u e =
      let us = used_in_gens (gens_of (map gen_term done)) in
      let new = used_in_gen (gen_term x.generator) in
      lists_of (xs ++ us) new used (used_of x.used) used' u x.uses e
      ∙ (λ i. among (append_assoc xs us new i))
      ∙ (λ i. among (xs ++ sym (gens_snoc (map gen_term done) (gen_term x.generator)) i))
      ∙ (λ i. among (xs ++ used_in_gens (gens_of (sym (map_snoc gen_term done x.generator) i))))
      ∙ (λ i. among (xs ++ used_in_gens (gens_of (map gen_term (sym onto i)))))

module _ (rest all : List SweptPart) (x : SweptPart) (first : all ≡ x ∷ rest) (done done' : List CorePart) (onto : done' ≡ done ++ (x.part ∷ [])) where
  pub part_items : (whole : List PartTerm) → map part_term done ++ part_terms all ≡ whole → map part_term done' ++ part_terms rest ≡ whole
  part_items whole p =
      (λ i. map part_term (onto i) ++ part_terms rest)
      ∙ ap (λ z. z ++ part_terms rest) (map_snoc part_term done x.part)
      ∙ append_assoc (map part_term done) (part_term x.part ∷ []) (part_terms rest)
      ∙ (λ i. map part_term done ++ part_terms (sym first i))
      ∙ p

  pub part_uses : (xs : List Var) (used used' : Var → Bool) → used ≡ among (xs ++ used_in_parts (parts_of (map part_term done))) → used' ≡ either used (used_of x.used) → used' ≡ among (xs ++ used_in_parts (parts_of (map part_term done')))
  part_uses xs used used' u e =
      let us = used_in_parts (parts_of (map part_term done)) in
      let new = used_in (part_term x.part).body in
      lists_of (xs ++ us) new used (used_of x.used) used' u x.uses e
      ∙ (λ i. among (append_assoc xs us new i))
      ∙ (λ i. among (xs ++ sym (parts_snoc (map part_term done) (part_term x.part)) i))
      ∙ (λ i. among (xs ++ used_in_parts (parts_of (sym (map_snoc part_term done x.part) i))))
      ∙ (λ i. among (xs ++ used_in_parts (parts_of (map part_term (sym onto i)))))

-- after the last turn
items_done : {A : Type 0} (done rest whole : List A) → done ++ rest ≡ whole → rest ≡ [] → done ≡ whole
items_done done rest whole p e = sym (append-nil done) ∙ (λ i. done ++ sym e i) ∙ p

pub with_made : (rest all : List SweptGen) (x : WithLoop-F the_data the_data-1 the_data-2 the_data-3 the_data-4 the_data-5 the_data-6) → map gen_term x.gens.items ++ gen_terms rest ≡ gen_terms all → rest ≡ []
    → with_term (roll-WithLoop x) ≡ RightTerm.With x.op (gens_of (gen_terms all))
with_made rest all x p e = with_roll x ∙ ap (λ gs. RightTerm.With x.op (gens_of gs)) (items_done (map gen_term x.gens.items) (gen_terms rest) (gen_terms all) p (ap gen_terms e))

pub with_uses : (x : WithLoop-F the_data the_data-1 the_data-2 the_data-3 the_data-4 the_data-5 the_data-6) (used : Var → Bool) → used ≡ among (op_uses x.op ++ used_in_gens (gens_of (map gen_term x.gens.items)))
    → used ≡ among (used_in_right (with_term (roll-WithLoop x)))
with_uses x used u = u ∙ (λ i. among (used_in_right (sym (with_roll x) i)))

pub parted_made : (rest all : List SweptPart) (x : PartedLoop-F the_data the_data-1 the_data-2 the_data-3 the_data-4 the_data-5 the_data-6) → map part_term x.parts.items ++ part_terms rest ≡ part_terms all → rest ≡ []
    → parted_term (roll-PartedLoop x) ≡ RightTerm.Parted x.frame x.base x.cell x.op (parts_of (part_terms all))
parted_made rest all x p e =
    parted_roll x ∙ ap (λ ps. RightTerm.Parted x.frame x.base x.cell x.op (parts_of ps)) (items_done (map part_term x.parts.items) (part_terms rest) (part_terms all) p (ap part_terms e))

pub parted_uses_all : (x : PartedLoop-F the_data the_data-1 the_data-2 the_data-3 the_data-4 the_data-5 the_data-6) (used : Var → Bool) → used ≡ among (parted_uses x.op ++ used_in_parts (parts_of (map part_term x.parts.items)))
    → used ≡ among (used_in_right (parted_term (roll-PartedLoop x)))
parted_uses_all x used u = u ∙ (λ i. among (used_in_right (sym (parted_roll x) i)))

-- ---- a generator with another body

abbrev shown_gen : CoreGen-F the_data the_data-1 the_data-2 the_data-3 the_data-4 the_data-5 the_data-6 → GenTerm
shown_gen x = record {
  head = record { lower = x.lower; lower_closed = x.lower_closed; upper = x.upper; upper_closed = x.upper_closed; step = x.step; width = x.width; index = x.index; names = x.names.items; site = x.site };
  body = block_term x.body;
}

gen_out : (g : CoreGen) → gen_term g ≡ shown_gen (out-CoreGen g)
unfolding out-CoreGen denote.Hole.Carrier.out
gen_out (CoreGen' lower lower_closed upper upper_closed step width index names body site) = refl

pub gen_made : (x : CoreGen-F the_data the_data-1 the_data-2 the_data-3 the_data-4 the_data-5 the_data-6) (inner used : Var → Bool) → inner ≡ among (used_in (block_term x.body))
    → used ≡ either inner (among (option_to_list x.lower ++ (option_to_list x.upper ++ (option_to_list x.step ++ option_to_list x.width)))) → used ≡ among (used_in_gen (gen_term (roll-CoreGen x)))
gen_made x inner used p q =
    list_in_front (option_to_list x.lower ++ (option_to_list x.upper ++ (option_to_list x.step ++ option_to_list x.width))) (used_in (block_term x.body)) inner used p q
    ∙ (λ i. among (used_in_gen ((ap shown_gen (sym (out-roll-CoreGen x)) ∙ sym (gen_out (roll-CoreGen x))) i)))
