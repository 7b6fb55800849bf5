-- What holds of the parts of a producer, and of the bindings that stand for a selection from it.
use Rattle.std.proofs.Common.{◌≡◌, ℕ, zero, suc, ◌+◌, ◌≤◌, Bool, true, false, eqb, List, [], ◌∷◌, ◌++◌, map, length, Option, Some, None, refl, sym, ap, subst, ◌∙◌, inl, inr, arith}
use Rattle.std.specs.Prelude.{slice_get, unwrap_or}
use Rattle.sac_base.specs.declared.site.Site.{Site}
use Rattle.core_ir.specs.declared.tree.Var.{Var}
use Rattle.core_ir.specs.Binders.{is_in, bound_in, bound_in_right, bound_in_gens, bound_in_parts}
use Rattle.core_ir.specs.Scopes.{AllIn, Scoped, ScopedRight, ScopedGens, ScopedParts, plain_uses, op_uses, parted_uses, head_uses}
use Rattle.core_ir.specs.Terms.{PlainTerm, BlockTerm, RightTerm, GensTerm, PartsTerm, PartTerm, Gives, Bind, Plain, NoGens, Gen, NoParts, Part, chain, parts_of}
use Rattle.core_ir.specs.Uses.{AvoidsAll, Avoids, AvoidsRight, AvoidsGens, AvoidsParts}
use Rattle.core_ir.specs.WellFormed.{Distinct}
use Rattle.core_ir.proofs.Variables.{same_number, in_neither}
use Rattle.core_facts.specs.Facts.{Fact, Facts, note_all, right_facts, block_facts, in_part}
use Rattle.core_forms.specs.inlining.Inlined.{bindings, results}
use Rattle.core_forms.proofs.inlining.Bodies.{results_mapped}
use Rattle.core_forms.proofs.inlined_bodies.Names.{Names, clash, in_none, distinct_left, distinct_right, bound_bindings}
use Rattle.core_subst.proofs.copy.Renaming.{bound_mapped}
use Rattle.core_loops.specs.Pairs.{TotalParts, one_scalar}
use Rattle.core_forms.specs.norm.Copied.{AreFrom}
use Rattle.core_forms.proofs.norm.Named.{order_between, order_distinct}
use Rattle.core_subst.specs.Names.{variable}
use Rattle.core_forms.specs.fold.Copied.{HasPart}
use Rattle.folded_parts.specs.Folding.{copied, copy_binds, last_copy, taken}
use Rattle.fold_walk.proofs.fold_laws.Copied.{copy_order, renumbered}

-- ---- a variable that is neither in scope nor bound is not used

module _ (x : Var) where
  other : (u : Var) (scope : List Var) → is_in u scope ≡ true → is_in x scope ≡ false → eqb x.0 u.0 ≡ false
  other u scope h n = go (eqb x.0 u.0) refl
    where
      go : (t : Bool) → eqb x.0 u.0 ≡ t → eqb x.0 u.0 ≡ false
      go true e = clash (is_in x scope) ((λ i. is_in (same_number x u e i) scope) ∙ h) n
      go false e = e

  all_out : (us scope : List Var) → AllIn us scope → is_in x scope ≡ false → AvoidsAll x us
  all_out [] scope h n = tt
  all_out (u ∷ us) scope h n = (other u scope h.0 n, all_out us scope h.1 n)

  mutual
    pub out_of_scope : (b : BlockTerm) (scope : List Var) → Scoped scope b → is_in x scope ≡ false → is_in x (bound_in b) ≡ false → Avoids x b
    out_of_scope (Gives us) scope s n m = all_out us scope s n
    out_of_scope (Bind us t r b) scope s n m =
        let w = in_neither x us (bound_in_right r ++ bound_in b) m in
        let v = in_neither x (bound_in_right r) (bound_in b) w.1 in
        (right_out r scope s.0 n v.0, out_of_scope b (us ++ scope) s.2 (in_none x us scope w.0 n) v.1)

    right_out : (r : RightTerm) (scope : List Var) → ScopedRight scope r → is_in x scope ≡ false → is_in x (bound_in_right r) ≡ false → AvoidsRight x r
    right_out (Plain p) scope s n m = all_out (plain_uses p) scope s n
    right_out (RightTerm.If u a b) scope s n m =
        let w = in_neither x (bound_in a) (bound_in b) m in
        (other u scope s.0 n, out_of_scope a scope s.1 n w.0, out_of_scope b scope s.2 n w.1)
    right_out (RightTerm.Loop first start params test body t) scope s n m =
        let w = in_neither x params (bound_in test ++ bound_in body) m in
        let v = in_neither x (bound_in test) (bound_in body) w.1 in
        let inner = in_none x params scope w.0 n in
        (all_out start scope s.0 n, out_of_scope test (params ++ scope) s.2 inner v.0, out_of_scope body (params ++ scope) s.3 inner v.1)
    right_out (RightTerm.Call g us) scope s n m = all_out us scope s n
    right_out (RightTerm.With o gens) scope s n m = (all_out (op_uses o) scope s.0 n, gens_out gens scope s.1 n m)
    right_out (RightTerm.Parted f t c o parts) scope s n m = (all_out (parted_uses o) scope s.0 n, parts_out parts scope s.1 n m)

    gens_out : (g : GensTerm) (scope : List Var) → ScopedGens scope g → is_in x scope ≡ false → is_in x (bound_in_gens g) ≡ false → AvoidsGens x g
    gens_out NoGens scope s n m = tt
    gens_out (Gen h b rest) scope s n m =
        let own = h.index ∷ h.names in
        let w = in_neither x own (bound_in b ++ bound_in_gens rest) m in
        let v = in_neither x (bound_in b) (bound_in_gens rest) w.1 in
        (all_out (head_uses h) scope s.0 n, out_of_scope b (own ++ scope) s.2 (in_none x own scope w.0 n) v.0, gens_out rest scope s.3 n v.1)

    pub parts_out : (p : PartsTerm) (scope : List Var) → ScopedParts scope p → is_in x scope ≡ false → is_in x (bound_in_parts p) ≡ false → AvoidsParts x p
    parts_out NoParts scope s n m = tt
    parts_out (Part h b rest) scope s n m =
        let own = h.index ∷ [] in
        let w = in_neither x own (bound_in b ++ bound_in_parts rest) m in
        let v = in_neither x (bound_in b) (bound_in_parts rest) w.1 in
        (out_of_scope b (own ++ scope) s.1 (in_none x own scope w.0 n) v.0, parts_out rest scope s.2 n v.1)

-- ---- a part of a producer at its place

-- a part around which these variables are in scope
pub record Source (around : List Var) (part : PartTerm) : Type 0 where
  pub away : is_in part.head.index around ≡ false
  pub scoped : Scoped (part.head.index ∷ around) part.body
  pub once : Distinct (bound_in part.body)
  pub result : Var
  pub one : results part.body ≡ result ∷ []

-- what is known of its results, one of each
facts_count : (called : ℕ → List (Option (List ℕ))) (b : BlockTerm) (k : Facts) → length (block_facts called b k) ≡ length (results b)
facts_count called (Gives xs) k = go xs
  where
    go : (xs : List Var) → length (map k xs) ≡ length xs
    go [] = refl
    go (x ∷ xs) = ap suc (go xs)
facts_count called (Bind xs s r b) k = facts_count called b (note_all k xs (right_facts called r k))

one_known : (fs : List Fact) → one_scalar fs ≡ true → length fs ≡ 1
one_known [] e = clash false e refl
one_known (f ∷ []) e = refl
one_known (f ∷ g ∷ fs) e = clash false e refl

one_var : (xs : List Var) → length xs ≡ 1 → (x : Var) × (xs ≡ x ∷ [])
one_var [] e = absurd (omega (arith, e))
one_var (x ∷ []) e = (x, refl)
one_var (x ∷ y ∷ xs) e = absurd (omega (arith, e))

no_part : (part : PartTerm) {P : Type 0} → ◌≡◌ {A = Option PartTerm} None (Some part) → P
no_part part e = absurd (cc)

pub source_at :
    (called : ℕ → List (Option (List ℕ))) (k : Facts) (around : List Var) (sources : List PartTerm) (j : ℕ) (part : PartTerm) → slice_get sources j ≡ Some part → ScopedParts around (parts_of sources) →
    Distinct (bound_in_parts (parts_of sources)) → TotalParts called k (parts_of sources) → Source around part
source_at called k around [] j part e s d t = no_part part e
source_at called k around (q ∷ qs) zero part e s d t =
    let own : q ≡ part = ap (λ o. unwrap_or o q) e in
    let z = one_var (results q.body) (sym (facts_count called q.body (in_part k q.head)) ∙ one_known (block_facts called q.body (in_part k q.head)) t.1) in
    subst (λ (y : PartTerm). Source around y) own
    (record {
      away = s.0;
      scoped = s.1;
      once = distinct_left (bound_in q.body) (bound_in_parts (parts_of qs)) (distinct_right (q.head.index ∷ []) (bound_in q.body ++ bound_in_parts (parts_of qs)) d);
      result = z.0;
      one = z.1;
    })
source_at called k around (q ∷ qs) (suc j) part e s d t =
    source_at called k around qs j part e s.2 (distinct_right (bound_in q.body) (bound_in_parts (parts_of qs)) (distinct_right (q.head.index ∷ []) (bound_in q.body ++ bound_in_parts (parts_of qs)) d)) t.2

pub has_part : (sources : List PartTerm) (j : ℕ) (part : PartTerm) → slice_get sources j ≡ Some part → HasPart (parts_of sources) part.head part.body
has_part [] j part e = no_part part e
has_part (q ∷ qs) zero part e =
    let own : q ≡ part = ap (λ o. unwrap_or o q) e in
    inl (ap (λ (y : PartTerm). y.head) own, ap (λ (y : PartTerm). y.body) own)
has_part (q ∷ qs) (suc j) part e = inr (has_part qs j part e)

pub parts_avoid : (x : Var) (sources : List PartTerm) (j : ℕ) (part : PartTerm) → slice_get sources j ≡ Some part → AvoidsParts x (parts_of sources) → Avoids x part.body
parts_avoid x [] j part e h = no_part part e
parts_avoid x (q ∷ qs) zero part e h = subst (λ (y : PartTerm). Avoids x y.body) (ap (λ o. unwrap_or o q) e) h.0
parts_avoid x (q ∷ qs) (suc j) part e h = parts_avoid x qs j part e h.1

-- ---- what stands for a selection

map_length : (f : Var → Var) (xs : List Var) → length (map f xs) ≡ length xs
map_length f [] = refl
map_length f (x ∷ xs) = ap suc (map_length f xs)

module _ (around : List Var) (part : PartTerm) (source : Source around part) (n : ℕ) where
  -- the variable of the copy's result
  abbrev pub last : Var
  last = renumbered part.head.index part.body n source.result

  pub last_is : results (copied part n) ≡ last ∷ []
  last_is = results_mapped (renumbered part.head.index part.body n) part.body ∙ ap (map (renumbered part.head.index part.body n)) source.one

  chain_both : (b d : BlockTerm) (t z : Var) (s : Site) (ls : List Var) → ls ≡ z ∷ [] → chain (bindings b ++ last_copy (t ∷ []) ls s) d ≡ chain (bindings b) (Bind (t ∷ []) s (Plain (PlainTerm.Copy z)) d)
  chain_both (Gives xs) d t z s ls e = λ i. chain (last_copy (t ∷ []) (e i) s) d
  chain_both (Bind xs u r b) d t z s ls e = ap (Bind xs u r) (chain_both b d t z s ls e)

  pub taken_is :
      (index t : Var) (s : Site) (d : BlockTerm) → chain (taken part index (t ∷ []) s n) d
      ≡ Bind (variable n ∷ []) s (Plain (PlainTerm.Copy index)) (chain (bindings (copied part n)) (Bind (t ∷ []) s (Plain (PlainTerm.Copy last)) d))
  taken_is index t s d = ap (Bind (variable n ∷ []) s (Plain (PlainTerm.Copy index))) (chain_both (copied part n) d t last s (results (copied part n)) last_is)

  own_order : AreFrom n (variable n ∷ bound_in (copied part n))
  own_order = (refl, copy_order part.head.index part.body n source.once)

  own_count : length (variable n ∷ bound_in (copied part n)) ≡ copy_binds part
  own_count = ap suc (ap length (bound_mapped (renumbered part.head.index part.body n) part.body) ∙ map_length (renumbered part.head.index part.body n) (bound_in part.body))

  -- all that it binds is new
  pub own_new : (y : Var) → is_in y (variable n ∷ bound_in (copied part n)) ≡ true → (n ≤ y.0) × (suc y.0 ≤ n + copy_binds part)
  own_new y h = subst (λ m. (n ≤ y.0) × (suc y.0 ≤ n + m)) own_count (order_between n (variable n ∷ bound_in (copied part n)) own_order y h)

  pub own_names : Names [] (variable n ∷ bound_in (copied part n)) n (n + copy_binds part)
  own_names = record { within = λ y h. inr (own_new y h); once = λ d f. order_distinct n (variable n ∷ bound_in (copied part n)) own_order }

  pub taken_bound : (index t : Var) (s : Site) (d : BlockTerm) → bound_in (chain (taken part index (t ∷ []) s n) d) ≡ (variable n ∷ bound_in (copied part n)) ++ ((t ∷ []) ++ bound_in d)
  taken_bound index t s d = ap bound_in (taken_is index t s d) ∙ ap (λ xs. variable n ∷ xs) (bound_bindings (copied part n) (Bind (t ∷ []) s (Plain (PlainTerm.Copy last)) d))
