-- The parts that are made for the grids of a plan.
use Rattle.std.proofs.Common.{◌≡◌, ℕ, zero, suc, ◌+◌, ◌<◌, ◌≤◌, Bool, true, false, ◌||◌, cond, List, [], ◌∷◌, ◌++◌, map, length, All, Option, Some, None, refl, sym, ap, subst, ◌∙◌, ◌⊎◌, append_assoc, append-nil, arith, ℤ}
use Rattle.std.specs.Prelude.{filter, is_some, option_map, option_to_list, slice_get, nat_lt}
use Rattle.std.specs.List.{list_any, position, position_or_len}
use Rattle.std.proofs.lemmas.Bool.Decides.{nat_tests}
use Rattle.sac_base.specs.declared.grid.Grid1.{Grid1}
use Rattle.sac_base.specs.declared.op.Op.{Op}
use Rattle.sac_base.specs.declared.site.Site.{Site}
use Rattle.sac_base.specs.Grids.{has_vector, times_vector}
use Rattle.grid_sets.proofs.Keeping.{count_cons}
use Rattle.core_ir.specs.declared.tree.Var.{Var}
use Rattle.core_ir.specs.declared.tree.CoreOp.{CoreOp}
use Rattle.core_ir.specs.declared.tree.CoreOp.TheVariants as making
use Rattle.core_ir.specs.Binders.{bound_in, bound_in_gens, bound_in_parts}
use Rattle.core_ir.specs.Renaming.{under}
use Rattle.core_ir.specs.Scopes.{ScopedGens}
use Rattle.core_ir.specs.Terms.{BlockTerm, GensTerm, PartsTerm, GenTerm, PartTerm, GenHead, PartHead, NoParts, Part, gens_of, parts_of}
use Rattle.core_ir.specs.WellFormed.{Distinct, part_grids}
use Rattle.core_subst.specs.Names.{variable}
use Rattle.core_loops.specs.norm.Norm.{NameFirst}
use Rattle.core_loops.specs.Steps as loops
use Rattle.core_loops.specs.norm_steps.Genarray.{GenAt, NamedBody, LabelledParts, count_gens}
use Rattle.core_loops.specs.norm_steps.Modarray.{OldLabelled}
use Rattle.core_loops.specs.norm_steps.Fold.{FoldLabelled}
use Rattle.core_forms.specs.norm.Alike.{NamedAlike, LabelledAlike}
use Rattle.core_forms.specs.norm.Copied.{AreFrom}
use Rattle.core_forms.specs.norm.Fresh.{count_parts}
use Rattle.partable_loops.specs.Planned.{AllNamed, Label}
use Rattle.parted_bodies.specs.Making.{binds_of, generator_part, label_part, made_parts, part_body}
use Rattle.dense_variables.proofs.numbered.Numbered.{apart_if, order_append}
use Rattle.with_norm.proofs.Copied.{gen_place, copy_is, part_order}

-- ---- labels of generators that are there

abbrev pub stands : List GenTerm → Label → Bool
stands gens (grid, None) = true
stands gens (grid, Some m) = is_some (slice_get gens m)

abbrev pub kept : List GenTerm → List Label → List Label
kept gens labels = filter (stands gens) labels

more_zero : (n : ℕ) → n + 0 ≡ n
more_zero n = omega arith

-- without the others the same parts are made
pub made_kept : (op : CoreOp) (s : Site) (gens : List GenTerm) (ps : List Label) (n : ℕ) → made_parts op s gens ps n ≡ made_parts op s gens (kept gens ps) n
made_kept op s gens [] n = refl
made_kept op s gens ((grid, None) ∷ ps) n =
    let first = option_to_list (label_part op s gens grid None n) in
    ap (λ rest. first ++ rest) (made_kept op s gens ps (n + binds_of first))
made_kept op s gens ((grid, Some m) ∷ ps) n = by (λ k. made_kept op s gens ps k) (slice_get gens m) refl
  where
    part : Option GenTerm → Option PartTerm
    part o = option_map (λ g. generator_part g grid n) o

    by : ((k : ℕ) → made_parts op s gens ps k ≡ made_parts op s gens (kept gens ps) k) → (o : Option GenTerm) → slice_get gens m ≡ o → made_parts op s gens ((grid, Some m) ∷ ps) n ≡ made_parts op s gens (kept gens ((grid, Some m) ∷ ps)) n
    by rec None e =
        (λ i. option_to_list (part (e i)) ++ made_parts op s gens ps (n + binds_of (option_to_list (part (e i)))))
        ∙ (λ i. made_parts op s gens ps (more_zero n i))
        ∙ rec n
        ∙ (λ i. made_parts op s gens (cond (is_some (sym e i)) ((grid, Some m) ∷ kept gens ps) (kept gens ps)) n)
    by rec (Some g) e =
        let first = option_to_list (part (slice_get gens m)) in
        ap (λ rest. first ++ rest) (rec (n + binds_of first))
        ∙ (λ i. made_parts op s gens (cond (is_some (sym e i)) ((grid, Some m) ∷ kept gens ps) (kept gens ps)) n)

-- ---- no vector is lost

slice_some : (gens : List GenTerm) (m : ℕ) → m < length gens → is_some (slice_get gens m) ≡ true
slice_some [] m h = absurd (omega (arith, h))
slice_some (g ∷ gens) zero h = refl
slice_some (g ∷ gens) (suc m) h = slice_some gens m (omega (arith, h))

less_of : (a b : ℕ) → nat_lt a b ≡ true → a < b
less_of a b e = grind (arith, nat_tests)

abbrev some_number : (m : ℕ) → Option ℕ → ℕ
some_number m None = m
some_number m (Some n) = n

found_within : (p : List Grid1 → Bool) (grids : List (List Grid1)) (m : ℕ) → Some m ≡ position p grids → m < length grids
found_within p grids m e = by (nat_lt (position_or_len p grids) (length grids)) refl e
  where
    by : (t : Bool) → nat_lt (position_or_len p grids) (length grids) ≡ t → Some m ≡ cond t (Some (position_or_len p grids)) None → m < length grids
    by true q f = subst (λ n. n < length grids) (sym (ap (some_number m) f)) (less_of (position_or_len p grids) (length grids) q)
    by false q f = absurd (let r : ◌≡◌ {A = Option ℕ} (Some m) None = f in cc)

-- in how many grids
abbrev times : List Label → List ℤ → ℕ
times labels v = times_vector (map (λ (p : Label). p.0) labels) v

times_cons : (p : Label) (ps : List Label) (v : List ℤ) → times (p ∷ ps) v ≡ cond (has_vector p.0 v) 1 0 + times ps v
times_cons p ps v = count_cons (λ g. has_vector g v) p.0 (map (λ (p : Label). p.0) ps)

zero_more : (n : ℕ) → 0 + n ≡ n
zero_more n = omega arith

module _ (grids : List (List Grid1)) (gens : List GenTerm) (same : length grids ≡ length gens) where
  -- a grid whose generator is not there has no vector
  none_there : (grid : List Grid1) (m : ℕ) (v : List ℤ) → slice_get gens m ≡ None → (has_vector grid v ≡ true → Some m ≡ position (λ g. has_vector g v) grids) → has_vector grid v ≡ false
  none_there grid m v e f = by (has_vector grid v) refl
    where
      by : (t : Bool) → has_vector grid v ≡ t → has_vector grid v ≡ false
      by false q = q
      by true q =
          let inside : m < length gens = subst (λ n. m < n) same (found_within (λ g. has_vector g v) grids m (f q)) in
          Rattle.core_forms.proofs.inlined_bodies.Names.clash (is_some (slice_get gens m)) (slice_some gens m inside) (ap is_some e)

  pub kept_times : (ps : List Label) (v : List ℤ) → NameFirst grids ps → times (kept gens ps) v ≡ times ps v
  kept_times [] v h = refl
  kept_times ((grid, None) ∷ ps) v h =
      times_cons (grid, None) (kept gens ps) v ∙ ap (λ m. cond (has_vector grid v) 1 0 + m) (kept_times ps v h.1) ∙ sym (times_cons (grid, None) ps v)
  kept_times ((grid, Some m) ∷ ps) v h = by (kept_times ps v h.1) (slice_get gens m) refl
    where
      by : times (kept gens ps) v ≡ times ps v → (o : Option GenTerm) → slice_get gens m ≡ o → times (kept gens ((grid, Some m) ∷ ps)) v ≡ times ((grid, Some m) ∷ ps) v
      by rec None e =
          (λ i. times (cond (is_some (e i)) ((grid, Some m) ∷ kept gens ps) (kept gens ps)) v)
          ∙ rec
          ∙ sym (times_cons (grid, Some m) ps v ∙ ap (λ t. cond t 1 0 + times ps v) (none_there grid m v e (h.0 v)) ∙ zero_more (times ps v))
      by rec (Some g) e =
          (λ i. times (cond (is_some (e i)) ((grid, Some m) ∷ kept gens ps) (kept gens ps)) v)
          ∙ times_cons (grid, Some m) (kept gens ps) v ∙ ap (λ k. cond (has_vector grid v) 1 0 + k) rec ∙ sym (times_cons (grid, Some m) ps v)

  pub kept_names : (ps : List Label) → NameFirst grids ps → NameFirst grids (kept gens ps)
  kept_names [] h = tt
  kept_names ((grid, None) ∷ ps) h = (h.0, kept_names ps h.1)
  kept_names ((grid, Some m) ∷ ps) h = by (kept_names ps h.1) (slice_get gens m) refl
    where
      by : NameFirst grids (kept gens ps) → (o : Option GenTerm) → slice_get gens m ≡ o → NameFirst grids (kept gens ((grid, Some m) ∷ ps))
      by rec None e = subst (λ t. NameFirst grids (cond t ((grid, Some m) ∷ kept gens ps) (kept gens ps))) (ap is_some (sym e)) rec
      by rec (Some g) e = subst (λ t. NameFirst grids (cond t ((grid, Some m) ∷ kept gens ps) (kept gens ps))) (ap is_some (sym e)) (h.0, rec)

either_false : (a b : Bool) → (a || b) ≡ false → (a ≡ false) × (b ≡ false)
either_false true b e = Rattle.core_forms.proofs.inlined_bodies.Names.clash true refl e
either_false false b e = (refl, e)

pub kept_any : (gens : List GenTerm) (ps : List Label) (v : List ℤ) → list_any (λ (p : Label). has_vector p.0 v) ps ≡ false → list_any (λ (p : Label). has_vector p.0 v) (kept gens ps) ≡ false
kept_any gens [] v h = refl
kept_any gens (p ∷ ps) v h =
    let w = either_false (has_vector p.0 v) (list_any (λ (p : Label). has_vector p.0 v) ps) h in
    by w.0 (kept_any gens ps v w.1) (stands gens p) refl
  where
    by : has_vector p.0 v ≡ false → list_any (λ (p : Label). has_vector p.0 v) (kept gens ps) ≡ false → (t : Bool) → stands gens p ≡ t → list_any (λ (p : Label). has_vector p.0 v) (kept gens (p ∷ ps)) ≡ false
    by one rec true e = (λ i. list_any (λ (p : Label). has_vector p.0 v) (cond (e i) (p ∷ kept gens ps) (kept gens ps))) ∙ (λ i. one i || rec i)
    by one rec false e = (λ i. list_any (λ (p : Label). has_vector p.0 v) (cond (e i) (p ∷ kept gens ps) (kept gens ps))) ∙ rec

-- ---- how many

suc_most : (a b : ℕ) → a ≤ b → suc a ≤ suc b
suc_most a b h = omega (arith, h)

more_most : (a b : ℕ) → a ≤ b → a ≤ suc b
more_most a b h = omega (arith, h)

pub filter_most : (p : Label → Bool) (ps : List Label) → length (filter p ps) ≤ length ps
filter_most p [] = omega arith
filter_most p (x ∷ ps) = by (filter_most p ps) (p x)
  where
    by : length (filter p ps) ≤ length ps → (t : Bool) → length (cond t (x ∷ filter p ps) (filter p ps)) ≤ suc (length ps)
    by rec true = suc_most (length (filter p ps)) (length ps) rec
    by rec false = more_most (length (filter p ps)) (length ps) rec

pub made_count : (op : CoreOp) (s : Site) (gens : List GenTerm) (ps : List Label) (n : ℕ) → count_parts (parts_of (made_parts op s gens ps n)) ≤ length ps
made_count op s gens [] n = omega arith
made_count op s gens (p ∷ ps) n = by (label_part op s gens p.0 p.1 n) (λ k. made_count op s gens ps k)
  where
    by : (o : Option PartTerm) → ((k : ℕ) → count_parts (parts_of (made_parts op s gens ps k)) ≤ length ps) →
        count_parts (parts_of (option_to_list o ++ made_parts op s gens ps (n + binds_of (option_to_list o)))) ≤ suc (length ps)
    by None h = more_most (count_parts (parts_of (made_parts op s gens ps (n + 0)))) (length ps) (h (n + 0))
    by (Some x) h = suc_most (count_parts (parts_of (made_parts op s gens ps (n + binds_of (x ∷ []))))) (length ps) (h (n + binds_of (x ∷ [])))

-- ---- what is bound

parts_bound : (xs ys : List PartTerm) → bound_in_parts (parts_of (xs ++ ys)) ≡ bound_in_parts (parts_of xs) ++ bound_in_parts (parts_of ys)
parts_bound [] ys = refl
parts_bound (x ∷ xs) ys =
    ap (λ l. x.head.index ∷ (bound_in x.body ++ l)) (parts_bound xs ys)
    ∙ ap (λ l. x.head.index ∷ l) (sym (append_assoc (bound_in x.body) (bound_in_parts (parts_of xs)) (bound_in_parts (parts_of ys))))

module _ (scope : List Var) (op : CoreOp) (s : Site) (gens : List GenTerm) (scoped : ScopedGens scope (gens_of gens)) (once : Distinct (bound_in_gens (gens_of gens))) where
  gen_order : (grid : List Grid1) (m n : ℕ) (o : Option GenTerm) → slice_get gens m ≡ o → AreFrom n (bound_in_parts (parts_of (option_to_list (option_map (λ g. generator_part g grid n) o))))
  gen_order grid m n None e = tt
  gen_order grid m n (Some g) e =
      let at = gen_place gens m g scope e scoped once in
      let own = Rattle.core_forms.proofs.inlined_bodies.Names.distinct_right (g.head.index ∷ g.head.names) (bound_in g.body) at.once in
      (refl, subst (AreFrom (suc n)) (sym (append-nil (bound_in (part_body g (variable n) (suc n))))) (part_order g n own))

  label_order : (o : CoreOp) (grid : List Grid1) (l : Option ℕ) (n : ℕ) → AreFrom n (bound_in_parts (parts_of (option_to_list (label_part o s gens grid l n))))
  label_order (making.Genarray x y) grid None n = (refl, tt)
  label_order (making.Modarray x) grid None n = (refl, (refl, tt))
  label_order (making.Fold f x) grid None n = tt
  label_order o grid (Some m) n = gen_order grid m n (slice_get gens m) refl

  pub made_order : (ps : List Label) (n : ℕ) → AreFrom n (bound_in_parts (parts_of (made_parts op s gens ps n)))
  made_order [] n = tt
  made_order (p ∷ ps) n =
      let first = option_to_list (label_part op s gens p.0 p.1 n) in
      let rest = made_parts op s gens ps (n + binds_of first) in
      subst (AreFrom n) (sym (parts_bound first rest))
      (order_append n (bound_in_parts (parts_of first)) (bound_in_parts (parts_of rest)) (label_order op p.0 p.1 n) (made_order ps (n + binds_of first)))

-- ---- parts with their labels

pub names_at : (axes : ℕ) (gens : List GenTerm) (m : ℕ) (g : GenTerm) → slice_get gens m ≡ Some g → AllNamed axes (gens_of gens) → (g.head.names ≡ []) ⊎ (length g.head.names ≡ axes)
names_at axes [] m g e h = absurd (let q : ◌≡◌ {A = Option GenTerm} None (Some g) = e in cc)
names_at axes (x ∷ gens) zero g e h =
    let own : x ≡ g = ap (λ o. Rattle.std.specs.Prelude.unwrap_or o x) e in
    subst (λ (y : GenTerm). (y.head.names ≡ []) ⊎ (length y.head.names ≡ axes)) own h.0
names_at axes (x ∷ gens) (suc m) g e h = names_at axes gens m g e h.1

pub gens_count : (gens : List GenTerm) → count_gens (gens_of gens) ≡ length gens
gens_count [] = refl
gens_count (g ∷ gens) = ap suc (gens_count gens)

up_to : (low n k : ℕ) → low ≤ n → low ≤ n + k
up_to low n k h = omega (arith, h)

above_var : (low n y : ℕ) → y < low → low ≤ n → n ≡ y → ⊥
above_var low n y p q e = omega (arith, p, q, e)

module _ (scope : List Var) (low : ℕ) (below : All (λ (x : Var). x.0 < low) scope) (s : Site) (gens : List GenTerm) (scoped : ScopedGens scope (gens_of gens)) (once : Distinct (bound_in_gens (gens_of gens))) (axes : ℕ) (named : AllNamed axes (gens_of gens)) where
  -- a part with a copy of a generator's body
  abbrev IsCopy : ℕ → PartHead → BlockTerm → Type 0
  IsCopy m h b = (head : GenHead) × ((body : BlockTerm) ×
      (GenAt (gens_of gens) m head body × (h.site ≡ head.site) × ((head.names ≡ []) ⊎ (length head.names ≡ axes)) × NamedBody (under loops.itself head.index h.index) h.index 0 head.names body b))

  abbrev IsAlike : ℕ → BlockTerm → Type 0
  IsAlike m b = (head : GenHead) × ((body : BlockTerm) × (GenAt (gens_of gens) m head body × NamedAlike head.names body b))

  copied : (m : ℕ) (g : GenTerm) (n : ℕ) (grid : List Grid1) → slice_get gens m ≡ Some g → low ≤ n → IsCopy m (generator_part g grid n).head (generator_part g grid n).body × IsAlike m (generator_part g grid n).body
  copied m g n grid e high =
      let at = gen_place gens m g scope e scoped once in
      let copy = copy_is scope low below (gens_of gens) m g at n high in
      ((g.head, (g.body, (at.stands, refl, names_at axes gens m g e named, copy.0))), (g.head, (g.body, (at.stands, copy.1))))

  module _ (shape default : Var) (small : default.0 < low) where
    abbrev Genarray : List Label → PartsTerm → Type 0
    Genarray ps parts = LabelledParts default axes (gens_of gens) ps parts × LabelledAlike (gens_of gens) ps parts

    pub genarray_made : (ps : List Label) (n : ℕ) → low ≤ n → Genarray (kept gens ps) (parts_of (made_parts (making.Genarray shape default) s gens (kept gens ps) n))
    genarray_made [] n high = (tt, tt)
    genarray_made ((grid, None) ∷ ps) n high =
        let rest = genarray_made ps (n + 1) (up_to low n 1 high) in
        ((refl, (refl, apart_if n default.0 (above_var low n default.0 small high)), rest.0), rest.1)
    genarray_made ((grid, Some m) ∷ ps) n high = by (λ k up. genarray_made ps k up) (slice_get gens m) refl
      where
        op : CoreOp
        op = making.Genarray shape default

        here : List Label → Type 0
        here ks = Genarray ks (parts_of (made_parts op s gens ks n))

        by : ((k : ℕ) → low ≤ k → Genarray (kept gens ps) (parts_of (made_parts (making.Genarray shape default) s gens (kept gens ps) k))) → (o : Option GenTerm) → slice_get gens m ≡ o → here (kept gens ((grid, Some m) ∷ ps))
        by rec None e = subst (λ t. here (cond t ((grid, Some m) ∷ kept gens ps) (kept gens ps))) (ap is_some (sym e)) (rec n high)
        by rec (Some g) e =
            let first = generator_part g grid n in
            let rest = rec (n + binds_of (first ∷ [])) (up_to low n (binds_of (first ∷ [])) high) in
            let copy = copied m g n grid e high in
            subst (λ t. here (cond t ((grid, Some m) ∷ kept gens ps) (kept gens ps))) (ap is_some (sym e))
            (subst (λ (o : Option GenTerm). Genarray ((grid, Some m) ∷ kept gens ps) (parts_of (option_to_list (option_map (λ x. generator_part x grid n) o) ++ made_parts op s gens (kept gens ps) (n + binds_of (option_to_list (option_map (λ x. generator_part x grid n) o)))))) (sym e)
            ((refl, copy.0, rest.0), (copy.1, rest.1)))

  module _ (array : Var) (small : array.0 < low) where
    abbrev Modarray : List Label → PartsTerm → Type 0
    Modarray ps parts = OldLabelled array axes (gens_of gens) ps parts × LabelledAlike (gens_of gens) ps parts

    pub modarray_made : (ps : List Label) (n : ℕ) → low ≤ n → Modarray (kept gens ps) (parts_of (made_parts (making.Modarray array) s gens (kept gens ps) n))
    modarray_made [] n high = (tt, tt)
    modarray_made ((grid, None) ∷ ps) n high =
        let rest = modarray_made ps (n + 2) (up_to low n 2 high) in
        ((refl, (variable (suc n), (s, (refl, apart_if n array.0 (above_var low n array.0 small high)))), rest.0), rest.1)
    modarray_made ((grid, Some m) ∷ ps) n high = by (λ k up. modarray_made ps k up) (slice_get gens m) refl
      where
        op : CoreOp
        op = making.Modarray array

        here : List Label → Type 0
        here ks = Modarray ks (parts_of (made_parts op s gens ks n))

        by : ((k : ℕ) → low ≤ k → Modarray (kept gens ps) (parts_of (made_parts (making.Modarray array) s gens (kept gens ps) k))) → (o : Option GenTerm) → slice_get gens m ≡ o → here (kept gens ((grid, Some m) ∷ ps))
        by rec None e = subst (λ t. here (cond t ((grid, Some m) ∷ kept gens ps) (kept gens ps))) (ap is_some (sym e)) (rec n high)
        by rec (Some g) e =
            let first = generator_part g grid n in
            let rest = rec (n + binds_of (first ∷ [])) (up_to low n (binds_of (first ∷ [])) high) in
            let copy = copied m g n grid e high in
            subst (λ t. here (cond t ((grid, Some m) ∷ kept gens ps) (kept gens ps))) (ap is_some (sym e))
            (subst (λ (o : Option GenTerm). Modarray ((grid, Some m) ∷ kept gens ps) (parts_of (option_to_list (option_map (λ x. generator_part x grid n) o) ++ made_parts op s gens (kept gens ps) (n + binds_of (option_to_list (option_map (λ x. generator_part x grid n) o)))))) (sym e)
            ((refl, copy.0, rest.0), (copy.1, rest.1)))

  module _ (o : Op) (neutral : Var) where
    abbrev Fold : List Label → PartsTerm → Type 0
    Fold ps parts = FoldLabelled axes (gens_of gens) ps parts × LabelledAlike (gens_of gens) ps parts

    abbrev held : List Label → List Label
    held ps = filter (λ (p : Label). is_some p.1) ps

    pub fold_made : (ps : List Label) (n : ℕ) → low ≤ n → Fold (kept gens (held ps)) (parts_of (made_parts (making.Fold o neutral) s gens (kept gens (held ps)) n))
    fold_made [] n high = (tt, tt)
    fold_made ((grid, None) ∷ ps) n high = fold_made ps n high
    fold_made ((grid, Some m) ∷ ps) n high = by (λ k up. fold_made ps k up) (slice_get gens m) refl
      where
        op : CoreOp
        op = making.Fold o neutral

        here : List Label → Type 0
        here ks = Fold ks (parts_of (made_parts op s gens ks n))

        by : ((k : ℕ) → low ≤ k → Fold (kept gens (held ps)) (parts_of (made_parts (making.Fold o neutral) s gens (kept gens (held ps)) k))) → (x : Option GenTerm) → slice_get gens m ≡ x → here (kept gens ((grid, Some m) ∷ held ps))
        by rec None e = subst (λ t. here (cond t ((grid, Some m) ∷ kept gens (held ps)) (kept gens (held ps)))) (ap is_some (sym e)) (rec n high)
        by rec (Some g) e =
            let first = generator_part g grid n in
            let rest = rec (n + binds_of (first ∷ [])) (up_to low n (binds_of (first ∷ [])) high) in
            let copy = copied m g n grid e high in
            subst (λ t. here (cond t ((grid, Some m) ∷ kept gens (held ps)) (kept gens (held ps)))) (ap is_some (sym e))
            (subst (λ (x : Option GenTerm). Fold ((grid, Some m) ∷ kept gens (held ps)) (parts_of (option_to_list (option_map (λ y. generator_part y grid n) x) ++ made_parts op s gens (kept gens (held ps)) (n + binds_of (option_to_list (option_map (λ y. generator_part y grid n) x)))))) (sym e)
            ((refl, copy.0, rest.0), (copy.1, rest.1)))

-- ---- the grids of the parts

pub genarray_grids : (default : Var) (axes : ℕ) (gens : GensTerm) (ps : List Label) (parts : PartsTerm) → LabelledParts default axes gens ps parts → part_grids parts ≡ map (λ (p : Label). p.0) ps
genarray_grids default axes gens [] NoParts h = refl
genarray_grids default axes gens [] (Part x b rest) h = absurd h
genarray_grids default axes gens (p ∷ ps) NoParts h = absurd h
genarray_grids default axes gens (p ∷ ps) (Part x b rest) h = λ i. h.0 i ∷ genarray_grids default axes gens ps rest h.2 i

pub modarray_grids : (array : Var) (axes : ℕ) (gens : GensTerm) (ps : List Label) (parts : PartsTerm) → OldLabelled array axes gens ps parts → part_grids parts ≡ map (λ (p : Label). p.0) ps
modarray_grids array axes gens [] NoParts h = refl
modarray_grids array axes gens [] (Part x b rest) h = absurd h
modarray_grids array axes gens (p ∷ ps) NoParts h = absurd h
modarray_grids array axes gens (p ∷ ps) (Part x b rest) h = λ i. h.0 i ∷ modarray_grids array axes gens ps rest h.2 i

pub fold_grids : (axes : ℕ) (gens : GensTerm) (ps : List Label) (parts : PartsTerm) → FoldLabelled axes gens ps parts → part_grids parts ≡ map (λ (p : Label). p.0) ps
fold_grids axes gens [] NoParts h = refl
fold_grids axes gens [] (Part x b rest) h = absurd h
fold_grids axes gens (p ∷ ps) NoParts h = absurd h
fold_grids axes gens (p ∷ ps) (Part x b rest) h = λ i. h.0 i ∷ fold_grids axes gens ps rest h.2 i
