-- What holds where one place of a block is changed, if it holds at the place.
use Rattle.std.proofs.Common.{◌≡◌, ℕ, ◌≤◌, List, [], ◌∷◌, ◌++◌, refl, ap, subst, arith}
use Rattle.std.specs.Prelude.{zip}
use Rattle.sac_base.specs.declared.base.Base.{Base}
use Rattle.sac_base.specs.declared.base.Base.TheVariants.{Int, Bool as Truth}
use Rattle.sac_base.specs.declared.grid.Grid1.{Grid1}
use Rattle.core_ir.specs.declared.tree.Var.{Var}
use Rattle.core_ir.specs.Binders.{bound_in, bound_in_right, bound_in_gens, bound_in_parts}
use Rattle.core_ir.specs.Edits.{Ways, Edited, EditedRight, EditedGens, EditedParts, here, later, inside, in_then, in_else, in_test, in_body, in_gens, in_parts, this_gen, later_gen, this_part, later_part}
use Rattle.core_ir.specs.Scopes.{Scoped, ScopedRight, ScopedGens, ScopedParts}
use Rattle.core_ir.specs.Terms.{BlockTerm, RightTerm, GensTerm, PartsTerm, CoreTerm}
use Rattle.core_ir.specs.WellFormed.{Bases, ints, part_grids, PartedFits, GroupBases, BlockBases, RightBases, GensBases, PartsBases, Distinct}
use Rattle.core_facts.specs.calls.Nests.{CallsAll, CallsAllRight, CallsAllGens, CallsAllParts}
use Rattle.core_loops.specs.norm_steps.Step.{BaseTable, Within, Follows, FollowsRight, FollowsGens, FollowsParts}
use Rattle.core_loops.proofs.norm_steps.Places.{within_zip, within_ints, within_one}
use Rattle.core_forms.proofs.inlined_bodies.Names.{Names, same, both, distinct_left, distinct_right, Fresh, fresh_both, fresh_left, fresh_right}
use Rattle.core_forms.proofs.norm.Tables.{Low, low_zip, low_ints}
use Rattle.core_forms.proofs.norm.Below.{olds, old_numbers, OldBases, OldRight, OldGens, OldParts, moved, moved_right, moved_gens, moved_parts}

module _ (Facts : Type 0) (ways : Ways Facts) (Rule : Facts → BlockTerm → BlockTerm → Type 0) where
  -- ---- another rule

  module _ (Other : Facts → BlockTerm → BlockTerm → Type 0) (rule : (k : Facts) (b c : BlockTerm) → Rule k b c → Other k b c) where
    mutual
      pub by_other : {k : Facts} {b c : BlockTerm} → Edited Facts ways Rule k b c → Edited Facts ways Other k b c
      by_other (here {known = k} {b = b} {c = c} h) = here (rule k b c h)
      by_other (later h) = later (by_other h)
      by_other (inside h) = inside (by_other_right h)

      by_other_right : {k : Facts} {r q : RightTerm} → EditedRight Facts ways Rule k r q → EditedRight Facts ways Other k r q
      by_other_right (in_then h) = in_then (by_other h)
      by_other_right (in_else h) = in_else (by_other h)
      by_other_right (in_test h) = in_test (by_other h)
      by_other_right (in_body h) = in_body (by_other h)
      by_other_right (in_gens h) = in_gens (by_other_gens h)
      by_other_right (in_parts h) = in_parts (by_other_parts h)

      by_other_gens : {k : Facts} {g c : GensTerm} → EditedGens Facts ways Rule k g c → EditedGens Facts ways Other k g c
      by_other_gens (this_gen h) = this_gen (by_other h)
      by_other_gens (later_gen h) = later_gen (by_other_gens h)

      by_other_parts : {k : Facts} {p q : PartsTerm} → EditedParts Facts ways Rule k p q → EditedParts Facts ways Other k p q
      by_other_parts (this_part h) = this_part (by_other h)
      by_other_parts (later_part h) = later_part (by_other_parts h)

  -- ---- what is bound

  module _ (low high : ℕ) (rise : low ≤ high) (rule : (k : Facts) (b c : BlockTerm) → Rule k b c → Names (bound_in b) (bound_in c) low high) where
    front : (xs zs xs' : List Var) → Names xs xs' low high → Names (xs ++ zs) (xs' ++ zs) low high
    front xs zs xs' h = both xs zs xs' zs low high high rise (omega arith) h (same zs high high)

    back : (xs zs zs' : List Var) → Names zs zs' low high → Names (xs ++ zs) (xs ++ zs') low high
    back xs zs zs' h = both xs zs xs zs' low low high (omega arith) rise (same xs low low) h

    mutual
      pub names_kept : {k : Facts} {b c : BlockTerm} → Edited Facts ways Rule k b c → Names (bound_in b) (bound_in c) low high
      names_kept (here {known = k} {b = b} {c = c} h) = rule k b c h
      names_kept (later {xs = xs} {r = r} {b = b} {c = c} h) = back xs (bound_in_right r ++ bound_in b) (bound_in_right r ++ bound_in c) (back (bound_in_right r) (bound_in b) (bound_in c) (names_kept h))
      names_kept (inside {xs = xs} {r = r} {q = q} {b = b} h) = back xs (bound_in_right r ++ bound_in b) (bound_in_right q ++ bound_in b) (front (bound_in_right r) (bound_in b) (bound_in_right q) (names_kept_right h))

      names_kept_right : {k : Facts} {r q : RightTerm} → EditedRight Facts ways Rule k r q → Names (bound_in_right r) (bound_in_right q) low high
      names_kept_right (in_then {a = a} {b = b} {c = c} h) = front (bound_in a) (bound_in b) (bound_in c) (names_kept h)
      names_kept_right (in_else {a = a} {b = b} {c = c} h) = back (bound_in a) (bound_in b) (bound_in c) (names_kept h)
      names_kept_right (in_test {params = ps} {a = a} {b = b} {c = c} h) = back ps (bound_in a ++ bound_in b) (bound_in c ++ bound_in b) (front (bound_in a) (bound_in b) (bound_in c) (names_kept h))
      names_kept_right (in_body {params = ps} {a = a} {b = b} {c = c} h) = back ps (bound_in a ++ bound_in b) (bound_in a ++ bound_in c) (back (bound_in a) (bound_in b) (bound_in c) (names_kept h))
      names_kept_right (in_gens h) = names_kept_gens h
      names_kept_right (in_parts h) = names_kept_parts h

      names_kept_gens : {k : Facts} {g c : GensTerm} → EditedGens Facts ways Rule k g c → Names (bound_in_gens g) (bound_in_gens c) low high
      names_kept_gens (this_gen {h = j} {b = b} {c = c} {rest = rest} h) =
          back (j.index ∷ j.names) (bound_in b ++ bound_in_gens rest) (bound_in c ++ bound_in_gens rest) (front (bound_in b) (bound_in_gens rest) (bound_in c) (names_kept h))
      names_kept_gens (later_gen {h = j} {b = b} {g = g} {k = k} h) =
          back (j.index ∷ j.names) (bound_in b ++ bound_in_gens g) (bound_in b ++ bound_in_gens k) (back (bound_in b) (bound_in_gens g) (bound_in_gens k) (names_kept_gens h))

      names_kept_parts : {k : Facts} {p q : PartsTerm} → EditedParts Facts ways Rule k p q → Names (bound_in_parts p) (bound_in_parts q) low high
      names_kept_parts (this_part {h = j} {b = b} {c = c} {rest = rest} h) =
          back (j.index ∷ []) (bound_in b ++ bound_in_parts rest) (bound_in c ++ bound_in_parts rest) (front (bound_in b) (bound_in_parts rest) (bound_in c) (names_kept h))
      names_kept_parts (later_part {h = j} {b = b} {p = p} {q = q} h) =
          back (j.index ∷ []) (bound_in b ++ bound_in_parts p) (bound_in b ++ bound_in_parts q) (back (bound_in b) (bound_in_parts p) (bound_in_parts q) (names_kept_parts h))

  -- ---- scopes

  module _ (low : ℕ) (rule : (k : Facts) (b c : BlockTerm) → Rule k b c → (scope : List Var) → Scoped scope b → Fresh scope low → Fresh (bound_in b) low → Scoped scope c) where
    mutual
      pub scoped_kept : {k : Facts} {b c : BlockTerm} → Edited Facts ways Rule k b c → (scope : List Var) → Scoped scope b → Fresh scope low → Fresh (bound_in b) low → Scoped scope c
      scoped_kept (here {known = k} {b = b} {c = c} h) scope s f d = rule k b c h scope s f d
      scoped_kept (later {xs = xs} {r = r} {b = b} h) scope s f d =
          let inner = fresh_right xs (bound_in_right r ++ bound_in b) low d in
          (s.0, s.1, scoped_kept h (xs ++ scope) s.2 (fresh_both xs scope low (fresh_left xs (bound_in_right r ++ bound_in b) low d) f) (fresh_right (bound_in_right r) (bound_in b) low inner))
      scoped_kept (inside {xs = xs} {r = r} {b = b} h) scope s f d =
          (scoped_kept_right h scope s.0 f (fresh_left (bound_in_right r) (bound_in b) low (fresh_right xs (bound_in_right r ++ bound_in b) low d)), s.1, s.2)

      scoped_kept_right : {k : Facts} {r q : RightTerm} → EditedRight Facts ways Rule k r q → (scope : List Var) → ScopedRight scope r → Fresh scope low → Fresh (bound_in_right r) low → ScopedRight scope q
      scoped_kept_right (in_then {a = a} {b = b} h) scope s f d = (s.0, scoped_kept h scope s.1 f (fresh_left (bound_in a) (bound_in b) low d), s.2)
      scoped_kept_right (in_else {a = a} {b = b} h) scope s f d = (s.0, s.1, scoped_kept h scope s.2 f (fresh_right (bound_in a) (bound_in b) low d))
      scoped_kept_right (in_test {params = ps} {a = a} {b = b} h) scope s f d =
          let inner = fresh_right ps (bound_in a ++ bound_in b) low d in
          (s.0, s.1, scoped_kept h (ps ++ scope) s.2 (fresh_both ps scope low (fresh_left ps (bound_in a ++ bound_in b) low d) f) (fresh_left (bound_in a) (bound_in b) low inner), s.3)
      scoped_kept_right (in_body {params = ps} {a = a} {b = b} h) scope s f d =
          let inner = fresh_right ps (bound_in a ++ bound_in b) low d in
          (s.0, s.1, s.2, scoped_kept h (ps ++ scope) s.3 (fresh_both ps scope low (fresh_left ps (bound_in a ++ bound_in b) low d) f) (fresh_right (bound_in a) (bound_in b) low inner))
      scoped_kept_right (in_gens h) scope s f d = (s.0, scoped_kept_gens h scope s.1 f d)
      scoped_kept_right (in_parts h) scope s f d = (s.0, scoped_kept_parts h scope s.1 f d)

      scoped_kept_gens : {k : Facts} {g c : GensTerm} → EditedGens Facts ways Rule k g c → (scope : List Var) → ScopedGens scope g → Fresh scope low → Fresh (bound_in_gens g) low → ScopedGens scope c
      scoped_kept_gens (this_gen {h = j} {b = b} {rest = rest} h) scope s f d =
          let xs = j.index ∷ j.names in
          let more = bound_in b ++ bound_in_gens rest in
          (s.0, s.1, scoped_kept h (xs ++ scope) s.2 (fresh_both xs scope low (fresh_left xs more low d) f) (fresh_left (bound_in b) (bound_in_gens rest) low (fresh_right xs more low d)), s.3)
      scoped_kept_gens (later_gen {h = j} {b = b} {g = g} h) scope s f d =
          (s.0, s.1, s.2, scoped_kept_gens h scope s.3 f (fresh_right (bound_in b) (bound_in_gens g) low (fresh_right (j.index ∷ j.names) (bound_in b ++ bound_in_gens g) low d)))

      scoped_kept_parts : {k : Facts} {p q : PartsTerm} → EditedParts Facts ways Rule k p q → (scope : List Var) → ScopedParts scope p → Fresh scope low → Fresh (bound_in_parts p) low → ScopedParts scope q
      scoped_kept_parts (this_part {h = j} {b = b} {rest = rest} h) scope s f d =
          let xs = j.index ∷ [] in
          let more = bound_in b ++ bound_in_parts rest in
          (s.0, scoped_kept h (xs ++ scope) s.1 (fresh_both xs scope low (fresh_left xs more low d) f) (fresh_left (bound_in b) (bound_in_parts rest) low (fresh_right xs more low d)), s.2)
      scoped_kept_parts (later_part {h = j} {b = b} {p = p} h) scope s f d =
          (s.0, s.1, scoped_kept_parts h scope s.2 f (fresh_right (bound_in b) (bound_in_parts p) low (fresh_right (j.index ∷ []) (bound_in b ++ bound_in_parts p) low d)))

  -- ---- calls

  module _ (P : ℕ → Type 0) (rule : (k : Facts) (b c : BlockTerm) → Rule k b c → CallsAll P b → CallsAll P c) where
    mutual
      pub calls_kept : {k : Facts} {b c : BlockTerm} → Edited Facts ways Rule k b c → CallsAll P b → CallsAll P c
      calls_kept (here {known = k} {b = b} {c = c} h) s = rule k b c h s
      calls_kept (later h) s = (s.0, calls_kept h s.1)
      calls_kept (inside h) s = (calls_kept_right h s.0, s.1)

      calls_kept_right : {k : Facts} {r q : RightTerm} → EditedRight Facts ways Rule k r q → CallsAllRight P r → CallsAllRight P q
      calls_kept_right (in_then h) s = (calls_kept h s.0, s.1)
      calls_kept_right (in_else h) s = (s.0, calls_kept h s.1)
      calls_kept_right (in_test h) s = (calls_kept h s.0, s.1)
      calls_kept_right (in_body h) s = (s.0, calls_kept h s.1)
      calls_kept_right (in_gens h) s = calls_kept_gens h s
      calls_kept_right (in_parts h) s = calls_kept_parts h s

      calls_kept_gens : {k : Facts} {g c : GensTerm} → EditedGens Facts ways Rule k g c → CallsAllGens P g → CallsAllGens P c
      calls_kept_gens (this_gen h) s = (calls_kept h s.0, s.1)
      calls_kept_gens (later_gen h) s = (s.0, calls_kept_gens h s.1)

      calls_kept_parts : {k : Facts} {p q : PartsTerm} → EditedParts Facts ways Rule k p q → CallsAllParts P p → CallsAllParts P q
      calls_kept_parts (this_part h) s = (calls_kept h s.0, s.1)
      calls_kept_parts (later_part h) s = (s.0, calls_kept_parts h s.1)

  -- ---- bases

  mutual
    grids_kept : {k : Facts} {p q : PartsTerm} → EditedParts Facts ways Rule k p q → part_grids p ≡ part_grids q
    grids_kept (this_part h) = refl
    grids_kept (later_part {h = j} h) = ap (λ gs. j.grid ∷ gs) (grids_kept h)

  module _ (n low : ℕ) (m : BaseTable) (core next : CoreTerm) (into : (group : ℕ) (us ts : List Base) → GroupBases core group us ts → GroupBases next group us ts) (rule : (k : Facts) (b c : BlockTerm) → Rule k b c → (g : Bases) (ts : List Base) → (d : BlockBases core g b ts) → Within m g → Follows core m b g ts d → Low g low → Fresh (bound_in b) low → Distinct (bound_in b) → (e : BlockBases next g c ts) × OldBases next n m c g ts e) where
    mutual
      pub bases_kept :
          {k : Facts} {b c : BlockTerm} → Edited Facts ways Rule k b c → (g : Bases) (ts : List Base) → (d : BlockBases core g b ts) → Within m g → Follows core m b g ts d →
          Low g low → Fresh (bound_in b) low → Distinct (bound_in b) → (e : BlockBases next g c ts) × OldBases next n m c g ts e
      bases_kept (here {known = k} {b = b} {c = c} h) g ts d w f l v o = rule k b c h g ts d w f l v o
      bases_kept (later {xs = xs} {r = r} {b = b} h) g ts d w f l v o =
          let more = bound_in_right r ++ bound_in b in
          let a = moved_right n m core next into r g d.0 d.1.0 f.1 in
          let c =
          bases_kept h (zip xs d.0 ++ g) ts d.1.2 (within_zip m g xs d.0 w f.0) f.2 (low_zip xs d.0 g low (fresh_left xs more low v) l) (fresh_right (bound_in_right r) (bound_in b) low (fresh_right xs more low v))
          (distinct_right (bound_in_right r) (bound_in b) (distinct_right xs more o)) in
          ((d.0, (a.0, d.1.1, c.0)), (olds n m xs d.0 f.0, a.1, c.1))
      bases_kept (inside {xs = xs} {r = r} {b = b} h) g ts d w f l v o =
          let more = bound_in_right r ++ bound_in b in
          let a = bases_kept_right h g d.0 d.1.0 w f.1 l (fresh_left (bound_in_right r) (bound_in b) low (fresh_right xs more low v)) (distinct_left (bound_in_right r) (bound_in b) (distinct_right xs more o)) in
          let c = moved n m core next into b (zip xs d.0 ++ g) ts d.1.2 f.2 in
          ((d.0, (a.0, d.1.1, c.0)), (olds n m xs d.0 f.0, a.1, c.1))

      bases_kept_right :
          {k : Facts} {r q : RightTerm} → EditedRight Facts ways Rule k r q → (g : Bases) (ts : List Base) → (d : RightBases core g r ts) → Within m g → FollowsRight core m r g ts d →
          Low g low → Fresh (bound_in_right r) low → Distinct (bound_in_right r) → (e : RightBases next g q ts) × OldRight next n m q g ts e
      bases_kept_right (in_then {a = x} {b = b} h) g ts d w f l v o =
          let a = bases_kept h g ts d.1 w f.0 l (fresh_left (bound_in x) (bound_in b) low v) (distinct_left (bound_in x) (bound_in b) o) in
          let c = moved n m core next into b g ts d.2 f.1 in
          ((d.0, a.0, c.0), (a.1, c.1))
      bases_kept_right (in_else {a = x} {b = b} h) g ts d w f l v o =
          let a = moved n m core next into x g ts d.1 f.0 in
          let c = bases_kept h g ts d.2 w f.1 l (fresh_right (bound_in x) (bound_in b) low v) (distinct_right (bound_in x) (bound_in b) o) in
          ((d.0, a.0, c.0), (a.1, c.1))
      bases_kept_right (in_test {params = ps} {a = x} {b = b} h) g ts d w f l v o =
          let more = bound_in x ++ bound_in b in
          let inner = fresh_right ps more low v in
          let a =
          bases_kept h (zip ps ts ++ g) (Truth ∷ []) d.2 (within_zip m g ps ts w f.0) f.1 (low_zip ps ts g low (fresh_left ps more low v) l) (fresh_left (bound_in x) (bound_in b) low inner)
          (distinct_left (bound_in x) (bound_in b) (distinct_right ps more o)) in
          let c = moved n m core next into b (zip ps ts ++ g) ts d.3 f.2 in
          ((d.0, d.1, a.0, c.0), (olds n m ps ts f.0, a.1, c.1))
      bases_kept_right (in_body {params = ps} {a = x} {b = b} h) g ts d w f l v o =
          let more = bound_in x ++ bound_in b in
          let inner = fresh_right ps more low v in
          let a = moved n m core next into x (zip ps ts ++ g) (Truth ∷ []) d.2 f.1 in
          let c =
          bases_kept h (zip ps ts ++ g) ts d.3 (within_zip m g ps ts w f.0) f.2 (low_zip ps ts g low (fresh_left ps more low v) l) (fresh_right (bound_in x) (bound_in b) low inner)
          (distinct_right (bound_in x) (bound_in b) (distinct_right ps more o)) in
          ((d.0, d.1, a.0, c.0), (olds n m ps ts f.0, a.1, c.1))
      bases_kept_right (in_gens h) g ts d w f l v o = let a = bases_kept_gens h g d.0 d.1.1 w f l v o in ((d.0, (d.1.0, a.0, d.1.2)), a.1)
      bases_kept_right (in_parts {f = frame} {t = t} {cell = cell} {op = op} h) g ts d w f l v o =
          let a = bases_kept_parts h g t d.1 w f l v o in
          ((d.0, a.0, subst (λ (gs : List (List Grid1)). PartedFits op frame cell gs) (grids_kept h) d.2, d.3), a.1)

      bases_kept_gens :
          {k : Facts} {r q : GensTerm} → EditedGens Facts ways Rule k r q → (g : Bases) (t : Base) → (d : GensBases core g r t) → Within m g → FollowsGens core m r g t d →
          Low g low → Fresh (bound_in_gens r) low → Distinct (bound_in_gens r) → (e : GensBases next g q t) × OldGens next n m q g t e
      bases_kept_gens (this_gen {h = j} {b = b} {rest = rest} h) g t d w f l v o =
          let xs = j.index ∷ j.names in
          let more = bound_in b ++ bound_in_gens rest in
          let a =
          bases_kept h (ints xs ++ g) (t ∷ []) d.4 (within_ints m g xs w f.0) f.1 (low_ints xs g low (fresh_left xs more low v) l) (fresh_left (bound_in b) (bound_in_gens rest) low (fresh_right xs more low v))
          (distinct_left (bound_in b) (bound_in_gens rest) (distinct_right xs more o)) in
          let c = moved_gens n m core next into rest g t d.5 f.2 in
          ((d.0, d.1, d.2, d.3, a.0, c.0), (old_numbers n m xs f.0, a.1, c.1))
      bases_kept_gens (later_gen {h = j} {b = b} {g = gs} h) g t d w f l v o =
          let xs = j.index ∷ j.names in
          let more = bound_in b ++ bound_in_gens gs in
          let a = moved n m core next into b (ints xs ++ g) (t ∷ []) d.4 f.1 in
          let c = bases_kept_gens h g t d.5 w f.2 l (fresh_right (bound_in b) (bound_in_gens gs) low (fresh_right xs more low v)) (distinct_right (bound_in b) (bound_in_gens gs) (distinct_right xs more o)) in
          ((d.0, d.1, d.2, d.3, a.0, c.0), (old_numbers n m xs f.0, a.1, c.1))

      bases_kept_parts :
          {k : Facts} {r q : PartsTerm} → EditedParts Facts ways Rule k r q → (g : Bases) (t : Base) → (d : PartsBases core g r t) → Within m g → FollowsParts core m r g t d →
          Low g low → Fresh (bound_in_parts r) low → Distinct (bound_in_parts r) → (e : PartsBases next g q t) × OldParts next n m q g t e
      bases_kept_parts (this_part {h = j} {b = b} {rest = rest} h) g t d w f l v o =
          let xs = j.index ∷ [] in
          let more = bound_in b ++ bound_in_parts rest in
          let a =
          bases_kept h ((j.index, Int) ∷ g) (t ∷ []) d.0 (within_one m g j.index Int w f.0) f.1 (low_ints xs g low (fresh_left xs more low v) l) (fresh_left (bound_in b) (bound_in_parts rest) low (fresh_right xs more low v))
          (distinct_left (bound_in b) (bound_in_parts rest) (distinct_right xs more o)) in
          let c = moved_parts n m core next into rest g t d.1 f.2 in
          ((a.0, c.0), ((λ q. f.0), a.1, c.1))
      bases_kept_parts (later_part {h = j} {b = b} {p = ps} h) g t d w f l v o =
          let xs = j.index ∷ [] in
          let more = bound_in b ++ bound_in_parts ps in
          let a = moved n m core next into b ((j.index, Int) ∷ g) (t ∷ []) d.0 f.1 in
          let c = bases_kept_parts h g t d.1 w f.2 l (fresh_right (bound_in b) (bound_in_parts ps) low (fresh_right xs more low v)) (distinct_right (bound_in b) (bound_in_parts ps) (distinct_right xs more o)) in
          ((a.0, c.0), ((λ q. f.0), a.1, c.1))
