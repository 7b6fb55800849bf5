-- A well-formed core has bindings of the right sizes, and its code is well counted and prompt.
use Rattle.std.proofs.Common.{◌≡◌, ℕ, suc, ◌<◌, inl, inr, List, [], ◌∷◌, ◌++◌, map, length, Some, refl, ap, ◌∙◌, sym, subst, arith, true≢false, slice_index_or}
use Rattle.std.specs.Prelude.{All, AllPairs, Contains, slice_get, unwrap_or, zip}
use Rattle.sac_base.specs.declared.base.Base.{Base}
use Rattle.sac_base.specs.declared.base.Base.TheVariants.{Int, Bool as Truth}
use Rattle.sac_base.specs.declared.types.ArrayType.{ArrayType}
use Rattle.core_ir.specs.declared.tree.Var.{Var}
use Rattle.core_ir.specs.Binders.{bound_in, bound_in_right, bound_in_gens, bound_in_parts}
use Rattle.core_ir.specs.Outcome.{param_vars, group_at}
use Rattle.core_ir.specs.Terms.{PlainTerm, BlockTerm, RightTerm, GensTerm, PartsTerm, FunTerm, CoreTerm, Gives, Bind, Plain, NoGens, Gen, NoParts, Part}
use Rattle.core_ir.specs.WellFormed.{Bases, HasBases, bases, PlainBases, BlockBases, RightBases, GensBases, PartsBases, GroupBases, Distinct, param_bases, IsFunction, PlacesShare, IsWellFormed, ints}
use Rattle.counted_code.specs.Counts.{PlainGives, CountedFunctions, group_results, IsWellCounted}
use Rattle.counted_code.specs.Prompt.{PromptFunctions, IsPrompt, uses}
use Rattle.counted_laws.proofs.Instances.{got, shared_results}
use Rattle.counted_laws.specs.placing.Placing.{placing_fun, placing_core}
use Rattle.counted_laws.proofs.placing.Cores.{same_core_code}
use Rattle.counted_laws.proofs.placing.Counted.{counts}
use Rattle.counted_laws.proofs.placing.Lists.{in_either, in_front, front_distinct, back_distinct}
use Rattle.counted_laws.proofs.placing.Prompts.{prompts}
use Rattle.counted_laws.proofs.placing.Sizes.{Sized, SizedRight, SizedGens, SizedParts}
use Rattle.counted_laws.proofs.placing.Splits.{Fits}

-- ---- sizes

have_size : (g : Bases) (xs : List Var) (ts : List Base) → HasBases g xs ts → length xs ≡ length ts
have_size g [] [] h = refl
have_size g [] (t ∷ ts) h = elim h [ ]
have_size g (x ∷ xs) [] h = elim h [ ]
have_size g (x ∷ xs) (t ∷ ts) h = ap suc (have_size g xs ts h.1)

one_base : {t : Base} {ts : List Base} → ts ≡ t ∷ [] → 1 ≡ length ts
one_base p = sym (ap (λ (l : List Base). length l) p)

plain_size : (g : Bases) (p : PlainTerm) (ts : List Base) → PlainBases g p ts → PlainGives (length ts) p
plain_size g (PlainTerm.Const a) ts h = one_base h.2
plain_size g (PlainTerm.Copy x) ts h = one_base h.2
plain_size g (PlainTerm.Unary o x) ts h = one_base h.1.3
plain_size g (PlainTerm.Binary o x y) ts h = one_base h.1.4
plain_size g (PlainTerm.Literal xs) ts h = one_base h.2
plain_size g (PlainTerm.Dim x) ts h = one_base h.2
plain_size g (PlainTerm.ShapeOf x) ts h = one_base h.2
plain_size g (PlainTerm.Reshape x y) ts h = one_base h.3
plain_size g (PlainTerm.Select x y) ts h = one_base h.3
plain_size g (PlainTerm.Replace x y z) ts h = one_base h.4
plain_size g (PlainTerm.Always k) ts h = tt
plain_size g (PlainTerm.Check x ty) ts h = one_base h.1

module _ (core : CoreTerm) (formed : IsWellFormed core) where
  group_size : (group : ℕ) (us ts : List Base) → GroupBases core group us ts → group_results core group ≡ length ts
  group_size group us ts h = go h.0 h.1.0 h.1.1.0 h.1.1.1.0 h.1.1.1.1 h.1.1.1.2 h.1.1.1.4
    where
      map_length : (ls : List ArrayType) → length (bases ls) ≡ length ls
      map_length [] = refl
      map_length (l ∷ ls) = ap suc (map_length ls)

      go : (places : List ℕ) (place : ℕ) (f : FunTerm) → slice_get core.groups group ≡ Some places → Contains places place → slice_get core.functions place ≡ Some f → bases f.results ≡ ts → group_results core group ≡ length ts
      go places place f there among function gives =
          let g = got core.groups group places [] there in
          let same : group_at core group ≡ places = ap (λ o. unwrap_or o []) there in
          let pairs = subst (AllPairs (PlacesShare core.functions)) (g.1 ∙ sym same) (formed.names group [] g.0) in
          let below = subst (λ (l : List ℕ). among.0 < length l) (sym same) among.1 in
          let at = subst (λ (l : List ℕ). slice_index_or l among.0 place ≡ place) (sym same) among.2 in
          shared_results core.functions (group_at core group) pairs among.0 place f below at function ∙ sym (map_length f.results) ∙ ap (λ (l : List Base). length l) gives

  mutual
    sized : (t : BlockTerm) (g : Bases) (ts : List Base) → BlockBases core g t ts → Distinct (bound_in t) → Sized (group_results core) (length ts) t
    sized (Gives xs) g ts h d = have_size g xs ts h
    sized (Bind xs s r b) g ts h d =
        let rest = back_distinct xs (bound_in_right r ++ bound_in b) d in (
          subst (λ n. SizedRight (group_results core) n r) (sym h.1.1) (sized_right r g h.0 h.1.0 (front_distinct (bound_in_right r) (bound_in b) rest)),
          front_distinct xs (bound_in_right r ++ bound_in b) d,
          sized b (zip xs h.0 ++ g) ts h.1.2 (back_distinct (bound_in_right r) (bound_in b) rest),
        )

    sized_right : (r : RightTerm) (g : Bases) (ts : List Base) → RightBases core g r ts → Distinct (bound_in_right r) → SizedRight (group_results core) (length ts) r
    sized_right (Plain p) g ts h d = plain_size g p ts h
    sized_right (RightTerm.If x a b) g ts h d =
        (sized a g ts h.1 (front_distinct (bound_in a) (bound_in b) d), sized b g ts h.2 (back_distinct (bound_in a) (bound_in b) d))
    sized_right (RightTerm.Loop first start params test body s) g ts h d =
        let inner = back_distinct params (bound_in test ++ bound_in body) d in (
          have_size g start ts h.0,
          h.1,
          front_distinct params (bound_in test ++ bound_in body) d,
          sized test (zip params ts ++ g) (Truth ∷ []) h.2 (front_distinct (bound_in test) (bound_in body) inner),
          sized body (zip params ts ++ g) ts h.3 (back_distinct (bound_in test) (bound_in body) inner),
        )
    sized_right (RightTerm.Call group xs) g ts h d = group_size group h.0 ts h.1.1
    sized_right (RightTerm.With o gens) g ts h d = (one_base h.1.2, sized_gens gens g h.0 h.1.1 d)
    sized_right (RightTerm.Parted f t cell o parts) g ts h d = (one_base h.3, sized_parts parts g t h.1 d)

    sized_gens : (gens : GensTerm) (g : Bases) (t : Base) → GensBases core g gens t → Distinct (bound_in_gens gens) → SizedGens (group_results core) gens
    sized_gens NoGens g t h d = tt
    sized_gens (Gen e b rest) g t h d =
        let inner = back_distinct (e.index ∷ e.names) (bound_in b ++ bound_in_gens rest) d in (
          front_distinct (e.index ∷ e.names) (bound_in b ++ bound_in_gens rest) d,
          sized b (ints (e.index ∷ e.names) ++ g) (t ∷ []) h.4 (front_distinct (bound_in b) (bound_in_gens rest) inner),
          sized_gens rest g t h.5 (back_distinct (bound_in b) (bound_in_gens rest) inner),
        )

    sized_parts : (parts : PartsTerm) (g : Bases) (t : Base) → PartsBases core g parts t → Distinct (bound_in_parts parts) → SizedParts (group_results core) parts
    sized_parts NoParts g t h d = tt
    sized_parts (Part e b rest) g t h d =
        let inner = back_distinct (e.index ∷ []) (bound_in b ++ bound_in_parts rest) d in (
          sized b ((e.index, Int) ∷ g) (t ∷ []) h.0 (front_distinct (bound_in b) (bound_in_parts rest) inner),
          sized_parts rest g t h.1 (back_distinct (bound_in b) (bound_in_parts rest) inner),
        )

  -- ---- functions

  start_fits : (f : FunTerm) → Distinct (param_vars f) → Fits (param_vars f) [] (param_vars f) (uses f.body)
  start_fits f d = record {
    distinct = d;
    inside = λ x p. elim (in_either x (param_vars f) [] p) [ inl q ↦ q | inr q ↦ elim (true≢false (sym q)) [ ] ];
    alive = λ x s u. in_front x (param_vars f) [] s;
  }

  base_length : (ls : List ArrayType) → length (bases ls) ≡ length ls
  base_length [] = refl
  base_length (l ∷ ls) = ap suc (base_length ls)

  body_sized : (f : FunTerm) → IsFunction core f → Sized (group_results core) (length f.results) f.body
  body_sized f is = subst (λ n. Sized (group_results core) n f.body) (base_length f.results) (sized f.body (param_bases f) (bases f.results) is.agreeing (back_distinct (param_vars f) (bound_in f.body) is.once))

  all_counted : (fs : List FunTerm) → All (IsFunction core) fs → CountedFunctions (group_results core) (map placing_fun fs)
  all_counted [] all = tt
  all_counted (f ∷ fs) all =
      let is = all 0 f (omega arith) in
      let d = front_distinct (param_vars f) (bound_in f.body) is.once in (
        (d, counts (group_results core) f.body (length f.results) (param_vars f) [] (param_vars f) (body_sized f is) is.scoped (start_fits f d)),
        all_counted fs (λ k d' lt. all (suc k) d' (omega (arith, lt))),
      )

  all_prompt : (fs : List FunTerm) → All (IsFunction core) fs → PromptFunctions (group_results core) (map placing_fun fs)
  all_prompt [] all = tt
  all_prompt (f ∷ fs) all =
      let is = all 0 f (omega arith) in
      let d = front_distinct (param_vars f) (bound_in f.body) is.once in (
        prompts (group_results core) f.body (length f.results) (param_vars f) [] [] [] (param_vars f) (body_sized f is) is.scoped (start_fits f d) (λ x p. elim (true≢false (sym p)) [ ]),
        all_prompt fs (λ k d' lt. all (suc k) d' (omega (arith, lt))),
      )

  -- ---- programs

  pub well_counted : IsWellCounted (placing_core core)
  well_counted = record {
    core = subst IsWellFormed (sym (same_core_code core)) formed;
    functions = subst (λ c. CountedFunctions (group_results c) (map placing_fun core.functions)) (sym (same_core_code core)) (all_counted core.functions formed.functions);
  }

  pub prompt : IsPrompt (placing_core core)
  prompt = subst (λ c. PromptFunctions (group_results c) (map placing_fun core.functions)) (sym (same_core_code core)) (all_prompt core.functions formed.functions)
