-- Code without its marks is well counted.
use Rattle.std.proofs.Common.{◌≡◌, ℕ, suc, true, List, [], ◌∷◌, ◌++◌, map, length, Option, Some, None, All, arith, subst, sym, true≢false, inl, inr}
use Rattle.sac_base.specs.declared.site.Site.{Site}
use Rattle.core_ir.specs.declared.tree.Var.{Var}
use Rattle.core_ir.specs.Binders.{is_in, NoneIn}
use Rattle.core_ir.specs.Scopes.{Scoped, ScopedRight, ScopedGens, ScopedParts, parted_uses}
use Rattle.core_ir.specs.Terms.{CoreTerm}
use Rattle.core_ir.specs.WellFormed.{Distinct, IsFunction, IsWellFormed}
use Rattle.counted_code.specs.Counts.{Reordered, none, through, Counted, CountedRight, CountedGens, CountedParts, CountedFunctions, IsWellCounted, group_results}
use Rattle.counted_code.specs.Outcome.{code_param_vars}
use Rattle.counted_code.specs.Terms.{CodeTerm, CodeRightTerm, CodeGensTerm, CodePartsTerm, CodeFunTerm, CodeProgram, Giving, Binding, Keeping, Releasing, PlainCode, IfCode, LoopCode, CallCode, WithCode, PartedCode, NoCodeGens, GenCode, NoCodeParts, PartCode, core_of, core_of_right, core_of_gens, core_of_parts, core_of_fun, core_of_code}
use Rattle.counted_laws.proofs.placing.Lists.{Within, all_in, within_of, none_less, in_back, in_either, append_assoc}
use Rattle.counted_laws.proofs.placing.Orders.{reversed, to_front}
use Rattle.counted_laws.proofs.mark_places.Counts.{behind_within, all_more, parts_moved}
use Rattle.counted_laws.proofs.mark_places.Orders.{within_order, before}
use Rattle.counted_laws.specs.mark_removal.Removal.{mark_of, released, unmark, unmark_right, unmark_gens, unmark_parts, unmark_fun, without_marks}
use Rattle.counted_laws.proofs.mark_removal.Removed.{code_core}

-- ---- what is in scope

module _ (scope : List Var) where
  -- behind the references that a right side ends
  behind_mine : (mine rest : List Var) → Within (mine ++ rest) scope → Within rest scope
  behind_mine mine rest w x p = w x (in_back x mine rest p)

  -- in another order
  turned_within : (xs ys rest : List Var) → Reordered xs ys → Within (ys ++ rest) scope → Within (xs ++ rest) scope
  turned_within xs ys rest r w x p = w x (within_order (before rest r) x p)

  -- before a right side
  split_within : (refs mine after outer : List Var) → Reordered refs (mine ++ after) → Within (refs ++ outer) scope → Within (mine ++ (after ++ outer)) scope
  split_within refs mine after outer r w x p =
      turned_within (mine ++ after) refs outer (reversed r) w x (subst (λ l. is_in x l ≡ true) (append_assoc mine after outer) p)

  -- behind it
  bound_within : (xs after outer : List Var) → Within (after ++ outer) scope → Within ((xs ++ after) ++ outer) (xs ++ scope)
  bound_within xs after outer w x p =
      behind_within xs (after ++ outer) scope w x (subst (λ l. is_in x l ≡ true) (sym (append_assoc xs after outer)) p)

  kept_within : (x : Var) (live : List Var) → is_in x live ≡ true → Within live scope → Within (x ∷ live) scope
  kept_within x live p w = within_of (x ∷ live) scope (w x p, all_in live scope w)

  released_within : (x : Var) (refs after outer : List Var) → Reordered refs (x ∷ after) → Within (refs ++ outer) scope → Within (after ++ outer) scope
  released_within x refs after outer r w = behind_mine (x ∷ []) (after ++ outer) (turned_within (x ∷ after) refs outer (reversed r) w)

params_within : (xs : List Var) → Within (xs ++ []) xs
params_within xs x p = elim (in_either x xs [] p) [ inl q ↦ q | inr q ↦ elim (true≢false (sym q)) [ ] ]

-- ---- blocks

module _ (results_of : ℕ → ℕ) where
  -- a loop that loses its mark ends no reference, and the marked variable's is still there behind it
  abbrev Freed : Option Var → (n : ℕ) (outer mine after : List Var) → CodeRightTerm → Type 0
  Freed None n outer mine after q = CountedRight results_of n outer mine after q
  Freed (Some v) n outer mine after q = Reordered mine (v ∷ []) × CountedRight results_of n outer [] (v ∷ after) q

  bound : (m : Option Var) (xs : List Var) (s : Site) (q : CodeRightTerm) (b : CodeTerm) (n : ℕ) (outer refs mine after scope : List Var) → Within (mine ++ (after ++ outer)) scope → Reordered refs (mine ++ after) → Freed m (length xs) outer mine after q → Distinct xs → NoneIn xs scope → Counted results_of n outer (xs ++ after) b → Counted results_of n outer refs (Binding xs s q (released m b))
  bound None xs s q b n outer refs mine after scope w r f d k c =
      (mine, after, r, f, d, none_less xs (after ++ outer) scope (behind_mine scope mine (after ++ outer) w) k, c)
  bound (Some v) xs s q b n outer refs mine after scope w r f d k c = (
    [],
    v ∷ after,
    through r (before after f.0),
    f.1,
    d,
    none_less xs (v ∷ (after ++ outer)) scope (turned_within scope (v ∷ []) mine (after ++ outer) (reversed f.0) w) k,
    (xs ++ after, to_front xs v after, c),
  )

  mutual
    block_counted : (t : CodeTerm) (n : ℕ) (outer refs scope : List Var) → Within (refs ++ outer) scope → Scoped scope (core_of t) → Counted results_of n outer refs t → Counted results_of n outer refs (unmark t)
    block_counted (Giving xs) n outer refs scope w s c = c
    block_counted (Binding xs p r b) n outer refs scope w s c =
        let mine = c.0 in
        let after = c.1 in
        let there = split_within scope refs mine after outer c.2 w in
        bound (mark_of r) xs p (unmark_right r) (unmark b) n outer refs mine after scope there c.2 (right_counted r (length xs) outer mine after scope there s.0 c.3) c.4 s.1
        (block_counted b n outer (xs ++ after) (xs ++ scope) (bound_within scope xs after outer (behind_mine scope mine (after ++ outer) there)) s.2 c.6)
    block_counted (Keeping x b) n outer refs scope w s c = (c.0, block_counted b n outer (x ∷ refs) scope (kept_within scope x (refs ++ outer) c.0 w) s c.1)
    block_counted (Releasing x b) n outer refs scope w s c = (c.0, c.1, block_counted b n outer c.0 scope (released_within scope x refs c.0 outer c.1 w) s c.2)

    right_counted : (r : CodeRightTerm) (n : ℕ) (outer mine after scope : List Var) → Within (mine ++ (after ++ outer)) scope → ScopedRight scope (core_of_right r) → CountedRight results_of n outer mine after r → Freed (mark_of r) n outer mine after (unmark_right r)
    right_counted (PlainCode p) n outer mine after scope w s c = c
    right_counted (IfCode x a b) n outer mine after scope w s c = (c.0, block_counted a n (after ++ outer) mine scope w s.1 c.1, block_counted b n (after ++ outer) mine scope w s.2 c.2)
    right_counted (LoopCode first start params test body u) n outer mine after scope w s c =
        let v = behind_within params (after ++ outer) scope (behind_mine scope mine (after ++ outer) w) in
        (c.0, c.1, c.2, c.3, c.4, block_counted test 1 (params ++ (after ++ outer)) [] (params ++ scope) v s.2 c.5, block_counted body n (after ++ outer) params (params ++ scope) v s.3 c.6)
    right_counted (CallCode g xs) n outer mine after scope w s c = c
    right_counted (WithCode o gens) n outer mine after scope w s c =
        (c.0, c.1, c.2, gens_counted gens (after ++ outer) scope (behind_mine scope mine (after ++ outer) w) s.1 c.3)
    right_counted (PartedCode f t l o parts None) n outer mine after scope w s c = (c.0, c.1, c.2, parts_counted parts (mine ++ (after ++ outer)) scope w s.1 c.3)
    right_counted (PartedCode f t l o parts (Some v)) n outer mine after scope w s c =
        let there = within_order (before (after ++ outer) c.1) in
        let back = within_order (before (after ++ outer) (reversed c.1)) in (
          c.1,
          (
            c.0,
            none,
            all_more (parted_uses o) (mine ++ (after ++ outer)) (v ∷ (after ++ outer)) there c.2,
            parts_moved results_of (unmark_parts parts) (mine ++ (after ++ outer)) (v ∷ (after ++ outer)) there back (parts_counted parts (mine ++ (after ++ outer)) scope w s.1 c.3),
          ),
        )

    gens_counted : (gens : CodeGensTerm) (outer scope : List Var) → Within outer scope → ScopedGens scope (core_of_gens gens) → CountedGens results_of outer gens → CountedGens results_of outer (unmark_gens gens)
    gens_counted NoCodeGens outer scope w s c = tt
    gens_counted (GenCode h b rest) outer scope w s c =
        (c.0, c.1, block_counted b 1 outer (h.index ∷ h.names) ((h.index ∷ h.names) ++ scope) (behind_within (h.index ∷ h.names) outer scope w) s.2 c.2, gens_counted rest outer scope w s.3 c.3)

    parts_counted : (parts : CodePartsTerm) (outer scope : List Var) → Within outer scope → ScopedParts scope (core_of_parts parts) → CountedParts results_of outer parts → CountedParts results_of outer (unmark_parts parts)
    parts_counted NoCodeParts outer scope w s c = tt
    parts_counted (PartCode h b rest) outer scope w s c =
        (c.0, block_counted b 1 outer (h.index ∷ []) (h.index ∷ scope) (behind_within (h.index ∷ []) outer scope w) s.1 c.1, parts_counted rest outer scope w s.2 c.2)

  -- ---- programs

  functions_counted : (core : CoreTerm) (fs : List CodeFunTerm) → All (IsFunction core) (map core_of_fun fs) → CountedFunctions results_of fs → CountedFunctions results_of (map unmark_fun fs)
  functions_counted core [] a c = tt
  functions_counted core (f ∷ fs) a c = (
    (c.0.0, block_counted f.body (length f.results) [] (code_param_vars f) (code_param_vars f) (params_within (code_param_vars f)) (a 0 (core_of_fun f) (omega arith)).scoped c.0.1),
    functions_counted core fs (λ j d l. a (suc j) d (omega (arith, l))) c.1,
  )

pub code_counted : (code : CodeProgram) → IsWellCounted code → IsWellCounted (without_marks code)
code_counted code c =
    let same = code_core code in
    record {
      core = subst IsWellFormed (sym same) c.core;
      functions = subst (λ (k : CoreTerm). CountedFunctions (group_results k) (map unmark_fun code.functions)) (sym same) (functions_counted (group_results (core_of_code code)) (core_of_code code) code.functions c.core.functions c.functions);
    }
