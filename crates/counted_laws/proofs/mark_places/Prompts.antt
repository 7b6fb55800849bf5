-- Marked code is prompt.
use Rattle.std.proofs.Common.{◌≡◌, ℕ, ◌≤◌, Bool, true, false, cond, eqb, List, [], ◌∷◌, ◌++◌, length, Some, None, refl, ap, ◌∙◌, sym, subst, true≢false, arith}
use Rattle.core_ir.specs.declared.tree.Var.{Var}
use Rattle.core_ir.specs.Binders.{is_in}
use Rattle.core_ir.specs.Scopes.{AllIn}
use Rattle.core_ir.specs.Terms.{BlockTerm, RightTerm}
use Rattle.counted_code.specs.Counts.{Reordered, none, stays, swaps, through}
use Rattle.counted_code.specs.Prompt.{uses, uses_right, next_hands, times, Prompt, PromptRight, PromptGens, PromptParts}
use Rattle.counted_code.specs.Terms.{CodeTerm, CodeRightTerm, CodeGensTerm, CodePartsTerm, Giving, Binding, Keeping, Releasing, PlainCode, IfCode, LoopCode, CallCode, WithCode, PartedCode, NoCodeGens, GenCode, NoCodeParts, PartCode, core_of, core_of_right}
use Rattle.counted_laws.specs.placing.Placing.{without}
use Rattle.counted_laws.proofs.placing.Lists.{Within, all_in, within_of, same_var}
use Rattle.counted_laws.proofs.placing.Orders.{reversed, same_order, behind}
use Rattle.counted_laws.specs.mark_places.Places.{releases_next, without_release, Marked, MarkedRight, MarkedGens, MarkedParts, giving, binding, taking, keeping, releasing, plain, branches, turns, call, cells, parts, no_gens, gen, no_parts, part}
use Rattle.counted_laws.proofs.mark_places.Orders.{before, order_times, same_front, two_fronts, within_order, taken_out}
use Rattle.counted_laws.proofs.mark_places.Cores.{without_core, core_same, right_same, parts_same, releases_same}
use Rattle.counted_laws.proofs.mark_places.Counts.{behind_within, both_within, right_moved, marked_right, released_in, nothing_mine, not_target, over_front, not_kept, released_here, released_behind, taken_counted, marked_parts}

-- the references in another order, and what may follow in another order
all_over : (refs refs' above us vs : List Var) → Reordered refs refs' → Within us vs → AllIn (refs ++ above) us → AllIn (refs' ++ above) vs
all_over refs refs' above us vs r w a =
    all_in (refs' ++ above) vs (λ x i. w x (within_of (refs ++ above) us a x (both_within refs' refs above above (within_order (reversed r)) (λ y j. j) x i)))

-- fewer references
all_fewer : (v : Var) (refs left above us : List Var) → Reordered refs (v ∷ left) → AllIn (refs ++ above) us → AllIn (left ++ above) us
all_fewer v refs left above us r a = (all_over refs (v ∷ left) above us us r (λ x i. i) a).1

as_often : (x : Var) (us vs : List Var) → Reordered us vs → 2 ≤ times x us → 2 ≤ times x vs
as_often x us vs r le = let e = order_times r x in omega (arith, e, le)

module _ (results_of : ℕ → ℕ) where
  mutual
    pub prompt_moved : (t : CodeTerm) (outside outside' later above refs refs' : List Var) → Reordered outside outside' → Reordered refs refs' → Prompt results_of outside later above refs t → Prompt results_of outside' later above refs' t
    prompt_moved (Giving xs) outside outside' later above refs refs' o r c =
        all_over refs refs' above (xs ++ (later ++ outside)) (xs ++ (later ++ outside')) r (within_order (behind xs (behind later o))) c
    prompt_moved (Binding xs s q b) outside outside' later above refs refs' o r c = (
      all_over refs refs' above (uses_right (core_of_right q) ++ (uses (core_of b) ++ (later ++ outside))) (uses_right (core_of_right q) ++ (uses (core_of b) ++ (later ++ outside'))) r
          (within_order (behind (uses_right (core_of_right q)) (behind (uses (core_of b)) (behind later o)))) c.0,
      c.1,
      c.2,
      through (reversed r) c.3,
      right_moved results_of q (length xs) (above ++ outside) (above ++ outside') c.1 c.2 (within_order (behind above o)) (within_order (reversed (behind above o))) c.4,
      prompt_right_moved q outside outside' (uses (core_of b) ++ later) above c.1 c.2 o c.5,
      prompt_moved b outside outside' later above (xs ++ c.2) (xs ++ c.2) o (same_order (xs ++ c.2)) c.6,
    )
    prompt_moved (Keeping x b) outside outside' later above refs refs' o r c =
        (c.0, as_often x (uses (core_of b) ++ (later ++ outside)) (uses (core_of b) ++ (later ++ outside')) (behind (uses (core_of b)) (behind later o)) c.1, prompt_moved b outside outside' later above (x ∷ refs) (x ∷ refs') o (stays r) c.2)
    prompt_moved (Releasing x b) outside outside' later above refs refs' o r c =
        (c.0, through (reversed r) c.1, prompt_moved b outside outside' later above c.0 c.0 o (same_order c.0) c.2)

    prompt_right_moved : (r : CodeRightTerm) (outside outside' later above mine after : List Var) → Reordered outside outside' → PromptRight results_of outside later above mine after r → PromptRight results_of outside' later above mine after r
    prompt_right_moved (PlainCode p) outside outside' later above mine after o c = tt
    prompt_right_moved (IfCode x a b) outside outside' later above mine after o c =
        (prompt_moved a outside outside' later (after ++ above) mine mine o (same_order mine) c.0, prompt_moved b outside outside' later (after ++ above) mine mine o (same_order mine) c.1)
    prompt_right_moved (LoopCode first start params test body s) outside outside' later above mine after o c =
        let around = behind after (behind above o) in (
          prompt_moved test (params ++ (after ++ (above ++ outside))) (params ++ (after ++ (above ++ outside'))) [] [] [] [] (behind params around) none c.0,
          prompt_moved body (after ++ (above ++ outside)) (after ++ (above ++ outside')) [] [] params params around (same_order params) c.1,
        )
    prompt_right_moved (CallCode g xs) outside outside' later above mine after o c = tt
    prompt_right_moved (WithCode op gens) outside outside' later above mine after o c =
        prompt_gens_moved gens (after ++ (above ++ outside)) (after ++ (above ++ outside')) (behind after (behind above o)) c
    prompt_right_moved (PartedCode f t l op ps reuse) outside outside' later above mine after o c =
        prompt_parts_moved ps (mine ++ (after ++ (above ++ outside))) (mine ++ (after ++ (above ++ outside'))) (behind mine (behind after (behind above o))) c

    prompt_gens_moved : (gens : CodeGensTerm) (outside outside' : List Var) → Reordered outside outside' → PromptGens results_of outside gens → PromptGens results_of outside' gens
    prompt_gens_moved NoCodeGens outside outside' o c = tt
    prompt_gens_moved (GenCode h b rest) outside outside' o c =
        (prompt_moved b outside outside' [] [] (h.index ∷ h.names) (h.index ∷ h.names) o (same_order (h.index ∷ h.names)) c.0, prompt_gens_moved rest outside outside' o c.1)

    pub prompt_parts_moved : (ps : CodePartsTerm) (outside outside' : List Var) → Reordered outside outside' → PromptParts results_of outside ps → PromptParts results_of outside' ps
    prompt_parts_moved NoCodeParts outside outside' o c = tt
    prompt_parts_moved (PartCode h b rest) outside outside' o c =
        (prompt_moved b outside outside' [] [] (h.index ∷ []) (h.index ∷ []) o (same_order (h.index ∷ [])) c.0, prompt_parts_moved rest outside outside' o c.1)

  -- what is released next has a reference
  pub released_prompt : (v : Var) (t : CodeTerm) (outside later above refs : List Var) → Prompt results_of outside later above refs t → releases_next v t ≡ true → is_in v refs ≡ true
  released_prompt v (Giving xs) outside later above refs c p = elim (true≢false (sym p)) [ ]
  released_prompt v (Binding xs s r b) outside later above refs c p = elim (true≢false (sym p)) [ ]
  released_prompt v (Keeping x b) outside later above refs c p = go (eqb v.0 x.0) refl p (released_prompt v b outside later above (x ∷ refs) c.2)
    where
      go : (same : Bool) → eqb v.0 x.0 ≡ same → cond same false (releases_next v b) ≡ true → (releases_next v b ≡ true → is_in v (x ∷ refs) ≡ true) → is_in v refs ≡ true
      go true e q rest = elim (true≢false (sym q)) [ ]
      go false e q rest = not_kept results_of v x refs e (rest q)
  released_prompt v (Releasing x b) outside later above refs c p = go (eqb v.0 x.0) refl p (released_prompt v b outside later above c.0 c.2)
    where
      go : (same : Bool) → eqb v.0 x.0 ≡ same → cond same true (releases_next v b) ≡ true → (releases_next v b ≡ true → is_in v c.0 ≡ true) → is_in v refs ≡ true
      go true e q rest = released_here results_of v x refs c.0 c.1 e
      go false e q rest = released_behind results_of v x refs c.0 c.1 (rest q)

  -- ---- a release that is left out

  pub prompt_unreleased : (v : Var) (t : CodeTerm) (outside later above refs left : List Var) → Prompt results_of outside later above refs t → releases_next v t ≡ true → Reordered refs (v ∷ left) → Prompt results_of outside later above left (without_release v t)
  prompt_unreleased v (Giving xs) outside later above refs left c p r = elim (true≢false (sym p)) [ ]
  prompt_unreleased v (Binding xs s q b) outside later above refs left c p r = elim (true≢false (sym p)) [ ]
  prompt_unreleased v (Keeping x b) outside later above refs left c p r = go (λ q. prompt_unreleased v b outside later above (x ∷ refs) (x ∷ left) c.2 q (through (stays r) swaps)) (eqb v.0 x.0) p
    where
      go : (releases_next v b ≡ true → Prompt results_of outside later above (x ∷ left) (without_release v b)) → (same : Bool) → cond same false (releases_next v b) ≡ true → Prompt results_of outside later above left (Keeping x (without_release v b))
      go next true q = elim (true≢false (sym q)) [ ]
      go next false q = (
        subst (λ (u : BlockTerm). is_in x (next_hands u) ≡ true) (sym (without_core v b)) c.0,
        subst (λ (u : BlockTerm). 2 ≤ times x (uses u ++ (later ++ outside))) (sym (without_core v b)) c.1,
        next q,
      )
  prompt_unreleased v (Releasing x b) outside later above refs left c p r = go (λ rest q there. prompt_unreleased v b outside later above c.0 rest c.2 q there) (eqb v.0 x.0) refl p
    where
      go : ((rest : List Var) → releases_next v b ≡ true → Reordered c.0 (v ∷ rest) → Prompt results_of outside later above rest (without_release v b)) → (same : Bool) → eqb v.0 x.0 ≡ same → cond same true (releases_next v b) ≡ true → Prompt results_of outside later above left (cond same b (Releasing x (without_release v b)))
      go next true e q = prompt_moved b outside outside later above c.0 left (same_order outside) (same_front v c.0 left (through (subst (λ (y : Var). Reordered (y ∷ c.0) refs) (sym (same_var v x e)) (reversed c.1)) r)) c.2
      go next false e q =
          let rest = taken_out v c.0 (released_prompt v b outside later above c.0 c.2 q) in
          (without v c.0, two_fronts v x refs left c.0 (without v c.0) r c.1 rest, next (without v c.0) q rest)

  -- ---- marked code

  -- a loop's parts see v in front
  around_loop : (v : Var) (mine after left above outside : List Var) → mine ≡ [] → Reordered after (v ∷ left) → Reordered (mine ++ (after ++ (above ++ outside))) ((v ∷ []) ++ (left ++ (above ++ outside)))
  around_loop v mine after left above outside e r = subst (λ l. Reordered (l ++ (after ++ (above ++ outside))) (v ∷ (left ++ (above ++ outside)))) (sym e) (before (above ++ outside) r)

  mutual
    pub marked_prompt : {a b : CodeTerm} → Marked a b → (outside later above refs : List Var) → Prompt results_of outside later above refs a → Prompt results_of outside later above refs b
    marked_prompt giving outside later above refs c = c
    marked_prompt (binding {xs} {s} {r} {q} {b} {c = d} m k) outside later above refs c = (
      subst (λ (u : RightTerm). AllIn (refs ++ above) (uses_right u ++ (uses (core_of d) ++ (later ++ outside)))) (sym (right_same m))
          (subst (λ (u : BlockTerm). AllIn (refs ++ above) (uses_right (core_of_right r) ++ (uses u ++ (later ++ outside)))) (sym (core_same k)) c.0),
      c.1,
      c.2,
      c.3,
      marked_right results_of m (length xs) (above ++ outside) c.1 c.2 c.4,
      marked_prompt_right m outside (uses (core_of d) ++ later) above c.1 c.2 (subst (λ (u : BlockTerm). PromptRight results_of outside (uses u ++ later) above c.1 c.2 r) (sym (core_same k)) c.5),
      marked_prompt k outside later above (xs ++ c.2) c.6,
    )
    marked_prompt (taking {xs} {s} {f} {t} {l} {o} {ps} {qs} {v} {b} {c = d} p q m k) outside later above refs c =
        let mine = c.1 in
        let after = c.2 in
        let empty = nothing_mine results_of mine c.4.1 in
        let there = not_target results_of v xs after p (released_prompt v b outside later above (xs ++ after) c.6 q) in
        let left = without v after in
        let r = taken_out v after there in
        let core = without_core v d ∙ core_same k in (
          subst (λ (u : RightTerm). AllIn (refs ++ above) (uses_right u ++ (uses (core_of (without_release v d)) ++ (later ++ outside)))) (sym (λ i. RightTerm.Parted f t l o (parts_same m i)))
              (subst (λ (u : BlockTerm). AllIn (refs ++ above) (uses_right (core_of_right (PartedCode f t l o ps None)) ++ (uses u ++ (later ++ outside)))) (sym core) c.0),
          v ∷ [],
          left,
          through c.3 (subst (λ l. Reordered (l ++ after) (v ∷ left)) (sym empty) r),
          taken_counted results_of ps qs f t l o (length xs) (above ++ outside) mine after left v empty r (marked_parts results_of m (mine ++ (after ++ (above ++ outside))) c.4.3) c.4,
          prompt_parts_moved qs (mine ++ (after ++ (above ++ outside))) ((v ∷ []) ++ (left ++ (above ++ outside))) (around_loop v mine after left above outside empty r) (marked_prompt_parts m (mine ++ (after ++ (above ++ outside))) c.5),
          prompt_unreleased v d outside later above (xs ++ after) (xs ++ left) (marked_prompt k outside later above (xs ++ after) c.6) (releases_same v k ∙ q) (over_front results_of v xs after left r),
        )
    marked_prompt (keeping {x} {b} {c = d} k) outside later above refs c = (
      subst (λ (u : BlockTerm). is_in x (next_hands u) ≡ true) (sym (core_same k)) c.0,
      subst (λ (u : BlockTerm). 2 ≤ times x (uses u ++ (later ++ outside))) (sym (core_same k)) c.1,
      marked_prompt k outside later above (x ∷ refs) c.2,
    )
    marked_prompt (releasing k) outside later above refs c = (c.0, c.1, marked_prompt k outside later above c.0 c.2)

    marked_prompt_right : {r q : CodeRightTerm} → MarkedRight r q → (outside later above mine after : List Var) → PromptRight results_of outside later above mine after r → PromptRight results_of outside later above mine after q
    marked_prompt_right plain outside later above mine after c = tt
    marked_prompt_right (branches m k) outside later above mine after c = (marked_prompt m outside later (after ++ above) mine c.0, marked_prompt k outside later (after ++ above) mine c.1)
    marked_prompt_right (turns {first} {start} {params} m k) outside later above mine after c =
        (marked_prompt m (params ++ (after ++ (above ++ outside))) [] [] [] c.0, marked_prompt k (after ++ (above ++ outside)) [] [] params c.1)
    marked_prompt_right call outside later above mine after c = tt
    marked_prompt_right (cells m) outside later above mine after c = marked_prompt_gens m (after ++ (above ++ outside)) c
    marked_prompt_right (parts m) outside later above mine after c = marked_prompt_parts m (mine ++ (after ++ (above ++ outside))) c

    marked_prompt_gens : {gs hs : CodeGensTerm} → MarkedGens gs hs → (outside : List Var) → PromptGens results_of outside gs → PromptGens results_of outside hs
    marked_prompt_gens no_gens outside c = tt
    marked_prompt_gens (gen {h} m k) outside c = (marked_prompt m outside [] [] (h.index ∷ h.names) c.0, marked_prompt_gens k outside c.1)

    marked_prompt_parts : {ps qs : CodePartsTerm} → MarkedParts ps qs → (outside : List Var) → PromptParts results_of outside ps → PromptParts results_of outside qs
    marked_prompt_parts no_parts outside c = tt
    marked_prompt_parts (part {h} m k) outside c = (marked_prompt m outside [] [] (h.index ∷ []) c.0, marked_prompt_parts k outside c.1)
