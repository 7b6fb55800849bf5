-- References end at the last use, and are added only where they are handed on next.
use Rattle.std.proofs.Common.{◌≡◌, ℕ, suc, ◌≤◌, Bool, true, false, cond, eqb, not, List, [], ◌∷◌, ◌++◌, length, None, refl, ap, ◌∙◌, sym, subst, arith, true≢false, inl, inr}
use Rattle.std.specs.Prelude.{◌⊎◌, ◌&&◌}
use Rattle.core_ir.specs.declared.tree.Var.{Var}
use Rattle.core_ir.specs.Binders.{is_in}
use Rattle.core_ir.specs.Scopes.{AllIn, op_uses, parted_uses, head_uses, Scoped, ScopedRight, ScopedGens, ScopedParts}
use Rattle.core_ir.specs.Terms.{BlockTerm, RightTerm, GensTerm, PartsTerm, Gives, Bind, Plain, NoGens, Gen, NoParts, Part}
use Rattle.core_ir.specs.WellFormed.{Distinct}
use Rattle.counted_code.specs.Terms.{CodeTerm, Giving, Binding, PartedCode, core_of}
use Rattle.counted_code.specs.Counts.{Reordered, none, stays, swaps, through}
use Rattle.counted_code.specs.Prompt.{uses, uses_right, uses_gens, uses_parts, hands, next_hands, times, Prompt, PromptRight, PromptGens, PromptParts}
use Rattle.counted_laws.specs.placing.Placing.{keeps, releases, used, unused, surplus, read_after, passes, takes, given, left, placing, placing_right, placing_gens, placing_parts}
use Rattle.counted_laws.proofs.placing.Cores.{core_of_keeps, same_core, same_core_right}
use Rattle.counted_laws.proofs.placing.Counted.{read_there, counts_right, split_order}
use Rattle.counted_laws.proofs.placing.Lists.{Within, either, in_front, in_back, in_either, here, all_in, within_of, in_filter, append_assoc}
use Rattle.counted_laws.proofs.placing.Orders.{same_order, to_front, reordered_in, times_append, times_in, times_fewer, surplus_order, surplus_in, nothing_left}
use Rattle.counted_laws.proofs.placing.Sizes.{Sized, SizedRight, SizedGens, SizedParts}
use Rattle.counted_laws.proofs.placing.Splits.{Fits, Split, unused_first, used_in, used_distinct, hands_used, hands_scoped, handed_times, split_of, rest_fits, stays_read, branch_fits, body_fits, test_fits, ended_times}

-- ---- how often

times_reordered : (x : Var) {xs ys : List Var} → Reordered xs ys → times x xs ≡ times x ys
times_reordered x none = refl
times_reordered x (stays {x = z} r) = ap (λ n. cond (eqb z.0 x.0) (suc n) n) (times_reordered x r)
times_reordered x (swaps {x = y} {y = z} {xs = zs}) = go (eqb y.0 x.0) (eqb z.0 x.0)
  where
    go : (a b : Bool) → cond a (suc (cond b (suc (times x zs)) (times x zs))) (cond b (suc (times x zs)) (times x zs)) ≡ cond b (suc (cond a (suc (times x zs)) (times x zs))) (cond a (suc (times x zs)) (times x zs))
    go true true = refl
    go true false = refl
    go false true = refl
    go false false = refl
times_reordered x (through r s) = times_reordered x r ∙ times_reordered x s

-- what needs one reference more and has one of its own stands twice
surplus_twice : (x : Var) (ys own : List Var) → ((z : Var) → times z own ≤ times z ys) → is_in x (surplus ys own) ≡ true → is_in x own ≡ true → 2 ≤ times x ys
surplus_twice x ys own f p q =
    let e = times_reordered x (surplus_order ys own f) in
    let a = times_append x (surplus ys own) own in
    let s = times_in x (surplus ys own) p in
    let o = times_in x own q in
    omega (arith, e, a, s, o)

-- used here and elsewhere
twice : (x : Var) (xs ys : List Var) → is_in x xs ≡ true → is_in x ys ≡ true → 2 ≤ times x (xs ++ ys)
twice x xs ys p q = let a = times_append x xs ys in let s = times_in x xs p in let o = times_in x ys q in omega (arith, a, s, o)

more_times : (x : Var) (xs ys : List Var) → 2 ≤ times x xs → 2 ≤ times x (xs ++ ys)
more_times x xs ys p = let a = times_append x xs ys in omega (arith, a, p)

-- ---- a Keep at the results

results_kept : (x : Var) (ys refs outer later outside : List Var) → Distinct refs → is_in x (refs ++ outer) ≡ true → Within outer (later ++ outside) → is_in x (surplus ys (used refs ys)) ≡ true → 2 ≤ times x (ys ++ (later ++ outside))
results_kept x ys refs outer later outside d alive w p =
    elim (in_either x refs outer alive) [
      | inl q ↦ more_times x ys (later ++ outside) (surplus_twice x ys (used refs ys) (times_fewer (used refs ys) ys (used_distinct refs ys d) (used_in refs ys)) p (in_filter (λ y. is_in y ys) refs x q (surplus_in x ys (used refs ys) p)))
      | inr q ↦ twice x ys (later ++ outside) (surplus_in x ys (used refs ys) p) (w x q)
    ]

-- ---- a Keep at a binding

-- what hands on and is no conditional passes what it hands on
handed_passes : (r : RightTerm) (x : Var) → is_in x (hands r) ≡ true → passes r x ≡ true
handed_passes (Plain p) x i = i
handed_passes (RightTerm.If c a b) x i = refl
handed_passes (RightTerm.Loop first start params test body s) x i = i
handed_passes (RightTerm.Call g xs) x i = i
handed_passes (RightTerm.With op gens) x i = i
handed_passes (RightTerm.Parted f b c op parts) x i = i

-- what a conditional passes aside, the references that end are handed on
mine_handed : (r : RightTerm) (scope outer mine rest : List Var) → Split scope outer mine rest r → (x : Var) → is_in x (surplus (hands r) mine) ≡ true → (z : Var) → times z mine ≤ times z (hands r)
mine_handed (Plain p) scope outer mine rest split x i = ended_times scope outer mine rest (Plain p) split (λ z q. q)
mine_handed (RightTerm.If c a b) scope outer mine rest split x i = λ z. elim (true≢false (sym i)) [ ]
mine_handed (RightTerm.Loop first start params test body s) scope outer mine rest split x i = ended_times scope outer mine rest (RightTerm.Loop first start params test body s) split (λ z q. q)
mine_handed (RightTerm.Call g xs) scope outer mine rest split x i = ended_times scope outer mine rest (RightTerm.Call g xs) split (λ z q. q)
mine_handed (RightTerm.With op gens) scope outer mine rest split x i = ended_times scope outer mine rest (RightTerm.With op gens) split (λ z q. q)
mine_handed (RightTerm.Parted f b c op parts) scope outer mine rest split x i = ended_times scope outer mine rest (RightTerm.Parted f b c op parts) split (λ z q. q)

binding_kept : (x : Var) (r : RightTerm) (later all scope outer refs : List Var) (fits : Fits scope outer refs (uses_right r ++ later)) → is_in x (refs ++ outer) ≡ true → Within outer all → is_in x (surplus (hands r) (given r later (used refs (uses_right r ++ later)))) ≡ true → 2 ≤ times x ((uses_right r ++ later) ++ all)
binding_kept x r later all scope outer refs fits alive w p =
    elim (in_either x refs outer alive) [
      | inl q ↦ more_times x (uses_right r ++ later) all (owned q (either (takes r later x)))
      | inr q ↦ twice x (uses_right r ++ later) all used_here (w x q)
    ]
  where
    live : List Var
    live = used refs (uses_right r ++ later)

    handed : is_in x (hands r) ≡ true
    handed = surplus_in x (hands r) (given r later (used refs (uses_right r ++ later))) p

    used_here : is_in x (uses_right r ++ later) ≡ true
    used_here = in_front x (uses_right r) later (hands_used r x (surplus_in x (hands r) (given r later (used refs (uses_right r ++ later))) p))

    not_false : (a : Bool) → not a ≡ false → a ≡ true
    not_false true e = refl
    not_false false e = elim (true≢false e) [ ]

    read_more : takes r later x ≡ false → is_in x (read_after r ++ later) ≡ true
    read_more t = not_false (is_in x (read_after r ++ later)) ((λ i. sym (handed_passes r x (surplus_in x (hands r) (given r later (used refs (uses_right r ++ later))) p)) i && not (is_in x (read_after r ++ later))) ∙ t)

    owned : is_in x refs ≡ true → (takes r later x ≡ true) ⊎ (takes r later x ≡ false) → 2 ≤ times x (uses_right r ++ later)
    owned q (inl t) =
        let two = surplus_twice x (hands r) (given r later (used refs (uses_right r ++ later))) (mine_handed r scope outer (given r later (used refs (uses_right r ++ later))) (left r later (used refs (uses_right r ++ later))) (split_of r later scope outer refs fits) x p) p (in_filter (takes r later) (used refs (uses_right r ++ later)) x (in_filter (λ y. is_in y (uses_right r ++ later)) refs x q used_here) t) in
        let h = handed_times r x in
        let a = times_append x (uses_right r) later in
        omega (arith, two, h, a)
    owned q (inr t) =
        let h = handed_times r x in
        let a = times_append x (uses_right r) later in
        let c = times_append x (read_after r) later in
        let m = times_in x (read_after r ++ later) (read_more t) in
        let n = times_in x (hands r) handed in
        omega (arith, h, a, c, m, n)

module _ (results_of : ℕ → ℕ) where
  releases_prompt : (outside later above refs xs after : List Var) (t : CodeTerm) → Reordered refs (xs ++ after) → ((current : List Var) → Reordered current after → Prompt results_of outside later above current t) → Prompt results_of outside later above refs (releases xs t)
  releases_prompt outside later above refs [] after t order next = next refs order
  releases_prompt outside later above refs (x ∷ xs) after t order next = (xs ++ after, order, releases_prompt outside later above (xs ++ after) xs after t (same_order (xs ++ after)) next)

  keeps_prompt : (outside later above refs xs : List Var) (t : CodeTerm) → Within xs (next_hands (core_of t)) → ((x : Var) → is_in x xs ≡ true → 2 ≤ times x (uses (core_of t) ++ (later ++ outside))) → ((current : List Var) → Reordered current (xs ++ refs) → Prompt results_of outside later above current t) → Prompt results_of outside later above refs (keeps xs t)
  keeps_prompt outside later above refs [] t w two next = next refs (same_order refs)
  keeps_prompt outside later above refs (x ∷ xs) t w two next = (
    subst (λ c. is_in x (next_hands c) ≡ true) (sym (core_of_keeps xs t)) (w x (here x xs)),
    subst (λ c. 2 ≤ times x (uses c ++ (later ++ outside))) (sym (core_of_keeps xs t)) (two x (here x xs)),
    keeps_prompt outside later above (x ∷ refs) xs t (λ z p. w z (in_back z (x ∷ []) xs p)) (λ z p. two z (in_back z (x ∷ []) xs p)) (λ current order. next current (through order (to_front xs x refs))),
  )

  -- what was kept, and what was there
  both_in : (extra first current all : List Var) → Reordered current (extra ++ first) → Within extra all → Within first all → Within current all
  both_in extra first current all order a b x p = elim (in_either x extra first (reordered_in order x p)) [ inl q ↦ a x q | inr q ↦ b x q ]

  join_in : (xs ys all : List Var) → Within xs all → Within ys all → Within (xs ++ ys) all
  join_in xs ys all a b x p = elim (in_either x xs ys p) [ inl q ↦ a x q | inr q ↦ b x q ]

  -- before a binding each reference is used by it or later
  binding_used : (r : RightTerm) (b : BlockTerm) (later outside above mine : List Var) {q : RightTerm} {c : BlockTerm} → q ≡ r → c ≡ b → (current first live : List Var) → Reordered first live → Within live (uses_right r ++ uses b) → Reordered current (surplus (hands r) mine ++ first) → Within above (later ++ outside) → AllIn (current ++ above) (uses_right q ++ (uses c ++ (later ++ outside)))
  binding_used r b later outside above mine {q} {c} same_right same_rest current first live o w p up =
      subst (λ (t : RightTerm). AllIn (current ++ above) (uses_right t ++ (uses c ++ (later ++ outside)))) (sym same_right)
      (subst (λ (t : BlockTerm). AllIn (current ++ above) (uses_right r ++ (uses t ++ (later ++ outside)))) (sym same_rest)
      (all_in (current ++ above) (uses_right r ++ (uses b ++ (later ++ outside))) (join_in current above (uses_right r ++ (uses b ++ (later ++ outside)))
      (both_in (surplus (hands r) mine) first current (uses_right r ++ (uses b ++ (later ++ outside))) p
      (λ x i. in_front x (uses_right r) (uses b ++ (later ++ outside)) (hands_used r x (surplus_in x (hands r) mine i)))
      (λ x i. elim (in_either x (uses_right r) (uses b) (w x (reordered_in o x i))) [
        | inl a ↦ in_front x (uses_right r) (uses b ++ (later ++ outside)) a
        | inr a ↦ in_back x (uses_right r) (uses b ++ (later ++ outside)) (in_front x (uses b) (later ++ outside) a)
      ]))
      (λ x i. in_back x (uses_right r) (uses b ++ (later ++ outside)) (in_back x (uses b) (later ++ outside) (up x i))))))

  mutual
    pub prompts : (t : BlockTerm) (n : ℕ) (scope outside later above refs : List Var) → Sized results_of n t → Scoped scope t → Fits scope (above ++ outside) refs (uses t) → Within above (later ++ outside) → Prompt results_of outside later above refs (placing refs t)
    prompts (Gives ys) n scope outside later above refs size scoped fits up =
        let live = used refs ys in
        let outer = join_in above outside (later ++ outside) up (λ x p. in_back x later outside p) in
        releases_prompt outside later above refs (unused refs ys) live (keeps (surplus ys live) (Giving ys)) (unused_first refs ys) (λ first o.
        keeps_prompt outside later above first (surplus ys live) (Giving ys) (λ x p. surplus_in x ys live p)
        (λ x p. results_kept x ys refs (above ++ outside) later outside fits.distinct (fits.alive x (within_of ys scope scoped x (surplus_in x ys live p)) (surplus_in x ys live p)) outer p)
        (λ current p. all_in (current ++ above) (ys ++ (later ++ outside)) (join_in current above (ys ++ (later ++ outside))
        (both_in (surplus ys live) first current (ys ++ (later ++ outside)) p (λ x i. in_front x ys (later ++ outside) (surplus_in x ys live i)) (λ x i. in_front x ys (later ++ outside) (used_in refs ys x (reordered_in o x i))))
        (λ x i. in_back x ys (later ++ outside) (up x i)))))
    prompts (Bind xs s r b) n scope outside later above refs size scoped fits up =
        let us = uses_right r ++ uses b in
        let live = used refs us in
        let mine = given r (uses b) live in
        let rest = left r (uses b) live in
        let all = later ++ outside in
        let next : CodeTerm = Binding xs s (placing_right mine r) (placing (xs ++ rest) b) in
        let split = split_of r (uses b) scope (above ++ outside) refs fits in
        let outer = join_in above outside all up (λ x p. in_back x later outside p) in
        let core : core_of next ≡ Bind xs s r b = (λ i. Bind xs s (same_core_right mine r i) (same_core (xs ++ rest) b i)) in
        releases_prompt outside later above refs (unused refs us) live (keeps (surplus (hands r) mine) next) (unused_first refs us) (λ first o.
        keeps_prompt outside later above first (surplus (hands r) mine) next
        (λ x p. subst (λ c. is_in x (next_hands c) ≡ true) (sym core) (surplus_in x (hands r) mine p))
        (λ x p. subst (λ c. 2 ≤ times x (uses c ++ all)) (sym core) (binding_kept x r (uses b) all scope (above ++ outside) refs fits (fits.alive x (hands_scoped r scope scoped.0 x (surplus_in x (hands r) mine p)) (in_front x (uses_right r) (uses b) (hands_used r x (surplus_in x (hands r) mine p)))) outer p))
        (λ current p. (
          binding_used r b later outside above (given r (uses b) live) (same_core_right mine r) (same_core (xs ++ rest) b) current first live o (used_in refs us) p up,
          surplus (hands r) mine ++ mine,
          rest,
          split_order results_of r (uses b) live current first p o,
          counts_right results_of r (length xs) scope (above ++ outside) mine rest size.0 scoped.0 split,
          subst (λ c. PromptRight results_of outside (uses c ++ later) above (surplus (hands r) mine ++ mine) rest (placing_right mine r)) (sym (same_core (xs ++ rest) b))
              (prompts_right r (length xs) scope outside (uses b) (uses b ++ later) above mine rest size.0 scoped.0 split (stays_read r (uses b) scope (above ++ outside) refs fits)
              (λ x i. in_front x (uses b ++ later) outside (in_front x (uses b) later i))
              (λ x i. subst (λ l. is_in x l ≡ true) (append_assoc (uses b) later outside) (in_back x (uses b) all (up x i)))),
          prompts b n (xs ++ scope) outside later above (xs ++ rest) size.2 scoped.2 (rest_fits r (uses b) scope (above ++ outside) refs fits xs size.1 scoped.1) up,
        )))

    -- what stays is read by what follows where branches take all else
    prompts_right : (r : RightTerm) (n : ℕ) (scope outside next later above mine rest : List Var) → SizedRight results_of n r → ScopedRight scope r → Split scope (above ++ outside) mine rest r → ((x : Var) → passes r x ≡ true → is_in x rest ≡ true → is_in x (read_after r ++ next) ≡ true) → Within next (later ++ outside) → Within above (later ++ outside) → PromptRight results_of outside later above (surplus (hands r) mine ++ mine) rest (placing_right mine r)
    prompts_right (Plain p) n scope outside next later above mine rest size scoped split read_on sub up = tt
    prompts_right (RightTerm.If c a b) n scope outside next later above mine rest size scoped split read_on sub up =
        let all = join_in rest above (later ++ outside) (λ x i. sub x (read_on x refl i)) up in (
          prompts a n scope outside later (rest ++ above) mine size.0 scoped.1 (subst (λ l. Fits scope l mine (uses a)) (append_assoc rest above outside) (branch_fits scope (above ++ outside) mine rest (uses a) (RightTerm.If c a b) split (λ x u. in_back x (c ∷ []) (uses a ++ uses b) (in_front x (uses a) (uses b) u)))) all,
          prompts b n scope outside later (rest ++ above) mine size.1 scoped.2 (subst (λ l. Fits scope l mine (uses b)) (append_assoc rest above outside) (branch_fits scope (above ++ outside) mine rest (uses b) (RightTerm.If c a b) split (λ x u. in_back x (c ∷ []) (uses a ++ uses b) (in_back x (uses a) (uses b) u)))) all,
        )
    prompts_right (RightTerm.Loop first start params test body u) n scope outside next later above mine rest size scoped split read_on sub up =
        let outer = rest ++ (above ++ outside) in (
          prompts test 1 (params ++ scope) (params ++ outer) [] [] [] size.3 scoped.2 (test_fits scope outer params (uses test) split.inside (λ x s i. split.after x s (in_front x (uses test) (uses body) i))) (λ x i. elim (true≢false (sym i)) [ ]),
          prompts body n (params ++ scope) outer [] [] params size.4 scoped.3 (body_fits scope outer params (uses body) size.2 split.inside (λ x s i. split.after x s (in_back x (uses test) (uses body) i))) (λ x i. elim (true≢false (sym i)) [ ]),
        )
    prompts_right (RightTerm.Call g xs) n scope outside next later above mine rest size scoped split read_on sub up = tt
    prompts_right (RightTerm.With op gens) n scope outside next later above mine rest size scoped split read_on sub up =
        prompts_gens gens scope (rest ++ (above ++ outside)) size.1 scoped.1 split.inside (λ x s u. read_there (RightTerm.With op gens) scope (above ++ outside) mine rest split x (λ q. true≢false (sym q)) s (in_back x (op_uses op) (uses_gens gens) u))
    prompts_right (RightTerm.Parted f b c op parts) n scope outside next later above mine rest size scoped split read_on sub up =
        let empty = nothing_left mine (ended_times scope (above ++ outside) mine rest (RightTerm.Parted f b c op parts) split (λ x q. q)) in
        subst (λ m. PromptRight results_of outside later above m rest (PartedCode f b c op (placing_parts parts) None)) (sym empty)
        (prompts_parts parts scope (rest ++ (above ++ outside)) size.1 scoped.1 split.inside (λ x s u. read_there (RightTerm.Parted f b c op parts) scope (above ++ outside) mine rest split x (λ q. true≢false (sym q)) s (in_back x (parted_uses op) (uses_parts parts) u)))

    prompts_gens : (gens : GensTerm) (scope outside : List Var) → SizedGens results_of gens → ScopedGens scope gens → Within outside scope → ((x : Var) → is_in x scope ≡ true → is_in x (uses_gens gens) ≡ true → is_in x outside ≡ true) → PromptGens results_of outside (placing_gens gens)
    prompts_gens NoGens scope outside size scoped w alive = tt
    prompts_gens (Gen h b rest) scope outside size scoped w alive = (
      prompts b 1 ((h.index ∷ h.names) ++ scope) outside [] [] (h.index ∷ h.names) size.1 scoped.2 (body_fits scope outside (h.index ∷ h.names) (uses b) size.0 w (λ x s u. alive x s (in_back x (head_uses h) (uses b ++ uses_gens rest) (in_front x (uses b) (uses_gens rest) u)))) (λ x i. elim (true≢false (sym i)) [ ]),
      prompts_gens rest scope outside size.2 scoped.3 w (λ x s u. alive x s (in_back x (head_uses h) (uses b ++ uses_gens rest) (in_back x (uses b) (uses_gens rest) u))),
    )

    prompts_parts : (parts : PartsTerm) (scope outside : List Var) → SizedParts results_of parts → ScopedParts scope parts → Within outside scope → ((x : Var) → is_in x scope ≡ true → is_in x (uses_parts parts) ≡ true → is_in x outside ≡ true) → PromptParts results_of outside (placing_parts parts)
    prompts_parts NoParts scope outside size scoped w alive = tt
    prompts_parts (Part h b rest) scope outside size scoped w alive = (
      prompts b 1 (h.index ∷ scope) outside [] [] (h.index ∷ []) size.0 scoped.1 (body_fits scope outside (h.index ∷ []) (uses b) (refl, tt) w (λ x s u. alive x s (in_front x (uses b) (uses_parts rest) u))) (λ x i. elim (true≢false (sym i)) [ ]),
      prompts_parts rest scope outside size.1 scoped.2 w (λ x s u. alive x s (in_back x (uses b) (uses_parts rest) u)),
    )
