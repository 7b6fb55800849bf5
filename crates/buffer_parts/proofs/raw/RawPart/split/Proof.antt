-- A run is cut in two.
use Rattle.atomic_table.proofs.Names.{◌≡◌, ℕ, ◌+◌, ◌*◌, ◌^◌, ◌<◌, ◌≤◌, List, [], ◌∷◌, ◌++◌, length, sym, refl, ap, subst, arith, w64, a_type, Val, vint, vstruct, of_list, inst_fn, SProp, emp, Lft, Share, fsep, ftrue, flft, ‵, raw, ◌⊛◌, given, at_ret, ◌$◌, ◌∵◌, !, qed, by, move, keep, split, join, fsplit, fjoin, fjoin3, feq_i, fpack, learn, use0, use1, rewrite, stop, fld, of_opd, bin, size_word, no_more, and_then, first, blocks, exec, returns, enter, alloc_all, pass_all, free_all, look_at, get, get_in, sets, sets_last, is, env, agg, sub, whole, tables, yes, no, RattleType, owns, Valss, types_at, plain, Ptr, block_ptr, ptr_val, nothing, param, layouts, Stays, stay_dropped, walk_of, Goes-dropped, fact, fact_i, heard, block_of, count_of, at_block, usize, uint_vals, uint_Tells, InBlock, mem, ◌⊑◌}
use lib.ListN.{take, drop, take-append-drop}
use lib.Seq.{length-take-le}
use Rattle.atomic_table.proofs.Walks.{proved, leaves}
use Rattle.atomic_table.proofs.Fields.{strip_of, strip_good, pair_of}
use Rattle.atomic_table.proofs.Dealing.{strip_lies}
use Rattle.atomic_table.specs.Seated.{strip}
use Rattle.core.proofs.atomic.Steps.{tail}
use Rattle.core.proofs.mem.Param.{El}
use Rattle.core.proofs.ptr.Rows.{times_below}
use Rattle.core.proofs.slots.Leases.{uncapped}
use Rattle.std.specs.Ptr.{ptr_add}
use Rattle.buffer_parts.proofs.Words.{RawData, raw_told, raw_made}
use Rattle.buffer_parts.proofs.Strips.{strip_cut}
use Rattle.buffer_parts.specs.contracts.raw.RawPart as runs
use Rattle.buffer_parts.specs.contracts.raw.RawPart.split.{ended, clauses}
use Rattle.buffer_parts.specs.contracts.raw.RawPart.split.Key.{name as #self}
use Rattle.buffer_parts.proofs.raw.RawPart.split.Statement.{statement}
use Rattle.buffer_parts.proofs.raw.RawPart.split.Code as code

pub split_spec : {M : Type 1} → statement M
split_spec 𝓤 𝓛 𝓜 𝓡 wired T L =
    let H = 𝓛.H in let 𝓣 = tables 𝓤 H 𝓜 𝓡 𝓡.env in let R : RattleType = param 0 T in let E : El = record { row = T; laws = L } in let En = ended T in
    let inst = layouts (a_type ∷ []) (T, tt) in let fn = inst_fn inst code.function in let c = clauses T 𝓛 𝓜.mem 𝓡.returns in let Ss : RattleType = runs.the_row R in
    let hs : Stays En.signature.params En.kept = (stay_dropped (plain (λ _. Ss)) no, (stay_dropped (plain (λ _. usize)) yes, tt)) in
    proved 𝓛 En hs c 𝓜 𝓡 (Goes-dropped 𝓛 1 (plain (λ _. Ss)) no (λ κs x f. refl), (Goes-dropped 𝓛 1 (plain (λ _. usize)) yes (λ κs x f. refl), tt)) (#self inst) fn (code.unfolded 𝓤 H 𝓜 𝓡 wired (T, tt))
    (λ κs. ((λ x. strip_of x.ptr ∷ []), (uint_vals w64, tt))) (λ κs. ((λ x vs so. raw_told R x.ptr vs so.0), (uint_Tells w64, tt))) (λ κs qs bounds a gh are.
    let κ : Lft = κs.0 in let q : Share = qs.0 in let p : Ptr = a.0.ptr in let zs : List T.Denot = a.0.items in let k : ℕ = a.1.0 in let fk : k < 2 ^ 64 = are.1.0.1 in
    let xs : List T.Denot = take k zs in let ys : List T.Denot = drop k zs in
    let b : ℕ = block_of p in let o : ℕ = count_of p in let s : ℕ = (mem R).size in
    let z : (walk_of 𝓛 En hs c).Ghost = ((κs, qs, bounds, a, (strip_of p ∷ [], (vint w64 k ∷ [], tt))), gh) in let Post : Val → SProp 𝓤 = (walk_of 𝓛 En hs c).post z in
    qed 𝓛 (((‵ (flft κ q) ⊛ ‵ ftrue) ⊛ ‵ (owns (types_at En.signature.params κs) a z.0.4)) ∷ raw (fact 𝓤 (κ ⊑ T.lives)) ∷ raw (fact 𝓤 (k ≤ length zs)) ∷ []) ∵
    move ! (1 ∷ 2 ∷ []) $ heard ! (κ ⊑ T.lives) (λ le. heard ! (k ≤ length zs) (λ short. split ! $ split ! $ move ! (2 ∷ []) $ fsplit ! $ fsplit ! $ keep ! (1 ∷ 3 ∷ []) $
    use1 𝓛 (given (InBlock p × (length zs * s < 2 ^ 63)) (‵ (strip R p zs))) (strip_lies 𝓛 R p zs) $ learn ! (λ lies. let at : p ≡ block_ptr b o = at_block p lies.0 in
    let near : k * s < 2 ^ 63 = times_below k (length zs) s (2 ^ 63) short lies.1 in let far : k * s < 2 ^ 64 = omega arith in
    let p₀ : Ptr = block_ptr b o in let p₁ : Ptr = block_ptr b (k * s + o) in
    rewrite ! 0 (λ (π : Ptr). ‵ (strip R π zs)) at refl $ rewrite ! 0 (λ (ws : List T.Denot). ‵ (strip R p₀ ws)) (sym (take-append-drop k zs)) refl $
    use1 𝓛 (‵ (strip R p₀ xs) ⊛ ‵ (strip R (block_ptr b (length xs * s + o)) ys)) (strip_cut E 𝓛 b o xs ys) $ split ! $
    rewrite ! 1 (λ (j : ℕ). ‵ (strip R (block_ptr b (j * s + o)) ys)) (length-take-le k zs short) refl $
    enter ! 𝓣.C 𝓣.Λ fn (strip_of p ∷ vint w64 k ∷ []) Post $ alloc_all ! (λ l. pass_all ! refl (strip_good p lies.0, ((tt, record { fits = fk }), tt)) $ let Ev = env fn.locals l in
    sets ! (is ! (of_opd ! (get_in ! (fld ! refl (stop !)) (sub ! 0 refl (whole !)))) (ap ptr_val at)) refl (tt, tt) $ first ! $ blocks ! $
    sets ! (is ! (bin ! (get ! refl) (size_word !) (record { fits = subst (λ (j : ℕ). j < 2 ^ 64) (sym (uncapped k s far)) far })) (ap (vint w64) (uncapped k s far))) refl (tt, record { fits = far }) $
    sets_last ! (bin ! (get ! refl) (get ! refl) tt) refl (tt, tt) $ exec ! 𝓣.C 𝓣.Λ Ev (tail (tail fn.body)) (at_ret Ev Post) $
    sets ! (of_opd ! (get ! refl)) refl (tt, tt) $ sets ! (agg ! (and_then ! (get ! refl) (no_more !))) refl (tt, (tt, tt)) $ sets ! (agg ! (and_then ! (get ! refl) (no_more !))) refl (tt, (tt, tt)) $
    sets ! (agg ! (and_then ! (get ! refl) (and_then ! (get ! refl) (no_more !)))) refl (tt, ((tt, tt), ((tt, tt), tt))) $
    let u : Val = pair_of (strip_of p₀) (strip_of p₁) in let r₀ : Ss.Denot = record { ptr = p₀; items = xs } in let r₁ : Ss.Denot = record { ptr = p₁; items = ys } in
    let Front : Type 0 = (p₀ ≡ p) × (xs ≡ xs) in let Back : Type 0 = (p₁ ≡ ptr_add T k p) × (ys ≡ ys) in
    use0 𝓛 (‵ ((RawData R).own_val (p₀, tt) (strip_of p₀ ∷ []))) (raw_made R 𝓛 p₀) $ fjoin ! $ move ! (1 ∷ []) $
    use0 𝓛 (‵ ((RawData R).own_val (p₁, tt) (strip_of p₁ ∷ []))) (raw_made R 𝓛 p₁) $ fjoin ! $ nothing ! $ move ! (2 ∷ 1 ∷ 0 ∷ []) $ fjoin3 ! $ feq_i ! (List Val) (u ∷ []) (u ∷ []) refl $ fjoin ! $
    fpack ! (Valss (Ss ∷ Ss ∷ [])) (λ vss. fsep (base.Fml.feq (List Val) (u ∷ []) (vstruct (of_list (vss.0 ++ (vss.1.0 ++ []))) ∷ [])) (owns (Ss ∷ Ss ∷ []) (r₀, (r₁, tt)) vss)) (strip_of p₀ ∷ [], (strip_of p₁ ∷ [], tt)) $
    -- [both runs; the token]
    nothing ! $ move ! (2 ∷ 0 ∷ []) $ join ! $
    use0 𝓛 (raw (fact 𝓤 Back)) (fact_i 𝓤 Back (emp 𝓤) (sym (ap (ptr_add T k) at), refl)) $ use0 𝓛 (raw (fact 𝓤 Front)) (fact_i 𝓤 Front (emp 𝓤) (sym at, refl)) $ join ! $ nothing ! $ nothing ! $ fjoin ! $ nothing ! $ fjoin ! $
    returns ! (look_at ! 0 refl) $ free_all ! refl $ keep ! (2 ∷ 0 ∷ 3 ∷ 1 ∷ []) $ by ! (leaves 𝓛 En hs c z u (r₀, r₁) (tt, (tt, tt)) (tt, (tt, tt))))))))
