-- Two runs side by side are one.
use Rattle.atomic_table.proofs.Names.{◌≡◌, ℕ, ◌+◌, ◌*◌, ◌^◌, ◌<◌, List, [], ◌∷◌, ◌++◌, length, sym, refl, ap, ◌∙◌, a_type, Val, inst_fn, SProp, emp, Lft, Share, ftrue, flft, ‵, raw, ◌⊛◌, given, ◌$◌, ◌∵◌, !, qed, by, move, keep, split, join, fsplit, fjoin, learn, use0, use1, use2, rewrite, stop, fld, of_opd, no_more, and_then, returns, enter, alloc_all, pass_all, free_all, look_at, get, get_in, sets, agg, sub, whole, tables, no, RattleType, owns, types_at, plain, Ptr, block_ptr, nothing, param, layouts, Stays, stay_dropped, walk_of, Goes-dropped, fact, fact_i, heard, block_of, count_of, at_block, InBlock, mem, ◌⊑◌}
use Rattle.atomic_table.proofs.Walks.{proved, leaves}
use Rattle.atomic_table.proofs.Fields.{strip_of, strip_good, Ptr-Good}
use Rattle.atomic_table.proofs.Dealing.{strip_lies}
use Rattle.atomic_table.specs.Seated.{strip}
use Rattle.std.specs.Mem.{type_size}
use Rattle.std.specs.Ptr.{ptr_add}
use Rattle.core.proofs.mem.Param.{El}
use Rattle.buffer_parts.proofs.Words.{RawData, raw_told, raw_made}
use Rattle.buffer_parts.proofs.Strips.{strip_glue}
use Rattle.buffer_parts.specs.contracts.raw.RawPart as runs
use Rattle.buffer_parts.specs.contracts.raw.RawPart.glue.{ended, clauses}
use Rattle.buffer_parts.specs.contracts.raw.RawPart.glue.Key.{name as #self}
use Rattle.buffer_parts.proofs.raw.RawPart.glue.Statement.{statement}
use Rattle.buffer_parts.proofs.raw.RawPart.glue.Code as code

pub glue_spec : {M : Type 1} → statement M
glue_spec 𝓤 𝓛 𝓜 𝓡 wired T L =
    let H = 𝓛.H in let 𝓣 = tables 𝓤 H 𝓜 𝓡 𝓡.env in let R : RattleType = param 0 T in let E : El = record { row = T; laws = L } in let En = ended T in
    let inst = layouts (a_type ∷ []) (T, tt) in let fn = inst_fn inst code.function in let c = clauses T 𝓛 𝓜.mem 𝓡.returns in let Ss : RattleType = runs.the_row R in
    let hs : Stays En.signature.params En.kept = (stay_dropped (plain (λ _. Ss)) no, (stay_dropped (plain (λ _. Ss)) no, tt)) in
    let goes = Goes-dropped 𝓛 1 (plain (λ _. Ss)) no (λ κs x f. refl) in
    proved 𝓛 En hs c 𝓜 𝓡 (goes, (goes, tt)) (#self inst) fn (code.unfolded 𝓤 H 𝓜 𝓡 wired (T, tt))
    (λ κs. ((λ x. strip_of x.ptr ∷ []), ((λ x. strip_of x.ptr ∷ []), tt))) (λ κs. ((λ x vs so. raw_told R x.ptr vs so.0), ((λ x vs so. raw_told R x.ptr vs so.0), tt))) (λ κs qs bounds a gh are.
    let κ : Lft = κs.0 in let q : Share = qs.0 in let p : Ptr = a.0.ptr in let xs : List T.Denot = a.0.items in let p' : Ptr = a.1.0.ptr in let ys : List T.Denot = a.1.0.items in
    let b : ℕ = block_of p in let o : ℕ = count_of p in let s : ℕ = (mem R).size in let n : ℕ = length xs in
    let z : (walk_of 𝓛 En hs c).Ghost = ((κs, qs, bounds, a, (strip_of p ∷ [], (strip_of p' ∷ [], tt))), gh) in let Post : Val → SProp 𝓤 = (walk_of 𝓛 En hs c).post z in
    let Beside : Type 0 = p' ≡ ptr_add T n p in let Small : Type 0 = (n + length ys) * type_size T < 2 ^ 63 in
    qed 𝓛 (((‵ (flft κ q) ⊛ ‵ ftrue) ⊛ ‵ (owns (types_at En.signature.params κs) a z.0.4)) ∷ raw (fact 𝓤 (κ ⊑ T.lives)) ∷ raw (fact 𝓤 Beside) ∷ raw (fact 𝓤 Small) ∷ []) ∵
    move ! (1 ∷ 2 ∷ 3 ∷ []) $ heard ! (κ ⊑ T.lives) (λ le. heard ! Beside (λ beside. heard ! Small (λ small.
    split ! $ split ! $ move ! (2 ∷ []) $ fsplit ! $ fsplit ! $ move ! (2 ∷ []) $ fsplit ! $ fsplit ! $ keep ! (1 ∷ 4 ∷ 5 ∷ []) $
    -- [the places of next; those of self; the token]
    use1 𝓛 (given (InBlock p' × (length ys * s < 2 ^ 63)) (‵ (strip R p' ys))) (strip_lies 𝓛 R p' ys) $ learn ! (λ lies'. move ! (1 ∷ 0 ∷ []) $
    use1 𝓛 (given (InBlock p × (n * s < 2 ^ 63)) (‵ (strip R p xs))) (strip_lies 𝓛 R p xs) $ learn ! (λ lies.
    let at : p ≡ block_ptr b o = at_block p lies.0 in let at' : p' ≡ block_ptr b (n * s + o) = beside ∙ ap (ptr_add T n) at in
    enter ! 𝓣.C 𝓣.Λ fn (strip_of p ∷ strip_of p' ∷ []) Post $ alloc_all ! (λ l. pass_all ! refl (strip_good p lies.0, (strip_good p' lies'.0, tt)) $
    sets ! (of_opd ! (get_in ! (fld ! refl (stop !)) (sub ! 0 refl (whole !)))) refl (Ptr-Good p lies.0) $ sets ! (agg ! (and_then ! (get ! refl) (no_more !))) refl (strip_good p lies.0) $
    rewrite ! 0 (λ (π : Ptr). ‵ (strip R π xs)) at refl $ rewrite ! 1 (λ (π : Ptr). ‵ (strip R π ys)) at' refl $
    use2 𝓛 (‵ (strip R (block_ptr b o) (xs ++ ys))) (strip_glue E 𝓛 b o xs ys small) $ rewrite ! 0 (λ (π : Ptr). ‵ (strip R π (xs ++ ys))) (sym at) refl $
    let new : Ss.Denot = record { ptr = p; items = xs ++ ys } in let Told : Type 0 = (p ≡ p) × (xs ++ ys ≡ xs ++ ys) in
    use0 𝓛 (‵ ((RawData R).own_val (p, tt) (strip_of p ∷ []))) (raw_made R 𝓛 p) $ fjoin ! $ nothing ! $ move ! (2 ∷ 0 ∷ []) $ join ! $
    use0 𝓛 (raw (fact 𝓤 Told)) (fact_i 𝓤 Told (emp 𝓤) (refl, refl)) $ nothing ! $ nothing ! $ fjoin ! $ nothing ! $ fjoin ! $
    returns ! (look_at ! 0 refl) $ free_all ! refl $ keep ! (2 ∷ 0 ∷ 3 ∷ 1 ∷ []) $ by ! (leaves 𝓛 En hs c z (strip_of p) new (tt, (tt, tt)) (tt, (tt, tt))))))))))
