-- The row is given up for its two words, of which the part keeps the first.
use Rattle.atomic_table.proofs.Names.{◌≡◌, ℕ, ◌*◌, ◌^◌, ◌<◌, List, [], ◌∷◌, ◌++◌, length, sym, refl, subst, a_type, Val, inst_fn, SProp, ent, id⊢, Lft, Share, ftrue, flft, ‵, raw, ◌⊛◌, given, later, at_ret, ◌$◌, ◌∵◌, !, qed, move, keep, split, join, fsplit, fjoin, learn, use1, use2, await, suffices, stop, fld, of_opd, no_more, and_then, first, blocks, exec, returns, enter, alloc_all, pass_all, free_all, look_at, get, get_in, sets, lands_last, is, env, agg, sub, whole, tables, no, owns, types_at, plain, Ptr, block_ptr, nothing, layouts, Stays, stay_dropped, walk_of, Goes-dropped, ends_at, fact, heard, WT, WpFn, ◌⊑◌, mem, calls_at_last, done}
use denote.Triple.Walked.{says}
use Rattle.atomic_table.proofs.Walks.{proved_at}
use Rattle.atomic_table.proofs.Calls.{fm}
use Rattle.atomic_table.proofs.Raw.{Row, parts_typed, Row-seen, Into, at_into, Into-goes}
use Rattle.atomic_table.proofs.Fields.{strip_of}
use Rattle.core.proofs.atomic.Steps.{tail}
use Rattle.core.proofs.mem.Param.{El, R}
use Rattle.core.proofs.slots.Opens.{row_val}
use Rattle.core.specs.Mem.Slots.{slots_items, slots_ptr, slots_len, slots_counts, IsFull}
use Rattle.core.proofs.slots.Slots.into_raw_parts.Met as callee
use Rattle.buffer_parts.proofs.Whole.{Own, part_of, row_given_up}
use Rattle.buffer_parts.specs.contracts.raw.RawPart.of as f
use Rattle.buffer_parts.proofs.raw.RawPart.of.Statement.{statement}
use Rattle.buffer_parts.proofs.raw.RawPart.of.Code as code

module _ (E : El) where
  abbrev stayed : Stays (f.ended E.row).signature.params (f.ended E.row).kept
  stayed = (stay_dropped (plain (λ _. Row E)) no, tt)

pub of_spec : {M : Type 1} → statement M
of_spec 𝓤 𝓛 𝓜 𝓡 wired T L =
    let E : El = record { row = T; laws = L } in let entry = f.ended T in let told = f.clauses T 𝓛 𝓜.mem 𝓡.returns in let W = walk_of 𝓛 entry (stayed E) told in
    let kinds = layouts (a_type ∷ []) (T, tt) in let here = inst_fn kinds code.function in let machine = tables 𝓤 𝓛.H 𝓜 𝓡 𝓡.env in
    let met = callee.met 𝓤 𝓛 𝓜 𝓡 (code.calls-core::slots::Slots::into_raw_parts 𝓡.env wired) T L in let call = Into E 𝓛 𝓜.mem 𝓡.returns in
    proved_at 𝓛 entry (stayed E) told 𝓜 𝓡 (Goes-dropped 𝓛 1 (plain (λ _. Row E)) no (λ κs x w. refl), tt) (f.Key.name kinds) here (code.unfolded 𝓤 𝓛.H 𝓜 𝓡 wired (T, tt)) (λ y _.
    let κ : Lft = y.0.0.0 in let q : Share = y.0.1.0 in let row : (Row E).Denot = y.0.3.0 in let n : ℕ = slots_len row in let xs : List T.Denot = slots_items row in
    let Runs : List Val → SProp 𝓤 = λ ws. WpFn 𝓤 𝓛.H machine.C machine.Λ here ws (W.post y) in
    qed 𝓛 (((‵ (flft κ q) ⊛ ‵ ftrue) ⊛ ‵ (owns (types_at entry.signature.params y.0.0) y.0.3 y.0.4)) ∷ raw (fact 𝓤 (κ ⊑ T.lives)) ∷ raw (fact 𝓤 (IsFull row)) ∷ []) ∵
    split ! $ move ! (1 ∷ []) $ fsplit ! $ Row-seen E ! row y.0.4.0 (λ b o at words fits few.
    -- [the row; what is left of the parameters; the token; two facts]
    let p : Ptr = block_ptr b o in let two : List Val = row_val b o n ∷ [] in let typed : WT (row_val b o n) = (tt, (record { fits = fits }, tt)) in
    suffices ! (Runs two) (subst (λ (ws : List Val). ent 𝓤 (Runs two) (Runs (ws ++ []))) (sym words) (id⊢ 𝓤 (Runs two))) $
    move ! (3 ∷ []) $ heard ! (κ ⊑ T.lives) (λ lives. move ! (3 ∷ []) $ heard ! (IsFull row) (λ full. move ! (2 ∷ []) $ split ! $ keep ! (2 ∷ 0 ∷ []) $
    let told_of : (p ≡ slots_ptr row) × (xs ≡ xs) × (length xs * (mem (R E)).size < 2 ^ 63) = (sym at, refl, subst (λ (k : ℕ). k * (mem (R E)).size < 2 ^ 63) (slots_counts row).0 few) in
    let z = at_into E 𝓛 𝓜.mem 𝓡.returns κ q row b o in
    enter ! machine.C machine.Λ here two (W.post y) $ alloc_all ! (λ l. pass_all ! refl ((tt, typed), tt) $
    first ! $ blocks ! $ sets ! (of_opd ! (get ! refl)) refl (tt, typed) $ use2 𝓛 (raw (call.pre z)) (Into-goes E 𝓛 𝓜.mem 𝓡.returns κ q row b o lives) $
    calls_at_last ! (fm 𝓛 𝓜 𝓡) call met z (and_then ! (get ! refl) (no_more !)) (λ v.
    use1 𝓛 (later (given (v ≡ row_val b o n) (‵ ((Own E).own_val (part_of E p xs) (strip_of p ∷ [])) ⊛ ‵ (flft κ q)))) (row_given_up E 𝓛 𝓜.mem 𝓡.returns κ q b o row at full few v) $
    await ! tt $ learn ! (λ pair. split ! $
    lands_last ! refl (parts_typed v b o n pair fits) $ exec ! machine.C machine.Λ (env here.locals l) (tail here.body) (at_ret (env here.locals l) (W.post y)) $
    -- the pair is copied, its pointer is taken, and a part is made of it
    sets ! (is ! (of_opd ! (get ! refl)) pair) refl (tt, typed) $ sets ! (of_opd ! (get_in ! (fld ! refl (stop !)) (sub ! 0 refl (whole !)))) refl (tt, tt) $
    sets ! (agg ! (and_then ! (get ! refl) (no_more !))) refl (tt, (tt, tt)) $
    returns ! (look_at ! 0 refl) $ free_all ! refl $
    suffices ! _ (ends_at 𝓛 entry (stayed E) told y (strip_of p) (part_of E p xs) (tt, tt) (tt, tt)) $ says ! told_of $
    nothing ! $ nothing ! $ fjoin ! $ nothing ! $ move ! (3 ∷ 0 ∷ []) $ join ! $ keep ! (0 ∷ 1 ∷ 2 ∷ []) $ done !)))))))
