-- The part's pointer and the length that the caller knows are made a row.
use Rattle.atomic_table.proofs.Names.{◌≡◌, ℕ, ◌<◌, ◌^◌, List, [], ◌∷◌, length, sym, refl, ap, ◌∙◌, w64, a_type, Val, vint, inst_fn, Lft, Share, ftrue, flft, ‵, raw, ◌⊛◌, some, given, later, at_ret, ◌$◌, ◌∵◌, !, qed, move, keep, split, join, fsplit, fjoin, pick, learn, rewrite, use1, use2, await, suffices, stop, fld, of_opd, no_more, and_then, first, blocks, exec, returns, enter, alloc_all, pass_all, free_all, look_at, get, get_in, sets, lands_last, is, env, sub, whole, tables, yes, no, owns, types_at, plain, Ptr, block_ptr, ptr_val, block_of, count_of, at_block, nothing, layouts, Stays, stay_dropped, walk_of, Goes-dropped, ends_at, fact, heard, usize, uint_vals, uint_Tells, WT, ◌⊑◌, calls_at_last, done}
use denote.Triple.Walked.{says}
use Rattle.atomic_table.proofs.Walks.{proved}
use Rattle.atomic_table.proofs.Calls.{fm}
use Rattle.atomic_table.proofs.Raw.{Row, row_Typed, From, at_from}
use Rattle.atomic_table.proofs.Fields.{strip_of, strip_good}
use Rattle.core.proofs.atomic.Steps.{tail}
use Rattle.core.proofs.mem.Param.{El, R}
use Rattle.core.proofs.slots.Opens.{row_val}
use Rattle.core.proofs.slots.Slots.from_raw_parts.Met as callee
use Rattle.buffer_parts.proofs.Words.{raw_told}
use Rattle.buffer_parts.proofs.Whole.{Own, part_of, Lies, IsRow, part_lies, part_handed_over, row_had}
use Rattle.buffer_parts.specs.contracts.raw.RawPart.into_slots as f
use Rattle.buffer_parts.proofs.raw.RawPart.into_slots.Statement.{statement}
use Rattle.buffer_parts.proofs.raw.RawPart.into_slots.Code as code
use lib.ListN.{replicate}
use mathlib.Core.Bool.{true}

module _ (E : El) where
  abbrev stayed : Stays (f.ended E.row).signature.params (f.ended E.row).kept
  stayed = (stay_dropped (plain (λ _. Own E)) no, (stay_dropped (plain (λ _. usize)) yes, tt))

pub into_slots_spec : {M : Type 1} → statement M
into_slots_spec 𝓤 𝓛 𝓜 𝓡 wired T L =
    let E : El = record { row = T; laws = L } in let entry = f.ended T in let told = f.clauses T 𝓛 𝓜.mem 𝓡.returns in let W = walk_of 𝓛 entry (stayed E) told in
    let kinds = layouts (a_type ∷ []) (T, tt) in let here = inst_fn kinds code.function in let machine = tables 𝓤 𝓛.H 𝓜 𝓡 𝓡.env in
    let met = callee.met 𝓤 𝓛 𝓜 𝓡 (code.calls-core::slots::Slots::from_raw_parts 𝓡.env wired) T L in let call = From E 𝓛 𝓜.mem 𝓡.returns in
    proved 𝓛 entry (stayed E) told 𝓜 𝓡 (Goes-dropped 𝓛 1 (plain (λ _. Own E)) no (λ κs x w. refl), (Goes-dropped 𝓛 1 (plain (λ _. usize)) yes (λ κs x w. refl), tt))
    (f.Key.name kinds) here (code.unfolded 𝓤 𝓛.H 𝓜 𝓡 wired (T, tt))
    (λ κs. ((λ part. strip_of part.ptr ∷ []), (uint_vals w64, tt))) (λ κs. ((λ part ws are. raw_told (R E) part.ptr ws are.0), (uint_Tells w64, tt))) (λ κs qs bounds a none are.
    let κ : Lft = κs.0 in let q : Share = qs.0 in let p : Ptr = a.0.ptr in let xs : List T.Denot = a.0.items in let n : ℕ = a.1.0 in let fits : n < 2 ^ 64 = are.1.0.1 in
    let b : ℕ = block_of p in let o : ℕ = count_of p in let part : List Val = strip_of p ∷ [] in let count : List Val = vint w64 n ∷ [] in
    let y : W.Ghost = ((κs, qs, bounds, a, (part, (count, tt))), none) in
    qed 𝓛 (((‵ (flft κ q) ⊛ ‵ ftrue) ⊛ ‵ (owns (types_at entry.signature.params κs) a y.0.4)) ∷ raw (fact 𝓤 (κ ⊑ T.lives)) ∷ raw (fact 𝓤 (n ≡ length xs)) ∷ []) ∵
    split ! $ move ! (1 ∷ []) $ fsplit ! $
    use1 𝓛 (given (Lies E p xs) (‵ ((Own E).own_val (part_of E p xs) part))) (part_lies E 𝓛 p xs part) $ learn ! (λ lies.
    -- [the part; the length; the token; two facts]
    move ! (3 ∷ []) $ heard ! (κ ⊑ T.lives) (λ lives. move ! (3 ∷ []) $ heard ! (n ≡ length xs) (λ counted. move ! (2 ∷ []) $ split ! $ keep ! (2 ∷ 0 ∷ []) $
    let at : p ≡ block_ptr b o = at_block p lies.0 in let typed : WT (row_val b o n) = (tt, (record { fits = fits }, tt)) in let z = at_from E 𝓛 𝓜.mem 𝓡.returns κ q b o n xs (replicate (length xs) true) in
    rewrite ! 0 (λ (r : Ptr). ‵ ((Own E).own_val (part_of E r xs) part)) at refl $
    enter ! machine.C machine.Λ here (strip_of p ∷ vint w64 n ∷ []) (W.post y) $ alloc_all ! (λ l. pass_all ! refl (strip_good p lies.0, ((tt, record { fits = fits }), tt)) $
    sets ! (is ! (of_opd ! (get_in ! (fld ! refl (stop !)) (sub ! 0 refl (whole !)))) (ap ptr_val at)) refl (tt, tt) $
    first ! $ blocks ! $ use2 𝓛 (raw (call.pre z)) (part_handed_over E 𝓛 𝓜.mem 𝓡.returns κ q b o n xs part lives counted fits lies.1) $
    calls_at_last ! (fm 𝓛 𝓜 𝓡) call met z (and_then ! (get ! refl) (and_then ! (get ! refl) (no_more !))) (λ v.
    use1 𝓛 (later (some (λ (r : (Row E).Denot). given ((v ≡ row_val b o n) × IsRow E (block_ptr b o) n xs r) (‵ ((Row E).own_val r (row_val b o n ∷ [])) ⊛ ‵ (flft κ q)))))
    (row_had E 𝓛 𝓜.mem 𝓡.returns κ q b o n xs counted v) $ await ! tt $ pick ! (λ r. learn ! (λ made. split ! $
    lands_last ! refl (row_Typed E v b o n made.0 fits) $ exec ! machine.C machine.Λ (env here.locals l) (tail (tail here.body)) (at_ret (env here.locals l) (W.post y)) $
    sets ! (is ! (of_opd ! (get ! refl)) made.0) refl (tt, typed) $ returns ! (look_at ! 0 refl) $ free_all ! refl $
    suffices ! _ (ends_at 𝓛 entry (stayed E) told y (row_val b o n) r (tt, (tt, tt)) (tt, (tt, tt))) $ says ! (made.1.0 ∙ sym at, made.1.1, made.1.2, made.1.3) $
    nothing ! $ nothing ! $ fjoin ! $ nothing ! $ fjoin ! $ nothing ! $ move ! (3 ∷ 0 ∷ []) $ join ! $ keep ! (0 ∷ 1 ∷ 2 ∷ []) $ done !))))))))
