-- The cells that a part owns are lent as a slice, and the part follows it.
use Rattle.atomic_table.proofs.Names.{◌≡◌, ℕ, ◌*◌, ◌^◌, ◌<◌, List, [], ◌∷◌, length, sym, refl, ap, subst, ◌∙◌, arith, w64, a_type, named, Val, vint, vptr, inst_fn, ent, sep, Lft, Share, Fml, fsep, ftrue, flft, ‵, raw, ◌⊛◌, some, given, later, ◌$◌, ◌∵◌, !, qed, move, keep, drop, split, split3, join, fsplit, fsplit3, fjoin, fpack, pick, learn, group, use1, rewrite, await, suffices, of_opd, no_more, and_then, returns, enter, first, blocks, exec, sets_last, env, at_ret, alloc_all, pass_all, free_all, look_at, get, sets, is, agg, tables, yes, no, owns, types_at, plain, Ptr, block_ptr, ptr_val, block_of, count_of, at_block, InBlock, nothing, opens, peeks, Is, shows, load, through, fld, stop, look_in, sub, whole, layouts, Stays, stay_dropped, walk_of, Goes-dropped, Goes-spent_ref, ends_at, fact, heard, RefMutOf, usize, uint_vals, uint_Tells, mut_vals, mut_Tells, cell_at, full_share, mem, follows, ◌⊑◌, Logic, sem, Ura, done}
use lib.ListN.{drop as drop_list}
use lib.Seq.{take_at as take_front}
use base.Fml.{GName}
use types.Kit.{frame}
use types.SemTy.{cells}
use denote.Array.{Array}
use denote.FollowSlice.{lends_Elements}
use denote.Memory.{part_of}
use denote.Slice.{MutSlice, Room, slice_val}
use denote.Triple.Walked.{says}
use Rattle.std.specs.List.{refill}
use Rattle.atomic_table.proofs.Walks.{proved}
use Rattle.atomic_table.proofs.Dealing.{strip_lies}
use Rattle.atomic_table.specs.Seated.{strip}
use Rattle.core.proofs.atomic.Steps.{tail}
use Rattle.core.proofs.mem.Param.{El, R, el_x}
use Rattle.buffer_parts.specs.Lends.{with_items}
use Rattle.atomic_table.proofs.Fields.{strip_of}
use Rattle.buffer_parts.proofs.Words.{RawData, raw_told}
use Rattle.buffer_parts.proofs.Whole.{Own, Lies}
use Rattle.buffer_parts.specs.contracts.raw.RawPart.slice_mut as f
use Rattle.buffer_parts.proofs.raw.RawPart.slice_mut.Statement.{statement}
use Rattle.buffer_parts.proofs.raw.RawPart.slice_mut.Code as code

module _ (E : El) where
  abbrev stayed : Stays (f.ended E.row).signature.params (f.ended E.row).kept
  stayed = (stay_dropped (RefMutOf (0 ∷ []) tt (plain (λ _. Own E)) (λ _. tt)) no, (stay_dropped (plain (λ _. usize)) yes, tt))

  -- the part once the slice has ended
  abbrev after : (Own E).Denot → List (el_x E) → (Own E).Denot
  after d ws = with_items d (refill (length d.items) d.items ws)

module _ (E : El) {M : Type 1} {𝓤 : Ura M} (𝓛 : Logic 𝓤) (d : (Own E).Denot) (rb ro b o : ℕ) (vs : List Val) where
  -- all but the cells
  abbrev Rest : Fml
  Rest = fsep ((RawData (R E)).own_val (d.ptr, tt) vs) (cell_at full_share (Own E).mir vs rb ro)

  back : d.ptr ≡ block_ptr b o → length d.items * (mem (R E)).size < 2 ^ 63 → (ws : List (el_x E)) → length ws ≡ length d.items
      → ent 𝓤 (sep 𝓤 (sem 𝓛 (cells (mem (R E)) ws b o)) (sem 𝓛 Rest)) (sem 𝓛 ((mem (Own E)).own_at (after E d ws) rb ro))
  unfolding part_of
  back at small ws same =
      let all : refill (length d.items) d.items ws ≡ ws = take_front ws (drop_list (length ws) d.items) (length d.items) same in
      let few : length (after E d ws).items * (mem (R E)).size < 2 ^ 63 = subst (λ (k : ℕ). k * (mem (R E)).size < 2 ^ 63) (sym (ap length all ∙ same)) small in
      qed 𝓛 (‵ (cells (mem (R E)) ws b o) ∷ ‵ Rest ∷ []) ∵
      rewrite ! 0 (λ (l : List (el_x E)). ‵ (cells (mem (R E)) l b o)) (sym all) refl $
      nothing ! $ fpack ! (InBlock (block_ptr b o) × (length (after E d ws).items * (mem (R E)).size < 2 ^ 63)) (λ _. ftrue) (tt, few) $ fjoin ! $
      rewrite ! 0 (λ (π : Ptr). ‵ (strip (R E) π (after E d ws).items)) (sym at) refl $
      move ! (1 ∷ []) $ fsplit ! $ move ! (0 ∷ 2 ∷ 1 ∷ []) $ fjoin ! $ move ! (1 ∷ 0 ∷ []) $ fjoin ! $
      fpack ! (List Val) (λ us. fsep (cell_at full_share (Own E).mir us rb ro) ((Own E).own_val (after E d ws) us)) vs $ done !

pub slice_mut_spec : {M : Type 1} → statement M
slice_mut_spec 𝓤 𝓛 𝓜 𝓡 wired X L =
    let E : El = record { row = X; laws = L } in let entry = f.ended X in let told = f.clauses X 𝓛 𝓜.mem 𝓡.returns in let W = walk_of 𝓛 entry (stayed E) told in
    let kinds = layouts (a_type ∷ []) (X, tt) in let here = inst_fn kinds code.function in let machine = tables 𝓤 𝓛.H 𝓜 𝓡 𝓡.env in
    proved 𝓛 entry (stayed E) told 𝓜 𝓡
    (Goes-spent_ref 𝓛 2 (0 ∷ []) tt (plain (λ _. Own E)), (Goes-dropped 𝓛 2 (plain (λ _. usize)) yes (λ κs x w. refl), tt))
    (f.Key.name kinds) here (code.unfolded 𝓤 𝓛.H 𝓜 𝓡 wired (X, tt))
    (λ κs. (mut_vals, (uint_vals w64, tt))) (λ κs. (mut_Tells (named 0) κs.0 (Own E), (uint_Tells w64, tt))) (λ κs qs bounds a none are.
    let κ : Lft = κs.0 in let κT : Lft = κs.1.0 in let q : Share = qs.0 in let qT : Share = qs.1.0 in
    let rb : ℕ = a.0.ref_ptr.0 in let ro : ℕ = a.0.ref_ptr.1 in let γ : GName = a.0.ghost_name in let d : (Own E).Denot = a.0.now in let xs : List X.Denot = d.items in
    let p : Ptr = d.ptr in let n : ℕ = a.1.0 in let fits : n < 2 ^ 64 = are.1.0.1 in let b : ℕ = block_of p in let o : ℕ = count_of p in
    let y : W.Ghost = ((κs, qs, bounds, a, (vptr rb ro ∷ [], (vint w64 n ∷ [], tt))), none) in
    qed 𝓛 (((‵ (flft κ q) ⊛ ‵ (flft κT qT) ⊛ ‵ ftrue) ⊛ ‵ (owns (types_at entry.signature.params κs) a y.0.4)) ∷ raw (fact 𝓤 (κT ⊑ X.lives)) ∷ raw (fact 𝓤 (n ≡ length xs)) ∷ []) ∵
    move ! (2 ∷ []) $ heard ! (n ≡ length xs) (λ counted.
    split ! $ split ! $
    -- [the borrow's token; the other tokens; the parameters]
    move ! (2 ∷ []) $ fsplit ! $ fsplit3 ! $ drop ! $ keep ! (0 ∷ 1 ∷ 3 ∷ 4 ∷ []) $
    enter ! machine.C machine.Λ here (vptr rb ro ∷ vint w64 n ∷ []) (W.post y) $ alloc_all ! (λ l. pass_all ! refl ((tt, tt), ((tt, record { fits = fits }), tt)) $
    opens ! tt (Own E) {h = d} rb ro (λ vs. move ! (1 ∷ []) $
    peeks ! (Own E) (Is (Own E)) (shows 𝓛 (Own E)) d vs (λ shown. let is_start : vs ≡ strip_of p ∷ [] = raw_told (R E) p vs shown.0 in
    rewrite ! 1 (λ (us : List Val). ‵ (cell_at full_share (Own E).mir us rb ro)) is_start refl $ rewrite ! 0 (λ (us : List Val). ‵ ((Own E).own_val d us)) is_start refl $ fsplit ! $ move ! (1 ∷ []) $
    use1 𝓛 (given (Lies E d.ptr xs) (‵ (strip (R E) d.ptr xs))) (strip_lies 𝓛 (R E) d.ptr xs) $ learn ! (λ lies.
    let at : p ≡ block_ptr b o = at_block p lies.0 in
    let way = back E 𝓛 d rb ro b o (strip_of p ∷ []) at lies.1 in let room : Room (R E) (length xs) = ((let c = counted in omega arith), lies.1) in
    rewrite ! 0 (λ (π : Ptr). ‵ (strip (R E) π xs)) at refl $ fsplit ! $ drop ! $
    first ! $ blocks ! $ sets ! (is ! (of_opd ! (load ! (through ! refl (fld ! refl (stop !))) (look_in ! 2 (sub ! 0 refl (whole !))))) (ap ptr_val at)) refl (tt, tt) $
    sets_last ! (agg ! (and_then ! (get ! refl) (and_then ! (get ! refl) (no_more !)))) refl (tt, (tt, (record { fits = fits }, tt))) $
    exec ! machine.C machine.Λ (env here.locals l) (tail here.body) (at_ret (env here.locals l) (W.post y)) $ sets ! (of_opd ! (get ! refl)) refl (tt, (tt, (record { fits = fits }, tt))) $
    -- [the cells; the data; the memory of the part; the open borrow]
    move ! (1 ∷ 2 ∷ []) $ fjoin ! $ move ! (2 ∷ 3 ∷ 4 ∷ 1 ∷ 0 ∷ []) $ group ! 5 $
    let lent = λ (k : ℕ) (δ : GName). ‵ ((MutSlice (named 0) κ (R E)).own_val (record { ref_ptr = (b, o); ghost_name = δ; now = xs }) (slice_val (b, o) k ∷ [])) ⊛ ‵ (flft κ q) ⊛ ‵ (follows (Own E) (Array (R E) 0) γ δ (after E d)) in
    use1 𝓛 (later (some (λ (δ : GName). lent (length xs) δ)))
    (lends_Elements 𝓛 (Own E) (R E) (after E d) (named 0) κ q rb ro b o γ xs room (sem 𝓛 (Rest E 𝓛 d rb ro b o (strip_of p ∷ []))) way ((Own E).coded.code d) ((Own E).coded.code d)) $ await ! tt $ pick ! (λ δ.
    rewrite ! 0 (λ (k : ℕ). lent k δ) (sym counted) refl $
    returns ! (look_at ! 0 refl) $ free_all ! refl $ keep ! (0 ∷ 1 ∷ []) $ split3 ! $
    suffices ! _ (ends_at 𝓛 entry (stayed E) told y (slice_val (b, o) n) (record { ref_ptr = (b, o); ghost_name = δ; now = xs }) (tt, (tt, tt)) (tt, (tt, tt))) $
    nothing ! $ nothing ! $ fjoin ! $ nothing ! $ fjoin ! $ join ! $ move ! (1 ∷ 3 ∷ []) $ join ! $ join ! $ frame ! $ says ! refl $ done !)))))))
