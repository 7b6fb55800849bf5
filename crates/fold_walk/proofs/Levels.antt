-- The pairs that are bound in one block, one producer after another.
use Rattle.std.proofs.Common.{◌≡◌, ℕ, zero, suc, ◌+◌, ◌≤◌, ◌<◌, List, [], ◌∷◌, ◌++◌, map, length, get_or, drop, reverse, Option, Some, None, refl, sym, ap, subst, ◌∙◌, arith}
use Rattle.std.proofs.lemmas.List.{length-append, reverse-append, reverse-reverse}
use Rattle.std.specs.Prelude.{IfNone, IfSome, slice_set}
use Rattle.core_ir.specs.declared.tree.Var.{Var}
use Rattle.core_ir.specs.declared.tree.Let.{Let}
use Rattle.core_ir.specs.Edits.{here}
use Rattle.core_ir.specs.Terms.{BlockTerm, LetTerm, Gives, Bind, chain}
use Rattle.core_ir.specs.View.{let_term}
use Rattle.core_facts.specs.Facts.{Facts, note_all, right_facts}
use Rattle.core_loops.specs.Steps.{facts_after}
use Rattle.fact_table.specs.Notes.{Note}
use Rattle.fact_table.specs.Table.{facts_of}
use Rattle.binding_users.specs.declared.users.Users.{Users}
use Rattle.binding_users.specs.Users.{AreUsers}
use Rattle.binding_users.proofs.Noted.{users_less}
use Rattle.fold_walk.specs.Left.{EachBegun, NoPairAt}
use Rattle.fold_walk.specs.Walking.{State, FirstFolded, LevelFolded, TurnFolded, TurnKept, Walked, stays, goes}
use Rattle.fold_walk.proofs.Firsts.{chain_both}
use Rattle.fold_walk.proofs.Learned.{reverse_cons}
use Rattle.core_walk.proofs.Turns.{map_snoc}
use Rattle.fold_walk.proofs.Walking.{after_snoc, chain_snoc, join, rises, still, through}

-- ---- lists the other way round

map_reverse : (ls : List Let) → map let_term (reverse ls) ≡ reverse (map let_term ls)
map_reverse [] = refl
map_reverse (l ∷ ls) = ap (map let_term) (reverse_cons l ls) ∙ map_snoc let_term (reverse ls) l ∙ ap (λ zs. zs ++ (let_term l ∷ [])) (map_reverse ls) ∙ sym (reverse_cons (let_term l) (map let_term ls))

pub turned_back : (ls : List Let) → reverse (map let_term (reverse ls)) ≡ map let_term ls
turned_back ls = ap reverse (map_reverse ls) ∙ reverse-reverse (map let_term ls)

-- the last one comes first
pub last_first : (ls : List Let) (l : Let) → reverse (map let_term (ls ++ (l ∷ []))) ≡ let_term l ∷ reverse (map let_term ls)
last_first ls l = ap reverse (map_snoc let_term ls l) ∙ reverse-append (map let_term ls) (let_term l ∷ [])

-- a binding in the place of another
set_here : (ls : List Let) (place : ℕ) (new : Let) (before after : List LetTerm) (user : LetTerm) → map let_term ls ≡ before ++ (user ∷ after) → length before ≡ place → map let_term (slice_set ls place new) ≡ before ++ (let_term new ∷ after)
set_here [] place new [] after user e p = absurd (cc)
set_here [] place new (b ∷ before) after user e p = absurd (cc)
set_here (l ∷ ls) zero new [] after user e p = ap (λ zs. let_term new ∷ zs) (ap (drop 1) e)
set_here (l ∷ ls) (suc place) new [] after user e p = absurd (omega (arith, p))
set_here (l ∷ ls) zero new (b ∷ before) after user e p = absurd (omega (arith, p))
set_here (l ∷ ls) (suc place) new (b ∷ before) after user e p =
    let first : let_term l ≡ b = ap (λ (k : List LetTerm). get_or k 0 b) e in
    λ i. first i ∷ set_here ls place new before after user (ap (drop 1) e) (omega (arith, p)) i

-- its place lies inside
within : (ls : List Let) (place : ℕ) (before after : List LetTerm) (user : LetTerm) → map let_term ls ≡ before ++ (user ∷ after) → length before ≡ place → place < length ls
within ls place before after user e p =
    less (length before) place (length after) (length ls) p (sym (count ls) ∙ ap length e ∙ length-append before (user ∷ after))
  where
    less : (b p a n : ℕ) → b ≡ p → n ≡ b + suc a → p < n
    less b p a n e f = omega (arith, e, f)

    count : (xs : List Let) → length (map let_term xs) ≡ length xs
    count [] = refl
    count (x ∷ xs) = ap suc (count xs)

turned : (before after : List LetTerm) (user : LetTerm) (end : BlockTerm) → chain (reverse (before ++ (user ∷ after))) end ≡ chain (reverse after) (Bind user.targets user.site user.right (chain (reverse before) end))
turned before after user end =
    ap (λ ls. chain ls end) (reverse-append before (user ∷ after) ∙ ap (λ zs. zs ++ reverse before) (reverse_cons user after)) ∙ chain_both (reverse after ++ (user ∷ [])) (reverse before) end
    ∙ chain_snoc (reverse after) user (chain (reverse before) end)

-- the uses that are noted of what is left of the bindings, without the first one
pub users_behind : (u : Users) (behind rest slice : List Let) (x : Let) → behind ≡ rest ++ (x ∷ []) → slice ≡ rest → AreUsers u (map let_term behind) → AreUsers u (map let_term slice)
users_behind u behind rest slice x e s h =
    subst (λ (ls : List Let). AreUsers u (map let_term ls)) (sym s) (users_less u rest (x ∷ []) (subst (λ (ls : List Let). AreUsers u (map let_term ls)) e h))

module _ (called : ℕ → List (Option (List ℕ))) (function : ℕ) (k : Facts) (p : State) (rs : List Var) where
  abbrev end : BlockTerm
  end = Gives rs

  -- what was looked at so far, and what is left of the bindings
  pub record Level (lets : List LetTerm) (now : Facts) (q : State) (done behind : List Let) : Type 0 where
    pub walked : Walked called function k p q (chain lets end) (chain (map let_term done) (chain (reverse (map let_term behind)) end))
    pub known : now ≡ facts_after called (map let_term done) k
    pub none : length q.folds ≡ length p.folds → EachBegun called (NoPairAt called p.next) (reverse (map let_term behind)) end now → EachBegun called (NoPairAt called p.next) lets end k

  pub level_first : (lets behind done : List Let) → behind ≡ reverse lets → done ≡ [] → Level (map let_term lets) k p done behind
  level_first lets behind done e d =
      let same : reverse (map let_term behind) ≡ map let_term lets = ap (λ ls. reverse (map let_term ls)) e ∙ turned_back lets in
      record {
        walked = subst (λ (t : BlockTerm). Walked called function k p p (chain (map let_term lets) end) t) (λ i. chain (map let_term (sym d i)) (chain (sym same i) end)) stays;
        known = ap (λ ls. facts_after called (map let_term ls) k) (sym d);
        none = λ _ h. subst (λ (ls : List LetTerm). EachBegun called (NoPairAt called p.next) ls end k) same h;
      }

  -- the first one stays
  pub level_past : (lets : List LetTerm) (now after : Facts) (q : State) (done done' behind rest : List Let) (x : Let) → Level lets now q done behind → behind ≡ rest ++ (x ∷ []) → done' ≡ done ++ (x ∷ []) →
      after ≡ note_all now (let_term x).targets (right_facts called (let_term x).right now) → NoPairAt called q.next now (chain (let_term x ∷ reverse (map let_term rest)) end) → Level lets after q done' rest
  level_past lets now after q done done' behind rest x v b d learned none =
      let l = let_term x in
      let front : reverse (map let_term behind) ≡ l ∷ reverse (map let_term rest) = ap (λ ls. reverse (map let_term ls)) b ∙ last_first rest x in
      record {
        walked = subst (λ (t : BlockTerm). Walked called function k p q (chain lets end) t)
            ((λ i. chain (map let_term done) (chain (front i) end)) ∙ sym (chain_snoc (map let_term done) l (chain (reverse (map let_term rest)) end))
            ∙ ap (λ z. chain z (chain (reverse (map let_term rest)) end)) (sym (map_snoc let_term done x)) ∙ (λ i. chain (map let_term (sym d i)) (chain (reverse (map let_term rest)) end))) v.walked;
        known = learned ∙ (λ i. note_all (v.known i) l.targets (right_facts called l.right (v.known i))) ∙ sym (after_snoc called (map let_term done) l k)
            ∙ ap (λ ls. facts_after called ls k) (sym (map_snoc let_term done x)) ∙ (λ i. facts_after called (map let_term (sym d i)) k);
        none = λ e h.
            let same = (still called function v.walked e).0 in
            v.none e (subst (λ (ls : List LetTerm). EachBegun called (NoPairAt called p.next) ls end now) (sym front)
            (subst (λ (m : State). NoPairAt called m.next now (chain (l ∷ reverse (map let_term rest)) end)) (sym same) none, subst (λ (f : Facts). EachBegun called (NoPairAt called p.next) (reverse (map let_term rest)) end f) learned h));
      }

  -- the first one is folded into its consumer
  pub level_folded : (lets : List LetTerm) (now : Facts) (q r : State) (done behind rest rest' : List Let) (x new : Let) (place : ℕ) → Level lets now q done behind → behind ≡ rest ++ (x ∷ []) → rest' ≡ slice_set rest place new →
      FirstFolded called function now q r (let_term x) (map let_term rest) rs place (let_term new) → Level lets now r done rest'
  level_folded lets now q r done behind rest rest' x new place v b s f =
      let l = let_term x in
      let front : reverse (map let_term behind) ≡ l ∷ reverse (map let_term rest) = ap (λ ls. reverse (map let_term ls)) b ∙ last_first rest x in
      let old : chain (reverse (map let_term behind)) end ≡ Bind l.targets l.site l.right (chain (reverse f.after) (Bind f.user.targets f.user.site f.user.right (chain (reverse f.before) end))) =
      (λ i. chain (front i) end) ∙ (λ i. Bind l.targets l.site l.right (chain (reverse (f.whole i)) end)) ∙ ap (Bind l.targets l.site l.right) (turned f.before f.after f.user end) in
      let made : chain (reverse f.after) (Bind (let_term new).targets (let_term new).site (let_term new).right (chain (reverse f.before) end)) ≡ chain (reverse (map let_term rest')) end =
      sym (turned f.before f.after (let_term new) end) ∙ (λ i. chain (reverse (sym (set_here rest place new f.before f.after f.user f.whole f.at) i)) end) ∙ (λ i. chain (reverse (map let_term (sym s i))) end) in
      let one : Walked called function now q r (chain (reverse (map let_term behind)) end) (chain (reverse (map let_term rest')) end) =
      subst (λ (t : BlockTerm). Walked called function now q r t (chain (reverse (map let_term rest')) end)) (sym old)
      (subst (λ (t : BlockTerm). Walked called function now q r (Bind l.targets l.site l.right (chain (reverse f.after) (Bind f.user.targets f.user.site f.user.right (chain (reverse f.before) end)))) t) made (goes (here f.fold) stays)) in
      record {
        walked = join called function v.walked (through called function (map let_term done) (subst (λ (m : Facts). Walked called function m q r (chain (reverse (map let_term behind)) end) (chain (reverse (map let_term rest')) end)) v.known one));
        known = v.known;
        none = λ e h. absurd (more (length p.folds) (length q.folds) (length r.folds) (rises called function v.walked) (longer f.fold.producer f.fold.consumer f.fold.logged) e);
      }
    where
      longer : (x y : Var) → r.folds ≡ q.folds ++ (record { function = function; producer = x; consumer = y } ∷ []) → length r.folds ≡ length q.folds + 1
      longer x y e = ap length e ∙ length-append q.folds (record { function = function; producer = x; consumer = y } ∷ [])

      more : (a b c : ℕ) → a ≤ b → c ≡ b + 1 → c ≡ a → ⊥
      more a b c h e f = omega (arith, h, e, f)

  -- one turn: what was found, by the slice of what is left, and what was done with it
  pub level_turn :
      (lets : List LetTerm) (q r : State) (done done' behind rest rest' slice : List Let) (x : Let) (old notes notes' : List Note) (found : Option (ℕ × Let)) → Level lets (facts_of old) q done behind → behind ≡ rest ++ (x ∷ []) → slice ≡ rest → notes ≡ old →
      IfSome found (λ n. FirstFolded called function (facts_of old) q r (let_term x) (map let_term slice) rs n.0 (let_term n.1)) → IfNone found (r ≡ q) →
      IfNone found (NoPairAt called q.next (facts_of old) (chain (let_term x ∷ reverse (map let_term slice)) end)) → IfSome found (λ n. TurnFolded rest rest' done done' notes notes' n.0 n.1) →
      IfNone found (TurnKept called x rest rest' done done' (facts_of notes) (facts_of notes')) → Level lets (facts_of notes') r done' rest'
  level_turn lets q r done done' behind rest rest' slice x old notes notes' None v b s t some stay none folded kept =
      let l = let_term x in
      let learned = kept.known ∙ (λ i. note_all (facts_of (t i)) l.targets (right_facts called l.right (facts_of (t i)))) in
      let here = subst (λ (ls : List Let). NoPairAt called q.next (facts_of old) (chain (l ∷ reverse (map let_term ls)) end)) s none in
      subst (λ (ls : List Let). Level lets (facts_of notes') r done' ls) (sym kept.behind)
      (subst (λ (m : State). Level lets (facts_of notes') m done' rest) (sym stay) (level_past lets (facts_of old) (facts_of notes') q done done' behind rest x v b kept.done learned here))
  level_turn lets q r done done' behind rest rest' slice x old notes notes' (Some n) v b s t some stay none folded kept =
      subst (λ (ls : List Let). Level lets (facts_of notes') r ls rest') (sym folded.done)
      (subst (λ (m : List Note). Level lets (facts_of m) r done rest') (sym (folded.table ∙ t))
      (level_folded lets (facts_of old) q r done behind rest rest' x n.1 n.0 v b folded.behind
      (subst (λ (ls : List Let). FirstFolded called function (facts_of old) q r (let_term x) (map let_term ls) rs n.0 (let_term n.1)) s some)))

  -- the place of a consumer lies inside of what is left
  pub turn_inside :
      (now : Facts) (q r : State) (rest slice : List Let) (x : Let) (len : ℕ) (found : Option (ℕ × Let)) → slice ≡ rest → len ≡ length rest →
      IfSome found (λ n. FirstFolded called function now q r (let_term x) (map let_term slice) rs n.0 (let_term n.1)) → IfSome found (λ n. n.0 < len)
  turn_inside now q r rest slice x len None s e f = tt
  turn_inside now q r rest slice x len (Some n) s e f = below n.0 (length slice) len (within slice n.0 f.before f.after f.user f.whole f.at) (e ∙ ap (λ (ls : List Let). length ls) (sym s))
    where
      below : (a b m : ℕ) → a < b → m ≡ b → a < m
      below a b m h e = omega (arith, h, e)

  pub level_end : (lets : List LetTerm) (now : Facts) (q : State) (done behind : List Let) → Level lets now q done behind → behind ≡ [] → LevelFolded called function k p q lets (map let_term done) rs
  level_end lets now q done behind v e = record {
    walked = subst (λ (ls : List Let). Walked called function k p q (chain lets end) (chain (map let_term done) (chain (reverse (map let_term ls)) end))) e v.walked;
    none = λ same. v.none (ap length same) (subst (λ (ls : List Let). EachBegun called (NoPairAt called p.next) (reverse (map let_term ls)) end now) (sym e) tt);
  }
