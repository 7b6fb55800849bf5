-- Steps that are appended are those of the placing.
use Rattle.std.proofs.Common.{◌≡◌, ℕ, ◌+◌, ◌^◌, ◌<◌, Bool, true, false, cond, not, List, [], ◌∷◌, ◌++◌, length, drop, refl, ap, ◌∙◌, sym, subst, arith}
use Rattle.std.specs.Prelude.{◌&&◌, ◌||◌, filter, Result, Ok, Err, IfOk}
use lib.Seq.{drop-drop, drop-append_seam}
use lib.ListN.{length-append}
use Rattle.sac_base.specs.declared.site.Site.{Site}
use Rattle.core_ir.specs.declared.tree.Var.{Var}
use Rattle.core_ir.specs.Binders.{is_in}
use Rattle.core_ir.specs.declared.tree.Let.{Let}
use Rattle.core_ir.specs.Terms.{PlainTerm, BlockTerm, RightTerm, Gives, Bind, Plain, chain}
use Rattle.core_ir.specs.View.{let_term, right_term}
use Rattle.counted_code.specs.declared.tree.CodeStep.{CodeStep}
use Rattle.counted_code.specs.Prompt.{uses, uses_right, hands}
use Rattle.counted_code.specs.Terms.{CodeTerm, CodeRightTerm, Giving, Binding}
use Rattle.counted_code.specs.View.{steps_before}
use Rattle.ref_rules.specs.declared.listed_uses.list.Entry.{Entry}
use Rattle.ref_rules.specs.declared.listed_uses.list.Entry.TheVariants.{Section}
use Rattle.ref_rules.specs.listed_uses.Latest.{vars_of, section}
use Rattle.ref_rules.proofs.listed_uses.Recorded.{in_append, vars_append}
use Rattle.ref_counts.specs.declared.held.Owned.{Owned}
use Rattle.ref_counts.specs.Endings.{ends_some, ends_in, read_place}
use Rattle.ref_counts.specs.Listing.{each, listed, listed_right}
use Rattle.ref_counts.specs.Owning.{owned_vars, IsSound, ends, EndsOf}
use Rattle.counted_laws.specs.placing.Placing.{keeps, releases, used, unused, surplus, read_after, takes, placing, placing_right}
use Rattle.counted_laws.proofs.placing.Lists.{append_assoc}
use Rattle.ref_counts.proofs.Collected.{assoc}
use Rattle.ref_counts.proofs.Listings.{vars_each, vars_block, vars_right}

-- ---- places in a list of uses

pub dropped : (es : List Entry) (from to : ℕ) (xs ys : List Entry) → drop from es ≡ xs ++ ys → to ≡ from + length xs → drop to es ≡ ys
dropped es from to xs ys p q =
    ap (λ n. drop n es) q ∙ sym (drop-drop (length xs) from es) ∙ ap (drop (length xs)) p ∙ drop-append_seam xs ys

-- at a binding stand its uses, then those of the rest
used_here : (es : List Entry) (from : ℕ) (r : RightTerm) (rest : BlockTerm) → drop from es ≡ section (listed_right r) ++ listed rest → vars_of (drop from es) ≡ uses_right r ++ uses rest
used_here es from r rest e = ap vars_of e ∙ vars_append (listed_right r) (listed rest) ∙ (λ i. vars_right r i ++ vars_block rest i)

used_behind : (es : List Entry) (from to : ℕ) (r : RightTerm) (rest : BlockTerm) → drop from es ≡ section (listed_right r) ++ listed rest → to ≡ from + length (section (listed_right r)) → vars_of (drop to es) ≡ uses rest
used_behind es from to r rest e at = ap vars_of (dropped es from to (section (listed_right r)) (listed rest) e at) ∙ vars_block rest

read_uses : (es : List Entry) (from to : ℕ) (r : RightTerm) (rest : BlockTerm) → drop from es ≡ section (listed_right r) ++ listed rest → to ≡ from + length (section (listed_right r)) → to < 2 ^ 64 → vars_of (drop (read_place r from to) es) ≡ read_after r ++ uses rest
read_uses es from to (Plain p) rest e q lt = used_behind es from to (Plain p) rest e q
read_uses es from to (RightTerm.If c a b) rest e q lt = used_behind es from to (RightTerm.If c a b) rest e q
read_uses es from to (RightTerm.Loop first start params test body s) rest e q lt =
    let blocks = section (listed test) ++ section (listed body) in
    let head = Section (length (each start ++ blocks)) in
    let size = length-append (each start) blocks in
    let at : read_place (RightTerm.Loop first start params test body s) from to ≡ from + length (head ∷ each start) = omega (arith, q, size, lt, length_each start) in
    ap vars_of (dropped es from (read_place (RightTerm.Loop first start params test body s) from to) (head ∷ each start) (blocks ++ listed rest) (e ∙ ap (λ l. head ∷ l) (sym (assoc (each start) blocks (listed rest)))) at)
    ∙ vars_append blocks (listed rest) ∙ (λ i. (vars_append (listed test) (section (listed body)) ∙ (λ j. vars_block test j ++ vars_block body j)) i ++ vars_block rest i)
  where
    length_each : (xs : List Var) → length (each xs) ≡ length xs
    length_each [] = refl
    length_each (x ∷ xs) = let r = length_each xs in omega (arith, r)
read_uses es from to (RightTerm.Call g xs) rest e q lt = used_behind es from to (RightTerm.Call g xs) rest e q
read_uses es from to (RightTerm.With op gens) rest e q lt = used_behind es from to (RightTerm.With op gens) rest e q
read_uses es from to (RightTerm.Parted f b c op parts) rest e q lt = used_behind es from to (RightTerm.Parted f b c op parts) rest e q

not_not : (b : Bool) → not (not b) ≡ b
not_not true = refl
not_not false = refl

-- ---- what ends in a right side

-- what is handed on, or is used later, ends if it is used no more
handed_or_used : (h l : Bool) → (h || l) ≡ true → not l ≡ (h && not l)
handed_or_used true l p = refl
handed_or_used false l p = ap not p

hands_first : (xs later : List Var) (x : Var) → is_in x (xs ++ later) ≡ true → not (is_in x later) ≡ (is_in x xs && not (is_in x later))
hands_first xs later x p = handed_or_used (is_in x xs) (is_in x later) (sym (in_append x xs later) ∙ p)

ends_as : (r : RightTerm) (later : List Var) (x : Var) → is_in x (uses_right r ++ later) ≡ true → (ends_some r && not (is_in x (read_after r ++ later))) ≡ takes r later x
ends_as (Plain (PlainTerm.Const a)) later x p = refl
ends_as (Plain (PlainTerm.Copy y)) later x p = hands_first (y ∷ []) later x p
ends_as (Plain (PlainTerm.Unary op y)) later x p = refl
ends_as (Plain (PlainTerm.Binary op y z)) later x p = refl
ends_as (Plain (PlainTerm.Literal ys)) later x p = refl
ends_as (Plain (PlainTerm.Dim y)) later x p = refl
ends_as (Plain (PlainTerm.ShapeOf y)) later x p = refl
ends_as (Plain (PlainTerm.Reshape y z)) later x p = refl
ends_as (Plain (PlainTerm.Select y z)) later x p = refl
ends_as (Plain (PlainTerm.Replace y z w)) later x p = refl
ends_as (Plain (PlainTerm.Always k)) later x p = refl
ends_as (Plain (PlainTerm.Check y t)) later x p = hands_first (y ∷ []) later x p
ends_as (RightTerm.If c a b) later x p = refl
ends_as (RightTerm.Loop first start params test body s) later x p =
    hands_first start ((uses test ++ uses body) ++ later) x (ap (is_in x) (append_assoc start (uses test ++ uses body) later) ∙ p)
ends_as (RightTerm.Call g xs) later x p = hands_first xs later x p
ends_as (RightTerm.With op gens) later x p = refl
ends_as (RightTerm.Parted f b c op parts) later x p = refl

-- tests that agree where a third one holds
filter_as : (u p q : Var → Bool) → ((x : Var) → u x ≡ true → p x ≡ q x) → (xs : List Var) → filter p (filter u xs) ≡ filter q (filter u xs)
filter_as u p q same [] = refl
filter_as u p q same (x ∷ xs) = go (u x) refl (filter_as u p q same xs)
  where
    go : (b : Bool) → u x ≡ b → filter p (filter u xs) ≡ filter q (filter u xs) → filter p (cond b (x ∷ filter u xs) (filter u xs)) ≡ filter q (cond b (x ∷ filter u xs) (filter u xs))
    go true e rest = λ i. cond (same x e i) (x ∷ rest i) (rest i)
    go false e rest = rest

-- ---- the tests

used_as : (vs us owned : List Var) → vs ≡ us → filter (λ x. not (not (is_in x vs))) owned ≡ used owned us
used_as vs us owned e = λ i. filter (λ x. (not_not (is_in x vs) ∙ ap (is_in x) e) i) owned

unused_as : (vs us owned : List Var) → vs ≡ us → filter (λ x. not (is_in x vs)) owned ≡ unused owned us
unused_as vs us owned e = λ i. filter (λ x. not (is_in x (e i))) owned

-- ---- before the results

pub results_placed : (es : List Entry) (from : ℕ) (results live dead more : List Var) (owned left : Owned) (s0 s1 s2 : List CodeStep) → drop from es ≡ each results → EndsOf es (ends es from) owned left [] dead → live ≡ owned_vars left → more ≡ surplus results live → ((t : CodeTerm) → steps_before s1 t ≡ steps_before s0 (releases dead t)) → ((t : CodeTerm) → steps_before s2 t ≡ steps_before s1 (keeps more t)) → steps_before s2 (Giving results) ≡ steps_before s0 (placing (owned_vars owned) (Gives results))
results_placed es from results live dead more owned left s0 s1 s2 e ended lives mores first second =
    let here = ap vars_of e ∙ vars_each results in
    let l = lives ∙ ended.left ∙ used_as (vars_of (drop from es)) results (owned_vars owned) here in
    let d = ended.taken ∙ unused_as (vars_of (drop from es)) results (owned_vars owned) here in
    let m = mores ∙ ap (surplus results) l in
    second (Giving results) ∙ first (keeps more (Giving results)) ∙ (λ i. steps_before s0 (releases (d i) (keeps (m i) (Giving results))))

-- ---- before and at a binding

pub binding_placed : (es : List Entry) (from to : ℕ) (r : RightTerm) (targets : List Var) (site : Site) (rest : BlockTerm) (dead handed mine more : List Var) (owned live stay : Owned) (q : CodeRightTerm) (s0 s1 s2 s3 : List CodeStep) →
    drop from es ≡ section (listed_right r) ++ listed rest → to ≡ from + length (section (listed_right r)) → to < 2 ^ 64 →
    EndsOf es (ends es from) owned live [] dead → handed ≡ hands r →
    EndsOf es (ends_in es r from to) live stay [] mine →
    more ≡ surplus handed mine → q ≡ placing_right mine r →
    ((t : CodeTerm) → steps_before s1 t ≡ steps_before s0 (releases dead t)) → ((t : CodeTerm) → steps_before s2 t ≡ steps_before s1 (keeps more t)) → ((t : CodeTerm) → steps_before s3 t ≡ steps_before s2 (Binding targets site q t)) →
    steps_before s3 (placing (targets ++ owned_vars stay) rest) ≡ steps_before s0 (placing (owned_vars owned) (Bind targets site r rest))
binding_placed es from to r targets site rest dead handed mine more owned live stay q s0 s1 s2 s3 e at lt ended handeds passed mores rights first second third =
    let later = uses rest in
    let here = used_here es from r rest e in
    let l = ended.left ∙ used_as (vars_of (drop from es)) (uses_right r ++ later) (owned_vars owned) here in
    let d = ended.taken ∙ unused_as (vars_of (drop from es)) (uses_right r ++ later) (owned_vars owned) here in
    let read = read_uses es from to r rest e at lt in
    let same : (x : Var) → is_in x (uses_right r ++ later) ≡ true → ends_in es r from to x ≡ takes r later x = λ x i. ap (λ vs. ends_some r && not (is_in x vs)) read ∙ ends_as r later x i in
    let live_as = filter_as (λ x. is_in x (uses_right r ++ later)) in
    let m = passed.taken ∙ ap (filter (ends_in es r from to)) l ∙ live_as (ends_in es r from to) (takes r later) same (owned_vars owned) in
    let s = passed.left ∙ ap (filter (λ x. not (ends_in es r from to x))) l ∙ live_as (λ x. not (ends_in es r from to x)) (λ x. not (takes r later x)) (λ x i. ap not (same x i)) (owned_vars owned) in
    let k = mores ∙ (λ i. surplus (handeds i) (m i)) in
    let w = rights ∙ (λ i. placing_right (m i) r) in
    let rest_of = placing (targets ++ owned_vars stay) rest in
    third rest_of ∙ second (Binding targets site q rest_of) ∙ first (keeps more (Binding targets site q rest_of))
    ∙ (λ i. steps_before s0 (releases (d i) (keeps (k i) (Binding targets site (w i) (placing (targets ++ s i) rest)))))

-- ---- where the last call may give up

pub results_done : {E : Type 0} (r : Result (Unit {0}) E) (es : List Entry) (from : ℕ) (results none dead released none_live live found more kept : List Var) (owned left : Owned) (s0 s1 s2 : List CodeStep) →
    IsSound es owned → drop from es ≡ each results →
    none ≡ [] → (IsSound es owned → EndsOf es (ends es from) owned left none dead) → released ≡ dead → ((t : CodeTerm) → steps_before s1 t ≡ steps_before s0 (releases released t)) →
    none_live ≡ [] → live ≡ none_live ++ owned_vars left → found ≡ live → more ≡ surplus results found → kept ≡ more →
    IfOk r (λ done. (t : CodeTerm) → steps_before s2 t ≡ steps_before s1 (keeps kept t)) → IfOk r (λ done. steps_before s2 (Giving results) ≡ steps_before s0 (placing (owned_vars owned) (Gives results)))
results_done (Ok done) es from results none dead released none_live live found more kept owned left s0 s1 s2 sound e empty ended out first empty_live lives founds mores keeping second =
    results_placed es from results found released kept owned left s0 s1 s2 e
    (subst (λ d. EndsOf es (ends es from) owned left [] d) (sym out) (subst (λ n. EndsOf es (ends es from) owned left n dead) empty (ended sound)))
    (founds ∙ lives ∙ ap (λ n. n ++ owned_vars left) empty_live) (keeping ∙ mores) first second
results_done (Err why) es from results none dead released none_live live found more kept owned left s0 s1 s2 sound e empty ended out first empty_live lives founds mores keeping second = second

pub let_done : (es : List Entry) (from to : ℕ) (b : Let) (rest : BlockTerm) (none dead released handed placing_in none_mine mine own branch_own more kept names targets : List Var) (owned live stay : Owned) (q : CodeRightTerm) (s0 s1 s2 s3 : List CodeStep) →
    IsSound es owned → drop from es ≡ section (listed_right (right_term b.right)) ++ listed rest → to ≡ from + length (section (listed_right (right_term b.right))) → to < 2 ^ 64 →
    none ≡ [] → (IsSound es owned → EndsOf es (ends es from) owned live none dead) → released ≡ dead → ((t : CodeTerm) → steps_before s1 t ≡ steps_before s0 (releases released t)) →
    handed ≡ hands (right_term b.right) →
    none_mine ≡ [] → (IsSound es live → EndsOf es (ends_in es (right_term b.right) from to) live stay none_mine mine) →
    placing_in ≡ handed → own ≡ mine → more ≡ surplus placing_in own → kept ≡ more → ((t : CodeTerm) → steps_before s2 t ≡ steps_before s1 (keeps kept t)) →
    branch_own ≡ mine → q ≡ placing_right branch_own (right_term b.right) → names ≡ b.targets.items → targets ≡ names → ((t : CodeTerm) → steps_before s3 t ≡ steps_before s2 (Binding targets b.site q t)) →
    IsSound es stay × (steps_before s3 (placing (b.targets.items ++ owned_vars stay) rest) ≡ steps_before s0 (placing (owned_vars owned) (chain (let_term b ∷ []) rest)))
let_done es from to b rest none dead released handed placing_in none_mine mine own branch_own more kept names targets owned live stay q s0 s1 s2 s3 sound e at lt empty ended outs first handeds empty_mine passed ins owns mores keeping second branches rights same_names names_are third =
    let r = right_term b.right in
    let dead_end = subst (λ d. EndsOf es (ends es from) owned live [] d) (sym outs) (subst (λ n. EndsOf es (ends es from) owned live n dead) empty (ended sound)) in
    let given_end = passed dead_end.sound in (
      given_end.sound,
      binding_placed es from to r b.targets.items b.site rest released handed mine kept owned live stay q s0 s1 s2 s3 e at lt dead_end handeds
          (subst (λ n. EndsOf es (ends_in es r from to) live stay n mine) empty_mine given_end)
          (keeping ∙ mores ∙ (λ i. surplus (ins i) (owns i))) (rights ∙ ap (λ xs. placing_right xs r) branches) first second
          (subst (λ xs. (t : CodeTerm) → steps_before s3 t ≡ steps_before s2 (Binding xs b.site q t)) (names_are ∙ same_names) third),
    )
