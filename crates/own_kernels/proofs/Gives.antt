-- A kernel that reads of a buffer its own element alone gives the same whatever other elements the buffer has.
use Rattle.std.proofs.Common.{◌≡◌, ℕ, zero, suc, ◌-◌, ◌≤◌, ℤ, pos, Bool, true, false, ◌&&◌, eqb, nat_eq, nat_le, List, [], ◌∷◌, length, get_or-set_other, Result, Ok, Err, refl, ap, sym, ◌∙◌, arith}
use Rattle.std.specs.Prelude.{if◌then◌else◌, slice_set}
use Rattle.std.specs.Int.{int_gap}
use Rattle.std.specs.List.{list_all}
use Rattle.std.proofs.lemmas.Bool.{eqb-true}
use Rattle.sac_base.specs.declared.base.Base.TheVariants.{Int}
use Rattle.sac_base.specs.declared.faults.FaultKind.TheVariants.{F8}
use Rattle.sac_base.specs.declared.op.Op.{Op}
use Rattle.sac_base.specs.declared.op.Op.TheVariants as op
use Rattle.sac_base.specs.declared.op.ZeroDivisor.{ZeroDivisor}
use Rattle.sac_base.specs.declared.site.Site.{Site}
use Rattle.sac_base.specs.Arrays.{ArrayValue, MOST, is_true, vector}
use Rattle.sac_base.specs.Operators.{apply_two}
use Rattle.sac_base.specs.Outcomes.{Ends, and_then, at_site, fault}
use Rattle.sac_base.specs.Parts.{select}
use Rattle.kernel_tree.specs.declared.tree.KernelStep.{KernelStep}
use Rattle.kernel_tree.specs.declared.tree.KernelStep.TheVariants as step
use Rattle.kernel_tree.specs.Terms.{Doing, KernelTerm, Over, LineThen, IfThen, TurnsThen, EachThen, BetweenThen, between_gives, buffer, end_number, first_number, each_gives, gives, numbers_between, line_gives, loop_gives, put, put_element, put_result, put_value, register, step_gives, turns_give, two}
use Rattle.kernel_rows.specs.Kernels.{HasIndex}
use Rattle.own_kernels.specs.Statements.{SameAt}
use Rattle.own_kernels.specs.Steps.{is_own, own_load, own_step}
use Rattle.own_kernels.proofs.Bools.{and_left, and_right, le_first, then_other}

module _ (index : List ℤ) where
  -- the index still stands in the first registers, or there is a fault
  abbrev Holds : Ends (List ℤ) → Type 0
  Holds (Ok r) = HasIndex r index
  Holds (Err f) = Unit {0}

  -- both end alike, and the index still stands there
  abbrev Alike : Ends (List ℤ) → Ends (List ℤ) → Type 0
  Alike m n = (m ≡ n) × Holds n

  then_alike : (m n : Ends (List ℤ)) (g h : Doing) → Alike m n → ((s : List ℤ) → HasIndex s index → Alike (g s) (h s)) → Alike (and_then m g) (and_then n h)
  then_alike m (Ok s) g h both next = let after = next s both.1 in (ap (λ (x : Ends (List ℤ)). and_then x g) both.0 ∙ after.0, after.1)
  then_alike m (Err f) g h both next = (ap (λ (x : Ends (List ℤ)). and_then x g) both.0, tt)

  if_alike : (b : Bool) (m n o p : Ends (List ℤ)) → Alike m n → Alike o p → Alike (if b then m else o) (if b then n else p)
  if_alike true m n o p first second = first
  if_alike false m n o p first second = second

  -- ---- writes behind the index

  put_holds : (r : List ℤ) (to : ℕ) (n : ℤ) → length index ≤ to → HasIndex r index → HasIndex (slice_set r to n) index
  put_holds r to n le has k lt = get_or-set_other r to k n (pos 0) (λ is. omega (arith, is, lt, le)) ∙ has k lt

  value_holds : (r : List ℤ) (to : ℕ) (o : Result ℤ ZeroDivisor) → length index ≤ to → HasIndex r index → Holds (put_value r to o)
  value_holds r to (Ok n) le has = put_holds r to n le has
  value_holds r to (Err z) le has = has

  result_holds : (r : List ℤ) (to : ℕ) (site : Site) (o : Result ℤ ZeroDivisor) → length index ≤ to → HasIndex r index → Holds (put_result r to site o)
  result_holds r to site (Ok n) le has = put_holds r to n le has
  result_holds r to site (Err z) le has = tt

  element_holds : (r : List ℤ) (to : ℕ) (o : Ends ArrayValue) → length index ≤ to → HasIndex r index → Holds (put_element r to o)
  element_holds r to (Ok a) le has = put_holds r to _ le has
  element_holds r to (Err f) le has = tt

  -- ---- loops

  turns_alike : (left : ℕ) (site : Site) (test test2 : Doing) (c : ℕ) (body body2 : Doing) → ((s : List ℤ) → HasIndex s index → Alike (test s) (test2 s)) → ((s : List ℤ) → HasIndex s index → Alike (body s) (body2 s))
      → (r : List ℤ) → HasIndex r index → Alike (turns_give left site test c body r) (turns_give left site test2 c body2 r)
  turns_alike zero site test test2 c body body2 tests bodies r has =
      then_alike (test r) (test2 r) _ _ (tests r has) (λ s held. if_alike (is_true (register s c)) _ _ _ _ (refl, tt) (refl, held))
  turns_alike (suc left) site test test2 c body body2 tests bodies r has =
      then_alike (test r) (test2 r) _ _ (tests r has)
      (λ s held. if_alike (is_true (register s c)) _ _ _ _ (then_alike (body s) (body2 s) _ _ (bodies s held) (turns_alike left site test test2 c body body2 tests bodies)) (refl, held))

  loop_alike : (first : Bool) (turns : ℕ) (site : Site) (test test2 : Doing) (c : ℕ) (body body2 : Doing) → ((s : List ℤ) → HasIndex s index → Alike (test s) (test2 s)) → ((s : List ℤ) → HasIndex s index → Alike (body s) (body2 s))
      → (r : List ℤ) → HasIndex r index → Alike (loop_gives first turns site test c body r) (loop_gives first turns site test2 c body2 r)
  loop_alike false turns site test test2 c body body2 tests bodies r has = turns_alike turns site test test2 c body body2 tests bodies r has
  loop_alike true turns site test test2 c body body2 tests bodies r has =
      then_alike (body r) (body2 r) _ _ (bodies r has) (turns_alike (turns - 1) site test test2 c body body2 tests bodies)

  each_alike : (at : ℕ) (body body2 : Doing) → length index ≤ at → ((s : List ℤ) → HasIndex s index → Alike (body s) (body2 s)) → (ns r : List ℤ) → HasIndex r index → Alike (each_gives at body ns r) (each_gives at body2 ns r)
  each_alike at body body2 le bodies [] r has = (refl, has)
  each_alike at body body2 le bodies (n ∷ ns) r has =
      then_alike (body (slice_set r at n)) (body2 (slice_set r at n)) _ _ (bodies (slice_set r at n) (put_holds r at n le has)) (each_alike at body body2 le bodies ns)

-- ---- the components of the index

one_component : (index r : List ℤ) (x : ℕ) → length index ≡ 1 → x ≡ 0 → HasIndex r index → register r x ∷ [] ≡ index
one_component [] r x long first has = absurd (omega (arith, long))
one_component (i ∷ []) r x long first has = ap (λ k. register r k ∷ []) first ∙ ap (λ z. z ∷ []) (has 0 (omega arith))
one_component (i ∷ j ∷ rest) r x long first has = absurd (omega (arith, long))

two_components : (index r : List ℤ) (x y : ℕ) → length index ≡ 2 → x ≡ 0 → y ≡ 1 → HasIndex r index → register r x ∷ register r y ∷ [] ≡ index
two_components [] r x y long first second has = absurd (omega (arith, long))
two_components (i ∷ []) r x y long first second has = absurd (omega (arith, long))
two_components (i ∷ j ∷ []) r x y long first second has =
    (λ t. register r (first t) ∷ register r (second t) ∷ []) ∙ (λ t. has 0 (omega arith) t ∷ has 1 (omega arith) t ∷ [])
two_components (i ∷ j ∷ k ∷ rest) r x y long first second has = absurd (omega (arith, long))

module _ (rank at : ℕ) (index : List ℤ) (long : length index ≡ rank) (bs cs : List ArrayValue) (same : SameAt at index bs cs) where
  -- an element of another buffer, or the one at the index
  selected : (t : Bool) (b : ℕ) (numbers : List ℤ) → eqb b at ≡ t → (t ≡ true → numbers ≡ index) → select (buffer cs b) (vector Int numbers) ≡ select (buffer bs b) (vector Int numbers)
  selected false b numbers is own = ap (λ (a : ArrayValue). select a (vector Int numbers)) (same.others b is)
  selected true b numbers is own =
      let here = eqb-true b at is in
      let there = own refl in
      (λ i. select (buffer cs (here i)) (vector Int (there i))) ∙ same.element ∙ sym (λ i. select (buffer bs (here i)) (vector Int (there i)))

  le_to : (to : ℕ) (rest : Bool) → (nat_le rank to && rest) ≡ true → length index ≤ to
  le_to to rest own = let le = le_first rank to rest own in omega (arith, le, long)

  two_alike : (o : Op) (r : List ℤ) (to x y : ℕ) → (nat_le rank to && true) ≡ true → HasIndex r index → Alike index (two o r to x y) (two o r to x y)
  two_alike o r to x y own has = (refl, value_holds index r to (apply_two o (register r x) (register r y)) (le_to to true own) has)

  put_alike : (r : List ℤ) (to : ℕ) (n : ℤ) → (nat_le rank to && true) ≡ true → HasIndex r index → Alike index (put r to n) (put r to n)
  put_alike r to n own has = (refl, put_holds index r to n (le_to to true own) has)

  result_alike : (r : List ℤ) (to : ℕ) (site : Site) (o : Result ℤ ZeroDivisor) → (nat_le rank to && true) ≡ true → HasIndex r index → Alike index (put_result r to site o) (put_result r to site o)
  result_alike r to site o own has = (refl, result_holds index r to site o (le_to to true own) has)

  load_alike : (r : List ℤ) (to b : ℕ) (numbers : List ℤ) (site : Site) (rest : Bool) → (nat_le rank to && rest) ≡ true → (eqb b at ≡ true → numbers ≡ index) → HasIndex r index
      → Alike index (put_element r to (at_site site (select (buffer cs b) (vector Int numbers)))) (put_element r to (at_site site (select (buffer bs b) (vector Int numbers))))
  load_alike r to b numbers site rest own at_index has = (
    ap (λ m. put_element r to (at_site site m)) (selected (eqb b at) b numbers refl at_index),
    element_holds index r to (at_site site (select (buffer bs b) (vector Int numbers))) (le_to to rest own) has,
  )

  step_alike : (s : KernelStep) (r : List ℤ) → own_step rank at s ≡ true → HasIndex r index → Alike index (step_gives cs s r) (step_gives bs s r)
  step_alike (step.Set to n) r own has = put_alike r to n own has
  step_alike (step.Move to x) r own has = put_alike r to _ own has
  step_alike (step.Neg to x) r own has = put_alike r to _ own has
  step_alike (step.Not to x) r own has = put_alike r to _ own has
  step_alike (step.Add to x y) r own has = two_alike op.Add r to x y own has
  step_alike (step.Sub to x y) r own has = two_alike op.Sub r to x y own has
  step_alike (step.Mul to x y) r own has = two_alike op.Mul r to x y own has
  step_alike (step.Div to x y site) r own has = result_alike r to site (apply_two op.Div (register r x) (register r y)) own has
  step_alike (step.Rem to x y site) r own has = result_alike r to site (apply_two op.Rem (register r x) (register r y)) own has
  step_alike (step.Min to x y) r own has = two_alike op.Min r to x y own has
  step_alike (step.Max to x y) r own has = two_alike op.Max r to x y own has
  step_alike (step.Eq to x y) r own has = two_alike op.Eq r to x y own has
  step_alike (step.Ne to x y) r own has = two_alike op.Ne r to x y own has
  step_alike (step.Lt to x y) r own has = two_alike op.Lt r to x y own has
  step_alike (step.Le to x y) r own has = two_alike op.Le r to x y own has
  step_alike (step.Gt to x y) r own has = two_alike op.Gt r to x y own has
  step_alike (step.Ge to x y) r own has = two_alike op.Ge r to x y own has
  step_alike (step.And to x y) r own has = two_alike op.And r to x y own has
  step_alike (step.Or to x y) r own has = two_alike op.Or r to x y own has
  step_alike (step.Load1 to b x site) r own has =
      load_alike r to b (register r x ∷ []) site (own_load rank at (step.Load1 to b x site)) own
      (λ here. let both = then_other (eqb b at) (nat_eq rank 1 && nat_eq x 0) (and_right (nat_le rank to) (own_load rank at (step.Load1 to b x site)) own) here in
      one_component index r x (long ∙ eqb-true rank 1 (and_left (nat_eq rank 1) (nat_eq x 0) both)) (eqb-true x 0 (and_right (nat_eq rank 1) (nat_eq x 0) both)) has) has
  step_alike (step.Load2 to b x y site) r own has =
      load_alike r to b (register r x ∷ register r y ∷ []) site (own_load rank at (step.Load2 to b x y site)) own
      (λ here. let both = then_other (eqb b at) (nat_eq rank 2 && (nat_eq x 0 && nat_eq y 1)) (and_right (nat_le rank to) (own_load rank at (step.Load2 to b x y site)) own) here in
      let rest = and_right (nat_eq rank 2) (nat_eq x 0 && nat_eq y 1) both in
      two_components index r x y (long ∙ eqb-true rank 2 (and_left (nat_eq rank 2) (nat_eq x 0 && nat_eq y 1) both)) (eqb-true x 0 (and_left (nat_eq x 0) (nat_eq y 1) rest)) (eqb-true y 1 (and_right (nat_eq x 0) (nat_eq y 1) rest)) has) has
  step_alike (step.Fail kind site) r own has = (refl, tt)

  line_alike : (ss : List KernelStep) (r : List ℤ) → list_all (own_step rank at) ss ≡ true → HasIndex r index → Alike index (line_gives cs ss r) (line_gives bs ss r)
  line_alike [] r own has = (refl, has)
  line_alike (s ∷ ss) r own has =
      then_alike index (step_gives cs s r) (step_gives bs s r) (line_gives cs ss) (line_gives bs ss) (step_alike s r (and_left (own_step rank at s) (list_all (own_step rank at) ss) own) has)
      (λ u held. line_alike ss u (and_right (own_step rank at s) (list_all (own_step rank at) ss) own) held)

  pub gives_alike : (turns : ℕ) (k : KernelTerm) (r : List ℤ) → is_own rank at k ≡ true → HasIndex r index → Alike index (gives turns cs k r) (gives turns bs k r)
  gives_alike turns Over r own has = (refl, has)
  gives_alike turns (LineThen ss k) r own has =
      let line = list_all (own_step rank at) ss in
      then_alike index (line_gives cs ss r) (line_gives bs ss r) (gives turns cs k) (gives turns bs k) (line_alike ss r (and_left line (is_own rank at k) own) has)
      (λ u held. gives_alike turns k u (and_right line (is_own rank at k) own) held)
  gives_alike turns (IfThen c a b k) r own has =
      let branches = is_own rank at a && is_own rank at b in
      let both = and_left branches (is_own rank at k) own in
      then_alike index (if is_true (register r c) then gives turns cs a r else gives turns cs b r) (if is_true (register r c) then gives turns bs a r else gives turns bs b r) (gives turns cs k) (gives turns bs k)
      (if_alike index (is_true (register r c)) (gives turns cs a r) (gives turns bs a r) (gives turns cs b r) (gives turns bs b r)
      (gives_alike turns a r (and_left (is_own rank at a) (is_own rank at b) both) has) (gives_alike turns b r (and_right (is_own rank at a) (is_own rank at b) both) has))
      (λ u held. gives_alike turns k u (and_right branches (is_own rank at k) own) held)
  gives_alike turns (TurnsThen first test c body site k) r own has =
      let blocks = is_own rank at test && is_own rank at body in
      let both = and_left blocks (is_own rank at k) own in
      then_alike index (loop_gives first turns site (gives turns cs test) c (gives turns cs body) r) (loop_gives first turns site (gives turns bs test) c (gives turns bs body) r) (gives turns cs k) (gives turns bs k)
      (loop_alike index first turns site (gives turns cs test) (gives turns bs test) c (gives turns cs body) (gives turns bs body)
      (λ u held. gives_alike turns test u (and_left (is_own rank at test) (is_own rank at body) both) held) (λ u held. gives_alike turns body u (and_right (is_own rank at test) (is_own rank at body) both) held) r has)
      (λ u held. gives_alike turns k u (and_right blocks (is_own rank at k) own) held)
  gives_alike turns (EachThen i from to body k) r own has =
      let inner = nat_le rank i && is_own rank at body in
      let both = and_left inner (is_own rank at k) own in
      then_alike index (each_gives i (gives turns cs body) (numbers_between from to) r) (each_gives i (gives turns bs body) (numbers_between from to) r) (gives turns cs k) (gives turns bs k)
      (each_alike index i (gives turns cs body) (gives turns bs body) (le_to i (is_own rank at body) both)
      (λ u held. gives_alike turns body u (and_right (nat_le rank i) (is_own rank at body) both) held) (numbers_between from to) r has)
      (λ u held. gives_alike turns k u (and_right inner (is_own rank at k) own) held)
  gives_alike turns (BetweenThen i from low to high body site k) r own has =
      let inner = nat_le rank i && is_own rank at body in
      let both = and_left inner (is_own rank at k) own in
      let first = first_number low (register r from) in
      let last = end_number high (register r to) in
      then_alike index (between_gives i site (gives turns cs body) first last r) (between_gives i site (gives turns bs body) first last r) (gives turns cs k) (gives turns bs k)
      (if_alike index (nat_le (int_gap first last) MOST) (each_gives i (gives turns cs body) (numbers_between first last) r) (each_gives i (gives turns bs body) (numbers_between first last) r) (fault F8 site) (fault F8 site)
      (each_alike index i (gives turns cs body) (gives turns bs body) (le_to i (is_own rank at body) both)
      (λ u held. gives_alike turns body u (and_right (nat_le rank i) (is_own rank at body) both) held) (numbers_between first last) r has) (refl, tt))
      (λ u held. gives_alike turns k u (and_right inner (is_own rank at k) own) held)

pub gives_same : (turns rank at : ℕ) (k : KernelTerm) (index r : List ℤ) (bs cs : List ArrayValue) → is_own rank at k ≡ true → length index ≡ rank → HasIndex r index → SameAt at index bs cs → gives turns cs k r ≡ gives turns bs k r
gives_same turns rank at k index r bs cs own long has same = (gives_alike rank at index long bs cs same turns k r own has).0
