-- A predictive parser is exact.
use Rattle.std.proofs.Common.{ℕ, ◌≡◌, Bool, true, false, cond, not, ◌&&◌, ◌||◌, List, [], ◌∷◌, ◌++◌, ◌⊎◌, inl, inr, refl, sym, ap, ◌∙◌, subst, append_assoc, append-nil, eqb, arith}
use Rattle.std.proofs.lemmas.Bool.Decides.{nat_tests}
use Rattle.std.specs.List.{list_any, list_all}
use Rattle.std.specs.Str.{bytes_eq}
use Rattle.std.specs.Prelude.{◌==◌}
use Rattle.std.specs.Char.{is_ascii_alphabetic, is_ascii_digit}
use Rattle.sac_ast.specs.Texts.{Lexeme, is_name, is_number, is_end}
use Rattle.sac_ast.specs.Shape.{Terminal, text, name, number, end, matches, Shape, nothing, term, ref, seq, alt, many, Value, MatchesEach, Matches}
use Rattle.sac_grammar.specs.Run.{starts, is_nullable, first, RunsEach, SticksAfter, Runs, Sticks, SameFirst, clash, are_apart, extends, is_predictive}

pub false_true : {P : Type 0} → false ≡ true → P
false_true e = cc

pub and_left : (a b : Bool) → (a && b) ≡ true → a ≡ true
and_left true b e = refl
and_left false b e = false_true e

pub and_right : (a b : Bool) → (a && b) ≡ true → b ≡ true
and_right true b e = e
and_right false b e = false_true e

or_false_left : (a b : Bool) → (a || b) ≡ false → a ≡ false
or_false_left true b e = cc
or_false_left false b e = refl

or_false_right : (a b : Bool) → (a || b) ≡ false → b ≡ false
or_false_right true b e = cc
or_false_right false b e = e

pub or_cases : (a b : Bool) → (a || b) ≡ true → (a ≡ true) ⊎ (b ≡ true)
or_cases true b e = inl refl
or_cases false b e = inr e

pub or_true_left : (a b : Bool) → a ≡ true → (a || b) ≡ true
or_true_left true b e = refl
or_true_left false b e = false_true e

pub or_true_right : (a b : Bool) → b ≡ true → (a || b) ≡ true
or_true_right true b e = refl
or_true_right false b e = e

not_true : (a : Bool) → not a ≡ true → a ≡ false
not_true true e = false_true e
not_true false e = refl

pub cases : (b : Bool) → (b ≡ true) ⊎ (b ≡ false)
cases true = inl refl
cases false = inr refl

-- ---- lists of terminals

any_append : (x : Lexeme) (fs gs : List Terminal) → list_any (λ f. matches f x) (fs ++ gs) ≡ (list_any (λ f. matches f x) fs || list_any (λ f. matches f x) gs)
any_append x [] gs = refl
any_append x (f ∷ fs) gs = go (matches f x) _ _ _ (any_append x fs gs)
  where
    go : (a b c d : Bool) → b ≡ (c || d) → (a || b) ≡ ((a || c) || d)
    go true b c d e = refl
    go false b c d e = e

starts_left : (fs gs : List Terminal) (ts : List Lexeme) → starts (fs ++ gs) ts ≡ false → starts fs ts ≡ false
starts_left fs gs [] e = refl
starts_left fs gs (x ∷ ts) e = or_false_left _ (list_any (λ f. matches f x) gs) (sym (any_append x fs gs) ∙ e)

starts_right : (fs gs : List Terminal) (ts : List Lexeme) → starts (fs ++ gs) ts ≡ false → starts gs ts ≡ false
starts_right fs gs [] e = refl
starts_right fs gs (x ∷ ts) e = or_false_right (list_any (λ f. matches f x) fs) _ (sym (any_append x fs gs) ∙ e)

pub begins_left : (fs gs : List Terminal) (ts : List Lexeme) → starts fs ts ≡ true → starts (fs ++ gs) ts ≡ true
begins_left fs gs [] e = false_true e
begins_left fs gs (x ∷ ts) e = any_append x fs gs ∙ or_true_left _ (list_any (λ f. matches f x) gs) e

pub begins_right : (fs gs : List Terminal) (ts : List Lexeme) → starts gs ts ≡ true → starts (fs ++ gs) ts ≡ true
begins_right fs gs [] e = false_true e
begins_right fs gs (x ∷ ts) e = any_append x fs gs ∙ or_true_right (list_any (λ f. matches f x) fs) _ e

eqb_same : (a b : ℕ) → eqb a b ≡ true → a ≡ b
eqb_same a b e = grind (arith, nat_tests)

pub bytes_same : (a b : List ℕ) → bytes_eq a b ≡ true → a ≡ b
bytes_same [] [] e = refl
bytes_same [] (y ∷ b) e = false_true e
bytes_same (x ∷ a) [] e = false_true e
bytes_same (x ∷ a) (y ∷ b) e = λ i. eqb_same x y (and_left _ _ e) i ∷ bytes_same a b (and_right (eqb x y) _ e) i

eqb_refl : (a : ℕ) → eqb a a ≡ true
eqb_refl a = grind (arith, nat_tests)

pub bytes_refl : (a : List ℕ) → bytes_eq a a ≡ true
bytes_refl [] = refl
bytes_refl (x ∷ a) = ap (λ b. b && bytes_eq a a) (eqb_refl x) ∙ bytes_refl a

bytes_sym : (a b c : List ℕ) → bytes_eq a c ≡ true → bytes_eq b c ≡ true → bytes_eq a b ≡ true
bytes_sym a b c e f = subst (λ x. bytes_eq a x ≡ true) (bytes_same a c e ∙ sym (bytes_same b c f)) (bytes_refl a)

letter_no_digit : {P : Type 0} (c : ℕ) (b : Bool) → ((is_ascii_alphabetic c || c == 95) && b) ≡ true → is_ascii_digit c ≡ true → P
letter_no_digit c b l d = grind (arith, nat_tests)

-- a text of one kind is of no other
pub name_no_number : {P : Type 0} (t : List ℕ) → is_name t ≡ true → is_number t ≡ true → P
name_no_number [] p q = false_true p
name_no_number (c ∷ t) p q = letter_no_digit c _ p q

end_no_name : {P : Type 0} (t : List ℕ) → is_end t ≡ true → is_name t ≡ true → P
end_no_name [] p q = false_true q
end_no_name (c ∷ t) p q = false_true p

end_no_number : {P : Type 0} (t : List ℕ) → is_end t ≡ true → is_number t ≡ true → P
end_no_number [] p q = false_true q
end_no_number (c ∷ t) p q = false_true p

pub clash_text : (f g : Terminal) (x : Lexeme) → matches f x ≡ true → matches g x ≡ true → clash f g ≡ true
clash_text (text a) (text b) x p q = bytes_sym a b x.text p q
clash_text (text a) name x p q = subst (λ t. is_name t ≡ true) (sym (bytes_same a x.text p)) q
clash_text (text a) number x p q = subst (λ t. is_number t ≡ true) (sym (bytes_same a x.text p)) q
clash_text (text a) end x p q = subst (λ t. is_end t ≡ true) (sym (bytes_same a x.text p)) q
clash_text name (text b) x p q = subst (λ t. is_name t ≡ true) (sym (bytes_same b x.text q)) p
clash_text number (text b) x p q = subst (λ t. is_number t ≡ true) (sym (bytes_same b x.text q)) p
clash_text end (text b) x p q = subst (λ t. is_end t ≡ true) (sym (bytes_same b x.text q)) p
clash_text name name x p q = refl
clash_text number number x p q = refl
clash_text end end x p q = refl
clash_text name number x p q = name_no_number x.text p q
clash_text number name x p q = name_no_number x.text q p
clash_text name end x p q = end_no_name x.text q p
clash_text end name x p q = end_no_name x.text p q
clash_text number end x p q = end_no_number x.text q p
clash_text end number x p q = end_no_number x.text p q

not_in : (gs : List Terminal) (f : Terminal) (x : Lexeme) → list_all (λ b. not (clash f b)) gs ≡ true → matches f x ≡ true → list_any (λ g. matches g x) gs ≡ false
not_in [] f x apart m = refl
not_in (g ∷ gs) f x apart m =
    let here : matches g x ≡ false = elim (cases (matches g x)) [
      | inl is ↦ false_true (sym (not_true _ (and_left _ _ apart)) ∙ clash_text f g x m is)
      | inr isnt ↦ isnt
    ] in
    ap (λ b. b || list_any (λ h. matches h x) gs) here ∙ not_in gs f x (and_right (not (clash f g)) _ apart) m

-- a token that begins the one does not begin the other
pub apart_not : (fs gs : List Terminal) (ts : List Lexeme) → are_apart fs gs ≡ true → starts fs ts ≡ true → starts gs ts ≡ false
apart_not fs gs [] apart s = refl
apart_not [] gs (x ∷ ts) apart s = false_true s
apart_not (f ∷ fs) gs (x ∷ ts) apart s =
    elim (or_cases (matches f x) _ s) [
      | inl here ↦ not_in gs f x (and_left _ _ apart) here
      | inr later ↦ apart_not fs gs (x ∷ ts) (and_right (list_all (λ b. not (clash f b)) gs) _ apart) later
    ]

apart_not_back : (fs gs : List Terminal) (ts : List Lexeme) → are_apart fs gs ≡ true → starts gs ts ≡ true → starts fs ts ≡ false
apart_not_back fs gs ts apart s =
    elim (cases (starts fs ts)) [
      | inl is ↦ false_true (sym (apart_not fs gs ts apart is) ∙ s)
      | inr isnt ↦ isnt
    ]

nil_both : (u w : List Lexeme) → [] ≡ u ++ w → (u ≡ []) × (w ≡ [])
nil_both [] w e = (refl, sym e)
nil_both (x ∷ u) w e = cc

both_nil : (ts u w : List Lexeme) → ts ≡ u ++ w → u ≡ [] → w ≡ [] → ts ≡ []
both_nil ts u w e p q = e ∙ (λ i. p i ++ q i)

-- ---- what a phrase begins with

abbrev pub Begins : Bool → List Terminal → List Lexeme → Type 0
Begins null fs ts = ((ts ≡ []) × (null ≡ true)) ⊎ ((z : List Lexeme) → starts fs (ts ++ z) ≡ true)

and_both : (a b : Bool) → a ≡ true → b ≡ true → (a && b) ≡ true
and_both true b e f = f
and_both false b e f = false_true e

pick : (b : Bool) (gs : List Terminal) → b ≡ true → cond b gs [] ≡ gs
pick true gs e = refl
pick false gs e = false_true e

regroup : (ts u w z : List Lexeme) → ts ≡ u ++ w → u ++ (w ++ z) ≡ ts ++ z
regroup ts u w z e = sym (append_assoc u w z) ∙ ap (λ l. l ++ z) (sym e)

begins_each : {V : Type 0} (P : List Lexeme → V → Type 0) (null : Bool) (fs : List Terminal) → ((ts : List Lexeme) (v : V) → P ts v → Begins null fs ts) → (ts : List Lexeme) (vs : List V) → MatchesEach P ts vs → Begins true fs ts
begins_each P null fs H ts [] m = inl (m, refl)
begins_each P null fs H ts (v ∷ vs) (u, w, e, p, q) =
    elim (H u v p) [
      | inl h ↦ elim (begins_each P null fs H w vs q) [
        | inl g ↦ inl (both_nil ts u w e h.0 g.0, refl)
        | inr f ↦ inr (λ z. subst (λ l. starts fs l ≡ true) (ap (λ l. l ++ (w ++ z)) (sym h.0) ∙ regroup ts u w z e) (f z))
      ]
      | inr f ↦ inr (λ z. subst (λ l. starts fs l ≡ true) (regroup ts u w z e) (f (w ++ z)))
    ]

module _ {N : Type 0} (Tree : N → Type 0) (first_of ext_of : N → List Terminal) where
  pub begins : (R : (k : N) → List Lexeme → Tree k → Type 0) → ((k : N) (ts : List Lexeme) (v : Tree k) → R k ts v → (z : List Lexeme) → starts (first_of k) (ts ++ z) ≡ true) → (s : Shape N) (ts : List Lexeme) (v : Value Tree s) → Matches Tree R s ts v → Begins (is_nullable s) (first first_of s) ts
  begins R H nothing ts v m = inl (m, refl)
  begins R H (term t) ts v m = inr (λ z. subst (λ l. starts (t ∷ []) (l ++ z) ≡ true) (sym m.0) (or_true_left (matches t v) false m.1))
  begins R H (ref k) ts v m = inr (H k ts v m)
  begins R H (seq a b) ts v (u, w, e, p, q) =
      elim (begins R H a u v.0 p) [
        | inl h ↦ elim (begins R H b w v.1 q) [
          | inl g ↦ inl (both_nil ts u w e h.0 g.0, and_both _ _ h.1 g.1)
          | inr f ↦ inr (λ z. begins_right (first first_of a) _ (ts ++ z) (subst (λ gs. starts gs (ts ++ z) ≡ true) (sym (pick (is_nullable a) (first first_of b) h.1)) (subst (λ l. starts (first first_of b) l ≡ true) (ap (λ l. l ++ (w ++ z)) (sym h.0) ∙ regroup ts u w z e) (f z))))
        ]
        | inr f ↦ inr (λ z. begins_left (first first_of a) _ (ts ++ z) (subst (λ l. starts (first first_of a) l ≡ true) (regroup ts u w z e) (f (w ++ z))))
      ]
  begins R H (alt a b) ts (inl v) m =
      elim (begins R H a ts v m) [
        | inl h ↦ inl (h.0, or_true_left _ (is_nullable b) h.1)
        | inr f ↦ inr (λ z. begins_left (first first_of a) (first first_of b) (ts ++ z) (f z))
      ]
  begins R H (alt a b) ts (inr v) m =
      elim (begins R H b ts v m) [
        | inl h ↦ inl (h.0, or_true_right (is_nullable a) _ h.1)
        | inr f ↦ inr (λ z. begins_right (first first_of a) (first first_of b) (ts ++ z) (f z))
      ]
  begins R H (many a) ts vs m = begins_each (Matches Tree R a) (is_nullable a) (first first_of a) (begins R H a) ts vs m

-- ---- each phrase is read, where no token follows that could extend it

not_nullable : (b : Bool) {P : Type 0} → not b ≡ true → b ≡ true → P
not_nullable true n e = false_true n
not_nullable false n e = false_true e

each_read : {V : Type 0} (P : List Lexeme → V → Type 0) (Q : List Lexeme → V → List Lexeme → Type 0) (fs xs : List Terminal) → are_apart xs fs ≡ true → ((ts : List Lexeme) (v : V) → P ts v → (z : List Lexeme) → starts fs (ts ++ z) ≡ true) → ((w : List Lexeme) (v : V) (z : List Lexeme) → P w v → starts xs z ≡ false → Q (w ++ z) v z) → (ts : List Lexeme) (vs : List V) (z : List Lexeme) → MatchesEach P ts vs → starts (fs ++ xs) z ≡ false → RunsEach fs Q (ts ++ z) vs z
each_read P Q fs xs apart H E ts [] z m follow = (sym (ap (λ l. l ++ z) m), subst (λ l. starts fs (l ++ z) ≡ false) (sym m) (starts_left fs xs z follow))
each_read P Q fs xs apart H E ts (v ∷ vs) z (u, w, e, p, q) follow =
    let after : starts xs (w ++ z) ≡ false = elim (begins_each P false fs (λ t x m. inr (H t x m)) w vs q) [
      | inl h ↦ subst (λ l. starts xs (l ++ z) ≡ false) (sym h.0) (starts_right fs xs z follow)
      | inr f ↦ apart_not_back xs fs (w ++ z) apart (f z)
    ] in
    (subst (λ l. starts fs l ≡ true) (regroup ts u w z e) (H u v p (w ++ z)), (w ++ z, subst (λ l. Q l v (w ++ z)) (regroup ts u w z e) (E u v (w ++ z) p after), each_read P Q fs xs apart H E w vs z q follow))

pub begins_there : (null : Bool) (fs : List Terminal) (ts : List Lexeme) → not null ≡ true → Begins null fs ts → (z : List Lexeme) → starts fs (ts ++ z) ≡ true
begins_there null fs ts n (inl h) z = not_nullable null n h.1
begins_there null fs ts n (inr f) z = f z

module _ {N : Type 0} (Tree : N → Type 0) (first_of ext_of : N → List Terminal) where
  pub reads_shape : (R : (k : N) → List Lexeme → Tree k → Type 0) (Q : (k : N) → List Lexeme → Tree k → List Lexeme → Type 0) → ((k : N) (ts : List Lexeme) (v : Tree k) → R k ts v → (z : List Lexeme) → starts (first_of k) (ts ++ z) ≡ true) → ((k : N) (w : List Lexeme) (v : Tree k) (z : List Lexeme) → R k w v → starts (ext_of k) z ≡ false → Q k (w ++ z) v z) → (s : Shape N) → is_predictive first_of ext_of s ≡ true → (w : List Lexeme) (v : Value Tree s) (z : List Lexeme) → Matches Tree R s w v → starts (extends first_of ext_of s) z ≡ false → Runs Tree first_of Q s (w ++ z) v z
  reads_shape R Q H E nothing ok w v z m follow = sym (ap (λ l. l ++ z) m)
  reads_shape R Q H E (term t) ok w v z m follow = (ap (λ l. l ++ z) m.0, m.1)
  reads_shape R Q H E (ref k) ok w v z m follow = E k w v z m follow
  reads_shape R Q H E (seq a b) ok ts v z (u, w, e, p, q) follow =
      let ok_a = and_left (is_predictive first_of ext_of a) _ ok in
      let ok_rest = and_right (is_predictive first_of ext_of a) _ ok in
      let ok_b = and_left (is_predictive first_of ext_of b) _ ok_rest in
      let apart = and_right (is_predictive first_of ext_of b) _ ok_rest in
      let xs = extends first_of ext_of a in
      let ys = extends first_of ext_of b in
      let after : starts xs (w ++ z) ≡ false = elim (begins Tree first_of ext_of R H b w v.1 q) [
        | inl h ↦ subst (λ l. starts xs (l ++ z) ≡ false) (sym h.0) (subst (λ gs. starts gs z ≡ false) (pick (is_nullable b) xs h.1) (starts_right ys (cond (is_nullable b) xs []) z follow))
        | inr f ↦ apart_not_back xs (first first_of b) (w ++ z) apart (f z)
      ] in
      (w ++ z, subst (λ l. Runs Tree first_of Q a l v.0 (w ++ z)) (regroup ts u w z e) (reads_shape R Q H E a ok_a u v.0 (w ++ z) p after), reads_shape R Q H E b ok_b w v.1 z q (starts_left ys (cond (is_nullable b) xs []) z follow))
  reads_shape R Q H E (alt a b) ok ts (inl v) z m follow =
      let ok_a = and_left (is_predictive first_of ext_of a) (is_predictive first_of ext_of b) (and_left _ (not (is_nullable a) && are_apart (first first_of a) (first first_of b)) ok) in
      let some = and_left (not (is_nullable a)) _ (and_right (is_predictive first_of ext_of a && is_predictive first_of ext_of b) _ ok) in
      (begins_there (is_nullable a) (first first_of a) ts some (begins Tree first_of ext_of R H a ts v m) z, reads_shape R Q H E a ok_a ts v z m (starts_left (extends first_of ext_of a) _ z follow))
  reads_shape R Q H E (alt a b) ok ts (inr v) z m follow =
      let ok_b = and_right (is_predictive first_of ext_of a) (is_predictive first_of ext_of b) (and_left _ (not (is_nullable a) && are_apart (first first_of a) (first first_of b)) ok) in
      let apart = and_right (not (is_nullable a)) _ (and_right (is_predictive first_of ext_of a && is_predictive first_of ext_of b) _ ok) in
      let fs = first first_of a in
      let ys = extends first_of ext_of b in
      let later = starts_right (extends first_of ext_of a) (ys ++ cond (is_nullable b) fs []) z follow in
      let other : starts fs (ts ++ z) ≡ false = elim (begins Tree first_of ext_of R H b ts v m) [
        | inl h ↦ subst (λ l. starts fs (l ++ z) ≡ false) (sym h.0) (subst (λ gs. starts gs z ≡ false) (pick (is_nullable b) fs h.1) (starts_right ys (cond (is_nullable b) fs []) z later))
        | inr f ↦ apart_not_back fs (first first_of b) (ts ++ z) apart (f z)
      ] in
      (other, reads_shape R Q H E b ok_b ts v z m (starts_left ys (cond (is_nullable b) fs []) z later))
  reads_shape R Q H E (many a) ok ts vs z m follow =
      let ok_a = and_left (is_predictive first_of ext_of a) _ ok in
      let ok_rest = and_right (is_predictive first_of ext_of a) _ ok in
      let some = and_left (not (is_nullable a)) _ ok_rest in
      let apart = and_right (not (is_nullable a)) _ ok_rest in
      each_read (Matches Tree R a) (Runs Tree first_of Q a) (first first_of a) (extends first_of ext_of a) apart
      (λ t x h y. begins_there (is_nullable a) (first first_of a) t some (begins Tree first_of ext_of R H a t x h) y)
      (λ t x y h f. reads_shape R Q H E a ok_a t x y h f) ts vs z m follow

-- ---- a run has one end

pub record SameEnd {V : Type 0} (v w : V) (r q : List Lexeme) : Type 0 where
  pub value : v ≡ w
  pub rest : r ≡ q

cons_head : (x y : Lexeme) (xs ys : List Lexeme) → (x ∷ xs) ≡ (y ∷ ys) → x ≡ y
cons_head x y xs ys e = cc

cons_tail : (x y : Lexeme) (xs ys : List Lexeme) → (x ∷ xs) ≡ (y ∷ ys) → xs ≡ ys
cons_tail x y xs ys e = cc

same_each : {V : Type 0} (fs : List Terminal) (P Q : List Lexeme → V → List Lexeme → Type 0) → ((ts : List Lexeme) (v w : V) (r q : List Lexeme) → P ts v r → Q ts w q → SameEnd v w r q) → (ts : List Lexeme) (vs ws : List V) (r q : List Lexeme) → RunsEach fs P ts vs r → RunsEach fs Q ts ws q → SameEnd vs ws r q
same_each fs P Q D ts [] [] r q p o = record { value = refl; rest = p.0 ∙ sym o.0 }
same_each fs P Q D ts [] (w ∷ ws) r q p o = false_true (sym p.1 ∙ o.0)
same_each fs P Q D ts (v ∷ vs) [] r q p o = false_true (sym o.1 ∙ p.0)
same_each fs P Q D ts (v ∷ vs) (w ∷ ws) r q p o =
    let one = D ts v w p.1.0 o.1.0 p.1.1 o.1.1 in
    let more = same_each fs P Q D o.1.0 vs ws r q (subst (λ l. RunsEach fs P l vs r) one.rest p.1.2) o.1.2 in
    record { value = λ i. one.value i ∷ more.value i; rest = more.rest }

module _ {N : Type 0} (Tree : N → Type 0) (first_of : N → List Terminal) where
  pub same_run : (P Q : (k : N) → List Lexeme → Tree k → List Lexeme → Type 0) → ((k : N) (ts : List Lexeme) (v w : Tree k) (r q : List Lexeme) → P k ts v r → Q k ts w q → SameEnd v w r q) → (s : Shape N) (ts : List Lexeme) (v w : Value Tree s) (r q : List Lexeme) → Runs Tree first_of P s ts v r → Runs Tree first_of Q s ts w q → SameEnd v w r q
  same_run P Q D nothing ts v w r q p o = record { value = refl; rest = p ∙ sym o }
  same_run P Q D (term t) ts v w r q p o = let e = sym p.0 ∙ o.0 in record { value = cons_head v w r q e; rest = cons_tail v w r q e }
  same_run P Q D (ref k) ts v w r q p o = D k ts v w r q p o
  same_run P Q D (seq a b) ts v w r q p o =
      let one = same_run P Q D a ts v.0 w.0 p.0 o.0 p.1 o.1 in
      let two = same_run P Q D b o.0 v.1 w.1 r q (subst (λ l. Runs Tree first_of P b l v.1 r) one.rest p.2) o.2 in
      record { value = λ i. (one.value i, two.value i); rest = two.rest }
  same_run P Q D (alt a b) ts (inl v) (inl w) r q p o = let one = same_run P Q D a ts v w r q p.1 o.1 in record { value = λ i. inl (one.value i); rest = one.rest }
  same_run P Q D (alt a b) ts (inl v) (inr w) r q p o = false_true (sym o.0 ∙ p.0)
  same_run P Q D (alt a b) ts (inr v) (inl w) r q p o = false_true (sym p.0 ∙ o.0)
  same_run P Q D (alt a b) ts (inr v) (inr w) r q p o = let one = same_run P Q D b ts v w r q p.1 o.1 in record { value = λ i. inr (one.value i); rest = one.rest }
  same_run P Q D (many a) ts vs ws r q p o = same_each (first first_of a) (Runs Tree first_of P a) (Runs Tree first_of Q a) (same_run P Q D a) ts vs ws r q p o

-- ---- a run that ends does not get stuck

only_each : {V : Type 0} (fs : List Terminal) (P Q : List Lexeme → V → List Lexeme → Type 0) (S : List Lexeme → List Lexeme → Type 0) → ((ts : List Lexeme) (v w : V) (r q : List Lexeme) → P ts v r → Q ts w q → SameEnd v w r q) → ((ts : List Lexeme) (v : V) (r q : List Lexeme) → P ts v r → S ts q → ⊥) → (ts : List Lexeme) (vs ws : List V) (r q : List Lexeme) → RunsEach fs P ts vs r → SticksAfter fs Q S ts ws q → ⊥
only_each fs P Q S D O ts [] [] r q p o = false_true (sym p.1 ∙ o.0)
only_each fs P Q S D O ts [] (w ∷ ws) r q p o = false_true (sym p.1 ∙ o.0)
only_each fs P Q S D O ts (v ∷ vs) [] r q p o = O ts v p.1.0 q p.1.1 o.1
only_each fs P Q S D O ts (v ∷ vs) (w ∷ ws) r q p o =
    let one = D ts v w p.1.0 o.1.0 p.1.1 o.1.1 in
    only_each fs P Q S D O o.1.0 vs ws r q (subst (λ l. RunsEach fs P l vs r) one.rest p.1.2) o.1.2

module _ {N : Type 0} (Tree : N → Type 0) (first_of : N → List Terminal) where
  pub only_run : (P Q : (k : N) → List Lexeme → Tree k → List Lexeme → Type 0) (S : (k : N) → List Lexeme → List Lexeme → Type 0) → ((k : N) (ts : List Lexeme) (v w : Tree k) (r q : List Lexeme) → P k ts v r → Q k ts w q → SameEnd v w r q) → ((k : N) (ts : List Lexeme) (v : Tree k) (r q : List Lexeme) → P k ts v r → S k ts q → ⊥) → (s : Shape N) (ts : List Lexeme) (v : Value Tree s) (r q : List Lexeme) → Runs Tree first_of P s ts v r → Sticks Tree first_of Q S s ts q → ⊥
  only_run P Q S D O nothing ts v r q p o = o
  only_run P Q S D O (term t) ts v r q p o = let e : starts (t ∷ []) (v ∷ r) ≡ false = subst (λ l. starts (t ∷ []) l ≡ false) p.0 o.1 in false_true (sym (or_false_left (matches t v) false e) ∙ p.1)
  only_run P Q S D O (ref k) ts v r q p o = O k ts v r q p o
  only_run P Q S D O (seq a b) ts v r q p (inl o) = only_run P Q S D O a ts v.0 p.0 q p.1 o
  only_run P Q S D O (seq a b) ts v r q p (inr o) =
      let one = same_run Tree first_of P Q D a ts v.0 o.0 p.0 o.1 p.1 o.2 in
      only_run P Q S D O b o.1 v.1 r q (subst (λ l. Runs Tree first_of P b l v.1 r) one.rest p.2) o.3
  only_run P Q S D O (alt a b) ts (inl v) r q p (inl o) = only_run P Q S D O a ts v r q p.1 o.1
  only_run P Q S D O (alt a b) ts (inl v) r q p (inr o) = false_true (sym o.0 ∙ p.0)
  only_run P Q S D O (alt a b) ts (inr v) r q p (inl o) = false_true (sym p.0 ∙ o.0)
  only_run P Q S D O (alt a b) ts (inr v) r q p (inr o) = only_run P Q S D O b ts v r q p.1 o.1
  only_run P Q S D O (many a) ts vs r q p o = only_each (first first_of a) (Runs Tree first_of P a) (Runs Tree first_of Q a) (Sticks Tree first_of Q S a) (same_run Tree first_of P Q D a) (only_run P Q S D O a) ts vs o.0 r q p o.1

-- ---- what follows the first token of the rest does not matter

pub starts_same : (fs : List Terminal) (r q : List Lexeme) → SameFirst r q → starts fs r ≡ starts fs q
starts_same fs [] [] e = refl
starts_same fs [] (y ∷ q) e = absurd e
starts_same fs (x ∷ r) [] e = absurd e
starts_same fs (x ∷ r) (y ∷ q) e = ap (λ z. list_any (λ f. matches f z) fs) e

pub same_behind : (u r q : List Lexeme) → SameFirst r q → SameFirst (u ++ r) (u ++ q)
same_behind [] r q e = e
same_behind (x ∷ u) r q e = refl

abbrev pub Stable : (List Lexeme → List Lexeme → Type 0) → List Lexeme → List Lexeme → Type 0
Stable P ts r = (u : List Lexeme) × (ts ≡ u ++ r) × ((q : List Lexeme) → SameFirst r q → P (u ++ q) q)

-- one stable part behind another
pub stable_seq : (P Q R : List Lexeme → List Lexeme → Type 0) (ts mid r : List Lexeme) → ((xs m ys : List Lexeme) → P xs m → Q m ys → R xs ys) → Stable P ts mid → Stable Q mid r → Stable R ts r
stable_seq P Q R ts mid r join a b = (
  a.0 ++ b.0,
  a.1 ∙ ap (λ l. a.0 ++ l) b.1 ∙ sym (append_assoc a.0 b.0 r),
  λ q e.
      let p = a.2 (b.0 ++ q) (subst (λ l. SameFirst l (b.0 ++ q)) (sym b.1) (same_behind b.0 r q e)) in
      subst (λ l. R l q) (sym (append_assoc a.0 b.0 q)) (join (a.0 ++ (b.0 ++ q)) (b.0 ++ q) q p (b.2 q e)),
)

pub stable_test : (P Q : List Lexeme → List Lexeme → Type 0) (fs : List Terminal) (b : Bool) (ts r : List Lexeme) → starts fs ts ≡ b → ((xs ys : List Lexeme) → starts fs xs ≡ b → P xs ys → Q xs ys) → Stable P ts r → Stable Q ts r
stable_test P Q fs b ts r s with' a =
    (a.0, a.1, λ q e. with' (a.0 ++ q) q (sym (starts_same fs (a.0 ++ r) (a.0 ++ q) (same_behind a.0 r q e)) ∙ ap (starts fs) (sym a.1) ∙ s) (a.2 q e))

stable_end : (P : List Lexeme → List Lexeme → Type 0) (ts r : List Lexeme) → r ≡ ts → ((q : List Lexeme) → SameFirst r q → P q q) → Stable P ts r
stable_end P ts r e f = ([], sym e, f)

stable_each : {V : Type 0} (fs : List Terminal) (P Q : List Lexeme → V → List Lexeme → Type 0) → ((ts : List Lexeme) (v : V) (r : List Lexeme) → P ts v r → Stable (λ xs ys. Q xs v ys) ts r) → (ts : List Lexeme) (vs : List V) (r : List Lexeme) → RunsEach fs P ts vs r → Stable (λ xs ys. RunsEach fs Q xs vs ys) ts r
stable_each fs P Q D ts [] r p = stable_end (λ xs ys. RunsEach fs Q xs [] ys) ts r p.0 (λ q e. (refl, sym (starts_same fs r q e) ∙ ap (starts fs) p.0 ∙ p.1))
stable_each fs P Q D ts (v ∷ vs) r p =
    stable_test (λ xs ys. (m : List Lexeme) × Q xs v m × RunsEach fs Q m vs ys) (λ xs ys. RunsEach fs Q xs (v ∷ vs) ys) fs true ts r p.0 (λ xs ys s h. (s, h))
    (stable_seq (λ xs ys. Q xs v ys) (λ xs ys. RunsEach fs Q xs vs ys) (λ xs ys. (m : List Lexeme) × Q xs v m × RunsEach fs Q m vs ys) ts p.1.0 r (λ xs m ys a b. (m, a, b)) (D ts v p.1.0 p.1.1) (stable_each fs P Q D p.1.0 vs r p.1.2))

module _ {N : Type 0} (Tree : N → Type 0) (first_of : N → List Terminal) where
  pub stable_run : (P Q : (k : N) → List Lexeme → Tree k → List Lexeme → Type 0) → ((k : N) (ts : List Lexeme) (v : Tree k) (r : List Lexeme) → P k ts v r → Stable (λ xs ys. Q k xs v ys) ts r) → (s : Shape N) (ts : List Lexeme) (v : Value Tree s) (r : List Lexeme) → Runs Tree first_of P s ts v r → Stable (λ xs ys. Runs Tree first_of Q s xs v ys) ts r
  stable_run P Q D nothing ts v r p = stable_end (λ xs ys. ys ≡ xs) ts r p (λ q e. refl)
  stable_run P Q D (term t) ts v r p = (v ∷ [], p.0, λ q e. (refl, p.1))
  stable_run P Q D (ref k) ts v r p = D k ts v r p
  stable_run P Q D (seq a b) ts v r p =
      stable_seq (λ xs ys. Runs Tree first_of Q a xs v.0 ys) (λ xs ys. Runs Tree first_of Q b xs v.1 ys) (λ xs ys. Runs Tree first_of Q (seq a b) xs v ys) ts p.0 r (λ xs m ys x y. (m, x, y)) (stable_run P Q D a ts v.0 p.0 p.1) (stable_run P Q D b p.0 v.1 r p.2)
  stable_run P Q D (alt a b) ts (inl v) r p =
      stable_test (λ xs ys. Runs Tree first_of Q a xs v ys) (λ xs ys. Runs Tree first_of Q (alt a b) xs (inl v) ys) (first first_of a) true ts r p.0 (λ xs ys s h. (s, h)) (stable_run P Q D a ts v r p.1)
  stable_run P Q D (alt a b) ts (inr v) r p =
      stable_test (λ xs ys. Runs Tree first_of Q b xs v ys) (λ xs ys. Runs Tree first_of Q (alt a b) xs (inr v) ys) (first first_of a) false ts r p.0 (λ xs ys s h. (s, h)) (stable_run P Q D b ts v r p.1)
  stable_run P Q D (many a) ts vs r p = stable_each (first first_of a) (Runs Tree first_of P a) (Runs Tree first_of Q a) (stable_run P Q D a) ts vs r p

pub stuck_each : {V : Type 0} (fs : List Terminal) (P Q : List Lexeme → V → List Lexeme → Type 0) (S T : List Lexeme → List Lexeme → Type 0) → ((ts : List Lexeme) (v : V) (r : List Lexeme) → P ts v r → Stable (λ xs ys. Q xs v ys) ts r) → ((ts r : List Lexeme) → S ts r → Stable T ts r) → (ts : List Lexeme) (vs : List V) (r : List Lexeme) → SticksAfter fs P S ts vs r → Stable (λ xs ys. SticksAfter fs Q T xs vs ys) ts r
stuck_each fs P Q S T D E ts [] r p =
    stable_test T (λ xs ys. SticksAfter fs Q T xs [] ys) fs true ts r p.0 (λ xs ys s h. (s, h)) (E ts r p.1)
stuck_each fs P Q S T D E ts (v ∷ vs) r p =
    stable_test (λ xs ys. (m : List Lexeme) × Q xs v m × SticksAfter fs Q T m vs ys) (λ xs ys. SticksAfter fs Q T xs (v ∷ vs) ys) fs true ts r p.0 (λ xs ys s h. (s, h))
    (stable_seq (λ xs ys. Q xs v ys) (λ xs ys. SticksAfter fs Q T xs vs ys) (λ xs ys. (m : List Lexeme) × Q xs v m × SticksAfter fs Q T m vs ys) ts p.1.0 r (λ xs m ys a b. (m, a, b)) (D ts v p.1.0 p.1.1) (stuck_each fs P Q S T D E p.1.0 vs r p.1.2))

pub stable_map : (P Q : List Lexeme → List Lexeme → Type 0) (ts r : List Lexeme) → ((xs ys : List Lexeme) → P xs ys → Q xs ys) → Stable P ts r → Stable Q ts r
stable_map P Q ts r f a = (a.0, a.1, λ q e. f (a.0 ++ q) q (a.2 q e))

module _ {N : Type 0} (Tree : N → Type 0) (first_of : N → List Terminal) where
  pub stable_stick : (P Q : (k : N) → List Lexeme → Tree k → List Lexeme → Type 0) (S T : (k : N) → List Lexeme → List Lexeme → Type 0) → ((k : N) (ts : List Lexeme) (v : Tree k) (r : List Lexeme) → P k ts v r → Stable (λ xs ys. Q k xs v ys) ts r) → ((k : N) (ts r : List Lexeme) → S k ts r → Stable (T k) ts r) → (s : Shape N) (ts r : List Lexeme) → Sticks Tree first_of P S s ts r → Stable (Sticks Tree first_of Q T s) ts r
  stable_stick P Q S T D E nothing ts r p = absurd p
  stable_stick P Q S T D E (term t) ts r p = stable_end (Sticks Tree first_of Q T (term t)) ts r p.0 (λ q e. (refl, sym (starts_same (t ∷ []) r q e) ∙ ap (starts (t ∷ [])) p.0 ∙ p.1))
  stable_stick P Q S T D E (ref k) ts r p = E k ts r p
  stable_stick P Q S T D E (seq a b) ts r (inl p) = stable_map (Sticks Tree first_of Q T a) (Sticks Tree first_of Q T (seq a b)) ts r (λ xs ys h. inl h) (stable_stick P Q S T D E a ts r p)
  stable_stick P Q S T D E (seq a b) ts r (inr p) =
      stable_seq (λ xs ys. Runs Tree first_of Q a xs p.0 ys) (Sticks Tree first_of Q T b) (Sticks Tree first_of Q T (seq a b)) ts p.1 r (λ xs m ys x y. inr (p.0, m, x, y)) (stable_run Tree first_of P Q D a ts p.0 p.1 p.2) (stable_stick P Q S T D E b p.1 r p.3)
  stable_stick P Q S T D E (alt a b) ts r (inl p) =
      stable_test (Sticks Tree first_of Q T a) (Sticks Tree first_of Q T (alt a b)) (first first_of a) true ts r p.0 (λ xs ys s h. inl (s, h)) (stable_stick P Q S T D E a ts r p.1)
  stable_stick P Q S T D E (alt a b) ts r (inr p) =
      stable_test (Sticks Tree first_of Q T b) (Sticks Tree first_of Q T (alt a b)) (first first_of a) false ts r p.0 (λ xs ys s h. inr (s, h)) (stable_stick P Q S T D E b ts r p.1)
  stable_stick P Q S T D E (many a) ts r p =
      stable_map (λ xs ys. SticksAfter (first first_of a) (Runs Tree first_of Q a) (Sticks Tree first_of Q T a) xs p.0 ys) (Sticks Tree first_of Q T (many a)) ts r (λ xs ys h. (p.0, h))
      (stuck_each (first first_of a) (Runs Tree first_of P a) (Runs Tree first_of Q a) (Sticks Tree first_of P S a) (Sticks Tree first_of Q T a) (stable_run Tree first_of P Q D a) (stable_stick P Q S T D E a) ts p.0 r p.1)

-- ---- what was read is a phrase, and what was read before a stuck token begins one

abbrev pub Sound : {V : Type 0} → (List Lexeme → V → Type 0) → List Lexeme → V → List Lexeme → Type 0
Sound R ts v r = (w : List Lexeme) × (ts ≡ w ++ r) × R w v

sound_each : {V : Type 0} (fs : List Terminal) (P : List Lexeme → V → List Lexeme → Type 0) (R : List Lexeme → V → Type 0) → ((ts : List Lexeme) (v : V) (r : List Lexeme) → P ts v r → Sound R ts v r) → (ts : List Lexeme) (vs : List V) (r : List Lexeme) → RunsEach fs P ts vs r → Sound (MatchesEach R) ts vs r
sound_each fs P R D ts [] r p = ([], sym p.0, refl)
sound_each fs P R D ts (v ∷ vs) r p =
    let one = D ts v p.1.0 p.1.1 in
    let more = sound_each fs P R D p.1.0 vs r p.1.2 in
    (one.0 ++ more.0, one.1 ∙ ap (λ l. one.0 ++ l) more.1 ∙ sym (append_assoc one.0 more.0 r), (one.0, more.0, refl, one.2, more.2))

abbrev pub Begun : {V : Type 0} → (List Lexeme → V → Type 0) → List Lexeme → List Lexeme → Type 0
Begun {V} R ts r = (u : List Lexeme) × (ts ≡ u ++ r) × ((w : List Lexeme) × (v : V) × R (u ++ w) v)

pub begun_each : {V : Type 0} (fs : List Terminal) (P : List Lexeme → V → List Lexeme → Type 0) (S : List Lexeme → List Lexeme → Type 0) (R : List Lexeme → V → Type 0) → ((ts : List Lexeme) (v : V) (r : List Lexeme) → P ts v r → Sound R ts v r) → ((ts r : List Lexeme) → S ts r → Begun R ts r) → (ts : List Lexeme) (vs : List V) (r : List Lexeme) → SticksAfter fs P S ts vs r → Begun (MatchesEach R) ts r
begun_each fs P S R D E ts [] r p =
    let b = E ts r p.1 in
    (b.0, b.1, (b.2.0, b.2.1 ∷ [], (b.0 ++ b.2.0, [], sym (append-nil (b.0 ++ b.2.0)), b.2.2, refl)))
begun_each fs P S R D E ts (v ∷ vs) r p =
    let one = D ts v p.1.0 p.1.1 in
    let b = begun_each fs P S R D E p.1.0 vs r p.1.2 in
    (one.0 ++ b.0, one.1 ∙ ap (λ l. one.0 ++ l) b.1 ∙ sym (append_assoc one.0 b.0 r), (b.2.0, v ∷ b.2.1, (one.0, b.0 ++ b.2.0, append_assoc one.0 b.0 b.2.0, one.2, b.2.2)))

pub sample_token : (t : Terminal) → (x : Lexeme) × (matches t x ≡ true)
sample_token (text bytes) = (record { text = bytes; site = record { line = 1; col = 1 } }, bytes_refl bytes)
sample_token name = (record { text = 97 ∷ []; site = record { line = 1; col = 1 } }, refl)
sample_token number = (record { text = 48 ∷ []; site = record { line = 1; col = 1 } }, refl)
sample_token end = (record { text = []; site = record { line = 1; col = 1 } }, refl)

module _ {N : Type 0} (Tree : N → Type 0) (first_of : N → List Terminal) where
  pub sound_run : (P : (k : N) → List Lexeme → Tree k → List Lexeme → Type 0) (R : (k : N) → List Lexeme → Tree k → Type 0) → ((k : N) (ts : List Lexeme) (v : Tree k) (r : List Lexeme) → P k ts v r → Sound (R k) ts v r) → (s : Shape N) (ts : List Lexeme) (v : Value Tree s) (r : List Lexeme) → Runs Tree first_of P s ts v r → Sound (Matches Tree R s) ts v r
  sound_run P R D nothing ts v r p = ([], sym p, refl)
  sound_run P R D (term t) ts v r p = (v ∷ [], p.0, (refl, p.1))
  sound_run P R D (ref k) ts v r p = D k ts v r p
  sound_run P R D (seq a b) ts v r p =
      let one = sound_run P R D a ts v.0 p.0 p.1 in
      let two = sound_run P R D b p.0 v.1 r p.2 in
      (one.0 ++ two.0, one.1 ∙ ap (λ l. one.0 ++ l) two.1 ∙ sym (append_assoc one.0 two.0 r), (one.0, two.0, refl, one.2, two.2))
  sound_run P R D (alt a b) ts (inl v) r p = sound_run P R D a ts v r p.1
  sound_run P R D (alt a b) ts (inr v) r p = sound_run P R D b ts v r p.1
  sound_run P R D (many a) ts vs r p = sound_each (first first_of a) (Runs Tree first_of P a) (Matches Tree R a) (sound_run P R D a) ts vs r p

  pub sample_shape : (R : (k : N) → List Lexeme → Tree k → Type 0) → ((k : N) → (w : List Lexeme) × (v : Tree k) × R k w v) → (s : Shape N) → (w : List Lexeme) × (v : Value Tree s) × Matches Tree R s w v
  sample_shape R H nothing = ([], tt, refl)
  sample_shape R H (term t) = let x = sample_token t in (x.0 ∷ [], x.0, (refl, x.1))
  sample_shape R H (ref k) = H k
  sample_shape R H (seq a b) = let x = sample_shape R H a in let y = sample_shape R H b in (x.0 ++ y.0, (x.1, y.1), (x.0, y.0, refl, x.2, y.2))
  sample_shape R H (alt a b) = let x = sample_shape R H a in (x.0, inl x.1, x.2)
  sample_shape R H (many a) = ([], [], refl)

  pub begun_stick : (P : (k : N) → List Lexeme → Tree k → List Lexeme → Type 0) (S : (k : N) → List Lexeme → List Lexeme → Type 0) (R : (k : N) → List Lexeme → Tree k → Type 0) → ((k : N) (ts : List Lexeme) (v : Tree k) (r : List Lexeme) → P k ts v r → Sound (R k) ts v r) → ((k : N) (ts r : List Lexeme) → S k ts r → Begun (R k) ts r) → ((k : N) → (w : List Lexeme) × (v : Tree k) × R k w v) → (s : Shape N) (ts r : List Lexeme) → Sticks Tree first_of P S s ts r → Begun (Matches Tree R s) ts r
  begun_stick P S R D E H nothing ts r p = absurd p
  begun_stick P S R D E H (term t) ts r p = let x = sample_token t in ([], sym p.0, (x.0 ∷ [], x.0, (refl, x.1)))
  begun_stick P S R D E H (ref k) ts r p = E k ts r p
  begun_stick P S R D E H (seq a b) ts r (inl p) =
      let x = begun_stick P S R D E H a ts r p in
      let y = sample_shape R H b in
      (x.0, x.1, (x.2.0 ++ y.0, (x.2.1, y.1), (x.0 ++ x.2.0, y.0, sym (append_assoc x.0 x.2.0 y.0), x.2.2, y.2)))
  begun_stick P S R D E H (seq a b) ts r (inr p) =
      let x = sound_run P R D a ts p.0 p.1 p.2 in
      let y = begun_stick P S R D E H b p.1 r p.3 in
      (x.0 ++ y.0, x.1 ∙ ap (λ l. x.0 ++ l) y.1 ∙ sym (append_assoc x.0 y.0 r), (y.2.0, (p.0, y.2.1), (x.0, y.0 ++ y.2.0, append_assoc x.0 y.0 y.2.0, x.2, y.2.2)))
  begun_stick P S R D E H (alt a b) ts r (inl p) = let x = begun_stick P S R D E H a ts r p.1 in (x.0, x.1, (x.2.0, inl x.2.1, x.2.2))
  begun_stick P S R D E H (alt a b) ts r (inr p) = let x = begun_stick P S R D E H b ts r p.1 in (x.0, x.1, (x.2.0, inr x.2.1, x.2.2))
  begun_stick P S R D E H (many a) ts r p = begun_each (first first_of a) (Runs Tree first_of P a) (Sticks Tree first_of P S a) (Matches Tree R a) (sound_run P R D a) (begun_stick P S R D E H a) ts p.0 r p.1
