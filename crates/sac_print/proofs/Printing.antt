-- What was written, piece by piece.
use Rattle.std.proofs.Common.{ℕ, zero, suc, ◌≡◌, ◌≤◌, ◌+◌, ◌<◌, List, [], ◌∷◌, ◌++◌, length, get_or, take, map, replicate, Result, Ok, Err, refl, sym, ap, ◌∙◌, subst, arith, append_assoc, append-nil, add-one}
use Rattle.sac_base.specs.declared.memory.Memory.{Memory}
use Rattle.std.proofs.lemmas.List.{take_more, map-append}
use Rattle.sac_print.specs.Texts.{Texts, one, comma, commas, comma_before, separator, written, Printed, Prints}

written-append : (a b : Texts) → written (a ++ b) ≡ written a ++ written b
written-append [] b = refl
written-append (t ∷ a) b = ap (λ l. t ++ (separator t ∷ l)) (written-append a b) ∙ sym (append_assoc t (separator t ∷ written a) (written b))

pub printed-nothing : (old : List ℕ) → Printed old old []
printed-nothing old = record { is = sym (append-nil old) }

pub printed-append : {old mid new : List ℕ} {a b : Texts} → Printed old mid a → Printed mid new b → Printed old new (a ++ b)
printed-append {old} {mid} {new} {a} {b} first second = record {
  is = second.is ∙ ap (λ l. l ++ written b) first.is ∙ append_assoc old (written a) (written b) ∙ ap (λ l. old ++ l) (sym (written-append a b));
}

-- one piece behind others
infixr 20 ◌▸◌
pub ◌▸◌ : {old mid new : List ℕ} {a b : Texts} → Printed old mid a → Printed mid new b → Printed old new (a ++ b)
first ▸ second = printed-append first second

-- what the next writer adds
infixr 20 ◌▹◌
pub ◌▹◌ : {r : Result (Unit {0}) Memory} {u : Unit {0}} {old mid new : List ℕ} {a b : Texts} → Prints (Ok u) old mid a → Prints r mid new b → Prints r old new (a ++ b)
◌▹◌ {r = Ok v} first last = record { on_ok = printed-append first.on_ok last.on_ok }
◌▹◌ {r = Err e} first last = record { on_ok = tt }

pub by_text : {r : Result (Unit {0}) Memory} {old new t u : List ℕ} → t ≡ u → Prints r old new (one t) → Prints r old new (one u)
by_text {r} {old} {new} e h = subst (λ t. Prints r old new (one t)) e h

-- the texts by another name
pub by_name : {r : Result (Unit {0}) Memory} {old new : List ℕ} {a b : Texts} → a ≡ b → Prints r old new b → Prints r old new a
by_name {r} {old} {new} e h = subst (Prints r old new) (sym e) h

commas_more : (ts : List Texts) (t : Texts) → commas (ts ++ (t ∷ [])) ≡ commas ts ++ (comma_before (length ts) ++ t)
commas_more [] t = refl
commas_more (a ∷ []) t = refl
commas_more (a ∷ b ∷ ts) t =
    ap (λ l. a ++ (comma ++ l)) (commas_more (b ∷ ts) t) ∙ sym (append_assoc a (comma ++ commas (b ∷ ts)) _)

length-map : {A B : Type 0} (f : A → B) (xs : List A) → length (map f xs) ≡ length xs
length-map f [] = refl
length-map f (x ∷ xs) = ap suc (length-map f xs)

length-take : {A : Type 0} (i : ℕ) (xs : List A) → i ≤ length xs → length (take i xs) ≡ i
length-take zero xs h = refl
length-take (suc i) [] h = absurd (omega arith)
length-take (suc i) (x ∷ xs) h = ap suc (length-take i xs (omega arith))

take_whole : {A : Type 0} (xs : List A) → take (length xs) xs ≡ xs
take_whole [] = refl
take_whole (x ∷ xs) = ap (λ l. x ∷ l) (take_whole xs)

-- a turn of a loop that writes items with commas between them
module _ {A : Type 0} (f : A → Texts) (xs : List A) (i : ℕ) (item : A) {old now mid new : List ℕ} where
  pub commas_turn : i < length xs → Printed old now (commas (map f (take i xs))) → Printed now mid (comma_before i) → Printed mid new (f (get_or xs i item)) → Printed old new (commas (map f (take (i + 1) xs)))
  commas_turn h so_far first second =
      let n : length (map f (take i xs)) ≡ i = length-map f (take i xs) ∙ length-take i xs (omega arith) in
      let more : commas (map f (take (i + 1) xs)) ≡ commas (map f (take i xs)) ++ (comma_before i ++ f (get_or xs i item)) =
      ap (λ l. commas (map f l)) (take_more xs i item h) ∙ ap commas (map-append f (take i xs) (get_or xs i item ∷ [])) ∙ commas_more (map f (take i xs)) (f (get_or xs i item)) ∙ ap (λ k. commas (map f (take i xs)) ++ (comma_before k ++ f (get_or xs i item))) n in
      subst (Printed old new) (sym more) (so_far ▸ (first ▸ second))

  pub commas_turn_at : item ≡ get_or xs i item → i < length xs → Printed old now (commas (map f (take i xs))) → Printed now mid (comma_before i) → Printed mid new (f item) → Printed old new (commas (map f (take (i + 1) xs)))
  commas_turn_at is h so_far first second = commas_turn h so_far first (subst (λ x. Printed mid new (f x)) is second)

pub commas_whole : {A : Type 0} (f : A → Texts) (xs : List A) (n : ℕ) {old new : List ℕ} → n ≡ length xs → Printed old new (commas (map f (take n xs))) → Printed old new (commas (map f xs))
commas_whole f xs n {old} {new} e h = subst (λ l. Printed old new (commas (map f l))) (ap (λ k. take k xs) e ∙ take_whole xs) h

-- items one behind the other
abbrev pub joined : {A : Type 0} → (A → Texts) → List A → Texts
joined f [] = []
joined f (x ∷ xs) = f x ++ joined f xs

joined-append : {A : Type 0} (f : A → Texts) (xs ys : List A) → joined f (xs ++ ys) ≡ joined f xs ++ joined f ys
joined-append f [] ys = refl
joined-append f (x ∷ xs) ys = ap (λ l. f x ++ l) (joined-append f xs ys) ∙ sym (append_assoc (f x) (joined f xs) (joined f ys))

pub joined_turn : {A : Type 0} (f : A → Texts) (xs : List A) (i : ℕ) (item : A) {old now new : List ℕ} → item ≡ get_or xs i item → i < length xs → Printed old now (joined f (take i xs)) → Printed now new (f item) → Printed old new (joined f (take (i + 1) xs))
joined_turn f xs i item {old} {now} {new} is h so_far last =
    let more : joined f (take (i + 1) xs) ≡ joined f (take i xs) ++ f (get_or xs i item) =
    ap (joined f) (take_more xs i item h) ∙ joined-append f (take i xs) (get_or xs i item ∷ []) ∙ ap (λ l. joined f (take i xs) ++ l) (append-nil (f (get_or xs i item))) in
    subst (Printed old new) (sym more) (so_far ▸ subst (λ x. Printed now new (f x)) is last)

pub joined_whole : {A : Type 0} (f : A → Texts) (xs : List A) (n : ℕ) {old new : List ℕ} → n ≡ length xs → Printed old new (joined f (take n xs)) → Printed old new (joined f xs)
joined_whole f xs n {old} {new} e h = subst (λ l. Printed old new (joined f l)) (ap (λ k. take k xs) e ∙ take_whole xs) h

dots_more : (n : ℕ) (t : Texts) → replicate (suc n) t ≡ replicate n t ++ (t ∷ [])
dots_more zero t = refl
dots_more (suc n) t = ap (λ l. t ∷ l) (dots_more n t)

length-replicate : (n : ℕ) (t : Texts) → length (replicate n t) ≡ n
length-replicate zero t = refl
length-replicate (suc n) t = ap suc (length-replicate n t)

pub dots_turn : (n : ℕ) (t : Texts) {old now mid new : List ℕ} → Printed old now (commas (replicate n t)) → Printed now mid (comma_before n) → Printed mid new t → Printed old new (commas (replicate (n + 1) t))
dots_turn n t {old} {now} {mid} {new} so_far first second =
    let more : commas (replicate (n + 1) t) ≡ commas (replicate n t) ++ (comma_before n ++ t) =
    ap (λ k. commas (replicate k t)) (add-one n) ∙ ap commas (dots_more n t) ∙ commas_more (replicate n t) t ∙ ap (λ k. commas (replicate n t) ++ (comma_before k ++ t)) (length-replicate n t) in
    subst (Printed old new) (sym more) (so_far ▸ (first ▸ second))
