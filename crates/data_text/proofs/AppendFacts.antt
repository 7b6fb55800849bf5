-- Texts appended one after another.
use Rattle.std.proofs.Common.{◌≡◌, ℕ, zero, suc, ◌+◌, ◌<◌, ◌≤◌, ℤ, pos, map, subst, arith, List, [], ◌∷◌, ◌++◌, take, drop, length, get_or, refl, ap, sym, ◌∙◌, Result, Ok, Err, append_assoc, append-nil, add-one}
use Rattle.std.specs.Prelude.{IsErr, unsigned_abs}
use Rattle.std.specs.List.{flat_map}
use Rattle.std.specs.Fmt.{decimal}
use Rattle.data_text.specs.Printed.{Appends, Part, further, further_extent, commas}

-- a first text was appended, and then a front of a second
pub then_part : {old mid new second : List ℕ} (first : List ℕ) → mid ≡ old ++ first → Part mid new second → Part old new (first ++ second)
then_part {old} {mid} {new} {second} first e more = record {
  front = first ++ more.front;
  rest = more.rest;
  text_is = ap (λ x. first ++ x) more.text_is ∙ sym (append_assoc first more.front more.rest);
  new_is = more.new_is ∙ ap (λ x. x ++ more.front) e ∙ append_assoc old first more.front;
}

-- a first text was appended, and then a second
pub then_appends : {E : Type 0} (old mid new first second : List ℕ) (r : Result (Unit {0}) E) → mid ≡ old ++ first → Appends mid new r second → Appends old new r (first ++ second)
then_appends old mid new first second (Ok _) e more = more ∙ ap (λ x. x ++ second) e ∙ append_assoc old first second
then_appends old mid new first second (Err _) e more = then_part first e more

-- a front of a first text, before a second
pub part_before : {old new first : List ℕ} (second : List ℕ) → Part old new first → Part old new (first ++ second)
part_before second part = record {
  front = part.front;
  rest = part.rest ++ second;
  text_is = ap (λ x. x ++ second) part.text_is ∙ append_assoc part.front part.rest second;
  new_is = part.new_is;
}

-- what an error leaves
pub stops : {E : Type 0} {old new text : List ℕ} (r : Result (Unit {0}) E) → IsErr r → Part old new text → Appends old new r text
stops (Ok x) failed part = absurd (cc)
stops (Err e) failed part = part

-- the items of a loop up to one, that one and those behind it
cut_items : {X : Type 0} (f : X → List ℕ) (xs : List X) (i : ℕ) (d : X) → i < length xs → flat_map f (take i xs) ++ (f (get_or xs i d) ++ flat_map f (drop (suc i) xs)) ≡ flat_map f xs
cut_items f [] i d inside = absurd (omega (arith, inside))
cut_items f (x ∷ xs) zero d inside = refl
cut_items f (x ∷ xs) (suc i) d inside =
    append_assoc (f x) (flat_map f (take i xs)) (f (get_or xs i d) ++ flat_map f (drop (suc i) xs))
    ∙ ap (λ t. f x ++ t) (cut_items f xs i d (omega (arith, inside)))

-- the item at i stopped
pub item_part : {X : Type 0} (f : X → List ℕ) (xs : List X) (i : ℕ) (d : X) (old mid new : List ℕ) → i < length xs → mid ≡ old ++ flat_map f (take i xs) → Part mid new (f (get_or xs i d)) → Part old new (flat_map f xs)
item_part f xs i d old mid new inside e part =
    subst (λ t. Part old new t) (cut_items f xs i d inside)
    (then_part (flat_map f (take i xs)) e (part_before (flat_map f (drop (suc i) xs)) part))

taken_more : {X : Type 0} (f : X → List ℕ) (xs : List X) (i : ℕ) (d : X) → i < length xs → flat_map f (take i xs) ++ f (get_or xs i d) ≡ flat_map f (take (suc i) xs)
taken_more f [] i d inside = absurd (omega (arith, inside))
taken_more f (x ∷ xs) zero d inside = sym (append-nil (f x))
taken_more f (x ∷ xs) (suc i) d inside =
    append_assoc (f x) (flat_map f (take i xs)) (f (get_or xs i d))
    ∙ ap (λ t. f x ++ t) (taken_more f xs i d (omega (arith, inside)))

-- one item more
pub item_more : {X : Type 0} (f : X → List ℕ) (xs : List X) (i : ℕ) (d : X) (old mid new : List ℕ) → i < length xs → mid ≡ old ++ flat_map f (take i xs) → new ≡ mid ++ f (get_or xs i d) → new ≡ old ++ flat_map f (take (i + 1) xs)
item_more f xs i d old mid new inside e more =
    more
    ∙ ap (λ t. t ++ f (get_or xs i d)) e
    ∙ append_assoc old (flat_map f (take i xs)) (f (get_or xs i d))
    ∙ ap (λ t. old ++ t) (taken_more f xs i d inside)
    ∙ ap (λ n. old ++ flat_map f (take n xs)) (sym (add-one i))

further_mapped : (zs : List ℤ) → flat_map further (map unsigned_abs zs) ≡ flat_map further_extent zs
further_mapped [] = refl
further_mapped (z ∷ zs) = ap (λ t. further (unsigned_abs z) ++ t) (further_mapped zs)

-- a first extent, and those behind it
pub commas_are : (zs : List ℤ) → 1 ≤ length zs → commas (map unsigned_abs zs) ≡ decimal (unsigned_abs (get_or zs 0 (pos 0))) ++ flat_map further_extent (drop 1 zs)
commas_are [] some = absurd (omega (arith, some))
commas_are (z ∷ zs) some = ap (λ t. decimal (unsigned_abs z) ++ t) (further_mapped zs)
