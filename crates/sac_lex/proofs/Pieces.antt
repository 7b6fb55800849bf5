-- What the scanning loops found is the piece at the front.
use Rattle.std.proofs.Common.{ℕ, zero, ◌≡◌, ◌≢◌, ◌<◌, ◌≤◌, ◌+◌, ◌-◌, suc, Bool, true, false, ◌||◌, List, [], ◌∷◌, ◌++◌, length, get_or, take, drop, IsTrue, refl, sym, ap, ◌∙◌, subst, arith, length-drop}
use Rattle.std.specs.List.{AllByRecursion}
use Rattle.sac_lex.specs.declared.piece.PieceKind.TheVariants.{Blank, Comment, Open, Name, Number, Sign}
use Rattle.sac_lex.specs.Spelling.{is_blank, is_letter, is_digit, is_word_byte, is_sign, HasNoEnd, IsFirstEnd, IsLongest, HasNoSpelling, BeginsWith, IsOtherByte, NoCommentAt}
use Rattle.sac_lex.proofs.Longest.{Stops, EndsLine, NoComment, NoPair, longest_name, longest_number, longest_blank, longest_line, longest_block, longest_open, longest_one, longest_two, no_spelling}

all_take : (P : ℕ → Type 0) (bytes : List ℕ) (n : ℕ) → n ≤ length bytes → ((k : ℕ) → k < n → P (get_or bytes k 0)) → AllByRecursion P (take n bytes)
all_take P bytes zero le f = tt
all_take P [] (suc n) le f = absurd (omega arith)
all_take P (c ∷ cs) (suc n) le f = (f 0 (omega arith), all_take P cs n (omega arith) (λ k h. f (suc k) (omega arith)))

stops_drop : (test : ℕ → Bool) (bytes : List ℕ) (n : ℕ) → (n < length bytes → test (get_or bytes n 0) ≡ false) → Stops test (drop n bytes)
stops_drop test [] zero f = tt
stops_drop test (c ∷ cs) zero f = f (omega arith)
stops_drop test [] (suc n) f = tt
stops_drop test (c ∷ cs) (suc n) f = stops_drop test cs n (λ h. f (omega arith))

line_drop : (bytes : List ℕ) (n : ℕ) → (n < length bytes → get_or bytes n 0 ≡ 10) → EndsLine (drop n bytes)
line_drop [] zero f = tt
line_drop (c ∷ cs) zero f = f (omega arith)
line_drop [] (suc n) f = tt
line_drop (c ∷ cs) (suc n) f = line_drop cs n (λ h. f (omega arith))

or_left : (a b : Bool) → a ≡ true → (a || b) ≡ true
or_left true b e = refl
or_left false b e = cc

pub name_piece : (bytes : List ℕ) (n : ℕ) → 0 < length bytes → is_letter (get_or bytes 0 0) ≡ true → n ≤ length bytes → ((k : ℕ) → k < n → is_word_byte (get_or bytes k 0) ≡ true) → (n < length bytes → is_word_byte (get_or bytes n 0) ≡ false) → BeginsWith Name n bytes
name_piece [] n some l le all stops = absurd (omega arith)
name_piece (c ∷ cs) zero some l le all stops = let s = stops some in let t = or_left (is_letter c) (is_digit c) l in cc
name_piece (c ∷ cs) (suc n) some l le all stops = record {
  nonempty = omega arith;
  within = le;
  longest = longest_name c (take n cs) (drop n cs) l (all_take (λ d. IsTrue (is_word_byte d)) cs n (omega arith) (λ k h. all (suc k) (omega arith))) (stops_drop is_word_byte cs n (λ h. stops (omega arith)));
}

pub number_piece : (bytes : List ℕ) (n : ℕ) → 0 < length bytes → is_digit (get_or bytes 0 0) ≡ true → n ≤ length bytes → ((k : ℕ) → k < n → is_digit (get_or bytes k 0) ≡ true) → (n < length bytes → is_digit (get_or bytes n 0) ≡ false) → BeginsWith Number n bytes
number_piece [] n some l le all stops = absurd (omega arith)
number_piece (c ∷ cs) zero some l le all stops = let s = stops some in cc
number_piece (c ∷ cs) (suc n) some l le all stops = record {
  nonempty = omega arith;
  within = le;
  longest = longest_number c (take n cs) (drop n cs) l (all_take (λ d. IsTrue (is_digit d)) cs n (omega arith) (λ k h. all (suc k) (omega arith))) (stops_drop is_digit cs n (λ h. stops (omega arith)));
}

pub blank_piece : (bytes : List ℕ) → 0 < length bytes → is_blank (get_or bytes 0 0) ≡ true → BeginsWith Blank 1 bytes
blank_piece [] some l = absurd (omega arith)
blank_piece (c ∷ cs) some l = record { nonempty = omega arith; within = omega arith; longest = longest_blank c cs l }

pub line_piece : (bytes : List ℕ) (n : ℕ) → 1 < length bytes → get_or bytes 0 0 ≡ 47 → get_or bytes 1 0 ≡ 47 → n ≤ length bytes → ((k : ℕ) → k < n → get_or bytes k 0 ≢ 10) → (n < length bytes → get_or bytes n 0 ≡ 10) → BeginsWith Comment n bytes
line_piece [] n some a b le all stops = absurd (omega arith)
line_piece (c ∷ []) n some a b le all stops = absurd (omega arith)
line_piece (c ∷ d ∷ cs) zero some a b le all stops = absurd (let s = stops (omega arith) in omega arith)
line_piece (c ∷ d ∷ cs) (suc zero) some a b le all stops = absurd (let s = stops (omega arith) in omega arith)
line_piece (c ∷ d ∷ cs) (suc (suc n)) some a b le all stops = record {
  nonempty = omega arith;
  within = le;
  longest = subst (λ x. IsLongest Comment (x ∷ d ∷ take n cs) (drop n cs)) (sym a) (subst (λ y. IsLongest Comment (47 ∷ y ∷ take n cs) (drop n cs)) (sym b)
      (longest_line (take n cs) (drop n cs) (all_take (λ x. x ≢ 10) cs n (omega arith) (λ k h. all (suc (suc k)) (omega arith))) (line_drop cs n (λ h. stops (omega arith)))));
}

take_whole : (xs : List ℕ) → take (length xs) xs ≡ xs
take_whole [] = refl
take_whole (x ∷ xs) = ap (λ l. x ∷ l) (take_whole xs)

drop_whole : (xs : List ℕ) → drop (length xs) xs ≡ []
drop_whole [] = refl
drop_whole (x ∷ xs) = drop_whole xs

-- the bytes up to and with the ones at k and k + 1
take_two : (xs : List ℕ) (k : ℕ) → k + 1 < length xs → get_or xs k 0 ≡ 42 → get_or xs (k + 1) 0 ≡ 47 → take (k + 2) xs ≡ take k xs ++ (42 ∷ 47 ∷ [])
take_two [] k le a b = absurd (omega arith)
take_two (x ∷ []) k le a b = absurd (omega arith)
take_two (x ∷ y ∷ xs) zero le a b = ap (λ z. z ∷ y ∷ []) a ∙ ap (λ z. 42 ∷ z ∷ []) b
take_two (x ∷ y ∷ xs) (suc k) le a b =
    let q : suc k + 2 ≡ suc (k + 2) = omega arith in
    let r : suc k + 1 ≡ suc (k + 1) = omega arith in
    ap (λ n. take n (x ∷ y ∷ xs)) q ∙ ap (λ l. x ∷ l) (take_two (y ∷ xs) k (omega arith) a (ap (λ n. get_or (x ∷ y ∷ xs) n 0) (sym r) ∙ b))

pub open_piece : (bytes : List ℕ) → 1 < length bytes → get_or bytes 0 0 ≡ 47 → get_or bytes 1 0 ≡ 42 → HasNoEnd (drop 2 bytes) → BeginsWith Open (length bytes) bytes
open_piece [] some a b none = absurd (omega arith)
open_piece (c ∷ []) some a b none = absurd (omega arith)
open_piece (c ∷ d ∷ cs) some a b none = record {
  nonempty = omega arith;
  within = omega arith;
  longest = subst (λ x. IsLongest Open x (drop (length cs) cs)) (ap (λ x. x ∷ d ∷ take (length cs) cs) (sym a) ∙ refl)
      (subst (λ y. IsLongest Open (47 ∷ y ∷ take (length cs) cs) (drop (length cs) cs)) (sym b)
      (rw (take_whole cs, drop_whole cs) (longest_open cs none)));
}

pub block_piece : (bytes : List ℕ) (k : ℕ) → 1 < length bytes → get_or bytes 0 0 ≡ 47 → get_or bytes 1 0 ≡ 42 → IsFirstEnd (drop 2 bytes) k → BeginsWith Comment (k + 4) bytes
block_piece [] k some a b at = absurd (omega arith)
block_piece (c ∷ []) k some a b at = absurd (omega arith)
block_piece (c ∷ d ∷ cs) k some a b at =
    let whole : take (k + 4) (c ∷ d ∷ cs) ≡ 47 ∷ 42 ∷ (take k cs ++ (42 ∷ 47 ∷ [])) =
    ap (λ n. take n (c ∷ d ∷ cs)) (let q : k + 4 ≡ suc (suc (k + 2)) = omega arith in q) ∙ ap (λ x. x ∷ d ∷ take (k + 2) cs) a ∙ ap (λ y. 47 ∷ y ∷ take (k + 2) cs) b ∙ ap (λ l. 47 ∷ 42 ∷ l) (take_two cs k at.0 at.1 at.2) in
    record {
      nonempty = omega arith;
      within = let h = at.0 in omega arith;
      longest = rw whole (longest_block (take k cs) (drop (k + 4) (c ∷ d ∷ cs)) at.3);
    }

pub rest_slice : (xs : List ℕ) → take (length xs - 2) (drop 2 xs) ≡ drop 2 xs
rest_slice xs = ap (λ n. take n (drop 2 xs)) (sym (length-drop 2 xs)) ∙ take_whole (drop 2 xs)

no_comment_at : (c : ℕ) (cs : List ℕ) → NoCommentAt (c ∷ cs) → NoComment c cs
no_comment_at c [] n = tt
no_comment_at c (d ∷ cs) n = λ e. n (omega arith) e

pub two_piece : (bytes : List ℕ) → 1 < length bytes → IsOtherByte (get_or bytes 0 0) → NoCommentAt bytes → is_sign (get_or bytes 0 0 ∷ get_or bytes 1 0 ∷ []) ≡ true → BeginsWith Sign 2 bytes
two_piece [] some o n is = absurd (omega arith)
two_piece (c ∷ []) some o n is = absurd (omega arith)
two_piece (c ∷ d ∷ cs) some o n is = record { nonempty = omega arith; within = omega arith; longest = longest_two c d cs o (no_comment_at c (d ∷ cs) n) is }

-- no sign of two bytes begins the text
abbrev pub NoPairAt : List ℕ → Type 0
NoPairAt bytes = 1 < length bytes → is_sign (get_or bytes 0 0 ∷ get_or bytes 1 0 ∷ []) ≡ false

no_pair_at : (c : ℕ) (cs : List ℕ) → NoPairAt (c ∷ cs) → NoPair c cs
no_pair_at c [] n = tt
no_pair_at c (d ∷ cs) n = n (omega arith)

pub one_piece : (bytes : List ℕ) → 0 < length bytes → IsOtherByte (get_or bytes 0 0) → NoCommentAt bytes → NoPairAt bytes → is_sign (get_or bytes 0 0 ∷ []) ≡ true → BeginsWith Sign 1 bytes
one_piece [] some o n p is = absurd (omega arith)
one_piece (c ∷ cs) some o n p is = record { nonempty = omega arith; within = omega arith; longest = longest_one c cs o (no_comment_at c cs n) (no_pair_at c cs p) is }

pub no_piece : (bytes : List ℕ) → 0 < length bytes → IsOtherByte (get_or bytes 0 0) → NoCommentAt bytes → NoPairAt bytes → is_sign (get_or bytes 0 0 ∷ []) ≡ false → HasNoSpelling bytes
no_piece [] some o n p isnt = absurd (omega arith)
no_piece (c ∷ cs) some o n p isnt = no_spelling c cs o (no_comment_at c cs n) (no_pair_at c cs p) isnt
