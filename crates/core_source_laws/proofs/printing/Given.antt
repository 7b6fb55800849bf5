-- Each tree that the grammar gives fits.
use Rattle.std.proofs.Common.{ℕ, zero, suc, ◌≡◌, ◌<◌, ◌^◌, true, List, [], ◌∷◌, ◌++◌, inl, inr, sym, subst}
use Rattle.std.specs.Bool.{⊤}
use Rattle.std.specs.List.{AllByRecursion}
use Rattle.std.specs.Str.Parse.{digits_value}
use Rattle.sac_ast.specs.Texts.{Lexeme, is_name, is_number}
use Rattle.sac_ast.specs.Shape.{Terminal, text, name, number, end, Shape, nothing, term, ref, seq, alt, many, Value, MatchesEach, Matches, DerivesIn}
use Rattle.sac_ast.specs.Grammar.{Nonterminal, Rule, Tree, rule, action, V}
use Rattle.core_source_laws.proofs.printing.Fits.{FitsName}

-- a name or number that the lexer gives
abbrev pub IsProper : Lexeme → Type 0
IsProper t = (is_name t.text ≡ true → FitsName t.text) × (is_number t.text ≡ true → digits_value 10 t.text < 2 ^ 31)

abbrev pub FitsTerm : Terminal → Lexeme → Type 0
FitsTerm (text b) t = ⊤
FitsTerm name t = FitsName t.text
FitsTerm number t = digits_value 10 t.text < 2 ^ 31
FitsTerm end t = ⊤

module _ (F : (k : Nonterminal) → Tree k → Type 0) where
  -- the parts of a value fit
  abbrev pub FitsValue : (s : Rule) → V s → Type 0
  FitsValue nothing v = ⊤
  FitsValue (term t) v = FitsTerm t v
  FitsValue (ref k) v = F k v
  FitsValue (seq a b) v = FitsValue a v.0 × FitsValue b v.1
  FitsValue (alt a b) (inl v) = FitsValue a v
  FitsValue (alt a b) (inr v) = FitsValue b v
  FitsValue (many a) vs = AllByRecursion (FitsValue a) vs

  proper_front : (u w : List Lexeme) → AllByRecursion IsProper (u ++ w) → AllByRecursion IsProper u × AllByRecursion IsProper w
  proper_front [] w h = (tt, h)
  proper_front (x ∷ u) w h = let r = proper_front u w h.1 in ((h.0, r.0), r.1)

  module _ (P : (k : Nonterminal) → List Lexeme → Tree k → Type 0) (each : (k : Nonterminal) (ts : List Lexeme) (q : Tree k) → AllByRecursion IsProper ts → P k ts q → F k q) where
    fits_term : (t : Terminal) (x : Lexeme) → IsProper x → Rattle.sac_ast.specs.Shape.matches t x ≡ true → FitsTerm t x
    fits_term (text b) x h m = tt
    fits_term name x h m = h.0 m
    fits_term number x h m = h.1 m
    fits_term end x h m = tt

    fits_each : (a : Rule) → ((ts : List Lexeme) (v : V a) → AllByRecursion IsProper ts → Matches Tree P a ts v → FitsValue a v) → (ts : List Lexeme) (vs : List (V a)) → AllByRecursion IsProper ts → MatchesEach (Matches Tree P a) ts vs → AllByRecursion (FitsValue a) vs
    fits_each a f ts [] h m = tt
    fits_each a f ts (v ∷ vs) h (u, w, e, p, q) = let r = proper_front u w (subst (AllByRecursion IsProper) e h) in (f u v r.0 p, fits_each a f w vs r.1 q)

    fits_value : (s : Rule) (ts : List Lexeme) (v : V s) → AllByRecursion IsProper ts → Matches Tree P s ts v → FitsValue s v
    fits_value nothing ts v h m = tt
    fits_value (term t) ts v h m = fits_term t v (subst (AllByRecursion IsProper) m.0 h).0 m.1
    fits_value (ref k) ts v h m = each k ts v h m
    fits_value (seq a b) ts v h (u, w, e, p, q) = let r = proper_front u w (subst (AllByRecursion IsProper) e h) in (fits_value a u v.0 r.0 p, fits_value b w v.1 r.1 q)
    fits_value (alt a b) ts (inl v) h m = fits_value a ts v h m
    fits_value (alt a b) ts (inr v) h m = fits_value b ts v h m
    fits_value (many a) ts vs h m = fits_each a (fits_value a) ts vs h m

-- if the action of each nonterminal makes a tree that fits of parts that fit, each tree fits
module _ (F : (k : Nonterminal) → Tree k → Type 0) (acts : (k : Nonterminal) (v : V (rule k)) → FitsValue F (rule k) v → F k (action k v)) where
  pub fits_in : (n : ℕ) (k : Nonterminal) (ts : List Lexeme) (q : Tree k) → AllByRecursion IsProper ts → DerivesIn Tree rule action n k ts q → F k q
  fits_in zero k ts q h d = absurd d
  fits_in (suc n) k ts q h (v, e, m) = subst (F k) (sym e) (acts k v (fits_value F (DerivesIn Tree rule action n) (fits_in n) (rule k) ts v h m))
