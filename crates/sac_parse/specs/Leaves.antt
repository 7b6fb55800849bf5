-- What the parts of types and of the heads of functions are.
use Rattle.std.specs.Prelude.{ℕ, ◌≡◌, Bool, List, [], ◌++◌, ◌⊎◌, ℤ, pos, map, length, codes}
use Rattle.std.specs.Str.Parse.{digits_value}
use Rattle.std.specs.Borrow.{Bor}
use Rattle.std.specs.Global.{Vec}
use mathlib.Core.Logic.{inl, inr}
use Rattle.sac_base.specs.declared.base.Base.{Base}
use Rattle.sac_base.specs.declared.types.ArrayType.{ArrayType}
use Rattle.sac_base.specs.declared.types.Part.{Part}
use Rattle.sac_base.specs.declared.types.Part.TheVariants.{Known}
use Rattle.sac_ast.specs.declared.Param.{Param}
use Rattle.sac_ast.specs.Texts.{Lexeme}
use Rattle.sac_ast.specs.Shape.{term, ref, number}
use Rattle.sac_ast.specs.Grammar.{V, sign, opt, parens, listed, up_to, parts, items, maybe_items, base_of, Extents, part_of, is_there, type', param}
use Rattle.sac_lex.specs.declared.token.Token.{Token}
use Rattle.sac_grammar.specs.Parsing.{Reading}
use Rattle.sac_phrases.specs.Contract.{lexemes_of}

abbrev pub IsBase : Base → Lexeme ⊎ Lexeme → Type 0
IsBase base v = base ≡ base_of v

-- as many as there are dots
abbrev pub IsCount : (n : ℕ) → ℕ → V (up_to n (sign (codes "."))) → Type 0
IsCount n count v = count ≡ length (parts n (sign (codes ".")) v)

abbrev pub numbers_of : List Lexeme → List ℤ
numbers_of = map (λ (t : Lexeme). pos (digits_value 10 t.text))

-- the numbers behind those that were there before
abbrev pub AreNumbers : List ℤ → (n : ℕ) → Vec ℤ → V (up_to n (term number)) → Type 0
AreNumbers before n list v = list.items ≡ before ++ numbers_of (parts n (term number) v)

abbrev pub inner_part : V (opt Extents) → Part
inner_part (inl v) = part_of v
inner_part (inr u) = Known []

abbrev pub IsInnerPart : Part → V (opt Extents) → Type 0
IsInnerPart part v = part ≡ inner_part v

-- the same value, and the same values in order
abbrev pub IsType : ArrayType → ArrayType → Type 0
IsType t v = t ≡ v

abbrev pub IsParam : Param → Param → Type 0
IsParam p v = p ≡ v

abbrev pub AreTypes : Vec ArrayType → V (listed (ref type')) → Type 0
AreTypes list v = list.items ≡ items v

abbrev pub AreParams : Vec Param → V (opt (listed (ref param))) → Type 0
AreParams list v = list.items ≡ maybe_items v

abbrev pub AreParamsInParens : Vec Param → V (parens (opt (listed (ref param)))) → Type 0
AreParamsInParens list v = list.items ≡ maybe_items v.1.0

-- whether the word is there, and what is behind it
abbrev pub IsInlineAt : List Lexeme → Bool × Bor (List Token) → Type 0
IsInlineAt ts x = (v : V (opt (sign (codes "inline")))) × Reading (opt (sign (codes "inline"))) ts v (lexemes_of x.1.now) × (x.0 ≡ is_there v)
