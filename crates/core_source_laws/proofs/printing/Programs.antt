-- The texts of types, functions and programs are read as them, aside from sites.
use Rattle.std.proofs.Common.{ℕ, zero, suc, ◌≡◌, ◌≤◌, ◌<◌, ◌^◌, Bool, true, false, List, [], ◌∷◌, ◌++◌, length, map, replicate, inl, inr, codes, refl, sym, ap, ◌∙◌, subst, append_assoc, append-nil, arith}
use Rattle.std.specs.Bool.{⊤}
use Rattle.std.specs.List.{AllByRecursion}
use Rattle.std.specs.Fmt.{decimal}
use Rattle.std.specs.Str.Parse.{digits_value}
use Rattle.std.proofs.lemmas.Fmt.{decimal_is_IsNumeral}
use Rattle.sac_base.specs.declared.base.Base.{Base}
use Rattle.sac_base.specs.declared.base.Base.TheVariants as base
use Rattle.sac_base.specs.declared.types.ArrayType.{ArrayType}
use Rattle.sac_base.specs.declared.types.Part.{Part}
use Rattle.sac_base.specs.declared.types.Part.TheVariants.{Known, Rank, Plus, Star}
use Rattle.sac_ast.specs.declared.Param.{Param}
use Rattle.sac_ast.specs.Texts.{Lexeme, is_end}
use Rattle.sac_ast.specs.Shape.{nothing, seq, alt, ref, many, term, number, end}
use Rattle.sac_ast.specs.Grammar.{Nonterminal, program, function, param, type', Rule, Tree, V, sign, opt, up_to, parts, is_there, items, maybe_items, base_of, brackets_part, Extents, IsProgram}
use Rattle.sac_ast.specs.Tree.{Exprs, no_exprs, expr_and, FunctionTree, ProgramTree}
use Rattle.sac_print.specs.declared.level.Level.TheVariants as level
use Rattle.sac_print.specs.Texts.{Texts, one, commas}
use Rattle.sac_print.specs.Canonical.{parens, spell_block, spell_list, base_text, part_texts, type_texts, param_texts, inline_texts, function_texts, functions_texts, program_texts}
use Rattle.core_source_laws.specs.printing.Bare.{nowhere, bare_param, bare_function, bare_program}
use Rattle.core_source_laws.proofs.printing.Fits.{FitsPart, FitsType, FitsParam, FitResults, FitValues, FitsFunction, FitsProgram}
use Rattle.core_source_laws.proofs.printing.Readings.{texts_of, Reads, Phrase, ◌⨟◌, left, right, token, a_name, a_number, a_ref, by_rule, alone, ReadsEach, no_parts, a_part, absent, alike, one_token}
use Rattle.core_source_laws.proofs.printing.Spelled.{WholeList, whole_list, number_text}
use Rattle.core_source_laws.proofs.printing.Induction.{spelled, listed, block}

-- ---- types

extent_read : (n : ℕ) → n < 2 ^ 31 → Reads {X = Lexeme} (term number) (one (decimal n)) (λ t. t) (λ t. digits_value 10 t.text ≡ n)
extent_read n h = record {
  at = λ ts e.
      let d = decimal_is_IsNumeral n (omega arith) in
      let x = (a_number (decimal n) (number_text (decimal n) d.0)).at ts e in
      (x.0, x.1, ap (digits_value 10) x.2 ∙ d.1);
}

abbrev extent_texts : List ℕ → Texts
extent_texts ns = commas (map (λ n. one (decimal n)) ns)

abbrev extents_of : (k : ℕ) → V (up_to k (term number)) → List ℕ
extents_of k v = map (λ (t : Lexeme). digits_value 10 t.text) (parts k (term number) v)

extents_read : (k : ℕ) (n : ℕ) (ns : List ℕ) → length ns ≤ k → n < 2 ^ 31 → AllByRecursion (λ m. m < 2 ^ 31) ns → Reads {X = V (up_to k (term number))} (up_to k (term number)) (extent_texts (n ∷ ns)) (λ v. v) (λ v. extents_of k v ≡ n ∷ ns)
extents_read zero n [] le h all = record { at = λ ts e. let x = (extent_read n h).at ts e in (x.0, x.1, ap (λ m. m ∷ []) x.2) }
extents_read zero n (m ∷ ns) le h all = absurd (omega arith)
extents_read (suc k) n [] le h all = record { at = λ ts e. let x = (alone {b = seq (sign (codes ",")) (up_to k (term number))} (extent_read n h)).at ts e in ((x.0, inr tt), x.1, ap (λ m. m ∷ []) x.2) }
extents_read (suc k) n (m ∷ ns) le h all = record {
  at = λ ts e.
      let x = (extent_read n h ⨟ left {b = nothing} (token (codes ",") ⨟ extents_read k m ns (omega arith) all.0 all.1)).at ts e in
      ((x.0.0, inl x.0.1), x.1, (λ i. x.2.0 i ∷ x.2.1.1 i));
}

abbrev dot : Rule
dot = sign (codes ".")

dots_read : (k n : ℕ) → n ≤ k → Reads {X = V (up_to k dot)} (up_to k dot) (commas (replicate (suc n) (one (codes ".")))) (λ v. v) (λ v. length (parts k dot v) ≡ suc n)
dots_read zero zero le = record { at = λ ts e. let x = (token (codes ".")).at ts e in (x.0, x.1, refl) }
dots_read zero (suc n) le = absurd (omega arith)
dots_read (suc k) zero le = record { at = λ ts e. let x = (alone {b = seq (sign (codes ",")) (up_to k dot)} (token (codes "."))).at ts e in ((x.0, inr tt), x.1, refl) }
dots_read (suc k) (suc n) le = record {
  at = λ ts e.
      let x = (token (codes ".") ⨟ left {b = nothing} (token (codes ",") ⨟ dots_read k n (omega arith))).at ts e in
      ((x.0.0, inl x.0.1), x.1, ap suc x.2.1.1);
}

abbrev BaseRule : Rule
BaseRule = alt (sign (codes "int")) (sign (codes "bool"))

base_read : (b : Base) → Reads {X = V BaseRule} BaseRule (one (base_text b)) (λ v. v) (λ v. base_of v ≡ b)
base_read base.Int = record { at = λ ts e. let x = (left {b = sign (codes "bool")} (token (codes "int"))).at ts e in (inl x.0, x.1, refl) }
base_read base.Bool = record { at = λ ts e. let x = (right {a = sign (codes "int")} (token (codes "bool"))).at ts e in (inr x.0, x.1, refl) }

abbrev PartRule : Rule
PartRule = opt (seq (sign (codes "[")) (seq (opt Extents) (sign (codes "]"))))

abbrev PartRead : Part → Type 0
PartRead part = Reads {X = V PartRule} PartRule (part_texts part) (λ v. v) (λ v. brackets_part v ≡ part)

part_read : (part : Part) → FitsPart part → PartRead part
part_read (Known []) h = record { at = λ ts e. let x = (absent {a = seq (sign (codes "[")) (seq (opt Extents) (sign (codes "]")))}).at ts e in (inr tt, x.1, refl) }
part_read (Known (n ∷ ns)) h = record {
  at = λ ts e.
      let x = (token (codes "[") ⨟ left {b = nothing} (right {a = sign (codes "+")} (right {a = sign (codes "*")} (right {a = up_to 7 dot} (extents_read 7 n ns (let k = h.0 in omega arith) h.1.0 h.1.1)))) ⨟ token (codes "]")).at ts e in
      (inl (x.0.0, (inl (inr (inr (inr x.0.1.0))), x.0.1.1)), x.1, ap Known x.2.1.0);
}
part_read (Rank zero) h = absurd (let k = h.0 in omega arith)
part_read (Rank (suc n)) h = record {
  at = λ ts e.
      let x = (token (codes "[") ⨟ left {b = nothing} (right {a = sign (codes "+")} (right {a = sign (codes "*")} (left {b = up_to 7 (term number)} (dots_read 7 n (let k = h.1 in omega arith))))) ⨟ token (codes "]")).at ts e in
      (inl (x.0.0, (inl (inr (inr (inl x.0.1.0))), x.0.1.1)), x.1, ap Rank x.2.1.0);
}
part_read Plus h = record {
  at = λ ts e.
      let x = (token (codes "[") ⨟ left {b = nothing} (left {b = alt (sign (codes "*")) (alt (up_to 7 dot) (up_to 7 (term number)))} (token (codes "+"))) ⨟ token (codes "]")).at ts e in
      (inl (x.0.0, (inl (inl x.0.1.0), x.0.1.1)), x.1, refl);
}
part_read Star h = record {
  at = λ ts e.
      let x = (token (codes "[") ⨟ left {b = nothing} (right {a = sign (codes "+")} (left {b = alt (up_to 7 dot) (up_to 7 (term number))} (token (codes "*")))) ⨟ token (codes "]")).at ts e in
      (inl (x.0.0, (inl (inr (inl x.0.1.0)), x.0.1.1)), x.1, refl);
}

type_read : (ty : ArrayType) → FitsType ty → Phrase type' (type_texts ty) (λ q. q ≡ ty)
type_read ty h = by_rule type' (base_read ty.base ⨟ part_read ty.part h) (λ x is. (λ i. record { base = is.0 i; part = is.1 i }))

param_read : (p : Param) → FitsParam p → Phrase param (param_texts p) (λ q. bare_param q ≡ bare_param p)
param_read p h = by_rule param (a_ref (type_read p.ty h.0) ⨟ a_name p.name h.1.is) (λ x is. (λ i. record { ty = is.0 i; name = is.1 i; site = nowhere }))

-- ---- lists with commas

module _ (k : Nonterminal) {A : Type 0} (f : A → Texts) (P : A → Type 0) (Q : A → Tree k → Type 0) (each : (x : A) → P x → Phrase k (f x) (Q x)) where
  abbrev Comma : Rule
  Comma = seq (sign (codes ",")) (ref k)

  abbrev more : List A → Texts
  more [] = []
  more (x ∷ xs) = codes "," ∷ (f x ++ more xs)

  commas_are : (x : A) (xs : List A) → commas (map f (x ∷ xs)) ≡ f x ++ more xs
  commas_are x [] = sym (append-nil (f x))
  commas_are x (y ∷ xs) = ap (λ l. f x ++ (codes "," ∷ l)) (commas_are y xs)

  abbrev Same : List A → List (Tree k) → Type 0
  Same [] qs = qs ≡ []
  Same (x ∷ xs) [] = ⊥
  Same (x ∷ xs) (q ∷ qs) = Q x q × Same xs qs

  read_more : (xs : List A) → AllByRecursion P xs → ReadsEach Comma (more xs) (λ vs. Same xs (map (λ p. p.1) vs))
  read_more [] h = record { at = λ ts e. let x = (no_parts {a = Comma}).at ts e in (x.0, x.1, ap (map (λ p. p.1)) x.2) }
  read_more (x ∷ xs) h = record {
    at = λ ts e.
        let y = (a_part (token (codes ",") ⨟ a_ref (each x h.0)) (read_more xs h.1)).at ts e in
        let w = y.2 in
        (y.0, y.1, subst (λ (vs : List (V Comma)). Same (x ∷ xs) (map (λ p. p.1) vs)) (sym w.2) (w.3.1, w.4));
  }

  pub read_all : (x : A) (xs : List A) → P x → AllByRecursion P xs → Reads {X = V (seq (ref k) (many Comma))} (seq (ref k) (many Comma)) (commas (map f (x ∷ xs))) (λ v. v) (λ v. Same (x ∷ xs) (items v))
  read_all x xs h all = record {
    at = λ ts e.
        let y = (a_ref (each x h) ⨟ read_more xs all).at ts (e ∙ commas_are x xs) in
        (y.0, y.1, (y.2.0, y.2.1));
  }

-- ---- functions and programs

types_same : (ts : List ArrayType) (qs : List ArrayType) → Same type' {A = ArrayType} type_texts FitsType (λ ty q. q ≡ ty) type_read ts qs → qs ≡ ts
types_same [] qs h = h
types_same (t ∷ ts) [] h = absurd h
types_same (t ∷ ts) (q ∷ qs) h = (λ i. h.0 i ∷ types_same ts qs h.1 i)

params_same : (ps qs : List Param) → Same param {A = Param} param_texts FitsParam (λ p q. bare_param q ≡ bare_param p) param_read ps qs → map bare_param qs ≡ map bare_param ps
params_same [] qs h = ap (map bare_param) h
params_same (p ∷ ps) [] h = absurd h
params_same (p ∷ ps) (q ∷ qs) h = (λ i. h.0 i ∷ params_same ps qs h.1 i)

inline_read : (b : Bool) → Reads {X = V (opt (sign (codes "inline")))} (opt (sign (codes "inline"))) (inline_texts b) (λ v. v) (λ v. is_there v ≡ b)
inline_read true = record { at = λ ts e. let x = (left {b = nothing} (token (codes "inline"))).at ts e in (inl x.0, x.1, refl) }
inline_read false = record { at = λ ts e. let x = (absent {a = sign (codes "inline")}).at ts e in (inr tt, x.1, refl) }

results_read : (ts : List ArrayType) → FitResults ts → Reads {X = V (seq (ref type') (many (seq (sign (codes ",")) (ref type'))))} (seq (ref type') (many (seq (sign (codes ",")) (ref type')))) (commas (map type_texts ts)) (λ v. v) (λ v. items v ≡ ts)
results_read [] h = absurd h
results_read (t ∷ ts) h = record { at = λ us e. let x = (read_all type' type_texts FitsType (λ ty q. q ≡ ty) type_read t ts h.0 h.1).at us e in (x.0, x.1, types_same (t ∷ ts) (items x.0) x.2) }

abbrev Params : Rule
Params = opt (seq (ref param) (many (seq (sign (codes ",")) (ref param))))

params_read : (ps : List Param) → AllByRecursion FitsParam ps → Reads {X = V Params} Params (commas (map param_texts ps)) (λ v. v) (λ v. map bare_param (maybe_items v) ≡ map bare_param ps)
params_read [] h = record { at = λ us e. let x = (absent {a = seq (ref param) (many (seq (sign (codes ",")) (ref param)))}).at us e in (inr tt, x.1, refl) }
params_read (p ∷ ps) h = record { at = λ us e. let x = (read_all param param_texts FitsParam (λ p q. bare_param q ≡ bare_param p) param_read p ps h.0 h.1).at us e in (inl x.0, x.1, params_same (p ∷ ps) (items x.0) x.2) }

values_read : (es : Exprs) → FitValues es → WholeList es
values_read no_exprs h = absurd h
values_read (expr_and e es) h = whole_list e es (spelled e h.0 level.Expression) (listed es h.1)

function_read : (f : FunctionTree) → FitsFunction f → Phrase function (function_texts f) (λ q. bare_function q ≡ bare_function f)
function_read f h =
    let front : Texts → Texts = λ t. inline_texts f.inline ++ (commas (map type_texts f.results) ++ (f.name ∷ (parens (commas (map param_texts f.params)) ++ (codes "{" ∷ t)))) in
    let inner : Texts = parens (spell_list f.values) ++ one (codes ";") in
    let last : inner ++ one (codes "}") ≡ parens (spell_list f.values) ++ (codes ";" ∷ one (codes "}")) = append_assoc (parens (spell_list f.values)) (one (codes ";")) (one (codes "}")) in
    alike (ap front (append_assoc (spell_block f.body) (codes "return" ∷ inner) (one (codes "}")) ∙ ap (λ t. spell_block f.body ++ (codes "return" ∷ t)) last))
    (by_rule function
    (inline_read f.inline ⨟ results_read f.results h.results ⨟ a_name f.name h.name.is ⨟ (token (codes "(") ⨟ params_read f.params h.params ⨟ token (codes ")")) ⨟ token (codes "{") ⨟ block f.body h.body ⨟ token (codes "return") ⨟ (token (codes "(") ⨟ values_read f.values h.values ⨟ token (codes ")")) ⨟ token (codes ";") ⨟ token (codes "}"))
    (λ x is. (λ i. record {
      inline = is.0 i;
      results = is.1.0 i;
      name = is.1.1.0 i;
      site = nowhere;
      params = is.1.1.1.0.1.0 i;
      body = is.1.1.1.1.1.0 i;
      values = is.1.1.1.1.1.1.1.0.1.0 i;
      ends = nowhere;
    })))

functions_read : (fs : List FunctionTree) → AllByRecursion FitsFunction fs → ReadsEach (ref function) (functions_texts fs) (λ qs. map bare_function qs ≡ map bare_function fs)
functions_read [] h = record { at = λ ts e. let x = (no_parts {a = ref function}).at ts e in (x.0, x.1, ap (map bare_function) x.2) }
functions_read (f ∷ fs) h = record {
  at = λ ts e.
      let x = (a_part (a_ref (function_read f h.0)) (functions_read fs h.1)).at ts e in
      let w = x.2 in
      (x.0, x.1, ap (map bare_function) w.2 ∙ (λ i. w.3 i ∷ w.4 i));
}

the_end : Reads {X = Lexeme} (term end) ([] ∷ []) (λ t. t) (λ t. ⊤)
the_end = record { at = λ ts e. let x = one_token [] ts e in (x.0, (x.1, ap is_end x.2), tt) }

-- tokens with the canonical texts, and an end token behind them, are a program with an equal tree, aside from sites
pub program_read : (p : ProgramTree) → FitsProgram p → (ts : List Lexeme) → texts_of ts ≡ program_texts p ++ ([] ∷ []) → (q : ProgramTree) × IsProgram ts q × (bare_program q ≡ bare_program p)
program_read p h ts e = (by_rule program {Q = λ q. bare_program q ≡ bare_program p} (functions_read p.functions h ⨟ the_end) (λ x is. (λ i. record { functions = is.0 i; end = nowhere }))).at ts e
