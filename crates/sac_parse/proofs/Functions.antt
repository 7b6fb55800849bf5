-- A function, from its parts.
use Rattle.std.proofs.Common.{ℕ, ◌≡◌, ◌+◌, ◌≤◌, ◌++◌, List, [], ◌∷◌, Bool, true, false, ◌⊎◌, inl, inr, Result, Ok, Err, IsErrAnd, Bor, refl, sym, ap, subst, map, max, arith}
use Rattle.std.specs.Global.{Vec}
use Rattle.sac_base.specs.declared.site.Site.{Site}
use Rattle.sac_base.specs.declared.name.Name.{Name}
use Rattle.sac_base.specs.declared.types.ArrayType.{ArrayType}
use Rattle.sac_lex.specs.declared.token.Token.{Token}
use Rattle.sac_ast.specs.declared.Param.{Param}
use Rattle.sac_ast.specs.declared.Expression.{Expression}
use Rattle.sac_ast.specs.declared.Statement.{Statement}
use Rattle.sac_ast.specs.declared.Function.{Function}
use Rattle.sac_ast.specs.declared.Program.{Program}
use Rattle.sac_ast.specs.Texts.{Lexeme}
use Rattle.sac_ast.specs.Shape.{ref, term, end}
use Rattle.sac_ast.specs.Tree.{FunctionTree, Expr, Stmt}
use Rattle.sac_ast.specs.View as View
use Rattle.sac_ast.specs.View.{exprs_of, block_of}
use Rattle.sac_ast.specs.Grammar.{Nonterminal, V, rule, program, function, items, maybe_items, is_there, concat}
use Rattle.sac_ast.specs.Heights.{heights, block_height, function_height}
use Rattle.sac_grammar.specs.Run.{starts}
use Rattle.sac_grammar.specs.Tables.{first_of}
use Rattle.sac_grammar.specs.Parsing.{Found, Reading, stuck, high, Halted, Halts, Parts}
use Rattle.sac_grammar.proofs.Parsing.{found, read_then, read_parts, read_ref, one_more_part, stops, stop_left, stop_right, stop_parts, stop_ref}
use Rattle.sac_grammar.proofs.Stops.{StopsBefore}
use Rattle.sac_grammar.proofs.Verdicts.{AllLow, none_high}
use Rattle.sac_phrases.specs.declared.halt.Halt.{Halt}
use Rattle.sac_phrases.specs.Contract.{StopOf}
use Rattle.sac_parse.specs.Programs.{IsFunctionAt, IsProgramAt, IsNotLate}

pub function_error : (checked : Bool) (ts : List Lexeme) (r : Result (Function × Bor (List Token)) Halt) (e : Halt) → IsErrAnd r (λ f. f ≡ e) → Halted (StopOf e) checked 0 function ts → IsFunctionAt checked ts r
function_error checked ts (Ok x) e p h = absurd p
function_error checked ts (Err f) e p h = subst (λ g. Halted (StopOf g) checked 0 function ts) (sym p) h

pub whole_function : {ts rest : List Lexeme} {v : V (rule function)} {inline : Bool} {name : Name} {ends : Site} (results : Vec ArrayType) (params : Vec Param) (body : Vec Statement) (values : Vec Expression) → Reading (rule function) ts v rest → inline ≡ is_there v.0 → results.items ≡ items v.1.0 → name ≡ v.1.1.0.text → params.items ≡ maybe_items v.1.1.1.0.1.0 → map View.stmt body.items ≡ concat v.1.1.1.1.1.0 → map View.expr values.items ≡ items v.1.1.1.1.1.1.1.0.1.0 → ends ≡ v.1.1.1.1.1.1.0.site → Found function ts (View.function (record { inline = inline; results = results; name = name; site = v.1.1.0.site; params = params; body = body; values = values; ends = ends })) rest
whole_function {ts} {rest} {v} {inline} {name} {ends} results params body values f i r n p b e s =
    subst (λ (g : FunctionTree). Found function ts g rest) (λ k. record {
      inline = sym i k;
      results = sym r k;
      name = sym n k;
      site = v.1.1.0.site;
      params = sym p k;
      body = block_of (sym b k);
      values = exprs_of (sym e k);
      ends = sym s k;
    }) (found {k = function} f)

pub low_function : {ss : List Stmt} {es : List Expr} (body : Vec Statement) (values : Vec Expression) → map View.stmt body.items ≡ ss → map View.expr values.items ≡ es → block_height (block_of ss) ≤ 99 → 0 + heights (exprs_of es) ≤ 99 → 1 + max (block_height (View.block body.items)) (heights (View.exprs values.items)) ≤ 100
low_function {ss} {es} body values b e low few =
    let m = ap (λ l. block_height (block_of l)) b in
    let n = ap (λ l. heights (exprs_of l)) e in
    omega arith

-- ---- programs

pub program_error : (checked : Bool) (ts : List Lexeme) (r : Result (Program × Bor (List Token)) Halt) (e : Halt) → IsErrAnd r (λ f. f ≡ e) → Halted (StopOf e) checked 0 program ts × IsNotLate e checked ts → IsProgramAt checked ts r
program_error checked ts (Ok x) e p h = absurd p
program_error checked ts (Err f) e p h = subst (λ g. Halted (StopOf g) checked 0 program ts × IsNotLate g checked ts) (sym p) h

-- these functions were read so far, and none of them is too high
pub record Functions (checked : Bool) (ts : List Lexeme) (fs : List Function) (rest : List Lexeme) : Type 0 where
  pub read : Parts (ref function) ts (map View.function fs) rest
  pub low : checked ≡ true → AllLow (map View.function fs)

pub no_functions : (checked : Bool) (ts : List Lexeme) (fs : List Function) (rest : List Lexeme) → fs ≡ [] → rest ≡ ts → Functions checked ts fs rest
no_functions checked ts fs rest e same = subst (λ l. Functions checked ts l rest) (sym e) (record { read = record { each = same }; low = λ c. tt })

all_more : (fs : List FunctionTree) (f : FunctionTree) → AllLow fs → function_height f ≤ 100 → AllLow (fs ++ (f ∷ []))
all_more [] f low h = (h, tt)
all_more (g ∷ fs) f low h = (low.0, all_more fs f low.1 h)

map_more : (fs : List Function) (f : Function) → map View.function (fs ++ (f ∷ [])) ≡ map View.function fs ++ (View.function f ∷ [])
map_more [] f = refl
map_more (g ∷ fs) f = ap (λ l. View.function g ∷ l) (map_more fs f)

pub more_functions : (checked : Bool) (ts : List Lexeme) (fs : List Function) (f : Function) (mid rest : List Lexeme) → Functions checked ts fs mid → starts (first_of function) mid ≡ true → Found function mid (View.function f) rest → (checked ≡ true → function_height (View.function f) ≤ 100) → Functions checked ts (fs ++ (f ∷ [])) rest
more_functions checked ts fs f mid rest l s g low = record {
  read = subst (λ vs. Parts (ref function) ts vs rest) (sym (map_more fs f)) (one_more_part l.read s (read_ref g));
  low = λ c. subst AllLow (sym (map_more fs f)) (all_more (map View.function fs) (View.function f) (l.low c) (low c));
}

-- stuck or too high in a function
stops_before : (e : Halt) (checked : Bool) (mid r : List Lexeme) → Halted (StopOf e) checked 0 function mid → StopOf e (stuck r) ⊎ StopOf e (high r) → StopsBefore mid r
stops_before e checked mid r h (inl p) = inl (h.at (stuck r) p)
stops_before e checked mid r h (inr p) = inr (inl (h.at (high r) p))

pub function_stops : (e : Halt) (checked : Bool) (ts : List Lexeme) (fs : List Function) (mid : List Lexeme) → Functions checked ts fs mid → starts (first_of function) mid ≡ true → Halted (StopOf e) checked 0 function mid → Halted (StopOf e) checked 0 program ts × IsNotLate e checked ts
function_stops e checked ts fs mid l s h = (
  stops {k = program} (stop_left (stop_parts l.read s (stop_ref h))),
  λ c r p. none_high ts mid r (map View.function fs) l.read.each (l.low c) (stops_before e checked mid r h p),
)

-- stuck behind the functions
pub end_stops : (e : Halt) (checked : Bool) (ts : List Lexeme) (fs : List Function) (mid : List Lexeme) → Functions checked ts fs mid → starts (first_of function) mid ≡ false → ((D : Nonterminal → ℕ) → Halts (StopOf e) checked D (term end) mid) → Halted (StopOf e) checked 0 program ts × IsNotLate e checked ts
end_stops e checked ts fs mid l s h = (
  stops {k = program} (stop_right (read_parts l.read s) (h _)),
  λ c r p. none_high ts mid r (map View.function fs) l.read.each (l.low c) (inr (inr s)),
)

pub whole_program : {ts mid rest : List Lexeme} {checked : Bool} {t : Lexeme} (functions : Vec Function) → Functions checked ts functions.items mid → starts (first_of function) mid ≡ false → Reading (term end) mid t rest → Found program ts (View.program (record { functions = functions; end = t.site })) rest
whole_program functions l s f = found {k = program} (read_then (read_parts l.read s) f)
