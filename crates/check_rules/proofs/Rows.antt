-- The violations of some programs, computed from the definitions. A column is that of the source text that is shown.
use Rattle.std.proofs.Common.{◌≡◌, ℕ, refl, List, [], ◌∷◌, Bool, true, false, codes, Some}
use Rattle.std.specs.Prelude.{pos}
use Rattle.sac_base.specs.declared.site.Site.{Site}
use Rattle.sac_base.specs.declared.base.Base.{Base}
use Rattle.sac_base.specs.declared.base.Base.TheVariants.{Int, Bool as Truth}
use Rattle.sac_base.specs.declared.op.Op.TheVariants.{Add}
use Rattle.sac_base.specs.declared.types.ArrayType.{ArrayType}
use Rattle.sac_base.specs.declared.types.Part.{Part}
use Rattle.sac_base.specs.declared.types.Part.TheVariants.{Known, Rank, Star}
use Rattle.sac_base.specs.declared.name.Name.{Name}
use Rattle.check_rules.specs.declared.code.CheckCode.{CheckCode}
use Rattle.check_rules.specs.declared.code.CheckCode.TheVariants.{C1, C2, C3, C4, C5, C6, C7, C8, C9, C10}
use Rattle.sac_ast.specs.declared.Param.{Param}
use Rattle.sac_ast.specs.declared.Target.{Target}
use Rattle.sac_ast.specs.Tree.{Expr, Exprs, no_exprs, expr_and, left_out, given, Block, no_stmts, stmt_and, Stmt, FunctionTree, number, truth, variable, binary, literal, call, with_loop, Gen, gen, gen_and, no_gens, at, dot, named, assign, replace, if_else, while_do, do_while, OperationTree, genarray, fold}
use Rattle.check_rules.specs.declared.violation.Violation.{Violation}
use Rattle.check_rules.specs.First.{first_of}
use Rattle.check_rules.specs.Accepted.{violations}

-- ---- short words for trees

abbrev site : ℕ → ℕ → Site
site l c = record { line = l; col = c }

-- a site that no violation has
abbrev s : Site
s = site 9 9

abbrev x : Name
x = codes "x"

abbrev y : Name
y = codes "y"

abbrev f : Name
f = codes "f"

abbrev g : Name
g = codes "g"

abbrev num : ℕ → Expr
num n = number (pos n) s

abbrev yes' : Expr
yes' = truth true s

abbrev exprs : List Expr → Exprs
exprs [] = no_exprs
exprs (e ∷ es) = expr_and e (exprs es)

abbrev stmts : List Stmt → Block
stmts [] = no_stmts
stmts (x ∷ xs) = stmt_and x (stmts xs)

abbrev vec : ℕ → Expr
vec n = literal (exprs (num n ∷ [])) s

abbrev target : Name → ℕ → Target
target name c = record { name = name; site = site 1 c }

abbrev set : Name → ℕ → Expr → Stmt
set name c e = assign (target name c ∷ []) e

abbrev of : Base → Part → ArrayType
of base part = record { base = base; part = part }

abbrev int : ArrayType
int = of Int (Known [])

abbrev param : ArrayType → Name → ℕ → Param
param ty name c = record { ty = ty; name = name; site = site 1 c }

abbrev function : Bool → List ArrayType → Name → Site → List Param → List Stmt → List Expr → ℕ → FunctionTree
function inline results name place params body values ends = record {
  inline = inline;
  results = results;
  name = name;
  site = place;
  params = params;
  body = stmts body;
  values = exprs values;
  ends = site 1 ends;
}

abbrev main_of : List Stmt → List Expr → ℕ → FunctionTree
main_of body values ends = function false (int ∷ []) (codes "main") (site 1 5) [] body values ends

abbrev all : List FunctionTree → List Violation
all fs = violations (record { functions = fs; end = site 8 8 })

abbrev of_main : List Stmt → List Expr → List Violation
of_main body values = all (main_of body values 14 ∷ [])

abbrev found : CheckCode → ℕ → Violation
found code c = record { code = code; site = site 1 c }

-- ---- each rule

-- int main() { return (1); }
accepted : of_main [] (num 1 ∷ []) ≡ []
accepted = refl

-- int main() { return (x); }
unbound : of_main [] (variable x (site 1 22) ∷ []) ≡ found C1 22 ∷ []
unbound = refl

-- int main() { return (g(1)); }
no_function : of_main [] (call g (exprs (num 1 ∷ [])) (site 1 22) ∷ []) ≡ found C2 22 ∷ []
no_function = refl

-- int main() { if (true) { x = 1; } return (x); }
not_on_every_path : of_main (if_else yes' (stmts (set x 26 (num 1) ∷ [])) no_stmts (site 1 14) ∷ []) (variable x (site 1 43) ∷ []) ≡ found C5 43 ∷ []
not_on_every_path = refl

-- int main() { x, y = 1; return (x); }: a right side that is no call has one value
several_values : of_main (assign (target x 14 ∷ target y 17 ∷ []) (num 1) ∷ []) (variable x (site 1 32) ∷ []) ≡ found C3 14 ∷ []
several_values = refl

-- int main() { return (1, 2); }
two_returned : of_main [] (num 1 ∷ num 2 ∷ []) ≡ found C3 14 ∷ []
two_returned = refl

-- int main() { return (true + (1 + true)); }: an operand is judged by itself
each_operand : of_main [] (binary Add yes' (binary Add (num 1) yes' (site 1 32)) (site 1 27) ∷ []) ≡ found C4 27 ∷ found C4 32 ∷ []
each_operand = refl

-- int main() { if (x + 1) { } return (1); }: what contains a violation has no base
without_base : of_main (if_else (binary Add (variable x (site 1 18)) (num 1) (site 1 20)) no_stmts no_stmts (site 1 14) ∷ []) (num 1 ∷ []) ≡ found C1 18 ∷ []
without_base = refl

-- int main() { x = true + 1; y = x + 1; y = true; return (y); }: an operator with an operand whose variable has no base has its own
variable_without_base : of_main (set x 14 (binary Add yes' (num 1) (site 1 23)) ∷ set y 28 (binary Add (variable x (site 1 32)) (num 1) (site 1 34)) ∷ set y 39 yes' ∷ []) (variable y (site 1 57) ∷ [])
    ≡ found C4 23 ∷ found C4 39 ∷ []
variable_without_base = refl

-- int main() { x[0] = 1; x = true; return (1); }: a replacement uses its variable, and tells it no base
replaced_first : of_main (replace (target x 14) (site 1 15) (num 0) (num 1) ∷ set x 24 yes' ∷ []) (num 1 ∷ []) ≡ found C5 14 ∷ []
replaced_first = refl

-- int main() { do { x = 1; } while (x); return (x); }
bound_by_a_turn : of_main (do_while (stmts (set x 19 (num 1) ∷ [])) (variable x (site 1 35)) (site 1 14) (site 1 28) ∷ []) (variable x (site 1 47) ∷ []) ≡ found C4 28 ∷ []
bound_by_a_turn = refl

-- int main() { while (true) { x = 1; } return (x); }
not_bound_by_a_turn : of_main (while_do yes' (stmts (set x 29 (num 1) ∷ [])) (site 1 14) ∷ []) (variable x (site 1 46) ∷ []) ≡ found C5 46 ∷ []
not_bound_by_a_turn = refl

-- with { ([0] <= x < [2]) { y = 1; } : y; } : genarray([3], true): the base of the cell is the default's
abbrev one_loop : Gen → OperationTree → Expr
one_loop generator op = with_loop (gen_and generator no_gens) op s

abbrev span : Name → Block → Expr → ℕ → Gen
span name block cell c = gen (at (vec 0)) true (named (target name 33)) (at (vec 2)) false left_out left_out block cell (site 1 c)

other_cell : of_main (set f 14 (one_loop (span x (stmts (set y 50 (num 1) ∷ [])) (variable y (site 1 60)) 30) (genarray (vec 3) (given yes') (site 1 70))) ∷ []) (num 1 ∷ []) ≡ found C4 30 ∷ []
other_cell = refl

-- the index name and what the block binds end with the generator: with { ([0] <= x < [2]) : x; } : genarray([3], [0]) + x
index_ends : of_main [] (binary Add (one_loop (span x no_stmts (variable x (site 1 60)) 30) (genarray (vec 3) (given (num 0)) (site 1 70))) (variable x (site 1 90)) s ∷ []) ≡ found C5 90 ∷ []
index_ends = refl

-- with { ([0] <= x < [2]) : true; } : fold(+, true): the rule on the operation's base stands at the word, and the neutral value has a base
neutral_value : of_main [] (one_loop (span x no_stmts yes' 30) (fold Add yes' (site 1 70)) ∷ []) ≡ found C4 70 ∷ []
neutral_value = refl

-- with { ([0] <= x < [2]) : 1; } : fold(+, true): the cell needs the neutral value's base
cell_of_fold : of_main [] (one_loop (span x no_stmts (num 1) 30) (fold Add yes' (site 1 70)) ∷ []) ≡ found C4 30 ∷ found C4 70 ∷ []
cell_of_fold = refl

-- with { (. <= x < [2]) : 1; } : fold(+, 0)
dot_of_fold : of_main [] (one_loop (gen (dot (site 1 30)) true (named (target x 33)) (at (vec 2)) false left_out left_out no_stmts (num 1) s) (fold Add (num 0) s) ∷ []) ≡ found C10 30 ∷ []
dot_of_fold = refl

-- int main() { x, x = f(); return (x); } with int, int f() { return (1, 2); }
twice_a_target : all (function false (int ∷ int ∷ []) f s [] [] (num 1 ∷ num 2 ∷ []) 9 ∷ main_of (assign (target x 14 ∷ target x 17 ∷ []) (call f no_exprs (site 1 21)) ∷ []) (variable x (site 1 34) ∷ []) 26 ∷ [])
    ≡ found C9 17 ∷ []
twice_a_target = refl

-- a call with one result for two targets is no value of either: a, b = f() with bool f() { return (true); }
few_results : all (function false (of Truth (Known []) ∷ []) f s [] [] (yes' ∷ []) 9 ∷ main_of (set x 14 (num 1) ∷ assign (target x 21 ∷ target y 24 ∷ []) (call f no_exprs (site 1 28)) ∷ []) (variable x (site 1 41) ∷ []) 33 ∷ [])
    ≡ found C3 28 ∷ []
few_results = refl

-- int f(int[.] x, int[*] y) { return (1); }
-- int f(int[*] x, int[.] y) { return (2); }
clash : all (function false (int ∷ []) f (site 1 5) (param (of Int (Rank 1)) x 14 ∷ param (of Int Star) y 24 ∷ []) [] (num 1 ∷ []) 29
    ∷ function false (int ∷ []) f (site 2 5) (param (of Int Star) x 14 ∷ param (of Int (Rank 1)) y 24 ∷ []) [] (num 2 ∷ []) 29 ∷ main_of [] (num 1 ∷ []) 14 ∷ [])
    ≡ record { code = C6; site = site 2 5 } ∷ []
clash = refl

-- the empty source
no_main : all [] ≡ record { code = C7; site = site 8 8 } ∷ []
no_main = refl

-- an inline function that calls its own name, and a main that is inline
inline_itself : all (function true (int ∷ []) f s [] [] (call f no_exprs (site 1 30) ∷ []) 9 ∷ main_of [] (num 1 ∷ []) 14 ∷ []) ≡ found C8 30 ∷ []
inline_itself = refl

inline_main : all (function true (int ∷ []) (codes "main") (site 1 12) [] [] (num 1 ∷ []) 9 ∷ []) ≡ found C8 12 ∷ []
inline_main = refl

-- the first site counts, and there the least rule
first_site : first_of (found C4 30 ∷ found C5 22 ∷ found C1 22 ∷ []) ≡ Some (found C1 22)
first_site = refl
