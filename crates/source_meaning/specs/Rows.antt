-- The meaning of some programs, computed from the definitions. A column is that of the source text that is shown.
use Rattle.std.specs.Prelude.{◌≡◌, ℕ, List, [], ◌∷◌, ◌++◌, Bool, true, false, Ok, codes, map}
use Rattle.std.specs.Prelude.{pos, negsuc, ℤ}
use Rattle.sac_base.specs.declared.site.Site.{Site}
use Rattle.sac_base.specs.declared.base.Base.TheVariants.{Int}
use Rattle.sac_base.specs.declared.op.Op.TheVariants.{Add, Mul, Sub, Div, Rem, Lt, Eq, Neg, And}
use Rattle.sac_base.specs.declared.faults.FaultKind.TheVariants.{F1, F2, F3, F4, F5, F6, F7, F8, F9, F10}
use Rattle.sac_base.specs.declared.faults.Caps.{Caps}
use Rattle.sac_base.specs.declared.types.ArrayType.{ArrayType}
use Rattle.sac_base.specs.declared.types.Part.{Part}
use Rattle.sac_base.specs.declared.types.Part.TheVariants.{Known, Rank, Star}
use Rattle.sac_base.specs.declared.name.Name.{Name}
use Rattle.sac_base.specs.Arrays.{ArrayValue, scalar, vector}
use Rattle.sac_base.specs.Outcomes.{Ends, fault}
use Rattle.sac_ast.specs.declared.Param.{Param}
use Rattle.sac_ast.specs.declared.Target.{Target}
use Rattle.sac_ast.specs.declared.Builtin.TheVariants.{Shape}
use Rattle.sac_ast.specs.Tree.{Expr, Exprs, no_exprs, expr_and, MaybeExpr, given, left_out, Block, no_stmts, stmt_and, Stmt, FunctionTree, ProgramTree, number, truth, variable, binary, unary, literal, select, choice, call, builtin, with_loop, Gen, gen, Gens, gen_and, no_gens, at, named, parts, assign, while_do, do_while, OperationTree, genarray, modarray}
use Rattle.sac_ast.specs.Tree
use Rattle.source_meaning.specs.Calls.{outcome}

abbrev site : ℕ → ℕ → Site
site l c = record { line = l; col = c }

-- a site that no fault of the program has
abbrev s : Site
s = site 0 0

abbrev ints : Part → ArrayType
ints part = record { base = Int; part = part }

abbrev num : ℕ → Expr
num n = number (pos n) s

abbrev minus : Expr → Expr
minus e = unary Neg e s

abbrev exprs : List Expr → Exprs
exprs [] = no_exprs
exprs (e ∷ es) = expr_and e (exprs es)

abbrev stmts : List Stmt → Block
stmts [] = no_stmts
stmts (x ∷ xs) = stmt_and x (stmts xs)

abbrev gens : List Gen → Gens
gens [] = no_gens
gens (g ∷ gs) = gen_and g (gens gs)

abbrev lit : List Expr → Expr
lit es = literal (exprs es) s

abbrev vec : List ℕ → Expr
vec ns = lit (map num ns)

abbrev target : Name → Target
target name = record { name = name; site = s }

abbrev set : Name → Expr → Stmt
set name e = assign (target name ∷ []) e

abbrev var : Name → Expr
var name = variable name s

abbrev iv : Name
iv = codes "iv"

-- iv[0]
abbrev iv0 : Expr
iv0 = select (var iv) (num 0) s

-- ([low] <= iv < [high]) : cell;
abbrev over : ℕ → ℕ → Site → Expr → Gen
over low high g cell = gen (at (vec (low ∷ []))) true (named (target iv)) (at (vec (high ∷ []))) false left_out left_out no_stmts cell g

abbrev with_in : List Gen → OperationTree → Expr
with_in gs op = with_loop (gens gs) op s

abbrev param : Name → ArrayType → Param
param name ty = record { ty = ty; name = name; site = s }

abbrev function : Bool → Name → List Param → ArrayType → Block → Expr → FunctionTree
function inline name params ty body value = record {
  inline = inline;
  results = ty ∷ [];
  name = name;
  site = site 1 5;
  params = params;
  body = body;
  values = expr_and value no_exprs;
  ends = site 1 9;
}

abbrev main_of : List Param → Block → Expr → FunctionTree
main_of params body value = function false (codes "main") params (ints Star) body value

abbrev caps : Caps
caps = record { turns = 10; depth = 5 }

abbrev run : List FunctionTree → List ArrayValue → Ends (List ArrayValue)
run fs args = outcome (record { functions = fs; end = site 9 1 }) args caps

abbrev gives : Expr → Ends (List ArrayValue)
gives e = run (main_of [] no_stmts e ∷ []) []

abbrev ok : List ℤ → Ends (List ArrayValue)
ok zs = Ok (vector Int zs ∷ [])

abbrev one : ℤ → Ends (List ArrayValue)
one z = Ok (scalar Int z ∷ [])

-- dots: with { (. <= iv <= .) : iv[0]; } : genarray([3], 9), and with (. < iv < .)
abbrev dots : Bool → Expr
dots closed = with_in (gen (Tree.dot s) closed (named (target iv)) (Tree.dot s) closed left_out left_out no_stmts iv0 s ∷ []) (genarray (vec (3 ∷
    [])) (given (num 9)) s)

-- one step of the Game of Life on 5 by 5 cells
abbrev i : Expr
i = var (codes "i")

abbrev j : Expr
j = var (codes "j")

abbrev plus : Expr → Expr → Expr
plus e f = binary Add e f s

abbrev less : Expr → Expr → Expr
less e f = binary Sub e f s

abbrev a_at : Expr → Expr → Expr
a_at e f = select (var (codes "a")) (lit (e ∷ f ∷ [])) s

abbrev neighbours : Expr
neighbours = plus (plus (plus (plus (plus (plus (plus (a_at (less i (num 1)) (less j (num 1))) (a_at (less i (num 1)) j)) (a_at (less i (num 1))
    (plus j (num 1)))) (a_at i (less j (num 1)))) (a_at i (plus j (num 1)))) (a_at (plus i (num 1)) (less j (num 1)))) (a_at (plus i (num 1)) j))
    (a_at (plus i (num 1)) (plus j (num 1)))

abbrev life : FunctionTree
life = function false (codes "life") (param (codes "a") (ints (Rank 2)) ∷ []) (ints (Rank 2)) no_stmts
    (with_in (gen (at (vec (1 ∷ 1 ∷ []))) true (parts (target (codes "i") ∷ target (codes "j") ∷ [])) (at (less (builtin Shape (exprs (var (codes
    "a") ∷ [])) s) (num 1))) false left_out left_out
    (stmts (set (codes "n") neighbours ∷ []))
    (choice (binary Eq (var (codes "n")) (num 3) s) (num 1) (choice (binary Eq (var (codes "n")) (num 2) s) (a_at i j) (num 0) s) s) s ∷ [])
    (genarray (builtin Shape (exprs (var (codes "a") ∷ [])) s) (given (num 0)) s))

abbrev board : List ℕ → ArrayValue
board ns = record { base = Int; shape = 5 ∷ 5 ∷ []; cells = map pos ns }

-- i = 0; while (test) { i = i + 1; } return (i);
abbrev counting : Expr → List FunctionTree
counting test = main_of [] (stmts (set (codes "i") (num 0) ∷ while_do test (stmts (set (codes "i") (plus i (num 1)) ∷ [])) (site 1 21) ∷ [])) i ∷ []

-- the test of a `do` comes after its first turn: i = 0; do { i = i + 1; } while (i < 10); and while (i < 11)
abbrev do_counting : ℕ → List FunctionTree
do_counting n = main_of [] (stmts (set (codes "i") (num 0) ∷ do_while (stmts (set (codes "i") (plus i (num 1)) ∷ [])) (binary Lt i (num n) s) (site
    1 21) s ∷ [])) i ∷ []

-- int f(int n) { return (n == 0 ? 0 : 1 + f(n - 1)); }, from a main that returns f(n)
abbrev counts_down : Bool → ℕ → List FunctionTree
counts_down inline n = function inline (codes "f") (param (codes "n") (ints (Known [])) ∷ []) (ints (Known [])) no_stmts
    (choice (binary Eq (var (codes "n")) (num 0) s) (num 0) (plus (num 1) (call (codes "f") (exprs (less (var (codes "n")) (num 1) ∷ [])) (site 1
    41))) s)
    ∷ main_of [] no_stmts (call (codes "f") (exprs (num n ∷ [])) (site 2 22)) ∷ []

-- int f(int x), int f(int[.] x) and int f(int[*] x): the most specific instance is taken
abbrev three : List FunctionTree
three = function false (codes "f") (param (codes "x") (ints Star) ∷ []) (ints (Known [])) no_stmts (num 3)
    ∷ function false (codes "f") (param (codes "x") (ints (Rank 1)) ∷ []) (ints (Known [])) no_stmts (num 2)
    ∷ function false (codes "f") (param (codes "x") (ints (Known [])) ∷ []) (ints (Known [])) no_stmts (num 1)
    ∷ []

abbrev f_of : Expr → Expr
f_of e = call (codes "f") (exprs (e ∷ [])) s

-- ---- what the programs come to

pub record WorkedPrograms : Type 0 where
  -- 2 + 3 * 4
  pub sum_and_product : gives (binary Add (num 2) (binary Mul (num 3) (num 4) s) s) ≡ one (pos 14)
  -- 2147483647 + 1
  pub sum_wraps : gives (binary Add (num 2147483647) (num 1) s) ≡ one (negsuc 2147483647)
  -- (0 - 2147483647 - 1) / -1
  pub quotient_wraps : gives (binary Div (binary Sub (binary Sub (num 0) (num 2147483647) s) (num 1) s) (minus (num 1)) s) ≡ one (negsuc 2147483647)
  -- [-7 / 2, -7 % 2]
  pub quotient_goes_to_zero : gives (lit (binary Div (minus (num 7)) (num 2) s ∷ binary Rem (minus (num 7)) (num 2) s ∷ [])) ≡ ok (negsuc 2 ∷
      negsuc 0 ∷ [])
  -- `&&` evaluates both operands: false && 1 / 0 == 1
  pub both_operands : gives (binary And (truth false s) (binary Eq (binary Div (num 1) (num 0) (site 1 31)) (num 1) s) s) ≡ fault F2 (site 1 31)
  -- with { ([0] <= iv < [10] step [4] width [2]) : iv[0]; } : genarray([10], -1)
  pub last_period_is_cut : gives (with_in (gen (at (vec (0 ∷ []))) true (named (target iv)) (at (vec (10 ∷ []))) false (given (vec (4 ∷ [])))
      (given (vec (2 ∷ []))) no_stmts iv0 s ∷ []) (genarray (vec (10 ∷ [])) (given (minus (num 1))) s))
      ≡ ok (pos 0 ∷ pos 1 ∷ negsuc 0 ∷ negsuc 0 ∷ pos 4 ∷ pos 5 ∷ negsuc 0 ∷ negsuc 0 ∷ pos 8 ∷ pos 9 ∷ [])
  -- with { } : genarray([0], 7), and the same with []
  pub no_index : gives (with_in [] (genarray (vec (0 ∷ [])) (given (num 7)) s)) ≡ ok []
  pub one_index : gives (with_in [] (genarray (lit []) (given (num 7)) s)) ≡ one (pos 7)
  -- a missing default has the base of the first generator's cell: with { ([1] <= iv < [2]) : true; } : genarray([2])
  pub missing_default : gives (with_in (over 1 2 s (truth true s) ∷ []) (genarray (vec (2 ∷ [])) left_out s)) ≡ fault F7 (site 1 9)
  -- with { ([3] <= iv < [3]) : iv[0]; } : fold(+, 5), and the same from 0 to 4
  pub empty_fold : gives (with_in (over 3 3 s iv0 ∷ []) (Tree.fold Add (num 5) s)) ≡ one (pos 5)
  pub neutral_once : gives (with_in (over 0 4 s iv0 ∷ []) (Tree.fold Add (num 5) s)) ≡ one (pos 11)
  -- the frame of a fold goes from the least lower to the greatest upper bound: with { ([6] <= iv < [8]) : iv[0]; ([1] <= iv < [3]) : 10 * iv[0]; } : fold(+, 0)
  pub fold_of_two : gives (with_in (over 6 8 s iv0 ∷ over 1 3 s (binary Mul (num 10) iv0 s) ∷ []) (Tree.fold Add (num 0) s)) ≡ one (pos 43)
  -- int[*] main() { return (with { ([0] <= iv < [16]) : 10 / (iv[0] - 2); } : genarray([16], 0)); }
  pub least_fault : gives (with_in (over 0 16 s (binary Div (num 10) (binary Sub iv0 (num 2) s) (site 1 56)) ∷ []) (genarray (vec (16 ∷ [])) (given
      (num 0)) s)) ≡ fault F2 (site 1 56)
  -- the fault of the index 2 comes before that of the index 9, also where its generator stands last
  pub least_index_of_two : gives (with_in (over 8 16 s (binary Rem (num 10) (binary Sub iv0 (num 9) s) (site 4 28)) ∷ over 0 8 s (binary Div (num
      10) (binary Sub iv0 (num 2) s) (site 3 28)) ∷ []) (genarray (vec (16 ∷ [])) (given (num 0)) s)) ≡ fault F2 (site 3 28)
  -- the first generator in the text wins: with { ([0] <= iv < [2]) : 1; ([1] <= iv < [4]) : 2; } : genarray([4], 0)
  pub first_generator_wins : gives (with_in (over 0 2 s (num 1) ∷ over 1 4 s (num 2) ∷ []) (genarray (vec (4 ∷ [])) (given (num 0)) s)) ≡ ok (pos 1
      ∷ pos 1 ∷ pos 2 ∷ pos 2 ∷ [])
  pub closed_dots : gives (dots true) ≡ ok (pos 0 ∷ pos 1 ∷ pos 2 ∷ [])
  pub open_dots : gives (dots false) ≡ ok (pos 9 ∷ pos 1 ∷ pos 9 ∷ [])
  -- a bound may lie beyond the frame as long as no member does: with { ([0] <= iv < [7] step [4]) : 1; } : genarray([5], 0)
  pub bound_beyond : gives (with_in (gen (at (vec (0 ∷ []))) true (named (target iv)) (at (vec (7 ∷ []))) false (given (vec (4 ∷ []))) left_out
      no_stmts (num 1) s ∷ []) (genarray (vec (5 ∷ [])) (given (num 0)) s)) ≡ ok (pos 1 ∷ pos 0 ∷ pos 0 ∷ pos 0 ∷ pos 1 ∷ [])
  -- a fault of a cell that no one selects is kept
  pub unselected_fault : run (main_of [] (stmts (set (codes "a") (with_in (over 0 16 s (binary Div (num 100) (binary Sub iv0 (num 15) s) (site 2
      39)) ∷ []) (genarray (vec (16 ∷ [])) (given (num 0)) s))
      ∷ set (codes "b") (with_in (over 0 10 s (select (var (codes "a")) (var iv) s) ∷ []) (genarray (vec (10 ∷ [])) (given (num 0)) s)) ∷ [])) (var
      (codes "b")) ∷ []) []
      ≡ fault F2 (site 2 39)
  -- a nest: iv[0] * 10 + jv[0] over [2] and [3]
  pub nest : gives (with_in (over 0 2 s (with_in (gen (at (vec (0 ∷ []))) true (named (target (codes "jv"))) (at (vec (3 ∷ []))) false left_out
      left_out no_stmts (binary Add (binary Mul iv0 (num 10) s) (select (var (codes "jv")) (num 0) s) s) s ∷ []) (genarray (vec (3 ∷ [])) (given
      (num 0)) s)) ∷ []) (genarray (vec (2 ∷ [])) (given (vec (0 ∷ 0 ∷ 0 ∷ []))) s))
      ≡ Ok (record { base = Int; shape = 2 ∷ 3 ∷ []; cells = pos 0 ∷ pos 1 ∷ pos 2 ∷ pos 10 ∷ pos 11 ∷ pos 12 ∷ [] } ∷ [])
  -- the block of an outer generator faults though the inner frame is empty: ([0] <= iv < [4]) { x = 1 / (iv[0] - 1); } : with { } : genarray([0], x);
  pub empty_inner_frame : gives (with_in (gen (at (vec (0 ∷ []))) true (named (target iv)) (at (vec (4 ∷ []))) false left_out left_out (stmts (set
      (codes "x") (binary Div (num 1) (binary Sub iv0 (num 1) s) (site 3 31)) ∷ [])) (with_in [] (genarray (vec (0 ∷ [])) (given (var (codes "x")))
      s)) s ∷ []) (genarray (vec (4 ∷ [])) (given (lit [])) s)) ≡ fault F2 (site 3 31)
  pub blinker : run (life ∷ main_of (param (codes "a") (ints (Rank 2)) ∷ []) (stmts (set (codes "a") (call (codes "life") (exprs (var (codes "a") ∷
      [])) s) ∷ [])) (var (codes "a")) ∷ [])
      (board (0 ∷ 0 ∷ 0 ∷ 0 ∷ 0 ∷ 0 ∷ 0 ∷ 1 ∷ 0 ∷ 0 ∷ 0 ∷ 0 ∷ 1 ∷ 0 ∷ 0 ∷ 0 ∷ 0 ∷ 1 ∷ 0 ∷ 0 ∷ 0 ∷ 0 ∷ 0 ∷ 0 ∷ 0 ∷ []) ∷ [])
      ≡ Ok (board (0 ∷ 0 ∷ 0 ∷ 0 ∷ 0 ∷ 0 ∷ 0 ∷ 0 ∷ 0 ∷ 0 ∷ 0 ∷ 1 ∷ 1 ∷ 1 ∷ 0 ∷ 0 ∷ 0 ∷ 0 ∷ 0 ∷ 0 ∷ 0 ∷ 0 ∷ 0 ∷ 0 ∷ 0 ∷ []) ∷ [])
  -- with { ([1] <= iv < [3]) : a[iv] + 100; } : modarray(a), on [0, 1, 2, 3]
  pub some_cells_anew : run (main_of (param (codes "a") (ints (Rank 1)) ∷ []) no_stmts (with_in (over 1 3 s (plus (select (var (codes "a")) (var
      iv) s) (num 100)) ∷ []) (modarray (var (codes "a")) s)) ∷ []) (vector Int (pos 0 ∷ pos 1 ∷ pos 2 ∷ pos 3 ∷ []) ∷ [])
      ≡ ok (pos 0 ∷ pos 101 ∷ pos 102 ∷ pos 3 ∷ [])
  -- int[*] main() { return (with { } : genarray([-1], 0)); }, and genarray([5000, 5000], 0)
  pub negative_extent : gives (with_in [] (genarray (lit (minus (num 1) ∷ [])) (given (num 0)) (site 1 36))) ≡ fault F4 (site 1 36)
  pub too_many_elements : gives (with_in [] (genarray (vec (5000 ∷ 5000 ∷ [])) (given (num 0)) (site 1 36))) ≡ fault F8 (site 1 36)
  -- ([0] <= iv < [5]) : 1; in genarray([4], 0), and ([0] <= iv < [4]) : [1];
  pub member_outside : gives (with_in (over 0 5 (site 1 32) (num 1) ∷ []) (genarray (vec (4 ∷ [])) (given (num 0)) s)) ≡ fault F5 (site 1 32)
  pub cell_of_other_shape : gives (with_in (over 0 4 (site 1 32) (vec (1 ∷ [])) ∷ []) (genarray (vec (4 ∷ [])) (given (num 0)) s)) ≡ fault F6 (site
      1 32)
  -- a bound that is a scalar has one element, and is no vector
  pub scalar_bound : gives (with_in (gen (at (num 0)) true (named (target iv)) (at (vec (4 ∷ []))) false left_out left_out no_stmts (num 1) (site 1
      32) ∷ []) (genarray (vec (4 ∷ [])) (given (num 0)) s)) ≡ fault F5 (site 1 32)
  -- [1, 2] + [1, 2, 3]
  pub shapes_differ : gives (binary Add (vec (1 ∷ 2 ∷ [])) (vec (1 ∷ 2 ∷ 3 ∷ [])) (site 1 32)) ≡ fault F3 (site 1 32)
  -- int f(int[3] x) { return (1); } and f([1, 2])
  pub no_instance : run (function false (codes "f") (param (codes "x") (ints (Known (3 ∷ []))) ∷ []) (ints (Known [])) no_stmts (num 1) ∷ main_of
      [] no_stmts (call (codes "f") (exprs (vec (1 ∷ 2 ∷ []) ∷ [])) (site 2 22)) ∷ []) [] ≡ fault F7 (site 2 22)
  -- a = [1, 2, 3]; return (a[3]), and a[-1]
  pub index_too_large : run (main_of [] (stmts (set (codes "a") (vec (1 ∷ 2 ∷ 3 ∷ [])) ∷ [])) (select (var (codes "a")) (num 3) (site 1 38)) ∷ [])
      [] ≡ fault F1 (site 1 38)
  pub index_too_small : run (main_of [] (stmts (set (codes "a") (vec (1 ∷ 2 ∷ 3 ∷ [])) ∷ [])) (select (var (codes "a")) (minus (num 1)) (site 1
      38)) ∷ []) [] ≡ fault F1 (site 1 38)
  -- a[1] = 9; makes a new array
  pub replaced_cell : run (main_of [] (stmts (set (codes "a") (vec (1 ∷ 2 ∷ 3 ∷ [])) ∷ Tree.replace (target (codes "a")) s (num 1) (num 9) ∷ []))
      (var (codes "a")) ∷ []) [] ≡ ok (pos 1 ∷ pos 9 ∷ pos 3 ∷ [])
  pub ten_turns : run (counting (binary Lt i (num 10) s)) [] ≡ one (pos 10)
  pub too_many_turns : run (counting (truth true s)) [] ≡ fault F9 (site 1 21)
  pub first_turn_untested : run (do_counting 0) [] ≡ one (pos 1)
  pub ten_turns_of_do : run (do_counting 10) [] ≡ one (pos 10)
  pub too_many_turns_of_do : run (do_counting 11) [] ≡ fault F9 (site 1 21)
  pub deep_enough : run (counts_down false 4) [] ≡ one (pos 4)
  pub too_deep : run (counts_down false 5) [] ≡ fault F10 (site 1 41)
  -- an inline function costs no depth
  pub inline_is_free : outcome (record { functions = counts_down true 0; end = s }) [] (record { turns = 0; depth = 0 }) ≡ one (pos 0)
  pub least_instance : run (three ++ main_of [] no_stmts (lit (f_of (num 3) ∷ f_of (vec (4 ∷ 5 ∷ [])) ∷ f_of (lit (vec (1 ∷ 2 ∷ []) ∷ vec (3 ∷ 4 ∷
      []) ∷ [])) ∷ [])) ∷ []) [] ≡ ok (pos 1 ∷ pos 2 ∷ pos 3 ∷ [])
  -- an argument that main's type excludes is a fault at main's name
  pub argument_excluded : run (main_of (param (codes "a") (ints (Rank 1)) ∷ []) no_stmts (var (codes "a")) ∷ []) (scalar Int (pos 5) ∷ []) ≡ fault
      F7 (site 1 5)
