-- Canonical texts of some programs, computed.
use Rattle.std.proofs.Common.{ℕ, ◌≡◌, true, false, [], ◌∷◌, pos, codes, refl, arith}
use Rattle.std.specs.Fmt.{decimal}
use Rattle.std.proofs.lemmas.Fmt.{decimal_digit}
use Rattle.sac_base.specs.declared.site.Site.{Site}
use Rattle.sac_base.specs.declared.base.Base.TheVariants as base
use Rattle.sac_base.specs.declared.types.Part.TheVariants.{Known, Rank, Plus, Star}
use Rattle.sac_base.specs.declared.op.Op.TheVariants.{Add, Sub, Mul, Min, Neg}
use Rattle.sac_ast.specs.declared.Builtin.TheVariants as builtin
use Rattle.sac_ast.specs.declared.Target.{Target}
use Rattle.sac_ast.specs.Tree
use Rattle.sac_ast.specs.Tree.{Expr, Exprs, no_exprs, expr_and, left_out, given, no_stmts, stmt_and, Gen, gen, Gens, no_gens, gen_and, OperationTree, FunctionTree, ProgramTree, named, parts}
use Rattle.sac_print.specs.Canonical.{canonical}

abbrev at : Site
at = record { line = 1; col = 1 }

d0 : decimal 0 ≡ codes "0"
d0 = decimal_digit 0 (omega arith)

d1 : decimal 1 ≡ codes "1"
d1 = decimal_digit 1 (omega arith)

d2 : decimal 2 ≡ codes "2"
d2 = decimal_digit 2 (omega arith)

d3 : decimal 3 ≡ codes "3"
d3 = decimal_digit 3 (omega arith)

d4 : decimal 4 ≡ codes "4"
d4 = decimal_digit 4 (omega arith)

d5 : decimal 5 ≡ codes "5"
d5 = decimal_digit 5 (omega arith)

d7 : decimal 7 ≡ codes "7"
d7 = decimal_digit 7 (omega arith)

abbrev n : ℕ → Expr
n k = Tree.number (pos k) at

abbrev x : Expr
x = Tree.variable (codes "x") at

abbrev target : Target
target = record { name = codes "x"; site = at }

abbrev returning : Expr → ProgramTree
returning e = record {
  functions = record { inline = false; results = record { base = base.Int; part = Known [] } ∷ []; name = codes "main"; site = at; params = []; body = no_stmts; values = expr_and e no_exprs; ends = at } ∷ [];
  end = at;
}

-- `int main(){return(2+3*4);}`
sum_of_product : canonical (returning (Tree.binary Add (n 2) (Tree.binary Mul (n 3) (n 4) at) at)) ≡ codes "int main ( ) {\nreturn ( 2 + 3 * 4 ) ;\n}\n"
sum_of_product = rw (d2, d3, d4) refl

-- `(2 + 3) * 4` keeps its parentheses, and so does `2 - (3 - 4)`
product_of_sum : canonical (returning (Tree.binary Mul (Tree.binary Add (n 2) (n 3) at) (n 4) at)) ≡ codes "int main ( ) {\nreturn ( ( 2 + 3 ) * 4 ) ;\n}\n"
product_of_sum = rw (d2, d3, d4) refl

right_difference : canonical (returning (Tree.binary Sub (n 2) (Tree.binary Sub (n 3) (n 4) at) at)) ≡ codes "int main ( ) {\nreturn ( 2 - ( 3 - 4 ) ) ;\n}\n"
right_difference = rw (d2, d3, d4) refl

-- `((2 - 3) - 4)` needs none
left_difference : canonical (returning (Tree.binary Sub (Tree.binary Sub (n 2) (n 3) at) (n 4) at)) ≡ codes "int main ( ) {\nreturn ( 2 - 3 - 4 ) ;\n}\n"
left_difference = rw (d2, d3, d4) refl

-- `a ? b : (c ? d : e)` needs none, and `(a ? b : c) ? d : e` does
choices : canonical (returning (Tree.choice (Tree.choice x (n 1) (n 2) at) (n 3) (Tree.choice x (n 4) (n 5) at) at)) ≡ codes "int main ( ) {\nreturn ( ( x ? 1 : 2 ) ? 3 : x ? 4 : 5 ) ;\n}\n"
choices = rw (d1, d2, d3, d4, d5) refl

-- `-x[0]` is the negation of a selection, and `(-x)[0]` selects from the negation
negations : canonical (returning (Tree.binary Add (Tree.unary Neg (Tree.select x (n 0) at) at) (Tree.select (Tree.unary Neg x at) (n 0) at) at)) ≡ codes "int main ( ) {\nreturn ( - x [ 0 ] + ( - x ) [ 0 ] ) ;\n}\n"
negations = rw d0 refl

-- `x[[1, 2]]` is written as `x[1, 2]`, and `x[[1]]` as it is
indices : canonical (returning (Tree.select (Tree.select x (Tree.literal (expr_and (n 1) (expr_and (n 2) no_exprs)) at) at) (Tree.literal (expr_and (n 1) no_exprs) at) at)) ≡ codes "int main ( ) {\nreturn ( x [ 1 , 2 ] [ [ 1 ] ] ) ;\n}\n"
indices = rw (d1, d2) refl

abbrev loop : Expr
loop =
    Tree.with_loop
    (gen_and (gen (Tree.at (Tree.literal (expr_and (n 0) no_exprs) at)) true (named target) (Tree.dot at) false (given (n 2)) left_out no_stmts (n 1) at)
    (gen_and (gen (Tree.dot at) false (parts (target ∷ target ∷ [])) (Tree.at (Tree.choice x x x at)) true left_out (given (n 1)) (stmt_and (Tree.assign (target ∷ target ∷ []) (Tree.call (codes "f") no_exprs at)) no_stmts) (Tree.binary Min x (n 1) at) at) no_gens))
    (Tree.genarray (Tree.builtin builtin.Shape (expr_and x no_exprs) at) (given (n 0)) at)
    at

abbrev program : ProgramTree
program = record {
  functions =
      record {
        inline = true;
        results = record { base = base.Int; part = Rank 2 } ∷ record { base = base.Bool; part = Known (3 ∷ 7 ∷ []) } ∷ [];
        name = codes "f";
        site = at;
        params = record { ty = record { base = base.Int; part = Plus }; name = codes "x"; site = at } ∷ record { ty = record { base = base.Bool; part = Star }; name = codes "y"; site = at } ∷ [];
        body =
            stmt_and (Tree.while_do (Tree.truth true at) (stmt_and (Tree.replace target at (n 0) loop) no_stmts) at)
            (stmt_and (Tree.if_else x no_stmts (stmt_and (Tree.if_else x no_stmts no_stmts at) no_stmts) at)
            (stmt_and (Tree.do_while no_stmts x at at) no_stmts));
        values = expr_and x (expr_and (Tree.truth false at) no_exprs);
        ends = at;
      } ∷ [];
  end = at;
}

whole : canonical program ≡
    codes "inline int [ . , . ] , bool [ 3 , 7 ] f ( int [ + ] x , bool [ * ] y ) {\nwhile ( true ) {\nx [ 0 ] = with {\n( [ 0 ] <= x < . step 2 ) : 1 ;\n( . < [ x , x ] <= ( x ? x : x ) width 1 ) {\nx , x = f ( ) ;\n}\n: min ( x , 1 ) ;\n}\n: genarray ( shape ( x ) , 0 ) ;\n}\nif ( x ) {\n}\nelse {\nif ( x ) {\n}\n}\ndo {\n}\nwhile ( x ) ;\nreturn ( x , false ) ;\n}\n"
whole = rw (d0, d1, d2, d3, d7) refl
