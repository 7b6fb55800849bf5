-- What some functions become, computed from the definitions.
use Rattle.std.proofs.Common.{◌≡◌, ℕ, refl, [], ◌∷◌, true, false, codes}
use Rattle.std.specs.Prelude.{pos}
use Rattle.sac_base.specs.declared.base.Base.TheVariants.{Int, Bool as Truth}
use Rattle.sac_base.specs.declared.op.Op.TheVariants.{Add, Lt}
use Rattle.sac_base.specs.declared.name.Name.{Name}
use Rattle.sac_base.specs.declared.site.Site.{Site}
use Rattle.sac_base.specs.declared.types.Part.TheVariants.{Star}
use Rattle.sac_base.specs.Arrays.{scalar}
use Rattle.sac_ast.specs.Tree.{Expr, Stmt, Block, FunctionTree, no_exprs, expr_and, no_stmts, stmt_and, number, truth, variable, binary, assign, if_else, while_do}
use Rattle.core_ir.specs.declared.tree.Var.{Var}
use Rattle.core_ir.specs.Terms.{BlockTerm, Gives, Bind, Plain, Const, Binary, If, Loop}
use Rattle.core_lowering.specs.Lowering.{numbered}
use Rattle.core_lowering.specs.Programs.{lowered_function}

abbrev at : ℕ → Site
at col = record { line = 1; col = col }

abbrev v : ℕ → Var
v = numbered

abbrev num : ℕ → ℕ → Expr
num n col = number (pos n) (at col)

abbrev i : ℕ → Expr
i col = variable (codes "i") (at col)

abbrev set : Name → ℕ → Expr → Stmt
set name col e = assign (record { name = name; site = at col } ∷ []) e

abbrev main_of : Block → Expr → FunctionTree
main_of body value = record {
  inline = false;
  results = record { base = Int; part = Star } ∷ [];
  name = codes "main";
  site = at 5;
  params = [];
  body = body;
  values = expr_and value no_exprs;
  ends = at 60;
}

abbrev lowered_body : FunctionTree → BlockTerm
lowered_body f = (lowered_function (f ∷ []) f).body

abbrev int : ℕ → ℕ → ℕ → BlockTerm → BlockTerm
int x col n rest = Bind (v x ∷ []) (at col) (Plain (Const (scalar Int (pos n)))) rest

-- i = 0; while (i < 10) { i = i + 1; } return (i);
a_loop : lowered_body (main_of (stmt_and (set (codes "i") 14 (num 0 18)) (stmt_and (while_do (binary Lt (i 28) (num 10 32) (at 30)) (stmt_and (set (codes "i") 38 (binary Add (i 42) (num 1 46) (at 44))) no_stmts) (at 21)) no_stmts)) (i 60))
    ≡ int 0 18 0
    (Bind (v 6 ∷ []) (at 21) (Loop false (v 0 ∷ []) (v 1 ∷ [])
    (int 2 32 10 (Bind (v 3 ∷ []) (at 30) (Plain (Binary Lt (v 1) (v 2))) (Gives (v 3 ∷ []))))
    (int 4 46 1 (Bind (v 5 ∷ []) (at 44) (Plain (Binary Add (v 1) (v 4))) (Gives (v 5 ∷ []))))
    (at 21))
    (Gives (v 6 ∷ [])))
a_loop = refl

-- if (true) { i = 1; j = 2; } else { i = 3; } return (i); only `i` has a variable behind both blocks
a_conditional : lowered_body (main_of (stmt_and (if_else (truth true (at 18)) (stmt_and (set (codes "i") 26 (num 1 30)) (stmt_and (set (codes "j") 33 (num 2 37)) no_stmts)) (stmt_and (set (codes "i") 48 (num 3 52)) no_stmts) (at 14)) no_stmts) (i 60))
    ≡ Bind (v 0 ∷ []) (at 18) (Plain (Const (scalar Truth (pos 1))))
    (Bind (v 4 ∷ []) (at 14) (If (v 0) (int 1 30 1 (int 2 37 2 (Gives (v 1 ∷ [])))) (int 3 52 3 (Gives (v 3 ∷ []))))
    (Gives (v 4 ∷ [])))
a_conditional = refl
