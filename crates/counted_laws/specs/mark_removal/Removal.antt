-- Code whose marks are turned back into releases.
use Rattle.std.specs.Prelude.{map, Option, Some, None}
use Rattle.core_ir.specs.declared.tree.Var.{Var}
use Rattle.counted_code.specs.Terms.{CodeTerm, CodeRightTerm, CodeGensTerm, CodePartsTerm, CodeFunTerm, CodeProgram, Giving, Binding, Keeping}
use Rattle.counted_code.specs.Terms.{Releasing, PlainCode, IfCode, LoopCode, CallCode, WithCode, PartedCode, NoCodeGens, GenCode, NoCodeParts}
use Rattle.counted_code.specs.Terms.{PartCode}

-- the variable that a loop is marked with
abbrev pub mark_of : CodeRightTerm → Option Var
mark_of (PartedCode f b c op parts reuse) = reuse
mark_of _ = None

-- the variable is released first, where there is one
abbrev pub released : Option Var → CodeTerm → CodeTerm
released None t = t
released (Some v) t = Releasing v t

-- each loop loses its mark, and the marked variable is released right behind the loop
abbrev mutual
  pub unmark : CodeTerm → CodeTerm
  unmark (Giving xs) = Giving xs
  unmark (Binding xs s r b) = Binding xs s (unmark_right r) (released (mark_of r) (unmark b))
  unmark (Keeping x b) = Keeping x (unmark b)
  unmark (Releasing x b) = Releasing x (unmark b)

  pub unmark_right : CodeRightTerm → CodeRightTerm
  unmark_right (PlainCode p) = PlainCode p
  unmark_right (IfCode c a b) = IfCode c (unmark a) (unmark b)
  unmark_right (LoopCode first start params test body s) = LoopCode first start params (unmark test) (unmark body) s
  unmark_right (CallCode g xs) = CallCode g xs
  unmark_right (WithCode op gens) = WithCode op (unmark_gens gens)
  unmark_right (PartedCode f b c op parts reuse) = PartedCode f b c op (unmark_parts parts) None

  pub unmark_gens : CodeGensTerm → CodeGensTerm
  unmark_gens NoCodeGens = NoCodeGens
  unmark_gens (GenCode h b rest) = GenCode h (unmark b) (unmark_gens rest)

  pub unmark_parts : CodePartsTerm → CodePartsTerm
  unmark_parts NoCodeParts = NoCodeParts
  unmark_parts (PartCode h b rest) = PartCode h (unmark b) (unmark_parts rest)

abbrev pub unmark_fun : CodeFunTerm → CodeFunTerm
unmark_fun f = record { name = f.name; site = f.site; params = f.params; results = f.results; is_inline = f.is_inline; body = unmark f.body; ends = f.ends }

-- the same of a whole program
abbrev pub without_marks : CodeProgram → CodeProgram
without_marks c = record { functions = map unmark_fun c.functions; groups = c.groups; main = c.main }
