-- Code without its marks has none, has the same core, and stays itself where it had none.
use Rattle.std.proofs.Common.{◌≡◌, List, [], ◌∷◌, map, Option, Some, None, refl, ◌∙◌, sym}
use Rattle.core_ir.specs.declared.tree.Var.{Var}
use Rattle.core_ir.specs.Terms.{Bind, Gen, Part, RightTerm}
use Rattle.counted_code.specs.Counts.{Unmarked, UnmarkedRight, UnmarkedGens, UnmarkedParts, UnmarkedFunctions, IsUnmarked}
use Rattle.counted_code.specs.Terms.{CodeTerm, CodeRightTerm, CodeGensTerm, CodePartsTerm, CodeFunTerm, CodeProgram, Giving, Binding, Keeping, Releasing, PlainCode, IfCode, LoopCode, CallCode, WithCode, PartedCode, NoCodeGens, GenCode, NoCodeParts, PartCode, core_of, core_of_right, core_of_gens, core_of_parts, core_of_fun, core_of_code}
use Rattle.counted_laws.specs.mark_removal.Removal.{mark_of, released, unmark, unmark_right, unmark_gens, unmark_parts, unmark_fun, without_marks}

-- ---- no marks

released_unmarked : (m : Option Var) (t : CodeTerm) → Unmarked t → Unmarked (released m t)
released_unmarked None t u = u
released_unmarked (Some v) t u = u

mutual
  block_unmarked : (t : CodeTerm) → Unmarked (unmark t)
  block_unmarked (Giving xs) = tt
  block_unmarked (Binding xs s r b) = (right_unmarked r, released_unmarked (mark_of r) (unmark b) (block_unmarked b))
  block_unmarked (Keeping x b) = block_unmarked b
  block_unmarked (Releasing x b) = block_unmarked b

  right_unmarked : (r : CodeRightTerm) → UnmarkedRight (unmark_right r)
  right_unmarked (PlainCode p) = tt
  right_unmarked (IfCode c a b) = (block_unmarked a, block_unmarked b)
  right_unmarked (LoopCode first start params test body s) = (block_unmarked test, block_unmarked body)
  right_unmarked (CallCode g xs) = tt
  right_unmarked (WithCode op gens) = gens_unmarked gens
  right_unmarked (PartedCode f b c op parts reuse) = (refl, parts_unmarked parts)

  gens_unmarked : (gens : CodeGensTerm) → UnmarkedGens (unmark_gens gens)
  gens_unmarked NoCodeGens = tt
  gens_unmarked (GenCode h b rest) = (block_unmarked b, gens_unmarked rest)

  parts_unmarked : (parts : CodePartsTerm) → UnmarkedParts (unmark_parts parts)
  parts_unmarked NoCodeParts = tt
  parts_unmarked (PartCode h b rest) = (block_unmarked b, parts_unmarked rest)

functions_unmarked : (fs : List CodeFunTerm) → UnmarkedFunctions (map unmark_fun fs)
functions_unmarked [] = tt
functions_unmarked (f ∷ fs) = (block_unmarked f.body, functions_unmarked fs)

pub code_unmarked : (code : CodeProgram) → IsUnmarked (without_marks code)
code_unmarked code = functions_unmarked code.functions

-- ---- the core

released_core : (m : Option Var) (t : CodeTerm) → core_of (released m t) ≡ core_of t
released_core None t = refl
released_core (Some v) t = refl

mutual
  pub block_core : (t : CodeTerm) → core_of (unmark t) ≡ core_of t
  block_core (Giving xs) = refl
  block_core (Binding xs s r b) = λ i. Bind xs s (right_core r i) ((released_core (mark_of r) (unmark b) ∙ block_core b) i)
  block_core (Keeping x b) = block_core b
  block_core (Releasing x b) = block_core b

  pub right_core : (r : CodeRightTerm) → core_of_right (unmark_right r) ≡ core_of_right r
  right_core (PlainCode p) = refl
  right_core (IfCode c a b) = λ i. RightTerm.If c (block_core a i) (block_core b i)
  right_core (LoopCode first start params test body s) = λ i. RightTerm.Loop first start params (block_core test i) (block_core body i) s
  right_core (CallCode g xs) = refl
  right_core (WithCode op gens) = λ i. RightTerm.With op (gens_core gens i)
  right_core (PartedCode f b c op parts reuse) = λ i. RightTerm.Parted f b c op (parts_core parts i)

  pub gens_core : (gens : CodeGensTerm) → core_of_gens (unmark_gens gens) ≡ core_of_gens gens
  gens_core NoCodeGens = refl
  gens_core (GenCode h b rest) = λ i. Gen h (block_core b i) (gens_core rest i)

  pub parts_core : (parts : CodePartsTerm) → core_of_parts (unmark_parts parts) ≡ core_of_parts parts
  parts_core NoCodeParts = refl
  parts_core (PartCode h b rest) = λ i. Part h (block_core b i) (parts_core rest i)

function_core : (f : CodeFunTerm) → core_of_fun (unmark_fun f) ≡ core_of_fun f
function_core f = λ i. record { name = f.name; site = f.site; params = f.params; results = f.results; is_inline = f.is_inline; body = block_core f.body i; ends = f.ends }

functions_core : (fs : List CodeFunTerm) → map core_of_fun (map unmark_fun fs) ≡ map core_of_fun fs
functions_core [] = refl
functions_core (f ∷ fs) = λ i. function_core f i ∷ functions_core fs i

pub code_core : (code : CodeProgram) → core_of_code (without_marks code) ≡ core_of_code code
code_core code = λ i. record { functions = functions_core code.functions i; groups = code.groups; main = code.main }

-- ---- code without marks

no_mark : (r : CodeRightTerm) → UnmarkedRight r → mark_of r ≡ None
no_mark (PlainCode p) u = refl
no_mark (IfCode c a b) u = refl
no_mark (LoopCode first start params test body s) u = refl
no_mark (CallCode g xs) u = refl
no_mark (WithCode op gens) u = refl
no_mark (PartedCode f b c op parts reuse) u = u.0

mutual
  pub block_same : (t : CodeTerm) → Unmarked t → unmark t ≡ t
  block_same (Giving xs) u = refl
  block_same (Binding xs s r b) u = λ i. Binding xs s (right_same r u.0 i) (((λ j. released (no_mark r u.0 j) (unmark b)) ∙ block_same b u.1) i)
  block_same (Keeping x b) u = λ i. Keeping x (block_same b u i)
  block_same (Releasing x b) u = λ i. Releasing x (block_same b u i)

  right_same : (r : CodeRightTerm) → UnmarkedRight r → unmark_right r ≡ r
  right_same (PlainCode p) u = refl
  right_same (IfCode c a b) u = λ i. IfCode c (block_same a u.0 i) (block_same b u.1 i)
  right_same (LoopCode first start params test body s) u = λ i. LoopCode first start params (block_same test u.0 i) (block_same body u.1 i) s
  right_same (CallCode g xs) u = refl
  right_same (WithCode op gens) u = λ i. WithCode op (gens_same gens u i)
  right_same (PartedCode f b c op parts reuse) u = λ i. PartedCode f b c op (parts_same parts u.1 i) (sym u.0 i)

  pub gens_same : (gens : CodeGensTerm) → UnmarkedGens gens → unmark_gens gens ≡ gens
  gens_same NoCodeGens u = refl
  gens_same (GenCode h b rest) u = λ i. GenCode h (block_same b u.0 i) (gens_same rest u.1 i)

  pub parts_same : (parts : CodePartsTerm) → UnmarkedParts parts → unmark_parts parts ≡ parts
  parts_same NoCodeParts u = refl
  parts_same (PartCode h b rest) u = λ i. PartCode h (block_same b u.0 i) (parts_same rest u.1 i)

pub function_same : (f : CodeFunTerm) → Unmarked f.body → unmark_fun f ≡ f
function_same f u = λ i. record { name = f.name; site = f.site; params = f.params; results = f.results; is_inline = f.is_inline; body = block_same f.body u i; ends = f.ends }

functions_same : (fs : List CodeFunTerm) → UnmarkedFunctions fs → map unmark_fun fs ≡ fs
functions_same [] u = refl
functions_same (f ∷ fs) u = λ i. function_same f u.0 i ∷ functions_same fs u.1 i

pub code_same : (code : CodeProgram) → IsUnmarked code → without_marks code ≡ code
code_same code u = λ i. record { functions = functions_same code.functions u i; groups = code.groups; main = code.main }
