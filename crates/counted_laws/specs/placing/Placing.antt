-- Where references are kept and released: each is handed on or released at its last use.
use Rattle.std.specs.Prelude.{Bool, true, false, cond, eqb, not, ◌&&◌, ◌||◌, filter, List, [], ◌∷◌, ◌++◌, map, None}
use Rattle.core_ir.specs.declared.tree.Var.{Var}
use Rattle.core_ir.specs.Binders.{is_in}
use Rattle.core_ir.specs.Terms.{BlockTerm, RightTerm, GensTerm, PartsTerm, FunTerm, CoreTerm, Gives, Bind, Plain, NoGens, Gen, NoParts, Part}
use Rattle.core_ir.specs.Outcome.{param_vars}
use Rattle.counted_code.specs.Terms.{CodeTerm, CodeRightTerm, CodeGensTerm, CodePartsTerm, CodeFunTerm, CodeProgram, Giving, Binding, Keeping}
use Rattle.counted_code.specs.Terms.{Releasing, PlainCode, IfCode, LoopCode, CallCode, WithCode, PartedCode, NoCodeGens, GenCode, NoCodeParts}
use Rattle.counted_code.specs.Terms.{PartCode}
use Rattle.counted_code.specs.Prompt.{uses, uses_right, hands}

abbrev pub keeps : List Var → CodeTerm → CodeTerm
keeps [] t = t
keeps (x ∷ xs) t = Keeping x (keeps xs t)

abbrev pub releases : List Var → CodeTerm → CodeTerm
releases [] t = t
releases (x ∷ xs) t = Releasing x (releases xs t)

-- of the first list, those that stand in the second, and those that do not
abbrev pub used : List Var → List Var → List Var
used refs us = filter (λ x. is_in x us) refs

abbrev pub unused : List Var → List Var → List Var
unused refs us = filter (λ x. not (is_in x us)) refs

-- the list without the first place of the variable
abbrev pub without : Var → List Var → List Var
without x [] = []
without x (y ∷ ys) = cond (eqb y.0 x.0) ys (y ∷ without x ys)

-- the places that need one reference more, where each variable of the second list has one for its first place
abbrev pub surplus : List Var → List Var → List Var
surplus [] own = []
surplus (y ∷ ys) own = cond (is_in y own) (surplus ys (without y own)) (y ∷ surplus ys own)

-- what a right side reads after it has handed on
abbrev pub read_after : RightTerm → List Var
read_after (RightTerm.Loop first start params test body s) = uses test ++ uses body
read_after _ = []

abbrev pub is_conditional : RightTerm → Bool
is_conditional (RightTerm.If c a b) = true
is_conditional _ = false

-- a conditional's branches end whatever they are passed; all else ends what it hands on
abbrev pub passes : RightTerm → Var → Bool
passes r x = is_conditional r || is_in x (hands r)

-- a right side ends the reference of a variable that is read no more
abbrev pub takes : RightTerm → List Var → Var → Bool
takes r later x = passes r x && not (is_in x (read_after r ++ later))

abbrev pub given : RightTerm → List Var → List Var → List Var
given r later live = filter (takes r later) live

abbrev pub left : RightTerm → List Var → List Var → List Var
left r later live = filter (λ x. not (takes r later x)) live

-- a block that has these references
abbrev mutual
  pub placing : List Var → BlockTerm → CodeTerm
  placing refs (Gives ys) = releases (unused refs ys) (keeps (surplus ys (used refs ys)) (Giving ys))
  placing refs (Bind xs s r b) =
      let live = used refs (uses_right r ++ uses b) in
      releases (unused refs (uses_right r ++ uses b)) (keeps (surplus (hands r) (given r (uses b) live)) (
      Binding xs s (placing_right (given r (uses b) live) r) (placing (xs ++ left r (uses b) live) b)))

  pub placing_right : List Var → RightTerm → CodeRightTerm
  placing_right mine (Plain p) = PlainCode p
  placing_right mine (RightTerm.If c a b) = IfCode c (placing mine a) (placing mine b)
  placing_right mine (RightTerm.Loop first start params test body s) = LoopCode first start params (placing [] test) (placing params body) s
  placing_right mine (RightTerm.Call g xs) = CallCode g xs
  placing_right mine (RightTerm.With op gens) = WithCode op (placing_gens gens)
  placing_right mine (RightTerm.Parted f b c op parts) = PartedCode f b c op (placing_parts parts) None

  pub placing_gens : GensTerm → CodeGensTerm
  placing_gens NoGens = NoCodeGens
  placing_gens (Gen h b rest) = GenCode h (placing (h.index ∷ h.names) b) (placing_gens rest)

  pub placing_parts : PartsTerm → CodePartsTerm
  placing_parts NoParts = NoCodeParts
  placing_parts (Part h b rest) = PartCode h (placing (h.index ∷ []) b) (placing_parts rest)

abbrev pub placing_fun : FunTerm → CodeFunTerm
placing_fun f = record {
  name = f.name;
  site = f.site;
  params = f.params;
  results = f.results;
  is_inline = f.is_inline;
  body = placing (param_vars f) f.body;
  ends = f.ends;
}

-- a program whose functions have the references of their arguments
abbrev pub placing_core : CoreTerm → CodeProgram
placing_core c = record { functions = map placing_fun c.functions; groups = c.groups; main = c.main }
