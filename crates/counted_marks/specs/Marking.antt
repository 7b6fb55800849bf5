-- Each loop that has a candidate is marked with the one of the least number, in the place of its release.
use Rattle.std.specs.Prelude.{◌&&◌, not, Bool, true, false, cond, eqb, if◌then◌else◌, nat_lt, ℕ, List, [], ◌∷◌, map, Option, Some, None}
use Rattle.sac_base.specs.declared.base.Base.{Base}
use Rattle.sac_base.specs.declared.grid.Grid1.{Grid1}
use Rattle.sac_base.specs.Arrays.{same_base, same_shape}
use Rattle.core_ir.specs.declared.tree.Var.{Var}
use Rattle.core_ir.specs.declared.tree.PartedOp.{PartedOp}
use Rattle.core_ir.specs.Meaning.{extents}
use Rattle.core_facts.specs.Facts.{is_shape}
use Rattle.counted_code.specs.Loops.{parted_folds}
use Rattle.core_uses.specs.Tests.{none_is}
use Rattle.counted_code.specs.Terms.{CodeTerm, CodeRightTerm, CodeGensTerm, CodePartsTerm, CodeFunTerm, CodeProgram, Giving, Binding, Keeping}
use Rattle.counted_code.specs.Terms.{Releasing, PlainCode, IfCode, LoopCode, CallCode, WithCode, PartedCode, NoCodeGens, GenCode, NoCodeParts}
use Rattle.counted_code.specs.Terms.{PartCode, core_of_right, core_of_fun, core_of_code}
use Rattle.counted_code.specs.Values.{is_small}
use Rattle.counted_laws.specs.mark_places.Places.{releases_next, without_release}
use Rattle.counted_marks.specs.Known.{Given, Known, learned, in_loop, in_gen, in_part, at_start, given}
use Rattle.counted_marks.specs.Marks.{own_parts}

-- ---- candidates, as a test

abbrev pub is_base : Base → Option Base → Bool
is_base t None = false
is_base t (Some u) = same_base u t

abbrev pub is_known_shape : List ℕ → Option (List ℕ) → Bool
is_known_shape shape (Some s) = same_shape s shape
is_known_shape shape None = false

abbrev pub makes_buffer : List Grid1 → List ℕ → PartedOp → Bool
makes_buffer frame cell op = not (parted_folds op) && (same_shape cell [] && (is_shape (extents frame) && not (is_small (extents frame))))

abbrev pub may_reuse : Given → Known → List Grid1 → Base → List ℕ → PartedOp → CodePartsTerm → Var → Bool
may_reuse g k frame base cell op parts v =
    makes_buffer frame cell op && (is_base base (k.bases v) && (is_known_shape (extents frame) (k.facts v).shape && own_parts g.shapes v parts k.facts))

abbrev pub is_candidate : Given → Known → List Var → List Grid1 → Base → List ℕ → PartedOp → CodePartsTerm → CodeTerm → Var → Bool
is_candidate g k targets frame base cell op parts rest v =
    none_is v targets && (releases_next v rest && may_reuse g k frame base cell op parts v)

-- what is released before the next binding
abbrev pub released_next : CodeTerm → List Var
released_next (Releasing x b) = x ∷ released_next b
released_next (Keeping x b) = released_next b
released_next _ = []

-- the lesser of a variable and of one that was found before
abbrev pub lesser : Var → Option Var → Option Var
lesser x None = Some x
lesser x (Some y) = if nat_lt x.0 y.0 then Some x else Some y

-- the least of those that the test holds of, and of one that was found before
abbrev pub least : (Var → Bool) → Option Var → List Var → Option Var
least holds found [] = found
least holds found (x ∷ xs) = least holds (if holds x then lesser x found else found) xs

abbrev pub choice : Given → Known → List Var → CodeRightTerm → CodeTerm → Option Var
choice g k targets (PartedCode f b c op parts None) rest = least (is_candidate g k targets f b c op parts rest) None (released_next rest)
choice g k targets _ rest = None

-- ---- marks

abbrev pub with_mark : Option Var → CodeRightTerm → CodeRightTerm
with_mark (Some v) (PartedCode f b c op parts reuse) = PartedCode f b c op parts (Some v)
with_mark _ r = r

-- without the release before the next binding
abbrev pub released_by : Option Var → CodeTerm → CodeTerm
released_by None t = t
released_by (Some v) t = without_release v t

module _ (g : Given) where
  abbrev mutual
    pub marking : CodeTerm → Known → CodeTerm
    marking (Giving xs) k = Giving xs
    marking (Binding xs s r b) k =
        Binding xs s (with_mark (choice g k xs r b) (marking_right r k)) (released_by (choice g k xs r b) (marking b (learned g k xs (core_of_right r))))
    marking (Keeping x b) k = Keeping x (marking b k)
    marking (Releasing x b) k = Releasing x (marking b k)

    pub marking_right : CodeRightTerm → Known → CodeRightTerm
    marking_right (PlainCode p) k = PlainCode p
    marking_right (IfCode c a b) k = IfCode c (marking a k) (marking b k)
    marking_right (LoopCode first start params test body s) k =
        LoopCode first start params (marking test (in_loop k params start)) (marking body (in_loop k params start)) s
    marking_right (CallCode group xs) k = CallCode group xs
    marking_right (WithCode op gens) k = WithCode op (marking_gens gens k)
    marking_right (PartedCode f b c op parts reuse) k = PartedCode f b c op (marking_parts parts k) reuse

    pub marking_gens : CodeGensTerm → Known → CodeGensTerm
    marking_gens NoCodeGens k = NoCodeGens
    marking_gens (GenCode h b rest) k = GenCode h (marking b (in_gen k h)) (marking_gens rest k)

    pub marking_parts : CodePartsTerm → Known → CodePartsTerm
    marking_parts NoCodeParts k = NoCodeParts
    marking_parts (PartCode h b rest) k = PartCode h (marking b (in_part k h)) (marking_parts rest k)

  abbrev pub marking_fun : CodeFunTerm → CodeFunTerm
  marking_fun f = record f { body = marking f.body (at_start (core_of_fun f)) }

-- a program whose loops are marked
abbrev pub marking_code : CodeProgram → CodeProgram
marking_code c = record c { functions = map (marking_fun (given (core_of_code c))) c.functions }
