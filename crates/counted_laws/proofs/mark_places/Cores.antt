-- The core of marked code.
use Rattle.std.proofs.Common.{◌≡◌, Bool, true, false, cond, eqb, List, [], ◌∷◌, map, Some, None, refl, ap, ◌∙◌, sym}
use Rattle.core_ir.specs.declared.tree.Var.{Var}
use Rattle.core_ir.specs.Terms.{Bind, Gen, Part}
use Rattle.core_ir.specs.Terms.{RightTerm}
use Rattle.counted_code.specs.Terms.{CodeTerm, CodeRightTerm, CodeGensTerm, CodePartsTerm, CodeFunTerm, CodeProgram, Giving, Binding, Keeping, Releasing, core_of, core_of_right, core_of_gens, core_of_parts, core_of_fun, core_of_code}
use Rattle.counted_laws.specs.mark_places.Places.{releases_next, without_release, Marked, MarkedRight, MarkedGens, MarkedParts, MarkedFunctions, MarkedCode, giving, binding, taking, keeping, releasing, plain, branches, turns, call, cells, parts, no_gens, gen, no_parts, part}

pub without_core : (v : Var) (t : CodeTerm) → core_of (without_release v t) ≡ core_of t
without_core v (Giving xs) = refl
without_core v (Binding xs s r b) = refl
without_core v (Keeping x b) = without_core v b
without_core v (Releasing x b) = go (without_core v b) (eqb v.0 x.0)
  where
    go : core_of (without_release v b) ≡ core_of b → (same : Bool) → core_of (cond same b (Releasing x (without_release v b))) ≡ core_of b
    go rest true = refl
    go rest false = rest

mutual
  pub core_same : {a b : CodeTerm} → Marked a b → core_of b ≡ core_of a
  core_same giving = refl
  core_same (binding {xs} {s} m n) = λ i. Bind xs s (right_same m i) (core_same n i)
  core_same (taking {xs} {s} {f} {t} {l} {o} {v = v} {c = c} p q m n) = λ i. Bind xs s (RightTerm.Parted f t l o (parts_same m i)) ((without_core v c ∙ core_same n) i)
  core_same (keeping n) = core_same n
  core_same (releasing n) = core_same n

  pub right_same : {r q : CodeRightTerm} → MarkedRight r q → core_of_right q ≡ core_of_right r
  right_same plain = refl
  right_same (branches {x} m n) = λ i. RightTerm.If x (core_same m i) (core_same n i)
  right_same (turns {first} {start} {params} {s = s} m n) = λ i. RightTerm.Loop first start params (core_same m i) (core_same n i) s
  right_same call = refl
  right_same (cells {o} m) = λ i. RightTerm.With o (gens_same m i)
  right_same (parts {f} {t} {l} {o} m) = λ i. RightTerm.Parted f t l o (parts_same m i)

  pub gens_same : {r q : CodeGensTerm} → MarkedGens r q → core_of_gens q ≡ core_of_gens r
  gens_same no_gens = refl
  gens_same (gen {h} m n) = λ i. Gen h (core_same m i) (gens_same n i)

  pub parts_same : {r q : CodePartsTerm} → MarkedParts r q → core_of_parts q ≡ core_of_parts r
  parts_same no_parts = refl
  parts_same (part {h} m n) = λ i. Part h (core_same m i) (parts_same n i)

-- what is released before the next binding is released there in marked code
pub releases_same : {a b : CodeTerm} (v : Var) → Marked a b → releases_next v b ≡ releases_next v a
releases_same v giving = refl
releases_same v (binding m n) = refl
releases_same v (taking p q m n) = refl
releases_same v (keeping {x} n) = ap (cond (eqb v.0 x.0) false) (releases_same v n)
releases_same v (releasing {x} n) = ap (cond (eqb v.0 x.0) true) (releases_same v n)
