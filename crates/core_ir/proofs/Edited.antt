-- A change that keeps the meaning under what is known at its place keeps that of the whole.
use Rattle.std.proofs.Common.{◌≡◌, ℕ, Bool, true, false, List, [], ◌∷◌, map, Ok, Err, refl, sym, ap, ◌∙◌}
use Rattle.std.specs.Prelude.{ℤ, if◌then◌else◌}
use Rattle.sac_base.specs.declared.base.Base.TheVariants.{Int}
use Rattle.sac_base.specs.declared.faults.FaultKind.TheVariants.{F6}
use Rattle.sac_base.specs.declared.site.Site.{Site}
use Rattle.sac_base.specs.Arrays.{ArrayValue, scalar, vector}
use Rattle.sac_base.specs.Grids.{has_vector, members}
use Rattle.sac_base.specs.Outcomes.{Ends, and_then, fault, choose}
use Rattle.sac_base.specs.Parts.{condition}
use Rattle.sac_base.specs.WithLoops.{with_value, each}
use Rattle.core_ir.specs.Terms.{BlockTerm, RightTerm, GensTerm, PartsTerm}
use Rattle.core_ir.specs.Meaning.{Env, CallMeaning, Cells, bind, bind_all, first, loop_value, one, made_of, neutral_fits, held, cell_form, cell_at, generator, operation, with_index, run, right_value, generators, cells}
use Rattle.core_ir.specs.Scopes.{Scoped, ScopedRight, ScopedGens, ScopedParts}
use Rattle.core_ir.specs.Edits.{Edited, EditedRight, EditedGens, EditedParts, here, later, inside, in_then, in_else, in_test, in_body, in_gens, in_parts, this_gen, later_gen, this_part, later_part}
use Rattle.core_ir.specs.Known.{Known, ways, Holds}
use Rattle.core_ir.proofs.Facts.{learned, hidden, within}

-- it is enough that the rest means the same for the values that the first part gives
pub then_same : {A B : Type 0} (x : Ends A) (f g : A → Ends B) → ((a : A) → x ≡ Ok a → f a ≡ g a) → and_then x f ≡ and_then x g
then_same (Ok a) f g h = h a refl
then_same (Err k) f g h = refl

-- parts that agree on the members of their grids
abbrev pub SameCells : List Cells → List Cells → Type 0
SameCells [] [] = Unit {0}
SameCells (p ∷ ps) (q ∷ qs) = (p.grid ≡ q.grid) × (p.site ≡ q.site) × ((index : List ℤ) → has_vector p.grid index ≡ true → p.cell index ≡ q.cell index) × SameCells ps qs
SameCells _ _ = ⊥

pub same_cells-refl : (ps : List Cells) → SameCells ps ps
same_cells-refl [] = tt
same_cells-refl (p ∷ ps) = (refl, refl, λ index h. refl, same_cells-refl ps)

pub same_cell_at : (form : ArrayValue) (ps qs : List Cells) (index : List ℤ) → SameCells ps qs → cell_at form ps index ≡ cell_at form qs index
same_cell_at form [] [] index h = refl
same_cell_at form [] (q ∷ qs) index h = absurd h
same_cell_at form (p ∷ ps) [] index h = absurd h
same_cell_at form (p ∷ ps) (q ∷ qs) index h =
    (λ i. if has_vector p.grid index then and_then (p.cell index) (held form (h.1 i)) else same_cell_at form ps qs index h.3 i)
    ∙ in_grid (has_vector p.grid index) refl
    ∙ (λ i. if has_vector (h.0 i) index then and_then (q.cell index) (held form q.site) else cell_at form qs index)
  where
    in_grid : (b : Bool) → has_vector p.grid index ≡ b → (if has_vector p.grid index then and_then (p.cell index) (held form q.site) else cell_at form qs index) ≡ (if has_vector p.grid index then and_then (q.cell index) (held form q.site) else cell_at form qs index)
    in_grid true e = λ i. if has_vector p.grid index then and_then (h.2 index e i) (held form q.site) else cell_at form qs index
    in_grid false e = (λ i. if e i then and_then (p.cell index) (held form q.site) else cell_at form qs index) ∙ sym (λ i. if e i then and_then (q.cell index) (held form q.site) else cell_at form qs index)

module _ (calls : CallMeaning) (turns : ℕ) (Rule : Known → BlockTerm → BlockTerm → Type 0) (sound : (k : Known) (b c : BlockTerm) → Rule k b c → Scoped k.scope b → (e : Env) → Holds calls turns k e → run calls turns b e ≡ run calls turns c e) where
  mutual
    pub edited : {k : Known} {b c : BlockTerm} → Edited Known ways Rule k b c → Scoped k.scope b → (e : Env) → Holds calls turns k e → run calls turns b e ≡ run calls turns c e
    edited (here {known = k} {b = b} {c = c} h) n e p = sound k b c h n e p
    edited (later {known = k} {xs = xs} {s = s} {r = r} h) n e p =
        then_same (right_value calls turns r s e) _ _ (λ vs q. edited h n.2 (bind_all e xs vs) (learned calls turns k xs s r e vs n.1 n.0 p q))
    edited (inside {xs = xs} {s = s} {b = b} h) n e p = λ i. and_then (edited_right h s n.0 e p i) (λ vs. run calls turns b (bind_all e xs vs))

    pub edited_right : {k : Known} {r q : RightTerm} → EditedRight Known ways Rule k r q → (s : Site) → ScopedRight k.scope r → (e : Env) → Holds calls turns k e → right_value calls turns r s e ≡ right_value calls turns q s e
    edited_right (in_then {x = x} {b = b} h) s n e p = λ i. choose s (condition (e x)) (edited h n.1 e p i) (run calls turns b e)
    edited_right (in_else {x = x} {a = a} h) s n e p = λ i. choose s (condition (e x)) (run calls turns a e) (edited h n.2 e p i)
    edited_right (in_test {known = k} {first = fb} {start = start} {params = params} {b = b} {s = u} h) s n e p =
        λ i. loop_value fb turns s u (λ vs. first (edited h n.2 (bind_all e params vs) (hidden calls turns k params e vs n.1 p) i)) (λ vs. run calls turns b (bind_all e params vs)) (map e start)
    edited_right (in_body {known = k} {first = fb} {start = start} {params = params} {a = a} {s = u} h) s n e p =
        λ i. loop_value fb turns s u (λ vs. first (run calls turns a (bind_all e params vs))) (λ vs. edited h n.3 (bind_all e params vs) (hidden calls turns k params e vs n.1 p) i) (map e start)
    edited_right (in_gens {op = op} h) s n e p = λ i. one (with_value (edited_gens h n.1 e p i) (operation op s e))
    edited_right (in_parts {f = f} {t = t} {cell = shape} {op = op} h) s n e p =
        λ i. one (if neutral_fits (cell_form t shape) op e then and_then (each (λ index. same_cell_at (cell_form t shape) _ _ index (edited_parts h n.1 e p) i) (members f)) (λ found. Ok (made_of f t shape op e found)) else fault F6 s)

    pub edited_gens : {k : Known} {g h : GensTerm} → EditedGens Known ways Rule k g h → ScopedGens k.scope g → (e : Env) → Holds calls turns k e → generators calls turns g e ≡ generators calls turns h e
    edited_gens (this_gen {known = k} {h = g} {rest = rest} h) n e p =
        λ i. generator g (λ index. first (edited h n.2 (with_index e g index) (hidden calls turns k (g.index ∷ g.names) e (vector Int index ∷ map (scalar Int) index) n.1 p) i)) e ∷ generators calls turns rest e
    edited_gens (later_gen {h = g} {b = b} h) n e p = λ i. generator g (λ index. first (run calls turns b (with_index e g index))) e ∷ edited_gens h n.3 e p i

    pub edited_parts : {k : Known} {g h : PartsTerm} → EditedParts Known ways Rule k g h → ScopedParts k.scope g → (e : Env) → Holds calls turns k e → SameCells (cells calls turns g e) (cells calls turns h e)
    edited_parts (this_part {known = k} {h = g} {rest = rest} h) n e p =
        (refl, refl, λ index q. ap first (edited h n.1 (bind e g.index (vector Int index)) (within calls turns k g e index (n.0, tt) p q)), same_cells-refl (cells calls turns rest e))
    edited_parts (later_part {h = g} {b = b} h) n e p = (refl, refl, λ index q. refl, edited_parts h n.2 e p)
