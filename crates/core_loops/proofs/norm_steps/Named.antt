-- Bindings of an index's components stand for the names of a generator.
use Rattle.std.proofs.Common.{◌≡◌, ℕ, zero, suc, ◌+◌, ◌*◌, ◌<◌, Bool, true, false, cond, eqb, List, [], ◌∷◌, map, length, drop, take, get_or, Option, Some, None, Result, Ok, Err, refl, sym, ap, subst, ◌∙◌, arith, ℤ, pos, lt-ltb}
use Rattle.std.specs.Prelude.{if◌then◌else◌}
use Rattle.std.proofs.lemmas.Bool.{eq-eqb}
use Rattle.sac_base.specs.declared.base.Base.TheVariants.{Int}
use Rattle.sac_base.specs.declared.site.Site.{Site}
use Rattle.sac_base.specs.Arrays.{ArrayValue, scalar, vector}
use Rattle.sac_base.specs.Outcomes.{and_then, at_site}
use Rattle.sac_base.specs.Parts.{Part, further, part_at, selected, select}
use Rattle.core_ir.specs.declared.tree.Var.{Var}
use Rattle.core_ir.specs.Renaming.{Link, Agree, Renamed, under}
use Rattle.core_ir.specs.Terms.{PlainTerm, BlockTerm, Gives, Bind, Plain}
use Rattle.core_ir.specs.Uses.{Avoids}
use Rattle.core_ir.specs.Meaning.{Env, CallMeaning, bind, bind_all, one, run}
use Rattle.core_ir.proofs.Renamed.{agree_bind, renamed}
use Rattle.core_ir.proofs.Unused.{unused}
use Rattle.core_loops.specs.norm_steps.Genarray.{NamedBody}

number_at : (own : List ℤ) (j : ℕ) → j < length own → take 1 (drop j own) ≡ get_or own j (pos 0) ∷ []
number_at [] j l = absurd (omega (arith, l))
number_at (v ∷ own) zero l = refl
number_at (v ∷ own) (suc j) l = number_at own j (omega (arith, l))

from_place : (own : List ℤ) (j : ℕ) → j < length own → drop j own ≡ get_or own j (pos 0) ∷ drop (suc j) own
from_place [] j l = absurd (omega (arith, l))
from_place (v ∷ own) zero l = refl
from_place (v ∷ own) (suc j) l = from_place own j (omega (arith, l))

component : (own : List ℤ) (j : ℕ) → j < length own → select (vector Int own) (scalar Int (pos j)) ≡ Ok (scalar Int (get_or own j (pos 0)))
component own j l =
    let there : part_at (length own ∷ []) (pos j ∷ []) ≡ Some (record { start = j; shape = [] }) =
    ap (λ t. if t then further j [] (part_at [] []) else None) (lt-ltb j (length own) l) ∙ (λ i. Some (record { start = place j i; shape = [] })) in
    (λ i. selected (vector Int own) (there i)) ∙ (λ i. Ok (record { base = Int; shape = []; cells = number_at own j l i }))
  where
    place : (k : ℕ) → k * 1 + 0 ≡ k
    place k = omega arith

module _ (calls : CallMeaning) (turns : ℕ) where
  pub named : (S : Link) (e f : Env) (i : Var) (own : List ℤ) (j : ℕ) (names : List Var) (body b : BlockTerm) → Agree S e f → f i ≡ vector Int own → j + length names ≡ length own → NamedBody S i j names body b → run calls turns body (bind_all e names (map (scalar Int) (drop j own))) ≡ run calls turns b f
  named S e f i own j [] body b h at l n = renamed calls turns S e f body b h n
  named S e f i own j (x ∷ xs) body b h at l n =
      let c = n.0 in
      let y = n.1.0 in
      let s = n.1.1.0 in
      let t = n.1.1.1.0 in
      let rest = n.1.1.1.1.0 in
      let q = n.1.1.1.1.1 in
      let low : j < length own = omega (arith, l) in
      let k = scalar Int (pos j) in
      let w = scalar Int (get_or own j (pos 0)) in
      let value : select (cond (eqb c.0 i.0) k (f i)) (cond (eqb c.0 c.0) k (f c)) ≡ Ok w =
      (λ z. select (cond (q.1 z) k (f i)) (cond (eq-eqb c.0 c.0 refl z) k (f c))) ∙ (λ z. select (at z) k) ∙ component own j low in
      let old : run calls turns body (bind_all e (x ∷ xs) (map (scalar Int) (drop j own))) ≡ run calls turns body (bind_all (bind e x w) xs (map (scalar Int) (drop (suc j) own))) =
      ap (λ zs. run calls turns body (bind_all e (x ∷ xs) (map (scalar Int) zs))) (from_place own j low) in
      let more : run calls turns body (bind_all (bind e x w) xs (map (scalar Int) (drop (suc j) own))) ≡ run calls turns rest (bind f y w) =
      named (under S x y) (bind e x w) (bind f y w) i own (suc j) xs body rest (agree_bind S e f x y w h) ((λ z. cond (q.2 z) w (f i)) ∙ at) (omega (arith, l)) q.4 in
      let below : run calls turns rest (bind (bind f c k) y w) ≡ run calls turns rest (bind f y w) = unused calls turns c rest (bind (bind f c k) y w) (bind f y w) q.3 (λ z m. λ r. cond (eqb y.0 z.0) w (cond (m r) k (f z))) in
      old ∙ more ∙ sym below ∙ sym (λ r. and_then (one (at_site t (value r))) (λ vs. run calls turns rest (bind_all (bind f c k) (y ∷ []) vs))) ∙ (λ r. run calls turns (sym q.0 r) f)
