-- Blocks of arrays give arrays, and mean the same where calls of arrays do.
use Rattle.std.proofs.Common.{◌≡◌, ℕ, List, [], ◌∷◌, map, refl, ap, subst, ◌∙◌, Ok}
use Rattle.sac_base.specs.declared.base.Base.TheVariants.{Int}
use Rattle.sac_base.specs.declared.site.Site.{Site}
use Rattle.sac_base.specs.Arrays.{ArrayValue, scalar, vector}
use Rattle.sac_base.specs.Outcomes.{and_then, choose}
use Rattle.sac_base.specs.Parts.{condition}
use Rattle.sac_base.specs.WithLoops.{with_value}
use Rattle.core_ir.specs.declared.tree.Var.{Var}
use Rattle.core_ir.specs.Terms.{BlockTerm, RightTerm, GensTerm, PartsTerm, Gives, Bind, Plain, NoGens, Gen, NoParts, Part}
use Rattle.core_ir.specs.Meaning.{Env, CallMeaning, bind, bind_all, first, one, parted_value, generator, operation, with_index, run, right_value, generators, cells}
use Rattle.core_ir.proofs.Edited.{then_same}
use Rattle.core_facts.specs.Facts.{no_facts, DescribeAll, AreSound}
use Rattle.core_facts.specs.Full.{AreFull, FullInside, FullInsideRight, FullInsideGens, FullInsideParts}
use Rattle.core_facts.proofs.Shapes.{ok_same}
use Rattle.core_facts.proofs.Sound.{noted, just_full, then_ok}
use Rattle.core_facts.proofs.Settle.{loop_same, vector_full, scalars_full}
use Rattle.core_facts.specs.calls.Nests.{CallsAll, CallsAllRight, CallsAllGens, CallsAllParts}
use Rattle.core_facts.specs.calls.Arrays.{AllFull}

sound_of : (e : Env) → AreFull e → AreSound no_facts e
sound_of e h = λ x. just_full (e x) (h x)

pub full_bound : (e : Env) (xs : List Var) (vs : List ArrayValue) → AreFull e → AllFull vs → AreFull (bind_all e xs vs)
full_bound e xs vs h d = λ y. (noted no_facts e xs [] vs (sound_of e h) d y).full

pub full_values : (e : Env) (xs : List Var) → AreFull e → AllFull (map e xs)
full_values e [] h = tt
full_values e (x ∷ xs) h = (h x, full_values e xs h)

module _ (calls : CallMeaning) (turns : ℕ) where
  pub block_full : (b : BlockTerm) (e : Env) (vs : List ArrayValue) → FullInside calls turns b → AreFull e → run calls turns b e ≡ Ok vs → AllFull vs
  block_full (Gives xs) e vs w h p = subst (DescribeAll []) (ok_same (map e xs) vs p) (full_values e xs h)
  block_full (Bind xs s r b) e vs w h p =
      let t = then_ok (right_value calls turns r s e) (λ ws. run calls turns b (bind_all e xs ws)) vs p in
      block_full b (bind_all e xs t.0) vs w.2 (full_bound e xs t.0 h (w.0 s e t.0 h t.1)) t.2

module _ (calls other : CallMeaning) (turns : ℕ) where
  -- the calls of arrays mean the same
  abbrev pub AgreeOnArrays : ℕ → Type 0
  AgreeOnArrays g = (args : List ArrayValue) (s : Site) → AllFull args → calls g args s ≡ other g args s

  mutual
    pub agreeing_on : (b : BlockTerm) (e : Env) → FullInside calls turns b → CallsAll AgreeOnArrays b → AreFull e → run calls turns b e ≡ run other turns b e
    agreeing_on (Gives xs) e w c h = refl
    agreeing_on (Bind xs s r b) e w c h =
        then_same (right_value calls turns r s e) (λ vs. run calls turns b (bind_all e xs vs)) (λ vs. run other turns b (bind_all e xs vs)) (λ vs p. agreeing_on b (bind_all e xs vs) w.2 c.1 (full_bound e xs vs h (w.0 s e vs h p)))
        ∙ (λ i. and_then (agreeing_on_right r s e w.1 c.0 h i) (λ vs. run other turns b (bind_all e xs vs)))

    pub agreeing_on_right : (r : RightTerm) (s : Site) (e : Env) → FullInsideRight calls turns r → CallsAllRight AgreeOnArrays r → AreFull e → right_value calls turns r s e ≡ right_value other turns r s e
    agreeing_on_right (Plain p) s e w c h = refl
    agreeing_on_right (RightTerm.If x a b) s e w c h = λ i. choose s (condition (e x)) (agreeing_on a e w.0 c.0 h i) (agreeing_on b e w.1 c.1 h i)
    agreeing_on_right (RightTerm.Loop fb start params test body u) s e w c h =
        loop_same AllFull fb turns s u (λ vs. first (run calls turns test (bind_all e params vs))) (λ vs. first (run other turns test (bind_all e params vs)))
        (λ vs. run calls turns body (bind_all e params vs)) (λ vs. run other turns body (bind_all e params vs))
        (λ vs d. ap first (agreeing_on test (bind_all e params vs) w.0 c.0 (full_bound e params vs h d)))
        (λ vs d. agreeing_on body (bind_all e params vs) w.1 c.1 (full_bound e params vs h d))
        (λ vs ws d q. block_full calls turns body (bind_all e params vs) ws w.1 (full_bound e params vs h d) q)
        (map e start) (full_values e start h)
    agreeing_on_right (RightTerm.Call g xs) s e w c h = c (map e xs) s (full_values e xs h)
    agreeing_on_right (RightTerm.With op gens) s e w c h = λ i. one (with_value (agreeing_on_gens gens e w c h i) (operation op s e))
    agreeing_on_right (RightTerm.Parted f t shape op parts) s e w c h = λ i. one (parted_value f t shape op (agreeing_on_parts parts e w c h i) s e)

    pub agreeing_on_gens : (g : GensTerm) (e : Env) → FullInsideGens calls turns g → CallsAllGens AgreeOnArrays g → AreFull e → generators calls turns g e ≡ generators other turns g e
    agreeing_on_gens NoGens e w c h = refl
    agreeing_on_gens (Gen g b rest) e w c h =
        λ i. generator g (λ index. first (agreeing_on b (with_index e g index) w.0 c.0 (full_bound e (g.index ∷ g.names) (vector Int index ∷ map (scalar Int) index) h (vector_full index, scalars_full index)) i)) e ∷ agreeing_on_gens rest e w.1 c.1 h i

    pub agreeing_on_parts : (g : PartsTerm) (e : Env) → FullInsideParts calls turns g → CallsAllParts AgreeOnArrays g → AreFull e → cells calls turns g e ≡ cells other turns g e
    agreeing_on_parts NoParts e w c h = refl
    agreeing_on_parts (Part g b rest) e w c h =
        λ i. record { grid = g.grid; site = g.site; cell = λ index. first (agreeing_on b (bind e g.index (vector Int index)) w.0 c.0 (full_bound e (g.index ∷ []) (vector Int index ∷ []) h (vector_full index, tt)) i) } ∷ agreeing_on_parts rest e w.1 c.1 h i
