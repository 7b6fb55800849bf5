-- What the walk did with a right side.
use Rattle.std.proofs.Common.{◌≡◌, ◌⊎◌, ℕ, List, [], ◌++◌, map, Option, inl, inr, refl, sym, ap, subst, ◌∙◌}
use Rattle.std.specs.Prelude.{Result, Ok, Err, IfOk}
use Rattle.sac_base.specs.declared.base.Base.{Base}
use Rattle.sac_base.specs.declared.memory.Memory.{Memory}
use Rattle.sac_base.specs.declared.site.Site.{Site}
use Rattle.core_ir.specs.declared.tree.Var.{Var}
use Rattle.core_ir.specs.declared.tree.CoreOp.{CoreOp}
use Rattle.core_ir.specs.declared.tree.Right.{Right}
use Rattle.core_ir.specs.declared.tree.Right.TheVariants as right
use Rattle.core_ir.specs.declared.tree.WithLoop.{WithLoop, out-WithLoop}
use Rattle.core_ir.specs.Terms.{BlockTerm, RightTerm, LetTerm, GenTerm, Bind, With, gens_of}
use Rattle.core_ir.specs.View.{block_term, gen_term, right_term}
use Rattle.core_ir.proofs.Trees.{parted_out, with_out}
use Rattle.core_facts.specs.Facts.{Fact, Facts, block_facts}
use Rattle.fact_table.specs.Table.{fact_of}
use Rattle.plain_facts.specs.known_rights.Anywhere.{IsKnownAnywhere}
use Rattle.plain_facts.specs.declared.known_rights.known.KnownBlock.{KnownBlock}
use Rattle.plain_facts.specs.declared.known_rights.known.KnownRight.{KnownRight}
use Rattle.core_walk.specs.Traced.{BlockTraced, Finished}
use Rattle.core_walk.specs.Editing.{Changed, Kept}
use Rattle.core_walk.proofs.Turns.{append_nil}
use Rattle.parted_bodies.specs.declared.names.Progress.{Progress}
use Rattle.norm_walk.specs.Replacing.{BlockWalked, NoneAt, NormStep, ReplacedHere, ReplacedOrLeft}
use Rattle.norm_walk.proofs.Walking.{walked_block}

module _ (called : ℕ → List (Option (List ℕ))) (bases : Var → Option Base) (first : ℕ) where
  edit_of : (k : Facts) (p q : Progress) (xs : List Var) (s : Site) (op : CoreOp) (gens : List GenTerm) (t : RightTerm) → ReplacedOrLeft bases first p q k s op gens t →
      Changed called Progress (λ r. r.replaced) (ReplacedHere bases first) (NoneAt bases first) k p q xs s (With op (gens_of gens)) t
      ⊎ Kept called Progress (λ r. r.replaced) (ReplacedHere bases first) (NoneAt bases first) k p q xs s (With op (gens_of gens)) t
  edit_of k p q xs s op gens t (inl at) = inl (record {
    counted = ap (λ (r : Progress). r.replaced) at.after;
    rule = λ rest. record { targets = xs; site = s; op = op; gens = gens; right = t; rest = rest; at = at; before = refl; now = refl };
  })
  edit_of k p q xs s op gens t (inr left) = inr (record { still = left.0; same = left.1; left = λ rest. left.2 })

  -- the step of a right side, before which no binding comes
  abbrev Stepped : Facts → Progress → Progress → List Var → Site → RightTerm → List Fact → List LetTerm → KnownRight → Type 0
  Stepped k p q xs s r vs done new =
      (ms : List LetTerm) × (done ≡ done ++ ms) × NormStep called bases first k p q xs s r vs ms (right_term new.right) (map fact_of new.values.items)

  pub with_step : (k : Facts) (p q : Progress) (xs : List Var) (s : Site) (r : Right) (w : WithLoop) (vs : List Fact) (done : List LetTerm) (new : Result KnownRight Memory) → r ≡ right.With w →
      IfOk new (λ (n : KnownRight). ReplacedOrLeft bases first p q k s (out-WithLoop w).op (map gen_term (out-WithLoop w).gens.items) (right_term n.right)) →
      IfOk new (λ (n : KnownRight). IsKnownAnywhere (right_term n.right) (map fact_of n.values.items)) → IfOk new (Stepped k p q xs s (right_term r) vs done)
  with_step k p q xs s r w vs done (Ok n) is h known =
      let term : right_term r ≡ With (out-WithLoop w).op (gens_of (map gen_term (out-WithLoop w).gens.items)) = ap right_term is ∙ with_out w in
      subst (λ (t : RightTerm). Stepped k p q xs s t vs done n) (sym term)
      ([], sym (append_nil done), record { none = refl; known = λ _. known called k; edit = edit_of k p q xs s (out-WithLoop w).op (map gen_term (out-WithLoop w).gens.items) (right_term n.right) h })
  with_step k p q xs s r w vs done (Err m) is h known = tt

  none_at : (p : Progress) (k : Facts) (xs : List Var) (s : Site) (rest : BlockTerm) (r : Right) → ((w : WithLoop) → r ≡ right.With w → ⊥) → NoneAt bases first p k (Bind xs s (right_term r) rest)
  none_at p k xs s rest (right.If x a b) o = tt
  none_at p k xs s rest (right.Loop head start params test body site) o = tt
  none_at p k xs s rest (right.Call group args) o = tt
  none_at p k xs s rest (right.With w) o = absurd (o w refl)
  none_at p k xs s rest (right.Parted q) o = subst (λ (t : RightTerm). NoneAt bases first p k (Bind xs s t rest)) (sym (parted_out q)) tt
  none_at p k xs s rest (right.Const a) o = tt
  none_at p k xs s rest (right.Copy x) o = tt
  none_at p k xs s rest (right.Unary op x) o = tt
  none_at p k xs s rest (right.Binary op x y) o = tt
  none_at p k xs s rest (right.Literal ys) o = tt
  none_at p k xs s rest (right.Dim x) o = tt
  none_at p k xs s rest (right.ShapeOf x) o = tt
  none_at p k xs s rest (right.Reshape x y) o = tt
  none_at p k xs s rest (right.Select x y) o = tt
  none_at p k xs s rest (right.Replace x y z) o = tt
  none_at p k xs s rest (right.Always a) o = tt
  none_at p k xs s rest (right.Check x t) o = tt

  pub other_step : (k : Facts) (p : Progress) (xs : List Var) (s : Site) (new : KnownRight) (done : List LetTerm) → ((w : WithLoop) → new.right ≡ right.With w → ⊥) →
      Stepped k p p xs s (right_term new.right) (map fact_of new.values.items) done new
  other_step k p xs s new done o =
      ([], sym (append_nil done), record { none = refl; known = λ e. e; edit = inr (record { still = refl; same = refl; left = λ rest. none_at p k xs s rest new.right o }) })

  -- ---- the walk

  pub walked_end : (k : Facts) (p q : Progress) (b : BlockTerm) (new : Result KnownBlock Memory) →
      IfOk new (λ (n : KnownBlock). BlockTraced called Progress (NormStep called bases first) Finished k p q b (block_term n.block) (map fact_of n.results.items)) →
      IfOk new (λ (n : KnownBlock). BlockWalked called bases first k p q b (block_term n.block))
  walked_end k p q b (Ok n) t = (walked_block called bases first k p q b (block_term n.block) (map fact_of n.results.items) t).0
  walked_end k p q b (Err m) t = tt

  pub known_end : (k : Facts) (p q : Progress) (b : BlockTerm) (new : Result KnownBlock Memory) →
      IfOk new (λ (n : KnownBlock). BlockTraced called Progress (NormStep called bases first) Finished k p q b (block_term n.block) (map fact_of n.results.items)) →
      IfOk new (λ (n : KnownBlock). map fact_of n.results.items ≡ block_facts called (block_term n.block) k)
  known_end k p q b (Ok n) t = (walked_block called bases first k p q b (block_term n.block) (map fact_of n.results.items) t).1
  known_end k p q b (Err m) t = tt
