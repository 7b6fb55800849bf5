-- What a table learns, binding after binding.
use Rattle.std.proofs.Common.{◌≡◌, ℕ, ◌+◌, ◌<◌, ◌≤◌, Bool, List, [], ◌∷◌, ◌++◌, map, drop, length, get_or, sym, ap, subst, ◌∙◌, arith}
use Rattle.std.specs.Prelude.{zip}
use Rattle.std.proofs.lemmas.List.{drop_more, at_drop_all}
use Rattle.std.proofs.lemmas.List.Elements.{All-nil, All-cons, All-head, All-append}
use Rattle.sac_base.specs.declared.base.Base.{Base}
use Rattle.sac_base.specs.declared.base.Base.TheVariants.{Int, Bool as Truth}
use Rattle.sac_base.specs.declared.grid.Grid1.{Grid1}
use Rattle.sac_base.specs.declared.site.Site.{Site}
use Rattle.core_ir.specs.declared.tree.Var.{Var}
use Rattle.core_ir.specs.declared.tree.CoreOp.{CoreOp}
use Rattle.core_ir.specs.declared.tree.CoreOp.TheVariants as making
use Rattle.core_ir.specs.declared.tree.PartedOp.{PartedOp}
use Rattle.core_ir.specs.declared.tree.Let.{Let}
use Rattle.core_ir.specs.declared.tree.Block.{Block, out-Block}
use Rattle.core_ir.specs.declared.tree.CoreGen.{CoreGen, CoreGen', out-CoreGen}
use Rattle.core_ir.specs.declared.tree.CorePart.{CorePart, CorePart', out-CorePart}
use Rattle.core_ir.specs.declared.tree.WithLoop.{WithLoop, out-WithLoop}
use Rattle.core_ir.specs.declared.tree.PartedLoop.{PartedLoop, out-PartedLoop}
use Rattle.core_ir.specs.View.{block_term, let_term, right_term, with_term, gen_term, parted_term, part_term}
use Rattle.core_ir.proofs.Trees.{block_out, with_out, parted_out}
use Rattle.core_ir.specs.Terms.{PlainTerm, BlockTerm, RightTerm, GensTerm, PartsTerm, GenTerm, PartTerm, Gives, Bind, Plain, Gen, Part, chain, gens_of, parts_of}
use Rattle.core_ir.specs.WellFormed.{Bases, OperationBase, ints}
use Rattle.core_loops.specs.norm_steps.Step.{Within}
use Rattle.core_loops.specs.norm_steps.Step.{BaseTable as AllBases}
use Rattle.core_loops.proofs.norm_steps.Places.{within_zip, within_ints, within_one}
use Rattle.variable_bases.specs.declared.signatures.Signatures.{Signatures}
use Rattle.variable_bases.specs.declared.table.BaseTable.{BaseTable}
use Rattle.variable_bases.specs.Instances.{Instance}
use Rattle.variable_bases.specs.Sources.{source, sources, sources_right, sources_gens, sources_parts, results}
use Rattle.variable_bases.specs.Learned.{Notes, Takes, Numbers, ScopeTold, gens_in, parts_in, TellsRight, TellsNothing, LearnsBlock, LearnsRight, LearnsGens, LearnsGen, LearnsParts, LearnsPart}
use Rattle.variable_bases.specs.Table.{IsTold, GroupGives, NoneGives}
use Rattle.variable_bases.proofs.Scopes.{all_kept, exactly, have_told, same_lengths, scope_ints, scope_kept, scope_one, scope_zip}
use Rattle.variable_bases.proofs.Within.{have_all, results_chain, ends}
use Rattle.variable_bases.proofs.Told.{may}

module _ (s : Signatures) where
  -- ---- one after another

  pub bind_learned :
      (t u v : BaseTable) (xs : List Var) (site : Site) (r : RightTerm) (b : BlockTerm) → LearnsRight s t u xs r → LearnsBlock s u v b →
      LearnsBlock s t v (Bind xs site r b)
  bind_learned t u v xs site r b one rest = record {
    tells = λ core has m g ts d w f old. rest.tells core has m (zip xs d.0 ++ g) ts d.1.2 (within_zip m g xs d.0 w f.0) f.2 (one.tells core has m g d.0 d.1.0 w f.1 (sym f.0) old);
    keeps = λ x h. rest.keeps x (one.keeps x h);
    told = λ core has alone m g ts d w f old scope may.
        let first = one.told core has alone m g d.0 d.1.0 w f.1 (sym f.0) old scope may.0 in
        let inner = scope_zip u g xs d.0 (scope_kept t u g one.keeps scope) first.0 in
        let more = rest.told core has alone m (zip xs d.0 ++ g) ts d.1.2 (within_zip m g xs d.0 w f.0) f.2 (one.tells core has m g d.0 d.1.0 w f.1 (sym f.0) old) inner may.1 in
        (more.0, All-append (IsTold v) (sources_right r) (sources b) (all_kept u v (sources_right r) rest.keeps first.1) more.1);
  }

  pub gen_learned :
      (t u v : BaseTable) (x : GenTerm) (rest : GensTerm) → LearnsGen s t u x → LearnsGens s u v rest → LearnsGens s t v (Gen x.head x.body rest)
  gen_learned t u v x rest one more = record {
    tells = λ core has m g b d w f old. more.tells core has m g b d.5 w f.2 (one.tells core has m g b d.4 w f.0 f.1 old);
    keeps = λ y h. more.keeps y (one.keeps y h);
    told = λ core has alone m g b d w f old scope may.
        let first = one.told core has alone m g b d.4 w f.0 f.1 old scope may.0 in
        let next = more.told core has alone m g b d.5 w f.2 (one.tells core has m g b d.4 w f.0 f.1 old) (scope_kept t u g one.keeps scope) may.1 in
        All-append (IsTold v) (sources x.body) (sources_gens rest) (all_kept u v (sources x.body) more.keeps first) next;
  }

  pub part_learned :
      (t u v : BaseTable) (x : PartTerm) (rest : PartsTerm) → LearnsPart s t u x → LearnsParts s u v rest → LearnsParts s t v (Part x.head x.body rest)
  part_learned t u v x rest one more = record {
    tells = λ core has m g b d w f old. more.tells core has m g b d.1 w f.2 (one.tells core has m g b d.0 w (f.0, tt) f.1 old);
    keeps = λ y h. more.keeps y (one.keeps y h);
    told = λ core has alone m g b d w f old scope may.
        let first = one.told core has alone m g b d.0 w (f.0, tt) f.1 old scope may.0 in
        let next = more.told core has alone m g b d.1 w f.2 (one.tells core has m g b d.0 w (f.0, tt) f.1 old) (scope_kept t u g one.keeps scope) may.1 in
        All-append (IsTold v) (sources x.body) (sources_parts rest) (all_kept u v (sources x.body) more.keeps first) next;
  }

  pub body_learned :
      (t u v w : BaseTable) (x : GenTerm) → Numbers (x.head.index ∷ []) t u → Numbers x.head.names u v → LearnsBlock s v w x.body → LearnsGen s t w x
  body_learned t u v w x index names body = record {
    tells = λ core has m g b d in_scope are f old.
        body.tells core has m (ints (x.head.index ∷ x.head.names) ++ g) (b ∷ []) d (within_ints m g (x.head.index ∷ x.head.names) in_scope are) f (names.tells m are.1 (index.tells m (are.0, tt) old));
    keeps = λ y h. body.keeps y (names.keeps y (index.keeps y h));
    told = λ core has alone m g b d in_scope are f old scope may.
        let first = names.keeps x.head.index (All-head (IsTold u) x.head.index [] index.told) in
        let outer = scope_kept u v g names.keeps (scope_kept t u g index.keeps scope) in
        let inner = scope_ints v g (x.head.index ∷ x.head.names) outer (All-cons (IsTold v) x.head.index x.head.names first names.told) in
        (body.told core has alone m (ints (x.head.index ∷ x.head.names) ++ g) (b ∷ []) d (within_ints m g (x.head.index ∷ x.head.names) in_scope are) f
        (names.tells m are.1 (index.tells m (are.0, tt) old)) inner may).1;
  }

  pub cells_learned : (t u v : BaseTable) (x : PartTerm) → Numbers (x.head.index ∷ []) t u → LearnsBlock s u v x.body → LearnsPart s t v x
  cells_learned t u v x numbers body = record {
    tells = λ core has m g b d w are f old. body.tells core has m ((x.head.index, Int) ∷ g) (b ∷ []) d (within_one m g x.head.index Int w are.0) f (numbers.tells m are old);
    keeps = λ y h. body.keeps y (numbers.keeps y h);
    told = λ core has alone m g b d w are f old scope may.
        let inner = scope_one u g x.head.index Int (scope_kept t u g numbers.keeps scope) (All-head (IsTold u) x.head.index [] numbers.told) in
        (body.told core has alone m ((x.head.index, Int) ∷ g) (b ∷ []) d (within_one m g x.head.index Int w are.0) f (numbers.tells m are old) inner may).1;
  }

  -- ---- right sides

  no_longer : (m : AllBases) (xs ys : List Var) (ts : List Base) → map m xs ≡ ts → map m ys ≡ ts → length xs ≤ length ys
  no_longer m xs ys ts p q = omega (arith, same_lengths m xs ts p, same_lengths m ys ts q)

  pub if_learned :
      (t u v x y : BaseTable) (targets : List Var) (c : Var) (a b : BlockTerm) → LearnsBlock s t u a → LearnsBlock s u v b → Takes targets (results a) v x →
      Takes targets (results b) x y → LearnsRight s t y targets (RightTerm.If c a b)
  if_learned t u v x y targets c a b one two from_a from_b = record {
    tells = λ core has m g ts d w f e old.
        from_b.tells m (e ∙ sym (ends core m b g ts d.2 w f.1)) (from_a.tells m (e ∙ sym (ends core m a g ts d.1 w f.0)) (two.tells core has m g ts d.2 w f.1 (one.tells core has m g ts d.1 w f.0 old)));
    keeps = λ z h. from_b.keeps z (from_a.keeps z (two.keeps z (one.keeps z h)));
    told = λ core has alone m g ts d w f e old scope may.
        let first = one.told core has alone m g ts d.1 w f.0 old scope may.0 in
        let second = two.told core has alone m g ts d.2 w f.1 (one.tells core has m g ts d.1 w f.0 old) (scope_kept t u g one.keeps scope) may.1 in
        let fits = no_longer m targets (results a) ts e (ends core m a g ts d.1 w f.0) in (
          all_kept x y targets from_b.keeps (from_a.told fits (all_kept u v (results a) two.keeps first.0)),
          All-append (IsTold y) (sources a) (sources b) (all_kept u y (sources a) (λ z h. from_b.keeps z (from_a.keeps z (two.keeps z h))) first.1)
              (all_kept v y (sources b) (λ z h. from_b.keeps z (from_a.keeps z h)) second.1),
        );
  }

  pub loop_learned :
      (t u v x y : BaseTable) (targets : List Var) (first : Bool) (start params : List Var) (test body : BlockTerm) (site : Site) → Takes params start t u →
      LearnsBlock s u v test → LearnsBlock s v x body → Takes targets start x y → LearnsRight s t y targets (RightTerm.Loop first start params test body site)
  loop_learned t u v x y targets first start params test body site begin one two leave = record {
    tells = λ core has m g ts d w f e old.
        let is = have_all m g start ts w d.0 in
        let inner = within_zip m g params ts w f.0 in
        leave.tells m (e ∙ sym is) (two.tells core has m (zip params ts ++ g) ts d.3 inner f.2 (one.tells core has m (zip params ts ++ g) (Truth ∷ []) d.2 inner f.1 (begin.tells m (sym f.0 ∙ sym is) old)));
    keeps = λ z h. leave.keeps z (two.keeps z (one.keeps z (begin.keeps z h)));
    told = λ core has alone m g ts d w f e old scope may.
        let is = have_all m g start ts w d.0 in
        let inner = within_zip m g params ts w f.0 in
        let begun = begin.tells m (sym f.0 ∙ sym is) old in
        let started = have_told t g start ts scope d.0 in
        let given = begin.told (no_longer m params start ts (sym f.0) is) started in
        let around = scope_zip u g params ts (scope_kept t u g begin.keeps scope) given in
        let tested = one.told core has alone m (zip params ts ++ g) (Truth ∷ []) d.2 inner f.1 begun around may.0 in
        let turned = two.told core has alone m (zip params ts ++ g) ts d.3 inner f.2 (one.tells core has m (zip params ts ++ g) (Truth ∷ []) d.2 inner f.1 begun)
        (scope_kept u v (zip params ts ++ g) one.keeps around) may.1 in (
          leave.told (no_longer m targets start ts e is) (all_kept t x start (λ z h. two.keeps z (one.keeps z (begin.keeps z h))) started),
          All-append (IsTold y) (sources test) (sources body) (all_kept v y (sources test) (λ z h. leave.keeps z (two.keeps z h)) tested.1) (all_kept x y (sources body) leave.keeps turned.1),
        );
  }

  pub call_learned :
      (t u : BaseTable) (targets : List Var) (group : ℕ) (args : List Var) (gives : List Base) →
      GroupGives s group args t gives → Notes targets gives t u →
      LearnsRight s t u targets (RightTerm.Call group args)
  call_learned t u targets group args gives all note = record {
    tells = λ core has m g ts d w f e old. note.tells m (e ∙ all d.0 ts (has group d.0 ts d.1.1) (may t m args d.0 old (have_all m g args d.0 w d.1.0))) old;
    keeps = note.keeps;
    told = λ core has alone m g ts d w f e old scope ends.
        let is = all d.0 ts (has group d.0 ts d.1.1) (may t m args d.0 old (have_all m g args d.0 w d.1.0)) in
        (note.told (let z : length targets ≡ length gives = same_lengths m targets gives (e ∙ is) in omega (arith, z)), All-nil (IsTold u));
  }

  -- a call of which the table tells nothing
  pub call_unknown : (t : BaseTable) (targets : List Var) (group : ℕ) (args : List Var) → NoneGives s group args t → LearnsRight s t t targets (RightTerm.Call group args)
  call_unknown t targets group args none = record {
    tells = λ core has m g ts d w f e old. old;
    keeps = λ x h. h;
    told = λ core has alone m g ts d w f e old scope ends.
        let is = have_all m g args d.0 w d.1.0 in
        let instance = has group d.0 ts d.1.1 in
        absurd (none d.0 ts instance (may t m args d.0 old is) (λ others given one takes.
        let same : others ≡ d.0 = exactly t m args others (have_told t g args d.0 scope d.1.0) old takes ∙ is in
        alone group d.0 given ts (subst (λ us. Instance s group us given) same one) instance));
  }

  operation : (m : AllBases) (g : Bases) (o : CoreOp) (b : Base) → Within m g → OperationBase g o b → b ≡ m (source o)
  operation m g (making.Genarray x y) b w h = w y b h.1
  operation m g (making.Modarray x) b w h = w x b h
  operation m g (making.Fold o x) b w h = w x b h.0

  source_told : (t : BaseTable) (g : Bases) (o : CoreOp) (b : Base) → ScopeTold t g → OperationBase g o b → IsTold t (source o)
  source_told t g (making.Genarray x y) b scope h = scope y b h.1
  source_told t g (making.Modarray x) b scope h = scope x b h
  source_told t g (making.Fold o x) b scope h = scope x b h.0

  pub with_learned :
      (t u v : BaseTable) (targets : List Var) (o : CoreOp) (gens : GensTerm) → LearnsGens s t u gens → Takes targets (source o ∷ []) u v →
      LearnsRight s t v targets (RightTerm.With o gens)
  with_learned t u v targets o gens one take = record {
    tells = λ core has m g ts d w f e old. take.tells m (e ∙ d.1.2 ∙ (λ i. operation m g o d.0 w d.1.0 i ∷ [])) (one.tells core has m g d.0 d.1.1 w f old);
    keeps = λ x h. take.keeps x (one.keeps x h);
    told = λ core has alone m g ts d w f e old scope may.
        let inner = one.told core has alone m g d.0 d.1.1 w f old scope may in
        let from = one.keeps (source o) (source_told t g o d.0 scope d.1.0) in
        let fits : length targets ≤ 1 = let z : length targets ≡ 1 = same_lengths m targets (d.0 ∷ []) (e ∙ d.1.2) in omega (arith, z) in (
          take.told fits (All-cons (IsTold u) (source o) [] from (All-nil (IsTold u))),
          All-cons (IsTold v) (source o) (sources_gens gens) (take.keeps (source o) from) (all_kept u v (sources_gens gens) take.keeps inner),
        );
  }

  pub parted_learned :
      (t u v : BaseTable) (targets : List Var) (frame : List Grid1) (b : Base) (cell : List ℕ) (o : PartedOp) (parts : PartsTerm) → LearnsParts s t u parts →
      Notes targets (b ∷ []) u v → LearnsRight s t v targets (RightTerm.Parted frame b cell o parts)
  parted_learned t u v targets frame b cell o parts one note = record {
    tells = λ core has m g ts d w f e old. note.tells m (e ∙ d.3) (one.tells core has m g b d.1 w f old);
    keeps = λ x h. note.keeps x (one.keeps x h);
    told = λ core has alone m g ts d w f e old scope may. (
      note.told (let z : length targets ≡ 1 = same_lengths m targets (b ∷ []) (e ∙ d.3) in omega (arith, z)),
      all_kept u v (sources_parts parts) note.keeps (one.told core has alone m g b d.1 w f old scope may),
    );
  }

  pub right_learned :
      (t u : BaseTable) (targets : List Var) (r : RightTerm) (p : PlainTerm) (b : Base) → r ≡ Plain p → TellsRight t r b → Notes targets (b ∷ []) t u → LearnsRight s t u targets r
  right_learned t u targets r p b is tells note = subst (λ (q : RightTerm). LearnsRight s t u targets q) (sym is) (plain_learned (subst (λ (q : RightTerm). TellsRight t q b) is tells))
    where
      plain_learned : TellsRight t (Plain p) b → LearnsRight s t u targets (Plain p)
      plain_learned known = record {
        tells = λ core has m g ts d w f e old. note.tells m (e ∙ known core m g ts d w old) old;
        keeps = note.keeps;
        told = λ core has alone m g ts d w f e old scope may.
            (note.told (let z : length targets ≡ 1 = same_lengths m targets (b ∷ []) (e ∙ known core m g ts d w old) in omega (arith, z)), All-nil (IsTold u));
      }

  -- a right side of which the table tells nothing
  pub right_unknown : (t : BaseTable) (targets : List Var) (r : RightTerm) (p : PlainTerm) → r ≡ Plain p → TellsNothing t r → LearnsRight s t t targets r
  right_unknown t targets r p is nothing = subst (λ (q : RightTerm). LearnsRight s t t targets q) (sym is) (plain_unknown (subst (λ (q : RightTerm). TellsNothing t q) is nothing))
    where
      plain_unknown : TellsNothing t (Plain p) → LearnsRight s t t targets (Plain p)
      plain_unknown none = record {
        tells = λ core has m g ts d w f e old. old;
        keeps = λ x h. h;
        told = λ core has alone m g ts d w f e old scope may. absurd (none core g ts d scope may);
      }

-- ---- the trees of the code

block_results : (b : Block) → results (block_term b) ≡ (out-Block b).results.items
block_results b = ap results (block_out b) ∙ results_chain (map let_term (out-Block b).lets.items) (out-Block b).results.items

pub takes_results :
    (targets xs : List Var) (b : Block) (t u : BaseTable) → xs ≡ (out-Block b).results.items → Takes targets xs t u → Takes targets (results (block_term b)) t u
takes_results targets xs b t u is takes = subst (λ ys. Takes targets ys t u) (is ∙ sym (block_results b)) takes

module _ (s : Signatures) where
  pub whole_with :
      (w : WithLoop) (t u v : BaseTable) (targets : List Var) → LearnsGens s t u (gens_in (with_term w)) → Takes targets (source (out-WithLoop w).op ∷ []) u v →
      LearnsRight s t v targets (with_term w)
  whole_with w t u v targets gens take =
      let x = out-WithLoop w in
      subst (λ r. LearnsRight s t v targets r) (sym (with_out w)) (with_learned s t u v targets x.op (gens_of (map gen_term x.gens.items)) (subst (λ r. LearnsGens s t u (gens_in r)) (with_out w) gens) take)

  pub whole_parted :
      (p : PartedLoop) (t u v : BaseTable) (targets : List Var) → LearnsParts s t u (parts_in (parted_term p)) → Notes targets ((out-PartedLoop p).base ∷ []) u v →
      LearnsRight s t v targets (parted_term p)
  whole_parted p t u v targets parts note =
      let x = out-PartedLoop p in
      subst (λ r. LearnsRight s t v targets r) (sym (parted_out p)) (parted_learned s t u v targets x.frame x.base x.cell x.op (parts_of (map part_term x.parts.items)) (subst (λ r. LearnsParts s t u (parts_in r)) (parted_out p) parts) note)

  pub whole_gen :
      (g : CoreGen) (t u v w : BaseTable) (names : List Var) → Numbers ((out-CoreGen g).index ∷ []) t u → names ≡ (out-CoreGen g).names.items → Numbers names u v →
      LearnsBlock s v w (block_term (out-CoreGen g).body) → LearnsGen s t w (gen_term g)
  unfolding out-CoreGen denote.Hole.Carrier.out
  whole_gen (CoreGen' a b c d e f i xs k l) t u v w names index is named body =
      body_learned s t u v w (gen_term (CoreGen' a b c d e f i xs k l)) index (subst (λ ys. Numbers ys u v) is named) body

  pub whole_part :
      (p : CorePart) (t u v : BaseTable) → Numbers ((out-CorePart p).index ∷ []) t u → LearnsBlock s u v (block_term (out-CorePart p).body) → LearnsPart s t v (part_term p)
  unfolding out-CorePart denote.Hole.Carrier.out
  whole_part (CorePart' a i k l) t u v index body = cells_learned s t u v (part_term (CorePart' a i k l)) index body

-- ---- a loop over elements: whatever the rest teaches, the elements so far do so with it

abbrev pub Carried : {A : Type 0} → (List A → BaseTable → BaseTable → Type 0) → List A → ℕ → BaseTable → BaseTable → Type 0
Carried Learns items i start here = (after : BaseTable) → Learns (drop i items) here after → Learns items start after

module _ {A : Type 0} (Learns : List A → BaseTable → BaseTable → Type 0) where
  pub turned :
      (One : A → BaseTable → BaseTable → Type 0) → ((x : A) (xs : List A) (t u v : BaseTable) → One x t u → Learns xs u v → Learns (x ∷ xs) t v) →
      (items : List A) (i : ℕ) (x : A) (start t u : BaseTable) → i < length items → x ≡ get_or items i x → Carried Learns items i start t → One x t u →
      Carried Learns items (i + 1) start u
  turned One step items i x start t u less is so_far one after rest =
      so_far after (subst (λ xs. Learns xs t after) (sym (drop_more items i x less)) (subst (λ y. Learns (y ∷ drop (i + 1) items) t after) is (step x (drop (i + 1) items) t u after one rest)))

  pub ended : (items all : List A) (i : ℕ) (start t : BaseTable) → Learns [] t t → length items ≤ i → items ≡ all → Carried Learns items i start t → Learns all start t
  ended items all i start t none over same so_far =
      subst (λ xs. Learns xs start t) same (so_far t (subst (λ xs. Learns xs t t) (sym (at_drop_all (λ (xs : List A). xs) items i over)) none))

-- the rest of a block, of generators and of parts
module _ (s : Signatures) where
  abbrev pub Lets : List Var → List Let → BaseTable → BaseTable → Type 0
  Lets results ls t u = LearnsBlock s t u (chain (map let_term ls) (Gives results))

  abbrev pub Gens : List CoreGen → BaseTable → BaseTable → Type 0
  Gens gs t u = LearnsGens s t u (gens_of (map gen_term gs))

  abbrev pub Parts : List CorePart → BaseTable → BaseTable → Type 0
  Parts ps t u = LearnsParts s t u (parts_of (map part_term ps))

  pub lets_none : (results : List Var) (t : BaseTable) → Lets results [] t t
  lets_none results t = record {
    tells = λ core has m g ts d w f old. old;
    keeps = λ x h. h;
    told = λ core has alone m g ts d w f old scope may. (have_told t g results ts scope d, All-nil (IsTold t));
  }

  pub gens_none : (t : BaseTable) → Gens [] t t
  gens_none t = record { tells = λ core has m g b d w f old. old; keeps = λ x h. h; told = λ core has alone m g b d w f old scope may. All-nil (IsTold t) }

  pub parts_none : (t : BaseTable) → Parts [] t t
  parts_none t = record { tells = λ core has m g b d w f old. old; keeps = λ x h. h; told = λ core has alone m g b d w f old scope may. All-nil (IsTold t) }

  abbrev pub OneLet : Let → BaseTable → BaseTable → Type 0
  OneLet l t u = LearnsRight s t u l.targets.items (right_term l.right)

  abbrev pub OneGen : CoreGen → BaseTable → BaseTable → Type 0
  OneGen x t u = LearnsGen s t u (gen_term x)

  abbrev pub OnePart : CorePart → BaseTable → BaseTable → Type 0
  OnePart x t u = LearnsPart s t u (part_term x)

  pub next_let : (results : List Var) (l : Let) (ls : List Let) (t u v : BaseTable) → OneLet l t u → Lets results ls u v → Lets results (l ∷ ls) t v
  next_let results l ls t u v = bind_learned s t u v l.targets.items l.site (right_term l.right) (chain (map let_term ls) (Gives results))

  pub next_gen : (x : CoreGen) (xs : List CoreGen) (t u v : BaseTable) → OneGen x t u → Gens xs u v → Gens (x ∷ xs) t v
  next_gen x xs t u v = gen_learned s t u v (gen_term x) (gens_of (map gen_term xs))

  pub next_part : (x : CorePart) (xs : List CorePart) (t u v : BaseTable) → OnePart x t u → Parts xs u v → Parts (x ∷ xs) t v
  next_part x xs t u v = part_learned s t u v (part_term x) (parts_of (map part_term xs))
