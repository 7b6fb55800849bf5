-- Bodies in which copies of the bodies of a producer's parts stand for selections from it.
use Rattle.std.specs.Prelude.{◌≡◌, ℕ, suc, ◌+◌, if◌then◌else◌, eqb, Bool, List, [], ◌∷◌, ◌++◌, length, Option, Some, None, option_map, slice_get}
use Rattle.sac_base.specs.declared.site.Site.{Site}
use Rattle.core_ir.specs.declared.tree.Var.{Var}
use Rattle.core_ir.specs.Binders.{bound_in}
use Rattle.core_ir.specs.Terms.{PlainTerm, BlockTerm, RightTerm, LetTerm, PartTerm, Gives, Bind, Plain, chain}
use Rattle.core_subst.specs.copy.Mapped.{mapped}
use Rattle.core_forms.specs.inlining.Inlined.{bindings, results}
use Rattle.core_subst.specs.Names.{variable}
use Rattle.parted_bodies.specs.Numbering.{named, numbered}

-- ---- what stands for a selection

-- the body of a part whose index and bound variables have the numbers from n on
abbrev pub copied : PartTerm → ℕ → BlockTerm
copied part n = mapped (numbered (named (λ x. x) part.head.index (variable n)) (bound_in part.body) (suc n)) part.body

-- how many variables a copy binds, with the one for the index
abbrev pub copy_binds : PartTerm → ℕ
copy_binds part = suc (length (bound_in part.body))

-- the first target is the first result
abbrev pub last_copy : List Var → List Var → Site → List LetTerm
last_copy (t ∷ ts) (z ∷ zs) s = record { targets = t ∷ []; site = s; right = Plain (PlainTerm.Copy z) } ∷ []
last_copy ts zs s = []

-- the index of the part is that of the selection, then come the bindings of the part, and the selection's target is the part's result
abbrev pub taken : PartTerm → Var → List Var → Site → ℕ → List LetTerm
taken part index targets s n =
    record { targets = variable n ∷ []; site = s; right = Plain (PlainTerm.Copy index) }
    ∷ (bindings (copied part n) ++ last_copy targets (results (copied part n)) s)

-- ---- which part stands for a selection

-- the part whose number stands in the list at this place
abbrev pub part_for : List PartTerm → Option ℕ → Option PartTerm
part_for parts None = None
part_for parts (Some j) = slice_get parts j

-- The index and the part, where a right side is a selection from the producer. So many selections came before it.
abbrev pub chosen : Var → List PartTerm → List ℕ → ℕ → RightTerm → Option (Var × PartTerm)
chosen p parts holders i (Plain (PlainTerm.Select x index)) =
    if eqb p.0 x.0 then option_map (λ part. (index, part)) (part_for parts (slice_get holders i)) else None
chosen p parts holders i r = None

-- ---- folded bodies

-- a right side of which no block is folded
abbrev pub IsWhole : RightTerm → Type 0
IsWhole (RightTerm.If x a b) = ⊥
IsWhole (RightTerm.Loop first start params test body s) = ⊥
IsWhole r = Unit {0}

-- In the second term copies stand for selections of the first. The numbers before are those of the selections passed and of the next new variable, and
-- the numbers after are so too.
module _ (p : Var) (parts : List PartTerm) (holders : List ℕ) where
  mutual
    pub data BlockFolded : ℕ → ℕ → BlockTerm → BlockTerm → ℕ → ℕ → Type 0 where
      ends : {i n : ℕ} {xs : List Var} → BlockFolded i n (Gives xs) (Gives xs) i n
      takes : {i n k m : ℕ} {xs : List Var} {s : Site} {r : RightTerm} {b d : BlockTerm} {index : Var} {part : PartTerm} →
          chosen p parts holders i r ≡ Some (index, part) → BlockFolded (suc i) (n + copy_binds part) b d k m →
          BlockFolded i n (Bind xs s r b) (chain (taken part index xs s n) d) k m
      keeps : {i n j l k m : ℕ} {xs : List Var} {s : Site} {r q : RightTerm} {b d : BlockTerm} →
          chosen p parts holders i r ≡ None → RightFolded i n r q j l → BlockFolded j l b d k m → BlockFolded i n (Bind xs s r b) (Bind xs s q d) k m

    pub data RightFolded : ℕ → ℕ → RightTerm → RightTerm → ℕ → ℕ → Type 0 where
      stays : {i n : ℕ} {r : RightTerm} → IsWhole r → RightFolded i n r r i n
      branches : {i n j l k m : ℕ} {x : Var} {a b c d : BlockTerm} → BlockFolded i n a c j l → BlockFolded j l b d k m →
          RightFolded i n (RightTerm.If x a b) (RightTerm.If x c d) k m
      turns : {i n j l k m : ℕ} {first : Bool} {start params : List Var} {a b c d : BlockTerm} {s : Site} →
          BlockFolded i n a c j l → BlockFolded j l b d k m →
          RightFolded i n (RightTerm.Loop first start params a b s) (RightTerm.Loop first start params c d s) k m

-- ---- bindings

-- whatever follows, the bindings are folded
abbrev pub LetFolded : Var → List PartTerm → List ℕ → ℕ → ℕ → LetTerm → List LetTerm → ℕ → ℕ → Type 0
LetFolded p parts holders i n l ls j m =
    (b d : BlockTerm) (k t : ℕ) → BlockFolded p parts holders j m b d k t → BlockFolded p parts holders i n (Bind l.targets l.site l.right b) (chain ls d) k t
