-- Kernels that read of a buffer the element at their own index alone.
use Rattle.std.specs.Prelude.{ℕ, Bool, true, ◌&&◌, ◌||◌, not, nat_eq, nat_le, Option, Some, None}
use Rattle.std.specs.List.{list_all}
use Rattle.kernel_tree.specs.declared.tree.KernelStep.{KernelStep}
use Rattle.kernel_tree.specs.declared.tree.KernelStep.TheVariants as step
use Rattle.kernel_tree.specs.Terms.{KernelTerm, Over, LineThen, IfThen, TurnsThen, EachThen, BetweenThen}

-- the register that a step writes
abbrev pub target : KernelStep → Option ℕ
target (step.Set to n) = Some to
target (step.Move to x) = Some to
target (step.Neg to x) = Some to
target (step.Not to x) = Some to
target (step.Add to x y) = Some to
target (step.Sub to x y) = Some to
target (step.Mul to x y) = Some to
target (step.Div to x y site) = Some to
target (step.Rem to x y site) = Some to
target (step.Min to x y) = Some to
target (step.Max to x y) = Some to
target (step.Eq to x y) = Some to
target (step.Ne to x y) = Some to
target (step.Lt to x y) = Some to
target (step.Le to x y) = Some to
target (step.Gt to x y) = Some to
target (step.Ge to x y) = Some to
target (step.And to x y) = Some to
target (step.Or to x y) = Some to
target (step.Load1 to b x site) = Some to
target (step.Load2 to b x y site) = Some to
target (step.Fail kind site) = None

-- the first registers, in which an index of so many components stands, are not written
abbrev pub keeps_index : ℕ → Option ℕ → Bool
keeps_index rank None = true
keeps_index rank (Some to) = nat_le rank to

-- what is loaded of the buffer is the element at the index in the first registers
abbrev pub own_load : (rank buffer : ℕ) → KernelStep → Bool
own_load rank buffer (step.Load1 to b x site) = not (nat_eq b buffer) || (nat_eq rank 1 && nat_eq x 0)
own_load rank buffer (step.Load2 to b x y site) = not (nat_eq b buffer) || (nat_eq rank 2 && (nat_eq x 0 && nat_eq y 1))
own_load rank buffer s = true

abbrev pub own_step : (rank buffer : ℕ) → KernelStep → Bool
own_step rank buffer s = keeps_index rank (target s) && own_load rank buffer s

-- each step of a kernel leaves the index alone, and loads of the buffer the element at the index alone
abbrev pub is_own : (rank buffer : ℕ) → KernelTerm → Bool
is_own rank buffer Over = true
is_own rank buffer (LineThen ss k) = list_all (own_step rank buffer) ss && is_own rank buffer k
is_own rank buffer (IfThen c a b k) = (is_own rank buffer a && is_own rank buffer b) && is_own rank buffer k
is_own rank buffer (TurnsThen first test c body site k) = (is_own rank buffer test && is_own rank buffer body) && is_own rank buffer k
is_own rank buffer (EachThen index from to body k) = (nat_le rank index && is_own rank buffer body) && is_own rank buffer k
is_own rank buffer (BetweenThen index from from_closed to to_closed body site k) = (nat_le rank index && is_own rank buffer body) && is_own rank buffer k
