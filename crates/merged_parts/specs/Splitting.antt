-- A body without its first parted loop, and that loop.
use Rattle.std.specs.Prelude.{[], ◌++◌, Option, option_map}
use Rattle.core_ir.specs.Terms.{BlockTerm, RightTerm, Gives, chain}
use Rattle.core_ir.specs.View.{block_term, parted_term}
use Rattle.merge_plans.specs.Openings.{Opened, opened}
use Rattle.merged_parts.specs.declared.splitting.SplitBody.{SplitBody}

pub record Split : Type 0 where
  -- the other bindings, in a block without results
  pub around : BlockTerm
  pub inner : RightTerm

abbrev pub split_of : Opened → Split
split_of o = record { around = chain (o.before ++ o.after) (Gives []); inner = o.right }

abbrev pub split : BlockTerm → Option Split
split b = option_map split_of (opened b)

-- what the code has
abbrev pub split_term : SplitBody → Split
split_term s = record { around = block_term s.around; inner = parted_term s.inner }
