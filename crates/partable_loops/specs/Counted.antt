-- How many generators a with-loop has.
use Rattle.std.specs.Prelude.{ℕ, suc}
use Rattle.core_ir.specs.Terms.{GensTerm, NoGens, Gen}

abbrev pub generator_count : GensTerm → ℕ
generator_count NoGens = 0
generator_count (Gen h b rest) = suc (generator_count rest)
