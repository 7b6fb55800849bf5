-- Refusals of data as they are written.
use Rattle.std.specs.Prelude.{ℕ, List, codes}
use Rattle.data_text.specs.declared.error.DataCode.{DataCode}
use Rattle.data_text.specs.declared.error.DataCode.TheVariants.{I1, I2, I3, I4, I5, I6}

-- the code that stands for a refusal in the output
abbrev pub data_code : DataCode → List ℕ
data_code I1 = codes "I1"
data_code I2 = codes "I2"
data_code I3 = codes "I3"
data_code I4 = codes "I4"
data_code I5 = codes "I5"
data_code I6 = codes "I6"
