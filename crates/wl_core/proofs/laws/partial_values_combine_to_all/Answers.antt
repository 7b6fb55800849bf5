use Rattle.wl_core.proofs.Orders.{parts, order, chunks_combined}
use Rattle.wl_core.proofs.laws.partial_values_combine_to_all.Goals as goal

pub returns : goal.returns
returns c = record { parts = λ op ps laws. parts op laws ps; order = λ op xs ys laws. order op laws xs ys; chunks = λ op cells count drawn laws. chunks_combined op laws cells count drawn }
