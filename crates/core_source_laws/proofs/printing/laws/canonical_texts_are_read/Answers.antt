use Rattle.core_source_laws.proofs.printing.Sources.{read_again, nested_again, few_tokens}
use Rattle.core_source_laws.proofs.printing.laws.canonical_texts_are_read.Goals as goal

pub returns : goal.returns
returns c = record { read_again = read_again; nested_again = nested_again; few_tokens = few_tokens }
