use Rattle.sac_ast.specs.Grammar.{Tree, rule, action}
use Rattle.sac_grammar.specs.Tables.{first_of, ext_of, rank_of}
use Rattle.sac_grammar.proofs.Table.{table}
use Rattle.sac_grammar.proofs.Exact.{one_tree, read_whole, stuck_at}
use Rattle.sac_grammar.proofs.Stops.{tall_at}
use Rattle.sac_grammar.proofs.parser_is_exact.Goals as goal

pub returns : goal.returns
returns c = record {
  one_tree = one_tree Tree first_of ext_of rank_of rule action table;
  found = read_whole Tree first_of ext_of rank_of rule action table;
  lost = stuck_at Tree first_of ext_of rank_of rule action table;
  tall = tall_at;
}
