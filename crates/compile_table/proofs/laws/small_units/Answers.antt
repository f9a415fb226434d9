use Rattle.compile_table.proofs.Worked.{empty_file-holds, sum_file-holds, constants_row-holds, statements_row-holds, text_row-holds, collections_row-holds, variables_row-holds, several_row-holds, calls_row-holds, attributes_row-holds, indices_row-holds, logic_row-holds, loops_row-holds, cases_row-holds, exits_row-holds, bodies_row-holds, block_row-holds, rescue_row-holds, ensure_row-holds, nested_row-holds, heads_row-holds, lines_row-holds}
use Rattle.compile_table.proofs.laws.small_units.Goals as goal

pub returns : goal.returns
returns c = record {
  of_empty_file = empty_file-holds;
  of_sum_file = sum_file-holds;
  of_constants_row = constants_row-holds;
  of_statements_row = statements_row-holds;
  of_text_row = text_row-holds;
  of_collections_row = collections_row-holds;
  of_variables_row = variables_row-holds;
  of_several_row = several_row-holds;
  of_calls_row = calls_row-holds;
  of_attributes_row = attributes_row-holds;
  of_indices_row = indices_row-holds;
  of_logic_row = logic_row-holds;
  of_loops_row = loops_row-holds;
  of_cases_row = cases_row-holds;
  of_exits_row = exits_row-holds;
  of_bodies_row = bodies_row-holds;
  of_block_row = block_row-holds;
  of_rescue_row = rescue_row-holds;
  of_ensure_row = ensure_row-holds;
  of_nested_row = nested_row-holds;
  of_heads_row = heads_row-holds;
  of_lines_row = lines_row-holds;
}
