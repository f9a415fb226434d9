-- The programs do what their rows say, by computation.
use Rattle.std.proofs.Common.{refl}
use Rattle.std.specs.Fmt.{digits}
use Rattle.std.specs.Str.{is_utf8, chars}
use Rattle.ruby_lexer.specs.Classes as classes
use Rattle.ruby_lexer.specs.Cut as cut
use Rattle.ruby_lexer.specs.Marks as marks
use Rattle.ruby_lexer.specs.Numbers as numbers
use Rattle.ruby_lexer.specs.Scan as scan
use Rattle.ruby_lexer.specs.Texts as texts
use Rattle.ruby_lexer.specs.Tokens as tokens
use Rattle.ruby_lexer.specs.Words as lexed_words
use Rattle.ruby_tree.specs.FirstFault as first_fault
use Rattle.reference_parser.specs.Answers as answers
use Rattle.reference_parser.specs.Fronts as fronts
use Rattle.reference_parser.specs.ReadBodies as bodies
use Rattle.reference_parser.specs.ReadItems as items
use Rattle.reference_parser.specs.ReadLevels as levels
use Rattle.reference_parser.specs.ReadOperands as operands
use Rattle.reference_parser.specs.ReadStatements as statements
use Rattle.reference_parser.specs.ReadingOf as reading
use Rattle.reference_parser.specs.Scanned as scanned
use Rattle.reference_parser.specs.Stops as stops
use Rattle.ruby_meaning.specs.EdgeRows.{EdgeRows}

pub edge_rows : EdgeRows
unfolding classes.blank_class_of classes.class_of cut.cutter marks.is_closing_mark marks.mark_length marks.operator_length marks.marks_at marks.operator_forms marks.colon_forms numbers.number_at scan.◌>>=◌ scan.scan_inside scan.scan_quoted scan.scan_symbol scan.scan_form scan.scan_piece scan.scan_code scan.coder scan.scan_all texts.single_text texts.single_at texts.unicode_escape texts.escape texts.list_at texts.block_comment_at tokens.before_end lexed_words.is_forbidden lexed_words.is_reserved lexed_words.word_at lexed_words.label_at lexed_words.variable_at lexed_words.global_at first_fault.earlier first_fault.first_of answers.◌>>=◌ answers.◌>>>◌ fronts.skip_newlines fronts.then_at fronts.loop_start_at fronts.brackets_at fronts.method_name_at fronts.on_self_at bodies.clauses bodies.read_else bodies.rescued_body bodies.read_body bodies.ended bodies.do_block bodies.brace_block bodies.read_block bodies.call_block bodies.command_block bodies.call_items bodies.text_parts bodies.read_else_branches bodies.when_list bodies.default_param bodies.named_param bodies.left_param bodies.method_params bodies.bracket_params bodies.parameter_list bodies.read_parameters bodies.read_superclass items.block_params items.read_bars items.exception_name items.with_goal items.more_targets items.read_targets items.closed items.several items.read_several items.read_element items.elements items.pair_by items.read_pair items.pair_list items.read_passed items.end_pairs items.pairs_from items.items_from items.items items.read_items items.in_brackets items.command_items items.read_classes levels.rest levels.read_rest levels.compare levels.ranged levels.operand_of levels.read_unary_operand levels.raised levels.read_power levels.read_minus levels.chosen levels.at_level levels.climb levels.read_level operands.called_name operands.read_name operands.read_constant operands.read_yield operands.read_super operands.read_choice operands.read_loop operands.read_begin operands.read_whens operands.read_case operands.read_method operands.read_class operands.read_module operands.block_form_at operands.read_form operands.read_word operands.read_list operands.read_hash operands.read_group operands.negative_by operands.read_mark operands.literal_by operands.primary_by operands.read_primary operands.read_call operands.end_index operands.read_index operands.path_at operands.postfix_at operands.postfixes operands.read_postfix statements.read_value statements.set_by statements.command_by statements.unassigned statements.start_by statements.read_unset statements.read_settable statements.read_arg statements.read_values statements.read_command statements.read_assigned_value statements.read_test statements.tests statements.read_expr statements.read_head statements.modifiers_from statements.read_stmt statements.stmt_list statements.read_stmts statements.readers reading.judged reading.stop_line reading.reading_of scanned.front_of_text scanned.scanned_of stops.front_behind stops.front_from stops.front_of stops.class_header stops.module_header stops.method_header stops.header_at stops.line_or stops.stop_behind stops.stops_from stops.stops_at digits is_utf8 chars lib.Utf8.encode
edge_rows = record {
  targets_in_order = refl;
  ensured_value = refl;
  attribute_value = refl;
  frozen_variable = refl;
  first_place = refl;
  class_in_a_module = refl;
  new_of_a_module = refl;
  given_proc = refl;
  place_in_a_block = refl;
  raised_in_a_block = refl;
  place_outside = refl;
  case_in_a_method = refl;
  case_in_a_block = refl;
  body_once = refl;
  body_twice = refl;
  no_second_turn = refl;
  set_once = refl;
  set_twice = refl;
  frozen_list = refl;
  entered_first = refl;
  status_too_large = refl;
  greatest_status = refl;
  no_message = refl;
  asked_for_input = refl;
  no_input_asked = refl;
}
