-- A worked text is read, and its program has what it should.
use Rattle.std.proofs.Common.{◌≡◌, refl}
use Rattle.std.specs.Fmt.{digits}
use Rattle.std.specs.Str.{is_utf8, chars}
use Rattle.ruby_lexer.specs.Classes as classes
use Rattle.ruby_lexer.specs.Cut as cut
use Rattle.ruby_lexer.specs.Marks as marks
use Rattle.ruby_lexer.specs.Numbers as numbers
use Rattle.ruby_lexer.specs.Scan as scan
use Rattle.ruby_lexer.specs.Texts as texts
use Rattle.ruby_lexer.specs.Tokens as tokens
use Rattle.ruby_lexer.specs.Words as lexed_words
use Rattle.ruby_tree.specs.FirstFault as first_fault
use Rattle.reference_parser.specs.Answers as answers
use Rattle.reference_parser.specs.Fronts as fronts
use Rattle.reference_parser.specs.ReadBodies as bodies
use Rattle.reference_parser.specs.ReadItems as items
use Rattle.reference_parser.specs.ReadLevels as levels
use Rattle.reference_parser.specs.ReadOperands as operands
use Rattle.reference_parser.specs.ReadStatements as statements
use Rattle.reference_parser.specs.ReadingOf as reading
use Rattle.reference_parser.specs.Scanned as scanned
use Rattle.reference_parser.specs.Stops as stops
use Rattle.ruby_tree.specs.Reading.{Reads}
use Rattle.reference_laws.proofs.ReadingOne.{is_read}
use Rattle.tree_laws.proofs.Apart.{places_apart}
use Rattle.tree_laws.proofs.LocalsHeld.{housed}
use Rattle.tree_laws.proofs.TextsFormed.{text_formed}
use Rattle.compile_laws.specs.WorkedText.{worked_text, worked_tree, worked_path, worked_sequences, worked_finds}
use Rattle.compile_laws.proofs.FoundPrograms.{file_known}

computed : reading.reading_of worked_text ≡ reading.tree worked_tree
unfolding classes.blank_class_of classes.class_of cut.cutter marks.is_closing_mark marks.mark_length marks.operator_length marks.marks_at marks.operator_forms marks.colon_forms numbers.number_at scan.◌>>=◌ scan.scan_inside scan.scan_quoted scan.scan_symbol scan.scan_form scan.scan_piece scan.scan_code scan.coder scan.scan_all texts.single_text texts.single_at texts.unicode_escape texts.escape texts.list_at texts.block_comment_at tokens.before_end lexed_words.is_forbidden lexed_words.is_reserved lexed_words.word_at lexed_words.label_at lexed_words.variable_at lexed_words.global_at first_fault.earlier first_fault.first_of answers.◌>>=◌ answers.◌>>>◌ fronts.skip_newlines fronts.then_at fronts.loop_start_at fronts.brackets_at fronts.method_name_at fronts.on_self_at bodies.clauses bodies.read_else bodies.rescued_body bodies.read_body bodies.ended bodies.do_block bodies.brace_block bodies.read_block bodies.call_block bodies.command_block bodies.call_items bodies.text_parts bodies.read_else_branches bodies.when_list bodies.default_param bodies.named_param bodies.left_param bodies.method_params bodies.bracket_params bodies.parameter_list bodies.read_parameters bodies.read_superclass items.block_params items.read_bars items.exception_name items.with_goal items.more_targets items.read_targets items.closed items.several items.read_several items.read_element items.elements items.pair_by items.read_pair items.pair_list items.read_passed items.end_pairs items.pairs_from items.items_from items.items items.read_items items.in_brackets items.command_items items.read_classes levels.rest levels.read_rest levels.compare levels.ranged levels.operand_of levels.read_unary_operand levels.raised levels.read_power levels.read_minus levels.chosen levels.at_level levels.climb levels.read_level operands.called_name operands.read_name operands.read_constant operands.read_yield operands.read_super operands.read_choice operands.read_loop operands.read_begin operands.read_whens operands.read_case operands.read_method operands.read_class operands.read_module operands.block_form_at operands.read_form operands.read_word operands.read_list operands.read_hash operands.read_group operands.negative_by operands.read_mark operands.literal_by operands.primary_by operands.read_primary operands.read_call operands.end_index operands.read_index operands.path_at operands.postfix_at operands.postfixes operands.read_postfix statements.read_value statements.set_by statements.command_by statements.unassigned statements.start_by statements.read_unset statements.read_settable statements.read_arg statements.read_values statements.read_command statements.read_assigned_value statements.read_test statements.tests statements.read_expr statements.read_head statements.modifiers_from statements.read_stmt statements.stmt_list statements.read_stmts statements.readers reading.judged reading.stop_line reading.reading_of scanned.front_of_text scanned.scanned_of stops.front_behind stops.front_from stops.front_of stops.class_header stops.module_header stops.method_header stops.header_at stops.line_or stops.stop_behind stops.stops_from stops.stops_at digits is_utf8 chars lib.Utf8.encode
computed = refl

pub worked_reads : Reads worked_text worked_tree
worked_reads = is_read worked_text (reading.tree worked_tree) computed

pub worked_sequences-holds : worked_sequences
unfolding digits is_utf8 chars lib.Utf8.encode
worked_sequences-holds = (refl, refl)

pub worked_finds-holds : worked_finds
worked_finds-holds =
    ((file_known worked_path worked_tree (text_formed worked_text worked_tree worked_reads) (housed worked_text worked_tree worked_reads) (places_apart worked_text worked_tree worked_reads)).body tt).finds
