-- The small programs do what their rows say, by computation.
use Rattle.std.proofs.Common.{refl}
use Rattle.std.specs.Fmt.{digits}
use Rattle.std.specs.Str.{is_utf8, chars}
use Rattle.ruby_meaning.specs.Rows.{sum_row, require_twice, missing_feature, raise_in_feature, cycle_of_features, break_through_ensure, turns_are_spent, no_turn, too_large, floor_of_quotients, divided_by_zero, texts_of_values, exit_runs_ensure, exit_out_of_range, retries, retry_in_a_body, retry_in_an_else, lines_of_input, order_of_parts, block_outlives_method, break_of_ended_call, return_of_ended_method, return_from_block, super_rows, constants_outward, missing_constant, wrong_count, parameters, spread, class_bodies, superclass_mismatch, case_of_values, case_in_a_clause, case_in_an_ensure, raised_again, bare_name, loops, frozen, block_locals, operators, missing_program, load_twice, relative, given_blocks, ensure_replaces, return_in_file_block, singleton_refused, stack_too_deep, block_values, module_methods, global_names, yield_without_block, ensure_and_break, exact_turns, one_turn_less, count_before_turn, turn_before_depth, return_through_block, raise_in_else, rescue_of_no_class, several_classes, own_to_s, place_in_a_block, frozen_features, no_text, super_on_self, lexical_constants, locals_of_modifiers, order_of_a_call, reopened, self_methods, data_fault_row, trace_row, faulty_program, cells_of_a_text, indexed_asks, other_asks, cells_of_a_local, cells_of_a_hash, cells_of_a_class, cells_of_a_proc, cells_of_an_exception}

pub sum_row-holds : sum_row
unfolding digits is_utf8 chars lib.Utf8.encode
sum_row-holds = refl

pub require_twice-holds : require_twice
unfolding digits is_utf8 chars lib.Utf8.encode
require_twice-holds = refl

pub missing_feature-holds : missing_feature
unfolding digits is_utf8 chars lib.Utf8.encode
missing_feature-holds = refl

pub raise_in_feature-holds : raise_in_feature
unfolding digits is_utf8 chars lib.Utf8.encode
raise_in_feature-holds = refl

pub cycle_of_features-holds : cycle_of_features
unfolding digits is_utf8 chars lib.Utf8.encode
cycle_of_features-holds = refl

pub break_through_ensure-holds : break_through_ensure
unfolding digits is_utf8 chars lib.Utf8.encode
break_through_ensure-holds = refl

pub turns_are_spent-holds : turns_are_spent
unfolding digits is_utf8 chars lib.Utf8.encode
turns_are_spent-holds = refl

pub no_turn-holds : no_turn
unfolding digits is_utf8 chars lib.Utf8.encode
no_turn-holds = refl

pub too_large-holds : too_large
unfolding digits is_utf8 chars lib.Utf8.encode
too_large-holds = refl

pub floor_of_quotients-holds : floor_of_quotients
unfolding digits is_utf8 chars lib.Utf8.encode
floor_of_quotients-holds = refl

pub divided_by_zero-holds : divided_by_zero
unfolding digits is_utf8 chars lib.Utf8.encode
divided_by_zero-holds = refl

pub texts_of_values-holds : texts_of_values
unfolding digits is_utf8 chars lib.Utf8.encode
texts_of_values-holds = refl

pub exit_runs_ensure-holds : exit_runs_ensure
unfolding digits is_utf8 chars lib.Utf8.encode
exit_runs_ensure-holds = refl

pub exit_out_of_range-holds : exit_out_of_range
unfolding digits is_utf8 chars lib.Utf8.encode
exit_out_of_range-holds = refl

pub retries-holds : retries
unfolding digits is_utf8 chars lib.Utf8.encode
retries-holds = refl

pub retry_in_a_body-holds : retry_in_a_body
unfolding digits is_utf8 chars lib.Utf8.encode
retry_in_a_body-holds = refl

pub retry_in_an_else-holds : retry_in_an_else
unfolding digits is_utf8 chars lib.Utf8.encode
retry_in_an_else-holds = refl

pub lines_of_input-holds : lines_of_input
unfolding digits is_utf8 chars lib.Utf8.encode
lines_of_input-holds = refl

pub order_of_parts-holds : order_of_parts
unfolding digits is_utf8 chars lib.Utf8.encode
order_of_parts-holds = refl

pub block_outlives_method-holds : block_outlives_method
unfolding digits is_utf8 chars lib.Utf8.encode
block_outlives_method-holds = refl

pub break_of_ended_call-holds : break_of_ended_call
unfolding digits is_utf8 chars lib.Utf8.encode
break_of_ended_call-holds = refl

pub return_of_ended_method-holds : return_of_ended_method
unfolding digits is_utf8 chars lib.Utf8.encode
return_of_ended_method-holds = refl

pub return_from_block-holds : return_from_block
unfolding digits is_utf8 chars lib.Utf8.encode
return_from_block-holds = refl

pub super_rows-holds : super_rows
unfolding digits is_utf8 chars lib.Utf8.encode
super_rows-holds = refl

pub constants_outward-holds : constants_outward
unfolding digits is_utf8 chars lib.Utf8.encode
constants_outward-holds = refl

pub missing_constant-holds : missing_constant
unfolding digits is_utf8 chars lib.Utf8.encode
missing_constant-holds = refl

pub wrong_count-holds : wrong_count
unfolding digits is_utf8 chars lib.Utf8.encode
wrong_count-holds = refl

pub parameters-holds : parameters
unfolding digits is_utf8 chars lib.Utf8.encode
parameters-holds = refl

pub spread-holds : spread
unfolding digits is_utf8 chars lib.Utf8.encode
spread-holds = refl

pub class_bodies-holds : class_bodies
unfolding digits is_utf8 chars lib.Utf8.encode
class_bodies-holds = refl

pub superclass_mismatch-holds : superclass_mismatch
unfolding digits is_utf8 chars lib.Utf8.encode
superclass_mismatch-holds = refl

pub case_of_values-holds : case_of_values
unfolding digits is_utf8 chars lib.Utf8.encode
case_of_values-holds = refl

pub case_in_a_clause-holds : case_in_a_clause
unfolding digits is_utf8 chars lib.Utf8.encode
case_in_a_clause-holds = refl

pub case_in_an_ensure-holds : case_in_an_ensure
unfolding digits is_utf8 chars lib.Utf8.encode
case_in_an_ensure-holds = refl

pub raised_again-holds : raised_again
unfolding digits is_utf8 chars lib.Utf8.encode
raised_again-holds = refl

pub bare_name-holds : bare_name
unfolding digits is_utf8 chars lib.Utf8.encode
bare_name-holds = refl

pub loops-holds : loops
unfolding digits is_utf8 chars lib.Utf8.encode
loops-holds = refl

pub frozen-holds : frozen
unfolding digits is_utf8 chars lib.Utf8.encode
frozen-holds = refl

pub block_locals-holds : block_locals
unfolding digits is_utf8 chars lib.Utf8.encode
block_locals-holds = refl

pub operators-holds : operators
unfolding digits is_utf8 chars lib.Utf8.encode
operators-holds = refl

pub missing_program-holds : missing_program
unfolding digits is_utf8 chars lib.Utf8.encode
missing_program-holds = refl

pub load_twice-holds : load_twice
unfolding digits is_utf8 chars lib.Utf8.encode
load_twice-holds = refl

pub relative-holds : relative
unfolding digits is_utf8 chars lib.Utf8.encode
relative-holds = refl

pub given_blocks-holds : given_blocks
unfolding digits is_utf8 chars lib.Utf8.encode
given_blocks-holds = refl

pub ensure_replaces-holds : ensure_replaces
unfolding digits is_utf8 chars lib.Utf8.encode
ensure_replaces-holds = refl

pub return_in_file_block-holds : return_in_file_block
unfolding digits is_utf8 chars lib.Utf8.encode
return_in_file_block-holds = refl

pub singleton_refused-holds : singleton_refused
unfolding digits is_utf8 chars lib.Utf8.encode
singleton_refused-holds = refl

pub stack_too_deep-holds : stack_too_deep
unfolding digits is_utf8 chars lib.Utf8.encode
stack_too_deep-holds = refl

pub block_values-holds : block_values
unfolding digits is_utf8 chars lib.Utf8.encode
block_values-holds = refl

pub module_methods-holds : module_methods
unfolding digits is_utf8 chars lib.Utf8.encode
module_methods-holds = refl

pub global_names-holds : global_names
unfolding digits is_utf8 chars lib.Utf8.encode
global_names-holds = refl

pub yield_without_block-holds : yield_without_block
unfolding digits is_utf8 chars lib.Utf8.encode
yield_without_block-holds = refl

pub ensure_and_break-holds : ensure_and_break
unfolding digits is_utf8 chars lib.Utf8.encode
ensure_and_break-holds = refl

pub exact_turns-holds : exact_turns
unfolding digits is_utf8 chars lib.Utf8.encode
exact_turns-holds = refl

pub one_turn_less-holds : one_turn_less
unfolding digits is_utf8 chars lib.Utf8.encode
one_turn_less-holds = refl

pub count_before_turn-holds : count_before_turn
unfolding digits is_utf8 chars lib.Utf8.encode
count_before_turn-holds = refl

pub turn_before_depth-holds : turn_before_depth
unfolding digits is_utf8 chars lib.Utf8.encode
turn_before_depth-holds = refl

pub return_through_block-holds : return_through_block
unfolding digits is_utf8 chars lib.Utf8.encode
return_through_block-holds = refl

pub raise_in_else-holds : raise_in_else
unfolding digits is_utf8 chars lib.Utf8.encode
raise_in_else-holds = refl

pub rescue_of_no_class-holds : rescue_of_no_class
unfolding digits is_utf8 chars lib.Utf8.encode
rescue_of_no_class-holds = refl

pub several_classes-holds : several_classes
unfolding digits is_utf8 chars lib.Utf8.encode
several_classes-holds = refl

pub own_to_s-holds : own_to_s
unfolding digits is_utf8 chars lib.Utf8.encode
own_to_s-holds = refl

pub place_in_a_block-holds : place_in_a_block
unfolding digits is_utf8 chars lib.Utf8.encode
place_in_a_block-holds = refl

pub frozen_features-holds : frozen_features
unfolding digits is_utf8 chars lib.Utf8.encode
frozen_features-holds = refl

pub no_text-holds : no_text
unfolding digits is_utf8 chars lib.Utf8.encode
no_text-holds = refl

pub super_on_self-holds : super_on_self
unfolding digits is_utf8 chars lib.Utf8.encode
super_on_self-holds = refl

pub lexical_constants-holds : lexical_constants
unfolding digits is_utf8 chars lib.Utf8.encode
lexical_constants-holds = refl

pub locals_of_modifiers-holds : locals_of_modifiers
unfolding digits is_utf8 chars lib.Utf8.encode
locals_of_modifiers-holds = refl

pub order_of_a_call-holds : order_of_a_call
unfolding digits is_utf8 chars lib.Utf8.encode
order_of_a_call-holds = refl

pub reopened-holds : reopened
unfolding digits is_utf8 chars lib.Utf8.encode
reopened-holds = refl

pub self_methods-holds : self_methods
unfolding digits is_utf8 chars lib.Utf8.encode
self_methods-holds = refl

pub data_fault_row-holds : data_fault_row
unfolding digits is_utf8 chars lib.Utf8.encode
data_fault_row-holds = refl

pub trace_row-holds : trace_row
unfolding digits is_utf8 chars lib.Utf8.encode
trace_row-holds = refl

pub faulty_program-holds : faulty_program
unfolding digits is_utf8 chars lib.Utf8.encode
faulty_program-holds = refl

pub cells_of_a_text-holds : cells_of_a_text
unfolding digits is_utf8 chars lib.Utf8.encode
cells_of_a_text-holds = refl

pub indexed_asks-holds : indexed_asks
indexed_asks-holds = refl

pub other_asks-holds : other_asks
other_asks-holds = refl

pub cells_of_a_local-holds : cells_of_a_local
unfolding digits is_utf8 chars lib.Utf8.encode
cells_of_a_local-holds = refl

pub cells_of_a_hash-holds : cells_of_a_hash
unfolding digits is_utf8 chars lib.Utf8.encode
cells_of_a_hash-holds = refl

pub cells_of_a_class-holds : cells_of_a_class
unfolding digits is_utf8 chars lib.Utf8.encode
cells_of_a_class-holds = refl

pub cells_of_a_proc-holds : cells_of_a_proc
unfolding digits is_utf8 chars lib.Utf8.encode
cells_of_a_proc-holds = refl

pub cells_of_an_exception-holds : cells_of_an_exception
unfolding digits is_utf8 chars lib.Utf8.encode
cells_of_an_exception-holds = refl
