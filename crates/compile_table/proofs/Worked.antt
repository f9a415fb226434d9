-- The worked rows hold, by computation.
use Rattle.std.proofs.Common.{refl}
use Rattle.std.specs.Fmt.{digits}
use Rattle.std.specs.Str.{is_utf8, chars}
use Rattle.iseq_dump.specs.Dump.{groups, number_bytes, fixed_bytes, head_length, head_of}
use Rattle.compile_table.specs.Sequences.{unit_of}
use Rattle.compile_table.specs.Worked.{empty_file, sum_file, constants_row, statements_row, text_row, collections_row, variables_row, several_row, calls_row, attributes_row, indices_row, logic_row, loops_row, cases_row, exits_row, bodies_row, block_row, rescue_row, ensure_row, nested_row, heads_row, lines_row}

pub empty_file-holds : empty_file
unfolding digits is_utf8 chars lib.Utf8.encode unit_of groups number_bytes fixed_bytes head_length head_of
empty_file-holds = refl

pub sum_file-holds : sum_file
unfolding digits is_utf8 chars lib.Utf8.encode unit_of
sum_file-holds = refl

pub constants_row-holds : constants_row
unfolding digits is_utf8 chars lib.Utf8.encode
constants_row-holds = (refl, refl, refl, refl, refl, refl, refl, refl, refl, refl)

pub statements_row-holds : statements_row
unfolding digits is_utf8 chars lib.Utf8.encode
statements_row-holds = (refl, refl)

pub text_row-holds : text_row
unfolding digits is_utf8 chars lib.Utf8.encode
text_row-holds = refl

pub collections_row-holds : collections_row
unfolding digits is_utf8 chars lib.Utf8.encode
collections_row-holds = (refl, refl, refl, refl, refl, refl)

pub variables_row-holds : variables_row
unfolding digits is_utf8 chars lib.Utf8.encode
variables_row-holds = (refl, refl, refl, refl, refl, refl, refl)

pub several_row-holds : several_row
unfolding digits is_utf8 chars lib.Utf8.encode
several_row-holds = (refl, refl)

pub calls_row-holds : calls_row
unfolding digits is_utf8 chars lib.Utf8.encode
calls_row-holds = (refl, refl, refl, refl)

pub attributes_row-holds : attributes_row
unfolding digits is_utf8 chars lib.Utf8.encode
attributes_row-holds = (refl, refl, refl, refl, refl)

pub indices_row-holds : indices_row
unfolding digits is_utf8 chars lib.Utf8.encode
indices_row-holds = (refl, refl, refl)

pub logic_row-holds : logic_row
unfolding digits is_utf8 chars lib.Utf8.encode
logic_row-holds = (refl, refl, refl, refl, refl)

pub loops_row-holds : loops_row
unfolding digits is_utf8 chars lib.Utf8.encode
loops_row-holds = (refl, refl, refl, refl, refl)

pub cases_row-holds : cases_row
unfolding digits is_utf8 chars lib.Utf8.encode
cases_row-holds = (refl, refl)

pub exits_row-holds : exits_row
unfolding digits is_utf8 chars lib.Utf8.encode
exits_row-holds = (refl, refl, refl, refl, refl, refl)

pub bodies_row-holds : bodies_row
unfolding digits is_utf8 chars lib.Utf8.encode
bodies_row-holds = (refl, refl, refl, refl, refl, refl)

pub block_row-holds : block_row
unfolding digits is_utf8 chars lib.Utf8.encode
block_row-holds = (refl, refl, refl, refl)

pub rescue_row-holds : rescue_row
unfolding digits is_utf8 chars lib.Utf8.encode
rescue_row-holds = (refl, refl)

pub ensure_row-holds : ensure_row
unfolding digits is_utf8 chars lib.Utf8.encode
ensure_row-holds = (refl, refl)

pub nested_row-holds : nested_row
unfolding digits is_utf8 chars lib.Utf8.encode
nested_row-holds = (refl, refl)

pub heads_row-holds : heads_row
unfolding digits is_utf8 chars lib.Utf8.encode
heads_row-holds = refl

pub lines_row-holds : lines_row
unfolding digits is_utf8 chars lib.Utf8.encode
lines_row-holds = refl
