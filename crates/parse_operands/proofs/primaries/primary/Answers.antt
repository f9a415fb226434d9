use Rattle.std.proofs.Common.{true, false}
use Rattle.ruby_tree.specs.Rules.{front, is_kind_name, is_kind_constant, is_kind_keyword, is_kind_mark}
use Rattle.token_lookahead.specs.Lookaheads.{do_owner_of, is_kind_variable, is_kind_global}
use Rattle.reference_parser.specs.ReadItems.{Readers}
use Rattle.reference_parser.specs.ReadOperands.{read_primary}
use Rattle.parse_state.proofs.Steps.{named}
use Rattle.parse_operands.proofs.Fronts.{shown, by_name, by_constant, by_variable, by_global, by_keyword, by_mark, by_held}
use Rattle.parse_operands.proofs.primaries.primary.Goals as goal

pub returns-then-is_name : goal.returns-then-is_name
unfolding read_primary
returns-then-is_name g c = record { reads = λ w s a. let Q : Readers = g.N.Nested.readers c.args.nested.now c.args.context.source.now in named (by_name c.args.context.source.now Q (do_owner_of c.args.do_owner) w s (front w) (shown is_kind_name c.is_name.ensures (c.tokens_here-tokens.ensures w s a) c.if-is_name.true)) (c.name.ensures.reads w s a) }

pub returns-then-is_constant : goal.returns-then-is_constant
unfolding read_primary
returns-then-is_constant g c = record { reads = λ w s a. let Q : Readers = g.N.Nested.readers c.args.nested.now c.args.context.source.now in named (by_constant c.args.context.source.now Q (do_owner_of c.args.do_owner) w s (front w) (shown is_kind_constant c.is_constant.ensures (c.tokens_here-tokens.ensures w s a) c.if-is_constant.true)) (c.constant.ensures.reads w s a) }

pub returns-then-is_variable : goal.returns-then-is_variable
unfolding read_primary
returns-then-is_variable g c = record { reads = λ w s a. let Q : Readers = g.N.Nested.readers c.args.nested.now c.args.context.source.now in named (by_variable c.args.context.source.now Q (do_owner_of c.args.do_owner) w s (front w) (shown is_kind_variable c.is_variable.ensures (c.tokens_here-tokens.ensures w s a) c.if-is_variable.true)) (c.instance_variable.ensures.reads w s a) }

pub returns-then-is_global : goal.returns-then-is_global
unfolding read_primary
returns-then-is_global g c = record { reads = λ w s a. let Q : Readers = g.N.Nested.readers c.args.nested.now c.args.context.source.now in named (by_global c.args.context.source.now Q (do_owner_of c.args.do_owner) w s (front w) (shown is_kind_global c.is_global.ensures (c.tokens_here-tokens.ensures w s a) c.if-is_global.true)) (c.global_variable.ensures.reads w s a) }

pub returns-then-is_any_word : goal.returns-then-is_any_word
unfolding read_primary
returns-then-is_any_word g c = record { reads = λ w s a. let Q : Readers = g.N.Nested.readers c.args.nested.now c.args.context.source.now in named (by_keyword c.args.context.source.now Q (do_owner_of c.args.do_owner) w s (front w) (shown is_kind_keyword c.is_any_word.ensures (c.tokens_here-tokens.ensures w s a) c.if-is_any_word.true)) (c.word.ensures.reads w s a) }

pub returns-then-is_any_mark : goal.returns-then-is_any_mark
unfolding read_primary
returns-then-is_any_mark g c = record { reads = λ w s a. let Q : Readers = g.N.Nested.readers c.args.nested.now c.args.context.source.now in named (by_mark c.args.context.source.now Q (do_owner_of c.args.do_owner) w s (front w) (shown is_kind_mark c.is_any_mark.ensures (c.tokens_here-tokens.ensures w s a) c.if-is_any_mark.true)) (c.mark.ensures.reads w s a) }

pub returns : goal.returns
unfolding read_primary
returns g c = record { reads = λ w s a. let Q : Readers = g.N.Nested.readers c.args.nested.now c.args.context.source.now in named (by_held c.args.context.source.now Q (do_owner_of c.args.do_owner) w s (front w) (shown is_kind_name c.is_name.ensures (c.tokens_here-tokens.ensures w s a) c.if-is_name.false) (shown is_kind_constant c.is_constant.ensures (c.tokens_here-tokens.ensures w s a) c.if-is_constant.false) (shown is_kind_variable c.is_variable.ensures (c.tokens_here-tokens.ensures w s a) c.if-is_variable.false) (shown is_kind_global c.is_global.ensures (c.tokens_here-tokens.ensures w s a) c.if-is_global.false) (shown is_kind_keyword c.is_any_word.ensures (c.tokens_here-tokens.ensures w s a) c.if-is_any_word.false) (shown is_kind_mark c.is_any_mark.ensures (c.tokens_here-tokens.ensures w s a) c.if-is_any_mark.false)) (c.held.ensures.reads w s a) }
