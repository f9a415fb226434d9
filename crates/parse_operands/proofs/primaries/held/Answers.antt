use Rattle.std.proofs.Common.{rules, refl}
use Rattle.std.proofs.lemmas.Int.{to_z-of_z}
use Rattle.ruby_lexer.specs.Pieces.{seen_parts}
use Rattle.ruby_tree.specs.Rules.{front}
use Rattle.token_lookahead.specs.Lookaheads.{integer_in, literal_in, symbol_in, words_in, symbols_in}
use Rattle.reference_parser.specs.ReadItems.{Readers}
use Rattle.parse_state.specs.Gives.{no_syntax}
use Rattle.parse_state.proofs.Steps.{named}
use Rattle.parse_state.proofs.Tools.{at_spot, integer_as}
use Rattle.parse_operands.proofs.Fronts.{shown, held_integer, held_literal, held_symbol, held_words, held_symbols, held_none}
use mir.Syntax.{w64}
use mir.Val.{SFits}
use Rattle.parse_operands.proofs.primaries.held.Goals as goal

pub returns-in-Some : goal.returns-in-Some
returns-in-Some g c = let f : SFits w64 c.in-Some.value = search rules in record { reads = λ w s a. let Q : Readers = g.N.Nested.readers c.args.nested.now c.args.context.source.now in named (held_integer c.args.context.source.now Q w s (front w) c.in-Some.value (shown integer_in c.in-Some.ensures (c.tokens_here-tokens.ensures w s a) refl)) (c.leaf.ensures.gives _ w s (at_spot (c.position_here-here.ensures _ _ a) (integer_as (to_z-of_z w64 c.in-Some.value f) (c.integer-in-Some.ensures.made _))) a) }

pub returns-in-Some-literal : goal.returns-in-Some-literal
returns-in-Some-literal g c = record { reads = λ w s a. let Q : Readers = g.N.Nested.readers c.args.nested.now c.args.context.source.now in named (held_literal c.args.context.source.now Q w s (front w) (seen_parts c.in-Some-literal.parts.now) (shown literal_in c.in-Some-literal.ensures (c.tokens_here-tokens.ensures w s a) refl)) (c.literal-in-Some-literal.ensures.reads w s a) }

pub returns-in-Some-symbol : goal.returns-in-Some-symbol
returns-in-Some-symbol g c = record { reads = λ w s a. let Q : Readers = g.N.Nested.readers c.args.nested.now c.args.context.source.now in named (held_symbol c.args.context.source.now Q w s (front w) c.in-Some-symbol.text.now (shown symbol_in c.in-Some-symbol.ensures (c.tokens_here-tokens.ensures w s a) refl)) (c.symbol_named.ensures.reads w s a) }

pub returns-in-Some-words : goal.returns-in-Some-words
returns-in-Some-words g c = record { reads = λ w s a. let Q : Readers = g.N.Nested.readers c.args.nested.now c.args.context.source.now in named (held_words c.args.context.source.now Q w s (front w) c.in-Some-words.words.now (shown words_in c.in-Some-words.ensures (c.tokens_here-tokens.ensures w s a) refl)) (c.word_list.ensures.reads w s a) }

pub returns-in-Some-symbols : goal.returns-in-Some-symbols
returns-in-Some-symbols g c = record { reads = λ w s a. let Q : Readers = g.N.Nested.readers c.args.nested.now c.args.context.source.now in named (held_symbols c.args.context.source.now Q w s (front w) c.in-Some-symbols.texts.now (shown symbols_in c.in-Some-symbols.ensures (c.tokens_here-tokens.ensures w s a) refl)) (c.symbol_list.ensures.reads w s a) }

pub returns : goal.returns
returns g c = record { reads = λ w s a. let Q : Readers = g.N.Nested.readers c.args.nested.now c.args.context.source.now in named (held_none c.args.context.source.now Q w s (front w) (shown integer_in c.in_default.ensures (c.tokens_here-tokens.ensures w s a) refl) (shown literal_in c.in_default-literal.ensures (c.tokens_here-tokens.ensures w s a) refl) (shown symbol_in c.in_default-symbol.ensures (c.tokens_here-tokens.ensures w s a) refl) (shown words_in c.in_default-words.ensures (c.tokens_here-tokens.ensures w s a) refl) (shown symbols_in c.in_default-symbols.ensures (c.tokens_here-tokens.ensures w s a) refl)) no_syntax }
