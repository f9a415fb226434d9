use Rattle.std.proofs.Common.{sym, Option, ◌∙◌}
use Rattle.ruby_lexer.specs.Bytes.{Bytes}
use Rattle.ruby_lexer.specs.Pieces.{seen_parts}
use Rattle.reference_parser.specs.ReadItems.{Readers}
use Rattle.reference_parser.specs.ReadOperands.{literal_by}
use Rattle.parse_state.proofs.Steps.{wanting}
use Rattle.parse_state.proofs.Tools.{at_spot, told_as}
use Rattle.parse_operands.proofs.literals.literal.Goals as goal

pub returns-in_err-plain : goal.returns-in_err-plain
unfolding literal_by
returns-in_err-plain g c = record { reads = λ w s a. wanting _ c.from_residual.ensures.1 }

pub returns-in-Some : goal.returns-in-Some
unfolding literal_by
returns-in-Some g c = record { reads = λ w s a. let Q : Readers = g.N.Nested.readers c.args.nested.now c.args.context.source.now in told_as (λ (x : Option Bytes). literal_by c.args.context.source.now Q w s (seen_parts c.args.parts.now) x) (sym c.in-Some.is ∙ c.in_ok-plain.ensures) (c.leaf.ensures.gives _ w s (at_spot (c.position_here-here.ensures _ _ a) (c.text.ensures.made _)) a) }

pub returns-in-None : goal.returns-in-None
unfolding literal_by
returns-in-None g c = record { reads = λ w s a. let Q : Readers = g.N.Nested.readers c.args.nested.now c.args.context.source.now in told_as (λ (x : Option Bytes). literal_by c.args.context.source.now Q w s (seen_parts c.args.parts.now) x) (sym c.in-None.is ∙ c.in_ok-plain.ensures) (c.joined_text.ensures.reads w s a) }
