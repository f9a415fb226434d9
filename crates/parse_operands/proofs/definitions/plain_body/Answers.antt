use Rattle.ruby_tree.specs.Tree.{SourcePosition}
use Rattle.token_lookahead.specs.Lookaheads.{do_owner_of}
use Rattle.reference_parser.specs.ReadItems.{Readers}
use Rattle.reference_parser.specs.ReadBodies.{read_body}
use Rattle.parse_state.proofs.Tools.{told_as}
use Rattle.parse_operands.proofs.definitions.plain_body.Goals as goal

pub returns : goal.returns
returns g c = record { reads = λ w s a. let Q : Readers = g.N.Nested.readers c.args.nested.now c.args.context.source.now in told_as (λ (o : SourcePosition). read_body c.args.context.source.now Q (do_owner_of c.args.do_owner) o w s) (c.position_here-here.ensures _ _ a) (c.body.ensures.reads w s a) }
