use Rattle.ruby_tree.specs.Read.{tree_of}
use Rattle.reference_parser.specs.ReadingOf.{tree}
use Rattle.reference_laws.proofs.ReadingOne.{is_read}
use Rattle.ruby_reader.proofs.parsing.program_of.Goals as goal

pub invariant_of-result : goal.invariant_of-result
invariant_of-result c =
    let source = c.args.text.now in
    let p = c.args.parsed in
    record {
      whole = ∣ record {
        names = c.requires.names;
        source = source;
        read = is_read source (tree (tree_of p.symbols p.part.node)) c.requires.is;
      } ∣₁;
    }
