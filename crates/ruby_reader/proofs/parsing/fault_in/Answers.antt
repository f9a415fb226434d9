use Rattle.std.proofs.Common.{◌∙◌, refl, sym, ap, subst, Option, IfSome, IsNone}
use Rattle.ruby_lexer.specs.Pieces.{seen_all}
use Rattle.ruby_tree.specs.declared.surroundings.Misplaced.{Misplaced}
use Rattle.ruby_tree.specs.Placement.{faults, at_home, file}
use Rattle.ruby_tree.specs.FirstFault.{IsFirstFault}
use Rattle.ruby_tree.specs.Read.{tree_of}
use Rattle.reference_parser.specs.ReadingOf.{fault}
use Rattle.ruby_reader.proofs.Judging.{not_whole, tree_too_deep, misplaced, all_placed}
use Rattle.ruby_reader.proofs.parsing.fault_in.Goals as goal

pub returns-then-not-is_whole : goal.returns-then-not-is_whole
returns-then-not-is_whole c =
    let front = c.args.front.now in
    not_whole c.args.text.now (seen_all front.tokens) front.fault c.requires.front c.args.parsed.now c.requires.taken (sym c.is_whole.ensures ∙ c.if-not-is_whole.true) ∙ ap fault (sym c.in_ok-stop_line.ensures)

pub returns-then-parsed-gt-MAX_DEPTH : goal.returns-then-parsed-gt-MAX_DEPTH
returns-then-parsed-gt-MAX_DEPTH c =
    let front = c.args.front.now in
    tree_too_deep c.args.text.now (seen_all front.tokens) front.fault c.requires.front c.args.parsed.now c.requires.taken (sym c.is_whole.ensures ∙ c.if-not-is_whole.false) c.if-parsed-gt-MAX_DEPTH.true ∙ ap fault (sym c.last_line.ensures)

pub returns-in-Some : goal.returns-in-Some
returns-in-Some c =
    let front = c.args.front.now in
    let p = c.args.parsed.now in
    let first = subst (λ (m : Option Misplaced). IfSome m (IsFirstFault (faults (at_home file) (tree_of p.symbols p.part.node)))) c.in-Some.is c.in_ok-fault.ensures.first in
    misplaced c.args.text.now (seen_all front.tokens) front.fault c.requires.front p c.requires.taken (sym c.is_whole.ensures ∙ c.if-not-is_whole.false) c.if-parsed-gt-MAX_DEPTH.false c.in-Some.fault first

pub returns-in-None : goal.returns-in-None
returns-in-None c =
    let front = c.args.front.now in
    let p = c.args.parsed.now in
    let none = subst (λ (m : Option Misplaced). IsNone m) (sym c.in-None.is) refl in
    all_placed c.args.text.now (seen_all front.tokens) front.fault c.requires.front p c.requires.taken (sym c.is_whole.ensures ∙ c.if-not-is_whole.false) c.if-parsed-gt-MAX_DEPTH.false (c.in_ok-fault.ensures.none.0 none)
