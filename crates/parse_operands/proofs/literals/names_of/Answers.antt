use Rattle.std.proofs.Common.{◌≡◌, sym, ap, ◌∙◌, subst, List, [], ◌∷◌, ◌++◌, ◌+◌, take}
use Rattle.std.proofs.lemmas.List.{take_all, take_more}
use Rattle.ruby_lexer.specs.Bytes.{Bytes}
use Rattle.ruby_tree.specs.declared.names.Name.{Name}
use Rattle.tree_builder.specs.Subtrees.{AreNamed}
use Rattle.parse_state.specs.Gives.{gave}
use Rattle.parse_state.proofs.Steps.{from, cut, handed, wanting}
use Rattle.parse_operands.proofs.Listed.{Listed, none_listed, listed_turn}
use Rattle.parse_operands.proofs.literals.names_of.Goals as goal

pub loop-text-init : goal.loop-text-init
loop-text-init c = subst (λ (ns : List Name). Listed c.args.parser.now c.args.parser.now ns []) (sym c.new-names.ensures.items) (none_listed c.args.parser.now)

pub returns-in_err-name : goal.returns-in_err-name
returns-in_err-name c = record { gives = λ w s a. handed _ _ c.from_residual.ensures.1 (from c.loop-text.invariant.later (cut (c.in_err-name.ensures.gives w s (c.loop-text.invariant.stands w s a)))) }

pub returns-in_err-push : goal.returns-in_err-push
returns-in_err-push c = record { gives = λ w s a. wanting _ c.from_residual-in_err-push.ensures.1 }

pub loop-text-preserved : goal.loop-text-preserved
loop-text-preserved c =
    let step : take (c.loop-text.text-index + 1) c.args.texts.now ≡ take c.loop-text.text-index c.args.texts.now ++ c.as_slice.result.now ∷ [] =
    take_more c.args.texts.now c.loop-text.text-index c.text-item.result c.loop-text-test.true ∙ ap (λ (f : Bytes). take c.loop-text.text-index c.args.texts.now ++ f ∷ []) (sym (c.as_slice.ensures ∙ c.text-item.is)) in
    listed_turn c.loop-text.invariant (λ w s a. c.in_ok-name.ensures.gives w s a) c.in_ok-push.ensures.items step

pub returns : goal.returns
returns c = record { gives = λ w s a. gave (c.loop-text.invariant.stands w s a) c.loop-text.invariant.later (subst (λ (fs : List Bytes). AreNamed c.loop-text.parser.symbols c.loop-text.names.items fs) (take_all _ _ c.loop-text-test.false) c.loop-text.invariant.named) }
