use Rattle.std.proofs.Common.{sym, ◌∙◌, ap, List}
use Rattle.ruby_tree.specs.Rules.{front, is_kind_newline}
use Rattle.ruby_lexer.specs.Pieces.{Toks, seen_all}
use Rattle.ruby_lexer.specs.declared.token.Token.{Token}
use Rattle.parse_state.proofs.Steps.{met_by, unmet_by}
use Rattle.parse_state.proofs.standing.Parser.expect_newline.Goals as goal

pub returns-then-is_newline : goal.returns-then-is_newline
returns-then-is_newline c = record { expects = λ w s a. met_by (sym (c.is_newline.ensures ∙ ap (λ (v : Toks). is_kind_newline (front v)) (ap (λ (l : List Token). seen_all l) c.lookahead.ensures.rest ∙ a.tokens)) ∙ c.if-is_newline.true) (c.bump.ensures.at w s a) c.bump.ensures.later }

pub returns : goal.returns
returns c = record { expects = λ w s a. unmet_by (sym (c.is_newline.ensures ∙ ap (λ (v : Toks). is_kind_newline (front v)) (ap (λ (l : List Token). seen_all l) c.lookahead.ensures.rest ∙ a.tokens)) ∙ c.if-is_newline.false) }
