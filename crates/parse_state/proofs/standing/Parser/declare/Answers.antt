use Rattle.std.proofs.Common.{ap, ap₂, ◌∙◌, [], ◌∷◌, List, ℕ, rules}
use Rattle.ruby_tree.specs.Rules.{word}
use Rattle.ruby_lexer.specs.Pieces.{Toks, seen_all}
use Rattle.ruby_lexer.specs.declared.token.Token.{Token}
use Rattle.parse_state.specs.Gives.{gave}
use Rattle.parse_state.proofs.Steps.{wanting}
use Rattle.parse_state.proofs.standing.Parser.declare.Goals as goal

pub returns-in_err-declare : goal.returns-in_err-declare
returns-in_err-declare c = record { gives = λ w s a. wanting _ c.from_residual.ensures.1 }

pub returns : goal.returns
returns c = record {
  gives = λ w s a. gave
      (record { tokens = a.tokens; locals = c.in_ok-declare.ensures.ok ∙ ap (λ (f : List ℕ). f ∷ c.args.self.now.locals) (c.word-text.ensures ∙ ap₂ (λ (x : List ℕ) (v : Toks). word x v) c.lookahead.ensures.source (ap (λ (l : List Token). seen_all l) c.lookahead.ensures.rest ∙ a.tokens)) ∙ ap (λ (l : List (List ℕ)). word c.args.context.source.now w ∷ l) a.locals; clause = a.clause })
      (record { names = λ n f is. is; locals = record { newer = c.word-text.result.now ∷ []; is = c.in_ok-declare.ensures.ok }; rest = search rules })
      tt;
}
