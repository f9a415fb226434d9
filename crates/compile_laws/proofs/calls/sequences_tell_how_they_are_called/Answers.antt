use Rattle.std.proofs.Common.{ap, sym, ◌∙◌}
use Rattle.ruby_meaning.specs.Locals.{params_of, locals_of}
use Rattle.compile_laws.proofs.Headers as head
use Rattle.compile_laws.proofs.calls.sequences_tell_how_they_are_called.Goals as goal

pub returns : goal.returns
returns c = record {
  required = λ l name t. head.required_told (params_of t);
  optional = λ l name t. head.optional_told l (params_of t);
  rest = λ l name t. head.rest_told (params_of t);
  block = λ l name t. head.block_told (params_of t);
  entry = λ l name t k le. head.entry_told l t k le;
  given = head.given_fits;
  locals = λ unit l scopes name code is. ap (λ xs. locals_of xs code.body) (sym is.seen) ∙ sym is.locals;
  first = λ unit l scopes name code is. is.first;
}
