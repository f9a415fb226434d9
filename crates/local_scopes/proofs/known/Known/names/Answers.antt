use Rattle.std.proofs.Common.{subst}
use Rattle.std.specs.List.{IsDistinct}
use Rattle.ruby_lexer.specs.Bytes.{same}
use Rattle.local_scopes.specs.Gathering.{Gathering}
use Rattle.local_scopes.proofs.KnownSteps.{lent-apart, in_all}
use Rattle.local_scopes.proofs.known.Known.names.Goals as goal

pub returns-clause-apart : goal.returns-clause-apart
returns-clause-apart c = subst (λ (g : Gathering). IsDistinct same g.names) c.self.view_is (lent-apart c.self.inside.names.keys c.as_slice.ensures.unique)

pub returns-clause-all : goal.returns-clause-all
returns-clause-all c = in_all c.self.inside.names.keys c.self.inside.marks.entries c.args.self.now c.self.invariant c.self.view_is
