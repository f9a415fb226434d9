use Rattle.ruby_meaning.proofs.Scopes.{scopes_stay, scopes_open}
use Rattle.ruby_meaning.proofs.laws.scopes_are_kept.Goals as goal

pub returns : goal.returns
returns c = record { stay = scopes_stay; opened = scopes_open }
