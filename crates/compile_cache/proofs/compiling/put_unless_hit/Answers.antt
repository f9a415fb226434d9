use Rattle.std.proofs.Common.{inl}
use Rattle.bs_outside.proofs.Since.{since-nothing}
use Rattle.compile_cache.proofs.Puts.{none_due}
use Rattle.compile_cache.proofs.compiling.put_unless_hit.Goals as goal

pub returns-in-Hit-clause-ok : goal.returns-in-Hit-clause-ok
returns-in-Hit-clause-ok g c told = none_due _ _ _ _ c.in-Hit.is

pub returns-in-Hit-clause-fits : goal.returns-in-Hit-clause-fits
returns-in-Hit-clause-fits g c told = inl (since-nothing _)
