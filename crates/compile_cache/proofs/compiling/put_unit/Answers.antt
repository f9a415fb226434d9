use Rattle.std.proofs.Common.{inl}
use Rattle.bs_outside.proofs.Since.{since-nothing}
use Rattle.bs_outside.proofs.Owing.{on_err}
use Rattle.compile_cache.proofs.Puts.{put_none, no_payload, none_compiled}
use Rattle.compile_cache.proofs.compiling.put_unit.Goals as goal

pub returns-in_err-entry-in-Whole-clause-err : goal.returns-in_err-entry-in-Whole-clause-err
returns-in_err-entry-in-Whole-clause-err g c told = on_err _ (put_none _ _)

pub returns-in_err-entry-in-Whole-clause-fits : goal.returns-in_err-entry-in-Whole-clause-fits
returns-in_err-entry-in-Whole-clause-fits g c told = inl (since-nothing _)

pub returns-in-Fault-clause-ok : goal.returns-in-Fault-clause-ok
returns-in-Fault-clause-ok g c told = none_compiled _ _ c.args.name.now c.args.stat.now c.args.contents.now _ (no_payload _ c.in-Fault.is)

pub returns-in-Fault-clause-fits : goal.returns-in-Fault-clause-fits
returns-in-Fault-clause-fits g c told = inl (since-nothing _)

pub returns-in-Fault-2-clause-ok : goal.returns-in-Fault-2-clause-ok
returns-in-Fault-2-clause-ok g c told = none_compiled _ _ c.args.name.now c.args.stat.now c.args.contents.now _ (no_payload _ c.in-Fault.is)

pub returns-in-Fault-2-clause-fits : goal.returns-in-Fault-2-clause-fits
returns-in-Fault-2-clause-fits g c told = inl (since-nothing _)

pub returns-in-Fault-3-clause-ok : goal.returns-in-Fault-3-clause-ok
returns-in-Fault-3-clause-ok g c told = none_compiled _ _ c.args.name.now c.args.stat.now c.args.contents.now _ (no_payload _ c.in-Fault.is)

pub returns-in-Fault-3-clause-fits : goal.returns-in-Fault-3-clause-fits
returns-in-Fault-3-clause-fits g c told = inl (since-nothing _)
