use Rattle.std.proofs.Common.{inl, [], rules}
use Rattle.std.proofs.lemmas.Result.{on_ok_weaker, on_err_weaker}
use Rattle.bs_outside.proofs.Since.{since-then}
use Rattle.bs_outside.proofs.Owing.{on_err}
use Rattle.atomic_files.proofs.Written.{appended, all_written, joins_last, joins_or_not}
use Rattle.atomic_files.proofs.put_whole.Goals as goal

pub returns-in_err-taken-clause-err : goal.returns-in_err-taken-clause-err
returns-in_err-taken-clause-err g c told =
    on_err _ (inl (since-then _ _ _ [] [] [] [] (c.loop-rest.invariant.since told) (c.append.ensures.since told)))

pub loop-rest-preserved : goal.loop-rest-preserved
loop-rest-preserved g c = record {
  since = λ told. since-then _ _ _ [] [] [] [] (c.loop-rest.invariant.since told) (c.append.ensures.since told);
  written = λ told. appended _ _ c.loop-rest.rest.now _ _ c.in_ok-taken.ensures.within (c.in_ok-taken.ensures.added told) (c.loop-rest.invariant.written told);
  mine = search rules;
  begun = search rules;
  later = search rules;
}

pub returns-clause-ok : goal.returns-clause-ok
returns-clause-ok g c told =
    let written = all_written _ _ _ (c.loop-rest.invariant.written told) c.loop-rest-test.ensures in
    on_ok_weaker _ (joins_last _ _ _ _ _ _ (c.loop-rest.invariant.since told) written) (c.rename.ensures.ok told)

pub returns-clause-err : goal.returns-clause-err
returns-clause-err g c told =
    let written = all_written _ _ _ (c.loop-rest.invariant.written told) c.loop-rest-test.ensures in
    on_err_weaker _ (joins_or_not _ _ _ _ _ _ (c.loop-rest.invariant.since told) written) (c.rename.ensures.err told)
