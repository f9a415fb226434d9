use Rattle.std.proofs.Common.{Err, ◌∙◌, ap}
use Rattle.cache_meaning.proofs.LeftOut.{put_done, put_failed, put_part}
use Rattle.compile_cache.proofs.shelf.put.Goals as goal

pub returns-in-Ok-clause-ok : goal.returns-in-Ok-clause-ok
returns-in-Ok-clause-ok g c told = put_done _ _ _ _ _ c.publish.ensures.cause.later (c.in-Ok.ensures.ok told).0

pub returns-in-Err-Failed-clause-ok : goal.returns-in-Err-Failed-clause-ok
returns-in-Err-Failed-clause-ok g c told =
    put_failed _ _ _ _ _ c.publish.ensures.cause.later (c.publish.ensures.cause.failed (c.in-Err-Failed.is ∙ ap Err c.in-Err-Failed.field-0-is)) (c.in-Err-Failed.ensures.err told)

pub returns-in-Err-NoMemory-clause-err : goal.returns-in-Err-NoMemory-clause-err
returns-in-Err-NoMemory-clause-err g c told = put_part _ _ _ (c.in-Err-NoMemory.ensures.err told)
