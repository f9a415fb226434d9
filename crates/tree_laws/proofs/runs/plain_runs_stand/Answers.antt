use Rattle.tree_laws.proofs.PlainRuns.{files_housed, prelude_housed, plain_step, plain_stays, plain_housed, prelude_begins, file_begins}
use Rattle.tree_laws.proofs.runs.plain_runs_stand.Goals as goal

pub returns : goal.returns
returns c = record {
  read = files_housed;
  prelude = prelude_housed;
  step = plain_step;
  stays = plain_stays;
  prelude_begins = prelude_begins;
  file_begins = file_begins;
  plain = plain_housed;
}
