use Rattle.iseq_types.proofs.Taking.{row_spared, row_behind, row_cont_way, row_from_way, row_rescue, row_ensure}
use Rattle.iseq_types.proofs.laws.sound_rows_catch.Goals as goal

pub returns : goal.returns
returns c = record {
  spared = λ seq rows id place depth row line sound has holds way at. row_spared seq rows id sound place depth row line has holds way at;
  behind = λ seq rows id place row sound has holds. row_behind seq rows id sound place row has holds;
  cont = λ seq rows id row sound has. row_cont_way seq rows id sound row has;
  from = λ seq rows id row sound has is. row_from_way seq rows id sound row has is;
  rescue = λ seq rows id row sound has is. row_rescue seq rows id sound row has is;
  ensured = λ seq rows id row sound has is. row_ensure seq rows id sound row has is;
}
