use Rattle.yarv_compile.proofs.Alike.{shape_alike, form_alike, entries_alike, all_entries_alike, body_sequence_alike, part_sequence_alike}
use Rattle.yarv_compile.proofs.same_code.code_is_alike.Goals as goal

pub returns : goal.returns
returns c = record {
  shapes = shape_alike;
  forms = form_alike;
  entries = entries_alike;
  all_entries = all_entries_alike;
  bodies = body_sequence_alike;
  parts = part_sequence_alike;
}
