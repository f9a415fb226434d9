-- A body that was put field by field.
use Rattle.std.proofs.Common.{◌≡◌, ℕ, List, [], ◌∷◌, ◌++◌, append_assoc}
use Rattle.iseq_types.specs.declared.sequences.Sequence.{Sequence}
use Rattle.iseq_dump.specs.Dump.{Puts, IsNumber, IsText, IsList, IsRow, IsLine, IsBody, number_bytes, text_bytes, list_bytes, row_bytes, line_bytes, flag_byte, body_bytes}

pub body_put : (b : Sequence) (o0 o1 o2 o3 o4 o5 o6 o7 o8 : List ℕ) → IsNumber b.first_line → IsNumber b.required → Puts IsText text_bytes b.name o0 o1 → o2 ≡ o1 ++ number_bytes b.first_line
    → Puts (IsList IsText) (list_bytes text_bytes) b.locals o2 o3 → o4 ≡ o3 ++ number_bytes b.required → Puts (IsList IsNumber) (list_bytes number_bytes) b.entries o4 o5 → o6 ≡ o5 ++ flag_byte b.rest b.block ∷ []
    → Puts (IsList IsRow) (list_bytes row_bytes) b.rows o6 o7 → Puts (IsList IsLine) (list_bytes line_bytes) b.code o7 o8 → Puts IsBody body_bytes b o0 o8
body_put b o0 o1 o2 o3 o4 o5 o6 o7 o8 first_line required name e2 locals e4 entries e6 rows code = record {
  fits = record { name = name.fits; first_line = first_line; locals = locals.fits; required = required; entries = entries.fits; rows = rows.fits; code = code.fits };
  spelled = rw (code.spelled, rows.spelled, e6, entries.spelled, e4, locals.spelled, e2, name.spelled) (simp append_assoc);
}
