-- The tokens of a text, as a function of it.
use Rattle.std.specs.Prelude.{ℕ, suc, [], ◌∷◌, length, take, nat_le, if◌then◌else◌, Option, Some, None}
use Rattle.std.specs.Str.{is_utf8}
use Rattle.std.specs.Str.Lossy.{utf8_valid_len}
use Rattle.ruby_lexer.specs.Bytes.{Bytes}
use Rattle.ruby_lexer.specs.Pieces.{Toks}
use Rattle.ruby_lexer.specs.Forms.{newlines, line_of}
use Rattle.ruby_lexer.specs.Cut.{at_start}
use Rattle.ruby_lexer.specs.Scan.{coder, scan_all}
use Rattle.ruby_lexer.specs.Tokens.{before_end}

-- The tokens up to the end of the text, or up to the first place where none begins, with the line of that place. Or the bytes are no text,
-- with the line of their fault.
pub data Scanned : Type 0 where
  front : Toks → Option ℕ → Scanned
  no_text : ℕ → Scanned

-- the line of the place where a text is left, if that is not its end
abbrev pub stop_at : Bytes → Bytes → Option ℕ
stop_at text [] = None
stop_at text (b ∷ r) = Some (line_of text (b ∷ r))

abbrev pub front_with : Bytes → Toks × Bytes → Scanned
front_with text p = front p.0 (stop_at text p.1)

-- what the bytes up to a line `__END__` are cut into
unfoldable pub front_of_text : Bytes → Scanned
front_of_text text = front_with text (scan_all text (coder text 200) (suc (length text)) at_start text)

-- A text is UTF-8 of at most 4,194,304 bytes. More bytes have their fault in line 1, and others in the line of the first one that belongs to no
-- character.
unfoldable pub scanned_of : Bytes → Scanned
scanned_of bytes =
    if nat_le (length bytes) 4194304 then
    (if is_utf8 bytes then front_of_text (before_end bytes) else no_text (suc (newlines (take (utf8_valid_len bytes) bytes))))
    else no_text 1
