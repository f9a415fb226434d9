-- What a call that reads a part of a text gave, beside what the reader gives.
use Rattle.std.specs.Prelude.{◌≡◌, Option, Some, None, Result, Ok, Err}
use Rattle.ruby_lexer.specs.declared.piece.Piece.{Piece as Cut}
use Rattle.ruby_lexer.specs.declared.piece.Piece.TheVariants.{Blank, Comment, LineEnd, Token}
use Rattle.ruby_lexer.specs.Bytes.{Bytes}
use Rattle.ruby_lexer.specs.Pieces.{Piece, blank, comment, line_end, token, seen_kind}

-- seen through `see`, with r left
abbrev pub Reads : {R A : Type 0} → (R → A) → Option R → Bytes → Option (A × Bytes) → Type 0
Reads see None r o = o ≡ None
Reads see (Some v) r o = o ≡ Some (see v, r)

-- the same, but for want of memory
abbrev pub Gives : {R A E : Type 0} → (R → A) → Result (Option R) E → Bytes → Option (A × Bytes) → Type 0
Gives see (Err e) r o = Unit {0}
Gives see (Ok x) r o = Reads see x r o

abbrev pub seen_piece : Cut → Piece
seen_piece Blank = blank
seen_piece Comment = comment
seen_piece LineEnd = line_end
seen_piece (Token k) = token (seen_kind k)

abbrev pub same_bytes : Bytes → Bytes
same_bytes f = f
