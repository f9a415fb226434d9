-- The errors of reading, by the reading of the text.
use Rattle.std.specs.Prelude.{◌≡◌}
use Rattle.ruby_lexer.specs.declared.lexing.LexError.{LexError}
use Rattle.ruby_lexer.specs.declared.lexing.LexError.TheVariants as lex_error
use Rattle.ruby_lexer.specs.Bytes.{Bytes}
use Rattle.ruby_reader.specs.declared.reading.ReadError.{ReadError}
use Rattle.ruby_reader.specs.declared.reading.ReadError.TheVariants as error
use Rattle.reference_parser.specs.ReadingOf.{fault, reading_of}

-- A fault stands in the line that the reading has, and memory may always be wanting.
abbrev pub IsFaultOf : Bytes → ReadError → Type 0
IsFaultOf text (error.Syntax e) = reading_of text ≡ fault e.line
IsFaultOf text error.NoMemory = Unit {0}

-- what was no text, or wanted memory
abbrev pub error_of : LexError → ReadError
error_of (lex_error.Fault e) = error.Syntax (record { line = e.line })
error_of lex_error.NoMemory = error.NoMemory
