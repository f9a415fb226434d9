-- The places of names, by an index.
use Rattle.std.specs.Prelude.{ℕ, List, Option, Some, None}
use Rattle.std.specs.Borrow.{Bor}
use Rattle.std.specs.Map.{lookup}
use Rattle.ruby_lexer.specs.Bytes.{Bytes, same}

abbrev pub slot_of : Bytes → List (Bor Bytes × ℕ) → Option ℕ
slot_of name entries = lookup (λ (key : Bor Bytes). same name key.now) entries

-- the first of two places that is there
abbrev pub or_else : Option ℕ → Option ℕ → Option ℕ
or_else None other = other
or_else (Some slot) other = Some slot
