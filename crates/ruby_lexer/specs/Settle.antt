-- Tokens before it is known which newlines among them are none.
use Rattle.std.specs.Prelude.{List, [], ◌∷◌, Bool, true, false, ◌&&◌, ◌||◌, Option, Some, None}
use Rattle.ruby_lexer.specs.declared.token.Token.{Token}
use Rattle.ruby_lexer.specs.declared.gather.PendingToken.{PendingToken}
use Rattle.ruby_lexer.specs.declared.token.Part.{Part}
use Rattle.ruby_lexer.specs.Bytes.{Bytes}
use Rattle.ruby_lexer.specs.Pieces.{Kind, symbol, Tok, tok, Toks, more, seen, Parts, seen_part}
use Rattle.ruby_lexer.specs.Forms.{text_of}
use Rattle.ruby_lexer.specs.Cut.{put_line, is_closer, is_point, is_name}

abbrev pub put_raw : Bytes → Bool → Tok → Toks → Toks
put_raw text true t ts = put_line text t ts
put_raw text false t ts = more t ts

-- the tokens before those that follow them
abbrev pub settle : Bytes → List PendingToken → Toks → Toks
settle text [] ts = ts
settle text (x ∷ xs) ts = put_raw text x.is_line (seen x.token) (settle text xs ts)

-- the tokens of a list whose last one comes first, before the tokens that follow them
abbrev pub onto : List Token → Toks → Toks
onto [] ts = ts
onto (x ∷ xs) ts = onto xs (more (seen x) ts)

abbrev pub tok_with_blank : Bool → Tok → Tok
tok_with_blank b (tok k from to line c) = tok k from to line (b || c)

abbrev pub tok_name : Tok → Bool
tok_name (tok k from to line b) = is_name k

abbrev pub closes_before : Bytes → Tok → Bool → Bool
closes_before text t named = is_closer text t || (is_point text t && named)

-- parts before the parts that follow them
abbrev pub parts_then : List Part → Parts → Parts
parts_then [] qs = qs
parts_then (p ∷ ps) qs = seen_part p (parts_then ps qs)

abbrev pub symbol_with : Option Bytes → Option Kind
symbol_with None = None
symbol_with (Some f) = Some (symbol f)

-- the symbol of parts without code
abbrev pub symbol_of : Option Parts → Option Kind
symbol_of None = None
symbol_of (Some ps) = symbol_with (text_of ps)
