-- The pieces of a text, and the tokens among them.
use Rattle.std.specs.Prelude.{ℕ, ℤ, List, [], ◌∷◌, Bool, map}
use Rattle.ruby_lexer.specs.declared.token.Token.{Token, fold-Token}
use Rattle.ruby_lexer.specs.declared.token.TokenKind.{TokenKind, fold-TokenKind}
use Rattle.ruby_lexer.specs.declared.token.Part.{Part, fold-Part}
use Rattle.ruby_lexer.specs.declared.token.Part.TheOpen.{TokenKind-F, Part-F, Token-F}
use Rattle.ruby_lexer.specs.Bytes.{Bytes}

mutual
  -- what a token is
  pub data Kind : Type 0 where
    integer : ℤ → Kind
    name : Kind
    constant : Kind
    variable : Kind
    global : Kind
    keyword : Kind
    mark : Kind
    newline : Kind
    label : Parts → Kind
    literal : Parts → Kind
    symbol : Bytes → Kind
    words : List Bytes → Kind
    symbols : List Bytes → Kind

  -- the parts of a literal, none of them an empty plain one
  pub data Parts : Type 0 where
    ends : Parts
    plain : Bytes → Parts → Parts
    code : Toks → Parts → Parts

  -- a token with its places, its line and whether a blank stands before it
  pub data Tok : Type 0 where
    tok : Kind → ℕ → ℕ → ℕ → Bool → Tok

  pub data Toks : Type 0 where
    none : Toks
    more : Tok → Toks → Toks

-- a piece of a text
pub data Piece : Type 0 where
  blank : Piece
  comment : Piece
  -- the end of a line, which may be a token
  line_end : Piece
  token : Kind → Piece

abbrev pub toks_of : List Tok → Toks
toks_of [] = none
toks_of (t ∷ ts) = more t (toks_of ts)

abbrev pub parts_of : List (Parts → Parts) → Parts
parts_of [] = ends
parts_of (p ∷ ps) = p (parts_of ps)

-- One level of what contracts see: a part waits for the parts after it.
abbrev pub kind_step : TokenKind-F (Parts → Parts) Kind Tok → Kind
kind_step (TokenKind-F.Integer z) = integer z
kind_step TokenKind-F.Name = name
kind_step TokenKind-F.Constant = constant
kind_step TokenKind-F.Variable = variable
kind_step TokenKind-F.Global = global
kind_step TokenKind-F.Keyword = keyword
kind_step TokenKind-F.Mark = mark
kind_step TokenKind-F.Newline = newline
kind_step (TokenKind-F.Label ps) = label (parts_of ps)
kind_step (TokenKind-F.Literal ps) = literal (parts_of ps)
kind_step (TokenKind-F.Symbol b) = symbol b
kind_step (TokenKind-F.Words ws) = words ws
kind_step (TokenKind-F.Symbols ws) = symbols ws

abbrev pub part_step : Part-F (Parts → Parts) Kind Tok → Parts → Parts
part_step (Part-F.Plain b) = plain b
part_step (Part-F.Code ts) = code (toks_of ts)

abbrev pub token_step : Token-F (Parts → Parts) Kind Tok → Tok
token_step t = tok t.kind t.from t.to t.line t.blank

-- a token, a kind and parts as contracts see them
abbrev pub seen : Token → Tok
seen = fold-Token (Parts → Parts) Kind Tok part_step kind_step token_step

abbrev pub seen_kind : TokenKind → Kind
seen_kind = fold-TokenKind (Parts → Parts) Kind Tok part_step kind_step token_step

abbrev pub seen_part : Part → Parts → Parts
seen_part = fold-Part (Parts → Parts) Kind Tok part_step kind_step token_step

abbrev pub seen_all : List Token → Toks
seen_all ts = toks_of (map seen ts)

abbrev pub seen_parts : List Part → Parts
seen_parts ps = parts_of (map seen_part ps)
