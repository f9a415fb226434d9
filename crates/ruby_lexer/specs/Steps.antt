-- What one step of the reader gave.
use Rattle.std.specs.Prelude.{◌≡◌, List, drop, Bool, true, false, Option, Some, None}
use Rattle.ruby_lexer.specs.declared.gather.PendingToken.{PendingToken}
use Rattle.ruby_lexer.specs.declared.token.Part.{Part}
use Rattle.ruby_lexer.specs.declared.state.State.{State}
use Rattle.ruby_lexer.specs.Bytes.{Bytes, taken}
use Rattle.ruby_lexer.specs.Pieces.{Parts, code, Toks, Piece}
use Rattle.ruby_lexer.specs.Texts.{plain_parts}
use Rattle.ruby_lexer.specs.Cut.{after, put}
use Rattle.ruby_lexer.specs.Scan.{Coder, scan_piece}
use Rattle.ruby_lexer.specs.Settle.{settle, parts_then}

pub record Stepped (text : Bytes) (Q : Coder) (s : State) (w : Bytes) (raws : List PendingToken) (z : State) (new : List PendingToken) (r : Bytes) : Type 0 where
  pub piece : Piece
  pub is : scan_piece text Q s w ≡ Some (piece, r)
  pub next : z ≡ after s piece (taken w r)
  pub raws_are : (ts : Toks) → settle text new ts ≡ settle text raws (put text s piece w r ts)

-- a piece from w to r was added, and z counts behind it; or none begins at w, and nothing was added
abbrev pub Steps : Bytes → Coder → State → Bytes → List PendingToken → Option State → List PendingToken → Bytes → Type 0
Steps text Q s w raws None new r = (scan_piece text Q s w ≡ None) × (new ≡ raws)
Steps text Q s w raws (Some z) new r = Stepped text Q s w raws z new r

pub record Coded (Q : Coder) (w : Bytes) (ps : List Part) (f : Bytes) (new : List Part) (r : Bytes) : Type 0 where
  pub tokens : Toks
  pub rest : Bytes
  pub is : Q w ≡ Some (tokens, rest)
  pub left : r ≡ drop 1 rest
  pub parts_are : (qs : Parts) → parts_then new qs ≡ parts_then ps (plain_parts f (code tokens qs))

-- the code at w was added behind the bytes f; or there is none
abbrev pub AddsCode : Coder → Bytes → List Part → Bytes → Bool → List Part → Bytes → Type 0
AddsCode Q w ps f false new r = Q w ≡ None
AddsCode Q w ps f true new r = Coded Q w ps f new r
