-- How a parser goes on over newlines.
use Rattle.std.proofs.Common.{◌≡◌, refl, sym, ap, ◌∙◌, ◌<◌, ◌-◌, Bool, true, false, List, [], ◌∷◌, length, if◌then◌else◌, arith}
use Rattle.ruby_lexer.specs.declared.token.Token.{Token}
use Rattle.ruby_lexer.specs.Bytes.{Bytes}
use Rattle.ruby_lexer.specs.Pieces.{Toks, none, more, seen_all}
use Rattle.ruby_tree.specs.Rules.{Scope, next}
use Rattle.reference_parser.specs.Fronts.{is_newline, skip_newlines}
use Rattle.parse_state.specs.declared.standing.Parser.{Parser}
use Rattle.parse_state.specs.Standing.{At, Later, toks_of, scope_of}
use Rattle.parse_state.proofs.Steps.{later_same, later_then}

module _ (source : Bytes) where
  pub skip_one : (w : Toks) → is_newline w ≡ true → skip_newlines source w ≡ skip_newlines source (next w)
  unfolding skip_newlines
  skip_one none is = refl
  skip_one (more t ts) is = ap (λ (b : Bool). if b then skip_newlines source ts else more t ts) is

  pub skip_none : (w : Toks) → is_newline w ≡ false → skip_newlines source w ≡ w
  unfolding skip_newlines
  skip_none none is = refl
  skip_none (more t ts) is = ap (λ (b : Bool). if b then skip_newlines source ts else more t ts) is

  -- q has gone on from p, over newlines alone
  pub record Skips (p q : Parser) : Type 0 where
    pub tokens : skip_newlines source (toks_of p) ≡ skip_newlines source (toks_of q)
    pub locals : q.locals ≡ p.locals
    pub clause : q.in_clause ≡ p.in_clause
    pub later : Later p q

  pub skips_same : (p : Parser) → Skips p p
  skips_same p = record { tokens = refl; locals = refl; clause = refl; later = later_same p }

  pub skips_more : {p q v : Parser} → Skips p q → is_newline (toks_of q) ≡ true → At v (next (toks_of q)) (scope_of q) → Later q v → Skips p v
  skips_more {p} {q} {v} h is a l = record { tokens = h.tokens ∙ skip_one (toks_of q) is ∙ ap (skip_newlines source) (sym a.tokens); locals = a.locals ∙ h.locals; clause = a.clause ∙ h.clause; later = later_then h.later l }

  pub skips_all : {p q : Parser} {w : Toks} {s : Scope} → At p w s → Skips p q → is_newline (toks_of q) ≡ false → At q (skip_newlines source w) s
  skips_all {p} {q} a h is = record { tokens = sym (skip_none (toks_of q) is) ∙ sym h.tokens ∙ ap (skip_newlines source) a.tokens; locals = h.locals ∙ a.locals; clause = h.clause ∙ a.clause }

-- a newline is one token less
pub newline_less : (ts : List Token) → is_newline (seen_all ts) ≡ true → length ts - 1 < length ts
newline_less [] is = absurd cc
newline_less (t ∷ ts) is = omega arith
