use Rattle.std.proofs.Common.{rules, ◌≡◌, ◌∙◌, ◌∷◌, ◌++◌, [], ℕ, List, Err, sym, ap, length, refl}
use Rattle.std.specs.Char.{encode_utf8}
use Rattle.data_text.specs.Reading.{Anything, Found, Stopped, EscapeAt}
use Rattle.data_text.proofs.Spaces.{no_bytes}
use Rattle.data_text.proofs.Chains.{stopped_result, no_byte}
use Rattle.data_text.proofs.Halves.{code_scalar}
use Rattle.data_text.proofs.Letters.{escape_begins, escape_some, code_escape, code_stops, short_found, short_bad}
use Rattle.data_text.proofs.strings.escape.Goals as goal

pub returns-in_default : goal.returns-in_default
returns-in_default c = no_byte Anything EscapeAt c.args.bytes.now (no_bytes c.args.bytes.now c.in_default.ensures.cases) escape_begins escape_some

pub returns-in_err-code : goal.returns-in_err-code
returns-in_err-code c =
    let e = c.in_err-code.field-0.0 in
    let is : c.from_residual.result ≡ Err e = search rules in
    stopped_result (λ found. (x : List ℕ) × Found EscapeAt x c.args.bytes.now found.1.now × (c.args.text.now.items ≡ c.args.text.now.items ++ x)) (λ e. Stopped EscapeAt c.args.bytes.now e) c.from_residual.result e is
    (code_stops c.args.bytes.now c.in-Some.rest.now e (c.in-Some.ensures.cases.0 ∙ ap (λ b. b ∷ c.in-Some.rest.now) c.if-first-eq117.true) c.in_err-code.ensures)

pub push_code-requires : goal.push_code-requires
push_code-requires c = let f = c.in_ok-code.ensures in code_scalar c.in_ok-code.code (f.front ++ []) [] (f.reads [])

pub returns-then-first-eq117 : goal.returns-then-first-eq117
returns-then-first-eq117 c = (
  encode_utf8 c.in_ok-code.code,
  code_escape c.in_ok-code.code c.args.bytes.now c.in-Some.rest.now c.in_ok-code.rest.now (c.in-Some.ensures.cases.0 ∙ ap (λ b. b ∷ c.in-Some.rest.now) c.if-first-eq117.true) c.in_ok-code.ensures,
  c.in_ok-push_code.ensures,
)

pub returns-in_default-short_escape : goal.returns-in_default-short_escape
returns-in_default-short_escape c =
    short_bad c.in-Some.first.now (length c.args.bytes.now) c.args.bytes.now c.in-Some.rest.now c.in-Some.ensures.cases.0 refl c.if-first-eq117.false (sym c.in_default-short_escape.ensures)

pub returns : goal.returns
returns c = (
  c.in-Some-short_escape.byte ∷ [],
  short_found c.in-Some.first.now c.in-Some-short_escape.byte c.args.bytes.now c.in-Some.rest.now c.in-Some.ensures.cases.0 c.if-first-eq117.false (sym c.in-Some-short_escape.ensures),
  c.in_ok-push.ensures.items,
)
