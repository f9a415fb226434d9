use Rattle.std.proofs.Common.{rules, ◌≡◌, ◌∙◌, ◌∷◌, ◌++◌, [], ℕ, List, Err, sym, ap, length, refl, append-nil}
use Rattle.data_text.specs.Json.{CharAt}
use Rattle.data_text.specs.Reading.{Anything, Found, Stopped, Marked}
use Rattle.data_text.proofs.Spaces.{no_bytes}
use Rattle.data_text.proofs.Chains.{stopped_result, no_byte}
use Rattle.data_text.proofs.Letters.{char_begins, char_some, quote_found, plain_found, control_bad, escape_found, escape_stops}
use Rattle.data_text.proofs.strings.character.Goals as goal

pub returns-in_default : goal.returns-in_default
returns-in_default c = no_byte Anything (Marked CharAt) c.args.bytes.now (no_bytes c.args.bytes.now c.in_default.ensures.cases) char_begins char_some

pub returns-then-first-eq34 : goal.returns-then-first-eq34
returns-then-first-eq34 c =
    ([], quote_found c.args.bytes.now c.in-Some.rest.now (c.in-Some.ensures.cases.0 ∙ ap (λ b. b ∷ c.in-Some.rest.now) c.if-first-eq34.true), sym (append-nil c.args.text.now.items))

pub returns-in_err-rest : goal.returns-in_err-rest
returns-in_err-rest c =
    let e = c.in_err-rest.field-0.0 in
    let is : c.from_residual.result ≡ Err e = search rules in
    stopped_result (λ found. (x : List ℕ) × Found (Marked CharAt) (x, found.0) c.args.bytes.now found.1.now × (c.escape.new.text.items ≡ c.args.text.now.items ++ x)) (λ e. Stopped (Marked CharAt) c.args.bytes.now e) c.from_residual.result e is
    (escape_stops c.args.bytes.now c.in-Some.rest.now e (c.in-Some.ensures.cases.0 ∙ ap (λ b. b ∷ c.in-Some.rest.now) c.if-first-eq92.true) c.in_err-rest.ensures)

pub returns-then-first-eq92 : goal.returns-then-first-eq92
returns-then-first-eq92 c =
    let (piece, found, is) = c.in_ok-rest.ensures in
    (piece, escape_found piece c.args.bytes.now c.in-Some.rest.now c.in_ok-rest.rest.now (c.in-Some.ensures.cases.0 ∙ ap (λ b. b ∷ c.in-Some.rest.now) c.if-first-eq92.true) found, is)

pub returns-then-first-lt32 : goal.returns-then-first-lt32
returns-then-first-lt32 c = control_bad c.in-Some.first.now (length c.args.bytes.now) c.args.bytes.now c.in-Some.rest.now c.in-Some.ensures.cases.0 refl c.if-first-lt32.true

pub returns : goal.returns
returns c =
    (c.in-Some.first.now ∷ [], plain_found c.in-Some.first.now c.args.bytes.now c.in-Some.rest.now c.in-Some.ensures.cases.0 c.if-first-lt32.false c.if-first-eq34.false c.if-first-eq92.false, c.in_ok-push.ensures.items)
