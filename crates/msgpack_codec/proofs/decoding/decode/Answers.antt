use Rattle.std.proofs.Common.{◌≡◌, ℕ, ◌-◌, true, false, nat_eq, length, Err, Ok, subst, arith}
use Rattle.std.proofs.lemmas.Bool.Decides.{nat_tests}
use Rattle.msgpack_codec.specs.declared.stop.Unread.TheVariants as unread
use Rattle.msgpack_codec.specs.Reading.{Stopped}
use Rattle.msgpack_codec.specs.Values.{ValueAt}
use Rattle.msgpack_codec.proofs.Messages.{whole_message, longer_message, short_message, bad_message, decodes_only, decodes_again}
use Rattle.msgpack_codec.proofs.decoding.decode.Goals as goal

is_none : (n : ℕ) → true ≡ nat_eq n 0 → n ≡ 0
is_none n h = grind (arith, nat_tests)

is_some : (n : ℕ) → false ≡ nat_eq n 0 → n ≡ 0 → ⊥
is_some n h = grind (arith, nat_tests)

pub returns-then-is_empty-clause-answer : goal.returns-then-is_empty-clause-answer
returns-then-is_empty-clause-answer c = whole_message c.in-Ok.value c.args.bytes.now c.in-Ok.rest.now c.in-Ok.ensures (is_none (length c.in-Ok.rest.now) c.if-is_empty.ensures)

pub returns-then-is_empty-clause-only : goal.returns-then-is_empty-clause-only
returns-then-is_empty-clause-only c =
    decodes_only c.args.bytes.now (Ok c.in-Ok.value) (whole_message c.in-Ok.value c.args.bytes.now c.in-Ok.rest.now c.in-Ok.ensures (is_none (length c.in-Ok.rest.now) c.if-is_empty.ensures))

pub returns-else-is_empty-clause-answer : goal.returns-else-is_empty-clause-answer
returns-else-is_empty-clause-answer c = longer_message c.in-Ok.value c.args.bytes.now c.in-Ok.rest.now c.in-Ok.ensures (is_some (length c.in-Ok.rest.now) c.if-is_empty.ensures)

pub returns-else-is_empty-clause-only : goal.returns-else-is_empty-clause-only
returns-else-is_empty-clause-only c =
    decodes_only c.args.bytes.now (Err (unread.Malformed (length c.args.bytes.now - length c.in-Ok.rest.now)))
    (longer_message c.in-Ok.value c.args.bytes.now c.in-Ok.rest.now c.in-Ok.ensures (is_some (length c.in-Ok.rest.now) c.if-is_empty.ensures))

pub returns-in-Err-Short-clause-answer : goal.returns-in-Err-Short-clause-answer
returns-in-Err-Short-clause-answer c =
    short_message c.args.bytes.now (subst (λ e. Stopped (ValueAt 100) c.args.bytes.now e) c.in-Err-Short.field-0-is c.in-Err-Short.ensures)

pub returns-in-Err-Short-clause-only : goal.returns-in-Err-Short-clause-only
returns-in-Err-Short-clause-only c =
    decodes_only c.args.bytes.now (Err unread.Short)
    (short_message c.args.bytes.now (subst (λ e. Stopped (ValueAt 100) c.args.bytes.now e) c.in-Err-Short.field-0-is c.in-Err-Short.ensures))

pub returns-in-Err-Bad-clause-answer : goal.returns-in-Err-Bad-clause-answer
returns-in-Err-Bad-clause-answer c =
    bad_message c.args.bytes.now c.in-Err-Bad.left (subst (λ e. Stopped (ValueAt 100) c.args.bytes.now e) c.in-Err-Bad.field-0-is c.in-Err-Bad.ensures)

pub returns-in-Err-Bad-clause-only : goal.returns-in-Err-Bad-clause-only
returns-in-Err-Bad-clause-only c =
    decodes_only c.args.bytes.now (Err (unread.Malformed (length c.args.bytes.now - c.in-Err-Bad.left)))
    (bad_message c.args.bytes.now c.in-Err-Bad.left (subst (λ e. Stopped (ValueAt 100) c.args.bytes.now e) c.in-Err-Bad.field-0-is c.in-Err-Bad.ensures))

pub returns-then-is_empty-clause-again : goal.returns-then-is_empty-clause-again
returns-then-is_empty-clause-again c =
    decodes_again c.args.bytes.now (Ok c.in-Ok.value) (whole_message c.in-Ok.value c.args.bytes.now c.in-Ok.rest.now c.in-Ok.ensures (is_none (length c.in-Ok.rest.now) c.if-is_empty.ensures))
