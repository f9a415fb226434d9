use Rattle.std.proofs.Common.{◌≡◌, ◌∙◌, sym, ap, ◌-◌, length, drop, get_or, nat_eq, true, false, Some, None, Ok, arith, rules, length-drop}
use Rattle.std.proofs.lemmas.Bool.{eq-eqb, ne_eqb}
use Rattle.ruby_lexer.specs.Pieces.{code, label, literal, seen_all, seen_parts, seen_kind}
use Rattle.ruby_lexer.specs.Bytes.{taken, begins_with}
use Rattle.ruby_lexer.specs.Classes.{class_of}
use Rattle.ruby_lexer.specs.Forms.{opens_code}
use Rattle.ruby_lexer.specs.Scan.{coder, ends_code, scan_symbol, first_of}
use Rattle.ruby_lexer.proofs.Lists.{begins_some}
use Rattle.ruby_lexer.proofs.Places.{all_left}
use Rattle.ruby_lexer.proofs.Whole.{escape_short}
use Rattle.ruby_lexer.proofs.Turns.{at_no_coder, at_coder, code_fails, code_turn, code_done, piece_left, braces_le, coder_left, turn_empty, turn_ends, turn_stuck, turn_escaped, turn_uncoded, turn_coded, turn_byte}
use Rattle.std.specs.Prelude.{is_some}
use Rattle.ruby_lexer.specs.declared.class.Class.TheVariants.{DoubleQuote, Colon}
use Rattle.ruby_lexer.specs.declared.token.TokenKind.{Label, Literal, the_lemmas}
use Rattle.ruby_lexer.specs.Words.{one_colon}
use Rattle.ruby_lexer.specs.Views.{seen_piece}
use Rattle.ruby_lexer.proofs.Heads.{not_some, else_some, symbol_is, piece_empty, piece_quoted, piece_colon, piece_plain, quoted_found, quoted_none, symbol_no}
use Rattle.ruby_lexer.proofs.cursor.Cursor.+reader.Goals as goal
use Rattle.ruby_lexer.proofs.cursor.Cursor.+reader.Goals.{quoted_symbol-then-begins_with+in_ok-inside+in_ok-symbol+in_default, quoted_symbol-else-begins_with}

pub code-returns-then-depth-eq0-clause-value : goal.code-returns-then-depth-eq0-clause-value
code-returns-then-depth-eq0-clause-value t c = at_no_coder c.args.self.now.text.now c.args.self.now.rest.now c.args.depth c.if-depth-eq0.true

pub code-returns-in_default-clause-value : goal.code-returns-in_default-clause-value
code-returns-in_default-clause-value t c =
    let text = c.args.self.now.text.now in
    let s = c.loop-state.state in
    let w = c.loop-state.self.rest.now in
    let e : ends_code s w ≡ false = cc in
    let p0 = rw c.in_default.is at c.in_ok-next.ensures.value in
    let p = rw c.loop-state.invariant.same at p0.0 in
    at_coder text c.args.depth c.args.self.now.rest.now c.loop-state.invariant.deep ∙ code_fails text (coder text (c.args.depth - 1)) c.args.self.now.rest.now w c.loop-state.raws.items s c.loop-state.invariant.turn e p

pub code-loop-state-smaller : goal.code-loop-state-smaller
code-loop-state-smaller t c =
    let sp = rw c.in-Some.is at c.in_ok-next.ensures.value in
    piece_left c.loop-state.self.text.now (c.args.depth - 1) c.loop-state.state c.loop-state.self.rest.now sp.piece c.step.new.self.rest.now sp.is

pub code-loop-state-preserved : goal.code-loop-state-preserved
code-loop-state-preserved t c =
    let text = c.args.self.now.text.now in
    let s = c.loop-state.state in
    let w = c.loop-state.self.rest.now in
    let q = c.step.new.self.rest.now in
    let e : ends_code s w ≡ false = cc in
    let sp0 = rw c.in-Some.is at c.in_ok-next.ensures.value in
    let sp = rw c.loop-state.invariant.same at sp0 in
    let less = piece_left text (c.args.depth - 1) s w sp.piece q sp.is in
    record {
      turn = rw sp.next (code_turn text (coder text (c.args.depth - 1)) c.args.self.now.rest.now w c.loop-state.raws.items c.step.new.raws.items s sp.piece q c.loop-state.invariant.turn e sp.is less sp.raws_are);
      same = c.in_ok-next.ensures.text ∙ c.loop-state.invariant.same;
      few = rw sp.next (omega (arith, braces_le s sp.piece (taken w q), less, c.loop-state.invariant.few));
      deep = c.loop-state.invariant.deep;
    }

pub code-returns-clause-value : goal.code-returns-clause-value
code-returns-clause-value t c =
    let text = c.args.self.now.text.now in
    let s = c.loop-state.state in
    let w = c.loop-state.self.rest.now in
    let e : ends_code s w ≡ true = cc in
    rw (c.in_ok-tokens.ensures, c.loop-state.invariant.same) (at_coder text c.args.depth c.args.self.now.rest.now c.loop-state.invariant.deep ∙ code_done text (coder text (c.args.depth - 1)) c.args.self.now.rest.now w c.loop-state.raws.items s c.loop-state.invariant.turn e)

pub code_part-bump-requires-2 : goal.code_part-bump-requires-2
code_part-bump-requires-2 t c =
    let e = rw c.in-Some.is at c.in_ok-tokens.ensures.value in
    begins_some (λ b. nat_eq b 125) c.code.new.self.rest.now (coder_left c.bump.new.self.text.now c.args.depth c.bump.new.self.rest.now (seen_all c.in-Some.tokens) c.code.new.self.rest.now e).1

pub code_part-returns-clause-value : goal.code_part-returns-clause-value
code_part-returns-clause-value t c =
    let e = rw c.in-Some.is at c.in_ok-tokens.ensures.value in
    record {
      tokens = seen_all c.in-Some.tokens;
      rest = c.code.new.self.rest.now;
      is = rw (c.bump.ensures.text, c.bump.ensures.rest) at e;
      left = c.bump-2.ensures.rest;
      parts_are = λ qs. c.in_ok-add_code.ensures qs ∙ c.in_ok-add_plain.ensures (code (seen_all c.in-Some.tokens) qs);
    }

pub inside-returns-in_default-clause-value : goal.inside-returns-in_default-clause-value
inside-returns-in_default-clause-value t c =
    turn_empty (coder c.args.self.now.text.now c.args.depth) c.args.self.now.rest.now c.loop-self.self.rest.now c.loop-self.parts.items c.loop-self.bytes.items c.loop-self.invariant.turn (omega (arith, c.in_default.len_below))

pub inside-returns-then-byte-eq34-clause-value : goal.inside-returns-then-byte-eq34-clause-value
inside-returns-then-byte-eq34-clause-value t c =
    let w = c.loop-self.self.rest.now in
    rw (c.from_vec.ensures, c.bump.ensures.rest) (turn_ends (coder c.args.self.now.text.now c.args.depth) c.args.self.now.rest.now w c.loop-self.parts.items c.loop-self.bytes.items _ c.loop-self.invariant.turn c.in-len1-up.len_at_least (eq-eqb (get_or w 0 0) 34 c.if-byte-eq34.true) c.in_ok-add_plain.ensures)

pub inside-returns-in_default-2-clause-value : goal.inside-returns-in_default-2-clause-value
inside-returns-in_default-2-clause-value t c =
    let w = c.loop-self.self.rest.now in
    let e0 = rw c.in_default-2.is at c.in_ok-given.ensures.value in
    let e = rw c.bump-then-byte-eq92.ensures.rest at e0 in
    turn_stuck (coder c.args.self.now.text.now c.args.depth) c.args.self.now.rest.now w c.loop-self.parts.items c.loop-self.bytes.items c.loop-self.invariant.turn c.in-len1-up.len_at_least (ne_eqb (get_or w 0 0) 34 c.if-byte-eq34.false) (eq-eqb (get_or w 0 0) 92 c.if-byte-eq92.true) e

pub inside-loop-self-smaller-then-byte-eq92 : goal.inside-loop-self-smaller-then-byte-eq92
inside-loop-self-smaller-then-byte-eq92 t c =
    let w = c.loop-self.self.rest.now in
    let e0 = rw c.in-Some.is at c.in_ok-given.ensures.value in
    let e = rw c.bump-then-byte-eq92.ensures.rest at e0 in
    omega (arith, escape_short (drop 1 w) c.in-Some.given c.escape.new.self.rest.now e, length-drop 1 w, c.in-len1-up.len_at_least)

pub inside-loop-self-preserved-then-byte-eq92 : goal.inside-loop-self-preserved-then-byte-eq92
inside-loop-self-preserved-then-byte-eq92 t c =
    let w = c.loop-self.self.rest.now in
    let e0 = rw c.in-Some.is at c.in_ok-given.ensures.value in
    let e = rw c.bump-then-byte-eq92.ensures.rest at e0 in
    record {
      turn = rw (c.in_ok-extend_from_slice.ensures.items, c.as_slice.ensures) (turn_escaped (coder c.args.self.now.text.now c.args.depth) c.args.self.now.rest.now w c.loop-self.parts.items c.loop-self.bytes.items c.in-Some.given c.escape.new.self.rest.now c.loop-self.invariant.turn c.in-len1-up.len_at_least (ne_eqb (get_or w 0 0) 34 c.if-byte-eq34.false) (eq-eqb (get_or w 0 0) 92 c.if-byte-eq92.true) e);
      same = c.in_ok-given.ensures.text ∙ c.bump-then-byte-eq92.ensures.text ∙ c.loop-self.invariant.same;
    }

pub inside-returns-then-not-branch-clause-value : goal.inside-returns-then-not-branch-clause-value
inside-returns-then-not-branch-clause-value t c =
    let w = c.loop-self.self.rest.now in
    let o : opens_code (get_or w 0 0) (drop 1 w) ≡ true = rw (all_left 1 w) at (sym c.opens_code.ensures ∙ c.if-opens_code.true) in
    let e0 = rw c.if-not-branch.true at c.in_ok-code_part.ensures.value in
    let e = rw c.loop-self.invariant.same at e0 in
    turn_uncoded (coder c.args.self.now.text.now c.args.depth) c.args.self.now.rest.now w c.loop-self.parts.items c.loop-self.bytes.items c.loop-self.invariant.turn c.in-len1-up.len_at_least (ne_eqb (get_or w 0 0) 34 c.if-byte-eq34.false) (ne_eqb (get_or w 0 0) 92 c.if-byte-eq92.false) o e

pub inside-loop-self-smaller-else-not-branch : goal.inside-loop-self-smaller-else-not-branch
inside-loop-self-smaller-else-not-branch t c =
    let w = c.loop-self.self.rest.now in
    let coded = rw c.if-not-branch.false at c.in_ok-code_part.ensures.value in
    let left = coder_left c.loop-self.self.text.now c.args.depth (drop 2 w) coded.tokens coded.rest coded.is in
    omega (arith, left.0, ap length coded.left, length-drop 1 coded.rest, length-drop 2 w, c.in-len1-up.len_at_least, begins_some (λ b. nat_eq b 125) coded.rest left.1)

pub inside-loop-self-preserved-else-not-branch : goal.inside-loop-self-preserved-else-not-branch
inside-loop-self-preserved-else-not-branch t c =
    let w = c.loop-self.self.rest.now in
    let o : opens_code (get_or w 0 0) (drop 1 w) ≡ true = rw (all_left 1 w) at (sym c.opens_code.ensures ∙ c.if-opens_code.true) in
    let coded0 = rw c.if-not-branch.false at c.in_ok-code_part.ensures.value in
    let coded1 = rw c.replace-whole.ensures.value at coded0 in
    let coded = rw c.loop-self.invariant.same at coded1 in
    let left = coder_left c.args.self.now.text.now c.args.depth (drop 2 w) coded.tokens coded.rest coded.is in
    record {
      turn = rw (coded.left, c.replace-whole.ensures.after, c.new.ensures.items) (turn_coded (coder c.args.self.now.text.now c.args.depth) c.args.self.now.rest.now w c.loop-self.parts.items c.loop-self.bytes.items coded.tokens coded.rest c.code_part.new.parts.items c.loop-self.invariant.turn c.in-len1-up.len_at_least (ne_eqb (get_or w 0 0) 34 c.if-byte-eq34.false) (ne_eqb (get_or w 0 0) 92 c.if-byte-eq92.false) o coded.is left.0 coded.parts_are);
      same = c.in_ok-code_part.ensures.text ∙ c.loop-self.invariant.same;
    }

pub inside-loop-self-preserved : goal.inside-loop-self-preserved
inside-loop-self-preserved t c =
    let w = c.loop-self.self.rest.now in
    let o : opens_code (get_or w 0 0) (drop 1 w) ≡ false = rw (all_left 1 w) at (sym c.opens_code.ensures ∙ c.if-opens_code.false) in
    record {
      turn = rw (c.bump-else-opens_code.ensures.rest, c.in_ok-push.ensures.items) (turn_byte (coder c.args.self.now.text.now c.args.depth) c.args.self.now.rest.now w c.loop-self.parts.items c.loop-self.bytes.items c.loop-self.invariant.turn c.in-len1-up.len_at_least (ne_eqb (get_or w 0 0) 34 c.if-byte-eq34.false) (ne_eqb (get_or w 0 0) 92 c.if-byte-eq92.false) o);
      same = c.bump-else-opens_code.ensures.text ∙ c.loop-self.invariant.same;
    }

pub piece-returns-in_default-clause-value : goal.piece-returns-in_default-clause-value
piece-returns-in_default-clause-value t c = piece_empty c.args.self.now.text.now (coder c.args.self.now.text.now c.args.depth) c.args.state c.args.self.now.rest.now (omega (arith, c.in_default.len_below))

pub piece-returns-in-DoubleQuote-clause-value : goal.piece-returns-in-DoubleQuote-clause-value
piece-returns-in-DoubleQuote-clause-value t c =
    let text = c.args.self.now.text.now in
    let w = c.args.self.now.rest.now in
    let is : class_of (get_or w 0 0) ≡ DoubleQuote = cc in
    rw (piece_quoted text (coder text c.args.depth) c.args.state w c.in-len1-up.len_at_least is) c.quoted_piece.ensures.value

pub piece-returns-then-is_some-clause-value : goal.piece-returns-then-is_some-clause-value
piece-returns-then-is_some-clause-value t c =
    let text = c.args.self.now.text.now in
    let w = c.args.self.now.rest.now in
    let is : class_of (get_or w 0 0) ≡ Colon = cc in
    let some : is_some c.in_ok-symbol-in-Colon.symbol ≡ true = cc in
    rw (piece_colon text (coder text c.args.depth) c.args.state w c.in-len1-up.len_at_least is) (else_some seen_piece c.in_ok-symbol-in-Colon.symbol c.quoted_symbol.new.self.rest.now (scan_symbol (drop 1 w)) (first_of text c.args.state Colon w) some c.in_ok-symbol-in-Colon.ensures.value)

pub piece-returns-else-is_some-clause-value : goal.piece-returns-else-is_some-clause-value
piece-returns-else-is_some-clause-value t c =
    let text = c.args.self.now.text.now in
    let w = c.args.self.now.rest.now in
    let is : class_of (get_or w 0 0) ≡ Colon = cc in
    let none : c.in_ok-symbol-in-Colon.symbol ≡ None = not_some c.in_ok-symbol-in-Colon.symbol cc in
    let no_symbol = rw none at c.in_ok-symbol-in-Colon.ensures.value in
    let rest = c.in_ok-symbol-in-Colon.ensures.none (ap Ok none) in
    let plain = rw (rest, c.in_ok-symbol-in-Colon.ensures.text, c.in-Colon.is) at c.plain_piece.ensures.value in
    rw (piece_colon text (coder text c.args.depth) c.args.state w c.in-len1-up.len_at_least is, no_symbol) plain

pub piece-returns-in_default-class : goal.piece-returns-in_default-class
piece-returns-in_default-class t c =
    let text = c.args.self.now.text.now in
    let w = c.args.self.now.rest.now in
    record {
      value = rw (piece_plain text (coder text c.args.depth) c.args.state c.class_of-class.result w c.in-len1-up.len_at_least (sym c.class_of-class.ensures) c.in_default-class.not-DoubleQuote c.in_default-class.not-Colon) c.plain_piece-in_default-class.ensures.value;
      text = c.plain_piece-in_default-class.ensures.text;
    }

pub quoted_piece-returns-in_default-clause-value : goal.quoted_piece-returns-in_default-clause-value
quoted_piece-returns-in_default-clause-value t c =
    let e0 = rw c.in_default.is at c.in_ok-parts.ensures.value in
    let e = rw (c.bump.ensures.text, c.bump.ensures.rest) at e0 in
    quoted_none (coder c.args.self.now.text.now c.args.depth) (drop 1 c.args.self.now.rest.now) e

pub quoted_piece-returns-then-one_colon-clause-value : goal.quoted_piece-returns-then-one_colon-clause-value
quoted_piece-returns-then-one_colon-clause-value t c =
    let e0 = rw c.in-Some.is at c.in_ok-parts.ensures.value in
    let e = rw (c.bump.ensures.text, c.bump.ensures.rest) at e0 in
    let one : one_colon c.inside.new.self.rest.now ≡ true = cc in
    let seen : seen_kind (Label c.in-Some.parts) ≡ label (seen_parts c.in-Some.parts) = search (rules, the_lemmas) in
    quoted_found (coder c.args.self.now.text.now c.args.depth) (drop 1 c.args.self.now.rest.now) (seen_parts c.in-Some.parts) c.inside.new.self.rest.now e ∙ rw (one, c.bump-then-one_colon.ensures.rest, seen)

pub quoted_piece-returns-clause-value : goal.quoted_piece-returns-clause-value
quoted_piece-returns-clause-value t c =
    let e0 = rw c.in-Some.is at c.in_ok-parts.ensures.value in
    let e = rw (c.bump.ensures.text, c.bump.ensures.rest) at e0 in
    let one : one_colon c.inside.new.self.rest.now ≡ false = cc in
    let seen : seen_kind (Literal c.in-Some.parts) ≡ literal (seen_parts c.in-Some.parts) = search (rules, the_lemmas) in
    quoted_found (coder c.args.self.now.text.now c.args.depth) (drop 1 c.args.self.now.rest.now) (seen_parts c.in-Some.parts) c.inside.new.self.rest.now e ∙ rw (one, seen)

pub quoted_symbol-returns-in-Some-clause-value : goal.quoted_symbol-returns-in-Some-clause-value
quoted_symbol-returns-in-Some-clause-value t c =
    let w = drop 1 c.args.self.now.rest.now in
    let quote : begins_with 34 w ≡ true = rw c.bump.ensures.rest at (sym c.begins_with.ensures ∙ c.if-begins_with.true) in
    let e = rw (c.bump-then-begins_with.ensures.text, c.bump-then-begins_with.ensures.rest, c.bump.ensures.rest) at c.in_ok-inside.ensures.value in
    let k = rw c.in-Some.is at c.in_ok-symbol.ensures in
    symbol_is c.bump.new.self.text.now w c.in_ok-inside.field-0 c.inside.new.self.rest.now (Some (seen_kind c.in-Some.symbol)) quote e k

pub quoted_symbol-returns-clause-value : goal.quoted_symbol-returns-clause-value
quoted_symbol-returns-clause-value t c =
    let w = drop 1 c.args.self.now.rest.now in
    elim c.if-begins_with.branch [
      | quoted_symbol-then-begins_with+in_ok-inside+in_ok-symbol+in_default v ↦
          (let quote : begins_with 34 w ≡ true = rw c.bump.ensures.rest at (sym c.begins_with.ensures ∙ v.if-begins_with.true) in
          let e = rw (v.bump-then-begins_with.ensures.text, v.bump-then-begins_with.ensures.rest, c.bump.ensures.rest) at v.in_ok-inside.ensures.value in
          let k = rw v.in_default.is at v.in_ok-symbol.ensures in
          symbol_is c.bump.new.self.text.now w v.in_ok-inside.field-0 v.inside.new.self.rest.now None quote e k)
      | quoted_symbol-else-begins_with v ↦ symbol_no w (rw c.bump.ensures.rest at (sym c.begins_with.ensures ∙ v.if-begins_with.false))
    ]
