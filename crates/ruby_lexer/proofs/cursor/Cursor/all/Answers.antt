use Rattle.std.proofs.Common.{◌≡◌, ◌≢◌, ◌∙◌, sym, ap, length, [], arith, true, false, nat_eq}
use Rattle.std.proofs.lemmas.List.{nil_from_length}
use Rattle.std.proofs.lemmas.Bool.{eqb-true}
use Rattle.ruby_lexer.specs.Settle.{settle}
use Rattle.ruby_lexer.specs.Bytes.{Bytes, taken}
use Rattle.ruby_lexer.specs.Scan.{coder}
use Rattle.ruby_lexer.specs.Pieces.{none, seen_all, Toks}
use Rattle.ruby_lexer.proofs.Turns.{all_turn, all_done, piece_left, braces_le}
use Rattle.ruby_lexer.proofs.cursor.Cursor.all.Goals as goal
use Rattle.ruby_lexer.proofs.cursor.Cursor.all.Goals.{then-is_end, else-is_end}

abbrev pair_of : Toks → Bytes → Toks × Bytes
pair_of ts r = (ts, r)

at_end : (w : Bytes) → nat_eq (length w) 0 ≡ true → w ≡ []
at_end w h = nil_from_length w (eqb-true (length w) 0 h)

before_the_end : (w : Bytes) → nat_eq (length w) 0 ≡ false → w ≢ []
before_the_end w h = λ e. let t : nat_eq (length w) 0 ≡ true = rw e in cc

pub loop-raws-smaller : goal.loop-raws-smaller
loop-raws-smaller c =
    let sp = rw c.in-Some.is at c.in_ok-next.ensures.value in
    piece_left c.loop-raws.self.text.now 200 c.loop-raws.state c.loop-raws.self.rest.now sp.piece c.step.new.self.rest.now sp.is

pub loop-raws-preserved : goal.loop-raws-preserved
loop-raws-preserved c =
    let text = c.args.self.now.text.now in
    let s = c.loop-raws.state in
    let w = c.loop-raws.self.rest.now in
    let q = c.step.new.self.rest.now in
    let sp0 = rw c.in-Some.is at c.in_ok-next.ensures.value in
    let sp = rw c.loop-raws.invariant.same at sp0 in
    let less = piece_left text 200 s w sp.piece q sp.is in
    record {
      turn = rw sp.next (all_turn text (coder text 200) w c.loop-raws.raws.items c.step.new.raws.items s sp.piece q c.loop-raws.invariant.turn sp.is less sp.raws_are);
      same = c.in_ok-next.ensures.text ∙ c.loop-raws.invariant.same;
      few = rw sp.next (omega (arith, braces_le s sp.piece (taken w q), less, c.loop-raws.invariant.few));
    }

pub returns-in_default : goal.returns-in_default
returns-in_default c =
    let text = c.args.self.now.text.now in
    let w = c.loop-raws.self.rest.now in
    let p0 = rw c.in_default.is at c.in_ok-next.ensures.value in
    let p = rw c.loop-raws.invariant.same at p0.0 in
    let all = all_done text (coder text 200) w c.loop-raws.raws.items c.loop-raws.state c.loop-raws.invariant.turn p in
    let settled : seen_all c.in_ok-tokens.tokens ≡ settle text c.loop-raws.raws.items none = rw (c.in_ok-next.ensures.text, c.loop-raws.invariant.same, p0.1) at c.in_ok-tokens.ensures in
    let line = rw c.loop-raws.invariant.same at c.line-line.ensures in
    record {
      rest = w;
      is = all ∙ ap (λ (ts : Toks). pair_of ts w) (sym settled);
      ends_at = elim c.if-is_end.branch [
        | then-is_end v ↦ rw v.fault-is (at_end w (sym c.is_empty-is_end.ensures ∙ v.if-is_end.true))
        | else-is_end v ↦ rw v.fault-is (before_the_end w (sym c.is_empty-is_end.ensures ∙ v.if-is_end.false), line)
      ];
    }
