use Rattle.std.proofs.Common.{◌≡◌, ◌∙◌, sym, ap, true, false, ◌&&◌, [], arith, rules}
use Rattle.std.proofs.lemmas.List.{nil_from_length}
use Rattle.ruby_lexer.specs.Cut.{closes, begins_with_name, with_blank, has_blank}
use Rattle.ruby_lexer.specs.Pieces.{none, more, seen}
use Rattle.ruby_lexer.specs.Settle.{onto, closes_before}
use Rattle.ruby_lexer.proofs.Gathered.{settle_none, settle_kept, closes_blank, name_blank, name_first, closes_more, onto_push, onto_reversed}
use Rattle.ruby_lexer.proofs.gather.settled.Goals as goal

pub loop-raw-preserved : goal.loop-raw-preserved
loop-raw-preserved c =
    let text = c.args.text.now in
    let ts = onto c.loop-raw.tokens.items none in
    let token = c.in-Some.raw.token in
    let h : (c.in-Some.raw.is_line && closes text ts) ≡ false = cc in
    let is : onto c.push.new.self.items none ≡ more (seen token) ts = ap (λ xs. onto xs none) c.in_ok-push.ensures.items ∙ onto_push c.loop-raw.tokens.items token none in
    record {
      all = rw (is, ← settle_kept text c.pop.new.self.items c.in-Some.raw ts h, ← c.in-Some.ensures.items) c.loop-raw.invariant.all;
      closing = c.closes_before-closes.ensures ∙ ap (closes_before text (seen token)) c.loop-raw.invariant.named ∙ sym (closes_more text (seen token) ts) ∙ ap (closes text) (sym is);
      named = c.is_name_token-has_name.ensures ∙ sym (name_first (seen token) ts) ∙ ap begins_with_name (sym is);
    }

pub returns : goal.returns
returns c =
    let nothing : c.loop-raw.raws.items ≡ [] = nil_from_length c.loop-raw.raws.items (omega (arith, c.in_default.ensures.cases)) in
    let all = rw nothing at c.loop-raw.invariant.all in
    rw (c.from_vec.ensures, c.reverse.ensures.items) (onto_reversed c.loop-raw.tokens.items ∙ all)

pub loop-raw-preserved-in-Continue-1 : goal.loop-raw-preserved-in-Continue-1
loop-raw-preserved-in-Continue-1 c =
    let text = c.args.text.now in
    let ts = onto c.loop-raw.tokens.items none in
    let h : (c.in-Some.raw.is_line && closes text ts) ≡ true = cc in
    let is : onto c.leave_out.new.tokens.items none ≡ with_blank (has_blank (seen c.in-Some.raw.token)) ts = search rules in
    record {
      all = rw (is, ← settle_none text c.pop.new.self.items c.in-Some.raw ts h, ← c.in-Some.ensures.items) c.loop-raw.invariant.all;
      closing = rw (is, closes_blank) c.loop-raw.invariant.closing;
      named = rw (is, name_blank) c.loop-raw.invariant.named;
    }
