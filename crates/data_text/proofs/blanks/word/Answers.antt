use Rattle.std.proofs.Common.{◌≡◌, ◌∙◌, ◌<◌, ◌+◌, ◌∷◌, ◌++◌, length, take, drop, get_or, sym, ap, arith}
use Rattle.std.proofs.lemmas.List.{take-append-drop}
use Rattle.data_text.proofs.Spaces.{no_bytes}
use Rattle.data_text.proofs.Words.{word_found, word_short, word_bad, whole_front, drop_at, take_less}
use Rattle.data_text.proofs.blanks.word.Goals as goal

pub returns-in_default : goal.returns-in_default
returns-in_default c =
    word_short c.args.word.now c.args.bytes.now (take c.loop-wanted.wanted-index c.args.word.now) (drop c.loop-wanted.wanted-index c.args.word.now) (sym (take-append-drop c.loop-wanted.wanted-index c.args.word.now))
    (take_less c.args.word.now c.loop-wanted.wanted-index c.loop-wanted-test.true)
    (c.loop-wanted.invariant ∙ ap (λ k. take c.loop-wanted.wanted-index c.args.word.now ++ k) (no_bytes c.loop-wanted.rest.now c.in_default.ensures.cases))

pub returns-then-first-wanted : goal.returns-then-first-wanted
returns-then-first-wanted c =
    let w = c.args.word.now in
    let i = c.loop-wanted.wanted-index in
    let h : i < length w = c.loop-wanted-test.true in
    let split : w ≡ take i w ++ get_or w i 0 ∷ drop (i + 1) w = sym (take-append-drop i w) ∙ ap (λ k. take i w ++ k) (drop_at w i h) in
    word_bad w c.args.bytes.now (take i w) (drop (i + 1) w) c.in-Some.after.now (get_or w i 0) c.in-Some.first.now (length c.loop-wanted.rest.now) split
    (c.loop-wanted.invariant ∙ ap (λ k. take i w ++ k) c.in-Some.ensures.cases.0) (ap length c.in-Some.ensures.cases.0) c.if-first-wanted.true

pub returns : goal.returns
returns c =
    let w = c.args.word.now in
    let i = c.loop-wanted.wanted-index in
    word_found w c.args.bytes.now c.loop-wanted.rest.now (c.loop-wanted.invariant ∙ ap (λ k. k ++ c.loop-wanted.rest.now) (whole_front w i (omega arith)))
