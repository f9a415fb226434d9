-- The reader takes what is derived: what the tokens alone decide.
use Rattle.std.proofs.Common.{◌≡◌, Bool, true, false, codes, refl, ap, ◌∙◌}
use Rattle.std.proofs.lemmas.Bool.{false≢true}
use Rattle.ruby_lexer.specs.Bytes.{Bytes}
use Rattle.ruby_lexer.specs.Pieces.{Toks, none, more}
use Rattle.ruby_tree.specs.Rules.{next, method_marks, is_kind_name, is_kind_constant, is_kind_newline, is_mark, is_word}
use Rattle.ruby_tree.specs.Grammar.{Rels, Then, LoopStart, Newlines, Dot, MethodName, OnSelf}
use Rattle.ruby_tree.specs.Grammar as g
use Rattle.reference_parser.specs.Answers.{found}
use Rattle.reference_parser.specs.Fronts.{is_newline, is_dot, skip_newlines, then_at, loop_start_at, brackets_at, method_name_at, on_self_at}
use Rattle.reference_parser.proofs.Tests.{and_true, left_true, right_true, mark_kind, marks_kind, word_kind, other_mark, mark_not_among}

module _ (source : Bytes) where
  word_no_newline : (f : Bytes) (w : Toks) → is_word source f w ≡ true → is_newline w ≡ false
  word_no_newline f w h = ap is_kind_newline (word_kind source f w h)

  pub known_then : (w r : Toks) → Then source w r → then_at source w ≡ found tt r
  unfolding then_at
  known_then w r (g.Then.line e h) = rw (e, h)
  known_then w r (g.Then.written e) = rw (word_no_newline (codes "then") w e, e)
  known_then w r (g.Then.line_and_written e h) = rw (e, h)

  pub known_loop_start : (w r : Toks) → LoopStart source w r → loop_start_at source w ≡ found tt r
  unfolding loop_start_at
  known_loop_start w r (g.LoopStart.line e) = rw (left_true (is_newline w) (is_word source (codes "do") w) e)
  known_loop_start w r (g.LoopStart.written e) = rw (right_true (is_newline w) (is_word source (codes "do") w) e)

  skipped : (w : Toks) → is_newline w ≡ true → skip_newlines source w ≡ skip_newlines source (next w)
  unfolding skip_newlines
  skipped none h = absurd (false≢true h)
  skipped (more t ts) h = rw h

  passed : (w : Toks) → is_newline w ≡ false → skip_newlines source w ≡ w
  unfolding skip_newlines
  passed none h = refl
  passed (more t ts) h = rw h

  pub known_newlines : (w r : Toks) → Newlines source w r → skip_newlines source w ≡ r
  known_newlines w r (g.Newlines.skipped e h) = skipped w e ∙ known_newlines (next w) r h
  known_newlines w r (g.Newlines.passed e) = passed w e

  pub known_dot : (k : Bool) (w : Toks) → Dot source k w → is_mark source (codes "&.") w ≡ k
  known_dot k w (g.Dot.plain e) = other_mark source (codes ".") (codes "&.") w e refl
  known_dot k w (g.Dot.safe e) = e

  pub dot_is : (k : Bool) (w : Toks) → Dot source k w → is_dot source w ≡ true
  dot_is k w (g.Dot.plain e) = left_true _ _ e
  dot_is k w (g.Dot.safe e) = right_true _ _ e

  pub known_method_name : (defines : Bool) (w : Toks) (m : Bytes) (r : Toks) → MethodName source defines w m r → method_name_at source defines w ≡ found m r
  unfolding method_name_at brackets_at
  known_method_name defines w m r (g.MethodName.name e h) = rw (h, ap is_kind_name e)
  known_method_name defines w m r (g.MethodName.setter i e h t) = rw (and_true _ _ i (and_true _ _ h t), ap is_kind_name e)
  known_method_name defines w m r (g.MethodName.constant e) = rw (ap is_kind_name e, ap is_kind_constant e)
  known_method_name defines w m r (g.MethodName.operator e) = rw (e, ap is_kind_name (marks_kind source method_marks w e), ap is_kind_constant (marks_kind source method_marks w e))
  known_method_name defines w m r (g.MethodName.index e h t f) =
      rw (ap is_kind_name (mark_kind source (codes "[") w e), ap is_kind_constant (mark_kind source (codes "[") w e), mark_not_among source (codes "[") method_marks w e refl, and_true _ _ e (and_true _ _ h t), f)
  known_method_name defines w m r (g.MethodName.index_setter e h t f u) =
      rw (ap is_kind_name (mark_kind source (codes "[") w e), ap is_kind_constant (mark_kind source (codes "[") w e), mark_not_among source (codes "[") method_marks w e refl, and_true _ _ e (and_true _ _ h t), and_true _ _ f u)

  pub known_on_self : (R : Rels) (w : Toks) (b : Bool) (r : Toks) → OnSelf source R w b r → on_self_at source w ≡ found b r
  unfolding on_self_at
  known_on_self R w b r (g.OnSelf.on_self e h) = rw (e, h)
  known_on_self R w b r (g.OnSelf.plain e) = rw e
