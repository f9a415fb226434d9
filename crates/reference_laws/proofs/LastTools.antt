-- Where the tokens end with a newline, each part but statements leaves it: the last token that such a part takes is no newline.
use Rattle.std.proofs.Common.{◌≡◌, true, false, not, List, codes, Option, Some, refl, sym, ap, ◌∙◌}
use Rattle.std.proofs.lemmas.Bool.{false≢true}
use Rattle.ruby_lexer.specs.Bytes.{Bytes}
use Rattle.ruby_lexer.specs.Pieces.{Kind, Toks, none, more, mark, keyword}
use Rattle.ruby_tree.specs.Tree.{Tree, Goal, Other}
use Rattle.ruby_tree.specs.Rules.{Scope, DoBlockOwner, next, front, word, mark_in, is_mark, is_word, is_kind_newline, is_kind_integer, touches_next, is_negative, goal_at}
use Rattle.ruby_tree.specs.Grammar.{Rels}
use Rattle.ruby_tree.specs.FaultLine.{ends_lines}
use Rattle.reference_laws.proofs.Moves.{is_there}
use Rattle.reference_parser.proofs.Tests.{both_true, kind_goal, IsGoal, a_name, a_variable, a_global, mark_kind, word_kind, marks_kind}
use Rattle.reference_laws.proofs.SwapTools.{no_kind}

-- there are no tokens, or the last of them is a newline
pub record Ends (w : Toks) : Type 0 where
  pub holds : ends_lines w ≡ true

-- there are tokens, and the last of them is a newline
pub record Lines (w : Toks) : Type 0 where
  pub there : is_there w ≡ true
  pub ends : Ends w

-- one part behind another
infixl 10 ◌▸◌
pub ◌▸◌ : {X : Type 0} {w : Toks} → Lines w → (Ends w → X) → X
l ▸ f = f l.ends

infixl 10 ◌▹◌
pub ◌▹◌ : {A X : Type 0} → A → (A → X) → X
x ▹ f = f x

-- a token of another kind is not the last one
pub past : (w : Toks) (k : Kind) → front w ≡ Some k → is_kind_newline (Some k) ≡ false → Ends w → Lines (next w)
past none k h n e = absurd (no_kind h)
past (more t none) k h n e = absurd (false≢true (sym n ∙ (ap is_kind_newline (sym h) ∙ e.holds)))
past (more t (more u ts)) k h n e = record { there = refl; ends = record { holds = e.holds } }

module _ (source : Bytes) where
  pub past_mark : (f : Bytes) (w : Toks) → is_mark source f w ≡ true → Ends w → Lines (next w)
  past_mark f w h e = past w mark (mark_kind source f w h) refl e

  pub past_word : (f : Bytes) (w : Toks) → is_word source f w ≡ true → Ends w → Lines (next w)
  past_word f w h e = past w keyword (word_kind source f w h) refl e

  pub past_one_of : (fs : List Bytes) (w : Toks) → mark_in source fs w ≡ true → Ends w → Lines (next w)
  past_one_of fs w h e = past w mark (marks_kind source fs w h) refl e

  past_goal_kind : (w : Toks) (o : Option Kind) → front w ≡ o → IsGoal o → Ends w → Lines (next w)
  past_goal_kind w _ h a_name e = past w _ h refl e
  past_goal_kind w _ h a_variable e = past w _ h refl e
  past_goal_kind w _ h a_global e = past w _ h refl e

  pub past_goal : (w : Toks) (g : Goal) → goal_at source w ≡ Some g → Ends w → Lines (next w)
  past_goal w g h e = past_goal_kind w (front w) refl (kind_goal source (front w) (word source w) g h) e

  pub past_line : (w : Toks) → is_kind_newline (front w) ≡ true → Ends w → Ends (next w)
  past_line none h e = absurd (false≢true h)
  past_line (more t none) h e = record { holds = refl }
  past_line (more t (more u ts)) h e = record { holds = e.holds }

  -- a negative integer begins with a mark
  pub past_negative : (w : Toks) → is_negative source w ≡ true → Ends w → Lines (next w)
  past_negative w h e =
      let three = both_true _ (not (is_mark source (codes "**") (next (next w)))) h in
      let two = both_true _ (touches_next w) three.0 in
      past_mark (codes "-") w (both_true (is_mark source (codes "-") w) (is_kind_integer (front (next w))) two.0).0 e

pub record Lasts (R : Rels) : Type 0 where
  pub stmts : {d : DoBlockOwner} {w r : Toks} {s z : Scope} {t : Tree} → R.stmts d w s t r z → Ends w → Ends r
  pub expr : {d : DoBlockOwner} {w r : Toks} {s z : Scope} {t : Tree} → R.expr d w s t r z → Ends w → Lines r
  pub test : {d : DoBlockOwner} {w r : Toks} {s z : Scope} {t : Tree} → R.test d w s t r z → Ends w → Lines r
  pub assigned_value : {d : DoBlockOwner} {w r : Toks} {s z : Scope} {t : Tree} → R.assigned_value d w s t r z → Ends w → Lines r
  pub arg : {d : DoBlockOwner} {w r : Toks} {s z : Scope} {t : Tree} → R.arg d w s t r z → Ends w → Lines r
  pub minus : {d : DoBlockOwner} {w r : Toks} {s z : Scope} {t : Tree} → R.minus d w s t r z → Ends w → Lines r
  pub power : {d : DoBlockOwner} {w r : Toks} {s z : Scope} {t : Tree} → R.power d w s t r z → Ends w → Lines r
  pub unary_operand : {d : DoBlockOwner} {w r : Toks} {s z : Scope} {t : Tree} → R.unary_operand d w s t r z → Ends w → Lines r
  pub else_branches : {d : DoBlockOwner} {w r : Toks} {s z : Scope} {e : Other} → R.else_branches d w s e r z → Ends w → Ends r
