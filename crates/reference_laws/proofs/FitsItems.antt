-- Symbols nest no deeper than trees: lists of arguments, and what stands in brackets.
use Rattle.std.proofs.Common.{ℕ, ◌<◌, max, Bool, List, arith}
use Rattle.ruby_lexer.specs.Bytes.{Bytes}
use Rattle.ruby_lexer.specs.Pieces.{Toks}
use Rattle.ruby_tree.specs.Tree.{Tree, Trees, Pairs, Other}
use Rattle.ruby_tree.specs.Rules.{Scope, DoBlockOwner}
use Rattle.ruby_tree.specs.Build.{Given}
use Rattle.ruby_tree.specs.Depth.{depth, trees_depth, other_depth, pairs_depth}
use Rattle.ruby_tree.specs.Grammar.{Rels}
use Rattle.ruby_tree.specs.Grammar as g
use Rattle.reference_laws.proofs.FitsTools.{Fit, symbol_depth, given_depth}

module _ (source : Bytes) (k : ℕ) (R T : Rels) (F : Fit k R T) where
  pub fits-several : {d : DoBlockOwner} {w r : Toks} {s z : Scope} {ts : Trees} → g.Several source R d w s ts r z → trees_depth ts < k → g.Several source T d w s ts r z
  fits-several (g.Several.last h c) le = g.Several.last (F.arg h (omega arith)) c
  fits-several (g.Several.another h c i) le = g.Several.another (F.arg h (omega arith)) c (fits-several i (omega arith))

  fits-element : {d : DoBlockOwner} {b : Bool} {w r : Toks} {s z : Scope} {a : Tree} → g.Element source R d b w s a r z → depth a < k → g.Element source T d b w s a r z
  fits-element (g.Element.plain h) le = g.Element.plain (F.arg h le)
  fits-element (g.Element.spread e h) le = g.Element.spread e (F.arg h le)

  pub fits-elements : {d : DoBlockOwner} {n : ℕ} {w r : Toks} {s z : Scope} {ts : Trees} {ks : List ℕ} → g.Elements source R d n w s ts ks r z → trees_depth ts < k → g.Elements source T d n w s ts ks r z
  fits-elements (g.Elements.last h) le = g.Elements.last (fits-element h (omega arith))
  fits-elements (g.Elements.another h c i) le = g.Elements.another (fits-element h (omega arith)) c (fits-elements i (omega arith))

  fits-pair : {d : DoBlockOwner} {w r : Toks} {s z : Scope} {n v : Tree} → g.Pair source R d w s n v r z → max (depth n) (depth v) < k → g.Pair source T d w s n v r z
  fits-pair (g.Pair.label is e h) le = g.Pair.label is e (F.arg h (omega arith))
  fits-pair (g.Pair.arrow h e i) le = g.Pair.arrow (F.arg h (omega arith)) e (F.arg i (omega arith))

  pub fits-pair_list : {d : DoBlockOwner} {w r : Toks} {s z : Scope} {ps : Pairs} → g.PairList source R d w s ps r z → pairs_depth ps < k → g.PairList source T d w s ps r z
  fits-pair_list (g.PairList.last h) le = g.PairList.last (fits-pair h (omega arith))
  fits-pair_list (g.PairList.another h c i) le = g.PairList.another (fits-pair h (omega arith)) c (fits-pair_list i (omega arith))

  fits-passed : {d : DoBlockOwner} {w r : Toks} {s z : Scope} {v b : Other} → g.Passed source R d w s v b r z → max (other_depth v) (other_depth b) < k → g.Passed source T d w s v b r z
  fits-passed (g.Passed.value e h is) le = g.Passed.value e (F.arg h (omega arith)) is
  fits-passed (g.Passed.named e h is) le = g.Passed.named e (F.arg h (omega (arith, symbol_depth _ _ is))) is

  pub fits-items : {d : DoBlockOwner} {n : ℕ} {w r : Toks} {s z : Scope} {t : Given} → g.Items source R d n w s t r z → given_depth t < k → g.Items source T d n w s t r z
  fits-items (g.Items.element h n) le = g.Items.element (fits-element h (omega arith)) n
  fits-items (g.Items.another h c i) le = g.Items.another (fits-element h (omega arith)) c (fits-items i (omega arith))
  fits-items (g.Items.pairs h) le = g.Items.pairs (fits-pair_list h (omega arith))
  fits-items (g.Items.pairs_and_passed h c i) le = g.Items.pairs_and_passed (fits-pair_list h (omega arith)) c (fits-passed i (omega arith))
  fits-items (g.Items.passed h) le = g.Items.passed (fits-passed h (omega arith))

  pub fits-in_brackets : {w r : Toks} {s z : Scope} {t : Given} → g.InBrackets source R w s t r z → given_depth t < k → g.InBrackets source T w s t r z
  fits-in_brackets (g.InBrackets.empty o c) le = g.InBrackets.empty o c
  fits-in_brackets (g.InBrackets.full o h e c) le = g.InBrackets.full o (fits-items h le) e c

  pub fits-command_items : {d : DoBlockOwner} {w r : Toks} {s z : Scope} {t : Given} → g.CommandItems source R d w s t r z → given_depth t < k → g.CommandItems source T d w s t r z
  fits-command_items (g.CommandItems.items h e) le = g.CommandItems.items (fits-items h le) e

  pub fits-classes : {d : DoBlockOwner} {w r : Toks} {s z : Scope} {ts : Trees} → g.Classes source R d w s ts r z → trees_depth ts < k → g.Classes source T d w s ts r z
  fits-classes (g.Classes.missing e) le = g.Classes.missing e
  fits-classes (g.Classes.given h) le = g.Classes.given (fits-several h le)
