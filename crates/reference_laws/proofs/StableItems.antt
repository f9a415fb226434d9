-- More depth changes nothing but what goes too deep: lists of arguments, and what stands in brackets.
use Rattle.std.proofs.Common.{ℕ, zero, suc, not, ◌&&◌, codes, Option, Some, None}
use Rattle.ruby_lexer.specs.Bytes.{Bytes}
use Rattle.ruby_lexer.specs.Pieces.{Toks}
use Rattle.ruby_tree.specs.Tree.{Pairs}
use Rattle.ruby_tree.specs.Rules.{Scope, DoBlockOwner, own, in_arguments, next, is_mark, begins_arg}
use Rattle.ruby_tree.specs.FaultLine.{count_of}
use Rattle.ruby_tree.specs.Build.{Given}
use Rattle.reference_parser.specs.Answers.{Parse}
use Rattle.reference_parser.specs.Fronts.{is_label, label_at, more_elements, more_pairs, more_items, more_passed}
use Rattle.reference_parser.specs.ReadItems.{Readers, Element, KeyValue, several, read_several, read_element, elements, pair_by, read_pair, pair_list, read_passed, end_pairs, pairs_from, items_from, items, read_items, in_brackets, command_items, read_classes}
use Rattle.reference_laws.proofs.StableTools.{Agree, Stable, Stables, same, stable_then, stable_if}

module _ (source : Bytes) (Q P : Readers) (S : Stables Q P) where
  several_turns : (m : ℕ) (d : DoBlockOwner) → Stable (several source Q m d) (several source P m d)
  unfolding several
  several_turns zero d w s = same
  several_turns (suc m) d w s = stable_then (S.arg d w s) (λ a q y. stable_if (is_mark source (codes ",") q) (stable_then (several_turns m d (next q) y) (λ ts r z. same)) same)

  pub stable_several : (d : DoBlockOwner) → Stable (read_several source Q d) (read_several source P d)
  unfolding read_several
  stable_several d w s = several_turns (suc (count_of w)) d w s

  stable_element : (d : DoBlockOwner) → Stable (read_element source Q d) (read_element source P d)
  unfolding read_element
  stable_element d w s = stable_if (is_mark source (codes "*") w) (stable_then (S.arg d (next w) s) (λ a r z. same)) (stable_then (S.arg d w s) (λ a r z. same))

  pub stable_elements : (m k : ℕ) → Stable (elements source Q m k) (elements source P m k)
  unfolding elements
  stable_elements zero k w s = same
  stable_elements (suc m) k w s = stable_then (stable_element own w s) (λ e q y. stable_if (more_elements source q) (stable_then (stable_elements m (suc k) (next q) y) (λ g r z. same)) same)

  pair_of : (d : DoBlockOwner) (w : Toks) (s : Scope) (o : Option Bytes) → Agree (pair_by source Q d w s o) (pair_by source P d w s o)
  unfolding pair_by
  pair_of d w s (Some f) = stable_then (S.arg d (next w) s) (λ v r z. same)
  pair_of d w s None = same

  stable_pair : (d : DoBlockOwner) → Stable (read_pair source Q d) (read_pair source P d)
  unfolding read_pair
  stable_pair d w s =
      stable_if (is_label w) (pair_of d w s (label_at w))
      (stable_then (S.arg d w s) (λ k q y. stable_if (is_mark source (codes "=>") q) (stable_then (S.arg d (next q) y) (λ v r z. same)) same))

  pub stable_pair_list : (m : ℕ) (d : DoBlockOwner) → Stable (pair_list source Q m d) (pair_list source P m d)
  unfolding pair_list
  stable_pair_list zero d w s = same
  stable_pair_list (suc m) d w s = stable_then (stable_pair d w s) (λ p q y. stable_if (more_pairs source q) (stable_then (stable_pair_list m d (next q) y) (λ ps r z. same)) same)

  stable_passed : (d : DoBlockOwner) → Stable (read_passed source Q d) (read_passed source P d)
  unfolding read_passed
  stable_passed d w s = stable_then (S.arg d (next w) s) (λ a r z. same)

  stable_end_pairs : (d : DoBlockOwner) (w : Toks) (ps : Pairs) → Stable (end_pairs source Q d w ps) (end_pairs source P d w ps)
  unfolding end_pairs
  stable_end_pairs d w ps q y = stable_if (more_passed source q) (stable_then (stable_passed d (next q) y) (λ p r z. same)) same

  stable_pairs_from : (d : DoBlockOwner) (w : Toks) (p : KeyValue) → Stable (pairs_from source Q d w p) (pairs_from source P d w p)
  unfolding pairs_from
  stable_pairs_from d w p q y = stable_if (more_pairs source q) (stable_then (stable_pair_list (suc (count_of q)) d (next q) y) (λ ps r z. stable_end_pairs d w _ r z)) (stable_end_pairs d w _ q y)

  pub stable_items_from : {F G : Parse Given} → Stable F G → (d : DoBlockOwner) (k : ℕ) (w : Toks) (e : Element) → Stable (items_from source Q F d k w e) (items_from source P G d k w e)
  unfolding items_from
  stable_items_from further d k w e q y =
      stable_if (not e.spread && is_mark source (codes "=>") q) (stable_then (S.arg d (next q) y) (λ v p x. stable_pairs_from d w _ p x))
      (stable_if (more_items source q) (stable_then (further (next q) y) (λ g r z. same)) same)

  pub stable_items_turns : (m : ℕ) (d : DoBlockOwner) (k : ℕ) → Stable (items source Q m d k) (items source P m d k)
  unfolding items
  stable_items_turns zero d k w s = same
  stable_items_turns (suc m) d k w s =
      stable_if (is_mark source (codes "&") w) (stable_then (stable_passed d w s) (λ p r z. same))
      (stable_if (is_label w) (stable_then (stable_pair d w s) (λ p q y. stable_pairs_from d w p q y))
      (stable_then (stable_element d w s) (λ e q y. stable_items_from (stable_items_turns m d (suc k)) d k w e q y)))

  pub stable_items : (d : DoBlockOwner) → Stable (read_items source Q d) (read_items source P d)
  unfolding read_items
  stable_items d w s = stable_items_turns (suc (count_of w)) d 0 w s

  pub stable_in_brackets : Stable (in_brackets source Q) (in_brackets source P)
  unfolding in_brackets
  stable_in_brackets w s = stable_if (is_mark source (codes ")") (next w)) same (stable_then (stable_items own (next w) s) (λ g q z. same))

  pub stable_command_items : (d : DoBlockOwner) → Stable (command_items source Q d) (command_items source P d)
  unfolding command_items
  stable_command_items d w s = stable_then (stable_items (in_arguments d) w s) (λ g r z. same)

  pub stable_classes : (d : DoBlockOwner) → Stable (read_classes source Q d) (read_classes source P d)
  unfolding read_classes
  stable_classes d w s = stable_if (begins_arg source w) (stable_several d w s) same
