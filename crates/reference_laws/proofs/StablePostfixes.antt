-- More depth changes nothing but what goes too deep: what stands behind an operand.
use Rattle.std.proofs.Common.{ℕ, zero, suc, not, ◌&&◌, codes}
use Rattle.ruby_lexer.specs.Bytes.{Bytes}
use Rattle.ruby_lexer.specs.Pieces.{Toks}
use Rattle.ruby_tree.specs.Tree.{Tree}
use Rattle.ruby_tree.specs.Rules.{blank, next, DoBlockOwner, own, is_mark, begins_arguments, begins_arg, assigns}
use Rattle.ruby_tree.specs.Build.{Given}
use Rattle.ruby_tree.specs.FaultLine.{count_of}
use Rattle.reference_parser.specs.Answers.{Parse}
use Rattle.reference_parser.specs.Fronts.{is_constant, method_name_at, is_dot}
use Rattle.reference_parser.specs.ReadItems.{Readers}
use Rattle.reference_parser.specs.ReadOperands.{Start, read_call, end_index, read_index, path_at, postfix_at, postfixes, read_postfix}
use Rattle.reference_laws.proofs.StableTools.{Stable, Stables, same, stable_then, stable_found, stable_if}
use Rattle.reference_laws.proofs.StableItems.{stable_items_from, stable_items_turns, stable_items}
use Rattle.reference_laws.proofs.StableBodies.{stable_call_items}
use Rattle.reference_laws.proofs.StableOperands.{stable_primary}

module _ (source : Bytes) (Q P : Readers) (S : Stables Q P) where
  -- one thing behind an operand, where what follows is read by functions that agree
  stable_call : {F G : Tree → Parse Start} → ((b : Tree) → Stable (F b) (G b)) → (d : DoBlockOwner) (o : Toks) (a : Tree) → Stable (read_call source Q F d o a) (read_call source P G d o a)
  unfolding read_call
  stable_call further d o a w s =
      stable_found (method_name_at source _ (next w)) (λ m v. stable_if (begins_arguments source v) same
      (stable_if (assigns source v) same (stable_then (stable_call_items source Q P S d v s) (λ c p y. further _ p y))))

  stable_end_index : {F G : Tree → Parse Start} → ((b : Tree) → Stable (F b) (G b)) → (o : Toks) (a : Tree) (w : Toks) (g : Given) → Stable (end_index source Q F o a w g) (end_index source P G o a w g)
  unfolding end_index
  stable_end_index further o a w g p y = stable_if (is_mark source (codes "]") p && not (assigns source (next p))) (further _ (next p) y) same

  stable_index : {F G : Tree → Parse Start} → ((b : Tree) → Stable (F b) (G b)) → (o : Toks) (a : Tree) → Stable (read_index source Q F o a) (read_index source P G o a)
  unfolding read_index
  stable_index further o a w s =
      stable_if (begins_arg source (next w))
      (stable_then (S.arg own (next w) s) (λ i q x. stable_if (is_mark source (codes "]") q && assigns source (next q)) same
      (stable_then (stable_items_from source Q P S (stable_items_turns source Q P S (suc (count_of w)) own 1) own 0 (next w) _ q x) (λ g p y. stable_end_index further o a w g p y))))
      (stable_then (stable_items source Q P S own (next w) s) (λ g p y. stable_end_index further o a w g p y))

  stable_path : {F G : Tree → Parse Start} → ((b : Tree) → Stable (F b) (G b)) → (o : Toks) (a : Tree) → Stable (path_at source Q F o a) (path_at source P G o a)
  unfolding path_at
  stable_path further o a w s = stable_if (is_constant (next w)) (further _ (next (next w)) s) same

  stable_postfix_at : {F G : Tree → Parse Start} → ((b : Tree) → Stable (F b) (G b)) → (d : DoBlockOwner) (o : Toks) (a : Tree) → Stable (postfix_at source Q F d o a) (postfix_at source P G d o a)
  unfolding postfix_at
  stable_postfix_at further d o a w s =
      stable_if (is_dot source w) (stable_call further d o a w s)
      (stable_if (is_mark source (codes "::") w) (stable_path further o a w s)
      (stable_if (is_mark source (codes "[") w && not (blank w)) (stable_index further o a w s) same))

  stable_postfixes : (m : ℕ) (d : DoBlockOwner) (o : Toks) (a : Tree) → Stable (postfixes source Q m d o a) (postfixes source P m d o a)
  unfolding postfixes
  stable_postfixes zero d o a w s = same
  stable_postfixes (suc m) d o a w s = stable_postfix_at (λ b. stable_postfixes m d o b) d o a w s

  pub stable_postfix : (d : DoBlockOwner) → Stable (read_postfix source Q d) (read_postfix source P d)
  unfolding read_postfix
  stable_postfix d w s = stable_then (stable_primary source Q P S d w s) (λ a q y. stable_postfixes (suc (count_of q)) d w a q y)
