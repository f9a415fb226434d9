-- What is derived takes tokens and keeps the locals: lists, what stands in brackets, and what the tokens alone decide.
use Rattle.std.proofs.Common.{ℕ, Bool, List, codes, arith}
use Rattle.ruby_lexer.specs.Bytes.{Bytes}
use Rattle.ruby_lexer.specs.Pieces.{Toks}
use Rattle.ruby_tree.specs.Tree.{Tree, Trees, Other}
use Rattle.ruby_tree.specs.Rules.{Scope, DoBlockOwner, own, in_arguments, next, method_marks}
use Rattle.ruby_tree.specs.Grammar.{Rels, Trailing, Then, LoopStart, Newlines, Dot, MethodName, BlockParams, Bars, ExceptionName, MoreTargets, Targets, OnSelf, Several, Element, Elements, Pair, PairList, Passed, Items, InBrackets, CommandItems, Classes}
use Rattle.ruby_tree.specs.Grammar as g
use Rattle.reference_laws.proofs.Moves.{Moves, ◌▷◌, least, stays, declares, sets_goal, at_kind, at_mark, at_word, at_one_of, at_line, at_goal, Moving, Movers}

module _ (source : Bytes) (b : Bool) where
  pub moves_trailing : (s : Scope) (w r : Toks) → Trailing source w r → Moves b 0 w s r s
  moves_trailing s w r (g.Trailing.comma e) = least (at_mark source (codes ",") w e) (omega arith)
  moves_trailing s w r g.Trailing.no_comma = stays

  pub moves_then : (s : Scope) (w r : Toks) → Then source w r → Moves b 1 w s r s
  moves_then s w r (g.Then.line e h) = at_line source w e
  moves_then s w r (g.Then.written e) = at_word source (codes "then") w e
  moves_then s w r (g.Then.line_and_written e h) = least (at_line source w e ▷ at_word source (codes "then") _ h) (omega arith)

  pub moves_loop_start : (s : Scope) (w r : Toks) → LoopStart source w r → Moves b 1 w s r s
  moves_loop_start s w r (g.LoopStart.line e) = at_line source w e
  moves_loop_start s w r (g.LoopStart.written e) = at_word source (codes "do") w e

  pub moves_newlines : (s : Scope) (w r : Toks) → Newlines source w r → Moves b 0 w s r s
  moves_newlines s w r (g.Newlines.skipped e h) = least (at_line source w e ▷ moves_newlines s _ r h) (omega arith)
  moves_newlines s w r (g.Newlines.passed e) = stays

  pub moves_dot : (s : Scope) (k : Bool) (w : Toks) → Dot source k w → Moves b 1 w s (next w) s
  moves_dot s k w (g.Dot.plain e) = at_mark source (codes ".") w e
  moves_dot s k w (g.Dot.safe e) = at_mark source (codes "&.") w e

  pub moves_method_name : (s : Scope) (defines : Bool) (w : Toks) (m : Bytes) (r : Toks) → MethodName source defines w m r → Moves b 1 w s r s
  moves_method_name s defines w m r (g.MethodName.name e h) = at_kind e
  moves_method_name s defines w m r (g.MethodName.setter i e h t) = least (at_kind e ▷ at_mark source (codes "=") _ h) (omega arith)
  moves_method_name s defines w m r (g.MethodName.constant e) = at_kind e
  moves_method_name s defines w m r (g.MethodName.operator e) = at_one_of source method_marks w e
  moves_method_name s defines w m r (g.MethodName.index e h t f) = least (at_mark source (codes "[") w e ▷ at_mark source (codes "]") _ h) (omega arith)
  moves_method_name s defines w m r (g.MethodName.index_setter e h t f u) = least (at_mark source (codes "[") w e ▷ at_mark source (codes "]") _ h ▷ at_mark source (codes "=") _ f) (omega arith)

  pub moves_block_params : Moving b 1 (BlockParams source)
  moves_block_params w s t r z (g.BlockParams.last e) = least (at_kind e ▷ declares _ s) (omega arith)
  moves_block_params w s t r z (g.BlockParams.another e c h) = least (at_kind e ▷ at_mark source (codes ",") _ c ▷ declares _ s ▷ moves_block_params _ _ _ _ _ h) (omega arith)
  moves_block_params w s t r z (g.BlockParams.rest e h) = least (at_mark source (codes "*") w e ▷ at_kind h ▷ declares _ s) (omega arith)

  pub moves_bars : Moving b 0 (Bars source)
  moves_bars w s t r z (g.Bars.missing e) = stays
  moves_bars w s t r z (g.Bars.empty e h) = least (at_mark source (codes "|") w e ▷ at_mark source (codes "|") _ h) (omega arith)
  moves_bars w s t r z (g.Bars.given e h c) = least (at_mark source (codes "|") w e ▷ moves_block_params _ _ _ _ _ h ▷ at_mark source (codes "|") _ c) (omega arith)

  pub moves_exception_name : Moving b 0 (ExceptionName source)
  moves_exception_name w s t r z (g.ExceptionName.missing e) = stays
  moves_exception_name w s t r z (g.ExceptionName.given e h) = least (at_mark source (codes "=>") w e ▷ at_kind h ▷ declares _ s) (omega arith)

  pub moves_more_targets : Moving b 1 (MoreTargets source)
  moves_more_targets w s t r z (g.MoreTargets.last {g = x} e) = least (at_goal source w _ e ▷ sets_goal x s) (omega arith)
  moves_more_targets w s t r z (g.MoreTargets.another {g = x} e c h) = least (at_goal source w _ e ▷ at_mark source (codes ",") _ c ▷ sets_goal x s ▷ moves_more_targets _ _ _ _ _ h) (omega arith)

  pub moves_targets : Moving b 1 (Targets source)
  moves_targets w s t r z (g.Targets.several {g = x} e c h) = least (at_goal source w _ e ▷ at_mark source (codes ",") _ c ▷ sets_goal x s ▷ moves_more_targets _ _ _ _ _ h) (omega arith)

  module _ (R : Rels) (M : Movers b R) where
    pub moves_several : (d : DoBlockOwner) → Moving b 1 (Several source R d)
    moves_several d w s t r z (g.Several.last h e) = M.arg d _ _ _ _ _ h
    moves_several d w s t r z (g.Several.another h e hs) = least (M.arg d _ _ _ _ _ h ▷ at_mark source (codes ",") _ e ▷ moves_several d _ _ _ _ _ hs) (omega arith)

    pub moves_element : (d : DoBlockOwner) (k : Bool) → Moving b 1 (Element source R d k)
    moves_element d k w s t r z (g.Element.plain h) = M.arg d _ _ _ _ _ h
    moves_element d k w s t r z (g.Element.spread e h) = least (at_mark source (codes "*") w e ▷ M.arg d _ _ _ _ _ h) (omega arith)

    pub moves_elements : (d : DoBlockOwner) (k : ℕ) (w : Toks) (s : Scope) (ts : Trees) (ks : List ℕ) (r : Toks) (z : Scope) → Elements source R d k w s ts ks r z → Moves b 1 w s r z
    moves_elements d k w s ts ks r z (g.Elements.last h) = moves_element d _ _ _ _ _ _ h
    moves_elements d k w s ts ks r z (g.Elements.another h e hs) = least (moves_element d _ _ _ _ _ _ h ▷ at_mark source (codes ",") _ e ▷ moves_elements d _ _ _ _ _ _ _ hs) (omega arith)

    pub moves_pair : (d : DoBlockOwner) (w : Toks) (s : Scope) (k v : Tree) (r : Toks) (z : Scope) → Pair source R d w s k v r z → Moves b 1 w s r z
    moves_pair d w s k v r z (g.Pair.label e t h) = least (at_kind e ▷ M.arg d _ _ _ _ _ h) (omega arith)
    moves_pair d w s k v r z (g.Pair.arrow h e i) = least (M.arg d _ _ _ _ _ h ▷ at_mark source (codes "=>") _ e ▷ M.arg d _ _ _ _ _ i) (omega arith)

    pub moves_pair_list : (d : DoBlockOwner) → Moving b 1 (PairList source R d)
    moves_pair_list d w s t r z (g.PairList.last h) = moves_pair d _ _ _ _ _ _ h
    moves_pair_list d w s t r z (g.PairList.another h e hs) = least (moves_pair d _ _ _ _ _ _ h ▷ at_mark source (codes ",") _ e ▷ moves_pair_list d _ _ _ _ _ hs) (omega arith)

    pub moves_passed : (d : DoBlockOwner) (w : Toks) (s : Scope) (v c : Other) (r : Toks) (z : Scope) → Passed source R d w s v c r z → Moves b 1 w s r z
    moves_passed d w s v c r z (g.Passed.value e h i) = least (at_mark source (codes "&") w e ▷ M.arg d _ _ _ _ _ h) (omega arith)
    moves_passed d w s v c r z (g.Passed.named e h i) = least (at_mark source (codes "&") w e ▷ M.arg d _ _ _ _ _ h) (omega arith)

    pub moves_items : (d : DoBlockOwner) (k : ℕ) → Moving b 1 (Items source R d k)
    moves_items d k w s t r z (g.Items.element h n) = moves_element d _ _ _ _ _ _ h
    moves_items d k w s t r z (g.Items.another h e hs) = least (moves_element d _ _ _ _ _ _ h ▷ at_mark source (codes ",") _ e ▷ moves_items d _ _ _ _ _ _ hs) (omega arith)
    moves_items d k w s t r z (g.Items.pairs h) = moves_pair_list d _ _ _ _ _ h
    moves_items d k w s t r z (g.Items.pairs_and_passed h e i) = least (moves_pair_list d _ _ _ _ _ h ▷ at_mark source (codes ",") _ e ▷ moves_passed d _ _ _ _ _ _ i) (omega arith)
    moves_items d k w s t r z (g.Items.passed h) = moves_passed d _ _ _ _ _ _ h

    pub moves_in_brackets : Moving b 1 (InBrackets source R)
    moves_in_brackets w s t r z (g.InBrackets.empty e h) = least (at_mark source (codes "(") w e ▷ at_mark source (codes ")") _ h) (omega arith)
    moves_in_brackets w s t r z (g.InBrackets.full e h t1 c) = least (at_mark source (codes "(") w e ▷ moves_items own _ _ _ _ _ _ h ▷ moves_trailing _ _ _ t1 ▷ at_mark source (codes ")") _ c) (omega arith)

    pub moves_command_items : (d : DoBlockOwner) → Moving b 1 (CommandItems source R d)
    moves_command_items d w s t r z (g.CommandItems.items h e) = moves_items (in_arguments d) _ _ _ _ _ _ h

    pub moves_classes : (d : DoBlockOwner) → Moving b 0 (Classes source R d)
    moves_classes d w s t r z (g.Classes.missing e) = stays
    moves_classes d w s t r z (g.Classes.given h) = least (moves_several d _ _ _ _ _ h) (omega arith)

    pub moves_on_self : (s : Scope) (w : Toks) (k : Bool) (r : Toks) → OnSelf source R w k r → Moves b 0 w s r s
    moves_on_self s w k r (g.OnSelf.on_self e h) = least (at_word source (codes "self") w e ▷ at_mark source (codes ".") _ h) (omega arith)
    moves_on_self s w k r (g.OnSelf.plain e) = stays
