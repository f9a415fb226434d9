-- What is derived takes tokens and keeps the locals: bodies, blocks, what a call is given, and parameters.
use Rattle.std.proofs.Common.{ℕ, Bool, codes, refl, arith}
use Rattle.ruby_lexer.specs.Bytes.{Bytes}
use Rattle.ruby_lexer.specs.Pieces.{Toks, Parts}
use Rattle.ruby_tree.specs.Tree.{SourcePosition, Other, Pieces}
use Rattle.ruby_tree.specs.Rules.{Scope, DoBlockOwner, own}
use Rattle.ruby_tree.specs.Build.{Given}
use Rattle.ruby_tree.specs.Grammar.{Rels, Clauses, Else, Rescued, Body, DoBlock, Block, CallBlock, CommandBlock, CallItems, TextParts, ElseBranches, WhenList, MethodParams, ParameterList, Parameters, Superclass}
use Rattle.ruby_tree.specs.Grammar as g
use Rattle.reference_laws.proofs.Moves.{Moves, ◌▷◌, least, stays, declares, enters, leaves, inside, aside, at_kind, at_mark, at_word, at_line, Moving, Movers}
use Rattle.reference_laws.proofs.ShorterItems.{moves_then, moves_bars, moves_exception_name, moves_several, moves_in_brackets, moves_classes}

module _ (source : Bytes) (b : Bool) (R : Rels) (M : Movers b R) where
  pub moves_clauses : (d : DoBlockOwner) → Moving b 1 (Clauses source R d)
  moves_clauses d w s t r z (g.Clauses.last e c x h i f) =
      least (at_word source (codes "rescue") w e ▷ enters {s = s} refl (moves_classes source b R M d _ _ _ _ _ c) ▷ moves_exception_name source b _ _ _ _ _ x ▷ moves_then source b _ _ _ h ▷ leaves refl (M.stmts d _ _ _ _ _ i)) (omega arith)
  moves_clauses d w s t r z (g.Clauses.another e c x h i f) =
      least (at_word source (codes "rescue") w e ▷ enters {s = s} refl (moves_classes source b R M d _ _ _ _ _ c) ▷ moves_exception_name source b _ _ _ _ _ x ▷ moves_then source b _ _ _ h ▷ leaves refl (M.stmts d _ _ _ _ _ i) ▷ moves_clauses d _ _ _ _ _ f) (omega arith)

  pub moves_else : (d : DoBlockOwner) → Moving b 0 (Else source R d)
  moves_else d w s t r z (g.Else.missing e) = stays
  moves_else d w s t r z (g.Else.given e h) = least (at_word source (codes "else") w e ▷ M.stmts d _ _ _ _ _ h) (omega arith)

  pub moves_rescued : (d : DoBlockOwner) (o : SourcePosition) → Moving b 0 (Rescued source R d o)
  moves_rescued d o w s t r z (g.Rescued.plain h e) = M.stmts d _ _ _ _ _ h
  moves_rescued d o w s t r z (g.Rescued.clauses h c e) = least (M.stmts d _ _ _ _ _ h ▷ moves_clauses d _ _ _ _ _ c ▷ moves_else d _ _ _ _ _ e) (omega arith)

  pub moves_body : (d : DoBlockOwner) (o : SourcePosition) → Moving b 0 (Body source R d o)
  moves_body d o w s t r z (g.Body.plain h e) = moves_rescued d o _ _ _ _ _ h
  moves_body d o w s t r z (g.Body.ensured {y = y} h e i) = least (moves_rescued d o _ _ _ _ _ h ▷ at_word source (codes "ensure") _ e ▷ enters {s = y} refl (leaves refl (M.stmts d _ _ _ _ _ i))) (omega arith)

  pub moves_do_block : Moving b 1 (DoBlock source R)
  moves_do_block w s t r z (g.DoBlock.block e p h c) =
      least (inside s (at_word source (codes "do") w e ▷ enters {s = s} refl (moves_bars source b _ _ _ _ _ p) ▷ moves_body own _ _ _ _ _ _ h ▷ at_word source (codes "end") _ c)) (omega arith)

  pub moves_block : (d : DoBlockOwner) → Moving b 1 (Block source R d)
  moves_block d w s t r z (g.Block.braces e p h c) =
      least (inside s (at_mark source (codes "{") w e ▷ enters {s = s} refl (moves_bars source b _ _ _ _ _ p) ▷ M.stmts own _ _ _ _ _ h ▷ at_mark source (codes "}") _ c)) (omega arith)
  moves_block d w s t r z (g.Block.with_do e h) = moves_do_block _ _ _ _ _ h

  pub moves_call_block : (d : DoBlockOwner) (a : Given) → Moving b 0 (CallBlock source R d a)
  moves_call_block d a w s t r z (g.CallBlock.missing e) = stays
  moves_call_block d a w s t r z (g.CallBlock.given e h) = least (moves_block d _ _ _ _ _ h) (omega arith)

  pub moves_command_block : (d : DoBlockOwner) (a : Given) → Moving b 0 (CommandBlock source R d a)
  moves_command_block d a w s t r z (g.CommandBlock.missing e) = stays
  moves_command_block d a w s t r z (g.CommandBlock.given e i h) = least (moves_do_block _ _ _ _ _ h) (omega arith)

  pub moves_call_items : (d : DoBlockOwner) (w : Toks) (s : Scope) (a : Given) (c : Other) (r : Toks) (z : Scope) → CallItems source R d w s a c r z → Moves b 0 w s r z
  moves_call_items d w s a c r z (g.CallItems.bare e h) = moves_call_block d _ _ _ _ _ _ h
  moves_call_items d w s a c r z (g.CallItems.brackets e h i) = least (moves_in_brackets source b R M _ _ _ _ _ h ▷ moves_call_block d _ _ _ _ _ _ i) (omega arith)

  -- the parts of a text take no tokens of those around them
  pub moves_text_parts : (v : Toks) (ps : Parts) (s : Scope) (qs : Pieces) (z : Scope) → TextParts source R ps s qs z → Moves b 0 v s v z
  moves_text_parts v ps s qs z g.TextParts.ends = stays
  moves_text_parts v ps s qs z (g.TextParts.plain h) = moves_text_parts v _ _ _ _ h
  moves_text_parts v ps s qs z (g.TextParts.code h i) = aside (M.stmts own _ _ _ _ _ h) ▷ moves_text_parts v _ _ _ _ i

  pub moves_elses : (d : DoBlockOwner) → Moving b 0 (ElseBranches source R d)
  moves_elses d w s t r z (g.ElseBranches.elsif e c h i f) = least (at_word source (codes "elsif") w e ▷ M.expr d _ _ _ _ _ c ▷ moves_then source b _ _ _ h ▷ M.stmts d _ _ _ _ _ i ▷ M.else_branches d _ _ _ _ _ f) (omega arith)
  moves_elses d w s t r z (g.ElseBranches.other e h) = moves_else d _ _ _ _ _ h

  pub moves_when_list : (d : DoBlockOwner) → Moving b 1 (WhenList source R d)
  moves_when_list d w s t r z (g.WhenList.last e c h i f) = least (at_word source (codes "when") w e ▷ moves_several source b R M d _ _ _ _ _ c ▷ moves_then source b _ _ _ h ▷ M.stmts d _ _ _ _ _ i) (omega arith)
  moves_when_list d w s t r z (g.WhenList.another e c h i f) =
      least (at_word source (codes "when") w e ▷ moves_several source b R M d _ _ _ _ _ c ▷ moves_then source b _ _ _ h ▷ M.stmts d _ _ _ _ _ i ▷ moves_when_list d _ _ _ _ _ f) (omega arith)

  pub moves_method_params : (d : DoBlockOwner) (l : ℕ) → Moving b 1 (MethodParams source R d l)
  moves_method_params d l w s t r z (g.MethodParams.named e i) = least (at_kind e ▷ declares _ s) (omega arith)
  moves_method_params d l w s t r z (g.MethodParams.named_more e c h) = least (at_kind e ▷ at_mark source (codes ",") _ c ▷ declares _ s ▷ moves_method_params d _ _ _ _ _ _ h) (omega arith)
  moves_method_params d l w s t r z (g.MethodParams.default i e c h) = least (at_kind e ▷ at_mark source (codes "=") _ c ▷ declares _ s ▷ M.arg d _ _ _ _ _ h) (omega arith)
  moves_method_params d l w s t r z (g.MethodParams.default_more i e c h f hs) =
      least (at_kind e ▷ at_mark source (codes "=") _ c ▷ declares _ s ▷ M.arg d _ _ _ _ _ h ▷ at_mark source (codes ",") _ f ▷ moves_method_params d _ _ _ _ _ _ hs) (omega arith)
  moves_method_params d l w s t r z (g.MethodParams.left i e h) = least (at_mark source (codes "*") w e ▷ at_kind h ▷ declares _ s) (omega arith)
  moves_method_params d l w s t r z (g.MethodParams.left_more i e h c hs) = least (at_mark source (codes "*") w e ▷ at_kind h ▷ at_mark source (codes ",") _ c ▷ declares _ s ▷ moves_method_params d _ _ _ _ _ _ hs) (omega arith)
  moves_method_params d l w s t r z (g.MethodParams.block e h) = least (at_mark source (codes "&") w e ▷ at_kind h ▷ declares _ s) (omega arith)

  pub moves_parameter_list : (d : DoBlockOwner) → Moving b 1 (ParameterList source R d)
  moves_parameter_list d w s t r z (g.ParameterList.empty e h) = least (at_mark source (codes "(") w e ▷ at_mark source (codes ")") _ h) (omega arith)
  moves_parameter_list d w s t r z (g.ParameterList.brackets e h c) = least (at_mark source (codes "(") w e ▷ moves_method_params own _ _ _ _ _ _ h ▷ at_mark source (codes ")") _ c) (omega arith)
  moves_parameter_list d w s t r z (g.ParameterList.no_line e) = at_line source w e
  moves_parameter_list d w s t r z (g.ParameterList.line h c) = least (moves_method_params d _ _ _ _ _ _ h ▷ at_line source _ c) (omega arith)

  pub moves_parameters : (d : DoBlockOwner) → Moving b 0 (Parameters source R d)
  moves_parameters d w s t r z (g.Parameters.missing e) = stays
  moves_parameters d w s t r z (g.Parameters.given h) = least (moves_parameter_list d _ _ _ _ _ h) (omega arith)

  pub moves_superclass : (d : DoBlockOwner) → Moving b 0 (Superclass source R d)
  moves_superclass d w s t r z (g.Superclass.missing e) = stays
  moves_superclass d w s t r z (g.Superclass.given e h) = least (at_mark source (codes "<") w e ▷ M.arg d _ _ _ _ _ h) (omega arith)
