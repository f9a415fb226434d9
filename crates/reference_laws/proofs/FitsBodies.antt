-- Symbols nest no deeper than trees: bodies, blocks, what a call is given, parameters, and the parts of texts.
use Rattle.std.proofs.Common.{ℕ, ◌<◌, ◌≤◌, arith}
use Rattle.ruby_lexer.specs.Bytes.{Bytes}
use Rattle.ruby_lexer.specs.Pieces.{Toks, Parts}
use Rattle.ruby_tree.specs.Tree.{SourcePosition, Tree, Other, Pieces, Whens, Rescues, Params}
use Rattle.ruby_tree.specs.Rules.{Scope, DoBlockOwner}
use Rattle.ruby_tree.specs.Build.{Given}
use Rattle.ruby_tree.specs.Depth.{depth, other_depth, pieces_depth, whens_depth, rescues_depth, params_depth}
use Rattle.ruby_tree.specs.Grammar.{Rels}
use Rattle.ruby_tree.specs.Grammar as g
use Rattle.reference_laws.proofs.FitsTools.{Fit, no_block, called_depth}
use Rattle.reference_laws.proofs.FitsItems.{fits-several, fits-in_brackets, fits-classes}

-- The block of a call is no less deep than one for a symbol.
module _ (source : Bytes) (R : Rels) where
  pub call_block_depth : {d : DoBlockOwner} {w r : Toks} {s z : Scope} {t : Given} {b : Other} → g.CallBlock source R d t w s b r z → other_depth t.block ≤ other_depth b
  call_block_depth (g.CallBlock.missing e) = omega arith
  call_block_depth {t = t} (g.CallBlock.given e h) = omega (arith, (no_block t e).1)

  pub command_block_depth : {d : DoBlockOwner} {w r : Toks} {s z : Scope} {t : Given} {b : Other} → g.CommandBlock source R d t w s b r z → other_depth t.block ≤ other_depth b
  command_block_depth (g.CommandBlock.missing e) = omega arith
  command_block_depth {t = t} (g.CommandBlock.given e c h) = omega (arith, (no_block t e).1)

module _ (source : Bytes) (k : ℕ) (R T : Rels) (F : Fit k R T) where
  fits-clauses : {d : DoBlockOwner} {w r : Toks} {s z : Scope} {rs : Rescues} → g.Clauses source R d w s rs r z → rescues_depth rs < k → g.Clauses source T d w s rs r z
  fits-clauses (g.Clauses.last e c x t h l) le = g.Clauses.last e (fits-classes source k R T F c (omega arith)) x t (F.stmts h (omega arith)) l
  fits-clauses (g.Clauses.another e c x t h i) le = g.Clauses.another e (fits-classes source k R T F c (omega arith)) x t (F.stmts h (omega arith)) (fits-clauses i (omega arith))

  pub fits-else : {d : DoBlockOwner} {w r : Toks} {s z : Scope} {e : Other} → g.Else source R d w s e r z → other_depth e ≤ k → g.Else source T d w s e r z
  fits-else (g.Else.missing e) le = g.Else.missing e
  fits-else (g.Else.given e h) le = g.Else.given e (F.stmts h le)

  fits-rescued : {d : DoBlockOwner} {o : SourcePosition} {w r : Toks} {s z : Scope} {t : Tree} → g.Rescued source R d o w s t r z → depth t ≤ k → g.Rescued source T d o w s t r z
  fits-rescued (g.Rescued.plain h e) le = g.Rescued.plain (F.stmts h le) e
  fits-rescued (g.Rescued.clauses h c e) le = g.Rescued.clauses (F.stmts h (omega arith)) (fits-clauses c (omega arith)) (fits-else e (omega arith))

  pub fits-body : {d : DoBlockOwner} {o : SourcePosition} {w r : Toks} {s z : Scope} {t : Tree} → g.Body source R d o w s t r z → depth t ≤ k → g.Body source T d o w s t r z
  fits-body (g.Body.plain h e) le = g.Body.plain (fits-rescued h le) e
  fits-body (g.Body.ensured h e i) le = g.Body.ensured (fits-rescued h (omega arith)) e (F.stmts i (omega arith))

  fits-do_block : {w r : Toks} {s z : Scope} {t : Tree} → g.DoBlock source R w s t r z → depth t ≤ k → g.DoBlock source T w s t r z
  fits-do_block (g.DoBlock.block e b h l) le = g.DoBlock.block e b (fits-body h (omega arith)) l

  pub fits-block : {d : DoBlockOwner} {w r : Toks} {s z : Scope} {t : Tree} → g.Block source R d w s t r z → depth t ≤ k → g.Block source T d w s t r z
  fits-block (g.Block.braces e b h c) le = g.Block.braces e b (F.stmts h (omega arith)) c
  fits-block (g.Block.with_do c h) le = g.Block.with_do c (fits-do_block h le)

  pub fits-call_block : {d : DoBlockOwner} {t : Given} {w r : Toks} {s z : Scope} {b : Other} → g.CallBlock source R d t w s b r z → other_depth b ≤ k → g.CallBlock source T d t w s b r z
  fits-call_block (g.CallBlock.missing e) le = g.CallBlock.missing e
  fits-call_block (g.CallBlock.given e h) le = g.CallBlock.given e (fits-block h le)

  pub fits-command_block : {d : DoBlockOwner} {t : Given} {w r : Toks} {s z : Scope} {b : Other} → g.CommandBlock source R d t w s b r z → other_depth b ≤ k → g.CommandBlock source T d t w s b r z
  fits-command_block (g.CommandBlock.missing e) le = g.CommandBlock.missing e
  fits-command_block (g.CommandBlock.given e c h) le = g.CommandBlock.given e c (fits-do_block h le)

  pub fits-call_items : {d : DoBlockOwner} {w r : Toks} {s z : Scope} {t : Given} {b : Other} → g.CallItems source R d w s t b r z → called_depth t b < k → g.CallItems source T d w s t b r z
  fits-call_items (g.CallItems.bare o h) le = g.CallItems.bare o (fits-call_block h (omega arith))
  fits-call_items (g.CallItems.brackets o h i) le = g.CallItems.brackets o (fits-in_brackets source k R T F h (omega (arith, call_block_depth source R i))) (fits-call_block i (omega arith))

  pub fits-text_parts : {ps : Parts} {s z : Scope} {qs : Pieces} → g.TextParts source R ps s qs z → pieces_depth qs < k → g.TextParts source T ps s qs z
  fits-text_parts g.TextParts.ends le = g.TextParts.ends
  fits-text_parts (g.TextParts.plain h) le = g.TextParts.plain (fits-text_parts h le)
  fits-text_parts (g.TextParts.code h i) le = g.TextParts.code (F.stmts h (omega arith)) (fits-text_parts i (omega arith))

  pub fits-else_branches : {d : DoBlockOwner} {w r : Toks} {s z : Scope} {e : Other} → g.ElseBranches source R d w s e r z → other_depth e ≤ k → g.ElseBranches source T d w s e r z
  fits-else_branches (g.ElseBranches.elsif e c t h i) le = g.ElseBranches.elsif e (F.expr c (omega arith)) t (F.stmts h (omega arith)) (F.else_branches i (omega arith))
  fits-else_branches (g.ElseBranches.other e h) le = g.ElseBranches.other e (fits-else h le)

  pub fits-when_list : {d : DoBlockOwner} {w r : Toks} {s z : Scope} {ws : Whens} → g.WhenList source R d w s ws r z → whens_depth ws < k → g.WhenList source T d w s ws r z
  fits-when_list (g.WhenList.last e c t h l) le = g.WhenList.last e (fits-several source k R T F c (omega arith)) t (F.stmts h (omega arith)) l
  fits-when_list (g.WhenList.another e c t h i) le = g.WhenList.another e (fits-several source k R T F c (omega arith)) t (F.stmts h (omega arith)) (fits-when_list i (omega arith))

  fits-method_params : {d : DoBlockOwner} {l : ℕ} {w r : Toks} {s z : Scope} {ps : Params} → g.MethodParams source R d l w s ps r z → params_depth ps < k → g.MethodParams source T d l w s ps r z
  fits-method_params (g.MethodParams.named n e) le = g.MethodParams.named n e
  fits-method_params (g.MethodParams.named_more n c i) le = g.MethodParams.named_more n c (fits-method_params i le)
  fits-method_params (g.MethodParams.default l n e h) le = g.MethodParams.default l n e (F.arg h (omega arith))
  fits-method_params (g.MethodParams.default_more l n e h c i) le = g.MethodParams.default_more l n e (F.arg h (omega arith)) c (fits-method_params i (omega arith))
  fits-method_params (g.MethodParams.left l e n) le = g.MethodParams.left l e n
  fits-method_params (g.MethodParams.left_more l e n c i) le = g.MethodParams.left_more l e n c (fits-method_params i le)
  fits-method_params (g.MethodParams.block e n) le = g.MethodParams.block e n

  fits-parameter_list : {d : DoBlockOwner} {w r : Toks} {s z : Scope} {ps : Params} → g.ParameterList source R d w s ps r z → params_depth ps < k → g.ParameterList source T d w s ps r z
  fits-parameter_list (g.ParameterList.empty o c) le = g.ParameterList.empty o c
  fits-parameter_list (g.ParameterList.brackets o h c) le = g.ParameterList.brackets o (fits-method_params h le) c
  fits-parameter_list (g.ParameterList.no_line n) le = g.ParameterList.no_line n
  fits-parameter_list (g.ParameterList.line h n) le = g.ParameterList.line (fits-method_params h le) n

  pub fits-parameters : {d : DoBlockOwner} {w r : Toks} {s z : Scope} {ps : Params} → g.Parameters source R d w s ps r z → params_depth ps < k → g.Parameters source T d w s ps r z
  fits-parameters (g.Parameters.missing e) le = g.Parameters.missing e
  fits-parameters (g.Parameters.given h) le = g.Parameters.given (fits-parameter_list h le)

  pub fits-superclass : {d : DoBlockOwner} {w r : Toks} {s z : Scope} {c : Other} → g.Superclass source R d w s c r z → other_depth c < k → g.Superclass source T d w s c r z
  fits-superclass (g.Superclass.missing e) le = g.Superclass.missing e
  fits-superclass (g.Superclass.given e h) le = g.Superclass.given e (F.arg h le)
