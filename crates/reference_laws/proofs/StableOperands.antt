-- More depth changes nothing but what goes too deep: operands.
use Rattle.std.proofs.Common.{suc, Bool, ◌&&◌, ◌||◌, codes, Option, Some, None}
use Rattle.ruby_lexer.specs.Bytes.{Bytes}
use Rattle.ruby_lexer.specs.Forms.{text_of}
use Rattle.ruby_lexer.specs.Pieces.{Toks, Parts, Kind}
use Rattle.ruby_lexer.specs.Pieces as token
use Rattle.ruby_tree.specs.Tree.{Form, Other, Whens, case_of, case_tests}
use Rattle.ruby_tree.specs.Rules.{Scope, fresh, next, front, position, DoBlockOwner, own, loops, within, word, is_mark, is_word, opens, opens_block, begins_arguments, is_command, is_negative}
use Rattle.ruby_tree.specs.Build.{nothing}
use Rattle.ruby_tree.specs.FaultLine.{count_of}
use Rattle.reference_parser.specs.Fronts.{is_newline, is_constant, skip_newlines, then_at, loop_start_at, method_name_at, on_self_at}
use Rattle.reference_parser.specs.ReadItems.{Readers}
use Rattle.reference_parser.specs.ReadOperands.{called_name, read_name, read_constant, read_yield, read_super, read_choice, read_loop, read_begin, read_whens, read_case, read_method, read_class, read_module, block_form_at, read_form, read_word, read_list, read_hash, read_group, negative_by, read_mark, literal_by, primary_by, read_primary}
use Rattle.reference_laws.proofs.StableTools.{Agree, Stable, Stables, same, stable_then, stable_found, stable_if}
use Rattle.reference_laws.proofs.StableItems.{stable_elements, stable_pair_list, stable_in_brackets}
use Rattle.reference_laws.proofs.StableBodies.{stable_else, stable_body, stable_ended, stable_block, stable_call_block, stable_parts, stable_when_list, stable_parameters, stable_superclass}

module _ (source : Bytes) (Q P : Readers) (S : Stables Q P) where
  stable_called : (d : DoBlockOwner) → Stable (called_name source Q d) (called_name source P d)
  unfolding called_name
  stable_called d w s = stable_then (stable_in_brackets source Q P S (next w) s) (λ g q y. stable_then (stable_call_block source Q P S d g q y) (λ b r z. same))

  stable_name : (d : DoBlockOwner) → Stable (read_name source Q d) (read_name source P d)
  unfolding read_name
  stable_name d w s =
      stable_if (opens source (next w)) (stable_called d w s)
      (stable_if (is_command source s (word source w) (next w)) same
      (stable_if (opens_block source d (next w)) (stable_then (stable_block source Q P S (next w) s) (λ b r z. same)) same))

  stable_constant : (d : DoBlockOwner) → Stable (read_constant source Q d) (read_constant source P d)
  unfolding read_constant
  stable_constant d w s = stable_if (opens source (next w)) (stable_called d w s) same

  stable_yield : Stable (read_yield source Q) (read_yield source P)
  unfolding read_yield
  stable_yield w s = stable_if (opens source (next w)) (stable_then (stable_in_brackets source Q P S (next w) s) (λ g r z. same)) same

  stable_super : (d : DoBlockOwner) → Stable (read_super source Q d) (read_super source P d)
  unfolding read_super
  stable_super d w s =
      stable_if (opens source (next w))
      (stable_then (stable_in_brackets source Q P S (next w) s) (λ g q y. stable_then (stable_call_block source Q P S d g q y) (λ b r z. same)))
      (stable_if (begins_arguments source (next w)) same (stable_then (stable_call_block source Q P S d nothing (next w) s) (λ b r z. same)))

  stable_choice : (b : Bool) (d : DoBlockOwner) → Stable (read_choice source Q b d) (read_choice source P b d)
  unfolding read_choice
  stable_choice b d w s =
      stable_then (S.expr (within d) (next w) s) (λ c q y. stable_found (then_at source q) (λ _ v. stable_then (S.stmts (within d) v y) (λ t p x. stable_then (S.else_branches (within d) p x) (λ e r z.
      stable_ended source Q P S _ r z))))

  stable_loop : (b : Bool) (d : DoBlockOwner) → Stable (read_loop source Q b d) (read_loop source P b d)
  unfolding read_loop
  stable_loop b d w s =
      stable_then (S.expr loops (next w) s) (λ c q y. stable_found (loop_start_at source q) (λ _ v. stable_then (S.stmts (within d) v y) (λ t r z. stable_ended source Q P S _ r z)))

  stable_begin : (d : DoBlockOwner) → Stable (read_begin source Q d) (read_begin source P d)
  unfolding read_begin
  stable_begin d w s = stable_then (stable_body source Q P S (within d) (position w) (next w) s) (λ t r z. stable_ended source Q P S t r z)

  stable_whens : (make : Whens → Other → Form) (d : DoBlockOwner) (w : Toks) → Stable (read_whens source Q make d w) (read_whens source P make d w)
  unfolding read_whens
  stable_whens make d w v s =
      stable_if (is_word source (codes "when") v)
      (stable_then (stable_when_list source Q P S (suc (count_of v)) (within d) v s) (λ ws p x. stable_then (stable_else source Q P S (within d) p x) (λ e r z. stable_ended source Q P S _ r z)))
      same

  stable_case : (d : DoBlockOwner) → Stable (read_case source Q d) (read_case source P d)
  unfolding read_case
  stable_case d w s =
      stable_if (is_newline (next w) || is_word source (codes "when") (next w)) (stable_whens case_tests d w (skip_newlines source (next w)) s)
      (stable_then (S.expr (within d) (next w) s) (λ a q y. stable_whens (case_of a) d w (skip_newlines source q) y))

  stable_method : (d : DoBlockOwner) → Stable (read_method source Q d) (read_method source P d)
  unfolding read_method
  stable_method d w s =
      stable_found (on_self_at source (next w)) (λ b q. stable_found (method_name_at source _ q) (λ m v. stable_then (stable_parameters source Q P S (within d) v fresh) (λ ps u y.
      stable_then (stable_body source Q P S (within d) (position u) u y) (λ t r z. stable_ended source Q P S _ r s))))

  stable_class : (d : DoBlockOwner) → Stable (read_class source Q d) (read_class source P d)
  unfolding read_class
  stable_class d w s =
      stable_if (is_constant (next w))
      (stable_then (stable_superclass source Q P S (within d) (next (next w)) s) (λ c q y. stable_if (is_newline q)
      (stable_then (stable_body source Q P S (within d) (position (next q)) (next q) fresh) (λ t r z. stable_ended source Q P S _ r y)) same))
      same

  stable_module : (d : DoBlockOwner) → Stable (read_module source Q d) (read_module source P d)
  unfolding read_module
  stable_module d w s =
      stable_if (is_constant (next w) && is_newline (next (next w)))
      (stable_then (stable_body source Q P S (within d) (position (next (next (next w)))) (next (next (next w))) fresh) (λ t r z. stable_ended source Q P S _ r s)) same

  stable_block_form : (d : DoBlockOwner) → Stable (block_form_at source Q d) (block_form_at source P d)
  unfolding block_form_at
  stable_block_form d w s =
      stable_if (is_word source (codes "begin") w) (stable_begin d w s)
      (stable_if (is_word source (codes "case") w) (stable_case d w s)
      (stable_if (is_word source (codes "def") w) (stable_method d w s)
      (stable_if (is_word source (codes "class") w) (stable_class d w s)
      (stable_if (is_word source (codes "module") w) (stable_module d w s) same))))

  stable_form : (d : DoBlockOwner) → Stable (read_form source Q d) (read_form source P d)
  unfolding read_form
  stable_form d w s =
      stable_if (is_word source (codes "yield") w) (stable_yield w s)
      (stable_if (is_word source (codes "super") w) (stable_super d w s)
      (stable_if (is_word source (codes "if") w) (stable_choice _ d w s)
      (stable_if (is_word source (codes "unless") w) (stable_choice _ d w s)
      (stable_if (is_word source (codes "while") w) (stable_loop _ d w s)
      (stable_if (is_word source (codes "until") w) (stable_loop _ d w s) (stable_block_form d w s))))))

  stable_word : (d : DoBlockOwner) → Stable (read_word source Q d) (read_word source P d)
  unfolding read_word
  stable_word d w s =
      stable_if (is_word source (codes "nil") w) same
      (stable_if (is_word source (codes "true") w) same
      (stable_if (is_word source (codes "false") w) same
      (stable_if (is_word source (codes "self") w) same
      (stable_if (is_word source (codes "__FILE__") w) same
      (stable_if (is_word source (codes "__dir__") w) same
      (stable_if (is_word source (codes "__LINE__") w) same
      (stable_if (is_word source (codes "retry") w) same (stable_form d w s))))))))

  stable_list : Stable (read_list source Q) (read_list source P)
  unfolding read_list
  stable_list w s = stable_if (is_mark source (codes "]") (next w)) same (stable_then (stable_elements source Q P S (suc (count_of w)) 0 (next w) s) (λ g q z. same))

  stable_hash : Stable (read_hash source Q) (read_hash source P)
  unfolding read_hash
  stable_hash w s = stable_if (is_mark source (codes "}") (next w)) same (stable_then (stable_pair_list source Q P S (suc (count_of w)) own (next w) s) (λ ps q z. same))

  stable_group : Stable (read_group source Q) (read_group source P)
  unfolding read_group
  stable_group w s = stable_then (S.stmts own (next w) s) (λ t r z. same)

  stable_negative : (w : Toks) (s : Scope) (k : Option Kind) → Agree (negative_by source Q w s k) (negative_by source P w s k)
  unfolding negative_by
  stable_negative w s (Some (token.integer n)) = same
  stable_negative w s _ = same

  stable_mark : (d : DoBlockOwner) → Stable (read_mark source Q d) (read_mark source P d)
  unfolding read_mark
  stable_mark d w s =
      stable_if (is_mark source (codes "[") w) (stable_list w s)
      (stable_if (is_mark source (codes "{") w) (stable_hash w s)
      (stable_if (is_mark source (codes "(") w) (stable_group w s)
      (stable_if (is_mark source (codes "::") w) same
      (stable_if (is_negative source w) (stable_negative w s (front (next w))) same))))

  stable_literal : (w : Toks) (s : Scope) (ps : Parts) (o : Option Bytes) → Agree (literal_by source Q w s ps o) (literal_by source P w s ps o)
  unfolding literal_by
  stable_literal w s ps (Some f) = same
  stable_literal w s ps None = stable_then (stable_parts source Q P S ps s) (λ qs r z. same)

  primary_of : (d : DoBlockOwner) (w : Toks) (s : Scope) (k : Option Kind) → Agree (primary_by source Q d w s k) (primary_by source P d w s k)
  unfolding primary_by
  primary_of d w s (Some token.name) = stable_name d w s
  primary_of d w s (Some token.constant) = stable_constant d w s
  primary_of d w s (Some token.keyword) = stable_word d w s
  primary_of d w s (Some token.mark) = stable_mark d w s
  primary_of d w s (Some (token.literal ps)) = stable_literal w s ps (text_of ps)
  primary_of d w s _ = same

  pub stable_primary : (d : DoBlockOwner) → Stable (read_primary source Q d) (read_primary source P d)
  unfolding read_primary
  stable_primary d w s = primary_of d w s (front w)
