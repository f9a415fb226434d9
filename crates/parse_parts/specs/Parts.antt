-- Parts of what the reader on lists takes, each as a function of the parser reads it.
use Rattle.std.specs.Prelude.{◌≡◌, ℕ, suc, nat_le, nat_eq, ◌&&◌, codes, if◌then◌else◌}
use Rattle.ruby_lexer.specs.Bytes.{Bytes}
use Rattle.ruby_lexer.specs.Pieces.{Toks, Parts}
use Rattle.ruby_tree.specs.Names.{Texts}
use Rattle.ruby_tree.specs.Tree.{SourcePosition, Tree, at, if_else, rescue, ensure, rescue_sequence, ensure_sequence, Other, with, Pieces, Whens, no_when, when, Rescues, no_clause, clause, Params, no_param, required, optional, rest_param, block_param}
use Rattle.ruby_tree.specs.Rules.{declare, in_clause, outside_clause, behind, next, position, DoBlockOwner, own, word, is_mark, is_word}
use Rattle.ruby_tree.specs.Build.{Given}
use Rattle.ruby_tree.specs.FaultLine.{count_of}
use Rattle.tree_builder.specs.Subtrees.{HoldsParams, rescues_then, whens_then, params_then}
use Rattle.reference_parser.specs.Answers.{Answer, taken, fault, Parse, ◌>>=◌, ◌>>>◌}
use Rattle.reference_parser.specs.Fronts.{is_empty, is_name, then_at}
use Rattle.reference_parser.specs.ReadItems.{Readers, exception_name, read_several, read_classes}
use Rattle.parse_parts.specs.declared.params.ParamRow.{ParamRow}
use Rattle.reference_parser.specs.ReadBodies.{Called, clauses, read_else, call_block, text_parts}

-- Parameters that were read, and the kind from which on others may follow: 0 required ones, 1 those with a default, 2 the rest, 3 the block,
-- and 4 none.
pub record Row : Type 0 where
  pub params : Params
  pub least : ℕ

pub record HoldsRow (T : Texts) (x : ParamRow) (t : Row) : Type 0 where
  pub params : HoldsParams T x.params t.params
  pub least : x.least ≡ t.least

-- a block, as what a call is given
abbrev pub as_given : Answer Tree → Answer Other
as_given a = a >>= λ b r z. taken (with b) r z

-- Each turn of a loop reads one part, joins it to those that were gathered, and is told how the further turns go on.
module _ (source : Bytes) where
  -- behind the parameters ps
  abbrev pub row_from : Params → ℕ → (Row → Parse Row) → Parse Row
  row_from ps l further w s =
      if is_mark source (codes ",") w then further (record { params = ps; least = l }) (next w) s
      else taken (record { params = ps; least = 4 }) w s

  abbrev pub required_turn : Params → (Row → Parse Row) → Parse Row
  required_turn ps further w s = row_from (params_then ps (required (word source w) no_param)) 0 further (next w) (declare (word source w) s)

  abbrev pub left_turn : Params → (Row → Parse Row) → Parse Row
  left_turn ps further w s =
      row_from (params_then ps (rest_param (word source (next w)) no_param)) 3 further (next (next w)) (declare (word source (next w)) s)

  abbrev pub block_turn : Params → Parse Row
  block_turn ps w s =
      taken (record { params = params_then ps (block_param (word source (next w)) no_param); least = 4 }) (next (next w)) (declare (word source (next w)) s)

  module _ (Q : Readers) where
    -- the rescue clauses behind t, and what stands behind `else`
    abbrev pub rescued_from : DoBlockOwner → SourcePosition → Tree → Parse Tree
    rescued_from d o t q y =
        clauses source Q (suc (count_of q)) d q y >>= λ rs p x. read_else source Q d p x >>= λ e r z. taken (at o (rescue t e (at (position q) (rescue_sequence rs)))) r z

    -- what is ensured behind t
    abbrev pub ensured_from : DoBlockOwner → SourcePosition → Tree → Parse Tree
    ensured_from d o t q y =
        Q.stmts d (next q) (outside_clause y) >>= λ e r z. taken (at o (ensure t (at (position q) (ensure_sequence e)))) r (behind y z)

    -- `elsif` with all behind it
    abbrev pub elsif_from : DoBlockOwner → Parse Other
    elsif_from d w s =
        Q.expr d (next w) s >>= λ c q y. then_at source q >>> λ _ v. Q.stmts d v y >>= λ t p x. Q.else_branches d p x >>= λ e r z. taken (with (at (position w) (if_else c t e))) r z

    -- a call with what it was given, and the block that stands behind that
    abbrev pub called_with : DoBlockOwner → Given → Parse Called
    called_with d g q y = call_block source Q d g q y >>= λ b r z. taken (record { given = g; block = b }) r z

    -- statements that are all of these tokens, and not those behind the literal
    abbrev pub code_in : Toks → Parse Tree
    code_in ts w s = Q.stmts own ts s >>= λ t r y. if is_empty r then taken t w y else fault

    -- the parts of a literal, which stands before w
    abbrev pub text_from : Parts → Parse Pieces
    text_from ps w s = text_parts source Q ps s >>= λ qs r z. taken qs w z

    -- a rescue clause, behind its word
    abbrev pub clause_turn : DoBlockOwner → Rescues → (Rescues → Parse Rescues) → Parse Rescues
    clause_turn d cs further w s =
        read_classes source Q d w (in_clause s) >>= λ ts p y. exception_name source p y >>= λ x q u. then_at source q >>> λ _ v. Q.stmts d v u >>= λ t r z.
        if is_word source (codes "rescue") r then further (rescues_then cs (clause ts x t no_clause)) (next r) (behind s z)
        else taken (rescues_then cs (clause ts x t no_clause)) r (behind s z)

    -- a part of a `case`, behind its word
    abbrev pub when_turn : DoBlockOwner → Whens → (Whens → Parse Whens) → Parse Whens
    when_turn d ws further w s =
        read_several source Q d w s >>= λ ts q y. then_at source q >>> λ _ v. Q.stmts d v y >>= λ t p x.
        if is_word source (codes "when") p then further (whens_then ws (when ts t no_when)) (next p) x
        else taken (whens_then ws (when ts t no_when)) p x

    abbrev pub default_turn : DoBlockOwner → Params → (Row → Parse Row) → Parse Row
    default_turn d ps further w s =
        Q.arg d (next (next w)) (declare (word source w) s) >>= λ a q y. row_from (params_then ps (optional (word source w) a no_param)) 1 further q y

    abbrev pub named_turn : DoBlockOwner → Row → (Row → Parse Row) → Parse Row
    named_turn d t further w s =
        if is_mark source (codes "=") (next w) then (if nat_le t.least 1 then default_turn d t.params further w s else fault)
        else if nat_eq t.least 0 then required_turn t.params further w s
        else fault

    abbrev pub param_turn : DoBlockOwner → Row → (Row → Parse Row) → Parse Row
    param_turn d t further w s =
        if is_name w then named_turn d t further w s
        else if is_mark source (codes "*") w && (is_name (next w) && nat_le t.least 2) then left_turn t.params further w s
        else if is_mark source (codes "&") w && is_name (next w) then block_turn t.params w s
        else fault
