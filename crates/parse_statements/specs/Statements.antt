-- Parts of what the reader on lists takes, each as a function of the parser reads it: what joins tests, modifiers, and statements one by one.
use Rattle.std.specs.Prelude.{Bool, true, false, codes, Option, Some, None, if◌then◌else◌}
use Rattle.ruby_lexer.specs.Bytes.{Bytes}
use Rattle.ruby_lexer.specs.Pieces.{Toks}
use Rattle.ruby_tree.specs.Tree.{Tree, at, assign_all, if_else, while_loop, Trees, trees_then, without, with}
use Rattle.ruby_tree.specs.Rules.{in_clause, behind, next, position, DoBlockOwner, loops, is_mark, is_word, begins_statement}
use Rattle.ruby_tree.specs.Build.{one, alone, or_empty, rescued, conjunction, disjunction}
use Rattle.reference_parser.specs.Answers.{taken, fault, Parse, ◌>>=◌}
use Rattle.reference_parser.specs.Fronts.{is_newline}
use Rattle.reference_parser.specs.ReadItems.{Readers, read_several, read_targets}
use Rattle.reference_parser.specs.ReadStatements.{read_stmt}
use Rattle.parse_statements.specs.declared.logic.LogicalOperator.{LogicalOperator}
use Rattle.parse_statements.specs.declared.logic.LogicalOperator.TheVariants as joining
use Rattle.parse_statements.specs.declared.modifiers.Modifier.{Modifier}
use Rattle.parse_statements.specs.declared.modifiers.Modifier.TheVariants as modifier

-- two tests that are joined: the first begins at w, the word stands at v
abbrev pub joined_by : LogicalOperator → Toks → Toks → Tree → Tree → Tree
joined_by joining.And = conjunction
joined_by joining.Or = disjunction

-- what is made of a statement that begins at o: the word of the modifier stands at w, and c is behind it
abbrev pub modified_by : Modifier → Toks → Toks → Bool → Tree → Tree → Tree
modified_by modifier.If = λ o w b a c. at (position o) (if_else c (alone o a) without)
modified_by modifier.Unless = λ o w b a c. at (position o) (if_else c (or_empty without) (with (alone o a)))
modified_by modifier.While = λ o w b a c. at (position o) (while_loop (alone o a) c false b)
modified_by modifier.Until = λ o w b a c. at (position o) (while_loop (alone o a) c true b)
modified_by modifier.Rescue = λ o w b a c. rescued o w a c

module _ (Q : Readers) where
  -- the word that stands here and the test behind it, behind the tests a, which begin at o
  abbrev pub one_joining : LogicalOperator → DoBlockOwner → Toks → Tree → Parse Tree
  one_joining j d o a w s = Q.test d (next w) s >>= λ b r z. taken (joined_by j o w a b) r z

  -- what stands behind `rescue`, in a clause
  abbrev pub read_saved : DoBlockOwner → Parse Tree
  read_saved d w s = Q.expr d w (in_clause s) >>= λ c r z. taken c r (behind s z)

  -- what stands behind the word of a modifier
  abbrev pub condition_of : Modifier → DoBlockOwner → Parse Tree
  condition_of modifier.If d = Q.expr d
  condition_of modifier.Unless d = Q.expr d
  condition_of modifier.While d = Q.expr loops
  condition_of modifier.Until d = Q.expr loops
  condition_of modifier.Rescue d = read_saved d

  -- the modifier that stands here, behind the statement a, which begins at o; the flag says whether it is a body
  abbrev pub one_modifier : Modifier → DoBlockOwner → Toks → Bool → Tree → Parse Tree
  one_modifier k d o b a w s = condition_of k d (next w) s >>= λ c r z. taken (modified_by k o w b a c) r z

module _ (source : Bytes) where
  -- what joins a test that stands behind it
  abbrev pub joining_at : Toks → Option LogicalOperator
  joining_at w =
      if is_word source (codes "and") w then Some joining.And
      else if is_word source (codes "or") w then Some joining.Or
      else None

  -- the modifier that stands here
  abbrev pub modifier_at : Toks → Option Modifier
  modifier_at w =
      if is_word source (codes "if") w then Some modifier.If
      else if is_word source (codes "unless") w then Some modifier.Unless
      else if is_word source (codes "while") w then Some modifier.While
      else if is_word source (codes "until") w then Some modifier.Until
      else if is_word source (codes "rescue") w then Some modifier.Rescue
      else None

  module _ (Q : Readers) where
    -- two and more variables that are set at once
    abbrev pub read_set_all : DoBlockOwner → Parse Tree
    read_set_all d w s = read_targets source w s >>= λ gs q y.
        if is_mark source (codes "=") q then (read_several source Q d (next q) y >>= λ vs r z. taken (at (position w) (assign_all vs gs)) r z) else fault

    -- A statement behind those that were gathered. Others follow where a newline stands behind it.
    unfoldable pub gathered_turn : DoBlockOwner → Trees → (Trees → Parse Trees) → Parse Trees
    gathered_turn d ts further w s = read_stmt source Q d w s >>= λ t q y.
        if is_newline q then further (trees_then ts (one t)) (next q) y else taken (trees_then ts (one t)) q y

    -- a newline or a statement, behind those that were gathered
    unfoldable pub statement_turn : DoBlockOwner → Trees → (Trees → Parse Trees) → Parse Trees
    statement_turn d ts further w s =
        if is_newline w then further ts (next w) s
        else if begins_statement source w then gathered_turn d ts further w s
        else taken ts w s
