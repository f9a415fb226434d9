-- What stands at the front of a list of tokens, and the rules that it decides.
use Rattle.std.specs.Prelude.{ℕ, nat_eq, ◌-◌, Bool, true, false, not, ◌&&◌, ◌||◌, List, [], ◌∷◌, length, take, drop, codes, Option, Some, None}
use Rattle.ruby_lexer.specs.Bytes.{Bytes, same, is_in}
use Rattle.ruby_lexer.specs.Pieces.{Kind, integer, name, constant, variable, global, keyword, mark, newline, label, tok, Toks, none, more}
use Rattle.ruby_tree.specs.Tree.{SourcePosition, Goal, to_local, to_instance, to_global}

-- The names that are locals at a place, and whether it stands directly in a rescue clause.
pub record Scope : Type 0 where
  pub locals : List Bytes
  pub clause : Bool

-- where a file, a method, a class or a module begins
abbrev pub fresh : Scope
fresh = record { locals = []; clause = false }

abbrev pub is_local : Scope → Bytes → Bool
is_local s x = is_in x s.locals

abbrev pub declare : Bytes → Scope → Scope
declare x s = record s { locals = x ∷ s.locals }

-- in a rescue clause; and in a block or an ensure clause
abbrev pub in_clause : Scope → Scope
in_clause s = record s { clause = true }

abbrev pub outside_clause : Scope → Scope
outside_clause s = record s { clause = false }

-- behind a clause that stands in s and ends with z: its locals stay
abbrev pub behind : Scope → Scope → Scope
behind s z = record z { clause = s.clause }

abbrev pub next : Toks → Toks
next none = none
next (more t ts) = ts

-- what the first token is
abbrev pub front : Toks → Option Kind
front none = None
front (more (tok k from to line b) ts) = Some k

-- whether a blank stands before it
abbrev pub blank : Toks → Bool
blank none = false
blank (more (tok k from to line b) ts) = b

abbrev pub line_at : Toks → ℕ
line_at none = 0
line_at (more (tok k from to line b) ts) = line

abbrev pub place_at : Toks → ℕ
place_at none = 0
place_at (more (tok k from to line b) ts) = from

-- The first token ends where the next one begins. A newline or a comment that is no token may part two tokens without a blank.
abbrev pub touches_next : Toks → Bool
touches_next (more (tok k from to line b) w) = nat_eq to (place_at w)
touches_next none = false

-- of a node that begins with the first token of w
abbrev pub position : Toks → SourcePosition
position w = record { first = line_at w; line = line_at w; place = place_at w }

-- of a node that begins there, and whose name or operator is the first token of v
abbrev pub position_with : Toks → Toks → SourcePosition
position_with w v = record { first = line_at w; line = line_at v; place = place_at w }

-- of a node that stands for no token
abbrev pub nowhere : SourcePosition
nowhere = record { first = 0; line = 0; place = 0 }

abbrev pub is_kind_mark : Option Kind → Bool
is_kind_mark (Some mark) = true
is_kind_mark _ = false

abbrev pub is_kind_keyword : Option Kind → Bool
is_kind_keyword (Some keyword) = true
is_kind_keyword _ = false

abbrev pub is_kind_name : Option Kind → Bool
is_kind_name (Some name) = true
is_kind_name _ = false

abbrev pub is_kind_newline : Option Kind → Bool
is_kind_newline (Some newline) = true
is_kind_newline _ = false

abbrev pub is_kind_integer : Option Kind → Bool
is_kind_integer (Some (integer z)) = true
is_kind_integer _ = false

-- a literal, a label, a name, a constant or a variable
abbrev pub is_kind_operand : Option Kind → Bool
is_kind_operand None = false
is_kind_operand (Some keyword) = false
is_kind_operand (Some mark) = false
is_kind_operand (Some newline) = false
is_kind_operand _ = true

abbrev pub is_kind_constant : Option Kind → Bool
is_kind_constant (Some constant) = true
is_kind_constant _ = false

-- a label, which begins a pair
abbrev pub is_kind_label : Option Kind → Bool
is_kind_label (Some (label ps)) = true
is_kind_label _ = false

abbrev pub is_goal : Option Goal → Bool
is_goal (Some g) = true
is_goal None = false

-- the marks and words that begin an operand or an operator before one
abbrev pub operand_marks : List Bytes
operand_marks = codes "(" ∷ codes "[" ∷ codes "{" ∷ codes "::" ∷ codes "!" ∷ codes "~" ∷ codes "+" ∷ codes "-" ∷ []

abbrev pub operand_words : List Bytes
operand_words =
    codes "nil" ∷ codes "true" ∷ codes "false" ∷ codes "self" ∷ codes "__FILE__" ∷ codes "__LINE__" ∷ codes "__dir__" ∷ codes "yield" ∷ codes "super" ∷ codes "if" ∷ codes "unless" ∷ codes "while" ∷ codes "until" ∷ codes "begin" ∷ codes "case" ∷ codes "def" ∷ codes "class" ∷ codes "module" ∷ codes "retry" ∷ []

-- the words that begin a statement which is no argument
abbrev pub statement_words : List Bytes
statement_words = codes "not" ∷ codes "return" ∷ codes "break" ∷ codes "next" ∷ []

-- the marks and words that begin an argument of a command, where a blank stands before them
abbrev pub starting_marks : List Bytes
starting_marks = codes "(" ∷ codes "[" ∷ codes "!" ∷ []

abbrev pub starting_words : List Bytes
starting_words =
    codes "nil" ∷ codes "true" ∷ codes "false" ∷ codes "self" ∷ codes "yield" ∷ codes "super" ∷ codes "__FILE__" ∷ codes "__LINE__" ∷ codes "__dir__" ∷ []

-- the marks that do so where no blank stands behind them either
abbrev pub tight_marks : List Bytes
tight_marks = codes "-" ∷ codes "*" ∷ codes "&" ∷ codes "::" ∷ []

-- the words that make a modifier of what follows
abbrev pub modifiers : List Bytes
modifiers = codes "if" ∷ codes "unless" ∷ codes "while" ∷ codes "until" ∷ codes "rescue" ∷ []

-- the marks that are names of methods
abbrev pub method_marks : List Bytes
method_marks =
    codes "+" ∷ codes "-" ∷ codes "*" ∷ codes "/" ∷ codes "%" ∷ codes "**" ∷ codes "&" ∷ codes "|" ∷ codes "^" ∷ codes "<<" ∷ codes ">>" ∷ codes "<" ∷ codes "<=" ∷ codes ">" ∷ codes ">=" ∷ codes "<=>" ∷ codes "==" ∷ codes "===" ∷ codes "!" ∷ codes "~" ∷ codes "-@" ∷ codes "+@" ∷ []

-- an operator and `=`, where the operator is sent
abbrev pub sending_assignments : List Bytes
sending_assignments =
    codes "**=" ∷ codes "*=" ∷ codes "/=" ∷ codes "%=" ∷ codes "+=" ∷ codes "-=" ∷ codes "<<=" ∷ codes ">>=" ∷ codes "&=" ∷ codes "|=" ∷ codes "^=" ∷ codes "<==" ∷ codes ">==" ∷ codes "<=>=" ∷ codes "====" ∷ []

-- the binary operators that are sent, a list for each level from the tightest on
abbrev pub product_marks : List Bytes
product_marks = codes "*" ∷ codes "/" ∷ codes "%" ∷ []

abbrev pub sum_marks : List Bytes
sum_marks = codes "+" ∷ codes "-" ∷ []

abbrev pub shift_marks : List Bytes
shift_marks = codes "<<" ∷ codes ">>" ∷ []

abbrev pub intersection_marks : List Bytes
intersection_marks = codes "&" ∷ []

abbrev pub union_marks : List Bytes
union_marks = codes "|" ∷ codes "^" ∷ []

abbrev pub order_marks : List Bytes
order_marks = codes "<" ∷ codes "<=" ∷ codes ">" ∷ codes ">=" ∷ []

abbrev pub equality_marks : List Bytes
equality_marks = codes "<=>" ∷ codes "==" ∷ codes "===" ∷ []

-- all bytes but the last
abbrev pub but_last : Bytes → Bytes
but_last f = take (length f - 1) f

-- Whose a `do` is that stands behind a call: the call's own, a command's around it, or a loop's in whose condition it stands.
pub data DoBlockOwner : Type 0 where
  own : DoBlockOwner
  commands : DoBlockOwner
  loops : DoBlockOwner

-- in the arguments of a command
abbrev pub in_arguments : DoBlockOwner → DoBlockOwner
in_arguments own = commands
in_arguments commands = commands
in_arguments loops = loops

-- in a form that `end` closes: the condition of a loop goes on there, the arguments of a command do not
abbrev pub within : DoBlockOwner → DoBlockOwner
within own = own
within commands = own
within loops = loops

-- whether a call may take a `do`, and whether a command may
abbrev pub call_takes : DoBlockOwner → Bool
call_takes own = true
call_takes commands = false
call_takes loops = false

abbrev pub command_takes : DoBlockOwner → Bool
command_takes own = true
command_takes commands = true
command_takes loops = false

module _ (source : Bytes) where
  -- the first token as it is written
  abbrev pub word : Toks → Bytes
  word none = []
  word (more (tok k from to line b) ts) = take (to - from) (drop from source)

  -- the first token is one of these marks, or one of these words
  abbrev pub mark_in : List Bytes → Toks → Bool
  mark_in fs w = is_kind_mark (front w) && is_in (word w) fs

  abbrev pub word_in : List Bytes → Toks → Bool
  word_in fs w = is_kind_keyword (front w) && is_in (word w) fs

  -- it is this mark, or this word
  abbrev pub is_mark : Bytes → Toks → Bool
  is_mark f w = is_kind_mark (front w) && same f (word w)

  abbrev pub is_word : Bytes → Toks → Bool
  is_word f w = is_kind_keyword (front w) && same f (word w)

  abbrev pub begins_argument : Toks → Bool
  begins_argument w =
      is_kind_operand (front w) || mark_in starting_marks w || word_in starting_words w || (mark_in tight_marks w && not (blank (next w)))

  -- What stands behind a name makes a command of it: a blank, and then what begins an argument.
  abbrev pub begins_arguments : Toks → Bool
  begins_arguments w = blank w && begins_argument w

  -- the name x, before w, is a command
  abbrev pub is_command : Scope → Bytes → Toks → Bool
  is_command s x w = not (is_local s x) && begins_arguments w

  -- an argument begins here
  abbrev pub begins_arg : Toks → Bool
  begins_arg w = (is_kind_operand (front w) && not (is_kind_label (front w))) || mark_in operand_marks w || word_in operand_words w

  -- it is a value of the `return`, `break` or `next` before it: the word of a modifier is not
  abbrev pub begins_value : Toks → Bool
  begins_value w = begins_arg w && not (word_in modifiers w)

  abbrev pub begins_statement : Toks → Bool
  begins_statement w = begins_arg w || word_in statement_words w

  -- An operand goes on here: with a call, a constant behind it, or an index, which has no blank before it.
  abbrev pub goes_on : Toks → Bool
  goes_on w = is_mark (codes ".") w || is_mark (codes "&.") w || is_mark (codes "::") w || (is_mark (codes "[") w && not (blank w))

  -- brackets with no blank before them
  abbrev pub opens : Toks → Bool
  opens w = is_mark (codes "(") w && not (blank w)

  -- a block begins here, which a call takes
  abbrev pub opens_block : DoBlockOwner → Toks → Bool
  opens_block d w = is_mark (codes "{") w || (call_takes d && is_word (codes "do") w)

  -- a block begins here, which a command takes
  abbrev pub opens_do : DoBlockOwner → Toks → Bool
  opens_do d w = command_takes d && is_word (codes "do") w

  -- `-` directly before an integer that no `**` follows
  abbrev pub is_negative : Toks → Bool
  is_negative w =
      is_mark (codes "-") w && is_kind_integer (front (next w)) && touches_next w && not (is_mark (codes "**") (next (next w)))

  -- something is assigned here
  abbrev pub assigns : Toks → Bool
  assigns w = is_mark (codes "=") w || is_mark (codes "||=") w || is_mark (codes "&&=") w || mark_in sending_assignments w

  -- the parameters of a method begin here
  abbrev pub begins_params : Toks → Bool
  begins_params w =
      is_kind_newline (front w) || is_kind_name (front w) || is_mark (codes "(") w || is_mark (codes "*") w || is_mark (codes "&") w

  -- a variable, as something that is set
  abbrev pub goal_by : Option Kind → Bytes → Option Goal
  goal_by (Some name) f = Some (to_local f)
  goal_by (Some variable) f = Some (to_instance f)
  goal_by (Some global) f = Some (to_global f)
  goal_by _ f = None

  abbrev pub goal_at : Toks → Option Goal
  goal_at w = goal_by (front w) (word w)

  -- a variable or a constant that is set by what stands behind it
  abbrev pub sets : Toks → Bool
  sets w = (is_goal (goal_at w) && assigns (next w)) || (is_kind_constant (front w) && is_mark (codes "=") (next w))

  -- several targets, which a comma parts
  abbrev pub begins_targets : Toks → Bool
  begins_targets w = is_goal (goal_at w) && is_mark (codes ",") (next w)

-- a variable is set from here on
abbrev pub declared : Goal → Scope → Scope
declared (to_local x) s = declare x s
declared _ s = s
