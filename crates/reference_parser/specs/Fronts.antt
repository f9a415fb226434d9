-- What the first tokens alone decide for a reader.
use Rattle.std.specs.Prelude.{Bool, true, false, not, ◌&&◌, ◌||◌, List, [], ◌∷◌, ◌++◌, codes, Option, Some, None, if◌then◌else◌}
use Rattle.ruby_lexer.specs.Bytes.{Bytes}
use Rattle.ruby_lexer.specs.Forms.{text_of}
use Rattle.ruby_lexer.specs.Pieces.{Kind, label, Toks, none, more}
use Rattle.ruby_tree.specs.Rules.{Scope, next, front, is_kind_name, is_kind_constant, is_kind_label, is_kind_newline, method_marks, touches_next, word, mark_in, is_mark, is_word, word_in, begins_arg, begins_arguments, is_command, is_negative}
use Rattle.reference_parser.specs.Answers.{Found, found, missing}

abbrev pub is_empty : Toks → Bool
is_empty none = true
is_empty (more t ts) = false

abbrev pub is_newline : Toks → Bool
is_newline w = is_kind_newline (front w)

abbrev pub is_name : Toks → Bool
is_name w = is_kind_name (front w)

abbrev pub is_constant : Toks → Bool
is_constant w = is_kind_constant (front w)

abbrev pub is_label : Toks → Bool
is_label w = is_kind_label (front w)

-- the text of a label without code
abbrev pub label_by : Option Kind → Option Bytes
label_by (Some (label ps)) = text_of ps
label_by _ = None

abbrev pub label_at : Toks → Option Bytes
label_at w = label_by (front w)

module _ (source : Bytes) where
  -- the tokens behind the newlines at the front
  unfoldable pub skip_newlines : Toks → Toks
  skip_newlines none = none
  skip_newlines (more t ts) = if is_newline (more t ts) then skip_newlines ts else more t ts

  -- a newline, `then`, or both
  unfoldable pub then_at : Toks → Found (Unit {0})
  then_at w =
      if is_newline w then (if is_word source (codes "then") (next w) then found tt (next (next w)) else found tt (next w))
      else if is_word source (codes "then") w then found tt (next w)
      else missing

  -- a newline or `do`
  unfoldable pub loop_start_at : Toks → Found (Unit {0})
  loop_start_at w = if is_newline w || is_word source (codes "do") w then found tt (next w) else missing

  -- The name of a method, and what stands behind it.
  unfoldable pub brackets_at : Toks → Found Bytes
  brackets_at w =
      if is_mark source (codes "=") (next (next w)) && touches_next (next w) then found (codes "[]=") (next (next (next w)))
      else found (codes "[]") (next (next w))

  unfoldable pub method_name_at : Bool → Toks → Found Bytes
  method_name_at defines w =
      if is_name w then (if defines && (is_mark source (codes "=") (next w) && touches_next w) then found (word source w ++ codes "=") (next (next w)) else found (word source w) (next w))
      else if is_constant w then found (word source w) (next w)
      else if mark_in source method_marks w then found (word source w) (next w)
      else if is_mark source (codes "[") w && (is_mark source (codes "]") (next w) && touches_next w) then brackets_at w
      else missing

  -- whether a method is defined on `self`
  unfoldable pub on_self_at : Toks → Found Bool
  on_self_at w =
      if is_word source (codes "self") w then (if is_mark source (codes ".") (next w) then found true (next (next w)) else missing)
      else found false w

  -- a call of a method goes on with an operand
  abbrev pub is_dot : Toks → Bool
  is_dot w = is_mark source (codes ".") w || is_mark source (codes "&.") w

  -- an element, which may be spread
  abbrev pub begins_element : Toks → Bool
  begins_element w = begins_arg source w || is_mark source (codes "*") w

  abbrev pub begins_pair : Toks → Bool
  begins_pair w = begins_arg source w || is_label w

  abbrev pub begins_item : Toks → Bool
  begins_item w = begins_element w || is_label w || is_mark source (codes "&") w

  -- a comma, and behind it one more
  abbrev pub more_elements : Toks → Bool
  more_elements w = is_mark source (codes ",") w && begins_element (next w)

  abbrev pub more_pairs : Toks → Bool
  more_pairs w = is_mark source (codes ",") w && begins_pair (next w)

  abbrev pub more_items : Toks → Bool
  more_items w = is_mark source (codes ",") w && begins_item (next w)

  -- a comma, and behind it what is passed behind `&`
  abbrev pub more_passed : Toks → Bool
  more_passed w = is_mark source (codes ",") w && is_mark source (codes "&") (next w)

  -- the words whose arguments need no brackets, as commands
  abbrev pub calling_words : List Bytes
  calling_words = codes "yield" ∷ codes "super" ∷ []

  abbrev pub leaving_words : List Bytes
  leaving_words = codes "return" ∷ codes "break" ∷ codes "next" ∷ []

  -- A command begins here, but for one behind a dot.
  abbrev pub begins_command : Scope → Toks → Bool
  begins_command s w =
      (is_name w && is_command source s (word source w) (next w)) || (word_in source calling_words w && begins_arguments source (next w)) || word_in source leaving_words w

  -- an operator before its operand
  abbrev pub begins_operator : Toks → Bool
  begins_operator w =
      is_mark source (codes "!") w || is_mark source (codes "~") w || is_mark source (codes "+") w || (is_mark source (codes "-") w && not (is_negative source w))
