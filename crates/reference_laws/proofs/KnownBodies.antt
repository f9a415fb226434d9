-- The reader takes what is derived: bodies, blocks, what a call is given, parameters, and the parts of texts.
use Rattle.std.proofs.Common.{◌≡◌, ℕ, zero, suc, ◌<◌, codes, true, false, not, ◌||◌, Some, refl, ap, arith}
use Rattle.ruby_lexer.specs.Bytes.{Bytes, same}
use Rattle.ruby_lexer.specs.Pieces.{name, keyword, Toks, Parts}
use Rattle.ruby_lexer.specs.Pieces as token
use Rattle.ruby_tree.specs.Tree.{SourcePosition, Tree, Other, Pieces, Whens, Rescues, Params}
use Rattle.ruby_tree.specs.Rules.{Scope, next, front, position, is_kind_name, is_kind_newline, DoBlockOwner, own, is_mark, is_word, opens_block, begins_params}
use Rattle.ruby_tree.specs.Build.{Given}
use Rattle.ruby_tree.specs.Grammar.{Rels, Clauses, Else, Rescued, Body, DoBlock, Block, CallBlock, CommandBlock, CallItems, TextParts, ElseBranches, WhenList, MethodParams, ParameterList, Parameters, Superclass}
use Rattle.ruby_tree.specs.Grammar as g
use Rattle.ruby_tree.specs.FaultLine.{count_of}
use Rattle.reference_parser.specs.Answers.{taken, ◌>>=◌, ◌>>>◌}
use Rattle.reference_parser.specs.Fronts.{is_newline, is_name}
use Rattle.reference_parser.specs.ReadItems.{Readers}
use Rattle.reference_parser.specs.ReadBodies.{clauses, read_else, rescued_body, read_body, ended, do_block, brace_block, read_block, call_block, command_block, call_items, text_parts, read_else_branches, when_list, default_param, named_param, left_param, method_params, bracket_params, parameter_list, read_parameters, read_superclass}
use Rattle.reference_laws.proofs.Promises.{Knows, Known, Shorters, Firsts}
use Rattle.reference_parser.proofs.Tests.{and_true, left_false, left_true, right_true, next_le, next_less, mark_kind, word_kind, other_mark, word_no_mark, kind_no_mark, newline_no_mark}
use Rattle.reference_laws.proofs.ShorterItems.{moves_then, moves_exception_name, moves_classes}
use Rattle.reference_laws.proofs.Shorter.{less_of, no_more_of, movers_of, shorter_several}
use Rattle.reference_laws.proofs.KnownFronts.{known_then}
use Rattle.reference_laws.proofs.KnownItems.{known_bars, known_exception_name, known_several, known_in_brackets, known_classes}

module _ (source : Bytes) where
  module _ (R : Rels) (Q : Readers) (F : Firsts source R) (S : Shorters R) (K : Known R Q) where
    first_clauses : (d : DoBlockOwner) (w : Toks) (s : Scope) (rs : Rescues) (r : Toks) (z : Scope) → Clauses source R d w s rs r z → is_word source (codes "rescue") w ≡ true
    first_clauses d w s rs r z (g.Clauses.last e c x h i f) = e
    first_clauses d w s rs r z (g.Clauses.another e c x h i f) = e

    pub known_clauses : (m : ℕ) (d : DoBlockOwner) (w : Toks) (s : Scope) (rs : Rescues) (r : Toks) (z : Scope) → Clauses source R d w s rs r z → count_of w < m → clauses source Q m d w s ≡ taken rs r z
    unfolding ◌>>=◌ ◌>>>◌ clauses
    known_clauses zero d w s rs r z h room = absurd (omega arith)
    known_clauses (suc m) d w s rs r z (g.Clauses.last e c x h i f) room =
        rw (known_classes source R Q F S K d _ _ _ _ _ c, known_exception_name source _ _ _ _ _ x, known_then source _ _ h, K.stmts d _ _ _ _ _ i, f)
    known_clauses (suc m) d w s rs r z (g.Clauses.another {u = u} e c x h i f) room =
        let there = first_clauses d _ _ _ _ _ f in
        let short = next_less w keyword (word_kind source (codes "rescue") w e) in
        rw (
          known_classes source R Q F S K d _ _ _ _ _ c,
          known_exception_name source _ _ _ _ _ x,
          known_then source _ _ h,
          K.stmts d _ _ _ _ _ i,
          there,
          known_clauses m d _ _ _ _ _ f (omega (arith, short, no_more_of (moves_classes source false R (movers_of R S) d _ _ _ _ _ c), no_more_of (moves_exception_name source false _ _ _ _ _ x), less_of (moves_then source false u _ _ h), S.stmts d _ _ _ _ _ i)),
        )

    pub known_else : (d : DoBlockOwner) → Knows (Else source R d) (read_else source Q d)
    unfolding ◌>>=◌ read_else
    known_else d w s e r z (g.Else.missing n) = rw n
    known_else d w s e r z (g.Else.given h i) = rw (h, K.stmts d _ _ _ _ _ i)

    pub known_rescued : (d : DoBlockOwner) (o : SourcePosition) → Knows (Rescued source R d o) (rescued_body source Q d o)
    unfolding ◌>>=◌ rescued_body
    known_rescued d o w s t r z (g.Rescued.plain h n) = rw (K.stmts d _ _ _ _ _ h, n)
    known_rescued d o w s t r z (g.Rescued.clauses {q = q} h c e) =
        rw (K.stmts d _ _ _ _ _ h, first_clauses d _ _ _ _ _ c, known_clauses (suc (count_of q)) d _ _ _ _ _ c (omega arith), known_else d _ _ _ _ _ e)

    pub known_body : (d : DoBlockOwner) (o : SourcePosition) → Knows (Body source R d o) (read_body source Q d o)
    unfolding ◌>>=◌ read_body
    known_body d o w s t r z (g.Body.plain h n) = rw (known_rescued d o _ _ _ _ _ h, n)
    known_body d o w s t r z (g.Body.ensured h e i) = rw (known_rescued d o _ _ _ _ _ h, e, K.stmts d _ _ _ _ _ i)

    pub known_ended : {A : Type 0} (a : A) (w : Toks) (s : Scope) → is_word source (codes "end") w ≡ true → ended source Q a w s ≡ taken a (next w) s
    unfolding ended
    known_ended a w s e = rw e

    first_do_block : (w : Toks) (s : Scope) (t : Tree) (r : Toks) (z : Scope) → DoBlock source R w s t r z → is_word source (codes "do") w ≡ true
    first_do_block w s t r z (g.DoBlock.block e p h c) = e

    pub known_do_block : Knows (DoBlock source R) (do_block source Q)
    unfolding ◌>>=◌ do_block
    known_do_block w s t r z (g.DoBlock.block {q = q} e p h c) = rw (known_bars source _ _ _ _ _ p, known_body own (position q) _ _ _ _ _ h) (known_ended _ _ s c)

    pub known_block : (d : DoBlockOwner) → Knows (Block source R d) (read_block source Q)
    unfolding ◌>>=◌ read_block brace_block
    known_block d w s t r z (g.Block.braces e p h c) = rw (e, known_bars source _ _ _ _ _ p, K.stmts own _ _ _ _ _ h, c)
    known_block d w s t r z (g.Block.with_do i h) = rw (word_no_mark source (codes "do") (codes "{") w (first_do_block _ _ _ _ _ h)) (known_do_block _ _ _ _ _ h)

    pub first_block : (d : DoBlockOwner) (w : Toks) (s : Scope) (t : Tree) (r : Toks) (z : Scope) → Block source R d w s t r z → opens_block source d w ≡ true
    first_block d w s t r z (g.Block.braces e p h c) = left_true _ _ e
    first_block d w s t r z (g.Block.with_do i h) = right_true (is_mark source (codes "{") w) _ (and_true _ _ i (first_do_block _ _ _ _ _ h))

    pub known_call_block : (d : DoBlockOwner) (a : Given) → Knows (CallBlock source R d a) (call_block source Q d a)
    unfolding ◌>>=◌ call_block
    known_call_block d a w s t r z (g.CallBlock.missing n) = rw n
    known_call_block d a w s t r z (g.CallBlock.given i h) = rw (and_true _ _ (first_block d _ _ _ _ _ h) (ap not i), known_block d _ _ _ _ _ h)

    pub known_command_block : (d : DoBlockOwner) (a : Given) → Knows (CommandBlock source R d a) (command_block source Q d a)
    unfolding ◌>>=◌ command_block
    known_command_block d a w s t r z (g.CommandBlock.missing n) = rw n
    known_command_block d a w s t r z (g.CommandBlock.given i c h) = rw (and_true _ _ (and_true _ _ c (first_do_block _ _ _ _ _ h)) (ap not i), known_do_block _ _ _ _ _ h)

    pub known_call_items : (d : DoBlockOwner) (w : Toks) (s : Scope) (a : Given) (b : Other) (r : Toks) (z : Scope) → CallItems source R d w s a b r z → call_items source Q d w s ≡ taken (record { given = a; block = b }) r z
    unfolding ◌>>=◌ call_items
    known_call_items d w s a b r z (g.CallItems.bare e h) = rw (e, known_call_block d _ _ _ _ _ _ h)
    known_call_items d w s a b r z (g.CallItems.brackets e h i) = rw (e, known_in_brackets source R Q F S K _ _ _ _ _ h, known_call_block d _ _ _ _ _ _ i)

    pub known_text_parts : (ps : Parts) (s : Scope) (qs : Pieces) (z : Scope) → TextParts source R ps s qs z → text_parts source Q ps s ≡ taken qs token.none z
    unfolding ◌>>=◌ text_parts
    known_text_parts ps s qs z g.TextParts.ends = refl
    known_text_parts ps s qs z (g.TextParts.plain h) = rw (known_text_parts _ _ _ _ h)
    known_text_parts ps s qs z (g.TextParts.code h i) = rw (K.stmts own _ _ _ _ _ h, known_text_parts _ _ _ _ i)

    pub known_elses : (d : DoBlockOwner) → Knows (ElseBranches source R d) (read_else_branches source Q d)
    unfolding ◌>>=◌ ◌>>>◌ read_else_branches
    known_elses d w s e r z (g.ElseBranches.elsif h c i t f) = rw (h, K.expr d _ _ _ _ _ c, known_then source _ _ i, K.stmts d _ _ _ _ _ t, K.else_branches d _ _ _ _ _ f)
    known_elses d w s e r z (g.ElseBranches.other n h) = rw n (known_else d _ _ _ _ _ h)

    pub first_when_list : (d : DoBlockOwner) (w : Toks) (s : Scope) (ws : Whens) (r : Toks) (z : Scope) → WhenList source R d w s ws r z → is_word source (codes "when") w ≡ true
    first_when_list d w s ws r z (g.WhenList.last e c h i n) = e
    first_when_list d w s ws r z (g.WhenList.another e c h i f) = e

    pub known_when_list : (m : ℕ) (d : DoBlockOwner) (w : Toks) (s : Scope) (ws : Whens) (r : Toks) (z : Scope) → WhenList source R d w s ws r z → count_of w < m → when_list source Q m d w s ≡ taken ws r z
    unfolding ◌>>=◌ ◌>>>◌ when_list
    known_when_list zero d w s ws r z h room = absurd (omega arith)
    known_when_list (suc m) d w s ws r z (g.WhenList.last e c h i n) room = rw (known_several source R Q F S K d _ _ _ _ _ c, known_then source _ _ h, K.stmts d _ _ _ _ _ i, n)
    known_when_list (suc m) d w s ws r z (g.WhenList.another {y = y} e c h i f) room =
        rw (
          known_several source R Q F S K d _ _ _ _ _ c,
          known_then source _ _ h,
          K.stmts d _ _ _ _ _ i,
          first_when_list d _ _ _ _ _ f,
          known_when_list m d _ _ _ _ _ f (omega (arith, next_le w, shorter_several source R S d _ _ _ _ _ c, less_of (moves_then source false y _ _ h), S.stmts d _ _ _ _ _ i)),
        )

    -- with what parameters begin
    data FirstParam : Toks → Type 0 where
      by_name : {w : Toks} → front w ≡ Some name → FirstParam w
      by_star : {w : Toks} → is_mark source (codes "*") w ≡ true → FirstParam w
      by_amp : {w : Toks} → is_mark source (codes "&") w ≡ true → FirstParam w

    first_param : (d : DoBlockOwner) (l : ℕ) (w : Toks) (s : Scope) (ps : Params) (r : Toks) (z : Scope) → MethodParams source R d l w s ps r z → FirstParam w
    first_param d l w s ps r z (g.MethodParams.named e n) = by_name e
    first_param d l w s ps r z (g.MethodParams.named_more e c h) = by_name e
    first_param d l w s ps r z (g.MethodParams.default i e c h) = by_name e
    first_param d l w s ps r z (g.MethodParams.default_more i e c h f hs) = by_name e
    first_param d l w s ps r z (g.MethodParams.left i e h) = by_star e
    first_param d l w s ps r z (g.MethodParams.left_more i e h c hs) = by_star e
    first_param d l w s ps r z (g.MethodParams.block e h) = by_amp e

    param_not_mark : (f : Bytes) (w : Toks) → FirstParam w → same f (codes "*") ≡ false → same f (codes "&") ≡ false → is_mark source f w ≡ false
    param_not_mark f w (by_name e) a b = kind_no_mark source f w name e refl
    param_not_mark f w (by_star e) a b = other_mark source (codes "*") f w e a
    param_not_mark f w (by_amp e) a b = other_mark source (codes "&") f w e b

    param_no_newline : (w : Toks) → FirstParam w → is_newline w ≡ false
    param_no_newline w (by_name e) = ap is_kind_newline e
    param_no_newline w (by_star e) = ap is_kind_newline (mark_kind source (codes "*") w e)
    param_no_newline w (by_amp e) = ap is_kind_newline (mark_kind source (codes "&") w e)

    param_begins : (w : Toks) → FirstParam w → begins_params source w ≡ true
    param_begins w (by_name e) = left_true _ _ (left_true _ _ (left_true _ _ (right_true (is_newline w) _ (ap is_kind_name e))))
    param_begins w (by_star e) = left_true _ _ (right_true (is_newline w || is_name w || is_mark source (codes "(") w) _ e)
    param_begins w (by_amp e) = right_true (is_newline w || is_name w || is_mark source (codes "(") w || is_mark source (codes "*") w) _ e

    pub known_method_params : (m : ℕ) (d : DoBlockOwner) (l : ℕ) (w : Toks) (s : Scope) (ps : Params) (r : Toks) (z : Scope) → MethodParams source R d l w s ps r z → is_mark source (codes ",") r ≡ false → count_of w < m → method_params source Q m d l w s ≡ taken ps r z
    unfolding ◌>>=◌ method_params named_param default_param left_param
    known_method_params zero d l w s ps r z h far room = absurd (omega arith)
    known_method_params (suc m) d l w s ps r z (g.MethodParams.named e n) far room = rw (ap is_kind_name e, n, far)
    known_method_params (suc m) d l w s ps r z (g.MethodParams.named_more e c h) far room =
        rw (ap is_kind_name e, other_mark source (codes ",") (codes "=") (next w) c refl, c, known_method_params m d 0 _ _ _ _ _ h far (omega (arith, next_less w name e, next_le (next w))))
    known_method_params (suc m) d l w s ps r z (g.MethodParams.default i e c h) far room = rw (ap is_kind_name e, c, i, K.arg d _ _ _ _ _ h, far)
    known_method_params (suc m) d l w s ps r z (g.MethodParams.default_more {q = q} i e c h f hs) far room =
        rw (ap is_kind_name e, c, i, K.arg d _ _ _ _ _ h, f, known_method_params m d 1 _ _ _ _ _ hs far (omega (arith, next_le w, next_le (next w), next_le q, S.arg d _ _ _ _ _ h)))
    known_method_params (suc m) d l w s ps r z (g.MethodParams.left i e h) far room =
        rw (ap is_kind_name (mark_kind source (codes "*") w e), and_true _ _ e (and_true _ _ (ap is_kind_name h) i), far)
    known_method_params (suc m) d l w s ps r z (g.MethodParams.left_more i e h c hs) far room =
        rw (
          ap is_kind_name (mark_kind source (codes "*") w e),
          and_true _ _ e (and_true _ _ (ap is_kind_name h) i),
          c,
          known_method_params m d 3 _ _ _ _ _ hs far (omega (arith, next_le w, next_less (next w) name h, next_le (next (next w)))),
        )
    known_method_params (suc m) d l w s ps r z (g.MethodParams.block e h) far room =
        rw (ap is_kind_name (mark_kind source (codes "&") w e), left_false _ _ (other_mark source (codes "&") (codes "*") w e refl), and_true _ _ e (ap is_kind_name h))

    pub known_parameter_list : (d : DoBlockOwner) → Knows (ParameterList source R d) (parameter_list source Q d)
    unfolding ◌>>=◌ parameter_list bracket_params
    known_parameter_list d w s ps r z (g.ParameterList.empty e c) = rw (e, c)
    known_parameter_list d w s ps r z (g.ParameterList.brackets {r = p} e h c) =
        rw (
          e,
          param_not_mark (codes ")") (next w) (first_param own 0 _ _ _ _ _ h) refl refl,
          known_method_params (suc (count_of w)) own 0 _ _ _ _ _ h (other_mark source (codes ")") (codes ",") p c refl) (omega (arith, next_le w)),
          c,
        )
    known_parameter_list d w s ps r z (g.ParameterList.no_line e) = rw (newline_no_mark source (codes "(") w e, e)
    known_parameter_list d w s ps r z (g.ParameterList.line {r = p} h e) =
        rw (
          param_not_mark (codes "(") w (first_param d 0 _ _ _ _ _ h) refl refl,
          param_no_newline w (first_param d 0 _ _ _ _ _ h),
          known_method_params (suc (count_of w)) d 0 _ _ _ _ _ h (newline_no_mark source (codes ",") p e) (omega arith),
          e,
        )

    first_parameter_list : (d : DoBlockOwner) (w : Toks) (s : Scope) (ps : Params) (r : Toks) (z : Scope) → ParameterList source R d w s ps r z → begins_params source w ≡ true
    first_parameter_list d w s ps r z (g.ParameterList.empty e c) = left_true _ _ (left_true _ _ (right_true (is_newline w || is_name w) _ e))
    first_parameter_list d w s ps r z (g.ParameterList.brackets e h c) = left_true _ _ (left_true _ _ (right_true (is_newline w || is_name w) _ e))
    first_parameter_list d w s ps r z (g.ParameterList.no_line e) = left_true _ _ (left_true _ _ (left_true _ _ (left_true _ _ e)))
    first_parameter_list d w s ps r z (g.ParameterList.line h e) = param_begins w (first_param d 0 _ _ _ _ _ h)

    pub known_parameters : (d : DoBlockOwner) → Knows (Parameters source R d) (read_parameters source Q d)
    unfolding read_parameters
    known_parameters d w s ps r z (g.Parameters.missing n) = rw n
    known_parameters d w s ps r z (g.Parameters.given h) = rw (first_parameter_list d _ _ _ _ _ h) (known_parameter_list d _ _ _ _ _ h)

    pub known_superclass : (d : DoBlockOwner) → Knows (Superclass source R d) (read_superclass source Q d)
    unfolding ◌>>=◌ read_superclass
    known_superclass d w s c r z (g.Superclass.missing n) = rw n
    known_superclass d w s c r z (g.Superclass.given e h) = rw (e, K.arg d _ _ _ _ _ h)
