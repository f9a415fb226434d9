-- What a text is read as, by what the parser took of its tokens.
use Rattle.std.proofs.Common.{◌≡◌, ℕ, ◌≤◌, ◌<◌, true, false, [], refl, sym, ◌∙◌, ap, arith, subst, List, ◌∷◌, length, Option, Some, None, Result, Ok, Err, IfErr, IsErrAnd}
use Rattle.std.specs.Option.{unwrap_or}
use Rattle.std.proofs.lemmas.Bool.{true≢false, false≢true}
use Rattle.ruby_lexer.specs.declared.token.Token.{Token}
use Rattle.ruby_lexer.specs.declared.lexing.LexError.{LexError}
use Rattle.ruby_lexer.specs.declared.lexing.LexError.TheVariants as lex_error
use Rattle.ruby_lexer.specs.Bytes.{Bytes}
use Rattle.ruby_lexer.specs.Pieces.{Toks, seen_all}
use Rattle.ruby_lexer.specs.Pieces as token
use Rattle.ruby_lexer.specs.Tokens.{AreTokens, IsText, IsFront, before_end}
use Rattle.ruby_lexer.specs.Reading.{FaultsWith}
use Rattle.ruby_tree.specs.declared.surroundings.Misplaced.{Misplaced}
use Rattle.ruby_tree.specs.Tree.{Tree}
use Rattle.ruby_tree.specs.Rules.{Scope, fresh}
use Rattle.ruby_tree.specs.Grammar.{Derives}
use Rattle.ruby_tree.specs.Depth.{depth}
use Rattle.ruby_tree.specs.Placement.{faults, at_home, file}
use Rattle.ruby_tree.specs.FirstFault.{IsFirstFault}
use Rattle.ruby_tree.specs.Read.{tree_of}
use Rattle.ruby_tree.specs.Reading.{Reads}
use Rattle.tree_builder.specs.declared.Subtree.{Subtree}
use Rattle.tree_builder.specs.Subtrees.{IsNode, Holds}
use Rattle.tree_builder.proofs.GoesOn.{extends_same}
use Rattle.reference_parser.specs.Answers.{Answer, taken, deep}
use Rattle.reference_parser.specs.Answers as answer
use Rattle.reference_parser.specs.ReadStatements.{readers}
use Rattle.reference_parser.specs.Stops.{stops_at}
use Rattle.reference_laws.proofs.Whole.{taken_is}
use Rattle.parse_state.specs.declared.failures.Failure.{Failure}
use Rattle.parse_state.specs.declared.standing.Parser.{Parser}
use Rattle.parse_state.specs.Gives.{Gives, gave, no_syntax, too_deep, no_memory}
use Rattle.ruby_reader.specs.declared.reading.ReadError.{ReadError}
use Rattle.ruby_reader.specs.declared.reading.ReadError.TheVariants as error
use Rattle.ruby_reader.specs.declared.parsing.Parsed.{Parsed}
use Rattle.reference_parser.specs.HasFault.{HasFault, no_text, placement, text_end, end_line, read_open}
use Rattle.reference_parser.specs.HasFault as has
use Rattle.reference_parser.specs.ReadingOf.{tree, fault, stop_line, answered, reading_of}
use Rattle.ruby_reader.specs.Outcomes.{IsFaultOf, error_of}
use Rattle.ruby_reader.specs.Parsing.{is_whole, IsTaken, Parses, IsWhole}
use Rattle.reference_laws.proofs.Scanning.{whole_tokens}
use Rattle.reference_laws.proofs.ReadingOne.{by_answer, read_only}

-- the line of a walk, by what it was given
pub walked : (source context : Bytes) (ts : Toks) (stop line : Option ℕ) (end last : ℕ) → context ≡ before_end source → end ≡ end_line source stop → last ≡ text_end source → line ≡ stops_at context (readers context 199) end ts fresh → unwrap_or line last ≡ stop_line source ts stop
unfolding stop_line
walked source context ts stop line end last is ends lasts goes = rw (goes, is, ends, lasts) refl

-- an error of a line that is the line of the fault
pub fault_is : (source : Bytes) (e : ReadError) (line n : ℕ) → e ≡ error.Syntax (record { line = line }) → line ≡ n → reading_of source ≡ fault n → IsFaultOf source e
fault_is source e line n is same reads = subst (IsFaultOf source) (sym is) (reads ∙ ap fault (sym same))

-- the bytes are no text
lex_fault : (source : Bytes) (e : LexError) → FaultsWith source e → ((e ≡ lex_error.NoMemory → ⊥) → IsText source → ⊥) → IsFaultOf source (error_of e)
lex_fault source (lex_error.Fault f) faults none = read_only source (fault f.line) (no_text (none (λ is. absurd cc)) faults.fault)
lex_fault source lex_error.NoMemory faults none = tt

pub handed_on : {X : Type 0} (source : Bytes) (result : Result X ReadError) (e : LexError) → IsErrAnd result (λ d. d ≡ error_of e) → FaultsWith source e → ((e ≡ lex_error.NoMemory → ⊥) → IsText source → ⊥) → IfErr result (IsFaultOf source)
handed_on source (Ok x) e is faults none = elim is [ ]
handed_on source (Err d) e is faults none = subst (IsFaultOf source) (sym is) (lex_fault source e faults none)

pub tokens_left : (ts : List Token) (stop : Option ℕ) → 1 ≤ length ts → false ≡ is_whole (seen_all ts) stop
tokens_left [] stop some = absurd (omega (arith, some))
tokens_left (t ∷ ts) stop some = refl

-- what the parser gave
module _ (source : Bytes) (ts : Toks) where
  nothing_parsed : {p q : Parser} {a : Answer Tree} (e : Failure) → read_open source ts ≡ a → Gives Holds p q (Err e) a → Parses source ts (Err e)
  nothing_parsed e is no_syntax = is
  nothing_parsed e is too_deep = is
  nothing_parsed e is no_memory = tt

  pub parse_failed : {p q : Parser} {a : Answer Tree} (result : Result Parsed Failure) (e : Failure) → read_open source ts ≡ a → IsErrAnd result (λ d. d ≡ e) → Gives Holds p q (Err e) a → Parses source ts result
  parse_failed (Ok x) e is same g = elim same [ ]
  parse_failed (Err d) e is same g = subst (λ (x : Failure). Parses source ts (Err x)) (sym same) (nothing_parsed e is g)

  pub parsed : {p q : Parser} {a : Answer Tree} (x : Subtree) → read_open source ts ≡ a → Gives Holds p q (Ok x) a → IsTaken source ts (record { part = x; symbols = q.symbols; rest = q.rest })
  parsed x is (gave {t = t} {z = z} b l h) = record { tree = t; behind = z; is = is ∙ ap (λ (v : Toks). taken t v z) (sym b.tokens); holds = h }

module _ (source : Bytes) (ts : Toks) where
  -- tokens that are left are a fault of the grammar, and so is a place at which none begins
  left_over : (stop : Option ℕ) (t : Tree) (r : Toks) (z : Scope) → is_whole r stop ≡ false → answered source ts stop (taken t r z) ≡ fault (stop_line source ts stop)
  left_over stop t (token.more x r) z e = refl
  left_over (Some line) t token.none z e = refl
  left_over None t token.none z e = absurd (true≢false e)

  all_taken : (stop : Option ℕ) (t : Tree) (r : Toks) (z : Scope) → IsFront source ts stop → read_open source ts ≡ taken t r z → is_whole r stop ≡ true → AreTokens source ts × Derives (before_end source) ts t
  all_taken stop t (token.more x r) z F e w = absurd (false≢true w)
  all_taken (Some line) t token.none z F e w = absurd (false≢true w)
  all_taken None t token.none z F e w = (whole_tokens source ts F, taken_is (before_end source) ts 200 t z e)

  module _ (stop : Option ℕ) (F : IsFront source ts stop) where
    pub nests_too_deep : read_open source ts ≡ deep → reading_of source ≡ fault (text_end source)
    nests_too_deep e = by_answer source ts stop deep F e

    pub is_no_syntax : read_open source ts ≡ answer.fault → reading_of source ≡ fault (stop_line source ts stop)
    is_no_syntax e = by_answer source ts stop answer.fault F e

    module _ (p : Parsed) (T : IsTaken source ts p) where
      pub not_whole : is_whole (seen_all p.rest.now) stop ≡ false → reading_of source ≡ fault (stop_line source ts stop)
      not_whole e = by_answer source ts stop (taken T.tree (seen_all p.rest.now) T.behind) F T.is ∙ left_over stop T.tree (seen_all p.rest.now) T.behind e

      module _ (whole : is_whole (seen_all p.rest.now) stop ≡ true) where
        derived : AreTokens source ts × Derives (before_end source) ts T.tree
        derived = all_taken stop T.tree (seen_all p.rest.now) T.behind F T.is whole

        pub tree_too_deep : 200 < p.part.depth → reading_of source ≡ fault (text_end source)
        tree_too_deep more =
            let large : 200 < depth T.tree = omega (arith, more, T.holds.shows) in
            read_only source (fault (text_end source)) (has.deep derived.0 derived.1 large)

        module _ (shown_small : p.part.depth ≤ 200) where
          small : depth T.tree ≤ 200
          small = omega (arith, shown_small, T.holds.shows)

          node : IsNode p.symbols p.part.node T.tree
          node = T.holds.reads small p.symbols (extends_same p.symbols)

          pub misplaced : (m : Misplaced) → IsFirstFault (faults (at_home file) (tree_of p.symbols p.part.node)) m → reading_of source ≡ fault m.line
          misplaced m is =
              let first : IsFirstFault (faults (at_home file) T.tree) m = subst (λ (t : Tree). IsFirstFault (faults (at_home file) t) m) node.tree is in
              read_only source (fault m.line) (subst (λ (line : ℕ). HasFault source line) first.line (placement derived.0 derived.1 small first.first))

          pub all_placed : faults (at_home file) (tree_of p.symbols p.part.node) ≡ [] → IsWhole source p
          all_placed none =
              let placed : faults (at_home file) T.tree ≡ [] = ap (faults (at_home file)) (sym node.tree) ∙ none in
              let reads : Reads source T.tree = record { tokens = ts; are_tokens = derived.0; derived = derived.1; depth_fits = small; placed = placed } in
              record { names = node.fits; is = read_only source (tree (tree_of p.symbols p.part.node)) (subst (Reads source) (sym node.tree) reads) }
