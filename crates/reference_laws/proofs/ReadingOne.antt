-- The reading of a text as a function is that of the relations.
use Rattle.std.proofs.Common.{◌≡◌, ℕ, ◌≤◌, ◌<◌, Bool, true, false, nat_lt, List, [], length, refl, sym, ap, ◌∙◌, arith, subst, if◌then◌else◌, Option, Some, None, ◌⊎◌, inl, inr}
use Rattle.std.proofs.lemmas.Bool.Decides.{nat_tests}
use Rattle.std.specs.Option.{unwrap_or}
use Rattle.ruby_lexer.specs.Bytes.{Bytes}
use Rattle.ruby_lexer.specs.Pieces.{Toks}
use Rattle.ruby_lexer.specs.Pieces as token
use Rattle.ruby_lexer.specs.Tokens.{AreTokens, IsFront, before_end}
use Rattle.ruby_tree.specs.declared.surroundings.Misplaced.{Misplaced}
use Rattle.ruby_tree.specs.Tree.{SourcePosition, Tree}
use Rattle.ruby_tree.specs.Rules.{fresh}
use Rattle.ruby_tree.specs.Grammar.{Derives}
use Rattle.ruby_tree.specs.Depth.{depth}
use Rattle.ruby_tree.specs.Placement.{faults, at_home, file}
use Rattle.ruby_tree.specs.FaultLine.{StopsAt, IsFirst}
use Rattle.ruby_tree.specs.FirstFault.{first_of, IsFirstFault}
use Rattle.ruby_tree.specs.Reading.{Reads}
use Rattle.ruby_tree.proofs.FirstFaults.{none_first, some_first, first-empty}
use Rattle.reference_parser.specs.Answers.{Answer, taken, deep}
use Rattle.reference_parser.specs.Answers as answer
use Rattle.reference_parser.specs.ReadStatements.{readers}
use Rattle.reference_parser.specs.Stops.{stops_at}
use Rattle.reference_laws.proofs.SoundTools.{value_if}
use Rattle.reference_laws.proofs.Whole.{read_at, at_most_one, taken_is, never, never_behind}
use Rattle.reference_laws.proofs.StopLines.{stops_there, stops_found}
use Rattle.reference_parser.specs.Scanned.{Scanned, front, scanned_of}
use Rattle.reference_parser.specs.Scanned as scan
use Rattle.reference_parser.specs.HasFault.{HasFault, no_text, deep_open, grammar, placement, text_end, end_line, read_open}
use Rattle.reference_parser.specs.HasFault as has
use Rattle.reference_parser.specs.ReadingOf.{Reading, tree, fault, placed_by, judged, stop_line, answered, reading_with, reading_of}
use Rattle.reference_laws.proofs.Scanning.{Scans, scanned_is, scanned_only, whole_tokens, whole_front}
use Rattle.reference_laws.proofs.Uncut.{not_cut}
use Rattle.reference_laws.proofs.Sites.{one_site}

-- what the relations say of a reading
abbrev pub IsReading : Bytes → Reading → Type 0
IsReading source (tree t) = Reads source t
IsReading source (fault line) = HasFault source line

above : (m n : ℕ) → nat_lt m n ≡ true → m < n
above m n e = grind (arith, nat_tests)

at_most : (m n : ℕ) → nat_lt m n ≡ false → n ≤ m
at_most m n e = grind (arith, nat_tests)

is_above : (m n : ℕ) → m < n → nat_lt m n ≡ true
is_above m n h = grind (arith, nat_tests)

is_at_most : (m n : ℕ) → n ≤ m → nat_lt m n ≡ false
is_at_most m n h = grind (arith, nat_tests)

module _ (source : Bytes) where
  -- the reader's depth, and that of the walk
  abbrev Uncut : Toks → Type 0
  Uncut ts = read_open source ts ≡ deep → ⊥

  walk : Toks → Option ℕ → Option ℕ
  walk ts stop = stops_at (before_end source) (readers (before_end source) 199) (end_line source stop) ts fresh

  stop_line_is : (ts : Toks) (stop : Option ℕ) → stop_line source ts stop ≡ unwrap_or (walk ts stop) (text_end source)
  unfolding stop_line walk
  stop_line_is ts stop = refl

  walk_there : (ts : Toks) (stop : Option ℕ) (line : ℕ) → walk ts stop ≡ Some line → StopsAt (before_end source) (end_line source stop) fresh ts line
  unfolding walk
  walk_there ts stop line e = stops_there (before_end source) 199 (end_line source stop) ts fresh line e

  walk_found : (ts : Toks) (stop : Option ℕ) (line : ℕ) → StopsAt (before_end source) (end_line source stop) fresh ts line → (walk ts stop ≡ None) ⊎ (walk ts stop ≡ Some line)
  unfolding walk
  walk_found ts stop line h = stops_found (before_end source) 199 (end_line source stop) h

  walk_uncut : (ts : Toks) (stop : Option ℕ) → Uncut ts → walk ts stop ≡ None → ⊥
  unfolding walk
  walk_uncut ts stop h e = not_cut (before_end source) 199 (end_line source stop) ts fresh h e

  -- the line of the walk is that at which the grammar stops
  stops_by : (ts : Toks) (stop : Option ℕ) (o : Option ℕ) → walk ts stop ≡ o → Uncut ts → StopsAt (before_end source) (end_line source stop) fresh ts (unwrap_or o (text_end source))
  stops_by ts stop None e h = absurd (walk_uncut ts stop h e)
  stops_by ts stop (Some line) e h = walk_there ts stop line e

  stops : (ts : Toks) (stop : Option ℕ) → Uncut ts → StopsAt (before_end source) (end_line source stop) fresh ts (stop_line source ts stop)
  stops ts stop h = subst (λ (line : ℕ). StopsAt (before_end source) (end_line source stop) fresh ts line) (sym (stop_line_is ts stop)) (stops_by ts stop (walk ts stop) refl h)

  stops_only : (ts : Toks) (stop : Option ℕ) (line : ℕ) → Uncut ts → StopsAt (before_end source) (end_line source stop) fresh ts line → stop_line source ts stop ≡ line
  stops_only ts stop line h S = stop_line_is ts stop ∙ by (walk_found ts stop line S)
    where
      by : (walk ts stop ≡ None) ⊎ (walk ts stop ≡ Some line) → unwrap_or (walk ts stop) (text_end source) ≡ line
      by (inl e) = absurd (walk_uncut ts stop h e)
      by (inr e) = ap (λ (o : Option ℕ). unwrap_or o (text_end source)) e

  -- a tree of all tokens
  placed_is : (ts : Toks) (t : Tree) → AreTokens source ts → Derives (before_end source) ts t → depth t ≤ 200 → (m : Option Misplaced) → first_of (faults (at_home file) t) ≡ m → IsReading source (placed_by t m)
  placed_is ts t a D small None e = record { tokens = ts; are_tokens = a; derived = D; depth_fits = small; placed = none_first _ e }
  placed_is ts t a D small (Some m) e =
      let F : IsFirstFault (faults (at_home file) t) m = some_first _ m e in
      subst (λ (line : ℕ). HasFault source line) F.line (placement a D small F.first)

  judged_is : (ts : Toks) (t : Tree) → AreTokens source ts → Derives (before_end source) ts t → IsReading source (judged (text_end source) t)
  unfolding judged
  judged_is ts t a D = value_if (IsReading source) (nat_lt 200 (depth t)) _ _
      (λ e. has.deep a D (above 200 (depth t) e))
      (λ e. placed_is ts t a D (at_most 200 (depth t) e) (first_of (faults (at_home file) t)) refl)

  not_deep : {o : Answer Tree} (ts : Toks) → read_open source ts ≡ o → (o ≡ deep → ⊥) → Uncut ts
  not_deep ts e h d = h (sym e ∙ d)

  by_grammar : (ts : Toks) (stop : Option ℕ) → IsFront source ts stop → Uncut ts → (stop ≡ None → (t : Tree) → Derives (before_end source) ts t → ⊥) → HasFault source (stop_line source ts stop)
  by_grammar ts stop F h none = grammar F h none (stops ts stop h)

  answered_is : (ts : Toks) (stop : Option ℕ) (o : Answer Tree) → IsFront source ts stop → read_open source ts ≡ o → IsReading source (answered source ts stop o)
  answered_is ts stop deep F e = deep_open F e
  answered_is ts stop answer.fault F e = by_grammar ts stop F (not_deep ts e (λ d. cc)) (λ n. never (before_end source) ts 200 e)
  answered_is ts stop (taken t (token.more x r) z) F e = by_grammar ts stop F (not_deep ts e (λ d. cc)) (λ n. never_behind (before_end source) ts 200 t (token.more x r) z e (λ d. cc))
  answered_is ts (Some line) (taken t token.none z) F e = by_grammar ts (Some line) F (not_deep ts e (λ d. cc)) (λ n. absurd cc)
  answered_is ts None (taken t token.none z) F e = judged_is ts t (whole_tokens source ts F) (taken_is (before_end source) ts 200 t z e)

  scanned_reading : (x : Scanned) → Scans source x → IsReading source (reading_with source x)
  scanned_reading (scan.no_text line) h = no_text h.0 h.1
  scanned_reading (front ts stop) F = answered_is ts stop (read_open source ts) F refl

  -- What the text is read as is a reading of it.
  reading_is : IsReading source (reading_of source)
  unfolding reading_of
  reading_is = scanned_reading (scanned_of source) (scanned_is source)

  pub is_read : (x : Reading) → reading_of source ≡ x → IsReading source x
  is_read x e = subst (IsReading source) e reading_is

  -- And it is the only one.
  by_scan : (x : Scanned) → Scans source x → reading_of source ≡ reading_with source x
  unfolding reading_of
  by_scan x h = ap (reading_with source) (scanned_only source x h)

  pub by_answer : (ts : Toks) (stop : Option ℕ) (o : Answer Tree) → IsFront source ts stop → read_open source ts ≡ o → reading_of source ≡ answered source ts stop o
  by_answer ts stop o F e = by_scan (front ts stop) F ∙ ap (answered source ts stop) e

  -- all tokens, as a tree that nests at most 200 nodes
  by_tree : (ts : Toks) (t : Tree) → AreTokens source ts → Derives (before_end source) ts t → depth t ≤ 200 → reading_of source ≡ placed_by t (first_of (faults (at_home file) t))
  unfolding judged
  by_tree ts t a D small =
      by_answer ts None (taken t token.none D.behind) (whole_front source ts a) (read_at (before_end source) ts 200 t D small)
      ∙ ap (λ (b : Bool). if b then fault (text_end source) else placed_by t (first_of (faults (at_home file) t))) (is_at_most 200 (depth t) small)

  tree_only : (t : Tree) → Reads source t → reading_of source ≡ tree t
  tree_only t R = by_tree R.tokens t R.are_tokens R.derived R.depth_fits ∙ ap (λ (os : List SourcePosition). placed_by t (first_of os)) R.placed ∙ ap (placed_by t) first-empty

  grammar_only : (ts : Toks) (stop : Option ℕ) (line : ℕ) (o : Answer Tree) → read_open source ts ≡ o → IsFront source ts stop → Uncut ts → (stop ≡ None → (t : Tree) → Derives (before_end source) ts t → ⊥) → stop_line source ts stop ≡ line → answered source ts stop o ≡ fault line
  grammar_only ts stop line deep e F h none is = absurd (h e)
  grammar_only ts stop line answer.fault e F h none is = ap fault is
  grammar_only ts stop line (taken t (token.more x r) z) e F h none is = ap fault is
  grammar_only ts (Some n) line (taken t token.none z) e F h none is = ap fault is
  grammar_only ts None line (taken t token.none z) e F h none is = absurd (none refl t (taken_is (before_end source) ts 200 t z e))

  deep_only : (ts : Toks) (t : Tree) (o : Answer Tree) → read_open source ts ≡ o → Derives (before_end source) ts t → 200 < depth t → answered source ts None o ≡ fault (text_end source)
  unfolding judged
  deep_only ts t deep e D more = refl
  deep_only ts t answer.fault e D more = absurd (never (before_end source) ts 200 e t D)
  deep_only ts t (taken u (token.more x r) z) e D more = absurd (never_behind (before_end source) ts 200 u (token.more x r) z e (λ d. cc) t D)
  deep_only ts t (taken u token.none z) e D more =
      let same = at_most_one (before_end source) ts t u D (taken_is (before_end source) ts 200 u z e) in
      let large : 200 < depth u = subst (λ (x : Tree). 200 < depth x) same more in
      ap (λ (b : Bool). if b then fault (text_end source) else placed_by u (first_of (faults (at_home file) u))) (is_above 200 (depth u) large)

  placed_only : (ts : Toks) (t : Tree) (o : SourcePosition) → AreTokens source ts → Derives (before_end source) ts t → IsFirst (faults (at_home file) t) o → (m : Option Misplaced) → first_of (faults (at_home file) t) ≡ m → placed_by t m ≡ fault o.first
  placed_only ts t o a D F None e =
      let none : faults (at_home file) t ≡ [] = none_first _ e in
      let less : F.among.0 < 0 = subst (λ (os : List SourcePosition). F.among.0 < length os) none F.among.1 in
      absurd (omega arith)
  placed_only ts t o a D F (Some m) e =
      let G : IsFirstFault (faults (at_home file) t) m = some_first _ m e in
      let le : o.place ≤ G.position.place = F.first G.position G.first.among in
      let ge : G.position.place ≤ o.place = G.first.first o F.among in
      ap fault (sym G.line ∙ one_site source ts t a D G.position o G.first.among F.among (omega arith))

  fault_only : (line : ℕ) → HasFault source line → reading_of source ≡ fault line
  fault_only line (no_text h l) = by_scan (scan.no_text line) (h, l)
  fault_only line (deep_open {ts = ts} {stop = stop} F e) = by_answer ts stop deep F e
  fault_only line (grammar {ts = ts} {stop = stop} F h none S) =
      by_answer ts stop (read_open source ts) F refl ∙ grammar_only ts stop line (read_open source ts) refl F h none (stops_only ts stop line h S)
  fault_only line (has.deep {ts = ts} {t = t} a D more) = by_answer ts None (read_open source ts) (whole_front source ts a) refl ∙ deep_only ts t (read_open source ts) refl D more
  fault_only line (placement {ts = ts} {t = t} {o = o} a D small F) = by_tree ts t a D small ∙ placed_only ts t o a D F (first_of (faults (at_home file) t)) refl

  pub read_only : (x : Reading) → IsReading source x → reading_of source ≡ x
  read_only (tree t) R = tree_only t R
  read_only (fault line) h = fault_only line h
