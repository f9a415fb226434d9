-- How the parts of a text are read, one by one.
use Rattle.std.proofs.Common.{◌≡◌, refl, sym, ap, ◌∙◌, subst, if◌then◌else◌, Ok, Err, ◌≤◌, ◌<◌, ◌-◌, List, [], ◌∷◌, length, get_or, take, drop, arith, rules}
use Rattle.std.proofs.lemmas.Grind.{common_steps}
use Rattle.ruby_lexer.specs.declared.token.Part.{Part, Plain, Code, the_lemmas}
use Rattle.ruby_lexer.specs.declared.token.Token.{Token}
use Rattle.ruby_lexer.specs.Bytes.{Bytes}
use Rattle.ruby_lexer.specs.Pieces.{Toks, Parts, ends, seen_part, seen_parts, seen_all}
use Rattle.ruby_lexer.specs.Pieces as token
use Rattle.ruby_tree.specs.Tree.{Tree, Pieces, no_piece, plain_piece, code_piece}
use Rattle.ruby_tree.specs.Rules.{Scope, own}
use Rattle.tree_builder.specs.declared.lists.PieceSubtrees.{PieceSubtrees}
use Rattle.tree_builder.specs.declared.Subtree.{Subtree}
use Rattle.tree_builder.specs.Subtrees.{Holds, HoldsPieces, pieces_then}
use Rattle.reference_parser.specs.Answers.{Answer, taken, fault, Parse, ◌>>=◌}
use Rattle.reference_parser.specs.Fronts.{is_empty}
use Rattle.reference_parser.specs.ReadItems.{Readers}
use Rattle.reference_parser.specs.ReadBodies.{text_parts}
use Rattle.parse_state.specs.declared.failures.Failure.{Failure}
use Rattle.parse_state.specs.declared.standing.Parser.{Parser}
use Rattle.parse_state.specs.Standing.{At, Later}
use Rattle.parse_state.specs.Gives.{Gives, gave, no_syntax, too_deep, no_memory}
use Rattle.parse_state.proofs.Steps.{later_same, later_then}
use Rattle.parse_parts.specs.Parts.{code_in, text_from}
use Rattle.parse_parts.proofs.PassingSteps.{drawn, drawn_if, drawn_fault}

pub pieces_join : (ps qs rs : Pieces) → pieces_then (pieces_then ps qs) rs ≡ pieces_then ps (pieces_then qs rs)
pieces_join no_piece qs rs = refl
pieces_join (plain_piece f ps) qs rs = ap (λ (u : Pieces). plain_piece f u) (pieces_join ps qs rs)
pieces_join (code_piece t ps) qs rs = ap (λ (u : Pieces). code_piece t u) (pieces_join ps qs rs)

pub pieces_end : (ps : Pieces) → pieces_then ps no_piece ≡ ps
pieces_end no_piece = refl
pieces_end (plain_piece f ps) = ap (λ (u : Pieces). plain_piece f u) (pieces_end ps)
pieces_end (code_piece t ps) = ap (λ (u : Pieces). code_piece t u) (pieces_end ps)

module _ (source : Bytes) (Q : Readers) where
  -- what the parts that are left make, behind what was gathered
  abbrev pub text_rest : Pieces → Parts → Parse Pieces
  text_rest g ps w z = text_parts source Q ps z >>= λ qs r y. taken (pieces_then g qs) w y

  -- the parser was p and is q now; x was gathered
  pub data Piecing (p q : Parser) (x : PieceSubtrees) (left : Parts) : Answer Pieces → Type 0 where
    piecing : {g : Pieces} {w : Toks} {z : Scope} → At q w z → Later p q → HoldsPieces q.symbols x g → Piecing p q x left (text_rest g left w z)

  pub begun : {p : Parser} {x : PieceSubtrees} {ps : Parts} {w : Toks} {s : Scope} → At p w s → HoldsPieces p.symbols x no_piece → Piecing p p x ps (text_from source Q ps w s)
  begun {p} a h = piecing {g = no_piece} a (later_same p) h

  plain_turn : (g : Pieces) (f : Bytes) (ps : Parts) (w : Toks) (z : Scope) → text_rest g (token.plain f ps) w z ≡ text_rest (pieces_then g (plain_piece f no_piece)) ps w z
  unfolding text_parts ◌>>=◌
  plain_turn g f ps w z = drawn (text_parts source Q ps z) _ _ _ (λ qs r y. ap (λ (u : Pieces). taken u w y) (sym (pieces_join g (plain_piece f no_piece) qs)))

  abbrev code_next : Pieces → Parts → Toks → Tree → Parse Pieces
  code_next g ps w t r y = if is_empty r then text_rest (pieces_then g (code_piece t no_piece)) ps w y else fault

  code_turn : (g : Pieces) (ts : Toks) (ps : Parts) (w : Toks) (z : Scope) → text_rest g (token.code ts ps) w z ≡ (code_in source Q ts w z >>= λ t v y. text_rest (pieces_then g (code_piece t no_piece)) ps v y)
  unfolding text_parts ◌>>=◌
  code_turn g ts ps w z =
      drawn (Q.stmts own ts z) _ _ (code_next g ps w) (λ t r y. drawn_if (is_empty r) _ _ _ (drawn (text_parts source Q ps y) _ _ _ (λ qs n l. ap (λ (u : Pieces). taken u w l) (sym (pieces_join g (code_piece t no_piece) qs)))) (drawn_fault {A = Pieces} (λ qs n l. taken (pieces_then g qs) w l)))
      ∙ sym (drawn (Q.stmts own ts z) _ _ (code_next g ps w) (λ t r y. drawn_if (is_empty r) _ _ _ refl (drawn_fault {A = Tree} (λ t v l. text_rest (pieces_then g (code_piece t no_piece)) ps v l))))

  pub ended : {p q : Parser} {x : PieceSubtrees} {a : Answer Pieces} → Piecing p q x ends a → Gives HoldsPieces p q (Ok x) a
  unfolding text_parts ◌>>=◌
  ended {p} {q} {x} (piecing {g = g} {w = w} {z = z} b l h) = gave b l (subst (λ (u : Pieces). HoldsPieces q.symbols x u) (sym (pieces_end g)) h)

  pub plain_more : {p q : Parser} {x y : PieceSubtrees} {f : Bytes} {ps : Parts} {a : Answer Pieces} → ((g : Pieces) → HoldsPieces q.symbols x g → HoldsPieces q.symbols y (pieces_then g (plain_piece f no_piece))) → Piecing p q x (token.plain f ps) a → Piecing p q y ps a
  plain_more {p} {q} {x} {y} {f} {ps} more (piecing {g = g} {w = w} {z = z} b l h) = subst (λ (u : Answer Pieces). Piecing p q y ps u) (sym (plain_turn g f ps w z)) (piecing b l (more g h))

  code_at : {p q v : Parser} {y : PieceSubtrees} {ps : Parts} {x : Subtree} (g : Pieces) {a : Answer Tree} → Later p q → ((t : Tree) → Holds v.symbols x t → Later q v → HoldsPieces v.symbols y (pieces_then g (code_piece t no_piece))) → Gives Holds q v (Ok x) a → Piecing p v y ps (a >>= λ t n z. text_rest (pieces_then g (code_piece t no_piece)) ps n z)
  unfolding ◌>>=◌
  code_at g l more (gave {t = t} b m h) = piecing b (later_then l m) (more t h m)

  pub code_more : {p q v : Parser} {x y : PieceSubtrees} {ts : Toks} {ps : Parts} {part : Subtree} {a : Answer Pieces} → ((g : Pieces) (t : Tree) → HoldsPieces q.symbols x g → Holds v.symbols part t → Later q v → HoldsPieces v.symbols y (pieces_then g (code_piece t no_piece))) → ((w : Toks) (s : Scope) → At q w s → Gives Holds q v (Ok part) (code_in source Q ts w s)) → Piecing p q x (token.code ts ps) a → Piecing p v y ps a
  code_more {p} {q} {v} {x} {y} {ts} {ps} more reads (piecing {g = g} {w = w} {z = z} b l h) = subst (λ (u : Answer Pieces). Piecing p v y ps u) (sym (code_turn g ts ps w z)) (code_at g l (λ t i m. more g t h i m) (reads w z b))

  code_stop : {p q v : Parser} {e : Failure} (g : Pieces) (ps : Parts) {a : Answer Tree} → Gives Holds q v (Err e) a → Gives HoldsPieces p v (Err e) (a >>= λ t n z. text_rest (pieces_then g (code_piece t no_piece)) ps n z)
  unfolding ◌>>=◌
  code_stop g ps no_syntax = no_syntax
  code_stop g ps too_deep = too_deep
  code_stop g ps no_memory = no_memory

  pub code_failed : {p q v : Parser} {x : PieceSubtrees} {ts : Toks} {ps : Parts} {e : Failure} {a : Answer Pieces} → ((w : Toks) (s : Scope) → At q w s → Gives Holds q v (Err e) (code_in source Q ts w s)) → Piecing p q x (token.code ts ps) a → Gives HoldsPieces p v (Err e) a
  code_failed {p} {q} {v} {x} {ts} {ps} {e} reads (piecing {g = g} {w = w} {z = z} b l h) = subst (λ (u : Answer Pieces). Gives HoldsPieces p v (Err e) u) (sym (code_turn g ts ps w z)) (code_stop g ps (reads w z b))

  -- the parts that are left, by another name
  pub left_is : {p q : Parser} {x : PieceSubtrees} {ps qs : Parts} {a : Answer Pieces} → ps ≡ qs → Piecing p q x ps a → Piecing p q x qs a
  left_is {p} {q} {x} {ps} {qs} {a} is h = subst (λ (rs : Parts). Piecing p q x rs a) is h

-- the first part, and those behind it
first_and : {A : Type 0} (xs : List A) (p : A) → 1 ≤ length xs → p ≡ get_or xs 0 p → xs ≡ p ∷ take (length xs - 1) (drop 1 xs)
first_and [] p some is = absurd (omega arith)
first_and (x ∷ xs) p some is = let same : p ≡ x = is in let all : take (length xs) xs ≡ xs = grind (arith, common_steps) in grind (arith, common_steps)

pub parts_and : (xs : List Part) (p : Part) → 1 ≤ length xs → p ≡ get_or xs 0 p → seen_parts xs ≡ seen_part p (seen_parts (take (length xs - 1) (drop 1 xs)))
parts_and xs p some is = ap seen_parts (first_and xs p some is)

-- what a part is seen as
pub plain_seen : (f : Bytes) (ps : Parts) → seen_part (Plain f) ps ≡ token.plain f ps
plain_seen f ps = search (rules, the_lemmas)

pub code_seen : (ts : List Token) (ps : Parts) → seen_part (Code ts) ps ≡ token.code (seen_all ts) ps
code_seen ts ps = search (rules, the_lemmas)

pub none_left : (xs : List Part) → length xs < 1 → seen_parts xs ≡ ends
none_left [] less = refl
none_left (x ∷ xs) less = absurd (omega arith)
