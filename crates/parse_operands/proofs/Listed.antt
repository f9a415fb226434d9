-- Names that are made one behind the other.
use Rattle.std.proofs.Common.{◌≡◌, refl, sym, subst, List, [], ◌∷◌, ◌++◌, Ok}
use Rattle.ruby_lexer.specs.Bytes.{Bytes}
use Rattle.ruby_lexer.specs.Pieces.{Toks}
use Rattle.ruby_tree.specs.declared.names.Name.{Name}
use Rattle.ruby_tree.specs.Rules.{Scope}
use Rattle.tree_builder.specs.Subtrees.{IsNamed, AreNamed}
use Rattle.tree_builder.proofs.GoesOn.{names_later}
use Rattle.tree_builder.proofs.Built.{names_pushed}
use Rattle.reference_parser.specs.Answers.{taken}
use Rattle.parse_state.specs.declared.standing.Parser.{Parser}
use Rattle.parse_state.specs.Standing.{At, Later}
use Rattle.parse_state.specs.Gives.{Gives, gave}
use Rattle.parse_state.proofs.Steps.{here, later_same, later_then}

-- p stood where q stands now, and the names are those of the texts
pub record Listed (p q : Parser) (ns : List Name) (fs : List Bytes) : Type 0 where
  pub stands : (w : Toks) (s : Scope) → At p w s → At q w s
  pub later : Later p q
  pub named : AreNamed q.symbols ns fs

one_more : {p q v : Parser} {ns : List Name} {fs : List Bytes} {n : Name} {f : Bytes} → Listed p q ns fs → ((w : Toks) (s : Scope) → At q w s → At v w s) → Later q v → IsNamed v.symbols n f → Listed p v (ns ++ n ∷ []) (fs ++ f ∷ [])
one_more {v = v} {ns = ns} {fs = fs} {n = n} {f = f} g stands l h = record { stands = λ w s a. stands w s (g.stands w s a); later = later_then g.later l; named = names_pushed v.symbols ns n fs f (names_later _ _ l.names _ _ g.named) h }

stands_then : {q v : Parser} {n : Name} {f : Bytes} {w : Toks} {s : Scope} → Gives IsNamed q v (Ok n) (taken f w s) → At v w s
stands_then (gave b l h) = b

later_then_of : {q v : Parser} {n : Name} {f : Bytes} {w : Toks} {s : Scope} → Gives IsNamed q v (Ok n) (taken f w s) → Later q v
later_then_of (gave b l h) = l

named_then : {q v : Parser} {n : Name} {f : Bytes} {w : Toks} {s : Scope} → Gives IsNamed q v (Ok n) (taken f w s) → IsNamed v.symbols n f
named_then (gave b l h) = h

pub listed_more : {p q v : Parser} {ns : List Name} {fs : List Bytes} {n : Name} {f : Bytes} → Listed p q ns fs → ((w : Toks) (s : Scope) → At q w s → Gives IsNamed q v (Ok n) (taken f w s)) → Listed p v (ns ++ n ∷ []) (fs ++ f ∷ [])
listed_more {q = q} g k = one_more g (λ w s a. stands_then (k w s a)) (later_then_of (k _ _ (here q))) (named_then (k _ _ (here q)))

-- the same of lists by other names
pub listed_turn : {p q v : Parser} {ns ms : List Name} {fs gs : List Bytes} {n : Name} {f : Bytes} → Listed p q ns fs → ((w : Toks) (s : Scope) → At q w s → Gives IsNamed q v (Ok n) (taken f w s)) → ms ≡ ns ++ n ∷ [] → gs ≡ fs ++ f ∷ [] → Listed p v ms gs
listed_turn {p} {q} {v} {ns} {ms} {fs} {gs} {n} {f} g k names texts =
    subst (λ (ls : List Name). Listed p v ls gs) (sym names) (subst (λ (ls : List Bytes). Listed p v (ns ++ n ∷ []) ls) (sym texts) (listed_more g k))

pub none_listed : (p : Parser) → Listed p p [] []
none_listed p = record { stands = λ w s a. a; later = later_same p; named = record { within = λ U on. refl; texts = λ U on. refl } }
