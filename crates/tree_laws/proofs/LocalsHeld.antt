-- Each local that is read or set in a text's tree is held where it stands.
use Rattle.std.proofs.Common.{[], arith, None}
use Rattle.ruby_lexer.specs.Bytes.{Bytes}
use Rattle.ruby_lexer.specs.Tokens.{before_end}
use Rattle.ruby_tree.specs.Tree.{Tree}
use Rattle.ruby_tree.specs.Reading.{Reads}
use Rattle.ruby_meaning.specs.Locals.{locals_of}
use Rattle.ruby_meaning.specs.Sequences.{places}
use Rattle.ruby_meaning.specs.Loads.{file_body}
use Rattle.ruby_meaning.specs.Levels.{file_sight, IsHoused}
use Rattle.tree_laws.proofs.Apart.{none_beyond}
use Rattle.tree_laws.proofs.Known.{Absent}
use Rattle.tree_laws.proofs.Housing.{top, HousedTree, all_known, is_sound, locals_held}
use Rattle.tree_laws.proofs.HousedStatements.{houses}

module _ (source : Bytes) (t : Tree) (R : Reads source t) where
  far : Absent top (places t)
  far = record { holds = none_beyond source t R top (omega arith) }

  far_from_file : Absent top (places (file_body t))
  far_from_file = record { holds = omega (arith, far.holds) }

  pub housed : IsHoused None (file_sight t) t
  housed =
      let h : HousedTree [] t R.derived.behind.locals = (houses (before_end source) R.derived.depth).stmts R.derived.derived in
      let b = file_body t in
      let names = locals_of [] t in
      let sets = locals_held t [] [] (λ x e. absurd cc) in
      (h.is (file_sight t) (is_sound b [] names [] (tt, h.shape) far_from_file sets (λ x e. absurd cc)) (λ x e. absurd cc) (all_known b [] names [] (tt, h.shape) far_from_file sets (λ x e. absurd cc)).1).0
