use Rattle.std.proofs.Common.{[], ◌∷◌, arith}
use Rattle.std.specs.Prelude.{codes}
use Rattle.ruby_lexer.proofs.Places.{newlines_split, all_left, none_left}
use Rattle.ruby_lexer.proofs.cursor.Cursor.bump.Goals as goal

pub invariant_of-self : goal.invariant_of-self
invariant_of-self c =
    let w = c.args.self.now.rest.now in
    record {
      lined = rw (all_left c.args.count w) (omega (arith, newlines_split c.args.count w, c.newlines.ensures.count, c.args.self.now.lined));
      no_list = λ h. rw (all_left c.args.count w) (none_left (93 ∷ []) c.args.count w (c.args.self.now.no_list h));
      no_comment = λ h. rw (all_left c.args.count w) (none_left (10 ∷ codes "=end") c.args.count w (c.args.self.now.no_comment h));
    }
