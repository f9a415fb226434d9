use Rattle.std.proofs.Common.{◌≡◌, true}
use Rattle.ruby_lexer.specs.Texts.{opens_list}
use Rattle.ruby_lexer.proofs.Places.{list_is, all_left}
use Rattle.ruby_lexer.proofs.cursor.Cursor.list.Goals as goal

pub returns-clause-value : goal.returns-clause-value
returns-clause-value c =
    let w = c.args.self.now.rest.now in
    let n = c.in-Some.place in
    let h : opens_list w ≡ true = cc in
    rw (c.list_kind.ensures, c.bump-2.ensures.rest, c.bump.ensures.rest, c.list_end.ensures.rest, c.in_ok-words.ensures, c.saturating_sub-count.ensures, all_left 2 w, all_left n w) (list_is w n h c.in-Some.ensures.found)
