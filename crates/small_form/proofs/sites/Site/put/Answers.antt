use Rattle.std.proofs.Common.{sym, ◌∙◌}
use Rattle.ruby_tree.specs.Read.{tree_of}
use Rattle.small_form.proofs.Groups.{put_by_sum}
use Rattle.small_form.proofs.sites.Site.put.Goals as goal

pub returns-in-Some : goal.returns-in-Some
returns-in-Some c =
    let s = c.args.self.now in
    sym (put_by_sum s.line s.names.now (tree_of s.symbols.now c.args.node.now) c.in-Some.sum (sym c.in_ok-sum.ensures ∙ c.in-Some.is))
