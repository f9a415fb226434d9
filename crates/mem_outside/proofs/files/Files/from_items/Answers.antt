use Rattle.std.proofs.Common.{◌≡◌, ◌∙◌, sym, [], rules}
use Rattle.mem_outside.proofs.Closing.{taken_stop, taken_more, taken_tree, no_length}
use Rattle.mem_outside.proofs.files.Files.from_items.Goals as goal

pub returns-then-not-branch-clause-made : goal.returns-then-not-branch-clause-made
returns-then-not-branch-clause-made c =
    taken_stop _ c.pop.new.self.items _ c.loop-path.files c.in-Some.path c.in-Some.item c.loop-path.invariant c.in-Some.ensures.items (sym c.in_ok-add.ensures.fresh ∙ c.if-not-branch.true)

pub loop-path-preserved : goal.loop-path-preserved
loop-path-preserved c =
    taken_more _ c.pop.new.self.items _ c.loop-path.files _ c.in-Some.path c.in-Some.item c.loop-path.invariant c.in-Some.ensures.items (sym c.in_ok-add.ensures.fresh ∙ c.if-not-branch.false)
    (rw c.if-not-branch.false at c.in_ok-add.ensures.added)

pub returns-then-branch-clause-tree : goal.returns-then-branch-clause-tree
returns-then-branch-clause-tree c =
    let none : c.loop-path.rest.items ≡ [] = no_length c.loop-path.rest.items (search rules) in
    taken_tree c.args.items.items c.loop-path.files (rw none at c.loop-path.invariant) (sym c.in_ok-is_closed.ensures ∙ c.if-branch.true)
