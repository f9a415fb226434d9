use Rattle.std.proofs.Common.{sym, ap, ◌∙◌, subst, ◌++◌, []}
use Rattle.ruby_tree.specs.Tree.{Trees, trees_then}
use Rattle.ruby_tree.specs.Build.{Given, one}
use Rattle.parse_parts.specs.Items.{given_then, HoldsGiven}
use Rattle.parse_parts.proofs.Gathering.{trees_end, given_of}
use Rattle.parse_parts.proofs.given.ArgumentParts.finish.Goals as goal

pub returns : goal.returns
returns c = λ T g h i k.
    let all = c.pass.ensures T (given_of (trees_then g.trees (one k.tree)) g.spread g.value g.block) k.passing (record { trees = c.in_ok-push.ensures T g.trees k.tree i.trees k.hash; spread = i.spread; value = i.value; block = i.block }) k.passed in
    subst (λ (x : Given). HoldsGiven T c.pass.new.self x) (ap (λ (ts : Trees). given_of ts (g.spread ++ []) k.passing.value k.passing.block) (trees_end (trees_then g.trees (one k.tree))) ∙ ap (λ (x : Given). given_then g x) (sym k.is)) all
