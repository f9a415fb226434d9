use Rattle.std.proofs.Common.{◌∙◌}
use Rattle.std.specs.Map.Iter.{deref_pair}
use Rattle.std.proofs.lemmas.Map.Iter.{rest_more}
use Rattle.mem_outside.proofs.Listing.{names_step}
use Rattle.mem_outside.proofs.files.names_in.Goals as goal

pub loop-path-preserved : goal.loop-path-preserved
loop-path-preserved c =
    let turn = rest_more deref_pair _ _ _ _ c.in-Some.is c.next.ensures.steps in
    record {
      answer = names_step c.args.stem.now c.in-Some.path.now c.in-Some.item.now c.loop-path.names c.put_below.new.names c.loop-path.path-iterator c.next.new.self turn c.in_ok-put_below.ensures.put ∙ c.loop-path.invariant.answer;
      names = c.in_ok-put_below.ensures.segments c.loop-path.invariant.names;
    }
