use Rattle.load_path_cache.proofs.Sets.{set_more}
use Rattle.load_path_cache.proofs.text_set.TextSet.from_texts.Goals as goal

pub loop-text-preserved : goal.loop-text-preserved
loop-text-preserved c =
    set_more c.loop-text.members.keys c.insert.new.self.keys c.args.texts.now c.loop-text.text-index c.text-item.result c.in_ok-copy.field-0 c.loop-text-test.true c.text-item.is c.in_ok-copy.ensures
    c.in_ok-insert.ensures.updates.0 c.loop-text.invariant
