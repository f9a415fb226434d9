use Rattle.std.proofs.Common.{arith}
use Rattle.load_path_cache.specs.Index.{value_at}
use Rattle.load_path_cache.proofs.Tables.{set_step}
use Rattle.load_path_cache.proofs.table.set_places.Goals as goal

pub loop-feature-preserved : goal.loop-feature-preserved
loop-feature-preserved c = record {
  given = λ f. set_step c.args.features.now c.loop-feature.feature-index c.feature-item.result f c.args.place (value_at c.args.table.now.entries f) c.loop-feature.table.entries c.set_place.new.table.entries
      c.loop-feature-test.true c.feature-item.is (c.loop-feature.invariant.given f) (c.set_place.ensures.set f);
  room = omega (arith, c.set_place.ensures.room, c.loop-feature.invariant.room);
}
