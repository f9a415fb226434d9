use Rattle.std.proofs.Common.{◌∙◌, arith}
use Rattle.load_path_cache.specs.Index.{value_at}
use Rattle.load_path_cache.proofs.Tables.{added_more}
use Rattle.load_path_cache.proofs.table.add_features.Goals as goal

pub loop-feature-preserved : goal.loop-feature-preserved
loop-feature-preserved c = record {
  room = omega (arith, c.in-Some.ensures.cases, c.insert.ensures.spare);
  given = λ f. added_more c.loop-feature.features.items c.pop.new.self.items c.in-Some.feature f c.args.place (value_at c.loop-feature.table.entries f) (value_at c.insert.new.self.entries f)
      c.in-Some.ensures.items (c.in-Ok.ensures.updates.0 f) ∙ c.loop-feature.invariant.given f;
}
