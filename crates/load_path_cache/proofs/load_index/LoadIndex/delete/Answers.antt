use Rattle.std.proofs.Common.{◌∙◌, not, filter, ap, sym}
use Rattle.bs_outside.specs.Paths.{same_bytes}
use Rattle.load_path_cache.proofs.Places.{gone_step, all_gone}
use Rattle.load_path_cache.proofs.load_index.LoadIndex.delete.Goals as goal

pub loop-gone-preserved : goal.loop-gone-preserved
loop-gone-preserved c =
    ap (filter (λ r. not (same_bytes r.path c.args.root.now))) c.take_out.ensures
    ∙ gone_step c.args.root.now c.loop-gone.self c.args.self.now c.in-Some.gone (sym c.in-Some.ensures) c.loop-gone.invariant

pub returns : goal.returns
returns c = all_gone c.args.root.now c.loop-gone.self c.args.self.now (sym c.place_of_root.ensures ∙ c.in_default.is) c.loop-gone.invariant
