use Rattle.std.proofs.Common.{◌∙◌, ap, sym}
use Rattle.std.specs.FinSet as set
use Rattle.load_path_cache.proofs.Sets.{contains_key}
use Rattle.load_path_cache.proofs.text_set.TextSet.contains.Goals as goal

pub returns : goal.returns
returns c = c.contains.ensures ∙ sym (contains_key c.self.inside.texts.keys c.args.text.now) ∙ ap (λ s. set.contains s c.args.text.now) c.self.view_is
