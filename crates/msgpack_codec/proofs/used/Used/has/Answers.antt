use Rattle.std.proofs.Common.{◌∙◌, ap}
use Rattle.msgpack_codec.specs.Values.{is_in}
use Rattle.msgpack_codec.proofs.Sets.{list_any-is_in}
use Rattle.msgpack_codec.proofs.used.Used.has.Goals as goal

pub returns : goal.returns
returns c =
    c.contains.ensures ∙ list_any-is_in (λ k. k.now) c.args.spelling.now c.self.inside.spellings.keys ∙ ap (λ v. is_in v c.args.spelling.now) c.self.view_is
