use Rattle.std.proofs.Common.{◌∙◌, sym}
use Rattle.msgpack_codec.proofs.Keys.{used_key}
use Rattle.msgpack_codec.proofs.decoding.key.Goals as goal

pub key_stop-requires-clause-stops : goal.key_stop-requires-clause-stops
key_stop-requires-clause-stops c = used_key c.args.used.now c.in-Ok.key c.args.bytes.now c.in-Ok.rest.now c.in-Ok.ensures (sym c.has.ensures ∙ c.if-has.true)
