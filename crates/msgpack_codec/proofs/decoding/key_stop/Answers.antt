use Rattle.msgpack_codec.proofs.Keys.{short_key, bad_key}
use Rattle.msgpack_codec.proofs.decoding.key_stop.Goals as goal

pub returns-then-live-bytes : goal.returns-then-live-bytes
returns-then-live-bytes c =
    short_key c.args.used.now c.args.bytes.now c.args.left c.in-Ok.live c.requires.stops c.in-Ok.ensures.within c.in-Ok.ensures.live c.if-live-bytes.true

pub returns-else-live-bytes : goal.returns-else-live-bytes
returns-else-live-bytes c =
    bad_key c.args.used.now c.args.bytes.now c.args.left c.in-Ok.live c.requires.stops c.in-Ok.ensures.within c.in-Ok.ensures.live c.if-live-bytes.false c.in-Ok.ensures.no_longer
