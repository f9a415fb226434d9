use Rattle.std.proofs.Common.{◌≡◌, ◌∙◌, ◌++◌, length, take, drop, ap, subst, sym}
use Rattle.std.proofs.lemmas.List.{take-append-drop}
use Rattle.msgpack_codec.specs.Message.{IsBytes}
use Rattle.msgpack_codec.specs.Reading.{Found}
use Rattle.msgpack_codec.specs.Values.{AreBytes}
use Rattle.msgpack_codec.proofs.Texts.{short_text, whole_text, bytes_from, bytes_front}
use Rattle.msgpack_codec.proofs.decoding.read_text.Goals as goal

pub returns-then-bytes-length : goal.returns-then-bytes-length
returns-then-bytes-length c = short_text c.args.length c.args.bytes.now c.if-bytes-length.true (bytes_from c.args.bytes.now c.type_inv.bytes)

pub returns : goal.returns
returns c =
    let w = c.args.bytes.now in
    let n = c.args.length in
    let parts : w ≡ take n w ++ drop n w = sym (take-append-drop n w) in
    let small : IsBytes (take n w) = bytes_front (take n w) (drop n w) (subst IsBytes parts (bytes_from w c.type_inv.bytes)) in
    let count : length (take n w) ≡ n = ap length (sym c.split_at.ensures.front) ∙ c.split_at.ensures.front_len in
    let text = c.in_ok-new.ensures ∙ c.split_at.ensures.front in
    subst (λ t. Found (AreBytes n) t w c.split_at.result.1.now) (sym text)
    (subst (λ r. Found (AreBytes n) (take n w) w r) (sym c.split_at.ensures.back) (whole_text n w (take n w) (drop n w) parts count small))
