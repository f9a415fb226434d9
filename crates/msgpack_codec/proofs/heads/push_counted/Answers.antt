use Rattle.std.proofs.Common.{◌≡◌, ◌∙◌, ◌-◌, ◌++◌, ◌∷◌, [], take, drop, ap, append_assoc}
use Rattle.std.specs.Int.{bytes_high_first}
use Rattle.msgpack_codec.proofs.Numbers.{all_digits}
use Rattle.msgpack_codec.proofs.heads.push_counted.Goals as goal

pub returns : goal.returns
returns c =
    let size = c.args.size in
    let n = c.args.number in
    let digits = ap (λ d. take (8 - (8 - c.args.size)) (drop (8 - c.args.size) d)) c.to_be_bytes-digits.ensures ∙ all_digits c.args.size c.args.number c.requires in
    let text : c.push.new.self.items ≡ c.args.out.now.items ++ c.args.first ∷ [] = c.in_ok-push.ensures.items in
    c.in_ok-extend_from_slice.ensures.items
    ∙ ap (λ d. c.push.new.self.items ++ d) digits
    ∙ ap (λ w. w ++ bytes_high_first c.args.size c.args.number) text
    ∙ append_assoc c.args.out.now.items (c.args.first ∷ []) (bytes_high_first c.args.size c.args.number)
