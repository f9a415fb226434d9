use Rattle.std.proofs.Common.{◌≡◌, ◌∙◌, ◌≤◌, ◌+◌, ◌-◌, drop, ap, sym, arith}
use Rattle.std.proofs.lemmas.List.{drop-drop}
use Rattle.msgpack_codec.proofs.reader.Reader.value.Goals as goal

pub returns-clause-left : goal.returns-clause-left
returns-clause-left g c =
    let old = c.self.inside.place in
    let new = c.take_rest.new.place in
    let le : c.self.inside.place ≤ c.take_rest.new.place = c.take_rest.ensures.forward in
    let sum : c.self.inside.place + (c.take_rest.new.place - c.self.inside.place) ≡ c.take_rest.new.place = omega arith in (
      c.take_rest.new.place - c.self.inside.place,
      ap (λ n. drop n c.self.inside.image) (sym sum)
          ∙ sym (drop-drop (c.take_rest.new.place - c.self.inside.place) c.self.inside.place c.self.inside.image)
          ∙ ap (drop (c.take_rest.new.place - c.self.inside.place)) c.self.view_is,
    )
