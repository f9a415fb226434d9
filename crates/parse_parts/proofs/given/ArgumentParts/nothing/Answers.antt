use Rattle.parse_parts.proofs.given.ArgumentParts.nothing.Goals as goal

pub returns : goal.returns
returns c = λ T. record { trees = c.new.ensures T; spread = c.new-2.ensures.items; value = c.none.ensures T; block = c.none-2.ensures T }
