use Rattle.parse_parts.proofs.given.PassingParts.none.Goals as goal

pub returns : goal.returns
returns c = λ T. record { value = c.none.ensures T; block = c.none-2.ensures T }
