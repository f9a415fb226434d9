use Rattle.std.proofs.Common.{[], ◌∷◌, ◌++◌, map, sym, ◌∙◌, ap, append_assoc, arith}
use Rattle.token_lookahead.specs.LocalNames.{name_of, texts_in}
use Rattle.token_lookahead.proofs.LocalSteps.{one_less, names_less, numbers_of}
use Rattle.token_lookahead.proofs.locals.Locals.close.Goals as goal

pub loop-self-preserved : goal.loop-self-preserved
loop-self-preserved c =
    let texts = texts_in c.loop-self.self-inside in
    let h = c.loop-self.invariant in
    record {
      indexed = one_less texts _ c.loop-self.self-inside.declared.items c.pop.new.self.items c.in-Some.last h.indexed c.in-Some.ensures.items;
      gone = h.gone ++ name_of texts c.in-Some.last.number ∷ [];
      left = append_assoc h.gone (name_of texts c.in-Some.last.number ∷ []) (map (name_of texts) (numbers_of c.pop.new.self.items)) ∙ ap (λ names. h.gone ++ names) (sym (names_less texts c.loop-self.self-inside.declared.items c.pop.new.self.items c.in-Some.last c.in-Some.ensures.items)) ∙ h.left;
      reached = omega (arith, c.len.ensures, c.in-Some.ensures.len, c.loop-self.self-inside.declared.ok.0, c.pop.new.self.ok.0);
    }
