use Rattle.std.proofs.Common.{Some, slice_get, subst, ap, sym, ◌∙◌}
use Rattle.std.specs.Option.{option_copied}
use Rattle.std.specs.List.{IsDistinct}
use Rattle.ruby_tree.proofs.Numbers.{same, only_number}
use Rattle.ruby_tree.proofs.names.SymbolTable.name.Goals as goal

pub returns-clause-text : goal.returns-clause-text
returns-clause-text c =
    ap (λ texts. slice_get texts c.args.name.number) (sym c.self.view_is) ∙ sym c.get_index.ensures.key ∙ ap option_copied c.in-Some.is ∙ ap (λ text. Some text) (sym c.as_slice.ensures)

pub returns-clause-alone : goal.returns-clause-alone
returns-clause-alone c =
    only_number _ _ _ (subst (IsDistinct same) c.self.view_is c.self.invariant) (returns-clause-text c)
