use Rattle.std.proofs.Common.{◌∙◌, ap, sym, Some}
use Rattle.std.specs.Option.{option_copied}
use Rattle.std.specs.FinMap.{entries}
use Rattle.bs_outside.specs.SourceTree.{names_below, stem_of}
use Rattle.mem_outside.proofs.Listing.{list_is}
use Rattle.mem_outside.proofs.files.Files.list.Goals as goal

pub returns-in_ok-names_in-in-Some-Dir-clause-answer : goal.returns-in_ok-names_in-in-Some-Dir-clause-answer
returns-in_ok-names_in-in-Some-Dir-clause-answer c =
    list_is c.args.self.now c.args.path.now c.in-Some-Dir.field-0-0 _
    (sym c.at.ensures.found ∙ ap option_copied c.in-Some-Dir.is ∙ ap Some c.in-Some-Dir.field-0-is)
    (c.in_ok-names_in-in-Some-Dir.ensures.answer ∙ ap (λ stem. names_below stem c.index.result.now.entries) (c.deref.ensures.value ∙ c.in_ok-stem-in-Some-Dir.ensures ∙ ap stem_of c.as_slice.ensures)
    ∙ ap (names_below (stem_of c.args.path.now)) (c.index.ensures ∙ ap entries c.self.view_is))
