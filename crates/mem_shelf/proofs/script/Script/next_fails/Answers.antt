use Rattle.std.proofs.Common.{◌==◌, ◌∙◌, sym, ap}
use Rattle.std.specs.List.{list_any}
use Rattle.mem_shelf.proofs.Counting.{after_call_kept, after_call_rose}
use Rattle.mem_shelf.proofs.script.Script.next_fails.Goals as goal

pub returns-in-Some-clause-kept : goal.returns-in-Some-clause-kept
returns-in-Some-clause-kept c = rw (← c.self.view_is) (after_call_kept c.self.inside.fail.items c.self.inside.calls _ c.in-Some.ensures.1)

pub returns-in-Some-clause-rose : goal.returns-in-Some-clause-rose
returns-in-Some-clause-rose c =
    λ h. rw (← c.self.view_is) (after_call_rose c.self.inside.fail.items c.self.inside.calls _ c.in-Some.ensures.1
    (ap (list_any (λ k. k == c.in-Some.number)) (sym c.deref.ensures.value) ∙ sym c.contains.ensures.value ∙ h))
